use Rattle.sync_laws.proofs.Shown.{reports-between, reports-to_now, first-to_now, first-between}
use Rattle.sync_laws.proofs.reports_are_shown.Goals as goal

pub returns : goal.returns
returns c = record { between = reports-between; to_now = reports-to_now; first_to_now = first-to_now; first_between = first-between }
