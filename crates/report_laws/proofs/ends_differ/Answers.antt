use Rattle.report_laws.proofs.Ends.{plain-near, whole-near}
use Rattle.report_laws.proofs.ends_differ.Goals as goal

pub returns : goal.returns
returns c = record { plain = plain-near; whole = whole-near }
