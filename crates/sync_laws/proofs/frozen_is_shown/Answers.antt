use Rattle.sync_laws.proofs.Shown.{dirs-listed, files-read}
use Rattle.sync_laws.proofs.frozen_is_shown.Goals as goal

pub returns : goal.returns
returns c = record { items = dirs-listed; bytes = files-read }
