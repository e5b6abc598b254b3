use Rattle.hs_plain.proofs.JoinedFiles.{files-join}
use Rattle.hs_plain.proofs.laws.pages.files_join.Goals as goal

pub returns : goal.returns
returns c = files-join
