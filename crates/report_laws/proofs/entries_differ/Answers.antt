use Rattle.hs_plain.specs.Files.{plain_files}
use Rattle.report_laws.proofs.Ends.{entries-near}
use Rattle.report_laws.proofs.entries_differ.Goals as goal

pub returns : goal.returns
returns c = entries-near plain_files
