use Rattle.table_laws.proofs.RecordCalls.{call-filled}
use Rattle.table_laws.proofs.record_laws.call_filled.Goals as goal

pub returns : goal.returns
returns c state issued used before cs ids t may named le filled = call-filled state issued before cs t may used ids named le filled
