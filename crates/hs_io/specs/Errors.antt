-- What errors print.
use Rattle.std.specs.Prelude.{ℕ, List, codes}
use Rattle.hs_io.specs.declared.input.InputErr.{InputErr}
use Rattle.hs_io.specs.declared.input.InputErr.TheVariants.{TooLarge, Failed, NoMemory}
use Rattle.hs_io.specs.declared.output.SinkErr.{SinkErr}
use Rattle.hs_io.specs.declared.output.SinkErr.TheVariants.{Failed as write_failed, NoMemory as no_room}

abbrev pub input_err_text : InputErr → List ℕ
input_err_text TooLarge = codes "input too large"
input_err_text Failed = codes "read failed"
input_err_text NoMemory = codes "no memory"

abbrev pub sink_err_text : SinkErr → List ℕ
sink_err_text write_failed = codes "write failed"
sink_err_text no_room = codes "no memory"
