use Rattle.percent_encoding.specs.AsciiSet.{should_percent_encode}
use Rattle.percent_encoding.specs.Percent.{percent_encode}
use Rattle.run_output.proofs.text.node_name.Goals as goal

-- a slash is not in the set
pub returns-in-None : goal.returns-in-None
unfolding percent_encode should_percent_encode
returns-in-None c = rw (c.in-None.is, c.escaped-in-None.ensures)
