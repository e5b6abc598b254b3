use Rattle.hs_plain.proofs.Ticks.{tick_counts, tick_rises}
use Rattle.hs_plain.proofs.laws.ticks.tick_counts_entries.Goals as goal

pub returns : goal.returns
returns c = record { from_the_start = tick_counts; from_a_state = tick_rises }
