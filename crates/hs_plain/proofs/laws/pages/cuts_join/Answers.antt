use Rattle.hs_plain.proofs.Cuts.{cut-by_name, cut-by_index, cut-by_offset}
use Rattle.hs_plain.proofs.laws.pages.cuts_join.Goals as goal

pub returns : goal.returns
returns c = record { items = cut-by_name; lines = cut-by_index; bytes = cut-by_offset }
