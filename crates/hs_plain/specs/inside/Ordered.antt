-- The lines of a report between two trees of one root stand in their order.
use Rattle.std.specs.Prelude.{◌≡◌, ℕ, true, List, []}
use Rattle.std.specs.FinMap.Entries.{is_sorted}
use Rattle.hs_plain.specs.Tree.{Tree, path_cmp}
use Rattle.hs_plain.specs.Report.{id_above, same_id, report}
use Rattle.hs_plain.specs.Ordered.{AreOrdered}
use Rattle.hs_plain.specs.Valid.{has_each_once}

-- two trees by rising paths, whose roots have one id; no id stands twice in the second
pub record AreOfOneRoot {B : Type 0} (from to : Tree B) : Type 0 where
  pub from_sorted : is_sorted path_cmp from ≡ true
  pub to_sorted : is_sorted path_cmp to ≡ true
  pub to_each_once : has_each_once to ≡ true
  pub one_root : same_id (id_above from []) (id_above to []) ≡ true

-- the lines of a report stand strictly in order
abbrev pub ReportIsOrdered : Type 0
ReportIsOrdered = (from to : Tree (List ℕ)) → AreOfOneRoot from to → AreOrdered (report from to)
