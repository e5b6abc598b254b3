use Rattle.std.proofs.Common.{◌≡◌, ◌++◌, map, drop}
use Rattle.inode_table.specs.Kept.{told}
use Rattle.paged_listing.specs.Items.{item_in}
use Rattle.paged_listing.proofs.listing.items_of.Given as goal

-- the items so far and those of the children that are left are all
abbrev pub invariant-loop-child : goal.invariant-loop-child
invariant-loop-child l = l.items.items ++ map (item_in (told l.table).rows) (drop l.child-index l.children) ≡ map (item_in (told l.table).rows) l.children
