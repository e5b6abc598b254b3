use Rattle.std.proofs.Common.{◌≡◌, ◌++◌, map}
use Rattle.hs_types.specs.declared.reply.Item.{Item}
use Rattle.distcp_sync.proofs.fetching.names_of.Given as goal

-- the names so far and those of the items that are left are all
abbrev pub invariant-loop-item : goal.invariant-loop-item
invariant-loop-item l = l.names.items ++ map (λ (item : Item). item.name) l.item-iterator.rest.items ≡ l.initial.names.items ++ map (λ (item : Item). item.name) l.initial.item-iterator.rest.items
