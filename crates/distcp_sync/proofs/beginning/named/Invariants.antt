use Rattle.std.proofs.Common.{◌≡◌, drop}
use Rattle.distcp_sync.specs.Told.{id_named}
use Rattle.distcp_sync.proofs.beginning.named.Given as goal

-- those before have another name
abbrev pub invariant-loop-item : goal.invariant-loop-item
invariant-loop-item l = id_named (drop l.item-index l.list) l.name ≡ id_named l.list l.name
