use Rattle.std.proofs.Common.{◌≡◌, Some, None}
use Rattle.file_changes.specs.declared.past.SpareCopy.{SpareCopy}
use Rattle.file_changes.proofs.past.let_go.Goals as goal

none_some : {x : SpareCopy} → None ≡ Some x → ⊥
none_some h = cc

pub returns-in-Some-clause-kept : goal.returns-in-Some-clause-kept
returns-in-Some-clause-kept c present = c.unless_bare.ensures.kept present (λ copy is. absurd (none_some is))
