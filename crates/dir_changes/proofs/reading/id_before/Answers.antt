use Rattle.std.proofs.Common.{◌≡◌, true, false, None, sym, ◌∙◌, rules}
use Rattle.dir_changes.specs.Entries.{id_at, has}
use Rattle.dir_changes.proofs.SearchLaws.{told_deleted, told_created, told_behind}
use Rattle.dir_changes.proofs.reading.id_before.Goals as goal

-- a deleted entry is there before
pub returns-in-Some : goal.returns-in-Some
returns-in-Some c =
    let told = told_deleted c.args.records.now c.loop-saved.saved-index c.saved-item.result c.args.children.now.entries c.loop-saved-test.true c.saved-item.is c.args.name.now c.in-Some.id (sym c.id_of.ensures ∙ c.in-Some.is) in
    sym told ∙ c.loop-saved.invariant

-- a created entry isn't
pub returns-then-is_some : goal.returns-then-is_some
returns-then-is_some c =
    let gone : id_at c.args.name.now c.saved-item.result.deleted.entries ≡ None = sym c.in_default.ensures in
    let made : has c.args.name.now c.saved-item.result.created.entries ≡ true = search rules in
    let told = told_created c.args.records.now c.loop-saved.saved-index c.saved-item.result c.args.children.now.entries c.loop-saved-test.true c.saved-item.is c.args.name.now gone made in
    sym told ∙ c.loop-saved.invariant

-- under any other name the record changes nothing
pub loop-saved-preserved : goal.loop-saved-preserved
loop-saved-preserved c =
    let gone : id_at c.args.name.now c.saved-item.result.deleted.entries ≡ None = sym c.in_default.ensures in
    let made : has c.args.name.now c.saved-item.result.created.entries ≡ false = search rules in
    let told = told_behind c.args.records.now c.loop-saved.saved-index c.saved-item.result c.args.children.now.entries c.loop-saved-test.true c.saved-item.is c.args.name.now gone made in
    sym told ∙ c.loop-saved.invariant
