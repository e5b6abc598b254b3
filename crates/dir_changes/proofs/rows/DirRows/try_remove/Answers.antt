use Rattle.std.proofs.Common.{◌≡◌, Some, sym, ap, subst, ◌∙◌, arith}
use Rattle.dir_changes.specs.Entries.{id_at}
use Rattle.dir_changes.specs.History.{DirHistory, removed_as, change_last, note_removed}
use Rattle.dir_changes.specs.Sound.{IsSound}
use Rattle.dir_changes.specs.Inside.{dir_history, records_in, HasSpot}
use Rattle.dir_changes.proofs.DirLaws.{sound-removed}
use Rattle.dir_changes.proofs.rows.DirRows.try_remove.Goals as goal

-- no room was made, and nothing else is changed
pub invariant_of-self : goal.invariant_of-self
invariant_of-self c =
    let dir : DirHistory = dir_history c.self.inside in
    let now : dir ≡ record dir { records = records_in c.ready_edit.new.past } = λ i. record dir { records = sym c.ready_edit.ensures.records i } in
    record {
      sound = subst IsSound now c.self.invariant.sound;
      children_room = omega (arith, c.self.invariant.children_room, c.in_err-ready_edit-in-Some.ensures.err);
      ready = c.ready_edit.ensures.ready;
      spot = subst (HasSpot c.self.inside.spot) (sym c.ready_edit.ensures.fresh) c.self.invariant.spot;
    }

pub invariant_of-self-in-Some : goal.invariant_of-self-in-Some
invariant_of-self-in-Some c =
    let dir : DirHistory = dir_history c.self.inside in
    let name = c.args.name.now in
    let id = c.in-Some.id in
    let there : id_at name dir.children ≡ Some id = sym c.id_of.ensures ∙ c.in-Some.is in
    let now : removed_as name (Some id) dir ≡ record dir { children = c.take_known.new.children.entries; records = records_in c.take_known.new.past } =
    λ i. record dir {
      children = sym c.take_known.ensures.taken i;
      records = (ap (change_last (note_removed name id)) (sym c.ready_edit.ensures.records) ∙ sym c.take_known.ensures.records) i;
    } in
    record {
      sound = subst IsSound now (sound-removed name id dir c.self.invariant.sound there);
      children_room = omega (arith, c.self.invariant.children_room, c.ready_edit.ensures.most, c.take_known.ensures.edits, c.take_known.ensures.list_room);
      ready = c.take_known.ensures.ready;
      spot = subst (HasSpot c.self.inside.spot) (sym (c.take_known.ensures.fresh ∙ c.ready_edit.ensures.fresh)) c.self.invariant.spot;
    }
