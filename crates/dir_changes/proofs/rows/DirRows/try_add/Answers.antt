use Rattle.std.proofs.Common.{◌≡◌, None, sym, ap, subst, ◌∙◌, arith}
use Rattle.dir_changes.specs.Entries.{id_at, with_entry}
use Rattle.dir_changes.specs.History.{DirHistory, added, change_last, note_added}
use Rattle.dir_changes.specs.Sound.{IsSound}
use Rattle.dir_changes.specs.Inside.{dir_history, records_in, HasSpot}
use Rattle.dir_changes.proofs.DirLaws.{sound-added}
use Rattle.dir_changes.proofs.rows.DirRows.try_add.Goals as goal

pub invariant_of-self-2 : goal.invariant_of-self-2
invariant_of-self-2 c =
    let dir : DirHistory = dir_history c.self.inside in
    let name = c.args.name in
    let id = c.args.id in
    let absent : id_at name dir.children ≡ None = ap (λ v. id_at name v.history.children) c.self.view_is ∙ c.requires in
    let now : added name id dir ≡ record dir { children = c.put.new.self.entries; records = records_in c.note_added.new.past } =
    λ i. record dir {
      children = (ap (with_entry name id) (sym c.reserve.ensures.same) ∙ sym c.put.ensures.put) i;
      records = (ap (change_last (note_added name id)) (sym c.ready_edit.ensures.records) ∙ sym c.note_added.ensures.records) i;
    } in
    record {
      sound = subst IsSound now (sound-added name id dir c.self.invariant.sound absent);
      children_room = omega (arith, c.self.invariant.children_room, c.in_ok-reserve.ensures.ok, c.reserve.ensures.room, c.ready_edit.ensures.most, c.note_added.ensures.edits, c.put.ensures.room);
      ready = c.note_added.ensures.ready;
      spot = subst (HasSpot c.self.inside.spot) (sym (c.note_added.ensures.fresh ∙ c.ready_edit.ensures.fresh)) c.self.invariant.spot;
    }
