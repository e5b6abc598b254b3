use Rattle.std.proofs.Common.{◌<◌, length, ap, ◌∙◌, arith}
use Rattle.dir_changes.specs.History.{ids_of}
use Rattle.dir_changes.specs.Spare.{created_len, deleted_len}
use Rattle.dir_changes.proofs.CombineAtLaws.{pair_at, combined_as, dropped_as, last_as}
use Rattle.dir_changes.proofs.combine.combine_at.Goals as goal

pub take_later-requires-clause-holds : goal.take_later-requires-clause-holds
take_later-requires-clause-holds c =
    let rs = c.args.records.now.items in
    let lt : c.args.i < length rs = omega (arith, c.requires.there, c.args.records.now.ok.0) in
    let fits = pair_at rs c.remove-later.new.self.items c.args.i c.index_mut.result.now c.remove-later.result c.if-i-eq0.false lt c.remove-later.ensures.items c.remove-later.ensures.value c.index_mut.ensures.value in
    let created = fits created_len c.args.room.most_created c.requires.measured.most_created in
    let deleted = fits deleted_len c.args.room.most_deleted c.requires.measured.most_deleted in
    let holds = c.requires.pairs (omega (arith, c.requires.there, c.if-i-eq0.false)) in
    record {
      created_room = omega (arith, created, holds.created_room);
      deleted_room = omega (arith, deleted, holds.deleted_room);
      found_room = omega (arith, deleted, holds.found_room);
      ids_room = omega (arith, deleted, c.requires.ids.ids_room);
    }

pub returns-else-i-eq0-clause-combined : goal.returns-else-i-eq0-clause-combined
returns-else-i-eq0-clause-combined c =
    let rs = c.args.records.now.items in
    let lt : c.args.i < length rs = omega (arith, c.requires.there, c.args.records.now.ok.0) in
    combined_as rs c.remove-later.new.self.items c.args.i c.index_mut.result.now c.remove-later.result c.if-i-eq0.false lt c.remove-later.ensures.items c.remove-later.ensures.value c.index_mut.ensures.value c.take_later.new.earlier c.take_later.ensures.past

pub returns-else-i-eq0-clause-ids : goal.returns-else-i-eq0-clause-ids
returns-else-i-eq0-clause-ids c =
    let rs = c.args.records.now.items in
    let lt : c.args.i < length rs = omega (arith, c.requires.there, c.args.records.now.ok.0) in
    c.take_later.ensures.ids ∙ ap ids_of (dropped_as rs c.remove-later.new.self.items c.args.i c.index_mut.result.now c.remove-later.result c.if-i-eq0.false lt c.remove-later.ensures.items c.remove-later.ensures.value c.index_mut.ensures.value)

pub returns-else-i-eq0-clause-last_room : goal.returns-else-i-eq0-clause-last_room
returns-else-i-eq0-clause-last_room c had =
    let rs = c.args.records.now.items in
    let lt : c.args.i < length rs = omega (arith, c.requires.there, c.args.records.now.ok.0) in
    let fits = pair_at rs c.remove-later.new.self.items c.args.i c.index_mut.result.now c.remove-later.result c.if-i-eq0.false lt c.remove-later.ensures.items c.remove-later.ensures.value c.index_mut.ensures.value in
    let created = fits created_len c.args.room.most_created c.requires.measured.most_created in
    let deleted = fits deleted_len c.args.room.most_deleted c.requires.measured.most_deleted in
    let holds = c.requires.pairs (omega (arith, c.requires.there, c.if-i-eq0.false)) in
    last_as rs c.remove-later.new.self.items c.args.i c.index_mut.result.now c.remove-later.result c.if-i-eq0.false lt c.remove-later.ensures.items c.remove-later.ensures.value c.index_mut.ensures.value
    c.args.keep c.take_later.new.earlier
    (c.take_later.ensures.created_room c.args.keep (omega arith) (omega (arith, created, holds.created_room)))
    (c.take_later.ensures.deleted_room c.args.keep (omega arith) (omega (arith, deleted, holds.deleted_room))) had
