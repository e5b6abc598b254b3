use Rattle.std.proofs.Common.{◌≤◌, ◌<◌, ℕ, List, ◌++◌, sym, ap, subst, ◌∙◌, arith}
use Rattle.hs_plain.specs.Change.{unsnapped}
use Rattle.snapshot_manager.specs.Snapshots.{Snapshots, changed, without}
use Rattle.inode_table.specs.Kept.{told}
use Rattle.inode_table.specs.Whole.{StandsFor, StandsForPlain}
use Rattle.record_merge.proofs.Answering.{if-ok, on-ok, answered}
use Rattle.record_merge.proofs.Freeing.{freed-exactly}
use Rattle.record_merge.proofs.Whole.{stands-then, blocks-then, rows-then, weight-then, plain-then}
use Rattle.record_merge.proofs.dropping.drop_snapshot.Goals as goal

upto : (n : ℕ) → n < 18446744073709551616 → n ≤ 18446744073709551615
upto n lt = omega (arith, lt)

pub returns-clause-stands : goal.returns-clause-stands
returns-clause-stands c = λ state lt before. on-ok c.commit.result c.commit.ensures.table (λ freed told_by.
    let item = c.in-Some.item.now in let ids = c.in_ok-ids.ids in
    subst (λ (s : Snapshots). StandsFor (told c.commit.new.table) s (unsnapped state c.args.id)) (sym (c.commit.ensures.snaps ∙ ap (λ (n : List ℕ). changed c.in-Some.dir (without n) c.args.snaps.now) c.in_ok-name.ensures))
    (stands-then (told c.args.table.now) (told c.commit.new.table) c.args.snaps.now state c.args.id c.in-Some.dir item ids 18446744073709551615 freed before (upto state.tick lt)
    (answered (told c.prepared_since.new.table) (told c.args.table.now) (told c.commit.new.table) c.args.snaps.now c.commit.new.snaps c.args.id c.in-Some.dir item c.in_ok-name.name c.items.result.now ids 18446744073709551615 freed
    c.always.ensures.proper c.in-Some.ensures c.in_ok-name.ensures c.in_ok-ids.ensures.same c.items.ensures c.in_ok-ids.ensures.all c.commit.ensures.snaps told_by)))

pub returns-clause-blocks : goal.returns-clause-blocks
returns-clause-blocks c = λ state store made waiting lt before are. if-ok c.commit.result c.commit.ensures.table (λ freed told_by.
    let item = c.in-Some.item.now in let ids = c.in_ok-ids.ids in
    blocks-then (told c.args.table.now) (told c.commit.new.table) c.args.snaps.now state c.args.id c.in-Some.dir item ids 18446744073709551615 freed before (upto state.tick lt)
    (answered (told c.prepared_since.new.table) (told c.args.table.now) (told c.commit.new.table) c.args.snaps.now c.commit.new.snaps c.args.id c.in-Some.dir item c.in_ok-name.name c.items.result.now ids 18446744073709551615 freed
    c.always.ensures.proper c.in-Some.ensures c.in_ok-name.ensures c.in_ok-ids.ensures.same c.items.ensures c.in_ok-ids.ensures.all c.commit.ensures.snaps told_by) store made waiting are)

pub returns-clause-freed : goal.returns-clause-freed
returns-clause-freed c = λ state store made waiting lt before are. if-ok c.commit.result c.commit.ensures.table (λ freed told_by.
    let item = c.in-Some.item.now in let ids = c.in_ok-ids.ids in
    freed-exactly store made waiting freed (told c.args.table.now).rows (told c.commit.new.table).rows are
    (λ other among. blocks-then (told c.args.table.now) (told c.commit.new.table) c.args.snaps.now state c.args.id c.in-Some.dir item ids 18446744073709551615 freed before (upto state.tick lt)
    (answered (told c.prepared_since.new.table) (told c.args.table.now) (told c.commit.new.table) c.args.snaps.now c.commit.new.snaps c.args.id c.in-Some.dir item c.in_ok-name.name c.items.result.now ids 18446744073709551615 freed
    c.always.ensures.proper c.in-Some.ensures c.in_ok-name.ensures c.in_ok-ids.ensures.same c.items.ensures c.in_ok-ids.ensures.all c.commit.ensures.snaps told_by) other made waiting among))

pub returns-clause-rows : goal.returns-clause-rows
returns-clause-rows c = λ state lt before. if-ok c.commit.result c.commit.ensures.table (λ freed told_by.
    let item = c.in-Some.item.now in let ids = c.in_ok-ids.ids in
    rows-then (told c.args.table.now) (told c.commit.new.table) c.args.snaps.now state c.args.id c.in-Some.dir item ids 18446744073709551615 freed before (upto state.tick lt)
    (answered (told c.prepared_since.new.table) (told c.args.table.now) (told c.commit.new.table) c.args.snaps.now c.commit.new.snaps c.args.id c.in-Some.dir item c.in_ok-name.name c.items.result.now ids 18446744073709551615 freed
    c.always.ensures.proper c.in-Some.ensures c.in_ok-name.ensures c.in_ok-ids.ensures.same c.items.ensures c.in_ok-ids.ensures.all c.commit.ensures.snaps told_by))

pub returns-clause-light : goal.returns-clause-light
returns-clause-light c = λ state lt before. on-ok c.commit.result c.commit.ensures.table (λ freed told_by.
    let item = c.in-Some.item.now in let ids = c.in_ok-ids.ids in
    weight-then (told c.args.table.now) (told c.commit.new.table) c.args.snaps.now state c.args.id c.in-Some.dir item ids 18446744073709551615 freed before (upto state.tick lt)
    (answered (told c.prepared_since.new.table) (told c.args.table.now) (told c.commit.new.table) c.args.snaps.now c.commit.new.snaps c.args.id c.in-Some.dir item c.in_ok-name.name c.items.result.now ids 18446744073709551615 freed
    c.always.ensures.proper c.in-Some.ensures c.in_ok-name.ensures c.in_ok-ids.ensures.same c.items.ensures c.in_ok-ids.ensures.all c.commit.ensures.snaps told_by))

pub returns-clause-plain : goal.returns-clause-plain
returns-clause-plain c = λ plain store made waiting lt before. if-ok c.commit.result c.commit.ensures.table (λ freed told_by.
    let item = c.in-Some.item.now in let ids = c.in_ok-ids.ids in
    subst (λ (s : Snapshots). StandsForPlain (told c.commit.new.table) s store made (waiting ++ freed.blocks) (unsnapped plain c.args.id)) (sym (c.commit.ensures.snaps ∙ ap (λ (n : List ℕ). changed c.in-Some.dir (without n) c.args.snaps.now) c.in_ok-name.ensures))
    (plain-then (told c.args.table.now) (told c.commit.new.table) c.args.snaps.now plain store made waiting c.args.id c.in-Some.dir item ids 18446744073709551615 freed (upto plain.tick lt) before
    (answered (told c.prepared_since.new.table) (told c.args.table.now) (told c.commit.new.table) c.args.snaps.now c.commit.new.snaps c.args.id c.in-Some.dir item c.in_ok-name.name c.items.result.now ids 18446744073709551615 freed
    c.always.ensures.proper c.in-Some.ensures c.in_ok-name.ensures c.in_ok-ids.ensures.same c.items.ensures c.in_ok-ids.ensures.all c.commit.ensures.snaps told_by)))
