use Rattle.std.proofs.Common.{◌+◌, ◌++◌, List, None, set, length, ap, sym, subst, ◌∙◌, length-append, length-set, arith}
use Rattle.hs_types.specs.declared.ids.BlockId.{BlockId}
use Rattle.hs_types.specs.declared.ids.InodeId.{InodeId}
use Rattle.inode_table.specs.Names.{named_in}
use Rattle.inode_table.specs.Numbered.{history_of}
use Rattle.inode_table.specs.Totals.{blocks_named, weight}
use Rattle.inode_table.specs.Released.{blocks_in}
use Rattle.inode_table.specs.Slots.{Slots, table_in, named_rows, AreCounted, AreListed}
use Rattle.inode_table.specs.Lessened.{lessen_all, ended, StaysOrGoes, HaveGone}
use Rattle.inode_table.proofs.Lessening.{named-emptied, named-all-less, blocks-emptied, gone-more, steady-gone, listed-gone, length-all-less, weight-all-less, weight-emptied}
use Rattle.inode_table.proofs.Taking.{stays-gone}
use Rattle.inode_table.proofs.releasing.release_one.Goals as goal

pub release_row-requires-clause-stack : goal.release_row-requires-clause-stack
release_row-requires-clause-stack c =
    let fewer = named-emptied c.args.rows.now.items c.args.id in
    let same = ap named_rows c.in-Some.ensures.taken.0 in
    omega (arith, fewer, same, c.requires.steady.stack)

pub release_row-requires-clause-room : goal.release_row-requires-clause-room
release_row-requires-clause-room c =
    let sum = blocks-emptied c.args.rows.now.items c.args.id c.in-Some.row c.in-Some.ensures.taken.1 in
    omega (arith, sum, c.requires.steady.blocks, c.requires.steady.room)

pub release_row-requires-clause-blocks : goal.release_row-requires-clause-blocks
release_row-requires-clause-blocks c =
    let sum = blocks-emptied c.args.rows.now.items c.args.id c.in-Some.row c.in-Some.ensures.taken.1 in
    omega (arith, sum, c.requires.steady.blocks)

pub returns-in-Some-clause-gone : goal.returns-in-Some-clause-gone
returns-in-Some-clause-gone c = λ n old waited have.
    let taken = c.in-Some.ensures.taken in
    let history = history_of c.in-Some.row.rows in
    let rows = c.args.rows.now.items in
    let are = c.release_row.ensures.rows ∙ ap (lessen_all (named_in history)) taken.0 in
    subst (λ (s : Slots). HaveGone (n + 1) old s waited c.release_row.new.waiting.items) (sym are)
    (subst (λ (w : List BlockId). HaveGone (n + 1) old (lessen_all (named_in history) (set rows c.args.id.0 None)) waited w) (sym c.release_row.ensures.waiting)
    (gone-more n old rows waited c.args.waiting.now.items c.args.id c.in-Some.row have c.requires.steady.counted taken.1 taken.2 taken.3))

pub returns-in-Some-clause-steady : goal.returns-in-Some-clause-steady
returns-in-Some-clause-steady c =
    let taken = c.in-Some.ensures.taken in
    let history = history_of c.in-Some.row.rows in
    let rows = c.args.rows.now.items in
    let are = c.release_row.ensures.rows ∙ ap (lessen_all (named_in history)) taken.0 in
    let base = steady-gone rows c.args.id c.in-Some.row _ _ _ _ _ _ taken.1 taken.3 c.requires.steady c.release_row.ensures.blocks in
    let put = ap length c.release_row.ensures.waiting in
    let sum = length-append c.args.waiting.now.items (blocks_in history) in
    record {
      counted = subst (λ (s : Slots). AreCounted s _) (sym are) base.counted;
      stack = c.release_row.ensures.stack;
      blocks = base.blocks ∙ ap (λ (s : Slots). blocks_named (table_in s)) (sym are);
      room = omega (arith, base.room, put, sum, c.args.waiting.now.ok.0, c.release_row.new.waiting.ok.0, c.release_row.ensures.waiting_capacity);
    }

pub returns-in-Some-clause-listed : goal.returns-in-Some-clause-listed
returns-in-Some-clause-listed c =
    let taken = c.in-Some.ensures.taken in
    let ids = named_in (history_of c.in-Some.row.rows) in
    let rows = c.args.rows.now.items in
    let unnamed = c.args.unnamed.now.items in
    let are = c.release_row.ensures.rows ∙ ap (lessen_all ids) taken.0 in
    let stand = c.release_row.ensures.unnamed ∙ ap (λ (s : Slots). unnamed ++ ended ids s) taken.0 in
    subst (λ (s : Slots). AreListed s c.release_row.new.unnamed.items) (sym are)
    (subst (λ (u : List InodeId). AreListed (lessen_all ids (set rows c.args.id.0 None)) u) (sym stand)
    (listed-gone rows c.args.id c.in-Some.row unnamed c.requires.listed))

pub returns-in-Some-clause-fewer : goal.returns-in-Some-clause-fewer
returns-in-Some-clause-fewer c =
    let taken = c.in-Some.ensures.taken in
    let ids = named_in (history_of c.in-Some.row.rows) in
    let rows = c.args.rows.now.items in
    let unnamed = c.args.unnamed.now.items in
    let are = ap named_rows (c.release_row.ensures.rows ∙ ap (lessen_all ids) taken.0) in
    let stand = ap length (c.release_row.ensures.unnamed ∙ ap (λ (s : Slots). unnamed ++ ended ids s) taken.0) in
    let sum = length-append unnamed (ended ids (set rows c.args.id.0 None)) in
    let fewer = named-emptied rows c.args.id in
    let less = named-all-less ids (set rows c.args.id.0 None) in
    omega (arith, are, stand, sum, fewer, less, c.args.unnamed.now.ok.0, c.release_row.new.unnamed.ok.0)

pub returns-in-Some-clause-len : goal.returns-in-Some-clause-len
returns-in-Some-clause-len c =
    let taken = c.in-Some.ensures.taken in
    let ids = named_in (history_of c.in-Some.row.rows) in
    let rows = c.args.rows.now.items in
    let are = ap length (c.release_row.ensures.rows ∙ ap (lessen_all ids) taken.0) in
    let same = length-all-less ids (set rows c.args.id.0 None) in
    let one = length-set rows c.args.id.0 None in
    omega (arith, are, same, one, c.args.rows.now.ok.0, c.release_row.new.rows.ok.0)

pub returns-in-Some-clause-weight : goal.returns-in-Some-clause-weight
returns-in-Some-clause-weight c =
    let taken = c.in-Some.ensures.taken in
    let ids = named_in (history_of c.in-Some.row.rows) in
    let rows = c.args.rows.now.items in
    let are = ap (λ (s : Slots). weight (table_in s)) (c.release_row.ensures.rows ∙ ap (lessen_all ids) taken.0) in
    let same = weight-all-less ids (set rows c.args.id.0 None) in
    let less = weight-emptied rows c.args.id c.in-Some.row taken.1 in
    omega (arith, are, same, less)

pub returns-in-Some-clause-left : goal.returns-in-Some-clause-left
returns-in-Some-clause-left c = λ old stays.
    let taken = c.in-Some.ensures.taken in
    let ids = named_in (history_of c.in-Some.row.rows) in
    subst (StaysOrGoes old) (sym (c.release_row.ensures.rows ∙ ap (lessen_all ids) taken.0)) (stays-gone old c.args.rows.now.items c.args.id ids stays)
