use Rattle.std.proofs.Common.{◌≡◌, true, List, length, ap, sym, ◌∙◌, refl}
use Rattle.hs_types.specs.declared.journal.Entry.{Entry}
use Rattle.hs_plain.specs.Legal.{leaves_entry}
use Rattle.namenode_write.proofs.Stepped.{has-place, entered-consistent, entered-step, back-consistent, back-step}
use Rattle.namenode_write.proofs.namenode.do_in.Goals as goal
use Rattle.namenode_write.proofs.namenode.do_in.Given.{Over}

pub make_call-requires-clause-standing : goal.make_call-requires-clause-standing
make_call-requires-clause-standing g c = (_, c.requires.consistent.at)

left : (g : Over) (c : goal.After-entered g) → leaves_entry c.args.call c.reply_of-reply.result ≡ true
left g c = sym c.leaves_entry.ensures ∙ c.if-not-leaves_entry.false

pub entered-requires-clause-room : goal.entered-requires-clause-room
entered-requires-clause-room g c =
    (has-place g.B.BlockStore.blocks g.B.BlockStore.greatest g.B.BlockStore.faults c.args.space.now c.make_call.new.space c.args.caller c.args.seq c.args.call c.make_call.result c.reply_of-reply.result
    c.requires.consistent c.make_call.ensures c.reply_of-reply.ensures (sym c.leaves_entry.ensures ∙ c.if-not-leaves_entry.false)).room

pub returns-clause-step : goal.returns-clause-step
returns-clause-step g c =
    entered-step g.B.BlockStore.blocks g.B.BlockStore.greatest g.B.BlockStore.faults c.args.space.now c.make_call.new.space c.args.caller c.args.seq c.args.call c.make_call.result c.reply_of-reply.result
    c.requires.consistent c.make_call.ensures c.reply_of-reply.ensures (record c.make_call.new.space { journal = c.entered.new.journal }) c.entered.result refl c.entered.ensures.reply c.entered.ensures.appended c.entered.ensures.place c.entered.ensures.kept (left g c)

pub returns-clause-consistent : goal.returns-clause-consistent
returns-clause-consistent g c =
    entered-consistent g.B.BlockStore.blocks g.B.BlockStore.greatest g.B.BlockStore.faults c.args.space.now c.make_call.new.space c.args.caller c.args.seq c.args.call c.make_call.result c.reply_of-reply.result
    c.requires.consistent c.make_call.ensures c.reply_of-reply.ensures (record c.make_call.new.space { journal = c.entered.new.journal }) c.entered.result refl c.entered.ensures.reply c.entered.ensures.appended c.entered.ensures.place c.entered.ensures.kept (left g c)

pub returns-then-not-leaves_entry-clause-step : goal.returns-then-not-leaves_entry-clause-step
returns-then-not-leaves_entry-clause-step g c =
    back-step g.B.BlockStore.blocks g.B.BlockStore.greatest g.B.BlockStore.faults c.args.space.now c.make_call.new.space c.args.caller c.args.seq c.args.call c.make_call.result c.reply_of-reply.result
    c.requires.consistent c.make_call.ensures c.reply_of-reply.ensures c.requires.exclusive c.handed_back.result c.handed_back.ensures.reply
    (c.handed_back.ensures.place ∙ ap (λ (entries : List Entry). length entries) c.as_slice.ensures.value) c.handed_back.ensures.back (sym c.leaves_entry.ensures ∙ c.if-not-leaves_entry.true)

pub returns-then-not-leaves_entry-clause-consistent : goal.returns-then-not-leaves_entry-clause-consistent
returns-then-not-leaves_entry-clause-consistent g c =
    back-consistent g.B.BlockStore.blocks g.B.BlockStore.greatest g.B.BlockStore.faults c.args.space.now c.make_call.new.space c.args.caller c.args.seq c.args.call c.make_call.result c.reply_of-reply.result
    c.requires.consistent c.make_call.ensures c.reply_of-reply.ensures c.requires.exclusive c.handed_back.result c.handed_back.ensures.reply
    (c.handed_back.ensures.place ∙ ap (λ (entries : List Entry). length entries) c.as_slice.ensures.value) c.handed_back.ensures.back (sym c.leaves_entry.ensures ∙ c.if-not-leaves_entry.true)
