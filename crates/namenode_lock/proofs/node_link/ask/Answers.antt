use Rattle.std.proofs.Common.{refl, sym, ◌∙◌}
use Rattle.hs_plain.specs.Files.{plain_files}
use Rattle.hs_plain.specs.Replay.{plain_after}
use Rattle.hs_plain.proofs.Ticks.{tick-replay}
use Rattle.namenode_lock.proofs.Asked.{asked_legal, asked_none}
use Rattle.namenode_lock.proofs.node_link.ask.Goals as goal

pub returns-clause-legal : goal.returns-clause-legal
returns-clause-legal g c = λ tells limit caller seq.
    asked_legal tells caller limit c.args.node.now.entries c.args.call _ seq c.requires.shared c.tick-position.ensures refl
    (c.ask.ensures.answered c.table.ensures.stands.state (plain_after c.args.node.now.entries) (rw (c.table.ensures.table, c.snaps.ensures) c.table.ensures.stands.stands) c.table.ensures.stands.sized
    (c.tick-position.ensures ∙ sym (tick-replay plain_files c.args.node.now.entries)))

pub returns-clause-none : goal.returns-clause-none
returns-clause-none g c = asked_none c.args.node.now.entries c.args.call c.ask.result c.requires.shared (c.ask.ensures.answered c.table.ensures.stands.state (plain_after c.args.node.now.entries) (rw (c.table.ensures.table, c.snaps.ensures) c.table.ensures.stands.stands) c.table.ensures.stands.sized
    (c.tick-position.ensures ∙ sym (tick-replay plain_files c.args.node.now.entries)))
