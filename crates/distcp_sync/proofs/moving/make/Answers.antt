use Rattle.distcp_sync.proofs.Tries.{noted, wants}
use Rattle.distcp_sync.proofs.moving.make.Goals as goal

pub returns-in-Err-clause-tried : goal.returns-in-Err-clause-tried
returns-in-Err-clause-tried g c =
    wants (g.L.NameLink.known c.args.target.now) (g.L.NameLink.known c.write.new.link) c.args.call c.args.made.now.items c.write.new.made.items c.args.looks.now.items c.in-Err.ensures.same c.in-Err.ensures.none

pub returns-in-Ok-clause-tried : goal.returns-in-Ok-clause-tried
returns-in-Ok-clause-tried g c =
    noted (g.L.NameLink.known c.args.target.now) (g.L.NameLink.known c.write.new.link) c.args.call c.args.made.now.items c.write.new.made.items c.args.looks.now.items c.note_reply.new.looks.items c.caller-caller.result c.in-Ok.reply c.note_reply.result
    c.caller-caller.ensures.caller c.in-Ok.ensures.written c.note_reply.ensures.noted
