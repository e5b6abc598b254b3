use Rattle.std.proofs.Common.{rules}
use Rattle.turn_lock.proofs.Meetings.{meets_once}
use Rattle.turn_lock.proofs.lock.TurnLock.meet.Goals as goal

pub returns-clause-second : goal.returns-clause-second
returns-clause-second g c = let once = meets_once c.sit-first.result.me.0 c.sit-second.result.me.0 c.meet.new.a.me.0 c.meet.new.b.me.0 c.meet.ensures.first.0 c.meet.ensures.second.0 in search rules
