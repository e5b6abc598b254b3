use Rattle.std.proofs.Common.{List, ◌++◌, ap, ◌∙◌}
use Rattle.std.specs.Option.{option_to_list}
use Rattle.copy_workers.specs.declared.copied.Made.{Made}
use Rattle.copy_workers.specs.Calls.{named_by}
use Rattle.copy_workers.proofs.Calling.{is_write}
use Rattle.copy_workers.proofs.writing.write.Goals as goal

pub returns-clause-written : goal.returns-clause-written
returns-clause-written g c =
    let new = g.L.NameLink.known c.call-answered.new.self in
    is_write (g.L.NameLink.known c.args.link.now) new c.args.call c.args.made.now.items c.note_entry.new.made.items c.call-answered.result c.call-answered.ensures.call
    (c.note_entry.ensures ∙ ap (λ (l : List Made). l ++ option_to_list (named_by new c.call-answered.result)) c.reserve.ensures.items)
