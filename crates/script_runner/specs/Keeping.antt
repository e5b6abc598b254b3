-- What only private contracts and proofs use: what a client keeps between its commands.
use Rattle.std.specs.Prelude.{ℕ, Option, None}
use Rattle.hs_types.specs.declared.ids.CallerId.{CallerId}
use Rattle.hs_types.specs.declared.ids.Side.{Side}
use Rattle.hs_types.specs.declared.ids.Side.TheVariants.{Source, Target}
use Rattle.hs_types.specs.declared.call.Call.{Call}
use Rattle.hs_types.specs.declared.call.Call.TheVariants as calls
use Rattle.hs_types.specs.declared.reply.Reply.{Reply}
use Rattle.hs_plain.specs.Joined.{list_cursor, report_cursor}
use Rattle.script_text.specs.declared.command.PagesKind.{PagesKind}
use Rattle.script_text.specs.declared.command.PagesKind.TheVariants as kinds
use Rattle.run_output.specs.Calls.{at_cursor, Kept}
use Rattle.script_runner.specs.declared.client.Cursors.{Cursors}
use Rattle.script_runner.specs.declared.client.Session.{Session}
use Rattle.script_runner.specs.declared.client.Client.{Client}

abbrev pub no_cursors : Cursors
no_cursors = record { listing = None; report = None }

abbrev pub session_of : ℕ → Cursors → Session
session_of calls cursors = record { calls = calls; cursors = cursors }

abbrev pub no_calls : Session
no_calls = session_of 0 no_cursors

abbrev pub new_client : CallerId → Client
new_client caller = record { caller = caller; source = no_calls; target = no_calls }

-- the cursor of a reply is kept, or none where the reply has none
abbrev pub with_cursor : PagesKind → Reply → Cursors → Cursors
with_cursor kinds.Listing reply cursors = record cursors { listing = list_cursor reply }
with_cursor kinds.Report reply cursors = record cursors { report = report_cursor reply }

-- the call that goes on at a kept cursor
abbrev pub next_kept : ℕ → Cursors → PagesKind → Option Call
next_kept page cursors kinds.Listing = at_cursor (λ cursor. calls.ListNext cursor page) cursors.listing
next_kept page cursors kinds.Report = at_cursor (λ cursor. calls.ReportNext cursor page) cursors.report

abbrev pub session_on : Client → Side → Session
session_on client Source = client.source
session_on client Target = client.target

-- what a client keeps, for each side and kind
abbrev pub kept_of : ℕ → Client → Kept
kept_of page client side = next_kept page (session_on client side).cursors
