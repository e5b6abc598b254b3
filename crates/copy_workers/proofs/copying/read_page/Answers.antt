use Rattle.std.proofs.Common.{ap}
use Rattle.hs_types.specs.declared.call.Call.TheVariants as calls
use Rattle.copy_workers.proofs.Replies.{page_read}
use Rattle.copy_workers.proofs.copying.read_page.Goals as goal

pub returns-in-Bytes-clause-page : goal.returns-in-Bytes-clause-page
returns-in-Bytes-clause-page g c =
    page_read c.args.cursor (g.L.NameLink.known c.args.source.now) (g.L.NameLink.known c.call-reply.new.self) (calls.ReadNext c.args.cursor c.greatest.result) c.call-reply.result c.in-Bytes.bytes c.in-Bytes.next (ap (calls.ReadNext c.args.cursor) c.greatest.ensures) c.call-reply.ensures.call c.in-Bytes.is
