use Rattle.std.proofs.Common.{List, ℕ, [], ◌∷◌, refl, sym, subst, append-nil}
use Rattle.hs_types.specs.declared.call.Call.TheVariants as calls
use Rattle.distcp_sync.specs.inside.Trace.{IsLooked}
use Rattle.distcp_sync.specs.inside.Begins.{unasked, asked}
use Rattle.distcp_sync.proofs.beginning.ask_root.Goals as goal

pub returns-in-Ok-clause-asked : goal.returns-in-Ok-clause-asked
returns-in-Ok-clause-asked g c =
    let old = g.L.NameLink.known c.args.link.now in
    let new = g.L.NameLink.known c.ask-look.new.link in
    record {
      later = c.ask-look.result ∷ [];
      looks = c.push_reserved.ensures.items;
      asked = asked c.ask-look.result c.root_of-root.result (subst (λ (path : List ℕ). IsLooked c.args.side old new (calls.Snaps path) c.ask-look.result) c.in-Ok.ensures c.ask-look.ensures.looked) c.root_of-root.ensures;
    }

pub returns-in-Err-clause-asked : goal.returns-in-Err-clause-asked
returns-in-Err-clause-asked g c = record { later = []; looks = sym (append-nil c.args.looks.now.items); asked = unasked refl }
