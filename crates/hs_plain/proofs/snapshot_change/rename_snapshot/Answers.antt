use Rattle.std.proofs.Common.{◌≡◌, ℕ, Bool, true, false, cond, List, [], ◌∷◌, ◌++◌, map, refl, ap, ◌∙◌}
use Rattle.std.specs.List.{zip}
use Rattle.hs_types.specs.declared.ids.SnapId.{SnapId}
use Rattle.hs_plain.specs.declared.state.Member.{Member}
use Rattle.hs_plain.specs.Change.{is_snapshot, rename_member}
use Rattle.hs_plain.proofs.snapshot_change.rename_snapshot.Goals as goal

abbrev named : {B : Type 0} → List (Member B) → List (List ℕ) → List (Member B)
named members names = map (λ pair. record pair.0 { name = pair.1 }) (zip members names)

-- each snapshot with its new name
renamed : {B : Type 0} (id : SnapId) (name : List ℕ) (members : List (Member B)) → named members (map (λ member. (rename_member id name member).name) members) ≡ map (rename_member id name) members
renamed id name [] = refl
renamed {B = B} id name (member ∷ members) =
    ap (λ (m : Member B). m ∷ named members (map (λ member. (rename_member id name member).name) members)) (by (is_snapshot id member))
    ∙ ap (λ (ms : List (Member B)). rename_member id name member ∷ ms) (renamed id name members)
  where
    by : (same : Bool) → record member { name = (cond same (record member { name = name }) member).name } ≡ cond same (record member { name = name }) member
    by true = refl
    by false = refl

pub returns-clause-ok : goal.returns-clause-ok
returns-clause-ok g c =
    let state = c.args.state.now in
    let id = c.args.id in
    let name = c.args.name.now in
    let all : c.of.result ≡ map (rename_member id name) state.members =
    c.of.ensures
    ∙ c.push_renamed.ensures
    ∙ ap (λ (front : List (Member _)). front ++ named c.take.result.items c.in_ok-names.names.items) c.in_ok-renamed.ensures.items
    ∙ ap (λ (members : List (Member _)). named members c.in_ok-names.names.items) c.take.ensures.items
    ∙ ap (named state.members) (c.in_ok-names.ensures ∙ ap (λ (members : List (Member _)). map (λ member. (rename_member id name member).name) members) c.items.ensures)
    ∙ renamed id name state.members in
    ap (λ (members : List (Member _)). record state { members = members }) all
