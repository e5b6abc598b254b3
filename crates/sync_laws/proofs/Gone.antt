-- Which cursors are refused Gone.
use Rattle.std.proofs.Common.{◌≡◌, ℕ, Bool, true, false, cond, ◌||◌, ◌==◌, Option, Some, None, Ok, Err, List, [], ◌∷◌, refl, ap}
use Rattle.std.specs.Prelude.{◌↔◌}
use Rattle.hs_types.specs.Names.{Names}
use Rattle.hs_types.specs.declared.ids.InodeId.{InodeId}
use Rattle.hs_types.specs.declared.ids.SnapId.{SnapId}
use Rattle.hs_types.specs.declared.call.Call.TheVariants as calls
use Rattle.hs_types.specs.declared.call.Place.{Place}
use Rattle.hs_types.specs.declared.call.ReportCursor.{ReportCursor}
use Rattle.hs_types.specs.declared.reply.Item.{Item}
use Rattle.hs_types.specs.declared.reply.Reply.{Reply}
use Rattle.hs_types.specs.declared.reply.Reply.TheVariants as replies
use Rattle.hs_types.specs.declared.refusal.Refusal.TheVariants.{NotDir, Gone}
use Rattle.hs_plain.specs.declared.state.Node.{Node}
use Rattle.hs_plain.specs.declared.state.Body.{Body}
use Rattle.hs_plain.specs.declared.state.Body.TheVariants.{File, Dir}
use Rattle.hs_plain.specs.declared.state.Member.{Member}
use Rattle.hs_plain.specs.declared.state.State.{State}
use Rattle.hs_plain.specs.Asked.{Asked, ◌>>=◌, refuse_if}
use Rattle.hs_plain.specs.Tree.{Tree, is_dir, listing, place_of}
use Rattle.hs_plain.specs.State.{is_snapshottable, member_with, items_of}
use Rattle.hs_plain.specs.Modifying.{file_in}
use Rattle.hs_plain.specs.Pages.{page_of, bytes_page}
use Rattle.hs_plain.specs.Reading.{is_deleted, file_there, is_foreign, has_moved}
use Rattle.hs_plain.specs.Answer.{answer, reply_to}
use Rattle.hs_plain.specs.Joined.{is_gone_reply}
use Rattle.hs_plain.proofs.ValidShapes.{true_false}
use Rattle.sync_laws.specs.Shown.{frozen, list_from, read_from}
use Rattle.sync_laws.proofs.Shown.{report_by}

-- whether a test refuses as gone
abbrev is_gone_asked : {X : Type 0} → Asked X → Bool
is_gone_asked (Ok x) = false
is_gone_asked (Err why) = is_gone_reply (replies.Refused why)

-- where neither of two tests does, both don't
then-none : {X Y : Type 0} (asked : Asked X) (f : X → Asked Y) → is_gone_asked asked ≡ false → ((x : X) → is_gone_asked (f x) ≡ false) → is_gone_asked (asked >>= f) ≡ false
then-none (Ok x) f none rest = rest x
then-none (Err why) f none rest = none

-- nor does a reply that is made of what is found
made-by : {X : Type 0} (asked : Asked X) (f : X → Reply) → is_gone_asked asked ≡ false → ((x : X) → is_gone_reply (f x) ≡ false) → is_gone_reply (reply_to (asked >>= λ x. Ok (f x))) ≡ false
made-by (Ok x) f none made = made x
made-by (Err why) f none made = none

with-none : (ms : List (Member (List ℕ))) (snapshot : SnapId) → is_gone_asked (member_with ms snapshot) ≡ false
with-none [] snapshot = refl
with-none (m ∷ ms) snapshot = elim (m.snapshot.0 == snapshot.0) as (λ b. is_gone_asked (cond {A = Asked (Member (List ℕ))} b (Ok m) (member_with ms snapshot)) ≡ false) [ true ↦ refl | false ↦ with-none ms snapshot ]

items-none : (tree : Tree (List ℕ)) (o : Option (Names × Node (List ℕ))) → is_gone_asked (items_of tree o) ≡ false
items-none tree None = refl
items-none tree (Some place) = elim (is_dir place.1) as (λ b. is_gone_asked (cond {A = Asked (List Item)} b (Ok (listing tree place.0)) (Err NotDir)) ≡ false) [ true ↦ refl | false ↦ refl ]

body-none : (body : Body (List ℕ)) → is_gone_asked (file_in body) ≡ false
body-none (File bytes) = refl
body-none Dir = refl

file-none : (o : Option (Names × Node (List ℕ))) → is_gone_asked (file_there o) ≡ false
file-none None = refl
file-none (Some place) = body-none place.1.body

-- a test that comes first decides
decides : (gone : Bool) (rest : Asked Reply) → is_gone_reply (reply_to rest) ≡ false → (reply_to (refuse_if gone Gone >>= λ _. rest) ≡ replies.Refused Gone) ↔ (gone ≡ true)
decides true rest none = (λ _. refl, λ _. refl)
decides false rest none = (λ is. absurd (true_false (ap is_gone_reply is) none), λ t. absurd (true_false t refl))

module _ (state : State (List ℕ)) (id : InodeId) (snapshot : SnapId) where
  pub lists-gone : (after : Option (List ℕ)) (size : ℕ) → (answer state (calls.ListNext (list_from id snapshot after) size) ≡ replies.Refused Gone) ↔ (is_deleted state snapshot ≡ true)
  lists-gone after size = decides (is_deleted state snapshot) (there >>= λ items. Ok (page_of (frozen id snapshot) items after size))
      (made-by there (λ items. page_of (frozen id snapshot) items after size) (then-none (member_with state.members snapshot) (λ m. items_of m.tree (place_of m.tree id)) (with-none state.members snapshot) (λ m. items-none m.tree (place_of m.tree id))) (λ items. refl))
    where
      there : Asked (List Item)
      there = member_with state.members snapshot >>= λ m. items_of m.tree (place_of m.tree id)

  pub reads-gone : (offset len : ℕ) → (answer state (calls.ReadNext (read_from id snapshot offset) len) ≡ replies.Refused Gone) ↔ (is_deleted state snapshot ≡ true)
  reads-gone offset len = by (is_deleted state snapshot)
    where
      there : Asked (List ℕ)
      there = member_with state.members snapshot >>= λ m. file_there (place_of m.tree id)

      placed : Asked (Place × List ℕ)
      placed = there >>= λ file. Ok (frozen id snapshot, file)

      shown : Asked (Place × List ℕ) → Asked Reply
      shown asked = asked >>= λ at. Ok (bytes_page at.0 at.1 offset len)

      by : (gone : Bool) → (reply_to (shown (refuse_if gone Gone >>= λ _. placed)) ≡ replies.Refused Gone) ↔ (gone ≡ true)
      by true = (λ _. refl, λ _. refl)
      by false = (
        λ is. absurd (true_false (ap is_gone_reply is)
            (made-by placed (λ at. bytes_page at.0 at.1 offset len)
            (then-none there (λ file. Ok (frozen id snapshot, file)) (then-none (member_with state.members snapshot) (λ m. file_there (place_of m.tree id)) (with-none state.members snapshot) (λ m. file-none (place_of m.tree id))) (λ file. refl))
            (λ at. refl))),
        λ t. absurd (true_false t refl),
      )

pub reports-gone : (state : State (List ℕ)) (cursor : ReportCursor) (size : ℕ) → (answer state (calls.ReportNext cursor size) ≡ replies.Refused Gone) ↔ ((is_deleted state cursor.from || is_deleted state cursor.to) ≡ true)
reports-gone state cursor size =
    by (is_deleted state cursor.from || is_deleted state cursor.to) (is_snapshottable state cursor.root) (is_foreign state cursor.root cursor.from || is_foreign state cursor.root cursor.to) (has_moved state cursor)
  where
    none : (listed foreign moved : Bool) → is_gone_reply (reply_to (report_by state cursor size false listed foreign moved)) ≡ false
    none false foreign moved = refl
    none true true moved = refl
    none true false true = refl
    none true false false = refl

    by : (gone listed foreign moved : Bool) → (reply_to (report_by state cursor size gone listed foreign moved) ≡ replies.Refused Gone) ↔ (gone ≡ true)
    by true listed foreign moved = (λ _. refl, λ _. refl)
    by false listed foreign moved = (λ is. absurd (true_false (ap is_gone_reply is) (none listed foreign moved)), λ t. absurd (true_false t refl))
