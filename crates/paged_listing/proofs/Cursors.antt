-- What a cursor lists: its place is asked for first.
use Rattle.std.proofs.Common.{◌≡◌, inl, inr, ℕ, Bool, true, false, not, cond, List, [], ◌∷◌, Option, Some, None, Ok, Err, refl, sym, ap, ◌∙◌}
use Rattle.std.specs.Prelude.{Result, IsErrAnd, ◌==◌}
use Rattle.std.specs.FinMap.Entries.{is_sorted}
use Rattle.std.proofs.lemmas.Bool.Decides.{Decides-eqb}
use Rattle.hs_types.specs.Names.{Names}
use Rattle.hs_types.specs.declared.ids.InodeId.{InodeId}
use Rattle.hs_types.specs.declared.ids.SnapId.{SnapId}
use Rattle.hs_types.specs.declared.refusal.Refusal.{Refusal}
use Rattle.hs_types.specs.declared.refusal.Refusal.TheVariants.{NotFound, Gone}
use Rattle.hs_types.specs.declared.reply.Item.{Item}
use Rattle.hs_types.specs.declared.reply.Reply.{Reply}
use Rattle.hs_types.specs.declared.call.ListCursor.{ListCursor}
use Rattle.hs_types.specs.declared.call.Place.{Place}
use Rattle.hs_types.specs.declared.call.Place.TheVariants as places
use Rattle.hs_plain.specs.declared.resolve.AskFault.{AskFault}
use Rattle.hs_plain.specs.declared.resolve.AskFault.TheVariants.{Refused}
use Rattle.hs_plain.specs.declared.state.Node.{Node}
use Rattle.hs_plain.specs.declared.state.Member.{Member}
use Rattle.hs_plain.specs.declared.state.State.{State}
use Rattle.hs_plain.specs.declared.state.FileBlocks.{FileBlocks}
use Rattle.hs_plain.specs.Asked.{Asked, ◌>>=◌, refuse_if}
use Rattle.hs_plain.specs.Pages.{page_of}
use Rattle.hs_plain.specs.Reading.{is_gone, list_next_reply}
use Rattle.hs_plain.specs.State.{is_snapshottable, member_with, snapshot_items, items_of, items_at}
use Rattle.hs_plain.specs.Tree.{Tree, path_cmp, node_at, place_of}
use Rattle.hs_plain.specs.Valid.{IsValid}
use Rattle.hs_plain.proofs.Trees.{place_so}
use Rattle.hs_plain.proofs.ValidHeld.{found_place}
use Rattle.hs_plain.proofs.ValidLists.{In, contains-in, by_test, all_so}
use Rattle.inode_table.specs.Reads.{Has}
use Rattle.inode_table.proofs.Reading.{same_id_so}
use Rattle.path_resolver.specs.Standing.{stands, there, standing}
use Rattle.paged_listing.specs.Places.{IsThere}
use Rattle.paged_listing.specs.Items.{page_asked}
use Rattle.path_resolver.proofs.Named.{match_err}
use Rattle.paged_listing.proofs.Chains.{Tells, tells_as, tells_then, err_ok, given, ok_same}

-- ---- a place that stands

stands-so : (o : Option (Names × Node FileBlocks)) → stands o ≡ Ok tt → (place : Names × Node FileBlocks) × (o ≡ Some place)
stands-so None e = absurd (err_ok e)
stands-so (Some place) e = (place, refl)

passed : (b : Bool) (why : Refusal) → refuse_if (not b) why ≡ Ok tt → b ≡ true
passed true why e = refl
passed false why e = absurd (err_ok e)

with-so : (members : List (Member FileBlocks)) (snapshot : SnapId) (m : Member FileBlocks) → member_with members snapshot ≡ Ok m → In members m × (m.snapshot ≡ snapshot)
with-so [] snapshot m e = absurd (err_ok e)
with-so (k ∷ ms) snapshot m e = by_test (k.snapshot.0 == snapshot.0)
    (λ t. let same : k ≡ m = ok_same (sym (ap (λ b. cond b (Ok k) (member_with ms snapshot)) t) ∙ e) in
    (inl same, ap (λ (x : Member FileBlocks). x.snapshot) (sym same) ∙ (λ i. record { 0 = (Decides-eqb k.snapshot.0 snapshot.0).0 t i })))
    (λ f. let w = with-so ms snapshot m (sym (ap (λ b. cond b (Ok k) (member_with ms snapshot)) f) ∙ e) in (inr w.0, w.1))

has-from : (tree : Tree FileBlocks) → is_sorted path_cmp tree ≡ true → (id : InodeId) → stands (place_of tree id) ≡ Ok tt → Has (node_at tree) id
has-from tree sorted id e =
    let p = stands-so (place_of tree id) e in
    let at = place_so tree id p.0 p.1 in
    record { at = p.0.0; node = p.0.1; is = found_place tree sorted p.0 at.0; named = same_id_so p.0.1.id id at.1 }

pub standing-there : (state : State FileBlocks) → IsValid state → (place : Place) → standing state place ≡ Ok tt → IsThere state place
standing-there state valid (places.Live id) e = has-from state.tree valid.sorted id e
standing-there state valid (places.SnapshotsOf dir) e = passed (is_snapshottable state dir) NotFound e
standing-there state valid (places.Frozen id snapshot) e =
    let live = given (refuse_if (is_gone state (places.Frozen id snapshot)) Gone) (λ _. there state (places.Frozen id snapshot)) tt e in
    let m = given (member_with state.members snapshot) (λ (member : Member FileBlocks). stands (place_of member.tree id)) tt live.2 in
    let w = with-so state.members snapshot m.0 m.1 in
    record {
      member = m.0;
      within = contains-in state.members m.0 w.0;
      named = w.1;
      found = m.1;
      has = has-from m.0.tree (all_so (λ (o : Member FileBlocks). is_sorted path_cmp o.tree) state.members valid.copies_sorted m.0 w.0) id m.2;
    }

-- ---- listings

-- where the place isn't there nothing is listed
items-then : (state : State FileBlocks) (place : Place) → items_at state place ≡ (there state place >>= λ _. items_at state place)
items-then state (places.Live id) = by (place_of state.tree id)
  where
    by : (o : Option (Names × Node FileBlocks)) → items_of state.tree o ≡ (stands o >>= λ _. items_of state.tree o)
    by None = refl
    by (Some place) = refl
items-then state (places.Frozen id snapshot) = by (member_with state.members snapshot)
  where
    one : (tree : Tree FileBlocks) (o : Option (Names × Node FileBlocks)) → items_of tree o ≡ (stands o >>= λ _. items_of tree o)
    one tree None = refl
    one tree (Some place) = refl

    by : (asked : Asked (Member FileBlocks)) → (asked >>= λ member. items_of member.tree (place_of member.tree id)) ≡ ((asked >>= λ member. stands (place_of member.tree id)) >>= λ _. (asked >>= λ member. items_of member.tree (place_of member.tree id)))
    by (Ok m) = one m.tree (place_of m.tree id)
    by (Err why) = refl
items-then state (places.SnapshotsOf dir) = by (is_snapshottable state dir)
  where
    by : (b : Bool) → cond {A = Asked (List Item)} b (Ok (snapshot_items state.members dir)) (Err NotFound) ≡ (refuse_if (not b) NotFound >>= λ _. cond {A = Asked (List Item)} b (Ok (snapshot_items state.members dir)) (Err NotFound))
    by true = refl
    by false = refl

-- a cursor asks for its place, and then for a page of it
pub cursor-page : (state : State FileBlocks) (cursor : ListCursor) (size : ℕ) → (standing state cursor.place >>= λ _. page_asked state cursor size) ≡ list_next_reply state cursor size
cursor-page state cursor size = by (refuse_if (is_gone state cursor.place) Gone) ∙ ap (λ (a : Asked (List Item)). refuse_if (is_gone state cursor.place) Gone >>= λ _. (a >>= page)) (sym (items-then state cursor.place))
  where
    page : List Item → Asked Reply
    page items = Ok (page_of cursor.place items cursor.after size)

    in_turn : (first : Asked (Unit {0})) (items : Asked (List Item)) → (first >>= λ _. (items >>= page)) ≡ ((first >>= λ _. items) >>= page)
    in_turn (Ok _) items = refl
    in_turn (Err why) items = refl

    by : (live : Asked (Unit {0})) → ((live >>= λ _. there state cursor.place) >>= λ _. (items_at state cursor.place >>= page)) ≡ (live >>= λ _. ((there state cursor.place >>= λ _. items_at state cursor.place) >>= page))
    by (Ok _) = in_turn (there state cursor.place) (items_at state cursor.place)
    by (Err why) = refl

-- ---- results

module _ (state : State FileBlocks) (cursor : ListCursor) (size : ℕ) (stood : Asked (Unit {0})) (result : Result Reply AskFault) (first : stood ≡ standing state cursor.place) where
  pub cursor_err : (why : Refusal) → stood ≡ Err why → IsErrAnd result (λ y. y ≡ Refused why) → Tells result (list_next_reply state cursor size)
  cursor_err why is same =
      tells_as result _ _ (cursor-page state cursor size)
      (match_err result (Refused why) _ _ same (ap (λ (a : Asked (Unit {0})). a >>= λ _. page_asked state cursor size) (sym first ∙ is)))

  pub cursor_ok : IsValid state → stood ≡ Ok tt → (IsThere state cursor.place → Tells result (page_asked state cursor size)) → Tells result (list_next_reply state cursor size)
  cursor_ok valid is then_ =
      tells_as result _ _ (cursor-page state cursor size)
      (tells_then result (standing state cursor.place) (λ _. page_asked state cursor size) tt (sym first ∙ is) (then_ (standing-there state valid cursor.place (sym first ∙ is))))
