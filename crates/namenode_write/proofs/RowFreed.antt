-- Blocks that wait in lists are freed one by one.
use Rattle.std.proofs.Common.{◌≡◌, ℕ, ◌-◌, ◌<◌, ◌≤◌, false, List, [], ◌∷◌, ◌++◌, length, get_or, Result, Ok, Err, Option, Some, None, refl, sym, ap, subst, ◌∙◌, append_assoc, append-nil, arith}
use Rattle.std.specs.Prelude.{is_some, is_err, OnOk}
use Rattle.std.specs.Option.{option_to_list}
use Rattle.std.proofs.lemmas.Grind.{flat_map-append}
use Rattle.hs_types.specs.Blocks.{BlockMap}
use Rattle.hs_types.specs.declared.ids.BlockId.{BlockId}
use Rattle.hs_types.specs.declared.call.Call.{Call}
use Rattle.hs_types.specs.declared.reply.Reply.{Reply}
use Rattle.hs_plain.specs.declared.state.State.{State}
use Rattle.block_store.specs.Changes.{Changes, Sets}
use Rattle.inode_table.specs.Whole.{StandsForPlain}
use Rattle.table_laws.proofs.WholePlain.{plain-free}
use Rattle.namenode_write.specs.Rows.{Held, all_of, IsAt, IsDone, done, entries}
use Rattle.namenode_write.specs.Waiting.{StandsStill, StaysAt}

-- ---- what stands for a plain state

-- the last block that waits is freed
still-freed : (before now : Option BlockMap) (made given : ℕ) (rest : List BlockId) (block : BlockId) → Changes before now (Sets block None) → given ≡ made → StandsStill before made (rest ++ block ∷ []) now given rest
still-freed before now made given rest block frees same table snaps front plain was =
    let apart : StandsForPlain table snaps before made ((front ++ rest) ++ block ∷ []) plain = subst (λ (l : List BlockId). StandsForPlain table snaps before made l plain) (sym (append_assoc front rest (block ∷ []))) was in
    let after : StandsForPlain table snaps now made ((front ++ rest) ++ []) plain = plain-free table snaps before now made (front ++ rest) [] block plain frees apart in
    subst (λ (n : ℕ). StandsForPlain table snaps now n (front ++ rest) plain) (sym same) (subst (λ (l : List BlockId). StandsForPlain table snaps now made l plain) (append-nil (front ++ rest)) after)

-- a list behind the others
pub all-push : (lists : List (List BlockId)) (last : List BlockId) → all_of (lists ++ last ∷ []) ≡ all_of lists ++ last
all-push lists last = flat_map-append (λ (blocks : List BlockId). blocks) lists (last ∷ []) ∙ ap (λ (l : List BlockId). all_of lists ++ l) (append-nil last)

-- the last list's blocks are freed
still-last : (before now : Option BlockMap) (made given : ℕ) (lists : List (List BlockId)) (last left : List BlockId) → StandsStill before made last now given left → StandsStill before made (all_of (lists ++ last ∷ [])) now given (all_of lists ++ left)
still-last before now made given lists last left one table snaps front plain was =
    let apart : StandsForPlain table snaps before made ((front ++ all_of lists) ++ last) plain =
    subst (λ (l : List BlockId). StandsForPlain table snaps before made l plain) (ap (λ (l : List BlockId). front ++ l) (all-push lists last) ∙ sym (append_assoc front (all_of lists) last)) was in
    subst (λ (l : List BlockId). StandsForPlain table snaps now given l plain) (append_assoc front (all_of lists) left) (one table snaps (front ++ all_of lists) plain apart)

-- ---- one call of the store after the other

-- what is true while blocks are freed
pub record AreFreed (before now : Option BlockMap) (made given from to : ℕ) (blocks left : List BlockId) : Type 0 where
  pub standing : StandsStill before made blocks now given left
  pub tells : is_some now ≡ is_some before
  pub count : from ≤ to

pub none-freed : (store : Option BlockMap) (made count : ℕ) (blocks : List BlockId) → AreFreed store store made made count count blocks blocks
none-freed store made count blocks = record { standing = λ table snaps front plain was. was; tells = refl; count = omega arith }

then_freed : (before told now : Option BlockMap) (made middle given from between to : ℕ) (blocks some left : List BlockId) → AreFreed before told made middle from between blocks some → AreFreed told now middle given between to some left
    → AreFreed before now made given from to blocks left
then_freed before told now made middle given from between to blocks some left one two =
    let a = one.count in let b = two.count in
    record { standing = λ table snaps front plain was. two.standing table snaps front plain (one.standing table snaps front plain was); tells = two.tells ∙ one.tells; count = omega (arith, a, b) }

tells_still : (told now : Option BlockMap) (P : BlockMap → BlockMap → Type 0) → Changes told now P → is_some now ≡ is_some told
tells_still None None P change = refl
tells_still None (Some b) P change = absurd change
tells_still (Some a) None P change = absurd change
tells_still (Some a) (Some b) P change = refl

-- the store freed the last one
pub one-freed : (before told now : Option BlockMap) (made middle given from between to : ℕ) (blocks some rest : List BlockId) (block : BlockId) → AreFreed before told made middle from between blocks some
    → some ≡ rest ++ block ∷ [] → Changes told now (Sets block None) → given ≡ middle → between ≤ to → AreFreed before now made given from to blocks rest
one-freed before told now made middle given from between to blocks some rest block are split frees same more =
    then_freed before told now made middle given from between to blocks some rest are (record {
      standing = subst (λ (l : List BlockId). StandsStill told middle l now given rest) (sym split) (still-freed told now middle given rest block frees same);
      tells = tells_still told now (Sets block None) frees;
      count = more;
    })

-- blocks of the last list are freed
pub list-freed : (before told now : Option BlockMap) (made middle given from between to : ℕ) (all : List BlockId) (lists rest : List (List BlockId)) (last taken left : List BlockId) → AreFreed before told made middle from between all (all_of lists)
    → lists ≡ rest ++ last ∷ [] → taken ≡ last → StandsStill told middle taken now given left → is_some now ≡ is_some told → between ≤ to → AreFreed before now made given from to all (all_of rest ++ left)
list-freed before told now made middle given from between to all lists rest last taken left are split same standing tells count =
    then_freed before told now made middle given from between to all (all_of lists) (all_of rest ++ left) are (record {
      standing = subst (λ (l : List (List BlockId)). StandsStill told middle (all_of l) now given (all_of rest ++ left)) (sym split)
          (still-last told now middle given rest last left (subst (λ (l : List BlockId). StandsStill told middle l now given left) same standing));
      tells = tells;
      count = count;
    })

-- none is left of it
pub none-left : (before now : Option BlockMap) (made given from to : ℕ) (all left : List BlockId) (rest : List (List BlockId)) → left ≡ [] → AreFreed before now made given from to all (all_of rest ++ left) → AreFreed before now made given from to all (all_of rest)
none-left before now made given from to all left rest none are = subst (AreFreed before now made given from to all) (ap (λ (l : List BlockId). all_of rest ++ l) none ∙ append-nil (all_of rest)) are

-- what is left of it goes on waiting
pub put-back : (before now : Option BlockMap) (made given from to : ℕ) (all left put : List BlockId) (rest lists : List (List BlockId)) → lists ≡ rest ++ put ∷ [] → put ≡ left → AreFreed before now made given from to all (all_of rest ++ left)
    → AreFreed before now made given from to all (all_of lists)
put-back before now made given from to all left put rest lists split same are =
    subst (AreFreed before now made given from to all) (sym (ap all_of split ∙ all-push rest put ∙ ap (λ (l : List BlockId). all_of rest ++ l) same)) are

pub all-done : {T E P : Type 0} (r : Result T E) → is_err r ≡ false → OnOk r P → P
all-done (Ok x) fine p = p
all-done (Err e) fine p = absurd (cc)

-- the last one is what a pop takes
pub popped-last : (items rest seen : List BlockId) (block : BlockId) (got : Option BlockId) (n : ℕ) → seen ≡ items → length seen ≡ n → 0 < length seen → block ≡ get_or seen (length seen - 1) block
    → (0 < n → got ≡ Some (get_or items (n - 1) block)) → items ≡ rest ++ option_to_list got → items ≡ rest ++ block ∷ []
popped-last items rest seen block got n same len some last taken split =
    let more : 0 < n = omega arith in
    let at : get_or items (n - 1) block ≡ block = ap (λ k. get_or items (k - 1) block) (sym len) ∙ ap (λ (l : List BlockId). get_or l (length seen - 1) block) (sym same) ∙ sym last in
    split ∙ ap (λ o. rest ++ option_to_list o) (taken more ∙ ap (λ b. Some b) at)

-- ---- calls

pub stays-at : (before now : Option BlockMap) (made given : ℕ) (lists left : List (List BlockId)) → StandsStill before made (all_of lists) now given (all_of left) → StaysAt before made lists now given left
stays-at before now made given lists left still table snaps count plain at = record {
  stands = still table snaps [] plain at.stands;
  tick = at.tick;
  inodes = at.inodes;
  snapshots = at.snapshots;
  light = at.light;
}

-- a call that is done is done still as blocks are freed after it
pub freed-done : (before middle now : Held) (tick : ℕ) (call : Call) (reply : Reply) (plain : State (List ℕ)) → IsDone before middle tick call reply plain → (IsAt middle (entries tick call) (done plain call) → IsAt now (entries tick call) (done plain call))
    → IsDone before now tick call reply plain
freed-done before middle now tick call reply plain is stays = record { told = is.told; ok = is.ok; after = stays is.after }
