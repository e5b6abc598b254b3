-- The bytes and the blocks of files that stand in a tree.
use Rattle.std.proofs.Common.{◌≡◌, ℕ, ◌+◌, ◌-◌, ◌*◌, ◌<◌, ◌≤◌, min, true, false, cond, List, [], ◌∷◌, length, take, drop, Option, Some, Ok, Err, refl, ap, sym, subst, ◌∙◌, arith, length-append, length-take}
use Rattle.std.specs.List.{AllByRecursion}
use Rattle.std.proofs.lemmas.List.{drop-replicate, take-replicate, take_all, length-replicate}
use Rattle.std.proofs.lemmas.Bool.Decides.{leb_tells}
use mathlib.Core.Logic.{⊎_elim}
use Rattle.std.proofs.lemmas.Simd.{splat_is_map}
use Rattle.hs_types.specs.Paths.{path_of}
use Rattle.hs_types.specs.Blocks.{BlockMap, IsFile, HoldsFile, find, bytes_of, joined, file_bytes}
use Rattle.hs_types.specs.Limits.{block_size}
use Rattle.hs_types.specs.declared.ids.BlockId.{BlockId}
use Rattle.hs_types.specs.declared.ids.InodeId.{InodeId}
use Rattle.hs_types.specs.declared.call.Place.{Place}
use Rattle.hs_types.specs.declared.call.Place.TheVariants as places
use Rattle.hs_types.specs.declared.reply.Reply.TheVariants as replies
use Rattle.hs_types.specs.declared.call.ReadCursor.{ReadCursor}
use Rattle.hs_types.specs.declared.refusal.Refusal.TheVariants.{NotFound, NotFile, Gone}
use Rattle.hs_plain.specs.declared.state.Body.{Body}
use Rattle.hs_plain.specs.declared.state.Body.TheVariants.{File, Dir}
use Rattle.hs_plain.specs.declared.state.Member.{Member}
use Rattle.hs_plain.specs.declared.state.State.{State}
use Rattle.hs_plain.specs.declared.state.FileBlocks.{FileBlocks}
use Rattle.hs_plain.specs.Asked.{Asked, ◌>>=◌, refuse_if}
use Rattle.hs_plain.specs.Files.{block_files, zeros}
use Rattle.hs_plain.specs.Tree.{Tree, same_inode, place_of}
use Rattle.hs_plain.specs.State.{resolve, is_snapshottable, member_with}
use Rattle.hs_plain.specs.Modifying.{file_in}
use Rattle.hs_plain.specs.Reading.{file_there, file_at, found_file, next_file, is_gone, page_at}
use Rattle.hs_plain.specs.Pages.{next_read}
use Rattle.hs_plain.specs.Answer.{blank, blanked}
use Rattle.hs_plain.specs.Viewed.{bytes_in}
use Rattle.hs_plain.proofs.ValidAsked.{same_ok, ok_then}
use Rattle.block_contents.proofs.Whole.{holds_least}

-- ---- how many bytes a file has

joined_long : (map : BlockMap) (blocks : List BlockId) (size : ℕ) → HoldsFile map size blocks → size ≤ length blocks * block_size → size ≤ length (joined map blocks)
joined_long map [] size held within = omega arith
joined_long map (block ∷ blocks) size held within =
    let least = holds_least (find map block) (min size block_size) held.0 in
    let rest = joined_long map blocks (size - block_size) held.1 (omega arith) in
    omega (arith, length-append (bytes_of map block) (joined map blocks))

-- a file has as many bytes as its size says
pub length-file : (map : BlockMap) (size : ℕ) (blocks : List BlockId) → IsFile size blocks → HoldsFile map size blocks → length (file_bytes map size blocks) ≡ size
length-file map size blocks is held =
    let least = is.least in
    let long = joined_long map blocks size held (omega arith) in
    omega (arith, length-take size (joined map blocks))

-- ---- pages

first_zeros : (len count : ℕ) → take len (zeros count) ≡ zeros (min len count)
first_zeros len count = ⊎_elim (λ short. yes short.1) (λ long. no long.1) (leb_tells len count)
  where
    yes : len ≤ count → take len (zeros count) ≡ zeros (min len count)
    yes short = let e : len ≡ min len count = omega arith in take-replicate len count 0 short ∙ ap zeros e

    no : count < len → take len (zeros count) ≡ zeros (min len count)
    no long =
        let e : count ≡ min len count = omega arith in
        let l : length (zeros count) ≡ count = length-replicate count 0 in
        take_all len (zeros count) (omega arith) ∙ ap zeros e

cut_zeros : (size offset len : ℕ) → take len (drop offset (zeros size)) ≡ zeros (min len (size - offset))
cut_zeros size offset len = ap (λ (xs : List ℕ). take len xs) (drop-replicate offset size 0) ∙ first_zeros len (size - offset)

-- a page with the right number of bytes is one of the file, but for the bytes
pub page-sized : (place : Place) (file : FileBlocks) (offset len : ℕ) (bytes : List ℕ) (next : Option ReadCursor) → next ≡ next_read place file.size (offset + len) → length bytes ≡ min len (file.size - offset)
    → blanked (replies.Bytes bytes next) ≡ page_at block_files offset len (place, file)
page-sized place file offset len bytes next next_is long =
    ap (λ (n : Option ReadCursor). replies.Bytes (blank bytes) n) next_is
    ∙ ap (λ (b : List ℕ). replies.Bytes b (next_read place file.size (offset + len))) (sym (splat_is_map bytes (length bytes) 0 refl) ∙ ap zeros long ∙ sym (cut_zeros file.size offset len))
    ∙ ap (λ n. replies.Bytes (take len (drop offset (zeros file.size))) (next_read place n (offset + len))) (sym (length-replicate file.size 0))

pub page-told : (map : BlockMap) (place : Place) (file : FileBlocks) (offset len : ℕ) (bytes : List ℕ) (next : Option ReadCursor) → next ≡ next_read place file.size (offset + len) → IsFile file.size file.blocks → HoldsFile map file.size file.blocks
    → bytes ≡ take len (drop offset (file_bytes map file.size file.blocks))
    → replies.Bytes bytes next ≡ page_at (record block_files { bytes = bytes_in map }) offset len (place, file)
page-told map place file offset len bytes next next_is is held bytes_are =
    ap (λ (n : Option ReadCursor). replies.Bytes bytes n) next_is
    ∙ ap (λ (b : List ℕ). replies.Bytes b (next_read place file.size (offset + len))) bytes_are
    ∙ ap (λ n. replies.Bytes (take len (drop offset (bytes_in map file))) (next_read place n (offset + len))) (sym (length-file map file.size file.blocks is held))

-- ---- the file that a call finds

module _ (P : Body FileBlocks → Type 0) where
  in_body : (body : Body FileBlocks) (file : FileBlocks) → file_in body ≡ Ok file → P body → P (File file)
  in_body (File own) file is p = subst (λ (f : FileBlocks). P (File f)) (same_ok is) p
  in_body Dir file is p = cc

  there : (tree : Tree FileBlocks) (id : InodeId) (file : FileBlocks) → file_there (place_of tree id) ≡ Ok file → AllByRecursion (λ place. P place.1.body) tree → P (File file)
  there [] id file is all = cc
  there (place ∷ tree) id file is all =
      elim (same_inode place.1.id id) as (λ b. file_there (cond b (Some place) (place_of tree id)) ≡ Ok file → P (File file)) [
        | true ↦ λ is. in_body place.1.body file is all.0
        | false ↦ λ is. there tree id file is all.1
      ] is

  -- without snapshots the file at a place is one of the live tree
  file_at-so : (state : State FileBlocks) → state.members ≡ [] → AllByRecursion (λ place. P place.1.body) state.tree → (place : Place) (file : FileBlocks) → file_at state place ≡ Ok file → P (File file)
  file_at-so state none all (places.Live id) file is = there state.tree id file is all
  file_at-so state none all (places.Frozen id snapshot) file is =
      let gone : (member_with {B = FileBlocks} [] snapshot >>= λ member. file_there (place_of member.tree id)) ≡ Ok file =
      ap (λ (ms : List (Member FileBlocks)). member_with ms snapshot >>= λ member. file_there (place_of member.tree id)) (sym none) ∙ is in
      cc
  file_at-so state none all (places.SnapshotsOf dir) file is =
      elim (is_snapshottable state dir) as (λ b. cond {A = Asked FileBlocks} b (Err NotFile) (Err NotFound) ≡ Ok file → P (File file)) [ true ↦ λ is. cc | false ↦ λ is. cc ] is

  pub found_file-so : (state : State FileBlocks) (text : List ℕ) (at : Place × FileBlocks) → state.members ≡ [] → AllByRecursion (λ place. P place.1.body) state.tree → found_file state text ≡ Ok at → P (File at.1)
  found_file-so state text at none all is =
      let a = ok_then (path_of text) _ at is in
      let b = ok_then (resolve state a.0) _ at a.2 in
      let c = ok_then (file_at state b.0) _ at b.2 in
      subst (λ (x : Place × FileBlocks). P (File x.1)) (same_ok c.2) (file_at-so state none all b.0 c.0 c.1)

  pub next_file-so : (state : State FileBlocks) (place : Place) (at : Place × FileBlocks) → state.members ≡ [] → AllByRecursion (λ place. P place.1.body) state.tree → next_file state place ≡ Ok at → P (File at.1)
  next_file-so state place at none all is =
      let a = ok_then (refuse_if (is_gone state place) Gone) _ at is in
      let b = ok_then (file_at state place) _ at a.2 in
      subst (λ (x : Place × FileBlocks). P (File x.1)) (same_ok b.2) (file_at-so state none all place b.0 b.1)
