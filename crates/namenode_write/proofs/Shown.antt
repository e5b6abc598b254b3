-- What a namenode shows of the plain state of its journal.
use Rattle.std.proofs.Common.{◌≡◌, ℕ, ◌-◌, Bool, true, List, [], ◌∷◌, length, map, slice_get, refl, sym, ap, ◌∙◌, arith}
use Rattle.std.proofs.lemmas.List.{length-map}
use Rattle.hs_types.specs.Names.{Names}
use Rattle.hs_plain.specs.declared.state.Node.{Node}
use Rattle.hs_plain.specs.declared.state.Member.{Member}
use Rattle.hs_plain.specs.declared.state.State.{State}
use Rattle.hs_plain.specs.declared.state.FileBlocks.{FileBlocks}
use Rattle.hs_types.specs.declared.shown.TreeLine.{TreeLine}
use Rattle.hs_plain.specs.declared.state.Body.{Body}
use Rattle.hs_plain.specs.declared.state.Body.TheVariants.{File, Dir}
use Rattle.hs_plain.specs.Lines.{tree_line, lines_of, tree_lines}
use Rattle.hs_plain.specs.Tree.{Tree, is_dir_body, size_of}
use Rattle.hs_plain.specs.Viewed.{StandsFor, viewed_body, viewed_tree, viewed_place, viewed_member}
use Rattle.hs_plain.proofs.Viewed.{listing-viewed}
use Rattle.hs_types.specs.declared.reply.Item.{Item}

module _ (whole : State FileBlocks) (plain : State (List ℕ)) (sized : StandsFor whole plain) where
  -- as many nodes, and as many snapshots
  pub nodes-same : length whole.tree ≡ length plain.tree
  nodes-same = sym (length-map whole.tree (viewed_place (λ (file : FileBlocks). file.size))) ∙ ap (λ (s : State ℕ). length s.tree) sized ∙ length-map plain.tree (viewed_place (λ (bytes : List ℕ). length bytes))

  pub members-same : length whole.members ≡ length plain.members
  members-same = sym (length-map whole.members (viewed_member (λ (file : FileBlocks). file.size))) ∙ ap (λ (s : State ℕ). length s.members) sized ∙ length-map plain.members (viewed_member (λ (bytes : List ℕ). length bytes))

-- no snapshots, where there are none in the plain state
pub alone-same : (whole : State FileBlocks) (plain : State (List ℕ)) → StandsFor whole plain → plain.members ≡ [] → whole.members ≡ []
alone-same whole plain sized none = by whole.members (members-same whole plain sized ∙ ap length none)
  where
    by : (ms : List (Member FileBlocks)) → length ms ≡ 0 → ms ≡ []
    by [] empty = refl
    by (m ∷ ms) empty = absurd (omega (arith, empty))

-- ---- the lines of the live tree

-- a line with this size
abbrev line_with : {B : Type 0} → Names × Node B → ℕ → Bool → TreeLine
line_with place size is_dir = record { depth = length place.0; id = place.1.id; is_dir = is_dir; mode = place.1.mode; stamp = place.1.stamp; size = size; name = slice_get place.0 (length place.0 - 1) }

-- the line of a node whose file is its size alone
line-viewed : {B : Type 0} (size : B → ℕ) (whole : Tree B) (place : Names × Node B) → tree_line (λ n. n) (viewed_tree size whole) (viewed_place size place) ≡ tree_line size whole place
line-viewed {B} size whole place = by place.1.body
  where
    by : (body : Body B) → line_with place (size_of (λ n. n) (viewed_tree size whole) place.0 (viewed_body size body)) (is_dir_body (viewed_body size body)) ≡ line_with place (size_of size whole place.0 body) (is_dir_body body)
    by (File file) = refl
    by Dir = ap (λ (items : List Item). line_with place (length items) true) (listing-viewed size whole place.0)

lines-viewed : {B : Type 0} (size : B → ℕ) (whole tree : Tree B) → map (tree_line (λ n. n) (viewed_tree size whole)) (viewed_tree size tree) ≡ map (tree_line size whole) tree
lines-viewed size whole [] = refl
lines-viewed size whole (place ∷ tree) =
    ap (λ (line : TreeLine). line ∷ map (tree_line (λ n. n) (viewed_tree size whole)) (viewed_tree size tree)) (line-viewed size whole place)
    ∙ ap (λ (lines : List TreeLine). tree_line size whole place ∷ lines) (lines-viewed size whole tree)

pub lines_stand : (whole : State FileBlocks) (plain : State (List ℕ)) → StandsFor whole plain → lines_of (λ file. file.size) whole.tree ≡ tree_lines plain
lines_stand whole plain stands =
    sym (lines-viewed (λ file. file.size) whole.tree whole.tree)
    ∙ ap (λ (sized : State ℕ). lines_of (λ n. n) sized.tree) stands
    ∙ lines-viewed length plain.tree plain.tree
