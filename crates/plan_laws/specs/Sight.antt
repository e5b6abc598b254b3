-- What stands at each path of a tree, and how the moves of a plan change it.
use Rattle.std.specs.List.{AllByRecursion}
use Rattle.std.specs.Prelude.{◌≡◌, ◌⊎◌, ℕ, ◌+◌, Bool, true, false, ◌||◌, if◌then◌else◌, List, [], ◌∷◌, ◌++◌, Option, Some, None, is_some}
use Rattle.hs_types.specs.Names.{Names}
use Rattle.hs_plain.specs.Plan.{rest_below}
use Rattle.hs_plain.specs.Tree.{same_path}

abbrev pub Sight : Type 0 → Type 0
Sight X = Names → Option X

abbrev pub is_at_or_below : Names → Names → Bool
is_at_or_below above path = is_some (rest_below above path)

-- whether a path is one of these, or below one
abbrev pub hits : List Names → Names → Bool
hits [] path = false
hits (above ∷ others) path = is_at_or_below above path || hits others path

abbrev pub inside_or : {X : Type 0} → Option Names → Sight X → Option X → Option X
inside_or None inside outside = outside
inside_or (Some rest) inside outside = inside rest

abbrev pub moved_sight : {X : Type 0} → Sight X → Names → Names → Sight X
moved_sight sight old new path = inside_or (rest_below new path) (λ rest. sight (old ++ rest)) (inside_or (rest_below old path) (λ rest. None) (sight path))

abbrev pub at_top : {X : Type 0} → X → Option X → Sight X
at_top node below [] = Some node
at_top node below (name ∷ names) = below

abbrev pub made_sight : {X : Type 0} → Sight X → Names → X → Sight X
made_sight sight at node path = inside_or (rest_below at path) (at_top node (sight path)) (sight path)

-- nothing, where a test holds
abbrev pub unless : {X : Type 0} → Bool → Option X → Option X
unless test seen = if test then None else seen

-- whether a test holds at one of the paths down to this one, but for the first
abbrev pub cuts : (Names → Bool) → Names → Bool
cuts test [] = false
cuts test (name ∷ rest) = test (name ∷ []) || cuts (λ below. test (name ∷ below)) rest

-- two sights at one path: nothing at both, or two that are alike
abbrev pub Both : {X : Type 0} → (X → X → Type 0) → Option X → Option X → Type 0
Both Alike None None = Unit {0}
Both Alike None (Some b) = ⊥
Both Alike (Some a) None = ⊥
Both Alike (Some a) (Some b) = Alike a b

-- the outs, one after the other, into names of a directory
abbrev pub outs_done : {X : Type 0} → List ℕ → (ℕ → List ℕ) → Sight X → ℕ → List Names → Sight X
outs_done tmp number sight i [] = sight
outs_done tmp number sight i (path ∷ paths) = outs_done tmp number (moved_sight sight path (tmp ∷ number i ∷ [])) (i + 1) paths

-- each of these and each later one are such
abbrev pub Pairwise : {A : Type 0} → (A → A → Type 0) → List A → Type 0
Pairwise R [] = Unit {0}
Pairwise R (x ∷ xs) = AllByRecursion (R x) xs × Pairwise R xs

-- no path is at or below an earlier one
abbrev pub NoneBelow : List Names → Type 0
NoneBelow paths = Pairwise (λ path later. rest_below path later ≡ None) paths

-- no path is at or below a later one
abbrev pub Rises : List Names → Type 0
Rises paths = Pairwise (λ path later. rest_below later path ≡ None) paths

-- neither the root, nor the temporary directory, nor below that
abbrev pub IsNotIn : List ℕ → Names → Type 0
IsNotIn tmp [] = ⊥
IsNotIn tmp (name ∷ path) = name ≡ tmp → ⊥

-- a rename is accepted: its source is there, a directory stands above its target, and nothing at it
pub record Goes {X : Type 0} (is_dir : X → Bool) (sight : Sight X) (old above : Names) (name : List ℕ) : Type 0 where
  pub there : is_some (sight old) ≡ true
  pub above_dir : (node : X) × (sight above ≡ Some node) × (is_dir node ≡ true)
  pub free : sight (above ++ name ∷ []) ≡ None

abbrev pub OutsGo : {X : Type 0} → (X → Bool) → List ℕ → (ℕ → List ℕ) → Sight X → ℕ → List Names → Type 0
OutsGo is_dir tmp number sight i [] = Unit {0}
OutsGo is_dir tmp number sight i (path ∷ paths) = Goes is_dir sight path (tmp ∷ []) (number i) × OutsGo is_dir tmp number (moved_sight sight path (tmp ∷ number i ∷ [])) (i + 1) paths

-- ---- paths in a list

abbrev pub is_in : List Names → Names → Bool
is_in [] path = false
is_in (one ∷ others) path = same_path one path || is_in others path

-- ---- the puts

-- what was put away under a number comes to a path, or a new directory does
pub data Placing (X : Type 0) : Type 0 where
  Back : ℕ → Names → List ℕ → Placing X
  New : X → Names → List ℕ → Placing X

abbrev pub above_of : {X : Type 0} → Placing X → Names
above_of (Back i above name) = above
above_of (New node above name) = above

abbrev pub target : {X : Type 0} → Placing X → Names
target (Back i above name) = above ++ name ∷ []
target (New node above name) = above ++ name ∷ []

abbrev pub targets : {X : Type 0} → List (Placing X) → List Names
targets [] = []
targets (put ∷ puts) = target put ∷ targets puts

abbrev pub put_done : {X : Type 0} → List ℕ → (ℕ → List ℕ) → Sight X → Placing X → Sight X
put_done tmp number sight (Back i above name) = moved_sight sight (tmp ∷ number i ∷ []) (above ++ name ∷ [])
put_done tmp number sight (New node above name) = made_sight sight (above ++ name ∷ []) node

abbrev pub puts_done : {X : Type 0} → List ℕ → (ℕ → List ℕ) → Sight X → List (Placing X) → Sight X
puts_done tmp number sight [] = sight
puts_done tmp number sight (put ∷ puts) = puts_done tmp number (put_done tmp number sight put) puts

-- a mkdir is accepted
pub record Makes {X : Type 0} (is_dir : X → Bool) (sight : Sight X) (above : Names) (name : List ℕ) : Type 0 where
  pub above_dir : (node : X) × (sight above ≡ Some node) × (is_dir node ≡ true)
  pub free : sight (above ++ name ∷ []) ≡ None

abbrev pub PutGoes : {X : Type 0} → (X → Bool) → List ℕ → (ℕ → List ℕ) → Sight X → Placing X → Type 0
PutGoes is_dir tmp number sight (Back i above name) = Goes is_dir sight (tmp ∷ number i ∷ []) above name
PutGoes is_dir tmp number sight (New node above name) = Makes is_dir sight above name

abbrev pub PutsGo : {X : Type 0} → (X → Bool) → List ℕ → (ℕ → List ℕ) → Sight X → List (Placing X) → Type 0
PutsGo is_dir tmp number sight [] = Unit {0}
PutsGo is_dir tmp number sight (put ∷ puts) = PutGoes is_dir tmp number sight put × PutsGo is_dir tmp number (put_done tmp number sight put) puts

-- ---- two trees, and where they differ

-- a child of two nodes that are alike: alike again and with no line, or, on either side, not there or cut off by a line
pub record Same {X : Type 0} (Alike : X → X → Type 0) (from to : Sight X) (is_out is_put : Names → Bool) (p t : Names) : Type 0 where
  pub a : X
  pub b : X
  pub here : from p ≡ Some a
  pub there : to t ≡ Some b
  pub alike : Alike a b
  pub no_out : is_out p ≡ false
  pub no_put : is_put t ≡ false

abbrev pub Child : {X : Type 0} → (X → X → Type 0) → Sight X → Sight X → (Names → Bool) → (Names → Bool) → Names → Names → Type 0
Child Alike from to is_out is_put p t = Same Alike from to is_out is_put p t ⊎ ((from p ≡ None ⊎ is_out p ≡ true) × (to t ≡ None ⊎ is_put t ≡ true))

-- two sights, the paths of outs, and the targets of puts, which meet at each child of nodes that are alike
pub record Differ {X : Type 0} (Alike : X → X → Type 0) (from to : Sight X) (is_out is_put : Names → Bool) : Type 0 where
  pub child : (p t : Names) (name : List ℕ) (a b : X) → from p ≡ Some a → to t ≡ Some b → Alike a b → Child Alike from to is_out is_put (p ++ name ∷ []) (t ++ name ∷ [])
  pub none_below : (p : Names) (name : List ℕ) → from p ≡ None → from (p ++ name ∷ []) ≡ None
  pub none_below_there : (p : Names) (name : List ℕ) → to p ≡ None → to (p ++ name ∷ []) ≡ None

-- what was put away for a put is there still: below two nodes that are alike, all that no out has taken; or a new directory stands in the other tree, below which all is new or comes by a put
abbrev pub Ready : {X : Type 0} → (X → X → Type 0) → Sight X → Sight X → (Names → Bool) → (Names → Bool) → List ℕ → (ℕ → List ℕ) → Sight X → Placing X → Type 0
Ready Alike from to is_out is_put tmp number sight (Back i above name) =
    (p : Names) × (a : _) × (b : _) × (from p ≡ Some a) × (to (above ++ name ∷ []) ≡ Some b) × Alike a b
    × ((r : Names) → sight (tmp ∷ number i ∷ r) ≡ unless (cuts (λ x. is_out (p ++ x)) r) (from (p ++ r)))
Ready Alike from to is_out is_put tmp number sight (New node above name) =
    (to (above ++ name ∷ []) ≡ Some node) × Alike node node
    × ((n : List ℕ) → to ((above ++ name ∷ []) ++ n ∷ []) ≡ None ⊎ is_put ((above ++ name ∷ []) ++ n ∷ []) ≡ true)

-- no number comes twice
abbrev pub IsOther : {X : Type 0} → ℕ → Placing X → Type 0
IsOther i (Back j above name) = j ≡ i → ⊥
IsOther i (New node above name) = Unit {0}

abbrev pub NumberOnce : {X : Type 0} → List (Placing X) → Type 0
NumberOnce [] = Unit {0}
NumberOnce (Back i above name ∷ puts) = AllByRecursion (IsOther i) puts × NumberOnce puts
NumberOnce (New node above name ∷ puts) = NumberOnce puts

-- what later puts cut off below an earlier one's target is what all puts do, and none comes above it
abbrev pub IsLinked : {X : Type 0} → (Names → Bool) → List (Placing X) → Type 0
IsLinked is_put [] = Unit {0}
IsLinked is_put (put ∷ puts) = AllByRecursion (λ later. rest_below later (target put) ≡ None) (targets puts)
    × ((r : Names) → hits (targets puts) (target put ++ r) ≡ cuts (λ x. is_put (target put ++ x)) r) × IsLinked is_put puts

-- outside of tmp stands what the other tree has, but for what is still to be put
abbrev pub Stands : {X : Type 0} → (X → X → Type 0) → Sight X → List ℕ → Sight X → List Names → Type 0
Stands Alike to tmp sight paths = (q : Names) → rest_below (tmp ∷ []) q ≡ None → Both Alike (sight q) (unless (hits paths q) (to q))

-- a node stands below directories alone
abbrev pub HasDirs : {X : Type 0} → (X → Bool) → Sight X → Type 0
HasDirs is_dir to = (above : Names) (name : List ℕ) (node : _) → to (above ++ name ∷ []) ≡ Some node → (dir : _) × (to above ≡ Some dir) × (is_dir dir ≡ true)

-- a put of something else
abbrev pub map_put : {X Y : Type 0} → (X → Y) → Placing X → Placing Y
map_put f (Back i above name) = Back i above name
map_put f (New node above name) = New (f node) above name
