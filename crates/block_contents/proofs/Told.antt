-- Facts of maps that a store may tell.
use Rattle.std.proofs.Common.{Result, Ok, Err, OnOk, OnErr, Option, None, Some, IfSome}
use Rattle.hs_types.specs.Blocks.{BlockMap}
use Rattle.block_store.specs.Changes.{Changes}

pub changes_map : (H : BlockMap → Type 0) (P Q : BlockMap → BlockMap → Type 0) (told now : Option BlockMap) → ((a b : BlockMap) → H a → P a b → Q a b)
    → IfSome told H → Changes told now P → Changes told now Q
changes_map H P Q None None f held change = tt
changes_map H P Q None (Some b) f held change = change
changes_map H P Q (Some a) None f held change = change
changes_map H P Q (Some a) (Some b) f held change = f a b held change

pub changes_same : (H : BlockMap → Type 0) (Q : BlockMap → BlockMap → Type 0) (told : Option BlockMap) → ((a : BlockMap) → H a → Q a a) → IfSome told H → Changes told told Q
changes_same H Q None f held = tt
changes_same H Q (Some a) f held = f a held

pub changes_then : (P Q R : BlockMap → BlockMap → Type 0) (told between now : Option BlockMap) → ((a b c : BlockMap) → P a b → Q b c → R a c)
    → Changes told between P → Changes between now Q → Changes told now R
changes_then P Q R None None None f one two = tt
changes_then P Q R None None (Some c) f one two = two
changes_then P Q R None (Some b) now f one two = absurd one
changes_then P Q R (Some a) None now f one two = absurd one
changes_then P Q R (Some a) (Some b) None f one two = two
changes_then P Q R (Some a) (Some b) (Some c) f one two = f a b c one two

pub told_map : (H Q : BlockMap → Type 0) (told : Option BlockMap) → ((a : BlockMap) → H a → Q a) → IfSome told H → IfSome told Q
told_map H Q None f held = tt
told_map H Q (Some a) f held = f a held

pub told_after : (P : BlockMap → BlockMap → Type 0) (Q : BlockMap → Type 0) (told now : Option BlockMap) → ((a b : BlockMap) → P a b → Q b) → Changes told now P → IfSome now Q
told_after P Q None None f change = tt
told_after P Q None (Some b) f change = absurd change
told_after P Q (Some a) None f change = tt
told_after P Q (Some a) (Some b) f change = f a b change

pub on_ok : {T E : Type 0} {P Q : Type 0} (r : Result T E) → (P → Q) → OnOk r P → OnOk r Q
on_ok (Ok x) f p = f p
on_ok (Err e) f p = tt

-- what holds after both outcomes holds
pub on_both : {T E : Type 0} {P Q R : Type 0} (r : Result T E) → (P → R) → (Q → R) → OnOk r P → OnErr r Q → R
on_both (Ok x) f g p q = f p
on_both (Err e) f g p q = g q

pub changes_weaken : (P Q : BlockMap → BlockMap → Type 0) (told now : Option BlockMap) → ((a b : BlockMap) → P a b → Q a b) → Changes told now P → Changes told now Q
changes_weaken P Q None None f change = tt
changes_weaken P Q None (Some b) f change = change
changes_weaken P Q (Some a) None f change = change
changes_weaken P Q (Some a) (Some b) f change = f a b change

pub told_with : (H P Q : BlockMap → Type 0) (told : Option BlockMap) → ((a : BlockMap) → H a → P a → Q a) → IfSome told H → IfSome told P → IfSome told Q
told_with H P Q None f held told = tt
told_with H P Q (Some a) f held told = f a held told
