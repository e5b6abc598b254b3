-- What stays of a namenode stays over further calls. For the laws of a link.
use Rattle.std.specs.Prelude.{◌≡◌, ℕ, Bool, true, false, ◌&&◌, List, [], ◌∷◌, ◌++◌}
use Rattle.std.specs.List.{list_all}
use Rattle.std.proofs.Common.{refl, ap, sym, ◌∙◌, subst, append-nil, append_assoc}
use Rattle.hs_types.specs.declared.ids.CallerId.{CallerId}
use Rattle.hs_types.specs.declared.journal.Entry.{Entry}
use Rattle.namenode_write.specs.NamenodeValue.{NamenodeValue}
use Rattle.namenode_write.proofs.FaultCountLaws.{counted_none, counted_then}
use Rattle.page_join.specs.Links.{is_of}
use Rattle.namenode_lock.specs.NodeLinks.{StaysAlone}

and_then : (a b more : Bool) → (b ≡ true → more ≡ true) → (a && b) ≡ true → (a && more) ≡ true
and_then true b more next both = next both
and_then false b more next both = both

all_append : {A : Type 0} (p : A → Bool) (xs ys : List A) → list_all p xs ≡ true → list_all p ys ≡ true → list_all p (xs ++ ys) ≡ true
all_append p [] ys here more = more
all_append p (x ∷ xs) ys here more = and_then (p x) (list_all p xs) (list_all p (xs ++ ys)) (λ rest. all_append p xs ys rest more) here

pub stays_first : {S : Type 0} (faults : S → ℕ) (caller : CallerId) (node : NamenodeValue S) → StaysAlone faults caller caller node node
stays_first faults caller node = record {
  same = refl;
  own = record { more = []; grown = sym (append-nil node.entries); own = refl };
  counted = counted_none faults node;
}

pub stays_then : {S : Type 0} (faults : S → ℕ) (first next last : CallerId) (before now after : NamenodeValue S) →
    StaysAlone faults first next before now → StaysAlone faults next last now after → StaysAlone faults first last before after
stays_then faults first next last before now after one two = record {
  same = two.same ∙ one.same;
  own = record {
    more = one.own.more ++ two.own.more;
    grown = two.own.grown ∙ ap (λ (l : List Entry). l ++ two.own.more) one.own.grown ∙ append_assoc before.entries one.own.more two.own.more;
    own = all_append (is_of first) one.own.more two.own.more one.own.own (subst (λ (c : CallerId). list_all (is_of c) two.own.more ≡ true) one.same two.own.own);
  };
  counted = counted_then faults before now after one.counted two.counted;
}
