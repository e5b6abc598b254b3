-- Parts of a text that were written one behind the other.
use Rattle.std.proofs.Common.{◌≡◌, ◌++◌, List, [], ℕ, Result, Ok, Err, ap, sym, ◌∙◌, append_assoc, append-nil}
use Rattle.std.specs.Prelude.{OnOk}

pub on_ok : {T E : Type 0} (result : Result T E) (P Q : Type 0) → (P → Q) → OnOk result P → OnOk result Q
on_ok (Ok x) P Q f p = f p
on_ok (Err e) P Q f p = tt

pub four : (s0 s1 s2 s3 s4 a b c d : List ℕ) → s0 ≡ [] → s1 ≡ s0 ++ a → s2 ≡ s1 ++ b → s3 ≡ s2 ++ c → s4 ≡ s3 ++ d → s4 ≡ a ++ (b ++ (c ++ (d ++ [])))
four s0 s1 s2 s3 s4 a b c d none one two three last =
    last
    ∙ ap (λ (s : List ℕ). s ++ d) (three ∙ ap (λ (s : List ℕ). s ++ c) (two ∙ ap (λ (s : List ℕ). s ++ b) (one ∙ ap (λ (s : List ℕ). s ++ a) none)))
    ∙ append_assoc (a ++ b) c d ∙ append_assoc a b (c ++ d)
    ∙ ap (λ (s : List ℕ). a ++ (b ++ (c ++ s))) (sym (append-nil d))
