use Rattle.std.proofs.Common.{◌≡◌, true, false, ℕ, List, refl, subst}
use Rattle.std.specs.Str.{is_utf8}
use Rattle.std.proofs.lemmas.Str.{is_utf8-from_IsUtf8}
use Rattle.script_text.proofs.Texts.{not_utf8}
use Rattle.script_text.proofs.words.text_of.Goals as goal

pub returns-in_ok-into_owned-in-Ok-clause-is_text : goal.returns-in_ok-into_owned-in-Ok-clause-is_text
returns-in_ok-into_owned-in-Ok-clause-is_text c =
    subst (λ (bs : List ℕ). is_utf8 bs ≡ true) c.percent_decode.ensures.bytes (is_utf8-from_IsUtf8 _ c.in-Ok.ensures.ok_only_if_utf8)

pub returns-in-Err-Utf8-clause-bad : goal.returns-in-Err-Utf8-clause-bad
returns-in-Err-Utf8-clause-bad c =
    (refl, subst (λ (bs : List ℕ). is_utf8 bs ≡ false) c.percent_decode.ensures.bytes (not_utf8 _ (λ is. absurd (cc (c.in-Err-Utf8.ensures.utf8 is)))))
