-- Copies of jobs, one after the other.
use Rattle.std.proofs.Common.{◌≡◌, ℕ, ◌+◌, Option, Some, None, Ok, Err, List, [], ◌∷◌, ◌++◌, length, refl, ap, sym, ◌∙◌, subst, append-nil, append_assoc, length-append, arith}
use Rattle.hs_types.specs.declared.ids.SnapId.{SnapId}
use Rattle.hs_plain.specs.declared.plan.CopyJob.{CopyJob}
use Rattle.page_join.specs.Links.{Known}
use Rattle.copy_workers.specs.Copying.{IsCopy}
use Rattle.copy_workers.specs.declared.copied.Look.{Look}
use Rattle.copy_workers.specs.declared.copied.Copied.{Copied}
use Rattle.distcp_sync.specs.declared.answer.SyncAnswer.{SyncAnswer}
use Rattle.distcp_sync.specs.Told.{answer_at, OrNoMemory}
use Rattle.distcp_sync.specs.inside.Trace.{AreCopied, all, ends, next}
use Rattle.distcp_sync.specs.inside.Tried.{EndsBy, AreCopiedWith, AreCopiedUpTo}

module _ (snap : SnapId) (root : List ℕ) where
  -- copies that are all whole, and then those of further jobs
  copied_then : (first : ℕ) (front jobs : List CopyJob) (source source_now source_then target target_now target_then : Known) (whole more : List Copied) (ended : Option Look) →
      AreCopied snap root first front source source_now target target_now whole None → AreCopied snap root (first + length front) jobs source_now source_then target_now target_then more ended →
      AreCopied snap root first (front ++ jobs) source source_then target target_then (whole ++ more) ended
  copied_then first front jobs s sn st t tn tt' whole more ended (all number source target) behind = subst (λ (n : ℕ). AreCopied snap root n jobs sn st tn tt' more ended) (omega arith) behind
  copied_then first front jobs s sn st t tn tt' whole more ended (next number job rest source sm source_then target tm target_then copied others ended_not copy well before) behind =
      next number job (rest ++ jobs) s sm st t tm tt' copied (others ++ more) ended copy well
      (copied_then (number + 1) rest jobs sm sn st tm tn tt' others more ended before (subst (λ (n : ℕ). AreCopied snap root n jobs sn st tn tt' more ended) (omega arith) behind))

  pub copies_none : (first : ℕ) (jobs : List CopyJob) (source target : Known) (copies : List Copied) → AreCopiedUpTo snap root first first jobs jobs source source target target copies copies
  copies_none first jobs source target copies = record {
    front = [];
    all = refl;
    counted = omega arith;
    more = [];
    copies_are = sym (append-nil copies);
    copied = all first source target;
  }

  -- one copy more, of the next job
  module _ (first number : ℕ) (whole left : List CopyJob) (job : CopyJob) (source source_now source_then target target_now target_then : Known) (before now after : List Copied) (copied : Copied)
      (up : AreCopiedUpTo snap root first number whole (job ∷ left) source source_now target target_now before now) (copy : IsCopy number job snap root source_now source_then target_now target_then copied) (put : after ≡ now ++ copied ∷ []) where
    copies_put : after ≡ before ++ (up.more ++ copied ∷ [])
    copies_put = put ∙ ap (λ (l : List Copied). l ++ copied ∷ []) up.copies_are ∙ append_assoc before up.more (copied ∷ [])

    at_number : (jobs : List CopyJob) (ended : Option Look) → AreCopied snap root number jobs source_now source_then target_now target_then (copied ∷ []) ended →
        AreCopied snap root first (up.front ++ jobs) source source_then target target_then (up.more ++ copied ∷ []) ended
    at_number jobs ended one =
        copied_then first up.front jobs source source_now source_then target target_now target_then up.more (copied ∷ []) ended up.copied
        (subst (λ (n : ℕ). AreCopied snap root n jobs source_now source_then target_now target_then (copied ∷ []) ended) up.counted one)

    whole_more : copied.ended ≡ None → AreCopiedUpTo snap root first (number + 1) whole left source source_then target target_then before after
    whole_more well = record {
      front = up.front ++ job ∷ [];
      all = up.all ∙ sym (append_assoc up.front (job ∷ []) left);
      counted = omega (arith, up.counted, length-append up.front (job ∷ []));
      more = up.more ++ copied ∷ [];
      copies_are = copies_put;
      copied = at_number (job ∷ []) None (next number job [] source_now source_then source_then target_now target_then target_then copied [] None copy well (all (number + 1) source_then target_then));
    }

    ended_more : (look : Look) (answer : SyncAnswer) → copied.ended ≡ Some look → OrNoMemory (answer_at look) answer → AreCopiedWith snap root first whole source source_then target target_then before after (Err answer)
    ended_more look answer bad told = record {
      more = up.more ++ copied ∷ [];
      ended = Some look;
      copies_are = copies_put;
      copied = subst (λ (jobs : List CopyJob). AreCopied snap root first jobs source source_then target target_then (up.more ++ copied ∷ []) (Some look)) (sym up.all)
          (at_number (job ∷ left) (Some look) (ends number job left source_now source_then target_now target_then copied look copy bad));
      ends = told;
    }

    pub copies_more : EndsBy copied.ended (Ok tt) → AreCopiedUpTo snap root first (number + 1) whole left source source_then target target_then before after
    copies_more told = whole_more (by copied.ended told)
      where
        by : (ended : Option Look) → EndsBy ended (Ok tt) → ended ≡ None
        by None e = refl
        by (Some look) e = absurd e

    pub copies_ended : (answer : SyncAnswer) → EndsBy copied.ended (Err answer) → AreCopiedWith snap root first whole source source_then target target_then before after (Err answer)
    copies_ended answer told = by copied.ended refl told
      where
        by : (ended : Option Look) → copied.ended ≡ ended → EndsBy ended (Err answer) → AreCopiedWith snap root first whole source source_then target target_then before after (Err answer)
        by None is e = absurd (cc)
        by (Some look) is e = ended_more look answer is e
