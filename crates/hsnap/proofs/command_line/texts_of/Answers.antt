use Rattle.std.proofs.Common.{◌≡◌, ◌∙◌, ap, ap₂, ℕ, ◌+◌, ◌<◌, List, [], ◌∷◌, ◌++◌, length, map, take, zero, suc, sym, subst, arith}
use Rattle.std.specs.List.{All, slice_index_or}
use Rattle.std.specs.Str.{IsUtf8}
use Rattle.std.specs.Borrow.{Bor}
use Rattle.std.proofs.lemmas.List.{map-append, take_more, take_all}
use Rattle.std.proofs.lemmas.List.Elements.{All-append}
use Rattle.hsnap.proofs.command_line.texts_of.Goals as goal

-- one word more
one_more : (words : List (List ℕ)) (i : ℕ) (word : List ℕ) → i < length words → word ≡ slice_index_or words i word → take (i + 1) words ≡ take i words ++ word ∷ []
one_more words i word lt is = take_more words i word lt ∙ ap (λ w. take i words ++ w ∷ []) (sym is)

more_texts : (texts now : List (Bor (List ℕ))) (text : Bor (List ℕ)) (words : List (List ℕ)) (i : ℕ) (word : List ℕ) → now ≡ texts ++ text ∷ [] → text.now ≡ word
    → map (λ t. t.now) texts ≡ take i words → i < length words → word ≡ slice_index_or words i word → map (λ t. t.now) now ≡ take (i + 1) words
more_texts texts now text words i word is same before lt at = ap (map (λ t. t.now)) is ∙ (map-append (λ t. t.now) texts (text ∷ [])
    ∙ (ap₂ (λ a b. a ++ b ∷ []) before same ∙ sym (one_more words i word lt at)))

more_spelled : (text : Bor (List ℕ)) (words : List (List ℕ)) (i : ℕ) (word : List ℕ) → IsUtf8 text.now → text.now ≡ word → All IsUtf8 (take i words)
    → i < length words → word ≡ slice_index_or words i word → All IsUtf8 (take (i + 1) words)
more_spelled text words i word spelled same before lt at = subst (All IsUtf8) (sym (one_more words i word lt at))
    (All-append IsUtf8 (take i words) (word ∷ []) before (subst (λ w. All IsUtf8 (w ∷ [])) same (only text.now spelled)))
  where
    only : (w : List ℕ) → IsUtf8 w → All IsUtf8 (w ∷ [])
    only w h = λ k d below. at-first k d below
      where
        at-first : (k : ℕ) (d : List ℕ) → k < 1 → IsUtf8 (slice_index_or (w ∷ []) k d)
        at-first zero d below = h
        at-first (suc k) d below = absurd (omega arith)

pub loop-word-preserved : goal.loop-word-preserved
loop-word-preserved c = record {
  same = more_texts c.loop-word.texts.items c.push.new.self.items c.text.result c.args.words.now c.loop-word.word-index c.word-item.result c.in_ok-push.ensures.items c.text.ensures c.loop-word.invariant.same c.loop-word-test.true c.word-item.is;
  spelled = more_spelled c.text.result c.args.words.now c.loop-word.word-index c.word-item.result c.text.utf8 c.text.ensures c.loop-word.invariant.spelled c.loop-word-test.true c.word-item.is;
}

pub returns-clause-spelled : goal.returns-clause-spelled
returns-clause-spelled c = subst (All IsUtf8) (take_all c.loop-word.word-index c.args.words.now c.loop-word-test.false) c.loop-word.invariant.spelled
