-- The lines of a section, one after the other.
use Rattle.std.proofs.Common.{◌≡◌, ℕ, ◌<◌, Bool, true, ◌&&◌, Option, Some, None, List, [], ◌∷◌, ◌++◌, map, length, refl, ap, sym, ◌∙◌, subst, append_assoc, append-nil, arith}
use Rattle.std.specs.Option.{option_to_list}
use Rattle.std.specs.List.{list_all}
use Rattle.std.proofs.lemmas.List.{map-append}
use Rattle.std.proofs.lemmas.Grind.{flat_map-append}
use Rattle.hs_plain.specs.Legal.{Said}
use Rattle.script_text.specs.declared.script.ScriptLine.{ScriptLine}
use Rattle.script_text.specs.declared.script.Section.{Section}
use Rattle.run_output.specs.declared.ran.LogItem.{LogItem}
use Rattle.run_output.specs.Calls.{Kept, AreOf, kept_by, side_of}
use Rattle.run_output.specs.Steps.{SyncRun, LineRun, AreCalls, DoesSync, kept_after}
use Rattle.run_output.specs.Run.{is_section, items_of, logged, sync_logged}
use Rattle.script_runner.specs.InTurn.{World, IsLineDone, AreLinesRun}
use Rattle.script_runner.specs.Sections.{IsLineRun, IsSectionRun, is_past, IsFront}
use Rattle.script_runner.proofs.Both.{both_first, both_second, both_yes}

pub all_append : {A : Type 0} (p : A → Bool) (xs ys : List A) → list_all p xs ≡ true → list_all p ys ≡ true → list_all p (xs ++ ys) ≡ true
all_append p [] ys here more = more
all_append p (x ∷ xs) ys here more = both_yes (p x) (list_all p (xs ++ ys)) (both_first (p x) (list_all p xs) here) (all_append p xs ys (both_second (p x) (list_all p xs) here) more)

calls_push : (page : ℕ) (kept : Kept) (runs : List LineRun) (run : LineRun) → AreCalls page kept runs → AreOf page (kept_after page kept runs) run.line.command run.said → DoesSync run.line.command run.synced → AreCalls page kept (runs ++ run ∷ [])
calls_push page kept [] run calls one synced = (one, synced, tt)
calls_push page kept (r ∷ runs) run calls one synced = (calls.0, calls.1, calls_push page (kept_by page kept r.line.command r.said) runs run calls.2 one synced)

kept_push : (page : ℕ) (kept : Kept) (runs : List LineRun) (run : LineRun) → kept_after page kept (runs ++ run ∷ []) ≡ kept_by page (kept_after page kept runs) run.line.command run.said
kept_push page kept [] run = refl
kept_push page kept (r ∷ runs) run = kept_push page (kept_by page kept r.line.command r.said) runs run

lines_push : (st dt : Bool) (page c : ℕ) (old now new : World) (runs : List LineRun) (run : LineRun) → AreLinesRun st dt page c old runs now → IsLineDone st dt page c now run.line.command run.said run.synced new → AreLinesRun st dt page c old (runs ++ run ∷ []) new
lines_push st dt page c old now new [] run made one = (new, subst (λ (w : World). IsLineDone st dt page c w run.line.command run.said run.synced new) (sym made) one, refl)
lines_push st dt page c old now new (r ∷ runs) run made one = (made.0, made.1, lines_push st dt page c made.0 now new runs run made.2 one)

-- what a line logs
item_is : (line : ScriptLine) (said : List Said) (synced : Option SyncRun) (item : LogItem) → item.line ≡ line.line → ((n : ℕ) → record { line = n; what = item.what } ∷ [] ≡ sync_logged n synced ++ logged n (side_of line.command) said) → item ∷ [] ≡ items_of (record { line = line; said = said; synced = synced } ∷ [])
item_is line said synced item numbered logs =
    ap (λ n. record { line = n; what = item.what } ∷ []) numbered ∙ logs line.line
    ∙ sym (append-nil (sync_logged line.line synced ++ logged line.line (side_of line.command) said))

section_begin : (st dt : Bool) (page c : ℕ) (section : Section) (old : World) (kept : Kept) (lines : List ScriptLine) → IsSectionRun st dt page c section old old kept kept lines lines []
section_begin st dt page c section old kept lines = record { runs = []; lines = refl; of_section = refl; calls = tt; made = refl; items_are = refl; keeps = refl }

-- one more line
section_grow : (told_s told_t st dt : Bool) (page c caller : ℕ) (section : Section) (old now new : World) (kept mid last : Kept) (before rest after : List ScriptLine) (items new_items : List LogItem) (line : ScriptLine) (item : LogItem) →
    told_s ≡ st → told_t ≡ dt → caller ≡ c → rest ≡ line ∷ after → is_section line.section section ≡ true → new_items ≡ items ++ item ∷ [] →
    IsSectionRun st dt page c section old now kept mid before rest items → IsLineRun told_s told_t page caller now new mid last line item →
    IsSectionRun st dt page c section old new kept last before after new_items
section_grow told_s told_t st dt page c caller section old now new kept mid last before rest after items new_items line item same_s same_t same_c taken of pushed so_far one =
    let run : LineRun = record { line = line; said = one.done.said; synced = one.done.synced } in
    let made : IsLineDone st dt page c now line.command one.done.said one.done.synced new =
    subst (λ b. IsLineDone b dt page c now line.command one.done.said one.done.synced new) same_s
    (subst (λ b. IsLineDone told_s b page c now line.command one.done.said one.done.synced new) same_t
    (subst (λ n. IsLineDone told_s told_t page n now line.command one.done.said one.done.synced new) same_c one.done.made)) in
    record {
      runs = so_far.runs ++ run ∷ [];
      lines =
          so_far.lines ∙ ap (λ (ls : List ScriptLine). map (λ r. r.line) so_far.runs ++ ls) taken
          ∙ sym (append_assoc (map (λ r. r.line) so_far.runs) (line ∷ []) after)
          ∙ ap (λ (ls : List ScriptLine). ls ++ after) (sym (map-append (λ (r : LineRun). r.line) so_far.runs (run ∷ [])));
      of_section = all_append (λ r. is_section r.line.section section) so_far.runs (run ∷ []) so_far.of_section (ap (λ b. b && true) of);
      calls = calls_push page kept so_far.runs run so_far.calls (subst (λ (k : Kept). AreOf page k line.command one.done.said) so_far.keeps one.done.calls) one.done.syncs;
      made = lines_push st dt page c old now new so_far.runs run so_far.made made;
      items_are =
          pushed ∙ ap (λ (is : List LogItem). is ++ item ∷ []) so_far.items_are
          ∙ ap (λ (is : List LogItem). items_of so_far.runs ++ is) (item_is line one.done.said one.done.synced item one.line_is one.done.logs)
          ∙ sym (flat_map-append (λ (r : LineRun). sync_logged r.line.line r.synced ++ logged r.line.line (side_of r.line.command) r.said) so_far.runs (run ∷ []));
      keeps = one.done.keeps ∙ ap (λ (k : Kept). kept_by page k line.command one.done.said) so_far.keeps ∙ sym (kept_push page kept so_far.runs run);
    }

-- ---- the loop over lines: the next one is taken from the front before it is run

left_is : (next : Option ScriptLine) (line : ScriptLine) (rest : List ScriptLine) → next ≡ Some line → option_to_list next ++ rest ≡ line ∷ rest
left_is next line rest is = ap (λ (o : Option ScriptLine). option_to_list o ++ rest) is

pub section_step : (told_s told_t st dt : Bool) (page c caller : ℕ) (section : Section) (old now new : World) (kept mid last : Kept) (before rest behind : List ScriptLine) (next after : Option ScriptLine) (items new_items : List LogItem) (line : ScriptLine) (item : LogItem) →
    told_s ≡ st → told_t ≡ dt → caller ≡ c → next ≡ Some line → IsFront section next rest → rest ≡ option_to_list after ++ behind → new_items ≡ items ++ item ∷ [] →
    IsSectionRun st dt page c section old now kept mid before (option_to_list next ++ rest) items → IsLineRun told_s told_t page caller now new mid last line item →
    IsSectionRun st dt page c section old new kept last before (option_to_list after ++ behind) new_items
section_step told_s told_t st dt page c caller section old now new kept mid last before rest behind next after items new_items line item same_s same_t same_c is front taken pushed so_far one =
    subst (λ (ls : List ScriptLine). IsSectionRun st dt page c section old new kept last before ls new_items) taken
    (section_grow told_s told_t st dt page c caller section old now new kept mid last before (option_to_list next ++ rest) rest items new_items line item same_s same_t same_c (left_is next line rest is) (subst (λ (n : Option ScriptLine). IsFront section n rest) is front) pushed so_far one)

pub left_falls : (rest behind : List ScriptLine) (next after : Option ScriptLine) (line : ScriptLine) → next ≡ Some line → rest ≡ option_to_list after ++ behind → length (option_to_list after ++ behind) < length (option_to_list next ++ rest)
left_falls rest behind next after line is taken = omega (arith, ap length taken, ap length (left_is next line rest is))

-- ---- the section ends where no line is taken

left_none : (next : Option ScriptLine) (rest : List ScriptLine) → next ≡ None → option_to_list next ++ rest ≡ rest
left_none next rest is = ap (λ (o : Option ScriptLine). option_to_list o ++ rest) is

pub section_end : (st dt : Bool) (page c : ℕ) (section : Section) (old new : World) (kept now : Kept) (before rest : List ScriptLine) (next : Option ScriptLine) (items all : List LogItem) → next ≡ None → all ≡ items →
    IsSectionRun st dt page c section old new kept now before (option_to_list next ++ rest) items → IsSectionRun st dt page c section old new kept now before rest all
section_end st dt page c section old new kept now before rest next items all is same so_far =
    subst (λ (xs : List LogItem). IsSectionRun st dt page c section old new kept now before rest xs) (sym same)
    (subst (λ (ls : List ScriptLine). IsSectionRun st dt page c section old new kept now before ls items) (left_none next rest is) so_far)

pub past_end : (section : Section) (rest : List ScriptLine) (next : Option ScriptLine) → next ≡ None → IsFront section next rest → is_past section rest ≡ true
past_end section rest next is front = subst (λ (n : Option ScriptLine). IsFront section n rest) is front

-- at first
pub section_starts : (st dt : Bool) (page c : ℕ) (section : Section) (old : World) (kept : Kept) (before rest : List ScriptLine) (next : Option ScriptLine) (items : List LogItem) → items ≡ [] → before ≡ option_to_list next ++ rest → IsSectionRun st dt page c section old old kept kept before (option_to_list next ++ rest) items
section_starts st dt page c section old kept before rest next items none taken =
    subst (λ (xs : List LogItem). IsSectionRun st dt page c section old old kept kept before (option_to_list next ++ rest) xs) (sym none)
    (subst (λ (ls : List ScriptLine). IsSectionRun st dt page c section old old kept kept before ls []) taken (section_begin st dt page c section old kept before))
