-- The clients, one after the other.
use Rattle.std.proofs.Common.{◌≡◌, ℕ, suc, ◌+◌, Bool, true, List, [], ◌∷◌, ◌++◌, map, length, refl, ap, sym, ◌∙◌, subst, length-append, append_assoc, append-nil, arith}
use Rattle.std.specs.List.{flat_map, AllByRecursion}
use Rattle.std.proofs.lemmas.List.{map-append}
use Rattle.std.proofs.lemmas.Grind.{flat_map-append}
use Rattle.hs_types.specs.declared.journal.Entry.{Entry}
use Rattle.script_text.specs.declared.script.ScriptLine.{ScriptLine}
use Rattle.script_text.specs.declared.script.Section.TheVariants as sections
use Rattle.run_output.specs.declared.ran.LogItem.{LogItem}
use Rattle.run_output.specs.declared.ran.ClientLog.{ClientLog}
use Rattle.run_output.specs.Calls.{Kept, none_kept}
use Rattle.run_output.specs.Steps.{LineRun, AreCalls}
use Rattle.run_output.specs.Run.{are_in, are_clients, items_of, client_logs}
use Rattle.script_runner.specs.InTurn.{World, AreLinesRun, uncounted, AreClientsRun}
use Rattle.script_runner.specs.Sections.{IsSectionRun, unnumbered, IsClientRun, AreClientsTo}
use Rattle.script_runner.proofs.Both.{both_first, both_second, both_yes}

-- a section that was run by a caller of its own
pub client_ran : (st dt : Bool) (page number caller : ℕ) (old_source old_target new_source new_target : List Entry) (old now : World) (kept last : Kept) (before after : List ScriptLine) (items : List LogItem) (log : ClientLog) →
    caller ≡ number → old ≡ unnumbered old_source old_target → kept ≡ none_kept → now.source ≡ new_source → now.target ≡ new_target → log ≡ record { section = sections.Client number; items = items } →
    IsSectionRun st dt page caller (sections.Client number) old now kept last before after items →
    IsClientRun st dt page number old_source old_target new_source new_target before after log
client_ran st dt page number caller old_source old_target new_source new_target old now kept last before after items log same begun none source target logged ran =
    record {
      runs = ran.runs;
      now = now;
      lines = ran.lines;
      of_section = ran.of_section;
      calls = subst (λ (k : Kept). AreCalls page k ran.runs) none ran.calls;
      made = subst (λ n. AreLinesRun st dt page n (unnumbered old_source old_target) ran.runs now) same (subst (λ (w : World). AreLinesRun st dt page caller w ran.runs now) begun ran.made);
      source_is = source;
      target_is = target;
      log_is = logged ∙ ap (λ (is : List LogItem). record { section = sections.Client number; items = is }) ran.items_are;
    }

-- ---- one more client

all_push : (page : ℕ) (groups : List (List LineRun)) (runs : List LineRun) → AllByRecursion (AreCalls page none_kept) groups → AreCalls page none_kept runs → AllByRecursion (AreCalls page none_kept) (groups ++ runs ∷ [])
all_push page [] runs all one = (one, tt)
all_push page (g ∷ groups) runs all one = (all.0, all_push page groups runs all.1 one)

in_push : (client : ℕ) (groups : List (List LineRun)) (runs : List LineRun) → are_clients client groups ≡ true → are_in (sections.Client (client + length groups)) runs ≡ true → are_clients client (groups ++ runs ∷ []) ≡ true
in_push client [] runs all one = both_yes (are_in (sections.Client client) runs) true (ap (λ n. are_in (sections.Client n) runs) {x = client} {y = client + 0} (omega arith) ∙ one) refl
in_push client (g ∷ groups) runs all one =
    both_yes (are_in (sections.Client client) g) (are_clients (client + 1) (groups ++ runs ∷ [])) (both_first (are_in (sections.Client client) g) _ all)
    (in_push (client + 1) groups runs (both_second (are_in (sections.Client client) g) _ all) (ap (λ n. are_in (sections.Client n) runs) {x = client + 1 + length groups} {y = client + suc (length groups)} (omega arith) ∙ one))

logs_push : (client : ℕ) (groups : List (List LineRun)) (runs : List LineRun) → client_logs client (groups ++ runs ∷ []) ≡ client_logs client groups ++ record { section = sections.Client (client + length groups); items = items_of runs } ∷ []
logs_push client [] runs = ap (λ n. record { section = sections.Client n; items = items_of runs } ∷ []) {x = client} {y = client + 0} (omega arith)
logs_push client (g ∷ groups) runs =
    ap (λ (ls : List ClientLog). record { section = sections.Client client; items = items_of g } ∷ ls)
    (logs_push (client + 1) groups runs
    ∙ ap (λ n. client_logs (client + 1) groups ++ record { section = sections.Client n; items = items_of runs } ∷ []) {x = client + 1 + length groups} {y = client + suc (length groups)} (omega arith))

clients_push : (st dt : Bool) (page c : ℕ) (old now : World) (groups : List (List LineRun)) (runs : List LineRun) (next new : World) →
    AreClientsRun st dt page c old groups now → AreLinesRun st dt page (c + length groups) (uncounted now) runs next → next.source ≡ new.source → next.target ≡ new.target →
    AreClientsRun st dt page c old (groups ++ runs ∷ []) new
clients_push st dt page c old now [] runs next new made one source target = (
  next,
  subst (λ n. AreLinesRun st dt page n (uncounted old) runs next) {x = c + 0} {y = c} (omega arith)
      (subst (λ (w : World). AreLinesRun st dt page (c + 0) w runs next) (ap (λ (s : List Entry). unnumbered s now.target) (sym made.0) ∙ ap (λ (t : List Entry). unnumbered old.source t) (sym made.1)) one),
  (source, target),
)
clients_push st dt page c old now (g ∷ groups) runs next new made one source target = (
  made.0,
  made.1,
  clients_push st dt page (c + 1) made.0 now groups runs next new made.2 (subst (λ n. AreLinesRun st dt page n (uncounted now) runs next) {x = c + suc (length groups)} {y = c + 1 + length groups} (omega arith) one) source target,
)

pub clients_begin : (st dt : Bool) (page : ℕ) (source target : List Entry) (lines : List ScriptLine) (logs : List ClientLog) → AreClientsTo st dt page 0 source target source target lines lines logs logs
clients_begin st dt page source target lines logs =
    record { clients = []; number = refl; lines = refl; of_sections = refl; calls = tt; made = (refl, refl); logs_are = sym (append-nil logs) }

pub clients_grow : (told_s told_t st dt : Bool) (page count number : ℕ) (old_source old_target source target new_source new_target : List Entry) (before rest after : List ScriptLine) (logs_before logs new_logs : List ClientLog) (log : ClientLog) →
    told_s ≡ st → told_t ≡ dt → number ≡ count + 1 → new_logs ≡ logs ++ log ∷ [] →
    AreClientsTo st dt page count old_source old_target source target before rest logs_before logs →
    IsClientRun told_s told_t page number source target new_source new_target rest after log →
    AreClientsTo st dt page (count + 1) old_source old_target new_source new_target before after logs_before new_logs
clients_grow told_s told_t st dt page count number old_source old_target source target new_source new_target before rest after logs_before logs new_logs log same_s same_t numbered pushed kept one =
    let own : number ≡ 1 + length kept.clients = omega (arith, numbered, kept.number) in
    let made : AreLinesRun st dt page (1 + length kept.clients) (unnumbered source target) one.runs one.now =
    subst (λ n. AreLinesRun st dt page n (unnumbered source target) one.runs one.now) own
    (subst (λ b. AreLinesRun b dt page number (unnumbered source target) one.runs one.now) same_s
    (subst (λ b. AreLinesRun told_s b page number (unnumbered source target) one.runs one.now) same_t one.made)) in
    record {
      clients = kept.clients ++ one.runs ∷ [];
      number = omega (arith, length-append kept.clients (one.runs ∷ []), kept.number);
      lines =
          kept.lines ∙ ap (λ (ls : List ScriptLine). map (λ r. r.line) (flat_map (λ client. client) kept.clients) ++ ls) one.lines
          ∙ sym (append_assoc (map (λ r. r.line) (flat_map (λ client. client) kept.clients)) (map (λ r. r.line) one.runs) after)
          ∙ ap (λ (ls : List ScriptLine). ls ++ after)
          (sym (map-append (λ (r : LineRun). r.line) (flat_map (λ client. client) kept.clients) one.runs)
          ∙ ap (map (λ r. r.line)) (ap (λ (rs : List LineRun). flat_map (λ client. client) kept.clients ++ rs) (sym (append-nil one.runs)) ∙ sym (flat_map-append (λ (client : List LineRun). client) kept.clients (one.runs ∷ []))));
      of_sections = in_push 1 kept.clients one.runs kept.of_sections (ap (λ n. are_in (sections.Client n) one.runs) (sym own) ∙ one.of_section);
      calls = all_push page kept.clients one.runs kept.calls one.calls;
      made = clients_push st dt page 1 (unnumbered old_source old_target) (unnumbered source target) kept.clients one.runs one.now (unnumbered new_source new_target) kept.made made one.source_is one.target_is;
      logs_are =
          pushed ∙ ap (λ (ls : List ClientLog). ls ++ log ∷ []) kept.logs_are
          ∙ append_assoc logs_before (client_logs 1 kept.clients) (log ∷ [])
          ∙ ap (λ (ls : List ClientLog). logs_before ++ ls)
          (ap (λ (l : ClientLog). client_logs 1 kept.clients ++ l ∷ []) (one.log_is ∙ ap (λ n. record { section = sections.Client n; items = items_of one.runs }) own) ∙ sym (logs_push 1 kept.clients one.runs));
    }
