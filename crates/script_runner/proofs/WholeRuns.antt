-- All sections of a script, run one after the other, are a run of it in turn.
use Rattle.std.proofs.Common.{◌≡◌, ℕ, ◌≤◌, Bool, true, None, List, [], ◌∷◌, ◌++◌, map, length, refl, ap, sym, ◌∙◌, subst, append-nil, arith}
use Rattle.std.specs.List.{flat_map}
use Rattle.std.proofs.lemmas.List.{map-append}
use Rattle.std.proofs.Math.Path.{fun_ext}
use Rattle.hs_types.specs.Limits.{journal_limit}
use Rattle.hs_types.specs.declared.ids.CallerId.{CallerId}
use Rattle.hs_types.specs.declared.ids.Side.{Side}
use Rattle.hs_types.specs.declared.ids.Side.TheVariants.{Source, Target}
use Rattle.script_text.specs.declared.command.PagesKind.{PagesKind}
use Rattle.script_text.specs.declared.command.PagesKind.TheVariants as kinds
use Rattle.hs_types.specs.declared.journal.Entry.{Entry}
use Rattle.script_runner.specs.declared.client.Client.{Client}
use Rattle.hs_plain.specs.Replay.{is_proper}
use Rattle.namenode_write.specs.FaultCounts.{CountsFaults, RisesAtMost}
use Rattle.namenode_write.specs.Faulted.{fault_count}
use Rattle.namenode_write.specs.NamenodeValue.{NamenodeValue}
use Rattle.script_text.specs.declared.script.ScriptLine.{ScriptLine}
use Rattle.script_text.specs.declared.script.Section.TheVariants as sections
use Rattle.run_output.specs.declared.ran.End.{End}
use Rattle.run_output.specs.declared.ran.LogItem.{LogItem}
use Rattle.run_output.specs.declared.ran.ClientLog.{ClientLog}
use Rattle.run_output.specs.declared.ran.Status.TheVariants.{Ok as Ok_status}
use Rattle.run_output.specs.Calls.{Kept, none_kept}
use Rattle.run_output.specs.Steps.{Sections, LineRun, AreCalls, kept_after}
use Rattle.run_output.specs.Run.{items_of, client_logs, IsEndOf, IsRunInTurn}
use Rattle.script_runner.specs.InTurn.{World, AreLinesRun, AreClientsRun, fresh}
use Rattle.script_runner.specs.Keeping.{new_client, kept_of}
use Rattle.script_runner.specs.Nodes.{world}
use Rattle.script_runner.specs.Sections.{IsSectionRun, unnumbered, AreClientsTo, AreSectionsRun}
use Rattle.script_runner.proofs.AroundSyncs.{serial_syncs}
use Rattle.script_runner.proofs.TurnedRuns.{serial_source, serial_target, serial_turn}

-- each client counts its own calls
from_unnumbered : (st dt : Bool) (page c : ℕ) (begun : World) (clients : List (List LineRun)) (new : World) → AreClientsRun st dt page c (unnumbered begun.source begun.target) clients new → AreClientsRun st dt page c begun clients new
from_unnumbered st dt page c begun [] new made = made
from_unnumbered st dt page c begun (client ∷ clients) new made = made

-- over stores whose counts rise at most so often there are at most so many faulted entries
pub few_faulted : {S : Type 0} (faults : S → ℕ) (first last : NamenodeValue S) (most : ℕ) → first.entries ≡ [] → CountsFaults faults first last → RisesAtMost most faults (faults first.store) → fault_count last.entries ≤ most
few_faulted faults first last most new counted rises =
    let none : fault_count first.entries ≡ 0 = ap fault_count new in
    omega (arith, none, counted.rose, rises last.store)

-- two new namenodes, and a caller without calls
pub fresh_is : (source target : List Entry) (client : Client) (caller : CallerId) → source ≡ [] → target ≡ [] → client ≡ new_client caller → world source target client ≡ fresh
fresh_is source target client caller no_source no_target new = ap (λ (s : List Entry). world s target client) no_source ∙ ap (λ (t : List Entry). world [] t client) no_target ∙ ap (λ (k : Client). world [] [] k) new

-- and without cursors
pub none_first : (page : ℕ) (client : Client) (caller : CallerId) → client ≡ new_client caller → kept_of page client ≡ none_kept
none_first page client caller new = ap (kept_of page) new ∙ fun_ext (λ side. fun_ext (λ kind. by side kind))
  where
    by : (side : Side) (kind : PagesKind) → kept_of page (new_client caller) side kind ≡ None
    by Source kinds.Listing = refl
    by Source kinds.Report = refl
    by Target kinds.Listing = refl
    by Target kinds.Report = refl

-- setup, the clients and finish, with their logs
pub sections_ran : (st dt told_s told_t late_s late_t : Bool) (page clients c d from_s from_t to_s to_t : ℕ) (bs bt es et ls lt : List Entry) (zeroth : World) (none mid late last_kept : Kept) (script rest left after : List ScriptLine) (setup finish : List LogItem) (setup_log finish_log : ClientLog) (first logs all : List ClientLog) →
    told_s ≡ st → told_t ≡ dt → late_s ≡ st → late_t ≡ dt → c ≡ 0 → d ≡ 0 → zeroth ≡ fresh → none ≡ none_kept → late ≡ mid →
    IsSectionRun st dt page c sections.Setup zeroth (record { source = bs; target = bt; source_calls = from_s; target_calls = from_t }) none mid script rest setup →
    AreClientsTo told_s told_t page clients bs bt es et rest left first logs →
    IsSectionRun late_s late_t page d sections.Finish (record { source = es; target = et; source_calls = from_s; target_calls = from_t }) (record { source = ls; target = lt; source_calls = to_s; target_calls = to_t }) late last_kept left after finish →
    after ≡ [] → first ≡ setup_log ∷ [] → all ≡ logs ++ finish_log ∷ [] →
    setup_log ≡ record { section = sections.Setup; items = setup } → finish_log ≡ record { section = sections.Finish; items = finish } →
    AreSectionsRun st dt page clients script ls lt all
sections_ran st dt told_s told_t late_s late_t page clients c d from_s from_t to_s to_t bs bt es et ls lt zeroth none mid late last_kept script rest left after setup finish setup_log finish_log first logs all same_s same_t also_s also_t zero zero_too first_world first_kept same_kept front middle back ended begins ends setup_is finish_is =
    let begun : World = record { source = bs; target = bt; source_calls = from_s; target_calls = from_t } in
    let resumed : World = record { source = es; target = et; source_calls = from_s; target_calls = from_t } in
    let last : World = record { source = ls; target = lt; source_calls = to_s; target_calls = to_t } in
    let runs : Sections LineRun = record { setup = front.runs; clients = middle.clients; finish = back.runs } in
    let last_lines : left ≡ map (λ r. r.line) back.runs = back.lines ∙ ap (λ (xs : List ScriptLine). map (λ r. r.line) back.runs ++ xs) ended ∙ append-nil (map (λ r. r.line) back.runs) in
    let later_lines : rest ≡ map (λ r. r.line) (flat_map (λ client. client) middle.clients ++ back.runs) =
    middle.lines ∙ ap (λ (xs : List ScriptLine). map (λ r. r.line) (flat_map (λ client. client) middle.clients) ++ xs) last_lines ∙ sym (map-append (λ (r : LineRun). r.line) (flat_map (λ client. client) middle.clients) back.runs) in
    record {
      runs = runs;
      lines = record {
        order =
            map-append (λ (r : LineRun). r.line) front.runs (flat_map (λ client. client) middle.clients ++ back.runs)
            ∙ ap (λ (xs : List ScriptLine). map (λ r. r.line) front.runs ++ xs) (sym later_lines)
            ∙ sym front.lines;
        count = middle.number;
        setup = front.of_section;
        each_client = middle.of_sections;
        finish = back.of_section;
      };
      setup_calls = subst (λ (k : Kept). AreCalls page k front.runs) first_kept front.calls;
      client_calls = middle.calls;
      finish_calls = subst (λ (k : Kept). AreCalls page k back.runs) (same_kept ∙ front.keeps ∙ ap (λ (k : Kept). kept_after page k front.runs) first_kept) back.calls;
      serial = record {
        begun = begun;
        ended = unnumbered es et;
        last = last;
        setup = subst (λ n. AreLinesRun st dt page n fresh front.runs begun) zero (subst (λ (w : World). AreLinesRun st dt page c w front.runs begun) first_world front.made);
        clients =
            from_unnumbered st dt page 1 begun middle.clients (unnumbered es et)
            (subst (λ b. AreClientsRun b dt page 1 (unnumbered bs bt) middle.clients (unnumbered es et)) same_s (subst (λ b. AreClientsRun told_s b page 1 (unnumbered bs bt) middle.clients (unnumbered es et)) same_t middle.made));
        finish =
            subst (λ n. AreLinesRun st dt page n resumed back.runs last) zero_too
            (subst (λ b. AreLinesRun b dt page d resumed back.runs last) also_s (subst (λ b. AreLinesRun late_s b page d resumed back.runs last) also_t back.made));
        source_is = refl;
        target_is = refl;
      };
      logs_are =
          ends ∙ ap (λ (xs : List ClientLog). xs ++ finish_log ∷ []) (middle.logs_are ∙ ap (λ (xs : List ClientLog). xs ++ client_logs 1 middle.clients) begins)
          ∙ ap (λ (l : ClientLog). (l ∷ client_logs 1 middle.clients) ++ finish_log ∷ []) (setup_is ∙ ap (λ (is : List LogItem). record { section = sections.Setup; items = is }) front.items_are)
          ∙ ap (λ (l : ClientLog). record { section = sections.Setup; items = items_of front.runs } ∷ (client_logs 1 middle.clients ++ l ∷ [])) (finish_is ∙ ap (λ (is : List LogItem). record { section = sections.Finish; items = is }) back.items_are);
    }

-- with what is shown at the end
pub whole_run : (told_s told_t st dt : Bool) (page clients : ℕ) (lines script : List ScriptLine) (made_s made_t source target : List Entry) (logs : List ClientLog) (source_end target_end : End) →
    told_s ≡ st → told_t ≡ dt → length made_s ≤ journal_limit → length made_t ≤ journal_limit → lines ≡ script → source ≡ made_s → target ≡ made_t →
    is_proper made_s ≡ true → is_proper made_t ≡ true → IsEndOf made_s source_end → IsEndOf made_t target_end →
    AreSectionsRun told_s told_t page clients lines made_s made_t logs →
    IsRunInTurn st dt page clients script (record { status = Ok_status; source = source; target = target; logs = logs; source_end = source_end; target_end = target_end })
whole_run told_s told_t st dt page clients lines script made_s made_t source target logs source_end target_end same_s same_t few_s few_t read source_is target_is proper_s proper_t shown_s shown_t ran =
    let whole : IsRunInTurn told_s told_t page clients lines (record { status = Ok_status; source = made_s; target = made_t; logs = logs; source_end = source_end; target_end = target_end }) = record {
      runs = ran.runs;
      run = record {
        lines = ran.lines;
        logs = ran.logs_are;
        setup_calls = ran.setup_calls;
        client_calls = ran.client_calls;
        finish_calls = ran.finish_calls;
        source = serial_source told_s told_t page ran.runs made_s made_t proper_s few_s ran.serial;
        target = serial_target told_s told_t page ran.runs made_s made_t proper_t few_t ran.serial;
        syncs = serial_syncs told_s told_t page ran.runs made_s made_t ran.serial;
        source_end = shown_s;
        target_end = shown_t;
      };
      turn = serial_turn told_s told_t page ran.runs made_s made_t ran.serial;
    } in
    subst (λ (j : List Entry). IsRunInTurn st dt page clients script (record { status = Ok_status; source = j; target = target; logs = logs; source_end = source_end; target_end = target_end })) (sym source_is)
    (subst (λ (j : List Entry). IsRunInTurn st dt page clients script (record { status = Ok_status; source = made_s; target = j; logs = logs; source_end = source_end; target_end = target_end })) (sym target_is)
    (subst (λ (ls : List ScriptLine). IsRunInTurn st dt page clients ls (record { status = Ok_status; source = made_s; target = made_t; logs = logs; source_end = source_end; target_end = target_end })) read
    (subst (λ b. IsRunInTurn b dt page clients lines (record { status = Ok_status; source = made_s; target = made_t; logs = logs; source_end = source_end; target_end = target_end })) same_s
    (subst (λ b. IsRunInTurn told_s b page clients lines (record { status = Ok_status; source = made_s; target = made_t; logs = logs; source_end = source_end; target_end = target_end })) same_t whole))))
