-- The syncs of a run in turn, each between what was known before it and what was done behind it.
use Rattle.std.proofs.Common.{◌≡◌, ℕ, suc, ◌+◌, ◌≤◌, nat_lt, Bool, true, false, ◌==◌, Option, Some, None, List, [], ◌∷◌, ◌++◌, map, length, refl, ap, sym, ◌∙◌, subst, length-append, append_assoc, append-nil, arith}
use Rattle.std.specs.List.{list_all, filter}
use Rattle.std.proofs.lemmas.Bool.Decides.{nat_tests}
use mathlib.Core.List.{IsPrefix}
use Rattle.hs_types.specs.declared.ids.Side.TheVariants.{Source, Target}
use Rattle.hs_types.specs.declared.journal.Entry.{Entry}
use Rattle.hs_plain.specs.Premises.{SyncAsk}
use Rattle.distcp_sync.specs.declared.report.SyncReport.{SyncReport}
use Rattle.distcp_sync.specs.Steps.{SyncSides}
use Rattle.distcp_sync.specs.Synced.{IsSynced}
use Rattle.script_text.specs.declared.command.Command.{Command}
use Rattle.script_text.specs.declared.command.Command.TheVariants as commands
use Rattle.run_output.specs.Steps.{Sections, SyncRun, LineRun, Step, steps_of, steps_on, steps_to, reached, all_reached, next_place, least_place}
use Rattle.run_output.specs.Syncs.{Journals, Places, known_after, known_behind, goes_on, sides_between, IsSyncLine, AreSyncLines, AreClientSyncs, begin, end, clients_go_on, clients_known, AreSyncs}
use Rattle.script_runner.specs.Links.{is_of}
use Rattle.script_runner.specs.InTurn.{World, AreStepsNext, IsSyncedAt, AreLinesRun, uncounted, AreClientsRun, fresh, IsSerial}
use Rattle.script_runner.proofs.Between.{IsFree, free_same, free_between, stepped_low, stepped_high, stepped_next, stepped_long, next_from, reached_within, least_within, all_from}
use Rattle.script_runner.proofs.Stepped.{by_caller, all_both, stepped_rest, stepped_turn}
use Rattle.script_runner.proofs.TurnedRuns.{TurnedClients, TurnedSide, within, all_by, none_of, clients_rest, source_turned, target_turned, source_clients, target_clients, source_side, target_side}

front_then : (old mid new rest more : List Entry) → mid ≡ old ++ rest → mid ++ more ≡ new → IsPrefix old new
front_then old mid new rest more one two = (rest ++ more, sym (append_assoc old rest more) ∙ ap (λ (l : List Entry). l ++ more) (sym one) ∙ two)

-- ---- lines

abbrev Did : ℕ → SyncAsk → SyncSides → SyncReport → Type 0
Did page ask sides report = IsSynced ask page sides report

-- how long both journals are
abbrev ends : World → Places
ends world = record { source = length world.source; target = length world.target }

-- on both sides a caller has no entry from one place on, up to another
record AreFree (c : ℕ) (journals : Journals) (low high : Places) : Type 0 where
  source : IsFree c journals.source low.source high.source
  target : IsFree c journals.target low.target high.target

-- both journals go on from here
record AreFronts (journals : Journals) (world : World) : Type 0 where
  source : IsPrefix world.source journals.source
  target : IsPrefix world.target journals.target

module _ (st dt : Bool) (page : ℕ) (source target : List Entry) where
  abbrev both : Journals
  both = record { source = source; target = target; source_tells = st; target_tells = dt }

  line_synced : (c : ℕ) (old now : World) (low high : Places) (command : Command) (synced : Option SyncRun) → AreFronts both now → AreFree c both low (ends old) → AreFree c both (ends now) high →
      IsSyncedAt st dt page c old now command synced → IsSyncLine (Did page) both c low high command synced
  line_synced c old now low high (commands.Call side call) synced fronts before behind at = tt
  line_synced c old now low high (commands.All side what) synced fronts before behind at = tt
  line_synced c old now low high (commands.First side what) synced fronts before behind at = tt
  line_synced c old now low high (commands.More side kind) synced fronts before behind at = tt
  line_synced c old now low high (commands.Sync from_source to_target from to) None fronts before behind at = tt
  line_synced c old now low high (commands.Sync from_source to_target from to) (Some sync) fronts before behind at =
      at (sides_between both c low high)
      (record { goes_on = fronts.source; tells_is = refl; limit_is = refl; callers_are = refl; from = before.source.0; to = behind.source.0; none_before = before.source.1; none_behind = behind.source.1 })
      (record { goes_on = fronts.target; tells_is = refl; limit_is = refl; callers_are = refl; from = before.target.0; to = behind.target.0; none_before = before.target.1; none_behind = behind.target.1 })

  lines_synced : (c : ℕ) (old : World) (runs : List LineRun) (new : World) (low high : Places) → AreLinesRun st dt page c old runs new → AreFronts both new → AreFree c both low (ends old) → AreFree c both (ends new) high →
      AreSyncLines (Did page) both c low high runs
  lines_synced c old [] new low high ran fronts before behind = tt
  lines_synced c old (run ∷ runs) new low high ran fronts before behind =
      let now : World = ran.0 in
      let later : AreLinesRun st dt page c now runs new = ran.2 in
      let on_source : AreStepsNext st c now.source now.source_calls (steps_on Source runs) new.source new.source_calls = source_turned st dt page c now runs new later in
      let on_target : AreStepsNext dt c now.target now.target_calls (steps_on Target runs) new.target new.target_calls = target_turned st dt page c now runs new later in
      let more_source = stepped_rest st c now.source now.source_calls (steps_on Source runs) new.source new.source_calls on_source in
      let more_target = stepped_rest dt c now.target now.target_calls (steps_on Target runs) new.target new.target_calls on_target in (
        line_synced c old now low (goes_on high runs) run.line.command run.synced
            (record {
              source = front_then now.source new.source source more_source.0 fronts.source.0 more_source.1 fronts.source.1;
              target = front_then now.target new.target target more_target.0 fronts.target.0 more_target.1 fronts.target.1;
            })
            before
            (record {
              source = stepped_high st c source now.source now.source_calls high.source (steps_on Source runs) new.source new.source_calls on_source behind.source;
              target = stepped_high dt c target now.target now.target_calls high.target (steps_on Target runs) new.target new.target_calls on_target behind.target;
            })
            ran.1.within,
        lines_synced c now runs new (known_after low run) high later fronts
            (record {
              source = stepped_low st c source old.source old.source_calls low.source (steps_of Source run) now.source now.source_calls ran.1.source before.source;
              target = stepped_low dt c target old.target old.target_calls low.target (steps_of Target run) now.target now.target_calls ran.1.target before.target;
            })
            behind,
      )

-- ---- clients, on one side

-- a client's section begins behind setup and the clients before it
record Stands (c : ℕ) (journal begun old ended : List Entry) : Type 0 where
  before : List Entry
  old_is : old ≡ begun ++ before
  lower : list_all (by_caller (λ n. nat_lt n c)) before ≡ true
  rest : List Entry
  whole : ended ++ rest ≡ journal

-- what is free around a client's section
record IsClientFree (c : ℕ) (journal begun old now ended : List Entry) : Type 0 where
  front : IsPrefix now journal
  low : IsFree c journal (length begun) (length old)
  high : IsFree c journal (length now) (length ended)
  next : Stands (c + 1) journal begun now ended

client_free : (tells : Bool) (c : ℕ) (journal begun old now ended : List Entry) (client : List Step) (last : ℕ) (clients : List (List Step)) → Stands c journal begun old ended → AreStepsNext tells c old 0 client now last → TurnedClients tells (c + 1) now clients ended → IsClientFree c journal begun old now ended
client_free tells c journal begun old now ended client last clients stands stepped turned =
    let mine = stepped_rest tells c old 0 client now last stepped in
    let later = clients_rest tells (c + 1) now clients ended turned in
    let whole : journal ≡ (now ++ later.0) ++ stands.rest = sym stands.whole ∙ ap (λ (l : List Entry). l ++ stands.rest) later.1 in
    let first : journal ≡ (begun ++ stands.before) ++ (mine.0 ++ (later.0 ++ stands.rest)) =
    whole ∙ append_assoc now later.0 stands.rest ∙ ap (λ (l : List Entry). l ++ (later.0 ++ stands.rest)) (mine.1 ∙ ap (λ (l : List Entry). l ++ mine.0) stands.old_is)
    ∙ append_assoc (begun ++ stands.before) mine.0 (later.0 ++ stands.rest) in
    record {
      front = front_then now ended journal later.0 stands.rest later.1 stands.whole;
      low =
          free_between c journal begun stands.before (mine.0 ++ (later.0 ++ stands.rest)) (length begun) (length old) first (none_of c (λ n. nat_lt n c) stands.before (λ n e. less c n e) stands.lower)
          (omega arith) (omega (arith, ap length stands.old_is, length-append begun stands.before)) (omega (arith, ap length stands.old_is));
      high =
          free_between c journal now later.0 stands.rest (length now) (length ended) whole (none_of c (within (c + 1) (c + 1 + length clients)) later.0 (λ n e. higher c n (length clients) e) later.2)
          (omega arith) (omega (arith, ap length later.1, length-append now later.0)) (omega (arith, ap length later.1));
      next = record {
        before = stands.before ++ mine.0;
        old_is = mine.1 ∙ ap (λ (l : List Entry). l ++ mine.0) stands.old_is ∙ append_assoc begun stands.before mine.0;
        lower =
            all_both (λ n. nat_lt n (c + 1)) stands.before mine.0 (all_by (λ n. nat_lt n c) (λ n. nat_lt n (c + 1)) stands.before (λ n e. less_still c n e) stands.lower)
            (all_by (λ n. n == c) (λ n. nat_lt n (c + 1)) mine.0 (λ n e. less_self c n e) mine.2);
        rest = stands.rest;
        whole = stands.whole;
      };
    }
  where
    less : (c n : ℕ) → nat_lt n c ≡ true → (n == c) ≡ false
    less c n e = grind (arith, nat_tests)

    higher : (c n k : ℕ) → within (c + 1) (c + 1 + k) n ≡ true → (n == c) ≡ false
    higher c n k e = grind (arith, nat_tests)

    less_still : (c n : ℕ) → nat_lt n c ≡ true → nat_lt n (c + 1) ≡ true
    less_still c n e = grind (arith, nat_tests)

    less_self : (c n : ℕ) → (n == c) ≡ true → nat_lt n (c + 1) ≡ true
    less_self c n e = grind (arith, nat_tests)

-- the clients go on no earlier than where they begin
least_from : (tells : Bool) (c : ℕ) (old : List Entry) (high : ℕ) (clients : List (List Step)) (new : List Entry) → TurnedClients tells c old clients new → length new ≤ high → length old ≤ least_place high clients
least_from tells c old high [] new turned le = omega (arith, ap length turned, le)
least_from tells c old high (client ∷ clients) new turned le =
    let more : length turned.0 ≤ least_place high clients = least_from tells (c + 1) turned.0 high clients new turned.3 le in
    let long : length old ≤ length turned.0 = stepped_long tells c old 0 client turned.0 turned.1 turned.2 in
    let later = clients_rest tells (c + 1) turned.0 clients new turned.3 in
    let here : length old ≤ next_place high client = next_from tells c old 0 high client turned.0 turned.1 turned.2 (omega (arith, le, ap length later.1, length-append turned.0 later.0)) in
    omega (arith, more, long, here)

-- and no further is known than they lead
all_within : (tells : Bool) (c : ℕ) (old : List Entry) (from : ℕ) (clients : List (List Step)) (new : List Entry) → TurnedClients tells c old clients new → from ≤ length old → all_reached from clients ≤ length new
all_within tells c old from [] new turned le = omega (arith, ap length turned, le)
all_within tells c old from (client ∷ clients) new turned le =
    let long : length old ≤ length turned.0 = stepped_long tells c old 0 client turned.0 turned.1 turned.2 in
    let more : all_reached from clients ≤ length new = all_within tells (c + 1) turned.0 from clients new turned.3 (omega (arith, le, long)) in
    let here : reached from client ≤ length turned.0 = reached_within tells c old 0 from client turned.0 turned.1 turned.2 le in
    let later = clients_rest tells (c + 1) turned.0 clients new turned.3 in
    omega (arith, more, here, ap length later.1, length-append turned.0 later.0)

-- ---- one side

-- what is free on one side around setup, the clients and finish
record IsSideFree (steps : Sections Step) (journal begun ended : List Entry) : Type 0 where
  front : IsPrefix begun journal
  setup : IsFree 0 journal (length begun) (least_place (next_place (length journal) steps.finish) steps.clients)
  -- what is known behind setup, and where finish goes on
  known : reached 0 steps.setup ≡ length begun
  next : next_place (length journal) steps.finish ≡ length ended
  stands : Stands 1 journal begun begun ended
  finish : IsFree 0 journal (all_reached (reached 0 steps.setup) steps.clients) (length ended)

side_free : (tells : Bool) (steps : Sections Step) (journal : List Entry) → (turned : TurnedSide tells steps journal) → IsSideFree steps journal turned.begun turned.ended
side_free tells steps journal turned =
    let middle = clients_rest tells 1 turned.begun steps.clients turned.ended turned.clients in
    let last = stepped_rest tells 0 turned.ended turned.number steps.finish journal turned.last turned.finish in
    let known : reached 0 steps.setup ≡ length turned.begun = (stepped_turn tells 0 [] 0 steps.setup turned.begun turned.number turned.setup).1 in
    let next : next_place (length journal) steps.finish ≡ length turned.ended = stepped_next tells 0 turned.ended turned.number steps.finish journal turned.last turned.finish in
    let whole : journal ≡ (turned.begun ++ middle.0) ++ last.0 = last.1 ∙ ap (λ (l : List Entry). l ++ last.0) middle.1 in
    let foreign : filter (is_of 0) middle.0 ≡ [] = none_of 0 (within 1 (1 + length steps.clients)) middle.0 (λ n e. above n (length steps.clients) e) middle.2 in
    let long : length (turned.begun ++ middle.0) ≡ length turned.ended = ap length (sym middle.1) in
    let from : length turned.begun ≤ least_place (next_place (length journal) steps.finish) steps.clients =
    least_from tells 1 turned.begun (next_place (length journal) steps.finish) steps.clients turned.ended turned.clients (omega (arith, next)) in
    let all : all_reached (reached 0 steps.setup) steps.clients ≤ length turned.ended = all_within tells 1 turned.begun (reached 0 steps.setup) steps.clients turned.ended turned.clients (omega (arith, known)) in
    record {
      front = front_then turned.begun turned.ended journal middle.0 last.0 middle.1 (sym last.1);
      setup =
          free_between 0 journal turned.begun middle.0 last.0 (length turned.begun) (least_place (next_place (length journal) steps.finish) steps.clients) whole foreign (omega arith) from
          (omega (arith, long, next, least_within (next_place (length journal) steps.finish) steps.clients));
      known = known;
      next = next;
      stands = record { before = []; old_is = sym (append-nil turned.begun); lower = refl; rest = last.0; whole = sym last.1 };
      finish =
          free_between 0 journal turned.begun middle.0 last.0 (all_reached (reached 0 steps.setup) steps.clients) (length turned.ended) whole foreign
          (omega (arith, known, all_from (reached 0 steps.setup) steps.clients)) all (omega (arith, long));
    }
  where
    above : (n k : ℕ) → within 1 (1 + k) n ≡ true → (n == 0) ≡ false
    above n k e = grind (arith, nat_tests)

-- ---- both sides

module _ (st dt : Bool) (page : ℕ) (source target : List Entry) where
  clients_synced : (c : ℕ) (begun old ended : World) (clients : List (List LineRun)) → AreClientsRun st dt page c old clients ended → Stands c source begun.source old.source ended.source → Stands c target begun.target old.target ended.target →
      AreClientSyncs (Did page) (both st dt page source target) c (ends begun) (ends ended) clients
  clients_synced c begun old ended [] ran on_source on_target = tt
  clients_synced c begun old ended (client ∷ clients) ran on_source on_target =
      let now : World = ran.0 in
      let free_source =
      client_free st c source begun.source old.source now.source ended.source (steps_on Source client) now.source_calls (map (steps_on Source) clients) on_source
      (source_turned st dt page c (uncounted old) client now ran.1) (source_clients st dt page (c + 1) now clients ended ran.2) in
      let free_target =
      client_free dt c target begun.target old.target now.target ended.target (steps_on Target client) now.target_calls (map (steps_on Target) clients) on_target
      (target_turned st dt page c (uncounted old) client now ran.1) (target_clients st dt page (c + 1) now clients ended ran.2) in (
        lines_synced st dt page source target c (uncounted old) client now (ends begun) (ends ended) ran.1
            (record { source = free_source.front; target = free_target.front }) (record { source = free_source.low; target = free_target.low }) (record { source = free_source.high; target = free_target.high }),
        clients_synced (c + 1) begun now ended clients ran.2 free_source.next free_target.next,
      )

abbrev places_at : ℕ → ℕ → Places
places_at a b = record { source = a; target = b }

places_are : (a b c d : ℕ) → a ≡ b → c ≡ d → places_at a c ≡ places_at b d
places_are a b c d one two = ap (λ n. places_at n c) one ∙ ap (λ n. places_at b n) two

-- all syncs of a run in turn
pub serial_syncs : (st dt : Bool) (page : ℕ) (runs : Sections LineRun) (source target : List Entry) → IsSerial st dt page runs source target →
    AreSyncs (λ ask sides report. IsSynced ask page sides report) (record { source = source; target = target; source_tells = st; target_tells = dt }) runs
serial_syncs st dt page runs source target serial =
    let journals : Journals = both st dt page source target in
    let on_source = side_free st (steps_to Source runs) source (source_side st dt page runs source target serial) in
    let on_target = side_free dt (steps_to Target runs) target (target_side st dt page runs source target serial) in
    let known : known_behind (begin (Did page) journals) runs.setup ≡ ends serial.begun = places_are _ _ _ _ on_source.known on_target.known in
    let next : goes_on (end (Did page) journals) runs.finish ≡ ends serial.ended = places_are _ _ _ _ on_source.next on_target.next in
    record {
      setup =
          lines_synced st dt page source target 0 fresh runs.setup serial.begun (begin (Did page) journals) (clients_go_on (Did page) journals runs) serial.setup
          (record { source = on_source.front; target = on_target.front }) (record { source = free_same 0 source 0; target = free_same 0 target 0 }) (record { source = on_source.setup; target = on_target.setup });
      clients =
          subst (λ (low : Places). AreClientSyncs (Did page) journals 1 low (goes_on (end (Did page) journals) runs.finish) runs.clients) (sym known)
          (subst (λ (high : Places). AreClientSyncs (Did page) journals 1 (ends serial.begun) high runs.clients) (sym next)
          (clients_synced st dt page source target 1 serial.begun serial.begun serial.ended runs.clients serial.clients on_source.stands on_target.stands));
      finish =
          lines_synced st dt page source target 0 (record serial.ended { source_calls = serial.begun.source_calls; target_calls = serial.begun.target_calls }) runs.finish serial.last (clients_known (Did page) journals runs) (end (Did page) journals) serial.finish
          (record { source = ([], append-nil serial.last.source ∙ serial.source_is); target = ([], append-nil serial.last.target ∙ serial.target_is) })
          (record { source = on_source.finish; target = on_target.finish })
          (record {
            source = subst (λ (j : List Entry). IsFree 0 source (length j) (length source)) (sym serial.source_is) (free_same 0 source (length source));
            target = subst (λ (j : List Entry). IsFree 0 target (length j) (length target)) (sym serial.target_is) (free_same 0 target (length target));
          });
    }
