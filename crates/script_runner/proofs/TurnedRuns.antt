-- A run in turn keeps what links promise.
use Rattle.std.proofs.Common.{◌≡◌, ℕ, suc, ◌+◌, ◌≤◌, nat_lt, nat_le, Bool, true, false, cond, ◌&&◌, ◌==◌, List, [], ◌∷◌, ◌++◌, map, length, refl, ap, sym, ◌∙◌, subst, append_assoc, append-nil, arith}
use Rattle.std.specs.List.{list_all, filter, flat_map}
use Rattle.std.proofs.lemmas.Bool.Decides.{nat_tests}
use Rattle.std.proofs.lemmas.List.Elements.{filter-append}
use Rattle.hs_types.specs.declared.ids.Side.TheVariants.{Source, Target}
use Rattle.hs_types.specs.declared.journal.Entry.{Entry}
use Rattle.hs_types.specs.Limits.{journal_limit}
use Rattle.hs_plain.specs.Legal.{places_of}
use Rattle.hs_plain.specs.Replay.{is_proper}
use Rattle.run_output.specs.Steps.{Sections, LineRun, Step, printed, made, failed, counted, steps_of, steps_on, steps_to, reached, in_turn, in_order}
use Rattle.run_output.specs.Run.{IsSide, IsInTurn}
use Rattle.script_runner.specs.Links.{is_of, AreLinked, AreClientsMet, AreMet}
use Rattle.script_runner.specs.InTurn.{World, AreStepsNext, AreLinesRun, uncounted, AreClientsRun, fresh, IsSerial}
use Rattle.script_runner.proofs.Both.{both_first, both_second}
use Rattle.script_runner.proofs.Linked.{linked_wait, places-append, places_none, met_side}
use Rattle.script_runner.proofs.Stepped.{by_caller, all_both, stepped_append, stepped_rest, stepped_linked, stepped_last, stepped_turn, in_turn-append, reached-append}

-- ---- lines on one side

-- by induction over the lines
pub source_turned : (st dt : Bool) (page c : ℕ) (old : World) (runs : List LineRun) (new : World) → AreLinesRun st dt page c old runs new → AreStepsNext st c old.source old.source_calls (steps_on Source runs) new.source new.source_calls
source_turned st dt page c old [] new ran = (ap (λ (w : World). w.source) ran, ap (λ (w : World). w.source_calls) ran)
source_turned st dt page c old (run ∷ runs) new ran =
    stepped_append st c old.source old.source_calls (steps_of Source run) (steps_on Source runs) ran.0.source ran.0.source_calls new.source new.source_calls
    ran.1.source (source_turned st dt page c ran.0 runs new ran.2)

pub target_turned : (st dt : Bool) (page c : ℕ) (old : World) (runs : List LineRun) (new : World) → AreLinesRun st dt page c old runs new → AreStepsNext dt c old.target old.target_calls (steps_on Target runs) new.target new.target_calls
target_turned st dt page c old [] new ran = (ap (λ (w : World). w.target) ran, ap (λ (w : World). w.target_calls) ran)
target_turned st dt page c old (run ∷ runs) new ran =
    stepped_append dt c old.target old.target_calls (steps_of Target run) (steps_on Target runs) ran.0.target ran.0.target_calls new.target new.target_calls
    ran.1.target (target_turned st dt page c ran.0 runs new ran.2)

-- the clients, one after the other
abbrev pub TurnedClients : Bool → ℕ → List Entry → List (List Step) → List Entry → Type 0
TurnedClients tells c old [] new = old ≡ new
TurnedClients tells c old (client ∷ clients) new = (now : List Entry) × (last : ℕ) × AreStepsNext tells c old 0 client now last × TurnedClients tells (c + 1) now clients new

pub source_clients : (st dt : Bool) (page c : ℕ) (old : World) (clients : List (List LineRun)) (new : World) → AreClientsRun st dt page c old clients new → TurnedClients st c old.source (map (steps_on Source) clients) new.source
source_clients st dt page c old [] new run = run.0
source_clients st dt page c old (client ∷ clients) new run = (run.0.source, run.0.source_calls, source_turned st dt page c (uncounted old) client run.0 run.1, source_clients st dt page (c + 1) run.0 clients new run.2)

pub target_clients : (st dt : Bool) (page c : ℕ) (old : World) (clients : List (List LineRun)) (new : World) → AreClientsRun st dt page c old clients new → TurnedClients dt c old.target (map (steps_on Target) clients) new.target
target_clients st dt page c old [] new run = run.1
target_clients st dt page c old (client ∷ clients) new run = (run.0.target, run.0.target_calls, target_turned st dt page c (uncounted old) client run.0 run.1, target_clients st dt page (c + 1) run.0 clients new run.2)

-- ---- entries

pub all_by : (p q : ℕ → Bool) (xs : List Entry) → ((n : ℕ) → p n ≡ true → q n ≡ true) → list_all (by_caller p) xs ≡ true → list_all (by_caller q) xs ≡ true
all_by p q [] weaker all = refl
all_by p q (x ∷ xs) weaker all = ap (λ b. b && list_all (by_caller q) xs) (weaker x.caller.0 (both_first _ _ all)) ∙ all_by p q xs weaker (both_second (p x.caller.0) _ all)

pub none_of : (c : ℕ) (p : ℕ → Bool) (xs : List Entry) → ((n : ℕ) → p n ≡ true → (n == c) ≡ false) → list_all (by_caller p) xs ≡ true → filter (is_of c) xs ≡ []
none_of c p [] other all = refl
none_of c p (x ∷ xs) other all = ap (λ b. cond b (x ∷ filter (is_of c) xs) (filter (is_of c) xs)) (other x.caller.0 (both_first _ _ all)) ∙ none_of c p xs other (both_second (p x.caller.0) _ all)

abbrev pub within : ℕ → ℕ → ℕ → Bool
within low high n = nat_le low n && nat_lt n high

pub clients_rest : (tells : Bool) (c : ℕ) (old : List Entry) (clients : List (List Step)) (new : List Entry) → TurnedClients tells c old clients new → (rest : List Entry) × (new ≡ old ++ rest) × (list_all (by_caller (within c (c + length clients))) rest ≡ true)
clients_rest tells c old [] new turned = ([], sym turned ∙ sym (append-nil old), refl)
clients_rest tells c old (client ∷ clients) new turned =
    let mine : (rest : List Entry) × (turned.0 ≡ old ++ rest) × (list_all (by_caller (λ n. n == c)) rest ≡ true) = stepped_rest tells c old 0 client turned.0 turned.1 turned.2 in
    let more : (rest : List Entry) × (new ≡ turned.0 ++ rest) × (list_all (by_caller (within (c + 1) (c + 1 + length clients))) rest ≡ true) = clients_rest tells (c + 1) turned.0 clients new turned.3 in (
      mine.0 ++ more.0,
      more.1 ∙ ap (λ (xs : List Entry). xs ++ more.0) mine.1 ∙ append_assoc old mine.0 more.0,
      all_both (within c (c + suc (length clients))) mine.0 more.0
          (all_by (λ n. n == c) (within c (c + suc (length clients))) mine.0 (λ n e. first c n (length clients) e) mine.2)
          (all_by (within (c + 1) (c + 1 + length clients)) (within c (c + suc (length clients))) more.0 (λ n e. later c n (length clients) e) more.2),
    )
  where
    first : (c n k : ℕ) → (n == c) ≡ true → within c (c + suc k) n ≡ true
    first c n k e = grind (arith, nat_tests)

    later : (c n k : ℕ) → within (c + 1) (c + 1 + k) n ≡ true → within c (c + suc k) n ≡ true
    later c n k e = grind (arith, nat_tests)

-- ---- links

pub linked_end : (tells : Bool) (c : ℕ) (old : List Entry) (number : ℕ) (steps : List Step) (now rest : List Entry) → filter (is_of c) rest ≡ [] → AreLinked tells c old number steps now → AreLinked tells c old number steps (now ++ rest)
linked_end tells c old number [] now rest foreign linked =
    (linked.0 ++ rest, ap (λ (xs : List Entry). xs ++ rest) linked.1 ∙ append_assoc old linked.0 rest, filter-append (is_of c) linked.0 rest ∙ ap (λ (xs : List Entry). xs ++ filter (is_of c) rest) linked.2 ∙ foreign)
linked_end tells c old number (made m ∷ steps) now rest foreign linked = (linked.0, linked.1, linked_end tells c linked.0 m.seq steps now rest foreign linked.2)
linked_end tells c old number (failed position ∷ steps) now rest foreign linked = (linked.0, linked.1, linked_end tells c linked.0 number steps now rest foreign linked.2)
linked_end tells c old number (counted n ∷ steps) now rest foreign linked = (linked.0, linked_end tells c old n steps now rest foreign linked.1)
linked_end tells c old number (printed s ∷ steps) now rest foreign linked = (linked.0, linked.1, linked_end tells c linked.0 s.seq steps now rest foreign linked.2)

clients_met : (tells : Bool) (begun before old ended rest : List Entry) (c : ℕ) (clients : List (List Step)) → 1 ≤ c → old ≡ begun ++ before → list_all (by_caller (λ n. n == 0)) begun ≡ true → list_all (by_caller (λ n. nat_lt n c)) before ≡ true → list_all (by_caller (λ n. n == 0)) rest ≡ true →
    TurnedClients tells c old clients ended → AreClientsMet tells begun ended (ended ++ rest) c clients
clients_met tells begun before old ended rest c [] one front first lower last turned = tt
clients_met tells begun before old ended rest c (client ∷ clients) one front first lower last turned =
    let mine : (own : List Entry) × (turned.0 ≡ old ++ own) × (list_all (by_caller (λ n. n == c)) own ≡ true) = stepped_rest tells c old 0 client turned.0 turned.1 turned.2 in
    let more : (others : List Entry) × (ended ≡ turned.0 ++ others) × (list_all (by_caller (within (c + 1) (c + 1 + length clients))) others ≡ true) = clients_rest tells (c + 1) turned.0 clients ended turned.3 in (
      record {
        calls =
            subst (λ (j : List Entry). AreLinked tells c begun 0 client j) (sym more.1)
            (linked_end tells c begun 0 client turned.0 more.0 (none_of c (within (c + 1) (c + 1 + length clients)) more.0 (λ n e. higher c n (length clients) e) more.2)
            (linked_wait tells c begun 0 client turned.0 before (none_of c (λ n. nat_lt n c) before (λ n e. less c n e) lower)
            (subst (λ (j : List Entry). AreLinked tells c j 0 client turned.0) front (stepped_linked tells c old 0 client turned.0 turned.1 turned.2))));
        before = none_of c (λ n. n == 0) begun (λ n e. not_zero c n one e) first;
        after = places-append c 0 ended rest ∙ ap (λ (ks : List ℕ). places_of c 0 ended ++ ks) (places_none c (0 + length ended) rest (none_of c (λ n. n == 0) rest (λ n e. not_zero c n one e) last)) ∙ append-nil (places_of c 0 ended);
      },
      clients_met tells begun (before ++ mine.0) turned.0 ended rest (c + 1) clients (omega arith)
          (mine.1 ∙ ap (λ (xs : List Entry). xs ++ mine.0) front ∙ append_assoc begun before mine.0) first
          (all_both (λ n. nat_lt n (c + 1)) before mine.0 (all_by (λ n. nat_lt n c) (λ n. nat_lt n (c + 1)) before (λ n e. less_still c n e) lower) (all_by (λ n. n == c) (λ n. nat_lt n (c + 1)) mine.0 (λ n e. less_self c n e) mine.2))
          last turned.3,
    )
  where
    higher : (c n k : ℕ) → within (c + 1) (c + 1 + k) n ≡ true → (n == c) ≡ false
    higher c n k e = grind (arith, nat_tests)

    less : (c n : ℕ) → nat_lt n c ≡ true → (n == c) ≡ false
    less c n e = grind (arith, nat_tests)

    not_zero : (c n : ℕ) → 1 ≤ c → (n == 0) ≡ true → (n == c) ≡ false
    not_zero c n one e = grind (arith, nat_tests)

    less_still : (c n : ℕ) → nat_lt n c ≡ true → nat_lt n (c + 1) ≡ true
    less_still c n e = grind (arith, nat_tests)

    less_self : (c n : ℕ) → (n == c) ≡ true → nat_lt n (c + 1) ≡ true
    less_self c n e = grind (arith, nat_tests)

-- ---- one side

-- a side of a run in turn: setup, the clients one after the other, finish
pub record TurnedSide (tells : Bool) (steps : Sections Step) (journal : List Entry) : Type 0 where
  pub begun : List Entry
  pub ended : List Entry
  pub number : ℕ
  pub last : ℕ
  pub setup : AreStepsNext tells 0 [] 0 steps.setup begun number
  pub clients : TurnedClients tells 1 begun steps.clients ended
  pub finish : AreStepsNext tells 0 ended number steps.finish journal last

turned_met : (tells : Bool) (steps : Sections Step) (journal : List Entry) → is_proper journal ≡ true → length journal ≤ journal_limit → TurnedSide tells steps journal → AreMet tells journal steps
turned_met tells steps journal proper few turned =
    let first : (own : List Entry) × (turned.begun ≡ own) × (list_all (by_caller (λ n. n == 0)) own ≡ true) = stepped_rest tells 0 [] 0 steps.setup turned.begun turned.number turned.setup in
    let middle : (others : List Entry) × (turned.ended ≡ turned.begun ++ others) × (list_all (by_caller (within 1 (1 + length steps.clients))) others ≡ true) = clients_rest tells 1 turned.begun steps.clients turned.ended turned.clients in
    let last : (own : List Entry) × (journal ≡ turned.ended ++ own) × (list_all (by_caller (λ n. n == 0)) own ≡ true) = stepped_rest tells 0 turned.ended turned.number steps.finish journal turned.last turned.finish in
    let zeros : list_all (by_caller (λ n. n == 0)) turned.begun ≡ true = ap (list_all (by_caller (λ n. n == 0))) first.1 ∙ first.2 in
    record {
      begun = turned.begun;
      ended = turned.ended;
      proper = proper;
      few = few;
      setup = stepped_linked tells 0 [] 0 steps.setup turned.begun turned.number turned.setup;
      clients =
          subst (λ (j : List Entry). AreClientsMet tells turned.begun turned.ended j 1 steps.clients) (sym last.1)
          (clients_met tells turned.begun [] turned.begun turned.ended last.0 1 steps.clients (omega arith) (sym (append-nil turned.begun)) zeros refl last.2 turned.clients);
      meeting = (middle.0, middle.1, none_of 0 (within 1 (1 + length steps.clients)) middle.0 (λ n e. above n (length steps.clients) e) middle.2);
      finish = subst (λ n. AreLinked tells 0 turned.ended n steps.finish journal) (sym (stepped_last tells 0 [] 0 steps.setup turned.begun turned.number turned.setup)) (stepped_linked tells 0 turned.ended turned.number steps.finish journal turned.last turned.finish);
      alone =
          ap (list_all (by_caller (λ n. nat_lt n (length steps.clients + 1)))) (last.1 ∙ ap (λ (xs : List Entry). xs ++ last.0) middle.1)
          ∙ all_both (λ n. nat_lt n (length steps.clients + 1)) (turned.begun ++ middle.0) last.0
          (all_both (λ n. nat_lt n (length steps.clients + 1)) turned.begun middle.0
          (all_by (λ n. n == 0) (λ n. nat_lt n (length steps.clients + 1)) turned.begun (λ n e. zero_low n (length steps.clients) e) zeros)
          (all_by (within 1 (1 + length steps.clients)) (λ n. nat_lt n (length steps.clients + 1)) middle.0 (λ n e. within_low n (length steps.clients) e) middle.2))
          (all_by (λ n. n == 0) (λ n. nat_lt n (length steps.clients + 1)) last.0 (λ n e. zero_low n (length steps.clients) e) last.2);
    }
  where
    above : (n k : ℕ) → within 1 (1 + k) n ≡ true → (n == 0) ≡ false
    above n k e = grind (arith, nat_tests)

    zero_low : (n k : ℕ) → (n == 0) ≡ true → nat_lt n (k + 1) ≡ true
    zero_low n k e = grind (arith, nat_tests)

    within_low : (n k : ℕ) → within 1 (1 + k) n ≡ true → nat_lt n (k + 1) ≡ true
    within_low n k e = grind (arith, nat_tests)

-- ---- in turn

clients_turn : (tells : Bool) (c : ℕ) (old : List Entry) (clients : List (List Step)) (new : List Entry) → TurnedClients tells c old clients new → (in_turn (length old) (flat_map (λ client. client) clients) ≡ true) × (reached (length old) (flat_map (λ client. client) clients) ≡ length new)
clients_turn tells c old [] new turned = (refl, ap length turned)
clients_turn tells c old (client ∷ clients) new turned =
    let mine : (in_turn (length old) client ≡ true) × (reached (length old) client ≡ length turned.0) = stepped_turn tells c old 0 client turned.0 turned.1 turned.2 in
    let more : (in_turn (length turned.0) (flat_map (λ client. client) clients) ≡ true) × (reached (length turned.0) (flat_map (λ client. client) clients) ≡ length new) = clients_turn tells (c + 1) turned.0 clients new turned.3 in (
      in_turn-append (length old) client (flat_map (λ client. client) clients) mine.0 (ap (λ n. in_turn n (flat_map (λ client. client) clients)) mine.1 ∙ more.0),
      reached-append (length old) client (flat_map (λ client. client) clients) ∙ ap (λ n. reached n (flat_map (λ client. client) clients)) mine.1 ∙ more.1,
    )

side_turn : (tells : Bool) (steps : Sections Step) (journal : List Entry) → TurnedSide tells steps journal → in_turn 0 (in_order steps) ≡ true
side_turn tells steps journal turned =
    let first : (in_turn 0 steps.setup ≡ true) × (reached 0 steps.setup ≡ length turned.begun) = stepped_turn tells 0 [] 0 steps.setup turned.begun turned.number turned.setup in
    let middle : (in_turn (length turned.begun) (flat_map (λ client. client) steps.clients) ≡ true) × (reached (length turned.begun) (flat_map (λ client. client) steps.clients) ≡ length turned.ended) = clients_turn tells 1 turned.begun steps.clients turned.ended turned.clients in
    let last : (in_turn (length turned.ended) steps.finish ≡ true) × (reached (length turned.ended) steps.finish ≡ length journal) = stepped_turn tells 0 turned.ended turned.number steps.finish journal turned.last turned.finish in
    in_turn-append 0 steps.setup (flat_map (λ client. client) steps.clients ++ steps.finish) first.0
    (ap (λ n. in_turn n (flat_map (λ client. client) steps.clients ++ steps.finish)) first.1
    ∙ in_turn-append (length turned.begun) (flat_map (λ client. client) steps.clients) steps.finish middle.0 (ap (λ n. in_turn n steps.finish) middle.1 ∙ last.0))

-- ---- both sides

abbrev pub source_side : (st dt : Bool) (page : ℕ) (runs : Sections LineRun) (source target : List Entry) → IsSerial st dt page runs source target → TurnedSide st (steps_to Source runs) source
source_side st dt page runs source target serial =
    record {
      begun = serial.begun.source;
      ended = serial.ended.source;
      number = serial.begun.source_calls;
      last = serial.last.source_calls;
      setup = source_turned st dt page 0 fresh runs.setup serial.begun serial.setup;
      clients = source_clients st dt page 1 serial.begun runs.clients serial.ended serial.clients;
      finish = subst (λ (j : List Entry). AreStepsNext st 0 serial.ended.source serial.begun.source_calls (steps_on Source runs.finish) j serial.last.source_calls) serial.source_is (source_turned st dt page 0 _ runs.finish serial.last serial.finish);
    }

abbrev pub target_side : (st dt : Bool) (page : ℕ) (runs : Sections LineRun) (source target : List Entry) → IsSerial st dt page runs source target → TurnedSide dt (steps_to Target runs) target
target_side st dt page runs source target serial =
    record {
      begun = serial.begun.target;
      ended = serial.ended.target;
      number = serial.begun.target_calls;
      last = serial.last.target_calls;
      setup = target_turned st dt page 0 fresh runs.setup serial.begun serial.setup;
      clients = target_clients st dt page 1 serial.begun runs.clients serial.ended serial.clients;
      finish = subst (λ (j : List Entry). AreStepsNext dt 0 serial.ended.target serial.begun.target_calls (steps_on Target runs.finish) j serial.last.target_calls) serial.target_is (target_turned st dt page 0 _ runs.finish serial.last serial.finish);
    }

pub serial_source : (st dt : Bool) (page : ℕ) (runs : Sections LineRun) (source target : List Entry) → is_proper source ≡ true → length source ≤ journal_limit → IsSerial st dt page runs source target → IsSide st source (steps_to Source runs)
serial_source st dt page runs source target proper few serial = met_side st source (steps_to Source runs) (turned_met st (steps_to Source runs) source proper few (source_side st dt page runs source target serial))

pub serial_target : (st dt : Bool) (page : ℕ) (runs : Sections LineRun) (source target : List Entry) → is_proper target ≡ true → length target ≤ journal_limit → IsSerial st dt page runs source target → IsSide dt target (steps_to Target runs)
serial_target st dt page runs source target proper few serial = met_side dt target (steps_to Target runs) (turned_met dt (steps_to Target runs) target proper few (target_side st dt page runs source target serial))

pub serial_turn : (st dt : Bool) (page : ℕ) (runs : Sections LineRun) (source target : List Entry) → IsSerial st dt page runs source target → IsInTurn runs
serial_turn st dt page runs source target serial =
    record {
      source = side_turn st (steps_to Source runs) source (source_side st dt page runs source target serial);
      target = side_turn dt (steps_to Target runs) target (target_side st dt page runs source target serial);
    }
