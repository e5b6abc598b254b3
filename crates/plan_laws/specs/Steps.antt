-- The steps of a plan, and a journal in which they stand among other entries.
use Rattle.std.specs.Prelude.{◌≡◌, ⊤, ℕ, ◌+◌, Bool, true, false, List, [], ◌∷◌, ◌++◌, map, None, is_some}
use Rattle.std.specs.List.{filter, AllByRecursion}
use Rattle.hs_types.specs.Names.{Names}
use Rattle.hs_types.specs.declared.call.Call.{Call}
use Rattle.hs_types.specs.declared.call.Call.TheVariants as calls
use Rattle.hs_types.specs.declared.journal.Entry.{Entry}
use Rattle.hs_plain.specs.declared.state.State.{State}
use Rattle.hs_plain.specs.declared.state.Body.TheVariants.{Dir}
use Rattle.hs_plain.specs.Files.{plain_files}
use Rattle.hs_plain.specs.Tree.{Tree, is_dir_body}
use Rattle.hs_plain.specs.Answer.{answer, is_ok_reply}
use Rattle.hs_plain.specs.Change.{after, is_accepted}
use Rattle.hs_plain.specs.Plan.{outs, rest_below}
use Rattle.hs_plain.specs.Span.{touches}
use Rattle.plan_laws.specs.Sight.{Placing, Back, New, moved_sight, made_sight, Goes, Makes}
use Rattle.plan_laws.specs.Placings.{placings}
use Rattle.plan_laws.specs.Copies.{Contents, CopyCall, Create, Append, path_of_call, call_done, CallGoes, without_sight}
use Rattle.plan_laws.specs.Bridge.{Leads}

-- a move to a name in a directory, a new directory, a call of a copy, and the end of the temporary directory
pub data Step : Type 0 where
  Move : Names → Names → List ℕ → Step
  Make : Names → List ℕ → Step
  Fill : CopyCall → Step
  Drop : List ℕ → Step

abbrev pub step_done : Contents → Step → Contents
step_done seen (Move old above name) = moved_sight seen old (above ++ name ∷ [])
step_done seen (Make above name) = made_sight seen (above ++ name ∷ []) Dir
step_done seen (Fill call) = call_done seen call
step_done seen (Drop name) = without_sight seen (name ∷ [])

abbrev pub steps_done : Contents → List Step → Contents
steps_done seen [] = seen
steps_done seen (step ∷ steps) = steps_done (step_done seen step) steps

-- what makes a step's call accepted
abbrev pub StepGoes : Contents → Step → Type 0
StepGoes seen (Move old above name) = Goes is_dir_body seen old above name × (old ≡ [] → ⊥) × (rest_below old (above ++ name ∷ []) ≡ None)
StepGoes seen (Make above name) = Makes is_dir_body seen above name
StepGoes seen (Fill call) = CallGoes seen call
StepGoes seen (Drop name) = is_some (seen (name ∷ [])) ≡ true

abbrev pub StepsGo : Contents → List Step → Type 0
StepsGo seen [] = ⊤
StepsGo seen (step ∷ steps) = StepGoes seen step × StepsGo (step_done seen step) steps

-- ---- the steps of a plan

abbrev pub out_steps : List ℕ → (ℕ → List ℕ) → ℕ → List Names → List Step
out_steps tmp number i [] = []
out_steps tmp number i (path ∷ paths) = Move path (tmp ∷ []) (number i) ∷ out_steps tmp number (i + 1) paths

abbrev pub put_step : {X : Type 0} → List ℕ → (ℕ → List ℕ) → Placing X → Step
put_step tmp number (Back i above name) = Move (tmp ∷ number i ∷ []) above name
put_step tmp number (New node above name) = Make above name

-- the temporary directory is made, the outs go into it and the puts out of it, files are copied, and it goes
abbrev pub plan_steps : List ℕ → (ℕ → List ℕ) → Tree (List ℕ) → Tree (List ℕ) → List CopyCall → List Step
plan_steps tmp number from to copies = Make [] tmp ∷ (out_steps tmp number 0 (outs from to) ++ (map (put_step tmp number) (placings from to) ++ (map Fill copies ++ Drop tmp ∷ [])))

-- ---- their calls

module _ (text : Names → List ℕ) where
  abbrev pub copy_call : CopyCall → Call
  copy_call (Create path) = calls.Create (text path) true
  copy_call (Append path bytes) = calls.Append (text path) bytes

  abbrev pub step_call : Step → Call
  step_call (Move old above name) = calls.Rename (text old) (text (above ++ name ∷ []))
  step_call (Make above name) = calls.Mkdir (text (above ++ name ∷ []))
  step_call (Fill call) = copy_call call
  step_call (Drop name) = calls.Delete (text (name ∷ [])) true

  -- the texts of a step's call stand for its paths below the root
  abbrev pub StepLeads : Names → Step → Type 0
  StepLeads root (Move old above name) = Leads (text old) root old × Leads (text (above ++ name ∷ [])) root (above ++ name ∷ [])
  StepLeads root (Make above name) = Leads (text (above ++ name ∷ [])) root (above ++ name ∷ [])
  StepLeads root (Fill call) = Leads (text (path_of_call call)) root (path_of_call call)
  StepLeads root (Drop name) = Leads (text (name ∷ [])) root (name ∷ [])

-- ---- a journal

-- the calls of a sync's own entries
abbrev pub own_calls : (Entry → Bool) → List Entry → List Call
own_calls is_own entries = map (λ entry. entry.call) (filter is_own entries)

-- a sync's own entries, accepted, have the first of these calls, and no other entry touches the root
pub record HasFirst (is_own : Entry → Bool) (root : List ℕ) (entries : List Entry) (calls : List Call) : Type 0 where
  pub rest : List Call
  pub own : own_calls is_own entries ++ rest ≡ calls
  pub accepted : AllByRecursion (λ entry. is_own entry ≡ true → is_accepted entry.kind ≡ true) entries
  pub others : AllByRecursion (λ entry. is_own entry ≡ false → touches root entry ≡ false) entries

-- the first of the calls that are left would be answered by an Ok reply
abbrev pub NextIsOk : State (List ℕ) → List Call → Type 0
NextIsOk state [] = ⊤
NextIsOk state (call ∷ rest) = is_ok_reply (answer state call) ≡ true

-- each own call is answered by an Ok reply where it stands
abbrev pub AreOk : (Entry → Bool) → State (List ℕ) → List Entry → Type 0
AreOk is_own state [] = ⊤
AreOk is_own state (entry ∷ entries) = (is_own entry ≡ true → is_ok_reply (answer state entry.call) ≡ true) × AreOk is_own (after plain_files state entry) entries
