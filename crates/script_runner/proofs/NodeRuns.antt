-- A command that was run on a namenode, and on its side.
use Rattle.std.proofs.Common.{◌≡◌, ℕ, Bool, true, false, cond, ◌&&◌, Option, Some, None, List, [], ◌∷◌, map, refl, ap, sym, ◌∙◌, subst}
use Rattle.std.specs.Prelude.{is_some}
use Rattle.std.proofs.Math.Path.{fun_ext}
use Rattle.hs_types.specs.Blocks.{BlockMap}
use Rattle.hs_types.specs.Limits.{journal_limit}
use Rattle.hs_types.specs.declared.ids.CallerId.{CallerId}
use Rattle.hs_types.specs.declared.ids.Side.{Side}
use Rattle.hs_types.specs.declared.ids.Side.TheVariants.{Source, Target}
use Rattle.hs_types.specs.declared.call.Call.{Call}
use Rattle.hs_types.specs.declared.journal.Entry.{Entry}
use Rattle.hs_types.specs.declared.reply.Answered.{Answered}
use Rattle.hs_plain.specs.Legal.{Said}
use Rattle.namenode_write.specs.NamenodeValue.{NamenodeValue}
use Rattle.namenode_write.proofs.FaultCountLaws.{counted_none, counted_then}
use Rattle.namenode_lock.specs.NodeLinks.{known_of, StaysAlone}
use Rattle.script_text.specs.declared.command.Command.{Command}
use Rattle.script_text.specs.declared.command.Command.TheVariants as commands
use Rattle.script_text.specs.declared.command.Pages.TheVariants as pages
use Rattle.script_text.specs.declared.command.PagesKind.{PagesKind}
use Rattle.script_text.specs.declared.command.PagesKind.TheVariants as kinds
use Rattle.run_output.specs.declared.ran.LogWhat.{LogWhat}
use Rattle.run_output.specs.Calls.{Kept, same_side, same_kind, keep, kept_by, IsOne, AreOf, side_of}
use Rattle.run_output.specs.Steps.{printed, goes_to, DoesSync}
use Rattle.run_output.specs.Run.{what_of, logged}
use Rattle.script_runner.specs.declared.client.Client.{Client}
use Rattle.script_runner.specs.declared.client.Session.{Session}
use Rattle.script_runner.specs.declared.client.Cursors.{Cursors}
use Rattle.script_runner.specs.declared.commands.Ask.{Ask}
use Rattle.script_runner.specs.declared.commands.Ask.TheVariants as asks
use Rattle.script_runner.specs.Commands.{IsAskDone, asked_command, on_each}
use Rattle.script_runner.specs.InTurn.{World, AreNext, AreStepsNext, IsSyncedAt}
use Rattle.script_runner.specs.Keeping.{kept_of}
use Rattle.script_runner.specs.Nodes.{world, StaysNode, IsNodeRun, IsCommandDone}
use Rattle.script_runner.proofs.Made.{made_limit, made_tells, made_in_turn}
use Rattle.script_runner.proofs.Stepped.{stepped_said}

-- calls through a link that has its namenode alone
module _ {S : Type 0} (blocks : S → Option BlockMap) (faults : S → ℕ) (caller later : CallerId) (seq : ℕ) (old new : NamenodeValue S) (page calls : ℕ) (ask : Ask) (kept now : Cursors) (replies : List Answered) where
  pub asked_run : old.limit ≡ journal_limit → StaysAlone faults caller later old new → IsAskDone page ask (known_of blocks caller calls old) (known_of blocks later seq new) kept now replies →
      IsNodeRun (is_some (blocks old.store)) page caller.0 ask old.entries new.entries (record { calls = calls; cursors = kept }) (record { calls = seq; cursors = now }) replies
  asked_run usual stays asked = record {
    said = asked.said;
    calls = asked.calls;
    made = made_in_turn (known_of blocks caller calls old) (known_of blocks later seq new) asked.said usual asked.made stays.own.more stays.own.grown stays.own.own;
    replies_are = asked.replies_are;
    keeps = asked.keeps;
  }

  pub asked_stays : StaysAlone faults caller later old new → IsAskDone page ask (known_of blocks caller calls old) (known_of blocks later seq new) kept now replies → StaysNode blocks faults old new
  asked_stays stays asked = record {
    limit = made_limit (known_of blocks caller calls old) (known_of blocks later seq new) asked.said asked.made;
    tells = made_tells (known_of blocks caller calls old) (known_of blocks later seq new) asked.said asked.made;
    counted = stays.counted;
  }

-- ---- on one side

some_of : {A : Type 0} (a b : A) → Some a ≡ Some b → a ≡ b
some_of a b e = cc

keep_same : (kept other : Kept) (side at : Side) (kind : PagesKind) (next : Option Call) → kept at ≡ other at → keep kept side kind next at ≡ keep other side kind next at
keep_same kept other side at kind next same = ap (λ (f : PagesKind → Option Call). λ (k : PagesKind). cond (same_side at side && same_kind k kind) next (f k)) same

keep_away : (kept : Kept) (side away : Side) (kind : PagesKind) (next : Option Call) → same_side away side ≡ false → keep kept side kind next away ≡ kept away
keep_away kept side away kind next other = ap (λ (b : Bool). λ (k : PagesKind). cond (b && same_kind k kind) next (kept away k)) other

module _ (page : ℕ) (said : List Said) where
  -- what a command makes of the cursors of its side follows from those
  kept_same : (kept other : Kept) (command : Command) (at : Side) → kept at ≡ other at → kept_by page kept command said at ≡ kept_by page other command said at
  kept_same kept other (commands.Call side call) at same = same
  kept_same kept other (commands.All side what) at same = same
  kept_same kept other (commands.First side (pages.File path)) at same = same
  kept_same kept other (commands.First side (pages.Listing path)) at same = keep_same kept other side at kinds.Listing _ same
  kept_same kept other (commands.First side (pages.Report path from to)) at same = keep_same kept other side at kinds.Report _ same
  kept_same kept other (commands.More side kind) at same = keep_same kept other side at kind _ same
  kept_same kept other (commands.Sync source target from to) at same = same

  -- those of the other side stay
  kept_away : (kept : Kept) (command : Command) (at away : Side) → side_of command ≡ Some at → same_side away at ≡ false → kept_by page kept command said away ≡ kept away
  kept_away kept (commands.Call side call) at away is other = refl
  kept_away kept (commands.All side what) at away is other = refl
  kept_away kept (commands.First side (pages.File path)) at away is other = refl
  kept_away kept (commands.First side (pages.Listing path)) at away is other = keep_away kept side away kinds.Listing _ (ap (same_side away) (some_of side at is) ∙ other)
  kept_away kept (commands.First side (pages.Report path from to)) at away is other = keep_away kept side away kinds.Report _ (ap (same_side away) (some_of side at is) ∙ other)
  kept_away kept (commands.More side kind) at away is other = keep_away kept side away kind _ (ap (same_side away) (some_of side at is) ∙ other)
  kept_away kept (commands.Sync source target from to) at away is other = refl

  -- and so do its calls
  calls_same : (kept other : Kept) (command : Command) (at : Side) → side_of command ≡ Some at → kept at ≡ other at → AreOf page kept command said → AreOf page other command said
  calls_same kept other (commands.Call side call) at is same calls = calls
  calls_same kept other (commands.All side what) at is same calls = calls
  calls_same kept other (commands.First side what) at is same calls = calls
  calls_same kept other (commands.More side kind) at is same calls =
      let here : kept side ≡ other side = subst (λ (s : Side). kept s ≡ other s) (sym (some_of side at is)) same in
      subst (λ (next : Option Call). IsOne next said) (ap (λ (f : PagesKind → Option Call). f kind) here) calls
  calls_same kept other (commands.Sync source target from to) at is same calls = calls

-- a command that asks a side is no sync
side_asked : (side : Side) (ask : Ask) → side_of (asked_command side ask) ≡ Some side
side_asked side (asks.Call call) = refl
side_asked side (asks.All what) = refl
side_asked side (asks.First what) = refl
side_asked side (asks.More kind) = refl

no_sync : (side : Side) (ask : Ask) → DoesSync (asked_command side ask) None
no_sync side (asks.Call call) = tt
no_sync side (asks.All what) = tt
no_sync side (asks.First what) = tt
no_sync side (asks.More kind) = tt

none_within : (st dt : Bool) (page c : ℕ) (old new : World) (side : Side) (ask : Ask) → IsSyncedAt st dt page c old new (asked_command side ask) None
none_within st dt page c old new side (asks.Call call) = tt
none_within st dt page c old new side (asks.All what) = tt
none_within st dt page c old new side (asks.First what) = tt
none_within st dt page c old new side (asks.More kind) = tt

-- it logs its replies
logs_so : (side : Side) (ask : Ask) (said : List Said) (replies : List Answered) (line : ℕ) → replies ≡ map (λ s. s.told) said → record { line = line; what = what_of side replies } ∷ [] ≡ logged line (side_of (asked_command side ask)) said
logs_so side ask said replies line are =
    ap (λ (list : List Answered). record { line = line; what = what_of side list } ∷ []) are ∙ ap (λ (at : Option Side). logged line at said) (sym (side_asked side ask))

-- its steps are on its side alone
steps_here : (tells : Bool) (c : ℕ) (side : Side) (ask : Ask) (old new : List Entry) (number last : ℕ) (said : List Said) → same_side side side ≡ true → AreNext tells c old number said new last →
    AreStepsNext tells c old number (cond (goes_to side (side_of (asked_command side ask))) (map printed said) []) new last
steps_here tells c side ask old new number last said here next =
    subst (λ (b : Bool). AreStepsNext tells c old number (cond b (map printed said) []) new last) (sym (ap (goes_to side) (side_asked side ask) ∙ here)) (stepped_said tells c old number said new last next)

none_there : (tells : Bool) (c : ℕ) (side away : Side) (ask : Ask) (journal : List Entry) (number : ℕ) (said : List Said) → same_side away side ≡ false →
    AreStepsNext tells c journal number (cond (goes_to away (side_of (asked_command side ask))) (map printed said) []) journal number
none_there tells c side away ask journal number said other =
    subst (λ (b : Bool). AreStepsNext tells c journal number (cond b (map printed said) []) journal number) (sym (ap (goes_to away) (side_asked side ask) ∙ other)) (refl, refl)

-- a command that asks the source
source_run : (st dt : Bool) (page c : ℕ) (ask : Ask) (old new target : List Entry) (client : Client) (after : Session) (replies : List Answered) →
    IsNodeRun st page c ask old new client.source after replies →
    IsCommandDone st dt page c (world old target client) (world new target (record client { source = after })) (kept_of page client) (kept_of page (record client { source = after })) (asked_command Source ask) (what_of Source replies)
source_run st dt page c ask old new target client after replies ran =
    let command : Command = asked_command Source ask in
    let one : Kept = on_each page client.source.cursors in
    record {
      said = ran.said;
      synced = None;
      calls = calls_same page ran.said one (kept_of page client) command Source (side_asked Source ask) refl (ran.calls Source);
      syncs = no_sync Source ask;
      made = record {
        source = steps_here st c Source ask old new client.source.calls after.calls ran.said refl ran.made;
        target = none_there dt c Source Target ask target client.target.calls ran.said refl;
        within = none_within st dt page c (world old target client) (world new target (record client { source = after })) Source ask;
      };
      logs = λ line. logs_so Source ask ran.said replies line ran.replies_are;
      keeps = fun_ext (λ s. by s);
    }
  where
    by : (s : Side) → kept_of page (record client { source = after }) s ≡ kept_by page (kept_of page client) (asked_command Source ask) ran.said s
    by Source = ran.keeps Source ∙ kept_same page ran.said (on_each page client.source.cursors) (kept_of page client) (asked_command Source ask) Source refl
    by Target = sym (kept_away page ran.said (kept_of page client) (asked_command Source ask) Source Target (side_asked Source ask) refl)

-- a command that asks the target
target_run : (st dt : Bool) (page c : ℕ) (ask : Ask) (old new source : List Entry) (client : Client) (after : Session) (replies : List Answered) →
    IsNodeRun dt page c ask old new client.target after replies →
    IsCommandDone st dt page c (world source old client) (world source new (record client { target = after })) (kept_of page client) (kept_of page (record client { target = after })) (asked_command Target ask) (what_of Target replies)
target_run st dt page c ask old new source client after replies ran =
    let command : Command = asked_command Target ask in
    let one : Kept = on_each page client.target.cursors in
    record {
      said = ran.said;
      synced = None;
      calls = calls_same page ran.said one (kept_of page client) command Target (side_asked Target ask) refl (ran.calls Target);
      syncs = no_sync Target ask;
      made = record {
        source = none_there st c Target Source ask source client.source.calls ran.said refl;
        target = steps_here dt c Target ask old new client.target.calls after.calls ran.said refl ran.made;
        within = none_within st dt page c (world source old client) (world source new (record client { target = after })) Target ask;
      };
      logs = λ line. logs_so Target ask ran.said replies line ran.replies_are;
      keeps = fun_ext (λ s. by s);
    }
  where
    by : (s : Side) → kept_of page (record client { target = after }) s ≡ kept_by page (kept_of page client) (asked_command Target ask) ran.said s
    by Source = sym (kept_away page ran.said (kept_of page client) (asked_command Target ask) Target Source (side_asked Target ask) refl)
    by Target = ran.keeps Target ∙ kept_same page ran.said (on_each page client.target.cursors) (kept_of page client) (asked_command Target ask) Target refl

-- with what is logged
pub source_logged : (st dt : Bool) (page c : ℕ) (side : Side) (ask : Ask) (old new target : List Entry) (client : Client) (after : Session) (replies : List Answered) (what : LogWhat) → side ≡ Source → what ≡ what_of Source replies →
    IsNodeRun st page c ask old new client.source after replies →
    IsCommandDone st dt page c (world old target client) (world new target (record client { source = after })) (kept_of page client) (kept_of page (record client { source = after })) (asked_command side ask) what
source_logged st dt page c side ask old new target client after replies what at is ran =
    subst (λ (s : Side). IsCommandDone st dt page c (world old target client) (world new target (record client { source = after })) (kept_of page client) (kept_of page (record client { source = after })) (asked_command s ask) what) (sym at)
    (subst (λ (w : LogWhat). IsCommandDone st dt page c (world old target client) (world new target (record client { source = after })) (kept_of page client) (kept_of page (record client { source = after })) (asked_command Source ask) w) (sym is)
    (source_run st dt page c ask old new target client after replies ran))

pub target_logged : (st dt : Bool) (page c : ℕ) (side : Side) (ask : Ask) (old new source : List Entry) (client : Client) (after : Session) (replies : List Answered) (what : LogWhat) → side ≡ Target → what ≡ what_of Target replies →
    IsNodeRun dt page c ask old new client.target after replies →
    IsCommandDone st dt page c (world source old client) (world source new (record client { target = after })) (kept_of page client) (kept_of page (record client { target = after })) (asked_command side ask) what
target_logged st dt page c side ask old new source client after replies what at is ran =
    subst (λ (s : Side). IsCommandDone st dt page c (world source old client) (world source new (record client { target = after })) (kept_of page client) (kept_of page (record client { target = after })) (asked_command s ask) what) (sym at)
    (subst (λ (w : LogWhat). IsCommandDone st dt page c (world source old client) (world source new (record client { target = after })) (kept_of page client) (kept_of page (record client { target = after })) (asked_command Target ask) w) (sym is)
    (target_run st dt page c ask old new source client after replies ran))

-- ---- what stays

pub stays_first : {S : Type 0} (blocks : S → Option BlockMap) (faults : S → ℕ) (node : NamenodeValue S) → StaysNode blocks faults node node
stays_first blocks faults node = record { limit = refl; tells = refl; counted = counted_none faults node }

pub stays_then : {S : Type 0} (blocks : S → Option BlockMap) (faults : S → ℕ) (before now after : NamenodeValue S) → StaysNode blocks faults before now → StaysNode blocks faults now after → StaysNode blocks faults before after
stays_then blocks faults before now after one two = record { limit = two.limit ∙ one.limit; tells = two.tells ∙ one.tells; counted = counted_then faults before now after one.counted two.counted }
