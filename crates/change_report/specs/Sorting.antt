-- Lines that are put in order.
use Rattle.std.specs.Prelude.{◌≡◌, false, List}
use Rattle.hs_types.specs.declared.reply.Line.{Line}
use Rattle.hs_plain.specs.Report.{line_before}
use Rattle.hs_plain.specs.Ordered.{AreOrdered}
use Rattle.hs_plain.proofs.ValidLists.{In}

-- no two of these lines have one path and one kind
abbrev pub AreApart : List Line → Type 0
AreApart lines = (a b : Line) → In lines a → In lines b → line_before a b ≡ false → line_before b a ≡ false → a ≡ b

-- strictly in order, and the same lines, where no two have one path and one kind
pub record AreSorted (lines sorted : List Line) : Type 0 where
  pub order : AreOrdered sorted
  pub back : (line : Line) → In sorted line → In lines line
  pub there : AreApart lines → (line : Line) → In lines line → In sorted line
