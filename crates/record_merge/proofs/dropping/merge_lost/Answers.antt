use Rattle.std.proofs.Common.{inl, inr, ◌∷◌, refl}
use Rattle.inode_table.specs.Kept.{told}
use Rattle.record_merge.proofs.Merging.{lost-merged, live-stays}
use Rattle.record_merge.proofs.dropping.merge_lost.Goals as goal

pub returns-in-Some-clause-looked : goal.returns-in-Some-clause-looked
returns-in-Some-clause-looked c = λ fewer issued todo are left.
    inl (lost-merged c.args.table.now c.args.snaps.now c.args.id c.always.ensures.proper fewer issued (c.args.id ∷ todo) are left c.in-Some.i (told c.merge.new.self) c.in-Some.ensures.some c.merge.ensures.merged)

pub returns-in-None-clause-looked : goal.returns-in-None-clause-looked
returns-in-None-clause-looked c = λ fewer issued todo are left.
    inr (live-stays c.args.table.now c.args.snaps.now c.args.id c.always.ensures.proper fewer issued (c.args.id ∷ todo) are left (told c.args.table.now) (c.in-None.ensures.none refl) refl)
