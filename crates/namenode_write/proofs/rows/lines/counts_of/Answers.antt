use Rattle.std.proofs.Common.{◌≡◌, length, ap, ◌∙◌, arith}
use Rattle.inode_table.specs.Kept.{told}
use Rattle.namenode_write.proofs.BareRows.{no-records, all-live}
use Rattle.namenode_write.proofs.RowCounts.{few-live}
use Rattle.namenode_write.proofs.rows.lines.counts_of.Goals as goal

pub returns-clause-live : goal.returns-clause-live
returns-clause-live c = λ state all.
    let few = few-live (told c.args.table.now) c.args.snaps.now state all in
    let same : c.counts-counts.result.rows ≡ length (told c.args.table.now).rows = ap (λ counts. counts.rows) c.counts-counts.ensures in
    omega (arith, few, same)

pub returns-clause-snapshots : goal.returns-clause-snapshots
returns-clause-snapshots c = λ state all. c.live_count.ensures (told c.args.table.now) state all

pub returns-clause-bare_records : goal.returns-clause-bare_records
returns-clause-bare_records c = λ state all alone. ap (λ counts. counts.records) c.counts-counts.ensures ∙ no-records (told c.args.table.now) c.args.snaps.now state all alone

pub returns-clause-bare_rows : goal.returns-clause-bare_rows
returns-clause-bare_rows c = λ state all alone. ap (λ counts. counts.rows) c.counts-counts.ensures ∙ all-live (told c.args.table.now) c.args.snaps.now state all alone
