use Rattle.std.proofs.Common.{◌++◌, sym, ap, ◌∙◌, append_assoc, List}
use Rattle.hs_types.specs.declared.ids.InodeId.{InodeId}
use Rattle.dir_changes.specs.Entries.{Entries}
use Rattle.dir_changes.specs.History.{ids_of}
use Rattle.dir_changes.specs.Counts.{deleted_ids}
use Rattle.inode_table.specs.Slots.{Slots}
use Rattle.inode_table.specs.Lessened.{lessen_all, ended}
use Rattle.inode_table.proofs.Dropped.{lessen-append, ended-append}
use Rattle.inode_table.proofs.releasing.name_dir_less.Goals as goal

pub returns-clause-rows : goal.returns-clause-rows
returns-clause-rows c =
    let dir = c.args.dir.now.history in
    let rows = c.args.rows.now.items in
    let listed = c.items.ensures.items ∙ c.current.ensures in
    c.name_deleted_less.ensures.rows ∙ ap (lessen_all (deleted_ids dir.records)) (c.name_entries_less.ensures.rows ∙ ap (λ (es : Entries). lessen_all (ids_of es) rows) listed) ∙ sym (lessen-append (ids_of dir.children) (deleted_ids dir.records) rows)

pub returns-clause-unnamed : goal.returns-clause-unnamed
returns-clause-unnamed c =
    let dir = c.args.dir.now.history in
    let rows = c.args.rows.now.items in
    let unnamed = c.args.unnamed.now.items in
    let listed = c.items.ensures.items ∙ c.current.ensures in
    c.name_deleted_less.ensures.unnamed
    ∙ ap (λ (ids : List InodeId). ids ++ ended (deleted_ids dir.records) c.name_entries_less.new.rows.items) (c.name_entries_less.ensures.unnamed ∙ ap (λ (es : Entries). unnamed ++ ended (ids_of es) rows) listed)
    ∙ ap (λ (s : Slots). (unnamed ++ ended (ids_of dir.children) rows) ++ ended (deleted_ids dir.records) s) (c.name_entries_less.ensures.rows ∙ ap (λ (es : Entries). lessen_all (ids_of es) rows) listed)
    ∙ append_assoc unnamed (ended (ids_of dir.children) rows) (ended (deleted_ids dir.records) (lessen_all (ids_of dir.children) rows))
    ∙ ap (λ (ids : List InodeId). unnamed ++ ids) (sym (ended-append (ids_of dir.children) (deleted_ids dir.records) rows))
