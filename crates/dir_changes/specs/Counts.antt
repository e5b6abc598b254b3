-- How many entries the lists of a directory have, and how often they name an inode.
use Rattle.std.specs.Prelude.{ℕ, zero, suc, ◌+◌, Bool, false, not, ◌==◌, if◌then◌else◌, List, [], ◌∷◌, ◌++◌, length, Option, Some, None}
use Rattle.hs_types.specs.declared.ids.InodeId.{InodeId}
use Rattle.dir_changes.specs.Entries.{holds, id_at}
use Rattle.dir_changes.specs.History.{DirHistory, Past, ids_of, dropped_at}

-- 1 where the test holds, else 0
abbrev pub one_where : Bool → ℕ
one_where test = if test then 1 else 0

abbrev pub same_id : InodeId → InodeId → Bool
same_id a b = a.0 == b.0

-- how many of these ids pass a test
abbrev pub count_ids : (InodeId → Bool) → List InodeId → ℕ
count_ids test [] = 0
count_ids test (id ∷ ids) = one_where (test id) + count_ids test ids

-- how often an id stands in a list
abbrev pub times : InodeId → List InodeId → ℕ
times x ids = count_ids (λ id. same_id id x) ids

-- the ids of all deleted entries
abbrev pub deleted_ids : List Past → List InodeId
deleted_ids [] = []
deleted_ids (past ∷ records) = ids_of past.diff.deleted ++ deleted_ids records

-- the ids that the current list and the deleted lists name
abbrev pub named_in : DirHistory → List InodeId
named_in dir = ids_of dir.children ++ deleted_ids dir.records

-- how often they name an inode
abbrev pub times_named : InodeId → DirHistory → ℕ
times_named x dir = times x (named_in dir)

-- how many entries the created lists have
abbrev pub created_in : List Past → ℕ
created_in [] = 0
created_in (past ∷ records) = length past.diff.created + created_in records

-- how many entries the deleted lists have
abbrev pub deleted_in : List Past → ℕ
deleted_in [] = 0
deleted_in (past ∷ records) = length past.diff.deleted + deleted_in records

-- how many entries all lists have: the current one, the created and the deleted ones
abbrev pub list_entries : DirHistory → ℕ
list_entries dir = length dir.children + (created_in dir.records + deleted_in dir.records)

-- whether there is a last record that has created the entry
abbrev pub last_created : List ℕ → InodeId → List Past → Bool
last_created name id [] = false
last_created name id (past ∷ []) = holds past.diff.created (name, id)
last_created name id (past ∷ next ∷ records) = last_created name id (next ∷ records)

-- whether the entry, once removed, goes to a deleted list: there is a last record, and it hasn't created the entry
abbrev pub goes_to_deleted : List ℕ → InodeId → List Past → Bool
goes_to_deleted name id [] = false
goes_to_deleted name id (past ∷ []) = not (holds past.diff.created (name, id))
goes_to_deleted name id (past ∷ next ∷ records) = goes_to_deleted name id (next ∷ records)

abbrev pub keeps_as : List ℕ → Option InodeId → List Past → Bool
keeps_as name None records = false
keeps_as name (Some id) records = goes_to_deleted name id records

-- whether the entry of that name, once removed, goes to a deleted list
abbrev pub keeps_removed : List ℕ → DirHistory → Bool
keeps_removed name dir = keeps_as name (id_at name dir.children) dir.records

-- how many created lists get an added entry
abbrev pub one_if_recorded : List Past → ℕ
one_if_recorded [] = 0
one_if_recorded (past ∷ records) = 1

-- how many created entries go as record i is combined: all of the first record's, else one for each that cancels out
abbrev pub created_gone : ℕ → List Past → ℕ
created_gone i [] = 0
created_gone zero (past ∷ records) = length past.diff.created
created_gone (suc i) (past ∷ records) = length (dropped_at (suc i) (past ∷ records))
