-- The numbers and names of refusals.
use Rattle.std.specs.Prelude.{ℕ, List, codes}
use Rattle.hs_types.specs.declared.refusal.Refusal.{Refusal}
use Rattle.hs_types.specs.declared.refusal.Refusal.TheVariants.{BadPath, TooLong, TooDeep, Reserved, ReadOnly, NotFound, NotDir, NotFile, Exists, NotSnapshotName, IsRoot, NotEmpty, HasSnapshots, IntoItself, NotSnapshottable, Nested, SnapshotExists, NoSnapshot, SnapshotLimit, Gone, Moved, JournalFull, StoreFault}

-- the number of a refusal; of several that hold the one with the least number is answered, but of a cursor Gone before all others
abbrev pub number_of : Refusal → ℕ
number_of BadPath = 1
number_of TooLong = 2
number_of TooDeep = 3
number_of Reserved = 4
number_of ReadOnly = 5
number_of NotFound = 6
number_of NotDir = 7
number_of NotFile = 8
number_of Exists = 9
number_of NotSnapshotName = 10
number_of IsRoot = 11
number_of NotEmpty = 12
number_of HasSnapshots = 13
number_of IntoItself = 14
number_of NotSnapshottable = 15
number_of Nested = 16
number_of SnapshotExists = 17
number_of NoSnapshot = 18
number_of SnapshotLimit = 19
number_of Gone = 20
number_of (Moved then now) = 21
number_of JournalFull = 22
number_of StoreFault = 23

-- the name of a refusal, as it is printed
abbrev pub refusal_name : Refusal → List ℕ
refusal_name BadPath = codes "BadPath"
refusal_name TooLong = codes "TooLong"
refusal_name TooDeep = codes "TooDeep"
refusal_name Reserved = codes "Reserved"
refusal_name ReadOnly = codes "ReadOnly"
refusal_name NotFound = codes "NotFound"
refusal_name NotDir = codes "NotDir"
refusal_name NotFile = codes "NotFile"
refusal_name Exists = codes "Exists"
refusal_name NotSnapshotName = codes "NotSnapshotName"
refusal_name IsRoot = codes "IsRoot"
refusal_name NotEmpty = codes "NotEmpty"
refusal_name HasSnapshots = codes "HasSnapshots"
refusal_name IntoItself = codes "IntoItself"
refusal_name NotSnapshottable = codes "NotSnapshottable"
refusal_name Nested = codes "Nested"
refusal_name SnapshotExists = codes "SnapshotExists"
refusal_name NoSnapshot = codes "NoSnapshot"
refusal_name SnapshotLimit = codes "SnapshotLimit"
refusal_name Gone = codes "Gone"
refusal_name (Moved then now) = codes "Moved"
refusal_name JournalFull = codes "JournalFull"
refusal_name StoreFault = codes "StoreFault"
