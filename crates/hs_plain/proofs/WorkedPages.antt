-- Worked examples of snapshots and pages, by computation.
use Rattle.std.proofs.Common.{refl}
use Rattle.hs_plain.specs.worked.Pages.{MiddleDeleted, PagesOfTwo, MovedReport}

pub middle_deleted : MiddleDeleted
middle_deleted = record { told_so = refl; proper = refl }

pub pages_of_two : PagesOfTwo
pages_of_two = record { told_so = refl; proper = refl }

pub moved_report : MovedReport
moved_report = record { told_so = refl; proper = refl }
