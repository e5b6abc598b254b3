-- A list cut by name, lines cut by index, and bytes cut by offset join to the whole.
use Rattle.std.specs.Prelude.{◌≡◌, ℕ, ◌≤◌, ⊤, true, List, [], ◌∷◌, drop, Option}
use Rattle.std.specs.List.{flat_map, AllByRecursion}
use Rattle.hs_types.specs.declared.call.Place.{Place}
use Rattle.hs_types.specs.declared.call.ReportCursor.{ReportCursor}
use Rattle.hs_types.specs.declared.reply.Item.{Item}
use Rattle.hs_types.specs.declared.reply.Line.{Line}
use Rattle.hs_types.specs.declared.reply.Reply.{Reply}
use Rattle.hs_plain.specs.Pages.{is_behind, items_behind, page_of, lines_page, bytes_page}
use Rattle.hs_plain.specs.Joined.{AreFurtherPages, items_shown, list_cursor, lines_shown, report_cursor, bytes_shown, read_cursor}

-- each name is behind all before it
abbrev pub NamesRise : List Item → Type 0
NamesRise [] = ⊤
NamesRise (item ∷ items) = AllByRecursion (λ other. is_behind item.name other ≡ true) items × NamesRise items

-- a page of a list behind a name, of whatever size but 0
pub record IsPageOf (place : Place) (items : List Item) (after : Option (List ℕ)) (page : Reply) : Type 0 where
  pub size : ℕ
  pub above : 1 ≤ size
  pub is : page ≡ page_of place items after size

-- pages of a list whose names rise, each from the cursor before, join to what stands behind the first one's name
abbrev pub CutByName : Type 0
CutByName = (place : Place) (items : List Item) (after : Option (List ℕ)) (first : Reply) (more : List Reply) →
    NamesRise items → IsPageOf place items after first → AreFurtherPages (λ page cursor. IsPageOf place items cursor.after page) list_cursor first more →
    flat_map items_shown (first ∷ more) ≡ items_behind after items

-- a page of lines from a cursor's index on
pub record IsLinesPage (began : ℕ) (lines : List Line) (cursor : ReportCursor) (page : Reply) : Type 0 where
  pub size : ℕ
  pub is : page ≡ lines_page cursor began lines size

-- pages of lines, each from the cursor before, join to what stands from the first one's index on
abbrev pub CutByIndex : Type 0
CutByIndex = (began : ℕ) (lines : List Line) (cursor : ReportCursor) (first : Reply) (more : List Reply) →
    IsLinesPage began lines cursor first → AreFurtherPages (λ page cursor. IsLinesPage began lines cursor page) report_cursor first more →
    flat_map lines_shown (first ∷ more) ≡ drop cursor.index lines

-- a page of bytes from an offset on
pub record IsBytesPage (place : Place) (bytes : List ℕ) (offset : ℕ) (page : Reply) : Type 0 where
  pub len : ℕ
  pub is : page ≡ bytes_page place bytes offset len

-- pages of bytes, each from the cursor before, join to what stands from the first one's offset on
abbrev pub CutByOffset : Type 0
CutByOffset = (place : Place) (bytes : List ℕ) (offset : ℕ) (first : Reply) (more : List Reply) →
    IsBytesPage place bytes offset first → AreFurtherPages (λ page cursor. IsBytesPage place bytes cursor.offset page) read_cursor first more →
    flat_map bytes_shown (first ∷ more) ≡ drop offset bytes
