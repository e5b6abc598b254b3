-- Pages: lists cut by name, lines cut by index, bytes cut by offset.
use Rattle.std.specs.Prelude.{ℕ, ◌+◌, ◌-◌, slice_get, nat_le, if◌then◌else◌, Bool, List, length, take, drop, Option, Some, None}
use Rattle.std.specs.List.{filter}
use Rattle.std.specs.Ordering.{nat_cmp, is_lt}
use Rattle.std.specs.Cmp.Lexicographic.{slice_cmp}
use Rattle.hs_types.specs.declared.reply.Reply.{Reply}
use Rattle.hs_types.specs.declared.reply.Reply.TheVariants as replies
use Rattle.hs_types.specs.declared.reply.Item.{Item}
use Rattle.hs_types.specs.declared.reply.Line.{Line}
use Rattle.hs_types.specs.declared.call.ListCursor.{ListCursor}
use Rattle.hs_types.specs.declared.call.ReadCursor.{ReadCursor}
use Rattle.hs_types.specs.declared.call.ReportCursor.{ReportCursor}
use Rattle.hs_types.specs.declared.call.Place.{Place}

-- ---- items, cut by name

abbrev pub is_behind : List ℕ → Item → Bool
is_behind name item = is_lt (slice_cmp nat_cmp name item.name)

-- the items with a greater name than the cursor's, or all
abbrev pub items_behind : Option (List ℕ) → List Item → List Item
items_behind None items = items
items_behind (Some name) items = filter (is_behind name) items

abbrev pub name_of : Option Item → Option (List ℕ)
name_of None = None
name_of (Some item) = Some item.name

-- the name of the last item
abbrev pub last_name : List Item → Option (List ℕ)
last_name items = name_of (slice_get items (length items - 1))

-- where the next page begins, if an item is left
abbrev pub next_cursor : Place → List Item → ℕ → Option ListCursor
next_cursor place items size = if nat_le (length items) size then None else Some (record { place = place; after = last_name (take size items) })

-- the first items of what is left
abbrev pub first_page : Place → List Item → ℕ → Reply
first_page place items size = replies.Page (take size items) (next_cursor place items size)

-- the items with a greater name, as many as the page holds
abbrev pub page_of : Place → List Item → Option (List ℕ) → ℕ → Reply
page_of place items after size = first_page place (items_behind after items) size

-- ---- bytes, cut by offset

-- where the next page of a read begins, unless the end is reached
abbrev pub next_read : Place → ℕ → ℕ → Option ReadCursor
next_read place size end = if nat_le size end then None else Some (record { place = place; offset = end })

-- the bytes from a place on, at most so many
abbrev pub bytes_page : Place → List ℕ → ℕ → ℕ → Reply
bytes_page place bytes offset len = replies.Bytes (take len (drop offset bytes)) (next_read place (length bytes) (offset + len))

-- ---- lines, cut by index

-- where the next page of a report begins, if a line is left; the tick at which the report began goes with it
abbrev pub next_lines : ReportCursor → ℕ → ℕ → ℕ → Option ReportCursor
next_lines cursor began count end = if nat_le count end then None else Some (record cursor { tick = Some began; index = end })

-- the lines from the cursor's index on, as many as the page holds
abbrev pub lines_page : ReportCursor → ℕ → List Line → ℕ → Reply
lines_page cursor began lines size = replies.Report (take size (drop cursor.index lines)) (next_lines cursor began (length lines) (cursor.index + size))
