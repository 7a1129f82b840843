-- The columns of a struct's fields, whose items are read by their places where they are stored so.
use Rattle.std.specs.Prelude.{Option, None, Some}
use Rattle.arr_import.specs.Cols.{window_of}
use Rattle.arr_import.specs.Plain.{IsPlainStorage, ShowsItems, storage_in}
use Rattle.arr_import.specs.Window.{Window, item_at}
use Rattle.arr_import.specs.declared.plain.Plain.{Plain}
use Rattle.value_text.specs.declared.table.Field.{Field}

-- they are the items of a window
abbrev pub ReadsAs : Option Plain → Window → Type 0
ReadsAs None w = Unit {0}
ReadsAs (Some plain) w = ShowsItems plain w.count (item_at w) × IsPlainStorage (storage_in plain)

abbrev pub IsRead : Field → Type 0
IsRead field = ReadsAs field.plain (window_of field.items)
