-- The texts of the items of a chunk's columns, under a mark for null.
use Rattle.std.specs.Prelude.{◌≡◌, ◌<◌, ◌+◌, ◌^◌, ℕ, List, map, length, get_or, IfSome}
use Rattle.data_types.specs.promise.FieldText.{Text}
use Rattle.data_types.specs.promise.Value.{Null}
use Rattle.layout_rules.specs.promise.Values.{each, row_items}
use Rattle.arr_import.specs.Cols.{window_of}
use Rattle.arr_import.specs.Indexing.{shown_by}
use Rattle.arr_import.specs.Window.{Window, item_at}
use Rattle.csv_model.specs.promise.Reading.{Record}
use Rattle.field_codec.specs.FieldForms.{IsProper, form_in, written_in}
use Rattle.csv_write.specs.declared.chunk_text.ChunkColumn.{ChunkColumn}
use Rattle.field_codec.specs.declared.form.FieldForm.{FieldForm}

abbrev pub text_in : List ℕ → ℕ → ChunkColumn → List ℕ
text_in mark i column = written_in mark (form_in column.form) (item_at (window_of column.items) i)

-- the texts of the items at a place
abbrev pub row_at : List ℕ → List ChunkColumn → ℕ → Record
row_at mark columns i = map (text_in mark i) columns

-- the first rows
abbrev pub rows_at : List ℕ → List ChunkColumn → ℕ → List Record
rows_at mark columns rows = each (row_at mark columns) 0 rows

-- a column has an item at a place, which can be written
pub record HasItem (column : ChunkColumn) (i : ℕ) : Type 0 where
  pub proper : IsProper column.form
  pub inside : i < (window_of column.items).count
  pub small : i < 2 ^ 63

abbrev pub HasRow : List ChunkColumn → ℕ → Type 0
HasRow columns i = (j : ℕ) (d : ChunkColumn) → j < length columns → HasItem (get_or columns j d) i

-- where a column has indices and entries that were found once, it is of texts, and they show its items
abbrev pub HasEntries : ChunkColumn → Type 0
HasEntries column = IfSome column.entries (λ indexed. (form_in column.form ≡ Text) × (shown_by indexed ≡ window_of column.items))

-- the column has the items of a struct's child, and is written in this form
pub record IsChild (column : ChunkColumn) (form : FieldForm) (w : Window) (j : ℕ) : Type 0 where
  pub form_is : column.form ≡ form
  pub count : (window_of column.items).count ≡ w.count
  pub items : (i : ℕ) → get_or (row_items w.typed w.array (w.start + i)) j Null ≡ item_at (window_of column.items) i

-- a column for each child of a struct's window, each with its form
pub record AreChildren (columns : List ChunkColumn) (forms : List FieldForm) (w : Window) : Type 0 where
  pub count : length columns ≡ length forms
  pub each_is : (j : ℕ) (d : ChunkColumn) (f : FieldForm) → j < length forms → IsChild (get_or columns j d) (get_or forms j f) w j
  pub wide : (i : ℕ) → length (row_items w.typed w.array (w.start + i)) ≡ length forms
