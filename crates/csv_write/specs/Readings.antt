-- How the items of a column are read: what a reading shows are the column's items, and it is written in the column's form.
use Rattle.std.specs.Prelude.{◌≡◌, List}
use Rattle.std.specs.List.{AllZip}
use Rattle.data_types.specs.promise.FieldText.{Text}
use Rattle.arr_import.specs.Cols.{window_of}
use Rattle.arr_import.specs.Indexing.{shown_by}
use Rattle.arr_import.specs.Plain.{ShowsItems, storage_in}
use Rattle.arr_import.specs.Window.{Window, item_at}
use Rattle.arr_import.specs.declared.plain.Plain.{Plain}
use Rattle.field_codec.specs.FieldForms.{form_in}
use Rattle.field_codec.specs.declared.form.FieldForm.{FieldForm}
use Rattle.csv_write.specs.ChunkTexts.{AreChildren}
use Rattle.csv_write.specs.Ways.{form_by, storage_by}
use Rattle.csv_write.specs.declared.chunk_text.ChunkColumn.{ChunkColumn}
use Rattle.csv_write.specs.declared.reading.Reading.{Reading}
use Rattle.csv_write.specs.declared.reading.Reading.TheVariants as readings
use Rattle.csv_write.specs.declared.way.Way.{Way}

-- a plain column has the items of a column, each by its number, and a way is the column's form over how they are stored
pub record IsShown (way : Way) (plain : Plain) (column : ChunkColumn) : Type 0 where
  pub form_is : form_in column.form ≡ form_by way
  pub storage_is : storage_in plain ≡ storage_by way
  pub items : ShowsItems plain (window_of column.items).count (item_at (window_of column.items))

-- a reading is that of a column
abbrev pub Reads : Reading → ChunkColumn → Type 0
Reads (readings.Plain way plain) column = IsShown way plain column
Reads (readings.Entries indexed) column = (form_in column.form ≡ Text) × (shown_by indexed.now ≡ window_of column.items)
Reads (readings.Any read) column = read.now ≡ column

-- readings are those of the children of a struct's window, one after the other, each child with its form
abbrev pub ReadsChildren : List Reading → List FieldForm → Window → Type 0
ReadsChildren readings forms w = (columns : List ChunkColumn) × AreChildren columns forms w × AllZip Reads readings columns
