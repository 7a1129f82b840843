-- What contracts see of a column.
use Rattle.data_types.specs.promise.TypedView.{typed_of}
use Rattle.arr_import.specs.declared.col.Col.{Col}
use Rattle.arr_import.specs.Window.{Window}

abbrev pub window_of : Col → Window
window_of col = record { typed = typed_of col.typed.now; array = col.array.now; start = col.start; count = col.count }
