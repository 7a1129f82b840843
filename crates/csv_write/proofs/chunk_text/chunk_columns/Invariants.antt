use Rattle.std.proofs.Common.{◌≡◌, ◌<◌, ℕ, length, get_or}
use Rattle.std.specs.Prelude.{All}
use Rattle.arr_import.specs.Cols.{window_of}
use Rattle.csv_write.specs.ChunkTexts.{HasEntries, IsChild}
use Rattle.csv_write.specs.declared.chunk_text.ChunkColumn.{ChunkColumn}
use Rattle.field_codec.specs.declared.form.FieldForm.{FieldForm}
use Rattle.csv_write.proofs.chunk_text.chunk_columns.Given as goal

-- the columns so far are the children, each with its entries
abbrev pub invariant-loop-k : goal.invariant-loop-k
invariant-loop-k l = record {
  count : length l.columns.items ≡ l.k;
  each_is : (j : ℕ) (d : ChunkColumn) (f : FieldForm) → j < l.k → IsChild (get_or l.columns.items j d) (get_or l.forms j f) (window_of l.chunk) j;
  entries : All HasEntries l.columns.items;
}
