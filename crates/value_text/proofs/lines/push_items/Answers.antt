use Rattle.std.proofs.Common.{◌≡◌, ◌∙◌, ℕ, map, ap}
use Rattle.arr_import.specs.declared.col.Col.{Col}
use Rattle.arr_import.specs.Cols.{window_of}
use Rattle.arr_import.specs.Window.{item_at}
use Rattle.value_text.specs.declared.table.Field.{Field}
use Rattle.value_text.proofs.FieldColumns.{all-mapped, mapped}
use Rattle.value_text.proofs.lines.push_items.Goals as goal

pub push_rows-requires-clause-rows : goal.push_rows-requires-clause-rows
push_rows-requires-clause-rows c = λ (j : ℕ).
    let fields = c.deref-then-n_children-count.result.now in
    let columns = c.in_ok-columns.columns.items in
    let is : map (λ (f : Field). f.items) fields ≡ columns =
    ap (map (λ (f : Field). f.items)) c.deref-then-n_children-count.ensures.value ∙ c.in_ok-fields.ensures.columns ∙ c.deref.ensures.value in
    mapped (λ (x : Col). item_at (window_of x) j) fields columns is ∙ c.in_ok-columns.ensures.rows j

pub push_rows-requires-clause-counts : goal.push_rows-requires-clause-counts
push_rows-requires-clause-counts c =
    let fields = c.deref-then-n_children-count.result.now in
    let columns = c.in_ok-columns.columns.items in
    let is : map (λ (f : Field). f.items) fields ≡ columns =
    ap (map (λ (f : Field). f.items)) c.deref-then-n_children-count.ensures.value ∙ c.in_ok-fields.ensures.columns ∙ c.deref.ensures.value in
    all-mapped (λ (x : Col). (window_of x).count ≡ (window_of c.args.col.now).count) fields columns is c.in_ok-columns.ensures.counts
