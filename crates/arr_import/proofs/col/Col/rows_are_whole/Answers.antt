use Rattle.std.proofs.Common.{◌≡◌, ◌∙◌, ◌+◌, length, ap, arith}
use Rattle.data_types.specs.promise.TypedView.{typed_of}
use Rattle.data_types.specs.TypedView.{kind_of, kids_of, dict_in}
use Rattle.layout_rules.specs.promise.Values.{row_items}
use Rattle.data_types.specs.declared.typed.Typed.{out-Typed}
use Rattle.arr_import.proofs.Reading.{kids-typed}
use Rattle.arr_import.proofs.WholeRows.{row-long}
use Rattle.arr_import.proofs.col.Col.rows_are_whole.Goals as goal

pub returns : goal.returns
returns c i =
    let col = c.args.self.now in
    let t = col.typed.now in
    let long : length (row_items (typed_of t) col.array.now (col.start + i)) ≡ length (kids_of t) =
    ap (λ k. length (row_items k col.array.now (col.start + i))) c.kinds_of_typed.ensures
    ∙ row-long (kind_of t) (kids_of t) (dict_in (out-Typed t).dict) col.array.now (col.start + i) c.lawful_root.ensures.live c.lawful_root.ensures.children in
    omega (arith, long, ap length (kids-typed t c.kinds_of_typed.ensures))
