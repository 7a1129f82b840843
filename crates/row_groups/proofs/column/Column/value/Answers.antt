use Rattle.std.proofs.Common.{◌≡◌, ◌∙◌, ◌+◌, pos, to_z, ap, subst, arith}
use Rattle.std.specs.Int.{w64}
use Rattle.std.proofs.lemmas.Int.{ints}
use Rattle.layout_rules.specs.promise.Layout.{natural}
use Rattle.layout_rules.specs.promise.Values.{value_at}
use Rattle.arr_import.specs.Cols.{window_of}
use Rattle.arr_import.specs.Shown.{Shows}
use Rattle.arr_import.specs.Window.{Window, item_at}
use Rattle.row_groups.specs.ItemKeys.{array_of, item_of, type_of}
use Rattle.row_groups.proofs.column.Column.value.Goals as goal

pub returns : goal.returns
returns c =
    let column = c.args.self.now in
    let i = c.args.i in
    let same : to_z w64 i ≡ pos i = omega (arith, ints, c.requires.near) in
    let start : 0 + i ≡ i = omega arith in
    let is : item_at (window_of column.items) (natural (to_z w64 i)) ≡ item_of column i =
    ap (λ z. item_at (window_of column.items) (natural z)) same ∙ ap (λ (w : Window). item_at w i) c.requires.column.window
    ∙ ap (value_at (type_of column) (array_of column)) start in
    subst (Shows c.value.result) is c.value.ensures
