use Rattle.std.proofs.Common.{rules, ◌≡◌, ◌∙◌, ◌+◌, ◌<◌, ℕ, get_or, length, ap, sym, subst, arith}
use Rattle.std.specs.Prelude.{IsTrue}
use Rattle.arr_import.proofs.Reading.{children-count, kids-typed}
use Rattle.arr_import.specs.Cols.{window_of}
use Rattle.arr_import.specs.Window.{child_window, item_at}
use Rattle.data_types.proofs.Levels.{get_or-typed}
use Rattle.data_types.specs.promise.KindTrees.{KindTree}
use Rattle.data_types.specs.promise.TypedView.{typed_of}
use Rattle.data_types.specs.promise.Value.{Null, is_null}
use Rattle.data_types.specs.declared.typed.Typed.{out-Typed}
use Rattle.layout_rules.specs.promise.Layout.{first}
use Rattle.layout_rules.specs.promise.Values.{row_items, value_at}
use Rattle.layout_rules.specs.promise.Walk.{LayoutOk}
use Rattle.raw_array.specs.promise.Members.{ArrayTree, members_of}
use Rattle.tree_model.specs.promise.TreeParts.{IsLive, child_at}
use Rattle.tree_model.specs.promise.TreeData.{Released}
use Rattle.union_cols.proofs.NullColumns.{whole-rows}
use Rattle.union_cols.proofs.tag_ids.is_null_column.Goals as goal

pub has_no_values-requires : goal.has_no_values-requires
has_no_values-requires c =
    let t = c.args.typed.now in
    let array = c.args.array.now in
    let k = c.args.k in
    let kids = (out-Typed t).kids.items in
    let kid = c.index.result.now in
    let inside : k < length kids = omega (arith, c.requires.inside, children-count t c.kinds_of_typed.ensures) in
    let is : get_or kids k kid ≡ kid = search rules in
    let kinds : child_at (typed_of t) k ≡ typed_of kid =
    ap (λ ks. get_or ks k Released) (kids-typed t c.kinds_of_typed.ensures) ∙ get_or-typed kids k kid inside ∙ ap typed_of is in
    let live = subst IsLive (sym c.kinds_of_typed.ensures) tt in
    subst (λ (x : KindTree). LayoutOk x c.child.result.now) kinds
    (subst (λ (a : ArrayTree). LayoutOk (child_at (typed_of t) k) a) (sym c.child.ensures)
    ((c.lawful_trees.ensures.parts (typed_of t) array live c.requires.chunk.0).kids k c.requires.inside))

pub returns : goal.returns
returns c = λ (yes : IsTrue c.has_no_values.result) (i : ℕ).
    let t = c.args.typed.now in
    let array = c.args.array.now in
    let k = c.args.k in
    let kids = (out-Typed t).kids.items in
    let kid = c.index.result.now in
    let inside : k < length kids = omega (arith, c.requires.inside, children-count t c.kinds_of_typed.ensures) in
    let is : get_or kids k kid ≡ kid = search rules in
    let kinds : child_at (typed_of t) k ≡ typed_of kid =
    ap (λ ks. get_or ks k Released) (kids-typed t c.kinds_of_typed.ensures) ∙ get_or-typed kids k kid inside ∙ ap typed_of is in
    let place = first (members_of array) + 0 + i in
    let value : get_or (row_items (typed_of t) array i) k Null ≡ Null =
    ap (λ row. get_or row k Null) (sym (whole-rows (window_of c.of.result) (typed_of t) array c.of.ensures.window i))
    ∙ c.child-items.ensures.fields i
    ∙ ap (λ w. item_at w i) c.child-items.ensures.window
    ∙ ap (λ w. item_at (child_window w k) i) c.of.ensures.window
    ∙ (λ j. value_at (kinds j) (sym c.child.ensures j) place)
    ∙ c.has_no_values.ensures yes place in
    ap is_null value
