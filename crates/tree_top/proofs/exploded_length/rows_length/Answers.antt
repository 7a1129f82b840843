use Rattle.std.proofs.Common.{◌≡◌, ◌∙◌, ◌+◌, ◌<◌, ◌≤◌, ℕ, length, get_or, ap, arith, subst}
use Rattle.arr_import.specs.Cols.{window_of}
use Rattle.data_types.specs.promise.TypedView.{typed_of}
use Rattle.data_types.specs.promise.Value.{Null}
use Rattle.data_types.specs.promise.ValueTexts.{value_text}
use Rattle.layout_rules.specs.promise.Values.{each, row_items}
use Rattle.list_cols.specs.promise.Nested.{Explode, items_in}
use Rattle.value_text.specs.Lengths.{capped}
use Rattle.tree_top.specs.promise.ForeignAnswer.{row_value}
use Rattle.tree_top.specs.NewLengths.{most_lines}
use Rattle.tree_top.proofs.NewLines.{least-lines, more-rows, row_lines}
use Rattle.tree_top.proofs.exploded_length.rows_length.Goals as goal

pub loop-i-preserved : goal.loop-i-preserved
loop-i-preserved c =
    let f = row_items (typed_of c.args.typed.now) c.args.array.now in
    let k = c.args.column in
    let i = c.loop-i.i in
    let count = c.list_items.result in
    let told = c.lines_of.result in
    let many : count ≡ length (items_in (get_or (f i) k Null)) = c.list_items.ensures ∙ ap (λ item. length (items_in (item i))) c.requires.lists in
    let row = c.struct_length_at-row.ensures in
    let list = c.field_length_at-list.ensures.length in
    let most : told ≤ most_lines (capped (length (value_text (row_value (f i))))) (capped (length (value_text (get_or (f i) k Null)))) count =
    subst (λ (n : ℕ). told ≤ most_lines n (capped (length (value_text (get_or (f i) k Null)))) count) row
    (subst (λ (n : ℕ). told ≤ most_lines c.struct_length_at-row.result n count) list c.lines_of.ensures.most) in
    let less = least-lines k (f i) count told c.field_length_at-list.ensures.field many c.lines_of.ensures.none most in
    omega (arith, c.loop-i.invariant, less, more-rows k f i, c.saturating_add-sum.ensures)
