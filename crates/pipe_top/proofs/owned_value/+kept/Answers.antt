use Rattle.std.proofs.Common.{rules, ◌∙◌, ◌+◌, ◌<◌, ◌++◌, [], ◌∷◌, length, map, ap, sym, arith}
use Rattle.std.proofs.lemmas.List.{map-append}
use Rattle.data_types.specs.promise.Value.{Null}
use Rattle.layout_rules.specs.promise.Values.{each, row_items, value_at}
use Rattle.arr_import.specs.Cols.{window_of}
use Rattle.arr_import.specs.Window.{Window}
use Rattle.pipe_top.specs.OwnedValues.{value_of}
use Rattle.pipe_top.proofs.Kept.{each-more, size-at, size-each, value_size}
use Rattle.pipe_top.proofs.owned_value.+kept.Goals as goal

pub kept_fields-kept_value-requires : goal.kept_fields-kept_value-requires
kept_fields-kept_value-requires t c =
    let w = window_of c.args.col.now in
    let row = row_items w.typed w.array (w.start + c.args.i) in
    let k = c.loop-k.k in
    let inside : k < length row = omega (arith, c.rows_are_whole.ensures c.args.i, c.n_children-k-end.ensures) in
    let size = size-at row k Null inside in
    let is = ap value_size (c.child.ensures.fields c.args.i) in
    let count = ap (λ (v : Window). v.count) c.child.ensures.window in
    search rules

pub kept_items-kept_value-requires : goal.kept_items-kept_value-requires
kept_items-kept_value-requires t c =
    let w = window_of c.args.col.now in
    let i = c.loop-i.i in
    let inside : i < w.count = omega (arith, c.count_items-i-end.ensures.count) in
    let size = size-each (value_at w.typed w.array) w.start w.count i inside in
    search rules

pub kept_items-loop-i-preserved : goal.kept_items-loop-i-preserved
kept_items-loop-i-preserved t c =
    let w = window_of c.args.col.now in
    let i = c.loop-i.i in
    let f = value_at w.typed w.array in
    let value = c.in_ok-kept_value.field-0 in
    ap (map value_of) c.in_ok-push.ensures.items
    ∙ map-append value_of c.loop-i.items.items (value ∷ [])
    ∙ ap (λ vs. vs ++ value_of value ∷ []) c.loop-i.invariant
    ∙ ap (λ v. each f w.start i ++ v ∷ []) c.in_ok-kept_value.ensures
    ∙ sym (each-more f w.start i)
