use Rattle.std.proofs.Common.{rules, ◌∙◌, ◌+◌, ◌<◌, ◌++◌, length, get_or, take, ap, sym, arith}
use Rattle.data_types.specs.promise.Value.{Null}
use Rattle.layout_rules.specs.promise.Values.{each, row_items, value_at}
use Rattle.arr_import.specs.Cols.{window_of}
use Rattle.arr_import.specs.Window.{Window}
use Rattle.value_text.specs.Behind.{item_text}
use Rattle.value_text.proofs.Parts.{appended, list-more, parts, row-more}
use Rattle.value_text.proofs.Sizes.{size-at, size-each, value_size}
use Rattle.value_text.proofs.value.+texts.Goals as goal

pub push_struct-push_part-requires : goal.push_struct-push_part-requires
push_struct-push_part-requires t c =
    let w = window_of c.args.col.now in
    let row = row_items w.typed w.array (w.start + c.args.i) in
    let k = c.loop-k.k in
    let inside : k < length row = omega (arith, c.rows_are_whole.ensures c.args.i, c.n_children-k-end.ensures) in
    let size = size-at row k Null inside in
    let is = ap value_size (c.child.ensures.fields c.args.i) in
    let count = ap (λ (v : Window). v.count) c.child.ensures.window in
    search rules

pub push_list-push_part-requires : goal.push_list-push_part-requires
push_list-push_part-requires t c =
    let w = window_of c.args.col.now in
    let i = c.loop-i.i in
    let inside : i < w.count = omega (arith, c.count_items-count.ensures.count) in
    let size = size-each (value_at w.typed w.array) w.start w.count i inside in
    search rules

pub push_list-loop-i-preserved : goal.push_list-loop-i-preserved
push_list-loop-i-preserved t c =
    let w = window_of c.args.col.now in
    let i = c.loop-i.i in
    let f = value_at w.typed w.array in
    appended c.push.new.self (parts (each f w.start i)) c.loop-i.text c.push_part.new.text (item_text i (f (w.start + i))) _
    c.in_ok-push_part.ensures c.loop-i.invariant (sym (list-more f w.start i))

pub push_struct-loop-k-preserved : goal.push_struct-loop-k-preserved
push_struct-loop-k-preserved t c =
    let w = window_of c.args.col.now in
    let k = c.loop-k.k in
    let row = row_items w.typed w.array (w.start + c.args.i) in
    let inside : k < length row = omega (arith, c.rows_are_whole.ensures c.args.i, c.n_children-k-end.ensures) in
    appended c.push.new.self (parts (take k row)) c.loop-k.text c.push_part.new.text (item_text k (get_or row k Null)) _
    (c.in_ok-push_part.ensures ∙ ap (λ v. c.loop-k.text ++ item_text k v) (sym (c.child.ensures.fields c.args.i)))
    c.loop-k.invariant (sym (row-more row k inside))
