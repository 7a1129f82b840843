use Rattle.std.proofs.Common.{arith, ◌≡◌, ◌∙◌, ℕ, List, IfOk, length, sym, ap, subst}
use Rattle.data_types.specs.promise.TypedView.{typed_of}
use Rattle.layout_rules.specs.promise.Values.{rows_of, tree_items}
use Rattle.arr_import.specs.Window.{child_window, whole}
use Rattle.stage_filter.specs.Kept.{kept_numbers}
use Rattle.stage_filter.specs.Workers.{row_numbers}
use Rattle.stage_filter.proofs.Found.{all-found, column-of-whole, rows-are-items}
use Rattle.column_fill.proofs.Counts.{count-is}
use Rattle.stage_filter.proofs.workers.kept_by_workers.Goals as goal

pub returns-clause-numbers : goal.returns-clause-numbers
returns-clause-numbers g c =
    let asked = c.args.asked in
    let rows = rows_of (typed_of c.args.typed.now) c.args.chunk.now in
    let n = length rows in
    let workers = c.piece_count-pieces.result.count in
    let law = c.pieces_are_in_order.ensures in
    let some = c.piece_count-pieces.result.some in
    subst (λ (ks : List ℕ). IfOk c.joined.result (λ kept. kept.items ≡ ks))
    (all-found asked.column asked.test asked.constant.now rows workers c.in_ok-found.found.items (λ w. law.rising n workers w some) (law.first n workers some)
    (law.last n workers some) c.in_ok-found.ensures.answers) c.joined.ensures

pub returns-clause-kept : goal.returns-clause-kept
returns-clause-kept g c =
    let asked = c.args.asked in
    let t = c.args.typed.now in
    let typed = typed_of t in
    let chunk = c.fan_out.new.chunk in
    let rows = rows_of typed c.args.chunk.now in
    let n = length rows in
    let workers = c.piece_count-pieces.result.count in
    let law = c.pieces_are_in_order.ensures in
    let some = c.piece_count-pieces.result.some in
    let all = all-found asked.column asked.test asked.constant.now rows workers c.in_ok-found.found.items (λ w. law.rising n workers w some)
    (law.first n workers some) (law.last n workers some) c.in_ok-found.ensures.answers in
    let same = c.fan_out.ensures.rows in
    let own = child_window (whole typed chunk) asked.column in
    let long : length (rows_of typed chunk) ≡ tree_items chunk = count-is typed chunk in
    let is = rows-are-items asked.column asked.test asked.constant.now typed chunk own 0 (tree_items chunk) (omega (arith, long))
    (column-of-whole t c.kinds_of_typed.ensures chunk c.lawful_root.ensures.live c.lawful_root.ensures.children asked.column c.requires.column.within) in
    let there : row_numbers asked.column asked.test asked.constant.now rows 0 n ≡ kept_numbers asked.test asked.constant.now own 0 (tree_items chunk) =
    ap (λ rs. row_numbers asked.column asked.test asked.constant.now rs 0 (length rs)) (sym same)
    ∙ ap (row_numbers asked.column asked.test asked.constant.now (rows_of typed chunk) 0) long ∙ sym is in
    subst (λ (ks : List ℕ). IfOk c.joined.result (λ kept. kept.items ≡ ks)) (all ∙ there) c.joined.ensures
