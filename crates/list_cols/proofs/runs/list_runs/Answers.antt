use Rattle.std.proofs.Common.{◌≡◌, ◌∙◌, ◌+◌, ◌++◌, ◌∷◌, [], ℕ, ap, sym, arith}
use Rattle.arr_import.specs.Cols.{window_of}
use Rattle.arr_import.specs.Window.{item_at}
use Rattle.column_fill.specs.declared.runs.Run.{Run}
use Rattle.list_cols.specs.Listed.{list_runs, run_of}
use Rattle.list_cols.proofs.ListItems.{each-next}
use Rattle.list_cols.proofs.runs.list_runs.Goals as goal

pub loop-i-preserved : goal.loop-i-preserved
loop-i-preserved c =
    let first = c.args.first in
    let lists = item_at (window_of c.args.lists.now) in
    let i = c.loop-i.i in
    let run : ℕ → Run = λ j. run_of (first + j) (lists j) in
    let start : i ≡ 0 + i = omega arith in
    let before = list_runs first lists i in
    record {
      runs = c.push_reserved.ensures.items
          ∙ (λ t. c.loop-i.invariant.runs t ++ record { item = first + i; times = c.list_length.ensures.length t } ∷ [])
          ∙ ap (λ n. before ++ run n ∷ []) start ∙ sym (each-next run 0 i);
      count = omega (arith, c.push_reserved.ensures.len, c.loop-i.invariant.count);
      room = omega (arith, c.push_reserved.ensures.capacity, c.loop-i.invariant.room);
    }
