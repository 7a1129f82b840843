use Rattle.std.proofs.Common.{arith, ◌≡◌, ◌∙◌, ◌<◌, ◌++◌, ◌∷◌, [], ℕ, List, length, get_or, below_more, sym, ap, subst}
use Rattle.std.proofs.lemmas.List.{get_or_append_left}
use Rattle.std.proofs.Math.Seq.{get_or-append_seam}
use Rattle.raw_array.specs.promise.Members.{ArrayTree}
use Rattle.data_types.specs.promise.KindTrees.{KindTree}
use Rattle.data_types.specs.promise.TypedView.{typed_of}
use Rattle.layout_rules.specs.promise.Values.{rows_of, tree_items}
use Rattle.arr_import.specs.Cols.{window_of}
use Rattle.arr_import.specs.Window.{Window, child_window, whole}
use Rattle.column_fill.proofs.Counts.{count-is}
use Rattle.stage_model.specs.Stages.{numbers_at}
use Rattle.total_stage.specs.Sums.{rows_between}
use Rattle.total_stage.specs.Totals.{AreTotals}
use Rattle.total_stage.specs.declared.numbers.Totals.{Totals}
use Rattle.total_stage.proofs.Joining.{fields-of}
use Rattle.total_stage.proofs.Parts.{numbers-between, small-items}
use Rattle.total_stage.proofs.job.window_sums.Goals as goal

-- the window of a column is as long as the rows
counted : (typed : KindTree) (chunk : ArrayTree) (w own : Window) (k : ℕ) → own ≡ child_window w k → w ≡ whole typed chunk → own.count ≡ tree_items chunk
counted typed chunk w own k is all = ap (λ (v : Window). v.count) (is ∙ ap (λ (v : Window). child_window v k) all)

pub window_totals-requires-clause-inside : goal.window_totals-requires-clause-inside
window_totals-requires-clause-inside c =
    let typed = typed_of c.args.typed.now in
    let chunk = c.args.chunk.now in
    let count = counted typed chunk (window_of c.of-rows.result) (window_of c.child-column.result) (get_or c.args.picks.now c.loop-pick.pick-index 0)
    c.child-column.ensures.window c.of-rows.ensures.window in
    omega (arith, count, count-is typed chunk, c.requires.inside)

pub window_totals-requires-clause-few : goal.window_totals-requires-clause-few
window_totals-requires-clause-few c = omega (arith, c.requires.inside, c.requires.chunk.sum.few)

pub window_totals-requires-clause-small : goal.window_totals-requires-clause-small
window_totals-requires-clause-small c =
    let typed = typed_of c.args.typed.now in
    let picks = c.args.picks.now in
    let k = c.loop-pick.pick-index in
    small-items picks typed c.args.chunk.now (window_of c.child-column.result) k c.requires.chunk.sum c.loop-pick-test.true
    (counted typed c.args.chunk.now (window_of c.of-rows.result) (window_of c.child-column.result) (get_or picks k 0) c.child-column.ensures.window
    c.of-rows.ensures.window)
    (fields-of (window_of c.of-rows.result) typed c.args.chunk.now (window_of c.child-column.result) (get_or picks k 0) c.of-rows.ensures.window
    c.child-column.ensures.fields)

pub loop-pick-preserved : goal.loop-pick-preserved
loop-pick-preserved c =
    let typed = typed_of c.args.typed.now in
    let chunk = c.args.chunk.now in
    let picks = c.args.picks.now in
    let k = c.loop-pick.pick-index in
    let own = window_of c.child-column.result in
    let place = get_or picks k 0 in
    let rows = rows_between c.args.from c.args.to (rows_of typed chunk) in
    let before = c.loop-pick.sums.items in
    let made = c.window_totals.result in
    let is = numbers-between place typed chunk own c.args.from c.args.to c.requires.order c.requires.inside
    (fields-of (window_of c.of-rows.result) typed chunk own place c.of-rows.ensures.window c.child-column.ensures.fields) in
    let here : AreTotals made (numbers_at place rows) = subst (AreTotals made) is c.window_totals.ensures in
    let now : c.push_reserved.new.self.items ≡ before ++ made ∷ [] = c.push_reserved.ensures.items in
    record {
      count = omega (arith, c.push_reserved.ensures.len, c.loop-pick.invariant.count);
      each = below_more (λ (j : ℕ). (none : Totals) → AreTotals (get_or c.push_reserved.new.self.items j none) (numbers_at (get_or picks j 0) rows)) k
          (λ j small none.
          let inside : j < length before = omega (arith, small, c.loop-pick.invariant.count) in
          subst (λ (t : Totals). AreTotals t (numbers_at (get_or picks j 0) rows))
          (sym (ap (λ (ts : List Totals). get_or ts j none) now ∙ get_or_append_left before (made ∷ []) none j inside))
          (c.loop-pick.invariant.each j small none))
          (λ none.
          let last : k ≡ length before = omega (arith, c.loop-pick.invariant.count) in
          subst (λ (t : Totals). AreTotals t (numbers_at place rows))
          (sym (ap (λ (ts : List Totals). get_or ts k none) now
          ∙ ap (λ (n : ℕ). get_or (before ++ made ∷ []) n none) last ∙ get_or-append_seam before made [] none))
          here);
      room = omega (arith, c.push_reserved.ensures.capacity, c.loop-pick.invariant.room);
    }

pub returns : goal.returns
returns c =
    let all : c.loop-pick.pick-index ≡ length c.args.picks.now = omega (arith, c.loop-pick-test.false, c.loop-pick.auto.pick-index-end) in
    record {
      count = omega (arith, c.loop-pick.invariant.count, all);
      each = λ k none small. c.loop-pick.invariant.each k (omega (arith, small, all)) none;
    }
