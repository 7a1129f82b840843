use Rattle.std.proofs.Common.{arith, ◌≡◌, ◌∙◌, ◌≤◌, ◌*◌, ◌++◌, ◌∷◌, List, length, ℕ, sym, subst}
use Rattle.std.proofs.Math.Nat.{mul-le-mul_right}
use Rattle.std.proofs.lemmas.List.{with_items_is}
use Rattle.data_types.specs.Parts.{joined_rows}
use Rattle.data_types.specs.promise.Table.{Row}
use Rattle.data_types.specs.promise.TypedView.{typed_of}
use Rattle.raw_array.specs.promise.Members.{Cost}
use Rattle.stages.specs.Steps.{TakesIn}
use Rattle.total_stage.specs.Froms.{CanGoOn, ahead_from}
use Rattle.total_stage.specs.Sums.{AreSums, CanAdd, HaveBegun}
use Rattle.total_stage.specs.declared.numbers.Totals.{Totals}
use Rattle.total_stage.proofs.Fitting.{can-total}
use Rattle.total_stage.proofs.Going.{ahead-on}
use Rattle.total_stage.proofs.Pulling.{gone-on, next-add}
use Rattle.total_stage.proofs.totals.TotalsStepChunkStep.push.Goals as goal

pub add_chunk-added-requires-clause-chunk : goal.add_chunk-added-requires-clause-chunk
add_chunk-added-requires-clause-chunk g c = λ _ _.
    let s = c.args.self.now in
    let next = c.requires.next in
    let typed = typed_of c.args.typed.now in
    subst (λ (picks : List ℕ). CanAdd picks typed c.args.chunk) (sym c.as_slice-picks.ensures.value)
    (next-add s.picks.items next.0 next.4.done next.1 next.2 typed c.args.chunk (can-total s.picks.items s.out next.0 next.3) next.4.lawful next.5).can

pub add_chunk-added-requires-clause-few : goal.add_chunk-added-requires-clause-few
add_chunk-added-requires-clause-few g c = λ _ _.
    let s = c.args.self.now in
    let next = c.requires.next in
    let typed = typed_of c.args.typed.now in
    let can = next.4 in
    let rows = joined_rows can.done in
    let picks = c.as_slice-picks.result.now in (
      rows,
      subst (λ (sums : List Totals). AreSums sums picks rows) (sym c.as_mut_slice-sums.ensures.value)
          (c.in_default.ensures rows (subst (λ (picks : List ℕ). HaveBegun s.sums.items picks rows) (sym c.as_slice-picks.ensures.value) can.begun)),
      (next-add s.picks.items next.0 can.done next.1 next.2 typed c.args.chunk (can-total s.picks.items s.out next.0 next.3) can.lawful next.5).few,
    )

pub add_chunk-added-requires-clause-units : goal.add_chunk-added-requires-clause-units
add_chunk-added-requires-clause-units g c = λ _ _.
    let s = c.args.self.now in
    let next = c.requires.next in
    let cost = Cost c.args.chunk in
    let all : s.workers.count * cost ≤ 64 * cost = mul-le-mul_right cost s.workers.few in
    omega (arith, all, next.5.is.small, c.requires.room)

pub returns-in-Ok-clause-pushed : goal.returns-in-Ok-clause-pushed
returns-in-Ok-clause-pushed g c = λ before rows more fits can next.
    let s = c.args.self.now in
    let picks = s.picks.items in
    let held = c.as_slice-picks.result.now in
    let typed = typed_of c.args.typed.now in
    let done = joined_rows can.done in
    let made = c.add_chunk-added.new.sums in
    let add = next-add picks before can.done rows more typed c.args.chunk (can-total picks s.out before fits) can.lawful next in
    let begun = c.in_default.ensures done (subst (λ (ps : List ℕ). HaveBegun s.sums.items ps done) (sym c.as_slice-picks.ensures.value) can.begun) in
    let lent = subst (λ (sums : List Totals). AreSums sums held done) (sym c.as_mut_slice-sums.ensures.value) begun in
    let after : AreSums made held (done ++ rows) =
    subst (λ (here : List Row). AreSums made held (done ++ here)) add.rows_are (c.in-Ok.ensures.sums done lent) in
    let sums = subst (λ (ps : List ℕ). AreSums made ps (done ++ rows)) c.as_slice-picks.ensures.value after in
    let long : length made ≡ c.begin.new.sums.len = omega (arith, c.add_chunk-added.auto.sums, c.as_mut_slice-sums.ensures.len) in
    subst
    (λ (now : List Totals). TakesIn (λ ending. ahead_from s.sums.items picks s.given ending (rows ∷ more)) (λ ending. ahead_from now picks s.given ending more)
    (CanGoOn now picks before more) c.args.pass.now c.end-2.new.pass)
    (sym (with_items_is c.begin.new.sums made long)) (record {
      ahead = λ ending. ahead-on s.sums.items made picks s.given done rows more ending can.begun sums;
      takes = gone-on s.sums.items made picks before rows more can sums;
      blocks = c.end-2.ensures.blocks ∙ c.add_chunk-added.ensures.blocks;
      nodes = c.end-2.ensures.nodes ∙ c.add_chunk-added.ensures.nodes;
    })
