use Rattle.std.proofs.Common.{rules, arith, ◌≡◌, ◌∙◌, ap, subst, sym}
use Rattle.arr_move.specs.TreeActs.{Columns, Distinct}
use Rattle.stage_kernels.specs.Picks.{no_column}
use Rattle.stage_kernels.proofs.PickedChunks.{are-distinct, are-within, kept-picked, picked_of, select-gives}
use Rattle.stage_kernels.proofs.select.SelectStepChunkStep.push.Goals as goal

pub select-requires-clause-chunk : goal.select-requires-clause-chunk
select-requires-clause-chunk g c =
    let step = c.args.self.now in
    let next = c.requires.next in
    (next.0, next.5.is.ok, rw c.as_slice.ensures.value (are-within step.picks.items step.out next.0 next.3))

pub select-requires-clause-distinct : goal.select-requires-clause-distinct
select-requires-clause-distinct g c =
    let step = c.args.self.now in
    let next = c.requires.next in
    subst Distinct (sym c.as_slice.ensures.value) (are-distinct step.picks.items step.out next.0 next.3)

pub select-requires-clause-unit : goal.select-requires-clause-unit
select-requires-clause-unit g c = let next = c.requires.next in omega (arith, next.5.is.small, c.requires.room)

pub returns-in-Ok-clause-pushed : goal.returns-in-Ok-clause-pushed
returns-in-Ok-clause-pushed g c = λ before rows more fits _ next.
    let step = c.args.self.now in
    let picks = step.picks.items in
    let chunk = c.args.chunk in
    let within = are-within picks step.out before fits in
    let taken : c.in-Ok.taken ≡ Columns chunk picks = c.in-Ok.ensures.columns ∙ ap (Columns chunk) c.as_slice.ensures.value in
    let law = c.columns_of_a_table.ensures in
    let made =
    picked_of before picks chunk c.in-Ok.taken within (law.select before no_column chunk picks next.is.ok within)
    (law.select_rows before no_column chunk picks next.is.ok within) taken c.in-Ok.ensures.cost in
    select-gives before step.out picks chunk c.in-Ok.taken rows more _ c.args.pass.now c.select.new.pass (kept-picked picks step.out before fits) next made
    taken c.in-Ok.ensures.blocks c.in-Ok.ensures.nodes (search rules)
