use Rattle.std.proofs.Common.{◌≡◌, ◌<◌, ◌^◌, ◌∙◌, ap, arith, pos, sym, to_z, w64}
use Rattle.std.proofs.lemmas.Int.{to_z_pos}
use Rattle.layout_rules.specs.promise.Layout.{natural}
use Rattle.run_ends.specs.RunCols.{array_in, kinds_in}
use Rattle.run_ends.specs.promise.Runs.{run_of}
use Rattle.tree_top.proofs.flat.known_run.Goals as goal

pub overflow_cast-run : goal.overflow_cast-run
overflow_cast-run c = omega (arith, c.requires.at, c.count_values.ensures.stored c.args.i c.requires.inside, c.count_values.ensures.small)

pub next_run_start-requires-clause-at : goal.next_run_start-requires-clause-at
next_run_start-requires-clause-at c =
    let small : c.args.run < 2 ^ 63 =
    omega (arith, c.requires.at, c.count_values.ensures.stored c.args.i c.requires.inside, c.count_values.ensures.small) in
    let item : c.args.i < 2 ^ 63 = omega (arith, c.requires.inside, c.count_items.ensures) in
    let place : to_z w64 c.args.i ≡ pos c.args.i = to_z_pos w64 c.args.i item in
    to_z_pos w64 c.args.run small
    ∙ ap pos c.requires.at
    ∙ ap (λ i. pos (run_of (kinds_in c.args.col.now) (array_in c.args.col.now) (natural i))) (sym place)
