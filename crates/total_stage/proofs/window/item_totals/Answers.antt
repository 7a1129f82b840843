use Rattle.std.proofs.Common.{arith, rules, to_z, of_z, ◌-◌, ◌+◌, ◌++◌, ◌∷◌, [], ℤ, List, sym, subst, ◌≡◌, ◌∙◌}
use Rattle.std.specs.Int.{w128}
use Rattle.arr_import.specs.Cols.{window_of}
use Rattle.total_stage.specs.Totals.{AreTotals, numbers_in}
use Rattle.total_stage.proofs.Windows.{few-numbers, number-more, number-none}
use Rattle.total_stage.proofs.window.item_totals.Goals as goal
use Rattle.total_stage.proofs.window.item_totals.Goals.{in-Some, in_default}

pub add-requires-clause-few : goal.add-requires-clause-few
add-requires-clause-few c =
    let w = window_of c.args.items.now in
    let few = few-numbers w c.args.from (c.loop-i.i - c.args.from) in
    (numbers_in w c.args.from (c.loop-i.i - c.args.from), c.loop-i.invariant, omega (arith, few, c.requires.few, c.loop-i-test.true))

pub loop-i-preserved : goal.loop-i-preserved
loop-i-preserved c =
    let w = window_of c.args.items.now in
    let from = c.args.from in
    let i = c.loop-i.i in
    let so_far = numbers_in w from (i - from) in
    elim c.match-number_at.branch [
      | in-Some it ↦ let told : to_z w128 (of_z w128 it.in-Some.number) ≡ it.in-Some.number = search rules in
          subst (λ t. AreTotals t (numbers_in w from (i + 1 - from))) (sym it.totals-is)
          (subst (AreTotals it.add.new.self) (sym (number-more w from i it.in-Some.number c.loop-i.auto.i it.in-Some.ensures.some))
          (subst (λ (n : ℤ). AreTotals it.add.new.self (so_far ++ n ∷ [])) told (it.add.ensures so_far c.loop-i.invariant)))
      | in_default it ↦ subst (λ t. AreTotals t (numbers_in w from (i + 1 - from))) (sym it.totals-is)
          (subst (AreTotals c.loop-i.totals) (sym (number-none w from i c.loop-i.auto.i it.in_default.ensures.none)) c.loop-i.invariant)
    ]
