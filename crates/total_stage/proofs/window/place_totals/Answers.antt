use Rattle.std.proofs.Common.{arith, rules, to_z, of_z, ◌-◌, ◌+◌, ◌<◌, ◌++◌, ◌∷◌, [], ℤ, List, sym, subst, ◌≡◌, ◌≢◌, ◌∙◌}
use Rattle.std.specs.Int.{w128}
use Rattle.data_types.specs.promise.Value.{Value, Whole}
use Rattle.total_stage.specs.Totals.{AreTotals, IsSmall, IsSmallItem, numbers_in}
use Rattle.total_stage.proofs.Windows.{few-numbers, number-more, number-none}
use Rattle.total_stage.proofs.window.place_totals.Goals as goal
use Rattle.total_stage.proofs.window.place_totals.Goals.{in-Some, in_default}

pub number_in-requires-clause-there : goal.number_in-requires-clause-there
number_in-requires-clause-there c =
    let (w, shown) = c.requires.shown in
    shown.shows.there c.loop-i.i (omega (arith, shown.inside, c.loop-i-test.true))

pub add-requires-clause-small : goal.add-requires-clause-small
add-requires-clause-small c =
    let (w, shown) = c.requires.shown in
    let inside : c.loop-i.i < w.count = omega (arith, shown.inside, c.loop-i-test.true) in
    let told : to_z w128 (of_z w128 c.in-Some.number) ≡ c.in-Some.number = search rules in
    subst IsSmall (sym told) (subst IsSmallItem (shown.shows.items c.loop-i.i inside ∙ c.in-Some.ensures.some) (shown.small c.loop-i.i inside))

pub add-requires-clause-few : goal.add-requires-clause-few
add-requires-clause-few c =
    let (w, shown) = c.requires.shown in
    let few = few-numbers w c.args.from (c.loop-i.i - c.args.from) in
    (numbers_in w c.args.from (c.loop-i.i - c.args.from), c.loop-i.invariant w shown, omega (arith, few, c.requires.few, c.loop-i-test.true))

pub loop-i-preserved : goal.loop-i-preserved
loop-i-preserved c w shown =
    let from = c.args.from in
    let i = c.loop-i.i in
    let inside : i < w.count = omega (arith, shown.inside, c.loop-i-test.true) in
    let item = shown.shows.items i inside in
    let so_far = numbers_in w from (i - from) in
    elim c.match-number_in.branch [
      | in-Some it ↦ let told : to_z w128 (of_z w128 it.in-Some.number) ≡ it.in-Some.number = search rules in
          subst (λ t. AreTotals t (numbers_in w from (i + 1 - from))) (sym it.totals-is)
          (subst (AreTotals it.add.new.self) (sym (number-more w from i it.in-Some.number c.loop-i.auto.i (item ∙ it.in-Some.ensures.some)))
          (subst (λ (n : ℤ). AreTotals it.add.new.self (so_far ++ n ∷ [])) told (it.add.ensures so_far (c.loop-i.invariant w shown))))
      | in_default it ↦ subst (λ t. AreTotals t (numbers_in w from (i + 1 - from))) (sym it.totals-is)
          (subst (AreTotals c.loop-i.totals) (sym (number-none w from i c.loop-i.auto.i
          (subst (λ (v : Value). (number : ℤ) → v ≢ Whole number) (sym item) it.in_default.ensures.none))) (c.loop-i.invariant w shown))
    ]
