use Rattle.std.proofs.Common.{◌≡◌, ◌∙◌, ℤ, ap, arith, of_z, subst, sym, to_z}
use Rattle.std.specs.Int.{w128}
use Rattle.std.specs.Option.{option_map}
use Rattle.std.proofs.lemmas.Int.{ints}
use Rattle.csv.proofs.ReadFacts.{on-ok}
use Rattle.col_build.specs.Holding.{Adds}
use Rattle.data_types.specs.promise.Value.{Whole}
use Rattle.csv_read.proofs.field_push.push_decimal.Goals as goal

pub add_whole-requires-clause-takes : goal.add_whole-requires-clause-takes
add_whole-requires-clause-takes c =
    let same : to_z w128 (of_z w128 c.in-Some.number) ≡ c.in-Some.number = omega (arith, ints) in
    rw same (c.requires.takes (Whole c.in-Some.number) (sym c.read_decimal.ensures ∙ ap (option_map Whole) c.in-Some.is))

pub returns-in-Some-clause-added : goal.returns-in-Some-clause-added
returns-in-Some-clause-added c found =
    let same : to_z w128 (of_z w128 c.in-Some.number) ≡ c.in-Some.number = omega (arith, ints) in (
      Whole c.in-Some.number,
      sym c.read_decimal.ensures ∙ ap (option_map Whole) c.in-Some.is,
      subst (λ (n : ℤ). Adds (Whole n) c.args.builder.now c.add_whole.new.self) same
          (on-ok c.add_whole.result (c.outcome.ensures.added found) c.add_whole.ensures.added),
    )
