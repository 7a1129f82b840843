use Rattle.std.proofs.Common.{ap, arith}
use Rattle.tree_model.specs.promise.TreeData.{maybe_tree}
use Rattle.raw_array.specs.Members.{cost_of_maybe}
use Rattle.raw_array.proofs.Buffers.{holds_of-count}
use Rattle.raw_array.proofs.built.end_parts.Goals as goal

pub let_go_all-requires : goal.let_go_all-requires
let_go_all-requires c = omega (arith, c.requires, holds_of-count c.args.parts.buffers.items)

pub release_all-requires : goal.release_all-requires
release_all-requires c = omega (arith, c.requires, holds_of-count c.args.parts.buffers.items, c.let_go_all.ensures.units)

pub end-requires : goal.end-requires
end-requires c =
    omega (
      arith,
      c.requires,
      holds_of-count c.args.parts.buffers.items,
      c.let_go_all.ensures.units,
      c.release_all.ensures.units,
      ap (λ d. cost_of_maybe (maybe_tree d)) c.in-Some.is,
    )

pub returns-in-None-clause-units : goal.returns-in-None-clause-units
returns-in-None-clause-units c =
    omega (
      arith,
      holds_of-count c.args.parts.buffers.items,
      c.let_go_all.ensures.units,
      c.release_all.ensures.units,
      ap (λ d. cost_of_maybe (maybe_tree d)) c.in-None.is,
    )

pub returns-in-Some-clause-units : goal.returns-in-Some-clause-units
returns-in-Some-clause-units c =
    omega (
      arith,
      holds_of-count c.args.parts.buffers.items,
      c.let_go_all.ensures.units,
      c.release_all.ensures.units,
      c.end.ensures.units,
      ap (λ d. cost_of_maybe (maybe_tree d)) c.in-Some.is,
    )
