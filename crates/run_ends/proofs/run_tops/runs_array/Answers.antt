use Rattle.std.proofs.Common.{◌≡◌, ◌+◌, ◌≤◌, ℕ, List, MatchResult, map, subst, arith}
use Rattle.raw_array.specs.promise.Members.{Cost}
use Rattle.run_ends.specs.RunCoding.{end_kind, end_of, value_of}
use Rattle.run_ends.proofs.Units.{cost-few, depth-few, top-blocks, top-tree, units-of}
use Rattle.run_ends.proofs.run_tops.runs_array.Goals as goal

pub built_column-requires-2-clause-units : goal.built_column-requires-2-clause-units
built_column-requires-2-clause-units c =
    let held = c.requires.holds in
    let first = c.in_ok-ends.ensures in
    let vs = map end_of held.1 in
    omega (
      arith,
      c.requires.units,
      units-of c.args.making.ends end_kind vs c.in_ok-ends.ends c.built_column.new.pass.units c.args.pass.now.units held.2.ends first.tree first.units,
      cost-few c.args.making.ends end_kind vs c.in_ok-ends.ends held.2.ends first.tree,
    )

pub over_runs-requires-clause-unit : goal.over_runs-requires-clause-unit
over_runs-requires-clause-unit c =
    let held = c.requires.holds in
    let first = c.in_ok-ends.ensures in
    let next = c.in-Ok.ensures in
    let vs = map end_of held.1 in
    let ws = map value_of held.1 in
    omega (
      arith,
      c.requires.units,
      units-of c.args.making.ends end_kind vs c.in_ok-ends.ends c.built_column.new.pass.units c.args.pass.now.units held.2.ends first.tree first.units,
      cost-few c.args.making.ends end_kind vs c.in_ok-ends.ends held.2.ends first.tree,
      units-of c.args.making.values held.0 ws c.in-Ok.values c.built_column-2.new.pass.units c.built_column.new.pass.units held.2.values next.tree next.units,
      cost-few c.args.making.values held.0 ws c.in-Ok.values held.2.values next.tree,
    )

pub over_runs-requires-clause-room : goal.over_runs-requires-clause-room
over_runs-requires-clause-room c =
    let held = c.requires.holds in
    let first = c.in_ok-ends.ensures in
    let next = c.in-Ok.ensures in
    omega (
      arith,
      c.args.pass.now.supply,
      units-of c.args.making.ends end_kind (map end_of held.1) c.in_ok-ends.ends c.built_column.new.pass.units c.args.pass.now.units held.2.ends first.tree
          first.units,
      units-of c.args.making.values held.0 (map value_of held.1) c.in-Ok.values c.built_column-2.new.pass.units c.built_column.new.pass.units held.2.values
          next.tree next.units,
    )

pub over_runs-requires-clause-ends_not_deep : goal.over_runs-requires-clause-ends_not_deep
over_runs-requires-clause-ends_not_deep c =
    let held = c.requires.holds in
    depth-few c.args.making.ends end_kind (map end_of held.1) c.in_ok-ends.ends held.2.ends c.in_ok-ends.ensures.tree

pub end-requires : goal.end-requires
end-requires c =
    let held = c.requires.holds in
    let first = c.in_ok-ends.ensures in
    omega (
      arith,
      c.args.pass.now.supply,
      c.in-Err.ensures.units_back,
      units-of c.args.making.ends end_kind (map end_of held.1) c.in_ok-ends.ends c.built_column.new.pass.units c.args.pass.now.units held.2.ends first.tree
          first.units,
    )

pub returns-in-Ok-clause-tree : goal.returns-in-Ok-clause-tree
returns-in-Ok-clause-tree c =
    top-tree c.over_runs.result c.args.making c.in_ok-ends.ends c.in-Ok.values c.args.count c.in_ok-ends.ensures.tree c.in-Ok.ensures.tree c.over_runs.ensures.tree

pub returns-in-Ok-clause-units : goal.returns-in-Ok-clause-units
returns-in-Ok-clause-units c =
    let held = c.requires.holds in
    let first = c.in_ok-ends.ensures in
    let next = c.in-Ok.ensures in
    let sum : c.built_column-2.new.pass.units + (Cost c.in_ok-ends.ends + Cost c.in-Ok.values) ≡ c.args.pass.now.units =
    omega (
      arith,
      units-of c.args.making.ends end_kind (map end_of held.1) c.in_ok-ends.ends c.built_column.new.pass.units c.args.pass.now.units held.2.ends first.tree
          first.units,
      units-of c.args.making.values held.0 (map value_of held.1) c.in-Ok.values c.built_column-2.new.pass.units c.built_column.new.pass.units held.2.values
          next.tree next.units,
    ) in
    subst (λ (n : ℕ). MatchResult c.over_runs.result (λ tree. c.over_runs.new.pass.units + Cost tree ≡ n) (λ _. c.over_runs.new.pass.units ≡ n)) sum
    c.over_runs.ensures.units

pub returns-in-Ok-clause-blocks : goal.returns-in-Ok-clause-blocks
returns-in-Ok-clause-blocks c =
    top-blocks c.over_runs.result c.args.making c.args.pass.now.blocks c.built_column.new.pass.blocks c.built_column-2.new.pass.blocks
    c.over_runs.new.pass.blocks c.in_ok-ends.ensures.blocks c.in-Ok.ensures.blocks c.over_runs.ensures.blocks

pub returns-in-Err-clause-units : goal.returns-in-Err-clause-units
returns-in-Err-clause-units c =
    let held = c.requires.holds in
    let first = c.in_ok-ends.ensures in
    omega (
      arith,
      c.end.ensures.units,
      c.in-Err.ensures.units_back,
      units-of c.args.making.ends end_kind (map end_of held.1) c.in_ok-ends.ends c.built_column.new.pass.units c.args.pass.now.units held.2.ends first.tree
          first.units,
    )
