use Rattle.std.proofs.Common.{◌∙◌, List, None, ap, sym, subst, arith}
use Rattle.data_types.specs.promise.Table.{Flat}
use Rattle.data_types.specs.promise.Value.{Value}
use Rattle.raw_array.specs.promise.Members.{Cost}
use Rattle.data_types.specs.promise.ColumnKinds.{type_of_kind}
use Rattle.data_types.specs.TypedView.{kind_of}
use Rattle.arr_export.specs.promise.ArrayTrees.{column_tree}
use Rattle.column_fill.proofs.ColumnCosts.{column-cost, few-blocks}
use Rattle.column_fill.specs.Gathered.{CanGatherRuns, values_of_runs}
use Rattle.list_cols.proofs.NestedKids.{runs-values}
use Rattle.list_cols.proofs.nest_alone.far_column.Goals as goal

pub gathered_runs-requires-clause-items : goal.gathered_runs-requires-clause-items
gathered_runs-requires-clause-items c =
    subst (CanGatherRuns (kind_of c.args.kid.now) c.args.items.now) (sym (c.deref.ensures.value ∙ c.in_ok-runs.ensures)) c.requires.items

pub built_column-requires-clause-holds : goal.built_column-requires-clause-holds
built_column-requires-clause-holds c =
    let kind = kind_of c.args.kid.now in
    (kind, values_of_runs (type_of_kind (Flat kind)) c.args.items.now c.deref.result.now, c.in_ok-builder.ensures, tt)

pub returns-in-Ok : goal.returns-in-Ok
returns-in-Ok c =
    let kind = kind_of c.args.kid.now in
    let typed = type_of_kind (Flat kind) in
    let values = values_of_runs typed c.args.items.now c.deref.result.now in
    let holds = c.in_ok-builder.ensures in
    let made = c.in-Ok.ensures.tree kind values holds in
    let units = c.in-Ok.ensures.units kind values holds in
    let cost = ap Cost made ∙ column-cost kind values None in
    let same = ap (values_of_runs typed c.args.items.now) (c.deref.ensures.value ∙ c.in_ok-runs.ensures)
    ∙ runs-values typed c.args.items.now c.args.start c.args.firsts.now in
    record {
      made = made ∙ ap (λ (vs : List Value). column_tree kind vs None) same;
      units = omega (arith, units, cost);
      left = omega (arith, units, few-blocks kind values);
      least = omega (arith, units);
      blocks = omega (arith, units, c.in-Ok.ensures.blocks kind values holds);
      nodes = c.in-Ok.ensures.nodes;
    }
