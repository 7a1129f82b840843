use Rattle.std.proofs.Common.{◌≡◌, ◌++◌, ◌∷◌, [], rules, arith}
use Rattle.data_types.specs.Kinds.{KindOk}
use Rattle.csv_read.specs.ColumnForms.{IsBegun}
use Rattle.field_codec.specs.TextColumns.{IsAllowed}
use Rattle.csv_read.proofs.BodyRows.{column-kind, each-of-all, one-more}
use Rattle.csv_read.proofs.body_columns.builders_of.Goals as goal

pub flat_kind-kind-requires-clause-proper : goal.flat_kind-kind-requires-clause-proper
flat_kind-kind-requires-clause-proper c =
    column-kind KindOk c.args.columns.now c.loop-column.column-index c.column-item.result c.requires.proper c.loop-column-test.true c.column-item.is

pub flat_kind-kind-requires-clause-allowed : goal.flat_kind-kind-requires-clause-allowed
flat_kind-kind-requires-clause-allowed c =
    column-kind IsAllowed c.args.columns.now c.loop-column.column-index c.column-item.result c.requires.allowed c.loop-column-test.true c.column-item.is

pub loop-column-preserved : goal.loop-column-preserved
loop-column-preserved c =
    let builders : c.push.new.self.items ≡ c.loop-column.builders.items ++ c.in_ok-fresh.field-0 ∷ [] = search rules in
    rw builders
    (one-more IsBegun c.loop-column.builders.items c.args.columns.now c.loop-column.column-index c.in_ok-fresh.field-0 c.column-item.result
    c.loop-column.invariant c.loop-column-test.true c.column-item.is
    (record { kind = c.flat_kind-kind.result.now; flat = c.flat_kind-kind.ensures.is; holds = c.in_ok-fresh.ensures }))

pub returns : goal.returns
returns c = each-of-all IsBegun c.loop-column.builders.items c.args.columns.now c.loop-column.column-index c.loop-column.invariant (omega arith)
