use Rattle.std.proofs.Common.{◌∷◌, [], length, ap, arith, length-append}
use Rattle.data_types.specs.Kinds.{KindOk}
use Rattle.csv_read.specs.ColumnForms.{IsFormOf}
use Rattle.field_codec.specs.TextColumns.{IsAllowed}
use Rattle.csv_read.proofs.BodyRows.{column-kind, one-more}
use Rattle.csv_read.proofs.body_columns.BodyColumns.empty.Goals as goal

pub flat_kind-kind-requires-clause-proper : goal.flat_kind-kind-requires-clause-proper
flat_kind-kind-requires-clause-proper c =
    column-kind KindOk c.args.columns.now c.loop-column.column-index c.column-item.result c.requires.proper c.loop-column-test.true c.column-item.is

pub flat_kind-kind-requires-clause-allowed : goal.flat_kind-kind-requires-clause-allowed
flat_kind-kind-requires-clause-allowed c =
    column-kind IsAllowed c.args.columns.now c.loop-column.column-index c.column-item.result c.requires.allowed c.loop-column-test.true c.column-item.is

pub loop-column-preserved : goal.loop-column-preserved
loop-column-preserved c =
    let forms = c.in_ok-push.ensures.items in
    let used = c.in_ok-push-2.ensures.items in
    record {
      forms = rw forms
          (one-more IsFormOf c.loop-column.forms.items c.args.columns.now c.loop-column.column-index c.flat_form.result c.column-item.result
          c.loop-column.invariant.forms c.loop-column-test.true c.column-item.is
          (record {
            kind = c.flat_kind-kind.result.now;
            flat = c.flat_kind-kind.ensures.is;
            in_form = c.flat_form.ensures.is;
            proper = c.flat_form.ensures.proper;
          }));
      used = omega (arith, ap length used, length-append c.loop-column.used.items ((11, 64) ∷ []), c.loop-column.invariant.used);
    }
