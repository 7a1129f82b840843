use Rattle.std.proofs.Common.{◌∙◌, ap, sym, subst}
use Rattle.data_types.specs.declared.kind.DataType.{DataType}
use Rattle.raw_array.specs.promise.Members.{ArrayTree}
use Rattle.run_ends.specs.RunCoding.{runs_type}
use Rattle.raw_schema.specs.promise.Members.{SchemaTree}
use Rattle.run_ends.specs.RunRules.{RunsOk}
use Rattle.run_ends.specs.promise.RunSchemas.{RunsOf}
use Rattle.run_ends.specs.promise.Runs.{run_values}
use Rattle.run_ends.proofs.encoder.encode.Goals as goal

pub returns-in-Ok-clause-reads : goal.returns-in-Ok-clause-reads
returns-in-Ok-clause-reads c =
    let kind = c.flat_kind-kind.result.now in
    subst (λ (k : DataType). RunsOf c.in-Ok.made.0 (runs_type k)) c.flat_kind-kind.ensures.is
    (subst (λ (s : SchemaTree). RunsOf s (runs_type kind)) (sym c.in-Ok.ensures.schema) c.runs_are_right.ensures.reads)

pub returns-in-Ok-clause-checks : goal.returns-in-Ok-clause-checks
returns-in-Ok-clause-checks c =
    let kind = c.flat_kind-kind.result.now in
    subst (λ (k : DataType). RunsOk (runs_type k) c.in-Ok.made.1) c.flat_kind-kind.ensures.is
    (subst (λ (a : ArrayTree). RunsOk (runs_type kind) a) (sym c.in-Ok.ensures.array) c.runs_are_right.ensures.checks)

pub returns-in-Ok-clause-items : goal.returns-in-Ok-clause-items
returns-in-Ok-clause-items c =
    let kind = c.flat_kind-kind.result.now in
    ap (λ (k : DataType). run_values (runs_type k) c.in-Ok.made.1) (sym c.flat_kind-kind.ensures.is)
    ∙ ap (run_values (runs_type kind)) c.in-Ok.ensures.array ∙ c.runs_are_right.ensures.items
