use Rattle.std.proofs.Common.{◌≡◌, ◌∙◌, List, arith, ap, map, subst, sym}
use Rattle.std.proofs.lemmas.Int.{ints}
use Rattle.std.proofs.lemmas.List.{length-map}
use Rattle.col_build.specs.declared.builder.Builder.{Builder}
use Rattle.data_types.specs.ColumnView.{column_of}
use Rattle.data_types.specs.promise.ColumnKinds.{type_of_columns}
use Rattle.layout_rules.specs.promise.Values.{rows_of}
use Rattle.layout_rules.specs.promise.Walk.{ChunkOk}
use Rattle.csv_read.specs.BatchesLeft.{columns_in, next_rows}
use Rattle.csv_read.specs.Body.{HoldRows}
use Rattle.csv_read.specs.Chunks.{chunk_of}
use Rattle.csv_read.specs.StoredRows.{HeldTable}
use Rattle.csv_read.proofs.held.BatchRows.export.Goals as goal

pub count_rows-rows-requires : goal.count_rows-rows-requires
count_rows-rows-requires g c =
    let inside = c.self.inside in
    let columns = columns_in inside.from.value in
    let rows = next_rows inside.batch inside.from.value in
    let held = subst (λ (bs : List Builder). HoldRows bs columns rows) (sym c.as_slice.ensures.value) c.self.invariant.0 in
    record {
      some = omega (arith, held.held.count, length-map inside.from.value.columns column_of, c.self.invariant.2);
      held = (columns, rows, held, c.self.invariant.1);
    }

pub export_rows-requires-clause-held : goal.export_rows-requires-clause-held
export_rows-requires-clause-held g c =
    let inside = c.self.inside in
    let columns = columns_in inside.from.value in
    let rows = next_rows inside.batch inside.from.value in
    let lent = subst (λ (bs : List Builder). HoldRows bs columns rows) (sym c.as_slice.ensures.value) c.self.invariant.0 in
    let count = c.count_rows-rows.ensures columns rows lent in
    let few = c.self.invariant.1 in (
      columns,
      rows,
      subst (λ (bs : List Builder). HoldRows bs columns rows) (sym c.as_mut_slice.ensures.value) c.self.invariant.0,
      omega (arith, ints, count, few),
      omega (arith, few),
    )

pub returns-in-Ok-clause-chunk : goal.returns-in-Ok-clause-chunk
returns-in-Ok-clause-chunk g c =
    let inside = c.self.inside in
    let columns = columns_in inside.from.value in
    let rows = next_rows inside.batch inside.from.value in
    let lent = subst (λ (bs : List Builder). HoldRows bs columns rows) (sym c.as_slice.ensures.value) c.self.invariant.0 in
    let held = subst (λ (bs : List Builder). HoldRows bs columns rows) (sym c.as_mut_slice.ensures.value) c.self.invariant.0 in
    let count = c.count_rows-rows.ensures columns rows lent in
    let few = c.self.invariant.1 in
    c.in-Ok.ensures.chunk columns rows held (omega (arith, ints, count, few)) ∙ ap (λ (t : HeldTable). chunk_of (map column_of t.columns) t.rows) c.self.view_is

pub returns-in-Ok-clause-ok : goal.returns-in-Ok-clause-ok
returns-in-Ok-clause-ok g c =
    let inside = c.self.inside in
    let columns = columns_in inside.from.value in
    let rows = next_rows inside.batch inside.from.value in
    let held = subst (λ (bs : List Builder). HoldRows bs columns rows) (sym c.as_mut_slice.ensures.value) c.self.invariant.0 in
    let lent = subst (λ (bs : List Builder). HoldRows bs columns rows) (sym c.as_slice.ensures.value) c.self.invariant.0 in
    let count = c.count_rows-rows.ensures columns rows lent in
    let few = c.self.invariant.1 in
    let fit = c.batch_rows_fit.ensures.fit inside.builders.items columns rows c.self.invariant.0 in
    let is = c.in-Ok.ensures.chunk columns rows held (omega (arith, ints, count, few)) in
    let ok : ChunkOk (type_of_columns columns) c.in-Ok.chunk =
    subst (ChunkOk (type_of_columns columns)) (sym is) (c.chunks_have_their_rows.ensures.chunk columns rows fit (omega (arith, few))) in
    subst (λ (t : HeldTable). ChunkOk (type_of_columns (map column_of t.columns)) c.in-Ok.chunk) c.self.view_is ok

pub returns-in-Ok-clause-rows : goal.returns-in-Ok-clause-rows
returns-in-Ok-clause-rows g c =
    let inside = c.self.inside in
    let columns = columns_in inside.from.value in
    let rows = next_rows inside.batch inside.from.value in
    let held = subst (λ (bs : List Builder). HoldRows bs columns rows) (sym c.as_mut_slice.ensures.value) c.self.invariant.0 in
    let lent = subst (λ (bs : List Builder). HoldRows bs columns rows) (sym c.as_slice.ensures.value) c.self.invariant.0 in
    let count = c.count_rows-rows.ensures columns rows lent in
    let few = c.self.invariant.1 in
    let fit = c.batch_rows_fit.ensures.fit inside.builders.items columns rows c.self.invariant.0 in
    let is = c.in-Ok.ensures.chunk columns rows held (omega (arith, ints, count, few)) in
    let back : rows_of (type_of_columns columns) c.in-Ok.chunk ≡ rows =
    ap (rows_of (type_of_columns columns)) is
    ∙ c.chunks_have_their_rows.ensures.rows columns rows fit c.self.invariant.0.widths in
    subst (λ (t : HeldTable). rows_of (type_of_columns (map column_of t.columns)) c.in-Ok.chunk ≡ t.rows) c.self.view_is back
