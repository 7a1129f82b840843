use Rattle.std.proofs.Common.{◌≡◌, ◌∙◌, ℤ, List, ◌<◌, ap, arith, pos, [], get_or, length, subst, sym, w64, to_z, of_z}
use Rattle.std.proofs.lemmas.Int.{ints}
use Rattle.std.proofs.lemmas.List.{length-map}
use Rattle.col_build.specs.Holding.{Holds, HoldsSome}
use Rattle.data_types.specs.promise.Table.{Column, Kind, Flat, Dict, Columns}
use Rattle.data_types.specs.promise.Value.{Value, Null}
use Rattle.data_types.specs.declared.kind.DataType.{DataType}
use Rattle.col_build.specs.declared.builder.Builder.{Builder}
use Rattle.data_types.specs.declared.kind.DataType.TheVariants as kinds
use Rattle.csv_read.specs.Body.{HoldsKind, column_values}
use Rattle.csv_read.proofs.chunk.count_rows.Goals as goal

kind-count : (builder : Builder) (kind : Kind) (values : List Value) (n : ℤ) → HoldsKind builder kind values
    → ((k : DataType) (vs : List Value) → Holds builder k vs → n ≡ pos (length vs)) → n ≡ pos (length values)
kind-count builder (Flat kind) values n holds count = count kind values holds
kind-count builder (Dict kind) values n holds count = absurd holds
kind-count builder (Columns _) values n holds count = absurd holds

pub len-requires : goal.len-requires
len-requires c =
    let (columns, rows, held, few) = c.requires.held in
    let all = c.batch_rows_fit.ensures.some c.args.builders.now columns rows held in
    let first : HoldsSome c.index-builders-0.result = subst HoldsSome (sym c.index-builders-0.is) (all 0 c.index-builders-0.result c.requires.some) in
    record { holds = first }

pub returns : goal.returns
returns c columns rows held =
    let b = c.index-builders-0.result in
    let some : 0 < length columns = omega (arith, held.held.count, c.requires.some) in
    let d : Column = record { name = []; kind = Flat kinds.Null } in
    let first = subst (λ x. HoldsKind x (get_or columns 0 d).kind (column_values 0 rows)) (sym c.index-builders-0.is) (held.held.each 0 b d some) in
    let count = kind-count b (get_or columns 0 d).kind (column_values 0 rows) c.len.result first c.len.ensures in
    let same : to_z w64 (of_z w64 c.len.result) ≡ c.len.result = omega (arith, ints) in
    same ∙ count ∙ ap pos (length-map rows (λ row. get_or row 0 Null))
