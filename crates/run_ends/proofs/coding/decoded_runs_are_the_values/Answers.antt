use Rattle.std.proofs.Common.{◌≡◌, ◌∙◌, ◌^◌, ◌<◌, List, None, length, ap}
use Rattle.arr_export.specs.promise.ArrayTrees.{column_tree}
use Rattle.arr_export.specs.ArrayTrees.{flat_type}
use Rattle.col_build.specs.Encoding.{Fits}
use Rattle.data_types.specs.promise.Value.{Value}
use Rattle.data_types.specs.declared.kind.DataType.{DataType}
use Rattle.layout_rules.specs.promise.Values.{values_of}
use Rattle.run_ends.specs.CodeFaults.{decode_fault}
use Rattle.run_ends.specs.RunCoding.{decoded_tree, runs_tree, runs_type}
use Rattle.run_ends.proofs.FlatKinds.{fits-free}
use Rattle.run_ends.proofs.coding.decoded_runs_are_the_values.Goals as goal

pub returns : goal.returns
returns c =
    let same = c.coded_values_are_the_values.ensures.values in
    let column : (kind : DataType) (values : List Value) → Fits kind values → length values < 2 ^ 31
    → decoded_tree (runs_type kind) (runs_tree kind values) ≡ column_tree kind values None =
    λ kind values fits few. ap (λ (vs : List Value). column_tree kind vs None) (same kind values fits few) in
    record {
      free = λ kind values fits few. ap (decode_fault (flat_type kind None)) (same kind values fits few) ∙ fits-free kind values fits;
      column = column;
      values = λ kind values fits few.
          ap (values_of (flat_type kind None)) (column kind values fits few) ∙ c.encoded_columns_are_lawful.ensures.values kind values fits;
    }
