use Rattle.std.proofs.Common.{arith}
use Rattle.data_types.specs.ColumnKinds.{types_of_columns}
use Rattle.stage_model.specs.promise.Typing.{no_column}
use Rattle.stages.proofs.StructChildren.{StructLaws}
use Rattle.stage_kernels.proofs.UnpackedChildren.{few-columns, few-rows, shown-inner, table-columns}
use Rattle.stage_kernels.proofs.unpacked.structs_can_be_unpacked.Goals as goal

pub returns : goal.returns
returns c =
    let structs = c.lawful_structs_have_columns.ensures in
    let laws : StructLaws = record {
      live = structs.live;
      placed = structs.offset;
      sized = structs.length;
      count = structs.children;
      column = structs.column;
      column_live = structs.column_live;
      column_long = structs.column_long;
      fit = c.columns_can_be_taken.ensures.fit;
      types_live = c.column_types_follow_picks.ensures.live;
      window = c.windows_are_parts.ensures.lawful;
      struct = c.column_types_follow_picks.ensures.unpacked;
    } in
    record {
      shown = shown-inner laws;
      columns = λ place chunk has deep.
          let less = c.taken_columns_are_no_deeper.ensures.unpacked chunk place (structs.live (types_of_columns has.columns) chunk has.ok.0) in
          table-columns laws place chunk has
          (c.columns_of_a_table.ensures.unpack has.columns no_column chunk place has.fields has.ok has.inside has.is_struct)
          (omega (arith, less, deep));
      few_columns = λ place chunk has deep.
          let less = c.taken_columns_are_no_deeper.ensures.unpacked chunk place (structs.live (types_of_columns has.columns) chunk has.ok.0) in
          let cost = c.taken_columns_cost_no_more.ensures.unpacked chunk place (structs.live (types_of_columns has.columns) chunk has.ok.0) in
          let few =
          few-columns laws place chunk has
          (c.columns_of_a_table.ensures.unpack has.columns no_column chunk place has.fields has.ok has.inside has.is_struct)
          (omega (arith, less, deep)) in
          omega (arith, cost, few);
      few_rows = λ place chunk has. few-rows laws place chunk has (structs.end (types_of_columns has.columns) chunk has.ok.0);
    }
