use Rattle.std.proofs.Common.{◌<◌, ℕ, length, arith}
use Rattle.std.proofs.lemmas.List.{length-map}
use Rattle.tree_model.specs.promise.TreeParts.{children_of}
use Rattle.raw_array.specs.promise.Members.{ArrayTree}
use Rattle.data_types.specs.ColumnKinds.{type_of_column, types_of_columns}
use Rattle.stages.specs.Children.{ShowsChildren}
use Rattle.stages.proofs.StructChildren.{StructLaws, shown}
use Rattle.dict_stage.specs.Recoded.{HasPlace}
use Rattle.dict_stage.proofs.ReplacedChildren.{as-many, columns-replaced, few-rows, placed}
use Rattle.dict_stage.proofs.replaced.columns_can_be_replaced.Goals as goal

pub returns : goal.returns
returns c =
    let structs = c.lawful_structs_have_columns.ensures in
    let laws : StructLaws = record {
      live = structs.live;
      placed = structs.offset;
      sized = structs.length;
      count = structs.children;
      column = structs.column;
      column_live = structs.column_live;
      column_long = structs.column_long;
      fit = c.columns_can_be_taken.ensures.fit;
      types_live = c.column_types_follow_picks.ensures.live;
      window = c.windows_are_parts.ensures.lawful;
      struct = c.column_types_follow_picks.ensures.unpacked;
    } in
    let shows : (place : ℕ) (chunk : ArrayTree) → HasPlace place chunk → ShowsChildren chunk =
    λ place chunk has. shown laws (types_of_columns has.columns) chunk (laws.types_live has.columns) has.ok.0 in
    let within : (place : ℕ) (chunk : ArrayTree) → HasPlace place chunk → place < length (children_of chunk) =
    λ place chunk has.
    let e = structs.children (types_of_columns has.columns) chunk has.ok.0 in
    let f = length-map has.columns type_of_column in
    omega (arith, e, f, has.inside) in
    record {
      shown = shows;
      inside = within;
      columns = λ place chunk column has deep own.
          columns-replaced c.windows_are_parts.ensures.items chunk column place (shows place chunk has) deep (within place chunk has) own;
      as_many = λ place chunk column has. as-many chunk column place (within place chunk has);
      placed = λ place chunk column has. placed chunk column place (within place chunk has);
      few_rows = λ place chunk has.
          few-rows chunk (structs.length (types_of_columns has.columns) chunk has.ok.0) (structs.end (types_of_columns has.columns) chunk has.ok.0);
    }
