-- A stream for tests, which gives structures that it keeps, whatever they are, and then ends or refuses.
use Rattle.std.specs.Prelude.{◌+◌, ℕ, ℤ, Bool, true, false, List, [], Option, None, Some, is_some, codes}
use Rattle.data_types.specs.declared.row_fault.RowFault.{RowFault}
use Rattle.tree_model.specs.promise.TreeData.{trees}
use Rattle.raw_array.specs.promise.Members.{ArrayTree}
use Rattle.raw_array.specs.Members.{cost_of_all}
use Rattle.raw_schema.specs.promise.Members.{SchemaTree}
use Rattle.tree_model.specs.promise.TreeCost.{Nodes}
use Rattle.stream_face.specs.Streams.{Stream}
use Rattle.stream_face.specs.Texts.{Refusal}

-- structures, and the units of those that were given
pub record Holdings : Type 0 where
  pub schema : SchemaTree
  pub arrays : List ArrayTree
  pub units : ℕ

abbrev pub holding : Holdings → ℕ
holding h = h.units + (Nodes h.schema + cost_of_all (trees h.arrays))

abbrev pub held_in : Option Holdings → ℕ
held_in None = 0
held_in (Some h) = holding h

abbrev pub refusal_if : Bool → ℤ → Option Refusal
refusal_if false code = None
refusal_if true code = Some (record { code = code; text = codes "refused" })

abbrev pub row_if : Bool → Option RowFault → Option RowFault
row_if false row = None
row_if true row = row

-- it isn't lawful; with the code and the record at which it ends, whether it refused, whether its last get call did, and what it gave last
abbrev pub stranger : Option Holdings → ℤ → Option RowFault → Bool → Bool → ArrayTree → Stream
stranger holdings code row failed told gave = record {
  columns = [];
  ahead = [];
  ending = row;
  lawful = false;
  held = held_in holdings;
  joints = λ _. [];
  making = None;
  makings = λ _. None;
  due = record { blocks = 0; nodes = 0 };
  live = is_some holdings;
  schema = None;
  chunk = None;
  gave = Some gave;
  failure = refusal_if failed code;
  fault = row_if failed row;
  said = refusal_if told code;
}
