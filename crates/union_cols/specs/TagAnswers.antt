-- What the answers of `tag` say.
use Rattle.std.specs.Prelude.{Option, None, Some, Result, Ok, Err}
use Rattle.raw_array.specs.promise.Members.{ArrayTree}
use Rattle.raw_schema.specs.promise.Members.{SchemaTree}
use Rattle.union_cols.specs.declared.tag_fault.TagFault.{TagFault}
use Rattle.union_cols.specs.declared.tag_fault.TagFault.TheVariants.{Columns, TooLong, NoMemory}
use Rattle.union_cols.specs.promise.Unions.{UnionTree}
use Rattle.union_cols.specs.Unions.{UnionTypedOk}
use Rattle.union_cols.specs.UnionRules.{UnionOk}
use Rattle.union_cols.specs.promise.UnionSchemas.{UnionOf}

-- the fault that is no out-of-memory
abbrev pub named_tag : TagFault → Option TagFault
named_tag (Columns count) = Some (Columns count)
named_tag TooLong = Some TooLong
named_tag NoMemory = None

abbrev pub refused_tag : {X S A : Type 0} → Result X (S × A × TagFault) → Option TagFault
refused_tag (Ok x) = None
refused_tag (Err refused) = named_tag refused.2

-- The schema reads as a union of these kinds, and the array meets all its rules.
pub record ChecksAsUnion (u : UnionTree) (schema : SchemaTree) (array : ArrayTree) : Type 0 where
  pub reads : UnionOf schema u
  pub kinds : UnionTypedOk u
  pub rules : UnionOk u array
