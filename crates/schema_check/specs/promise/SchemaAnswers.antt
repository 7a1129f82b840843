-- What the answers of the check of a schema say, at a node, at its children, and of the whole.
use Rattle.std.specs.Prelude.{ℕ, List, Option, None, Some, Result, Ok, Err}
use Rattle.schema_meta.specs.declared.fault.MetaFault.{MetaFault}
use Rattle.schema_meta.specs.promise.Meta.{MetaFaultIs}
use Rattle.raw_schema.specs.promise.Members.{SchemaTree}
use Rattle.schema_check.specs.declared.rule.SchemaRule.{SchemaRule}
use Rattle.data_types.specs.promise.KindTrees.{KindTree}
use Rattle.data_types.specs.promise.Ways.{Steps}
use Rattle.schema_check.specs.promise.Schemas.{TypedOf, SchemaFaultIs}

-- ---- the whole

-- the way to the first node that fails, and the first rule that fails there
pub record FirstFault : Type 0 where
  pub path : Steps
  pub rule : SchemaRule

-- What a schema is: one of these kinds, or one with this first fault.
abbrev pub SchemaReads : SchemaTree → Result KindTree FirstFault → Type 0
SchemaReads schema (Ok typed) = TypedOf schema typed
SchemaReads schema (Err first) = SchemaFaultIs schema first.path first.rule

-- ---- the parts of a walk, below a way

-- metadata that is there is refused so
abbrev pub MetaRefused : Option (List ℕ) → MetaFault → Type 0
MetaRefused None fault = ⊥
MetaRefused (Some bytes) fault = MetaFaultIs bytes fault
