-- What the schema of a root must meet whose type has no dictionary, besides its format ("The Arrow C Data Interface", "The
-- ArrowSchema structure"), and the kinds of its children.
use Rattle.std.specs.Prelude.{◌≡◌, ℕ, ◌<◌, List, length, take, get_or, None, IsSome, Result, Ok, Err}
use Rattle.std.specs.List.{AllZip}
use Rattle.tree_model.specs.promise.TreeData.{Released}
use Rattle.tree_model.specs.promise.TreeParts.{dictionary_of}
use Rattle.raw_schema.specs.promise.Members.{SchemaTree, members_of}
use Rattle.data_types.specs.promise.KindTrees.{KindTree}
use Rattle.schema_check.specs.promise.Schemas.{MetaFits, TypedOf, SchemaFaultIs}
use Rattle.schema_check.specs.promise.SchemaAnswers.{FirstFault, MetaRefused}
use Rattle.root_check.specs.declared.own_schema.OwnSchemaFault.{OwnSchemaFault}
use Rattle.root_check.specs.declared.own_schema.OwnSchemaFault.TheVariants.{Meta, Dictionary}

-- What a live schema is: in order, or one whose metadata is refused, or one with a dictionary.
abbrev pub OwnSchemaReads : SchemaTree → Result (Unit {0}) OwnSchemaFault → Type 0
OwnSchemaReads schema (Ok done) = MetaFits (members_of schema).metadata × (dictionary_of schema ≡ None)
OwnSchemaReads schema (Err (Meta fault)) = MetaRefused (members_of schema).metadata fault
OwnSchemaReads schema (Err Dictionary) = MetaFits (members_of schema).metadata × IsSome (dictionary_of schema)

-- a child's number, and its first fault: the way to the node begins at the child, which is on level 1
pub record KidFault : Type 0 where
  pub child : ℕ
  pub first : FirstFault

-- the first child at fault: those before it are in order
pub record IsKidFault (children : List SchemaTree) (fault : KidFault) : Type 0 where
  pub inside : fault.child < length children
  pub kids : List KindTree
  pub before : AllZip TypedOf (take fault.child children) kids
  pub fails : SchemaFaultIs (get_or children fault.child Released) fault.first.path fault.first.rule
