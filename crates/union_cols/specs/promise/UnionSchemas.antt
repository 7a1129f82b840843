-- The kinds of a union's schema, and the first fault of one that has none ("The Arrow C Data Interface", "The ArrowSchema structure").
use Rattle.std.specs.Prelude.{◌≡◌, ◌≢◌, ℕ, length, Result, Ok, Err}
use Rattle.std.specs.List.{AllZip}
use Rattle.tree_model.specs.promise.TreeData.{Released}
use Rattle.tree_model.specs.promise.TreeParts.{IsLive, children_of}
use Rattle.raw_schema.specs.promise.Members.{SchemaTree, members_of}
use Rattle.schema_check.specs.promise.Schemas.{TypedOf}
use Rattle.root_check.specs.declared.own_schema.OwnSchemaFault.{OwnSchemaFault}
use Rattle.root_check.specs.promise.Schemas.{OwnSchemaReads, KidFault, IsKidFault}
use Rattle.union_cols.specs.promise.UnionFormats.{UnionFormat, UnionFormatIs, UnionFormatFault}
use Rattle.union_cols.specs.promise.Unions.{UnionTree}

-- a live schema whose format is a union's
pub record IsUnion (schema : SchemaTree) (format : UnionFormat) : Type 0 where
  pub live : IsLive schema
  pub spelled : UnionFormatIs (members_of schema).format format

-- and which has neither refused metadata nor a dictionary
pub record IsPlainUnion (schema : SchemaTree) (format : UnionFormat) : Type 0 where
  pub union : IsUnion schema format
  pub plain : OwnSchemaReads schema (Ok tt)

-- The schema of a union of these kinds: as many children as ids, each in order.
pub record UnionOf (schema : SchemaTree) (u : UnionTree) : Type 0 where
  pub plain : IsPlainUnion schema (record { dense = u.dense; ids = u.ids })
  pub count : length (children_of schema) ≡ length u.ids
  pub kids : AllZip TypedOf (children_of schema) u.kids

-- ---- the first fault, in the order in which they are tried

pub data SchemaFound : Type 0 where
  IsReleased : SchemaFound
  Format : (place : ℕ) → SchemaFound
  -- refused metadata, or a dictionary
  OwnPart : OwnSchemaFault → SchemaFound
  ChildCount : (found needed : ℕ) → SchemaFound
  -- the first child at fault, and its first fault, whose way begins at the child
  Child : KidFault → SchemaFound

-- What a schema is: a union of these kinds, or one with this first fault.
abbrev pub UnionReads : SchemaTree → Result UnionTree SchemaFound → Type 0
UnionReads schema (Ok u) = UnionOf schema u
UnionReads schema (Err IsReleased) = schema ≡ Released
UnionReads schema (Err (Format place)) = IsLive schema × UnionFormatFault (members_of schema).format place
UnionReads schema (Err (OwnPart fault)) = (format : UnionFormat) × IsUnion schema format × OwnSchemaReads schema (Err fault)
UnionReads schema (Err (ChildCount found needed)) =
    (format : UnionFormat) × IsPlainUnion schema format × (found ≡ length (children_of schema)) × (needed ≡ length format.ids) × (found ≢ needed)
UnionReads schema (Err (Child fault)) =
    (format : UnionFormat) × IsPlainUnion schema format × (length (children_of schema) ≡ length format.ids) × IsKidFault (children_of schema) fault
