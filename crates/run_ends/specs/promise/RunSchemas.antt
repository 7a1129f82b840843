-- The kinds of the schema of a run-end encoded array, and the first fault of one that has none ("The Arrow C Data Interface",
-- "Data type description -- format strings": `+r`).
use Rattle.std.specs.Prelude.{◌≡◌, ◌≢◌, ℕ, codes, [], ◌∷◌, length, Result, Ok, Err}
use Rattle.std.specs.List.{AllZip}
use Rattle.tree_model.specs.promise.TreeData.{Released}
use Rattle.tree_model.specs.promise.TreeParts.{IsLive, children_of}
use Rattle.raw_schema.specs.promise.Members.{SchemaTree, members_of}
use Rattle.schema_check.specs.promise.Schemas.{TypedOf}
use Rattle.root_check.specs.declared.own_schema.OwnSchemaFault.{OwnSchemaFault}
use Rattle.root_check.specs.promise.Schemas.{OwnSchemaReads, KidFault, IsKidFault}
use Rattle.run_ends.specs.promise.Runs.{RunTree, IsEnds}

-- a live schema of the format `+r`
pub record IsRuns (schema : SchemaTree) : Type 0 where
  pub live : IsLive schema
  pub spelled : (members_of schema).format ≡ codes "+r"

-- which has neither refused metadata nor a dictionary
pub record ArePlainRuns (schema : SchemaTree) : Type 0 where
  pub runs : IsRuns schema
  pub plain : OwnSchemaReads schema (Ok tt)

-- and which has two children of these kinds, each in order
pub record AreOver (schema : SchemaTree) (u : RunTree) : Type 0 where
  pub plain : ArePlainRuns schema
  pub count : length (children_of schema) ≡ 2
  pub kids : AllZip TypedOf (children_of schema) (u.ends ∷ u.values ∷ [])

-- The schema of a run-end encoded array of these kinds.
pub record RunsOf (schema : SchemaTree) (u : RunTree) : Type 0 where
  pub over : AreOver schema u
  pub ends : IsEnds u.ends

-- ---- the first fault, in the order in which they are tried

pub data SchemaFound : Type 0 where
  IsReleased : SchemaFound
  Format : SchemaFound
  -- refused metadata, or a dictionary
  OwnPart : OwnSchemaFault → SchemaFound
  ChildCount : (found : ℕ) → SchemaFound
  -- the first child at fault, and its first fault, whose way begins at the child
  Child : KidFault → SchemaFound
  -- the first child's kind is none of ends
  EndsType : SchemaFound

-- What a schema is: that of runs of these kinds, or one with this first fault.
abbrev pub RunsReads : SchemaTree → Result RunTree SchemaFound → Type 0
RunsReads schema (Ok u) = RunsOf schema u
RunsReads schema (Err IsReleased) = schema ≡ Released
RunsReads schema (Err Format) = IsLive schema × ((members_of schema).format ≢ codes "+r")
RunsReads schema (Err (OwnPart fault)) = IsRuns schema × OwnSchemaReads schema (Err fault)
RunsReads schema (Err (ChildCount found)) = ArePlainRuns schema × (found ≡ length (children_of schema)) × (found ≢ 2)
RunsReads schema (Err (Child fault)) = ArePlainRuns schema × (length (children_of schema) ≡ 2) × IsKidFault (children_of schema) fault
RunsReads schema (Err EndsType) = (u : RunTree) × AreOver schema u × (¬ IsEnds u.ends)
