-- What a schema must meet at each node, the kinds of one that does, and the first fault of one that doesn't ("The Arrow C
-- Data Interface", "The ArrowSchema structure").
use Rattle.std.specs.Prelude.{◌≡◌, ◌⊎◌, ℕ, suc, ◌+◌, ◌≤◌, ◌<◌, List, [], ◌∷◌, Option, Some, None, codes}
use Rattle.data_types.specs.declared.kind.DataType.{DataType}
use Rattle.data_types.specs.declared.kind.DataType.TheVariants as kinds
use Rattle.fmt_string.specs.declared.fault.FormatFault.TheVariants as format
use Rattle.fmt_string.specs.promise.FormatString.{FormatIs, FormatFaultIs}
use Rattle.schema_meta.specs.declared.pair.Pair.{Pair}
use Rattle.schema_meta.specs.declared.fault.MetaFault.TheVariants as meta
use Rattle.schema_meta.specs.promise.Meta.{MetaIs, MetaFaultIs}
use Rattle.tree_model.specs.promise.TreeData.{Released, Live, Trees, no_trees, more_trees, MaybeTree, absent, present}
use Rattle.raw_schema.specs.promise.Members.{SchemaMembers, SchemaTree}
use Rattle.schema_check.specs.declared.rule.SchemaRule.{SchemaRule}
use Rattle.schema_check.specs.declared.rule.SchemaRule.TheVariants as rules
use Rattle.data_types.specs.promise.KindTrees.{KindTree, tree_count, most_levels}
use Rattle.data_types.specs.promise.Ways.{Steps, dictionary_step}

-- ---- the rules of one node, as what it meets

-- metadata is absent, or spells pairs
abbrev pub MetaFits : Option (List ℕ) → Type 0
MetaFits None = Unit {0}
MetaFits (Some bytes) = (pairs : List Pair) × MetaIs bytes pairs

-- a list or map has one child, a struct any number, any other type none
abbrev pub ChildrenFit : DataType → Trees SchemaMembers → Type 0
ChildrenFit (kinds.List wide) kids = tree_count kids ≡ 1
ChildrenFit (kinds.FixedList size) kids = tree_count kids ≡ 1
ChildrenFit kinds.Map kids = tree_count kids ≡ 1
ChildrenFit kinds.Struct kids = Unit {0}
ChildrenFit _ kids = tree_count kids ≡ 0

-- only whole numbers have a dictionary
abbrev pub IndexFits : DataType → MaybeTree SchemaMembers → Type 0
IndexFits kind absent = Unit {0}
IndexFits (kinds.Int bits signed) (present dict) = Unit {0}
IndexFits _ (present dict) = ⊥

-- a live struct of two
abbrev pub IsPairNode : SchemaTree → Type 0
IsPairNode Released = ⊥
IsPairNode (Live s kids dict) = (s.format ≡ codes "+s") × (tree_count kids ≡ 2)

-- the first child is one
abbrev pub IsPairSchema : Trees SchemaMembers → Type 0
IsPairSchema no_trees = ⊥
IsPairSchema (more_trees kid rest) = IsPairNode kid

-- a map's child is a struct of its keys and values
abbrev pub MapFits : DataType → Trees SchemaMembers → Type 0
MapFits kinds.Map kids = IsPairSchema kids
MapFits _ kids = Unit {0}

-- a live node on this level meets each rule, and has this kind
pub record NodeIs (level : ℕ) (s : SchemaMembers) (kids : Trees SchemaMembers) (dict : MaybeTree SchemaMembers) (kind : DataType) : Type 0 where
  pub on_level : level ≤ most_levels
  pub format : FormatIs s.format kind
  pub meta : MetaFits s.metadata
  pub children : ChildrenFit kind kids
  pub index : IndexFits kind dict
  pub map : MapFits kind kids

-- ---- the kinds of a schema that meets the rules at each node

abbrev mutual
  pub TypedFrom : ℕ → SchemaTree → KindTree → Type 0
  TypedFrom level Released typed = ⊥
  TypedFrom level (Live s kids dict) Released = ⊥
  TypedFrom level (Live s kids dict) (Live kind typed_kids typed_dict) =
      NodeIs level s kids dict kind × KidsTyped (level + 1) kids typed_kids × DictTyped (level + 1) dict typed_dict

  pub KidsTyped : ℕ → Trees SchemaMembers → Trees DataType → Type 0
  KidsTyped level no_trees no_trees = Unit {0}
  KidsTyped level no_trees (more_trees typed rest) = ⊥
  KidsTyped level (more_trees kid kids) no_trees = ⊥
  KidsTyped level (more_trees kid kids) (more_trees typed rest) = TypedFrom level kid typed × KidsTyped level kids rest

  pub DictTyped : ℕ → MaybeTree SchemaMembers → MaybeTree DataType → Type 0
  DictTyped level absent absent = Unit {0}
  DictTyped level absent (present typed) = ⊥
  DictTyped level (present dict) absent = ⊥
  DictTyped level (present dict) (present typed) = TypedFrom level dict typed

-- These are the kinds of the schema, and no rule fails.
abbrev pub TypedOf : SchemaTree → KindTree → Type 0
TypedOf schema typed = TypedFrom 1 schema typed

-- ---- the first fault

-- The first rule that fails at a node: those before it are met. A fault inside is never an out-of-memory.
abbrev pub FailsHere : ℕ → SchemaTree → SchemaRule → Type 0
FailsHere level tree rules.Deep = most_levels < level
FailsHere level Released rules.Released = level ≤ most_levels
FailsHere level Released _ = ⊥
FailsHere level (Live s kids dict) rules.Released = ⊥
FailsHere level (Live s kids dict) (rules.Format (format.At rule place)) = (level ≤ most_levels) × FormatFaultIs s.format rule place
FailsHere level (Live s kids dict) (rules.Format format.NoMemory) = ⊥
FailsHere level (Live s kids dict) (rules.Meta meta.NoMemory) = ⊥
FailsHere level (Live s kids dict) (rules.Meta fault) =
    (level ≤ most_levels) × (kind : DataType) × FormatIs s.format kind × (bytes : List ℕ) × (s.metadata ≡ Some bytes) × MetaFaultIs bytes fault
FailsHere level (Live s kids dict) rules.ChildCount =
    (level ≤ most_levels) × (kind : DataType) × FormatIs s.format kind × MetaFits s.metadata × (ChildrenFit kind kids → ⊥)
FailsHere level (Live s kids dict) rules.DictIndexType =
    (level ≤ most_levels) × (kind : DataType) × FormatIs s.format kind × MetaFits s.metadata × ChildrenFit kind kids × (IndexFits kind dict → ⊥)
FailsHere level (Live s kids dict) rules.MapShape =
    (level ≤ most_levels) × (kind : DataType) × FormatIs s.format kind × MetaFits s.metadata × ChildrenFit kind kids × IndexFits kind dict × (MapFits kind kids → ⊥)

-- The first node in preorder that fails is at this path below a node of this level.
abbrev mutual
  pub FaultFrom : ℕ → SchemaTree → Steps → SchemaRule → Type 0
  FaultFrom level tree [] rule = FailsHere level tree rule
  FaultFrom level Released (step ∷ path) rule = ⊥
  FaultFrom level (Live s kids dict) (step ∷ path) rule =
      ((kind : DataType) × NodeIs level s kids dict kind)
      × (KidFault (level + 1) kids 0 step path rule
      ⊎ ((step ≡ dictionary_step) × ((typed : Trees DataType) × KidsTyped (level + 1) kids typed) × DictFault (level + 1) dict path rule))

  pub KidFault : ℕ → Trees SchemaMembers → ℕ → ℕ → Steps → SchemaRule → Type 0
  KidFault level no_trees k step path rule = ⊥
  KidFault level (more_trees kid kids) k step path rule =
      ((step ≡ k) × FaultFrom level kid path rule)
      ⊎ (((typed : KindTree) × TypedFrom level kid typed) × KidFault level kids (suc k) step path rule)

  pub DictFault : ℕ → MaybeTree SchemaMembers → Steps → SchemaRule → Type 0
  DictFault level absent path rule = ⊥
  DictFault level (present dict) path rule = FaultFrom level dict path rule

-- The first fault of a schema: the node, by the way to it, and the rule.
abbrev pub SchemaFaultIs : SchemaTree → Steps → SchemaRule → Type 0
SchemaFaultIs schema path rule = FaultFrom 1 schema path rule
