-- What holds of the kinds of a schema that is in order: their numbers, children, dictionaries and levels.
use Rattle.std.specs.Prelude.{◌≤◌}
use Rattle.data_types.specs.Kinds.{KindOk}
use Rattle.data_types.specs.declared.kind.DataType.{DataType}
use Rattle.data_types.specs.declared.kind.DataType.TheVariants as kinds
use Rattle.tree_model.specs.promise.TreeData.{Released, Live, Trees, no_trees, more_trees, MaybeTree, absent, present}
use Rattle.tree_model.specs.Tree.{Depth}
use Rattle.data_types.specs.promise.KindTrees.{KindTree, most_levels}

-- a struct with two fields
abbrev pub IsPairOfColumns : KindTree → Type 0
IsPairOfColumns (Live kinds.Struct (more_trees key (more_trees value no_trees)) dictionary) = Unit {0}
IsPairOfColumns _ = ⊥

abbrev pub IsOneChild : Trees DataType → (KindTree → Type 0) → Type 0
IsOneChild no_trees P = ⊥
IsOneChild (more_trees kid no_trees) P = P kid
IsOneChild (more_trees kid (more_trees other others)) P = ⊥

abbrev pub IsNoChild : Trees DataType → Type 0
IsNoChild no_trees = Unit {0}
IsNoChild (more_trees kid kids) = ⊥

-- a type has the children that it wants
abbrev pub KidsOk : DataType → Trees DataType → Type 0
KidsOk (kinds.List wide) kids = IsOneChild kids (λ kid. Unit {0})
KidsOk (kinds.FixedList size) kids = IsOneChild kids (λ kid. Unit {0})
KidsOk kinds.Map kids = IsOneChild kids IsPairOfColumns
KidsOk kinds.Struct kids = Unit {0}
KidsOk _ kids = IsNoChild kids

-- only whole numbers have a dictionary
abbrev pub DictOk : DataType → MaybeTree DataType → Type 0
DictOk kind absent = Unit {0}
DictOk (kinds.Int bits signed) (present dict) = Unit {0}
DictOk _ (present dict) = ⊥

abbrev mutual
  pub NodesOk : KindTree → Type 0
  NodesOk Released = ⊥
  NodesOk (Live kind kids dict) = KindOk kind × KidsOk kind kids × DictOk kind dict × AllNodesOk kids × DictNodesOk dict

  pub AllNodesOk : Trees DataType → Type 0
  AllNodesOk no_trees = Unit {0}
  AllNodesOk (more_trees kid kids) = NodesOk kid × AllNodesOk kids

  pub DictNodesOk : MaybeTree DataType → Type 0
  DictNodesOk absent = Unit {0}
  DictNodesOk (present dict) = NodesOk dict

abbrev pub TypedOk : KindTree → Type 0
TypedOk typed = (Depth typed ≤ most_levels) × NodesOk typed
