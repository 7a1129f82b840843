-- What the walk over a checked array comes to below a node. Only private contracts cite this.
use Rattle.std.specs.Prelude.{ℕ, List, map, drop, Option}
use Rattle.std.specs.Global.{Box}
use Rattle.tree_model.specs.promise.TreeData.{trees, maybe_tree}
use Rattle.tree_model.specs.promise.TreeParts.{children_of, dictionary_of}
use Rattle.raw_array.specs.promise.Members.{ArrayTree}
use Rattle.data_types.specs.declared.typed.Typed.{Typed}
use Rattle.data_types.specs.promise.TypedView.{typed_of}
use Rattle.data_types.specs.TypedView.{dict_in}
use Rattle.data_types.specs.promise.Ways.{Steps}
use Rattle.layout_rules.specs.promise.Walk.{Visit, walks_of, walk_of, walk_children, walk_dictionary}

-- the visits of a node's children, from one of them on
abbrev pub children_visits : List Typed → ℕ → Steps → ArrayTree → List Visit
children_visits kids from path array = walk_children (drop from (walks_of (trees (map typed_of kids)))) from path (drop from (children_of array))

-- the visits of its dictionary
abbrev pub dictionary_visits : Option (Box Typed) → Steps → ArrayTree → List Visit
dictionary_visits dict path array = walk_dictionary (walk_of (maybe_tree (dict_in dict))) path (dictionary_of array)
