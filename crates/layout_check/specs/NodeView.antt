-- What clauses read of a checked node.
use Rattle.std.specs.Prelude.{◌≡◌, length, None}
use Rattle.tree_model.specs.promise.TreeParts.{children_of, dictionary_of}
use Rattle.raw_array.specs.promise.Members.{ArrayMembers, ArrayTree, members_of}
use Rattle.layout_rules.specs.promise.Layout.{buffer_count}
use Rattle.layout_rules.specs.declared.layout.Layout.{Layout}
use Rattle.layout_rules.specs.promise.Rules.{Node, buffer_absent, first_below}
use Rattle.layout_rules.specs.Rules.{buffer_short}
use Rattle.layout_check.specs.declared.node.WellFormedNode.{WellFormedNode}
use Rattle.data_types.specs.declared.typed.Typed.{Typed, out-Typed}
use Rattle.data_types.specs.TypedView.{kind_of, kids_of, dict_in}

abbrev pub own_of : WellFormedNode → ArrayMembers
own_of node = members_of node.array.now

-- no buffer that is needed is absent, and none is shorter than its need
pub record AreReadable (layout : Layout) (own : ArrayMembers) : Type 0 where
  pub there : first_below (buffer_absent layout own) (buffer_count layout (length own.buffers)) ≡ None
  pub enough : first_below (buffer_short layout own) (buffer_count layout (length own.buffers)) ≡ None

-- a live array with the code's type
abbrev pub live_node : Typed → ArrayTree → Node
live_node t array =
    record {
      kind = kind_of t;
      kids = kids_of t;
      dict = dict_in (out-Typed t).dict;
      own = members_of array;
      children = children_of array;
      dictionary = dictionary_of array;
    }
