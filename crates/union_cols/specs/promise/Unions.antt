-- Unions ("Arrow Columnar Format", "Union Layout"): where an item is, and its value.
use Rattle.std.specs.Prelude.{ℕ, ◌+◌, ◌==◌, ℤ, pos, negsuc, Bool, true, false, if◌then◌else◌, List, get_or, position, Option, Some, None}
use Rattle.data_types.specs.promise.Value.{Value}
use Rattle.data_types.specs.promise.Packed.{meant, number_at}
use Rattle.tree_model.specs.promise.TreeData.{Released}
use Rattle.tree_model.specs.promise.TreeParts.{child_at}
use Rattle.raw_array.specs.promise.Members.{ArrayMembers, ArrayTree, members_of}
use Rattle.data_types.specs.promise.KindTrees.{KindTree}
use Rattle.layout_rules.specs.promise.Layout.{first, items, bytes, natural, offset}
use Rattle.layout_rules.specs.promise.Values.{each, value_at}

-- the kinds of a union: whether it is dense, and of each child its type id and its kinds
pub record UnionTree : Type 0 where
  pub dense : Bool
  pub ids : List ℕ
  pub kids : List KindTree

-- ---- the types buffer and the offsets buffer

-- the type id of an item of the window: a byte with a sign in buffer 0
abbrev pub id_at : ArrayMembers → ℕ → ℤ
id_at own i = meant 1 true (number_at (bytes own 0) (first own + i) 1)

-- where a dense union's item is in its child: four bytes with a sign in buffer 1
abbrev pub start_at : ArrayMembers → ℕ → ℤ
start_at own i = offset false own (first own + i)

-- the number of the child that has an id
abbrev pub child_of : List ℕ → ℤ → Option ℕ
child_of ids (pos id) = position (λ known. known == id) ids
child_of ids (negsuc n) = None

abbrev pub or_zero : Option ℕ → ℕ
or_zero (Some k) = k
or_zero None = 0

-- ---- the items

-- the number of the child that an item names
abbrev pub child_number : List ℕ → ArrayMembers → ℕ → ℕ
child_number ids own i = or_zero (child_of ids (id_at own i))

-- The value of item i: that of the item of its child, at the stored offset, or in a sparse union at the item's own place.
abbrev pub union_value : UnionTree → ArrayTree → ℕ → Value
union_value u array i =
    let own = members_of array in
    let k = child_number u.ids own i in
    value_at (get_or u.kids k Released) (child_at array k) (if u.dense then natural (start_at own i) else first own + i)

-- an item as it is shown: its type id, and its value
pub record UnionItem : Type 0 where
  pub id : ℤ
  pub value : Value

-- the items of the window, in order
abbrev pub union_items : UnionTree → ArrayTree → List UnionItem
union_items u array = each (λ i. record { id = id_at (members_of array) i; value = union_value u array i }) 0 (items (members_of array))
