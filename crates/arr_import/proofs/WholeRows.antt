-- A row of a struct has an item of each child.
use Rattle.std.proofs.Common.{◌≡◌, ◌+◌, ℕ, List, [], ◌∷◌, Option, length, refl, arith}
use Rattle.data_types.specs.declared.kind.DataType.{DataType}
use Rattle.tree_model.specs.promise.TreeData.{Released, Live, trees, maybe_tree}
use Rattle.tree_model.specs.promise.TreeParts.{IsLive, children_of}
use Rattle.raw_array.specs.promise.Members.{ArrayTree}
use Rattle.data_types.specs.promise.KindTrees.{KindTree}
use Rattle.layout_rules.specs.promise.Layout.{first}
use Rattle.layout_rules.specs.promise.Values.{field_items, readers, row_items}

-- as many items as there are kids, where each has a child
items-long : (kids : List KindTree) (children : List ArrayTree) (n : ℕ) → length children ≡ length kids
    → length (field_items (readers (trees kids)) children n) ≡ length kids
items-long [] children n e = refl
items-long (kid ∷ kids) [] n e = absurd (omega (arith, e))
items-long (kid ∷ kids) (child ∷ rest) n e =
    let fewer : length rest ≡ length kids = omega (arith, e) in
    let more : length (field_items (readers (trees kids)) rest n) ≡ length kids = items-long kids rest n fewer in
    omega (arith, more)

pub row-long : (kind : DataType) (kids : List KindTree) (dict : Option KindTree) (array : ArrayTree) (j : ℕ) → IsLive array
    → length (children_of array) ≡ length kids
    → length (row_items (Live kind (trees kids) (maybe_tree dict)) array j) ≡ length kids
row-long kind kids dict Released j live e = absurd live
row-long kind kids dict (Live own children dictionary) j live e = items-long kids (children_of (Live own children dictionary)) (first own + j) e
