-- What the children of a lawful struct offer to those that take them.
use Rattle.std.proofs.Common.{arith, ◌≡◌, ◌≤◌, ◌<◌, ◌+◌, ◌≤ℤ◌, ℕ, zero, suc, pos, List, [], ◌∷◌, length, get_or}
use Rattle.data_types.specs.promise.Parts.{member_columns}
use Rattle.data_types.specs.Parts.{AreWithin}
use Rattle.data_types.specs.promise.Table.{Column, Columns as StructOf, Members}
use Rattle.tree_model.specs.promise.TreeParts.{IsLive, children_of, child_at}
use Rattle.tree_model.specs.promise.TreeData.{Released}
use Rattle.raw_array.specs.promise.Members.{ArrayTree, members_of}
use Rattle.raw_array.specs.Windows.{Window}
use Rattle.data_types.specs.promise.KindTrees.{KindTree}
use Rattle.layout_rules.specs.promise.Layout.{end}
use Rattle.layout_rules.specs.promise.Values.{tree_items}
use Rattle.layout_rules.specs.promise.Walk.{LayoutOk}
use Rattle.data_types.specs.promise.ColumnKinds.{type_of_kind}
use Rattle.data_types.specs.ColumnKinds.{table_type, types_of_columns}
use Rattle.arr_move.specs.TreeActs.{FitParentWindow}
use Rattle.array_laws.specs.Picking.{AreLive}
use Rattle.stages.specs.Children.{ShowsChildren}

-- what is known of lawful structs
pub record StructLaws : Type 0 where
  pub live : (types : List KindTree) (t : ArrayTree) → LayoutOk (table_type types) t → IsLive t
  pub placed : (types : List KindTree) (t : ArrayTree) → LayoutOk (table_type types) t → pos 0 ≤ℤ (members_of t).offset
  pub sized : (types : List KindTree) (t : ArrayTree) → LayoutOk (table_type types) t → pos 0 ≤ℤ (members_of t).length
  pub count : (types : List KindTree) (t : ArrayTree) → LayoutOk (table_type types) t → length (children_of t) ≡ length types
  pub column : (types : List KindTree) (t : ArrayTree) (p : ℕ) → p < length types → LayoutOk (table_type types) t
      → LayoutOk (get_or types p Released) (child_at t p)
  pub column_live : (types : List KindTree) (t : ArrayTree) (p : ℕ) → p < length types → IsLive (get_or types p Released)
      → LayoutOk (table_type types) t → IsLive (child_at t p)
  pub column_long : (types : List KindTree) (t : ArrayTree) (p : ℕ) → p < length types → IsLive (get_or types p Released)
      → LayoutOk (table_type types) t → end (members_of t) ≤ tree_items (child_at t p)
  pub fit : (types : List KindTree) (t : ArrayTree) (picks : List ℕ) → AreLive types → LayoutOk (table_type types) t → AreWithin (length types) picks
      → FitParentWindow t picks
  pub types_live : (columns : List Column) → AreLive (types_of_columns columns)
  pub window : (typed : KindTree) (t : ArrayTree) (off len : ℕ) → off + len ≤ tree_items t → LayoutOk typed t → LayoutOk typed (Window t (pos off) (pos len))
  pub struct : (fields : Members) → type_of_kind (StructOf fields) ≡ table_type (types_of_columns (member_columns fields))

one-within : (count k : ℕ) → k < count → AreWithin count (k ∷ [])
one-within count k small zero inside = small
one-within count k small (suc j) inside = absurd (omega (arith, inside))

module _ (laws : StructLaws) (types : List KindTree) (t : ArrayTree) (live : AreLive types) (ok : LayoutOk (table_type types) t) where
  pub shown : ShowsChildren t
  shown = record {
    live = laws.live types t ok;
    placed = laws.placed types t ok;
    sized = laws.sized types t ok;
    fit = λ k small.
        let e = laws.count types t ok in
        laws.fit types t (k ∷ []) live ok (one-within (length types) k (omega (arith, e, small))) 0 (omega arith);
  }
