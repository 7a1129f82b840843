-- The arrays of some items are live, long enough and not too deep: a table may have them as columns.
use Rattle.std.proofs.Common.{◌≡◌, ◌≤◌, ◌<◌, ◌+◌, ℕ, zero, suc, List, [], ◌∷◌, length, drop, get_or, All, None, refl, sym, ap, subst, arith}
use Rattle.std.proofs.lemmas.List.{length-map}
use Rattle.data_types.specs.promise.Parts.{member_columns}
use Rattle.data_types.specs.promise.Table.{Column, Kind, Flat, Dict, Columns, Members, no_members, more_members}
use Rattle.tree_model.specs.promise.TreeParts.{IsLive, children_of}
use Rattle.tree_model.specs.promise.TreeData.{Released, trees}
use Rattle.tree_model.specs.Tree.{Depth, depth_of_all}
use Rattle.raw_array.specs.promise.Members.{ArrayTree, members_of}
use Rattle.data_types.specs.promise.ColumnKinds.{type_of_kind, types_of_members}
use Rattle.data_types.specs.ColumnKinds.{types_of_columns}
use Rattle.layout_rules.specs.promise.Layout.{first}
use Rattle.layout_rules.specs.promise.Values.{tree_items, value_at}
use Rattle.arr_export.specs.ArrayTrees.{IsColumn, flat_type}
use Rattle.stage_filter.specs.KeptTrees.{index_type, kept_columns, kept_members, kept_tree}
use Rattle.stage_filter.specs.Moving.{CanMove, CanMoveRows}
use Rattle.stage_filter.proofs.IndexedItems.{has-dictionary}
use Rattle.stage_filter.proofs.LawTypes.{ItemsLaw, PartsLaw, RootLaw}
use Rattle.stage_filter.proofs.Steps.{later-child, of-members, step}

pub live-kept : (kind : Kind) (array : ArrayTree) (start : ℕ) (kept : List ℕ) → IsLive (kept_tree kind array start kept)
live-kept (Flat kind) array start kept = tt
live-kept (Dict kind) array start kept = tt
live-kept (Columns _) array start kept = tt

pub long-kept : (kind : Kind) (array : ArrayTree) (start : ℕ) (kept : List ℕ) → tree_items (kept_tree kind array start kept) ≡ length kept
long-kept (Flat kind) array start kept = length-map kept (λ i. value_at (type_of_kind (Flat kind)) array (start + i))
long-kept (Dict kind) array start kept = length-map kept (λ i. value_at (flat_type index_type None) array (start + i))
long-kept (Columns _) array start kept = refl

-- items can be moved of each of some children
abbrev pub ChildrenCan : List Column → List ArrayTree → ℕ → List ℕ → Type 0
ChildrenCan columns children start kept =
    (k : ℕ) (none : Column) → k < length columns → CanMove (get_or columns k none).kind (get_or children k Released) start kept

pub children-rest : (c : Column) (cs : List Column) (children : List ArrayTree) (start : ℕ) (kept : List ℕ) → ChildrenCan (c ∷ cs) children start kept
    → ChildrenCan cs (drop 1 children) start kept
children-rest c cs children start kept can k none small =
    subst (λ (t : ArrayTree). CanMove (get_or cs k none).kind t start kept) (sym (later-child children k)) (can (suc k) none (omega (arith, small)))

pub same-at : (columns : List Column) (k : ℕ) (a b : Column) → k < length columns → get_or columns k a ≡ get_or columns k b
same-at [] k a b small = absurd (omega (arith, small))
same-at (c ∷ cs) zero a b small = refl
same-at (c ∷ cs) (suc k) a b small = same-at cs k a b (omega (arith, small))

module _ (root : RootLaw) (parts : PartsLaw) (items : ItemsLaw) where
  pub children-can : (columns : List Column) (array : ArrayTree) (start : ℕ) (kept : List ℕ) → CanMoveRows columns array start kept
      → ChildrenCan columns (children_of array) (first (members_of array) + start) kept
  children-can columns array start kept can k none small =
      let c = get_or columns k none in
      (step root parts items columns k c array start kept can small (same-at columns k c none small)).can

  mutual
    depth-kept : (kind : Kind) (array : ArrayTree) (start : ℕ) (kept : List ℕ) → CanMove kind array start kept
        → Depth (kept_tree kind array start kept) ≤ Depth (type_of_kind kind)
    depth-kept (Flat kind) array start kept can = omega arith
    depth-kept (Dict kind) array start kept can = omega (arith, (has-dictionary root parts items kind array can.ok).not_deep)
    depth-kept (Columns ms) array start kept can =
        let inner = first (members_of array) + start in
        omega (
          arith,
          depth-members ms (children_of array) inner kept
              (children-can (member_columns ms) array start kept (of-members ms array start kept can).can),
        )

    depth-members : (ms : Members) (children : List ArrayTree) (start : ℕ) (kept : List ℕ) → ChildrenCan (member_columns ms) children start kept
        → depth_of_all (trees (kept_members ms children start kept)) ≤ depth_of_all (types_of_members ms)
    depth-members no_members children start kept can = omega arith
    depth-members (more_members name kind rest) children start kept can =
        let c : Column = record { name = name; kind = kind } in
        omega (
          arith,
          depth-kept kind (get_or children 0 Released) start kept (can 0 c (omega arith)),
          depth-members rest (drop 1 children) start kept (children-rest c (member_columns rest) children start kept can),
        )

  columns-from : (columns : List Column) (children : List ArrayTree) (start : ℕ) (kept : List ℕ) → ChildrenCan columns children start kept
      → depth_of_all (trees (types_of_columns columns)) ≤ 127 → All (IsColumn (length kept)) (kept_columns columns children start kept)
  columns-from [] children start kept can shallow k d small = absurd (omega (arith, small))
  columns-from (c ∷ cs) children start kept can shallow zero d small =
      let child = get_or children 0 Released in
      record {
        live = live-kept c.kind child start kept;
        not_deep = omega (arith, depth-kept c.kind child start kept (can 0 c (omega arith)), shallow);
        long = omega (arith, long-kept c.kind child start kept);
      }
  columns-from (c ∷ cs) children start kept can shallow (suc k) d small =
      columns-from cs (drop 1 children) start kept (children-rest c cs children start kept can) (omega (arith, shallow)) k d (omega (arith, small))

  pub are-columns : (columns : List Column) (array : ArrayTree) (start : ℕ) (kept : List ℕ) → CanMoveRows columns array start kept
      → All (IsColumn (length kept)) (kept_columns columns (children_of array) (first (members_of array) + start) kept)
  are-columns columns array start kept can =
      columns-from columns (children_of array) (first (members_of array) + start) kept (children-can columns array start kept can)
      (omega (arith, can.not_deep))

pub long-columns : (columns : List Column) (children : List ArrayTree) (start : ℕ) (kept : List ℕ)
    → length (kept_columns columns children start kept) ≡ length columns
long-columns [] children start kept = refl
long-columns (c ∷ cs) children start kept = ap suc (long-columns cs (drop 1 children) start kept)
