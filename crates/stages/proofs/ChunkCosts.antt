-- What a chunk of columns costs at most, by the number of buffers that the layout of each node has.
use Rattle.std.proofs.Common.{arith, ◌≡◌, ◌≤◌, ◌<◌, ◌+◌, ◌*◌, ℕ, zero, suc, true, false, List, [], ◌∷◌, Option, None, Some, length, get_or, All, refl, subst}
use Rattle.data_types.specs.ColumnForms.{AreColumnKinds, HasForm, MembersAreColumns}
use Rattle.data_types.specs.promise.FieldText.{form_of}
use Rattle.data_types.specs.promise.Table.{Column, Kind, Flat, Dict, Columns as StructOf, Members, no_members, more_members}
use Rattle.data_types.specs.declared.kind.DataType.{DataType}
use Rattle.data_types.specs.declared.kind.DataType.TheVariants as kinds
use Rattle.tree_model.specs.promise.TreeParts.{IsLive}
use Rattle.tree_model.specs.promise.TreeData.{Released, Live, Trees, no_trees, more_trees, MaybeTree, absent, present, tree_list, option_tree}
use Rattle.tree_model.proofs.Lists.{tree_list-trees}
use Rattle.raw_array.specs.promise.Members.{ArrayMembers, ArrayTree, Buffer, Cost, holds_of}
use Rattle.raw_array.specs.Members.{cost_of_all, cost_of_maybe}
use Rattle.data_types.specs.promise.ColumnKinds.{type_of_columns, type_of_kind, types_of_members}
use Rattle.data_types.specs.ColumnKinds.{type_of_column, types_of_columns}
use Rattle.data_types.specs.promise.KindTrees.{KindTree}
use Rattle.layout_rules.specs.Lawful.{PartsHold, RootHolds}
use Rattle.layout_rules.specs.promise.Layout.{buffer_count, layout_of}
use Rattle.layout_rules.specs.promise.Rules.{one_if}
use Rattle.layout_rules.specs.promise.Walk.{LayoutOk}
use Rattle.stream_face.specs.Lawful.{column_leaves, leaves, member_leaves}
use Rattle.stages.specs.Structs.{column_structs, member_structs, structs}

-- what the laws say of all trees
abbrev Roots : Type 0
Roots = (typed : KindTree) (array : ArrayTree) → IsLive typed → LayoutOk typed array → RootHolds typed array

abbrev Parts : Type 0
Parts = (typed : KindTree) (array : ArrayTree) → IsLive typed → LayoutOk typed array → PartsHold typed array

-- ---- a node's own

holds-few : (buffers : List (Option Buffer)) → holds_of buffers ≤ length buffers
holds-few [] = omega arith
holds-few (None ∷ buffers) = let e = holds-few buffers in omega (arith, e)
holds-few (Some b ∷ buffers) = let e = holds-few buffers in omega (arith, e)

-- a flat column kind has at most three buffers
few : (kind : DataType) (found : ℕ) → HasForm (form_of kind) → found ≡ buffer_count (layout_of kind) found → found ≤ 3
few kinds.Null found form e = absurd form
few (kinds.Decimal precision scale false) found form e = omega (arith, e)
few (kinds.Decimal precision scale true) found form e = absurd form
few kinds.BinaryView found form e = absurd form
few kinds.Utf8View found form e = absurd form
few _ found form e = omega (arith, e)

none-below : (ts : Trees ArrayMembers) → length (tree_list ts) ≡ 0 → cost_of_all ts ≡ 0
none-below no_trees e = refl
none-below (more_trees t ts) e = absurd (omega (arith, e))

no-dictionary : (d : MaybeTree ArrayMembers) → one_if (option_tree d) ≡ 0 → cost_of_maybe d ≡ 0
no-dictionary absent e = refl
no-dictionary (present t) e = absurd (omega (arith, e))

-- values of a flat kind: a node, and at most three buffers
flat-cost : (kind : DataType) (t : ArrayTree) → HasForm (form_of kind) → RootHolds (Live kind no_trees absent) t → Cost t ≤ 4
flat-cost kind Released form root = omega arith
flat-cost kind (Live m ts d) form root =
    let a = holds-few m.buffers in
    let b = few kind (length m.buffers) form root.counted in
    let c = none-below ts root.kids in
    let e = no-dictionary d root.dict in
    omega (arith, a, b, c, e)

-- values by a dictionary: a node and two buffers, and the dictionary
dict-below : (kind : DataType) (d : MaybeTree ArrayMembers) → HasForm (form_of kind) → Roots
    → ((type : KindTree) (dictionary : ArrayTree) → Some (Live kind no_trees absent) ≡ Some type → option_tree d ≡ Some dictionary → LayoutOk type dictionary)
    → cost_of_maybe d ≤ 4
dict-below kind absent form roots parts = omega arith
dict-below kind (present t) form roots parts =
    flat-cost kind t form (roots (Live kind no_trees absent) t tt (parts (Live kind no_trees absent) t refl refl))

dict-cost : (kind : DataType) (t : ArrayTree) → HasForm (form_of kind) → Roots → RootHolds (type_of_kind (Dict kind)) t → PartsHold (type_of_kind (Dict kind)) t
    → Cost t ≤ 7
dict-cost kind Released form roots root parts = omega arith
dict-cost kind (Live m ts d) form roots root parts =
    let a = holds-few m.buffers in
    let b : length m.buffers ≡ 2 = root.counted in
    let c = none-below ts root.kids in
    let e = dict-below kind d form roots parts.dict in
    omega (arith, a, b, c, e)

-- ---- columns

-- each of some children is lawful under its type
abbrev AreLawful : List KindTree → List ArrayTree → Type 0
AreLawful types children =
    (length children ≡ length types) × ((k : ℕ) → k < length types → LayoutOk (get_or types k Released) (get_or children k Released))

rest-lawful : (type : KindTree) (types : List KindTree) (child : ArrayTree) (children : List ArrayTree) → AreLawful (type ∷ types) (child ∷ children)
    → AreLawful types children
rest-lawful type types child children lawful = (omega (arith, lawful.0), λ k h. lawful.1 (suc k) (omega (arith, h)))

module _ (roots : Roots) (parts : Parts) where
  mutual
    kind-cost : (kind : Kind) (t : ArrayTree) → AreColumnKinds kind → LayoutOk (type_of_kind kind) t → Cost t ≤ 7 * leaves kind + 2 * structs kind
    kind-cost (Flat kind) t is lawful = let e = flat-cost kind t is.1 (roots (type_of_kind (Flat kind)) t tt lawful) in omega (arith, e)
    kind-cost (Dict kind) t is lawful =
        let e = dict-cost kind t is.1 roots (roots (type_of_kind (Dict kind)) t tt lawful) (parts (type_of_kind (Dict kind)) t tt lawful) in
        omega (arith, e)
    kind-cost (StructOf fields) Released is lawful = omega arith
    kind-cost (StructOf fields) (Live m ts d) is lawful =
        let root = roots (type_of_kind (StructOf fields)) (Live m ts d) tt lawful in
        let below = parts (type_of_kind (StructOf fields)) (Live m ts d) tt lawful in
        let a = holds-few m.buffers in
        let b : length m.buffers ≡ 1 = root.counted in
        let c = members-cost fields ts is (root.kids, below.kids) in
        let e = no-dictionary d root.dict in
        omega (arith, a, b, c, e)

    members-cost : (members : Members) (ts : Trees ArrayMembers) → MembersAreColumns members
        → AreLawful (tree_list (types_of_members members)) (tree_list ts) → cost_of_all ts ≤ 7 * member_leaves members + 2 * member_structs members
    members-cost no_members no_trees are lawful = omega arith
    members-cost no_members (more_trees t ts) are lawful = absurd (omega (arith, lawful.0))
    members-cost (more_members name kind rest) no_trees are lawful = omega arith
    members-cost (more_members name kind rest) (more_trees t ts) are lawful =
        let a = kind-cost kind t are.0 (lawful.1 zero (omega arith)) in
        let b = members-cost rest ts are.1 (rest-lawful (type_of_kind kind) (tree_list (types_of_members rest)) t (tree_list ts) lawful) in
        omega (arith, a, b)

  columns-cost : (columns : List Column) (ts : Trees ArrayMembers) → All (λ c. AreColumnKinds c.kind) columns
      → AreLawful (types_of_columns columns) (tree_list ts) → cost_of_all ts ≤ 7 * column_leaves columns + 2 * column_structs columns
  columns-cost [] no_trees are lawful = omega arith
  columns-cost [] (more_trees t ts) are lawful = absurd (omega (arith, lawful.0))
  columns-cost (c ∷ cs) no_trees are lawful = omega arith
  columns-cost (c ∷ cs) (more_trees t ts) are lawful =
      let a = kind-cost c.kind t (are zero c (omega arith)) (lawful.1 zero (omega arith)) in
      let b =
      columns-cost cs ts (λ k none small. are (suc k) none (omega (arith, small)))
      (rest-lawful (type_of_column c) (types_of_columns cs) t (tree_list ts) lawful) in
      omega (arith, a, b)

  pub chunk-cost : (columns : List Column) (t : ArrayTree) → All (λ c. AreColumnKinds c.kind) columns → LayoutOk (type_of_columns columns) t
      → Cost t ≤ 7 * column_leaves columns + 2 * column_structs columns + 2
  chunk-cost columns Released are lawful = omega arith
  chunk-cost columns (Live m ts d) are lawful =
      let root = roots (type_of_columns columns) (Live m ts d) tt lawful in
      let below = parts (type_of_columns columns) (Live m ts d) tt lawful in
      let types = tree_list-trees (types_of_columns columns) in
      let a = holds-few m.buffers in
      let b : length m.buffers ≡ 1 = root.counted in
      let c = columns-cost columns ts are (subst (λ ks. AreLawful ks (tree_list ts)) types (root.kids, below.kids)) in
      let e = no-dictionary d root.dict in
      omega (arith, a, b, c, e)
