-- What the children of a chunk and of a struct in it offer, and what they are with the struct's in its place.
use Rattle.std.proofs.Common.{arith, ◌≡◌, ◌≤◌, ◌<◌, ◌+◌, ◌-◌, ◌^◌, ◌≤ℤ◌, ◌∙◌, ℕ, suc, ℤ, pos, negsuc, List, [], ◌∷◌, ◌++◌, length, map, get_or, take, drop, All}
use Rattle.std.proofs.Common.{refl, sym, ap, subst}
use Rattle.std.proofs.lemmas.Int.{ints}
use Rattle.std.proofs.lemmas.List.{get_or-map, length-map, get_or_default, length-drop, take-map, drop-map, take_rest}
use Rattle.data_types.specs.promise.Parts.{member_columns}
use Rattle.data_types.specs.Parts.{unpacked_columns}
use Rattle.data_types.specs.promise.Table.{Column, Columns as StructOf, Members}
use Rattle.tree_model.specs.promise.TreeParts.{IsLive, children_of, child_at}
use Rattle.tree_model.specs.promise.TreeData.{Released, Live, absent, trees, tree_list}
use Rattle.tree_model.specs.Tree.{Depth, depth_of_all}
use Rattle.tree_model.proofs.Lists.{tree_list-trees, trees-tree_list}
use Rattle.tree_model.proofs.Measures.{Depth-get_or}
use Rattle.raw_array.specs.promise.Members.{ArrayTree, Cost, members_of}
use Rattle.raw_array.specs.Members.{cost_of_all}
use Rattle.raw_array.specs.Windows.{Window}
use Rattle.data_types.specs.promise.KindTrees.{KindTree}
use Rattle.layout_rules.specs.promise.Layout.{end, first, items, natural}
use Rattle.layout_rules.specs.promise.Walk.{ChunkOk, LayoutOk}
use Rattle.data_types.specs.promise.ColumnKinds.{type_of_columns, type_of_kind}
use Rattle.data_types.specs.ColumnKinds.{table_type, type_of_column, types_of_columns}
use Rattle.arr_export.specs.promise.ArrayTrees.{table_tree}
use Rattle.arr_export.specs.ArrayTrees.{IsColumn}
use Rattle.arr_move.specs.TreeActs.{struct_members}
use Rattle.array_laws.specs.Picking.{AreLive, Unpacked, cut_children}
use Rattle.stage_model.specs.promise.Typing.{no_column}
use Rattle.stage_model.specs.Typing.{column_at}
use Rattle.arr_move.proofs.MovedChildren.{cut-at, cut_to}
use Rattle.stages.proofs.StructChildren.{StructLaws, shown}
use Rattle.stage_kernels.specs.Unpacks.{HasStruct, ShowsInner}

-- ---- numbers, and costs of children
pub pos-natural : (z : ℤ) → pos 0 ≤ℤ z → pos (natural z) ≡ z
pos-natural (pos n) h = refl
pos-natural (negsuc n) h = absurd (omega (arith, h))

few-of : (z : ℤ) (first most : ℕ) → pos 0 ≤ℤ z → first + natural z ≤ most → z ≤ℤ pos most
few-of (pos n) first most sized small = omega (arith, ints, small)
few-of (negsuc n) first most sized small = absurd (omega (arith, sized))

child-depth : (t : ArrayTree) (k : ℕ) → k < length (children_of t) → Depth (child_at t k) + 1 ≤ Depth t
child-depth Released k small = absurd (omega (arith, small))
child-depth (Live m ts d) k small =
    let same = ap depth_of_all (trees-tree_list ts) in
    omega (arith, same, Depth-get_or (tree_list ts) k small)

-- each live tree costs a unit
count-cost : (cs : List ArrayTree) → ((k : ℕ) → k < length cs → IsLive (get_or cs k Released)) → length cs ≤ cost_of_all (trees cs)
count-cost [] live = omega arith
count-cost (Released ∷ cs) live = absurd (live 0 (omega arith))
count-cost (Live m ts d ∷ cs) live =
    let e = count-cost cs (λ k small. live (suc k) (omega (arith, small))) in
    omega (arith, e)

children-cost : (t : ArrayTree) → IsLive t → cost_of_all (trees (children_of t)) + 1 ≤ Cost t
children-cost Released live = absurd live
children-cost (Live m ts d) live = let same = ap cost_of_all (trees-tree_list ts) in omega (arith, same)

-- ---- what a chunk and a struct in it offer
module _ (laws : StructLaws) where
  module _ (types : List KindTree) (t : ArrayTree) (live : AreLive types) (ok : LayoutOk (table_type types) t) where
    -- its columns may be in a table
    child-column : Depth t ≤ 128 → (k : ℕ) → k < length (children_of t) → IsColumn (items (members_of t)) (child_at t k)
    child-column deep k small =
        let count = laws.count types t ok in
        let s : k < length types = omega (arith, count, small) in
        let long = laws.column_long types t k s (live k s) ok in
        record {
          live = laws.column_live types t k s (live k s) ok;
          not_deep = let d = child-depth t k small in omega (arith, d, deep);
          long = omega (arith, long);
        }

  struct-at : (columns : List Column) (place : ℕ) (fields : Members) → place < length columns → (column_at columns place).kind ≡ StructOf fields
      → get_or (types_of_columns columns) place Released ≡ table_type (types_of_columns (member_columns fields))
  struct-at columns place fields inside is =
      get_or-map type_of_column columns place no_column Released inside ∙ ap type_of_kind is ∙ laws.struct fields

  pub shown-inner : (place : ℕ) (t : ArrayTree) → HasStruct place t → ShowsInner place t
  shown-inner place t has =
      let types = types_of_columns has.columns in
      let inner = types_of_columns (member_columns has.fields) in
      let ok = has.ok.0 in
      let small : place < length types = let e = length-map has.columns type_of_column in omega (arith, e, has.inside) in
      let count = laws.count types t ok in
      let live = laws.types_live has.columns in
      let type = struct-at has.columns place has.fields has.inside has.is_struct in
      let own = subst (λ kind. LayoutOk kind (child_at t place)) type (laws.column types t place small ok) in
      let long = laws.column_long types t place small (live place small) ok in
      let cut = laws.window (table_type inner) (child_at t place) (first (members_of t)) (items (members_of t)) long own in
      let off = pos-natural (members_of t).offset (laws.placed types t ok) in
      let len = pos-natural (members_of t).length (laws.sized types t ok) in
      record {
        outer = shown laws types t live ok;
        inside = omega (arith, count, small);
        inner = shown laws inner (Window (child_at t place) (members_of t).offset (members_of t).length) (laws.types_live (member_columns has.fields))
            (subst (λ z. LayoutOk (table_type inner) (Window (child_at t place) (members_of t).offset z)) len
            (subst (λ z. LayoutOk (table_type inner) (Window (child_at t place) z (pos (items (members_of t))))) off cut));
      }

  -- ---- the columns that are in a table
  -- the columns of a chunk with a struct's columns in its place
  module _ (place : ℕ) (t : ArrayTree) (has : HasStruct place t)
      (ok : ChunkOk (type_of_columns (unpacked_columns place has.fields has.columns)) (Unpacked t place)) where
    abbrev types : List KindTree
    types = types_of_columns (unpacked_columns place has.fields has.columns)

    each-column : Depth (Unpacked t place) ≤ 128 → (k : ℕ) → k < length (children_of (Unpacked t place))
        → IsColumn (natural (members_of t).length) (child_at (Unpacked t place) k)
    each-column deep k small =
        child-column types (Unpacked t place) (laws.types_live (unpacked_columns place has.fields has.columns)) ok.0 deep k small

    pub table-columns : Depth (Unpacked t place) ≤ 128 → All (IsColumn (natural (members_of t).length)) (children_of (Unpacked t place))
    table-columns deep k none small =
        subst (IsColumn (natural (members_of t).length)) (get_or_default (children_of (Unpacked t place)) k Released none small) (each-column deep k small)

    pub few-columns : Depth (Unpacked t place) ≤ 128 → length (children_of (Unpacked t place)) < Cost (Unpacked t place)
    few-columns deep =
        let e = count-cost (children_of (Unpacked t place)) (λ k small. (each-column deep k small).live) in
        let f = children-cost (Unpacked t place) tt in
        omega (arith, e, f)

  pub few-rows : (place : ℕ) (t : ArrayTree) → HasStruct place t → end (members_of t) ≤ 2 ^ 40 → (members_of t).length ≤ℤ pos (2 ^ 40)
  few-rows place t has small =
      few-of (members_of t).length (first (members_of t)) (2 ^ 40) (laws.sized (types_of_columns has.columns) t has.ok.0) small

-- ---- all children
-- all children, where they are moved in three parts
pub parts-are : (t : ArrayTree) (place count : ℕ) (first second third : List ArrayTree) → count ≡ length (children_of t)
    → first ≡ [] ++ map (cut_to (members_of t).offset (members_of t).length) (take (place - 0) (drop 0 (children_of t)))
    → second ≡ first ++ cut_children (Window (child_at t place) (members_of t).offset (members_of t).length)
    → third ≡ second ++ map (cut_to (members_of t).offset (members_of t).length) (take (count - (place + 1)) (drop (place + 1) (children_of t)))
    → third ≡ children_of (Unpacked t place)
parts-are t place count first second third is a b c =
    let cs = children_of t in
    let off = (members_of t).offset in
    let len = (members_of t).length in
    let n : place - 0 ≡ place = omega arith in
    let front = a ∙ ap (λ k. map (cut_to off len) (take k cs)) n ∙ sym (take-map (cut_to off len) place cs) in
    let middle = ap cut_children (sym (cut-at cs off len place)) in
    let left = length-drop (place + 1) cs in
    let m : count - (place + 1) ≡ length cs - (place + 1) = ap (λ k. k - (place + 1)) is in
    let back = ap (λ k. map (cut_to off len) (take k (drop (place + 1) cs))) m ∙ ap (map (cut_to off len)) (take_rest cs (place + 1))
    ∙ sym (drop-map (cut_to off len) (place + 1) cs) in
    c ∙ (λ i. b i ++ back i) ∙ (λ i. front i ++ middle i ++ drop (place + 1) (cut_children t)) ∙ sym (tree_list-trees _)

pub table-is : (place : ℕ) (t : ArrayTree) (rows : ℤ) (columns : List ArrayTree) → pos 0 ≤ℤ (members_of t).length → rows ≡ (members_of t).length
    → columns ≡ children_of (Unpacked t place) → table_tree (natural rows) columns ≡ Unpacked t place
table-is place t rows columns sized is same =
    let len = ap (λ z. pos (natural z)) is ∙ pos-natural (members_of t).length sized in
    let cs = cut_children t in
    let kids = same ∙ tree_list-trees (take place cs ++ cut_children (get_or cs place Released) ++ drop (place + 1) cs) in
    λ i. Live (struct_members (len i)) (trees (kids i)) absent
