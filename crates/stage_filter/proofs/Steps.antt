-- From a struct to its columns.
use Rattle.std.proofs.Common.{◌≡◌, ◌∙◌, ◌≤◌, ◌<◌, ◌+◌, ℕ, zero, suc, Bool, true, false, List, [], ◌∷◌, length, map, take, drop, get_or, All, refl, sym}
use Rattle.std.proofs.Common.{Result, Ok, Err, IfOk, ap, subst, arith}
use Rattle.std.specs.Prelude.{if◌then◌else◌}
use Rattle.std.proofs.lemmas.List.Elements.{All-head, All-tail}
use Rattle.data_types.specs.ColumnForms.{AreColumnKinds}
use Rattle.data_types.specs.promise.ColumnView.{members}
use Rattle.data_types.specs.promise.Parts.{column_values, fields_of, member_columns, value_list}
use Rattle.data_types.specs.promise.Table.{Column, Row, Kind, Flat, Dict, Columns, Members, no_members, more_members}
use Rattle.data_types.specs.promise.Value.{Value, Null, Fields, values}
use Rattle.data_types.specs.declared.kind.DataType.{DataType}
use Rattle.data_types.specs.declared.kind.DataType.TheVariants as kinds
use Rattle.tree_model.specs.promise.TreeData.{Released, Live, Trees, absent, trees, tree_list}
use Rattle.tree_model.specs.promise.TreeParts.{IsLive, child_at, children_of}
use Rattle.tree_model.specs.Tree.{Depth, depth_of_all}
use Rattle.tree_model.proofs.Lists.{tree_list-trees}
use Rattle.unit_pass.specs.promise.Tally.{risen}
use Rattle.unit_pass.specs.Tally.{Tally}
use Rattle.unit_pass.specs.declared.no_memory.NoMemory.{NoMemory}
use Rattle.raw_array.specs.promise.Members.{ArrayTree, members_of}
use Rattle.arr_export.specs.promise.ArrayTrees.{table_tree}
use Rattle.data_types.specs.promise.ColumnKinds.{type_of_columns, type_of_kind, types_of_members}
use Rattle.data_types.specs.ColumnKinds.{table_type, type_of_column, types_of_columns}
use Rattle.data_types.specs.promise.KindTrees.{KindTree}
use Rattle.layout_rules.specs.promise.Layout.{end, first, is_valid}
use Rattle.layout_rules.specs.promise.Values.{field_items, readers, row_items, tree_items, value_at}
use Rattle.layout_rules.specs.promise.Walk.{LayoutOk}
use Rattle.stage_model.specs.promise.Traffic.{Moved}
use Rattle.stage_model.specs.Traffic.{table_blocks}
use Rattle.stream_face.specs.Lawful.{AreItems, DictsAreFull, HasFields, MemberDictsAreFull}
use Rattle.column_fill.proofs.Counts.{kids-long}
use Rattle.column_fill.specs.Gathered.{values_at}
use Rattle.stage_filter.specs.Kept.{rows_at}
use Rattle.stage_filter.specs.KeptTrees.{kept_columns, kept_members, kept_tree}
use Rattle.stage_filter.specs.Moving.{CanMove, CanMoveRows, IsFiltered, IsFilteredStruct}
use Rattle.stage_filter.specs.Plain.{most_cost, most_of_columns}
use Rattle.stage_filter.proofs.KeptColumns.{live-type}
use Rattle.stage_filter.proofs.LawTypes.{ItemsLaw, PartsLaw, RootLaw}
use Rattle.stage_filter.proofs.StructColumns.{blocks-is, columns-back, items-are, kinds-are, most-is, nodes-are, type-is}

-- ---- one column

-- the field of a row is the item of a child

none-there : (t : KindTree) (j : ℕ) → value_at t Released j ≡ Null
none-there Released j = refl
none-there (Live kind kids dict) j = refl

field-at : (types : List KindTree) (children : List ArrayTree) (j k : ℕ)
    → get_or (field_items (readers (trees types)) children j) k Null ≡ value_at (get_or types k Released) (get_or children k Released) j
field-at [] children j k = refl
field-at (t ∷ types) [] j zero = sym (none-there t j)
field-at (t ∷ types) [] j (suc k) = sym (none-there (get_or types k Released) j)
field-at (t ∷ types) (c ∷ children) j zero = refl
field-at (t ∷ types) (c ∷ children) j (suc k) = field-at types children j k

pub row-field : (types : List KindTree) (array : ArrayTree) (i k : ℕ) → IsLive array
    → get_or (row_items (table_type types) array i) k Null ≡ value_at (get_or types k Released) (child_at array k) (first (members_of array) + i)
row-field types Released i k live = absurd live
row-field types (Live a children dictionary) i k live = field-at types (tree_list children) (first a + i) k

-- the items of a child are those of the rows
values-from : (columns : List Column) (array : ArrayTree) (start k : ℕ) (type : KindTree) → IsLive array
    → get_or (types_of_columns columns) k Released ≡ type
    → (kept : List ℕ)
    → values_at type (child_at array k) (first (members_of array) + start) kept ≡ column_values k (rows_at (type_of_columns columns) array start kept)
values-from columns array start k type live is [] = refl
values-from columns array start k type live is (i ∷ kept) =
    let e : first (members_of array) + (start + i) ≡ first (members_of array) + start + i = omega arith in
    let one : get_or (row_items (type_of_columns columns) array (start + i)) k Null ≡ value_at type (child_at array k) (first (members_of array) + start + i) =
    row-field (types_of_columns columns) array (start + i) k live
    ∙ (λ n. value_at (is n) (child_at array k) (e n)) in
    λ n. sym one n ∷ values-from columns array start k type live is kept n

type-at : (columns : List Column) (k : ℕ) (c : Column) → k < length columns → get_or (types_of_columns columns) k Released ≡ type_of_column (get_or columns k c)
type-at [] k c small = absurd (omega (arith, small))
type-at (b ∷ columns) zero c small = refl
type-at (b ∷ columns) (suc k) c small = type-at columns k c (omega (arith, small))

depth-at : (columns : List Column) (k : ℕ) (c : Column) → k < length columns
    → Depth (type_of_column (get_or columns k c)) ≤ depth_of_all (trees (types_of_columns columns))
depth-at [] k c small = absurd (omega (arith, small))
depth-at (b ∷ columns) zero c small = omega arith
depth-at (b ∷ columns) (suc k) c small = let e = depth-at columns k c (omega (arith, small)) in omega (arith, e)

most-at : (columns : List Column) (k : ℕ) (c : Column) → k < length columns
    → most_of_columns (take k columns) + most_cost (get_or columns k c).kind ≤ most_of_columns columns
most-at [] k c small = absurd (omega (arith, small))
most-at (b ∷ columns) zero c small = omega arith
most-at (b ∷ columns) (suc k) c small = let e = most-at columns k c (omega (arith, small)) in omega (arith, e)

-- the column at a place, and what can be moved of it
pub record IsStep (columns : List Column) (k : ℕ) (c : Column) (array : ArrayTree) (start : ℕ) (kept : List ℕ) : Type 0 where
  pub can : CanMove c.kind (child_at array k) (first (members_of array) + start) kept
  pub values : values_at (type_of_kind c.kind) (child_at array k) (first (members_of array) + start) kept
      ≡ column_values k (rows_at (type_of_columns columns) array start kept)
  pub type : get_or (types_of_columns columns) k Released ≡ type_of_kind c.kind
  pub shallow : Depth (type_of_kind c.kind) ≤ depth_of_all (trees (types_of_columns columns))
  pub most : most_of_columns (take k columns) + most_cost c.kind ≤ most_of_columns columns

module _ (root : RootLaw) (parts : PartsLaw) (items : ItemsLaw) where
  pub step : (columns : List Column) (k : ℕ) (c : Column) (array : ArrayTree) (start : ℕ) (kept : List ℕ) → CanMoveRows columns array start kept
      → k < length columns → get_or columns k c ≡ c → IsStep columns k c array start kept
  step columns k c array start kept can small is =
      let typed = type_of_columns columns in
      let child = child_at array k in
      let inner = first (members_of array) + start in
      let node = root typed array tt can.ok in
      let type : get_or (types_of_columns columns) k Released ≡ type_of_kind c.kind = type-at columns k c small ∙ ap type_of_column is in
      let kid : child_at typed k ≡ type_of_kind c.kind =
      ap (λ (ts : List KindTree). get_or ts k Released) (tree_list-trees (types_of_columns columns)) ∙ type in
      let many = kids-long columns in
      let ok : LayoutOk (type_of_kind c.kind) child =
      subst (λ (t : KindTree). LayoutOk t child) kid ((parts typed array tt can.ok).kids k (omega (arith, many, small))) in
      let long : end (members_of array) ≤ tree_items child =
      (items typed array tt can.ok).needed k (subst (λ (t : KindTree). IsLive t) (sym kid) (live-type c.kind)) in
      let values = values-from columns array start k (type_of_kind c.kind) node.live type kept in
      let deep = ap (λ (b : Column). Depth (type_of_column b)) is in
      let depth = depth-at columns k c small in
      let cost = ap (λ (b : Column). most_cost b.kind) is in
      let most = most-at columns k c small in
      record {
        can = record {
          kinds = subst (λ (b : Column). AreColumnKinds b.kind) is (can.kinds k c small);
          ok = ok;
          full = subst (λ (b : Column). DictsAreFull b.kind child) is (can.full k c small);
          begins = omega (arith, long, can.begins, node.many);
          inside = λ j d within. omega (arith, long, can.inside j d within, node.many);
          items = subst (AreItems c.kind) (sym values)
              (subst (λ (b : Column). AreItems b.kind (column_values k (rows_at typed array start kept))) is (can.items k c small));
          few = can.few;
          not_deep = omega (arith, deep, depth, can.not_deep);
          small = omega (arith, cost, most, can.small);
        };
        values = values;
        type = type;
        shallow = omega (arith, deep, depth);
        most = omega (arith, cost, most);
      }

-- ---- a struct

listed : (vs : List Value) → value_list (values vs) ≡ vs
listed [] = refl
listed (v ∷ vs) = ap (λ (more : List Value). v ∷ more) (listed vs)

-- the row of a struct's item that isn't null
row-by : (valid : Bool) (fs : List Value) (count : ℕ) → HasFields count (if valid then Fields (values fs) else Null)
    → fs ≡ fields_of (if valid then Fields (values fs) else Null)
row-by true fs count has = sym (listed fs)
row-by false fs count has = absurd has

row-of : (kids : Trees DataType) (array : ArrayTree) (j count : ℕ) → HasFields count (value_at (Live kinds.Struct kids absent) array j)
    → row_items (Live kinds.Struct kids absent) array j ≡ fields_of (value_at (Live kinds.Struct kids absent) array j)
row-of kids Released j count has = absurd has
row-of kids (Live a children dictionary) j count has =
    row-by (is_valid a j) (field_items (readers kids) (tree_list children) (first a + j)) count has

rows-are : (kids : Trees DataType) (array : ArrayTree) (start count : ℕ) (kept : List ℕ)
    → All (HasFields count) (values_at (Live kinds.Struct kids absent) array start kept)
    → rows_at (Live kinds.Struct kids absent) array start kept ≡ map fields_of (values_at (Live kinds.Struct kids absent) array start kept)
rows-are kids array start count [] has = refl
rows-are kids array start count (i ∷ kept) has =
    let typed : KindTree = Live kinds.Struct kids absent in
    let vs = values_at typed array start kept in
    let v = value_at typed array (start + i) in
    λ n. row-of kids array (start + i) count (All-head (HasFields count) v vs has) n
    ∷ rows-are kids array start count kept (All-tail (HasFields count) v vs has) n

-- ---- the columns of a struct
-- the columns of a struct, and its rows
pub record IsStruct (kind : Kind) (columns : List Column) (array : ArrayTree) (start : ℕ) (kept : List ℕ) : Type 0 where
  pub can : CanMoveRows columns array start kept
  pub rows : rows_at (type_of_columns columns) array start kept ≡ map fields_of (values_at (type_of_kind kind) array start kept)
  pub type : type_of_kind kind ≡ type_of_columns columns
  pub depth : Depth (type_of_kind kind) ≡ 1 + depth_of_all (trees (types_of_columns columns))
  pub most : most_cost kind ≡ 1 + most_of_columns columns

pub later-child : (children : List ArrayTree) (k : ℕ) → get_or (drop 1 children) k Released ≡ get_or children (suc k) Released
later-child [] k = refl
later-child (c ∷ children) k = refl

full-members : (ms : Members) (children : List ArrayTree) → MemberDictsAreFull ms children → (k : ℕ) (none : Column) → k < length (member_columns ms)
    → DictsAreFull (get_or (member_columns ms) k none).kind (get_or children k Released)
full-members no_members children full k none small = absurd (omega (arith, small))
full-members (more_members name kind rest) children full zero none small = full.0
full-members (more_members name kind rest) children full (suc k) none small =
    subst (DictsAreFull (get_or (member_columns rest) k none).kind) (later-child children k)
    (full-members rest (drop 1 children) full.1 k none (omega (arith, small)))

pub of-members : (ms : Members) (array : ArrayTree) (start : ℕ) (kept : List ℕ) → CanMove (Columns ms) array start kept
    → IsStruct (Columns ms) (member_columns ms) array start kept
of-members ms array start kept can =
    let type = type-is ms in
    let own = rows-are (types_of_members ms) array start (length (member_columns ms)) kept can.items.0 in
    let rows : rows_at (type_of_columns (member_columns ms)) array start kept ≡ map fields_of (values_at (type_of_kind (Columns ms)) array start kept) =
    ap (λ (t : KindTree). rows_at t array start kept) (sym type) ∙ own in
    let types = ap Depth type in
    record {
      can = record {
        kinds = kinds-are ms can.kinds;
        ok = subst (λ (t : KindTree). LayoutOk t array) type can.ok;
        full = full-members ms (children_of array) can.full;
        begins = can.begins;
        inside = can.inside;
        items = λ k none small.
            subst (λ (rs : List Row). AreItems (get_or (member_columns ms) k none).kind (column_values k rs)) (sym rows)
            (items-are ms (map fields_of (values_at (type_of_kind (Columns ms)) array start kept)) can.items.1 k none small);
        few = can.few;
        not_deep = omega (arith, types, can.not_deep);
        small = omega (arith, most-is ms, can.small);
      };
      rows = rows;
      type = type;
      depth = omega (arith, types);
      most = omega (arith, most-is ms);
    }

pub struct-of : (columns : List Column) (kind : Kind) (array : ArrayTree) (start : ℕ) (kept : List ℕ) → kind ≡ Columns (members columns)
    → CanMove kind array start kept → IsStruct kind columns array start kept
struct-of columns kind array start kept is can =
    subst (λ (k : Kind). IsStruct k columns array start kept) (sym is)
    (subst (λ (cs : List Column). IsStruct (Columns (members columns)) cs array start kept) (columns-back columns)
    (of-members (members columns) array start kept (subst (λ (k : Kind). CanMove k array start kept) is can)))

pub kept-are : (ms : Members) (children : List ArrayTree) (start : ℕ) (kept : List ℕ)
    → kept_members ms children start kept ≡ kept_columns (member_columns ms) children start kept
kept-are no_members children start kept = refl
kept-are (more_members name kind rest) children start kept =
    ap (λ (ts : List ArrayTree). kept_tree kind (get_or children 0 Released) start kept ∷ ts) (kept-are rest (drop 1 children) start kept)

moved-members : (ms : Members) (array : ArrayTree) (start : ℕ) (kept : List ℕ) (made : ArrayTree) (before after : Tally)
    → IsStruct (Columns ms) (member_columns ms) array start kept → IsFilteredStruct (member_columns ms) array start kept made before after
    → IsFiltered (Columns ms) array start kept made before after
moved-members ms array start kept made before after struct is =
    let values = values_at (type_of_kind (Columns ms)) array start kept in
    record {
      tree_is = is.tree_is ∙ ap (table_tree (length kept)) (sym (kept-are ms (children_of array) (first (members_of array) + start) kept));
      units = is.units;
      left = omega (arith, most-is ms, is.left);
      blocks = is.blocks
          ∙ ap (λ (rows : List Row). risen before.blocks (table_blocks Moved (member_columns ms) rows)) struct.rows
          ∙ ap (risen before.blocks) (sym (blocks-is Moved ms 0 values));
      nodes = is.nodes ∙ ap (λ n. risen before.nodes (1 + n)) (sym (nodes-are Moved ms));
    }

pub moved-struct : (columns : List Column) (kind : Kind) (array : ArrayTree) (start : ℕ) (kept : List ℕ) (made : ArrayTree) (before after : Tally)
    → kind ≡ Columns (members columns) → CanMove kind array start kept → IsFilteredStruct columns array start kept made before after
    → IsFiltered kind array start kept made before after
moved-struct columns kind array start kept made before after is can moved =
    let own : CanMove (Columns (members columns)) array start kept = subst (λ (k : Kind). CanMove k array start kept) is can in
    let back : IsFilteredStruct (member_columns (members columns)) array start kept made before after =
    subst (λ (cs : List Column). IsFilteredStruct cs array start kept made before after) (sym (columns-back columns)) moved in
    subst (λ (k : Kind). IsFiltered k array start kept made before after) (sym is)
    (moved-members (members columns) array start kept made before after (of-members (members columns) array start kept own) back)

-- ---- there are no more columns than they cost

some-cost : (kind : Kind) → 1 ≤ most_cost kind
some-cost (Flat kind) = omega arith
some-cost (Dict kind) = omega arith
some-cost (Columns _) = omega arith

pub few-columns : (columns : List Column) → length columns ≤ most_of_columns columns
few-columns [] = omega arith
few-columns (c ∷ cs) = omega (arith, some-cost c.kind, few-columns cs)

pub moved-struct-if : (columns : List Column) (kind : Kind) (array : ArrayTree) (start : ℕ) (kept : List ℕ) (result : Result ArrayTree NoMemory)
    (before after : Tally)
    → kind ≡ Columns (members columns) → CanMove kind array start kept
    → IfOk result (λ made. IsFilteredStruct columns array start kept made before after) → IfOk result (λ made. IsFiltered kind array start kept made before after)
moved-struct-if columns kind array start kept (Ok made) before after is can moved = moved-struct columns kind array start kept made before after is can moved
moved-struct-if columns kind array start kept (Err _) before after is can moved = tt
