-- What holds of columns of which some are under a new struct, and of their tables, since it holds of the columns before.
use Rattle.std.proofs.Common.{arith, ◌≡◌, ◌≤◌, ◌<◌, ◌+◌, ◌∙◌, ◌++◌, ◌⊎◌, inl, inr, ⊎_elim, ℕ, zero, suc, List, [], ◌∷◌, length, map, get_or, drop}
use Rattle.std.proofs.Common.{All, refl, sym, ap, subst}
use Rattle.std.specs.List.{AllByRecursion}
use Rattle.std.proofs.Math.Logic.{∥∥₁_elim}
use Rattle.std.proofs.Props.{props}
use Rattle.std.proofs.lemmas.List.{length-map, length_push, get_or_push, get_or_append_left}
use Rattle.std.proofs.lemmas.List.Elements.{All-nil, All-cons, All-head, All-tail}
use Rattle.unit_pass.specs.declared.pass.TheConstants.{CHUNK}
use Rattle.data_types.specs.ColumnForms.{AreColumnKinds, MembersAreColumns}
use Rattle.data_types.specs.promise.ColumnView.{members}
use Rattle.data_types.specs.ColumnView.{column_of}
use Rattle.data_types.specs.promise.Parts.{column_values, fields_of, member_columns, picked}
use Rattle.data_types.specs.Parts.{packed, packed_columns, AreWithin}
use Rattle.data_types.specs.promise.Table.{Column, Row, Columns as StructOf}
use Rattle.data_types.specs.promise.Value.{Value, Null, Fields, values}
use Rattle.data_types.specs.declared.kind.ColumnType.{ColumnType}
use Rattle.tree_model.specs.promise.TreeData.{Released, Live, Trees, no_trees, more_trees, MaybeTree, absent, present, trees}
use Rattle.tree_model.specs.Tree.{Depth, depth_of_all, depth_of_maybe}
use Rattle.tree_model.specs.promise.TreeCost.{Nodes}
use Rattle.raw_schema.specs.promise.Members.{SchemaMembers, SchemaTree}
use Rattle.data_types.specs.declared.kind.DataType.{DataType}
use Rattle.data_types.specs.promise.ColumnKinds.{type_of_columns, types_of_members}
use Rattle.data_types.specs.ColumnKinds.{type_of_column, types_of_columns}
use Rattle.schema_check.specs.promise.ColumnSchema.{SchemaOf, member_schemas}
use Rattle.schema_check.specs.ColumnSchema.{schema_of_column}
use Rattle.data_types.specs.promise.KindTrees.{KindTree}
use Rattle.schema_check.specs.promise.Schemas.{DictTyped, KidsTyped, TypedFrom, TypedOf}
use Rattle.arr_move.specs.TreeActs.{Distinct}
use Rattle.stream_face.specs.Lawful.{AreFieldItems, AreItems, DictsHaveBytes, HasFields, IsTable, LawfulColumns, LawfulTables, MemberDictsHaveBytes, column_leaves, leaves, member_leaves, total_rows}
use Rattle.array_laws.proofs.StructRows.{value_list-values}
use Rattle.stages.proofs.ColumnSets.{same_columns}
use Rattle.stage_kernels.specs.Packs.{PackFits}
use Rattle.stage_kernels.specs.Picks.{no_column, picked_columns, picked_rows}
use Rattle.stages.specs.Structs.{column_structs, member_structs, most_structs, structs}
use Rattle.stages.proofs.PickedColumns.{all-picked, as-many, column-at, first-within, leaves-are, rest-within, sum-picked, total}
use Rattle.stage_kernels.proofs.PickedStreams.{items-same, kids-typed}

-- ---- what fits

-- the name of the struct, which is the last of the columns that are kept
abbrev pub made_name : List ℕ → List ColumnType → List ℕ
made_name rest kept = (get_or (map column_of kept) (length rest) no_column).name

abbrev pub struct_column : List ℕ → List ℕ → List Column → Column
struct_column made picks columns = record { name = made; kind = StructOf (members (picked_columns picks columns)) }

same-name : (made : List ℕ) (rest picks : List ℕ) (kept : List ColumnType) (before : List Column)
    → map column_of kept ≡ packed_columns no_column made rest picks before → made_name rest kept ≡ made
same-name made rest picks kept before e =
    ap (λ (cs : List Column). (get_or cs (length rest) no_column).name) e
    ∙ ap (λ (c : Column). c.name)
    (get_or_push (picked_columns rest before) (struct_column made picks before) no_column (length rest) (as-many rest before))

pub kept-are : (rest picks : List ℕ) (kept : List ColumnType) (before : List Column) → ∥ PackFits rest picks kept before ∥₁
    → map column_of kept ≡ packed_columns no_column (made_name rest kept) rest picks before
kept-are rest picks kept before fits =
    same_columns (map column_of kept) (packed_columns no_column (made_name rest kept) rest picks before)
    (λ (f : PackFits rest picks kept before).
    f.columns ∙ ap (λ name. packed_columns no_column name rest picks before) (sym (same-name f.made rest picks kept before f.columns)))
    fits

-- the numbers that are asked for
pub record Numbers (rest picks : List ℕ) (before : List Column) : Type 0 where
  pub distinct : Distinct (rest ++ picks)
  pub stay : AreWithin (length before) rest
  pub go : AreWithin (length before) picks
  pub few : column_structs before ≤ most_structs

pub numbers-of : (rest picks : List ℕ) (kept : List ColumnType) (before : List Column) → ∥ PackFits rest picks kept before ∥₁ → Numbers rest picks before
numbers-of rest picks kept before fits = record {
  distinct = λ i j below small. ∥∥₁_elim fits (hlevel props) (λ f. f.distinct i j below small);
  stay = λ k h. ∥∥₁_elim fits (hlevel props) (λ f. f.stay k h);
  go = λ k h. ∥∥₁_elim fits (hlevel props) (λ f. f.go k h);
  few = ∥∥₁_elim fits (hlevel props) (λ f. f.few);
}

-- ---- one column more

pub all-push : {X : Type 0} → (P : X → Type 0) (xs : List X) (y : X) → All P xs → P y → All P (xs ++ y ∷ [])
all-push P [] y all one = All-cons P y [] one (All-nil P)
all-push P (x ∷ xs) y all one = All-cons P x (xs ++ y ∷ []) (All-head P x xs all) (all-push P xs y (All-tail P x xs all) one)

member-kinds : (columns : List Column) → All (λ c. AreColumnKinds c.kind) columns → MembersAreColumns (members columns)
member-kinds [] all = tt
member-kinds (c ∷ cs) all =
    (All-head (λ (c : Column). AreColumnKinds c.kind) c cs all, member-kinds cs (All-tail (λ (c : Column). AreColumnKinds c.kind) c cs all))

member-dicts : (columns : List Column) → All (λ c. DictsHaveBytes c.kind) columns → MemberDictsHaveBytes (members columns)
member-dicts [] all = tt
member-dicts (c ∷ cs) all =
    (All-head (λ (c : Column). DictsHaveBytes c.kind) c cs all, member-dicts cs (All-tail (λ (c : Column). DictsHaveBytes c.kind) c cs all))

leaves-under : (columns : List Column) → member_leaves (members columns) ≡ column_leaves columns
leaves-under [] = refl
leaves-under (c ∷ cs) = ap (λ n. leaves c.kind + n) (leaves-under cs)

structs-under : (columns : List Column) → member_structs (members columns) ≡ column_structs columns
structs-under [] = refl
structs-under (c ∷ cs) = ap (λ n. structs c.kind + n) (structs-under cs)

leaves-push : (columns : List Column) (c : Column) → column_leaves (columns ++ c ∷ []) ≡ column_leaves columns + leaves c.kind
leaves-push [] c = omega arith
leaves-push (b ∷ bs) c = let e = leaves-push bs c in omega (arith, e)

structs-push : (columns : List Column) (c : Column) → column_structs (columns ++ c ∷ []) ≡ column_structs columns + structs c.kind
structs-push [] c = omega arith
structs-push (b ∷ bs) c = let e = structs-push bs c in omega (arith, e)

structs-are : (columns : List Column) → column_structs columns ≡ total (map (λ c. structs c.kind) columns)
structs-are [] = refl
structs-are (c ∷ cs) = let e = structs-are cs in omega (arith, e)

-- ---- sums over both

within-both : (count : ℕ) (xs ys : List ℕ) → AreWithin count xs → AreWithin count ys → AreWithin count (xs ++ ys)
within-both count [] ys a b k inside = b k inside
within-both count (x ∷ xs) ys a b zero inside = a zero (omega arith)
within-both count (x ∷ xs) ys a b (suc k) inside = within-both count xs ys (rest-within count x xs a) b k (omega (arith, inside))

sums-both : (f : Column → ℕ) (columns : List Column) (rest picks : List ℕ)
    → total (map f (picked_columns (rest ++ picks) columns)) ≡ total (map f (picked_columns rest columns)) + total (map f (picked_columns picks columns))
sums-both f columns [] picks = omega arith
sums-both f columns (p ∷ rest) picks = let e = sums-both f columns rest picks in omega (arith, e)

sum-parts : (f : Column → ℕ) (columns : List Column) (rest picks : List ℕ) → Numbers rest picks columns
    → total (map f (picked_columns rest columns)) + total (map f (picked_columns picks columns)) ≤ total (map f columns)
sum-parts f columns rest picks numbers =
    let all = sum-picked f columns (rest ++ picks) numbers.distinct (within-both (length columns) rest picks numbers.stay numbers.go) in
    let both = sums-both f columns rest picks in
    omega (arith, all, both)

leaves-packed : (made : List ℕ) (rest picks : List ℕ) (columns : List Column) → Numbers rest picks columns
    → column_leaves (packed_columns no_column made rest picks columns) ≤ column_leaves columns
leaves-packed made rest picks columns numbers =
    let sum = sum-parts (λ c. leaves c.kind) columns rest picks numbers in
    let push = leaves-push (picked_columns rest columns) (struct_column made picks columns) in
    let under = leaves-under (picked_columns picks columns) in
    omega (arith, sum, push, under, leaves-are columns, leaves-are (picked_columns rest columns), leaves-are (picked_columns picks columns))

structs-packed : (made : List ℕ) (rest picks : List ℕ) (columns : List Column) → Numbers rest picks columns
    → column_structs (packed_columns no_column made rest picks columns) ≤ column_structs columns + 1
structs-packed made rest picks columns numbers =
    let sum = sum-parts (λ c. structs c.kind) columns rest picks numbers in
    let push = structs-push (picked_columns rest columns) (struct_column made picks columns) in
    let under = structs-under (picked_columns picks columns) in
    omega (arith, sum, push, under, structs-are columns, structs-are (picked_columns rest columns), structs-are (picked_columns picks columns))

-- ---- the schema

mutual
  on-level : (a b : ℕ) (s : SchemaTree) (t : KindTree) → b + Depth s ≤ 65 → TypedFrom a s t → TypedFrom b s t
  on-level a b Released t small typed = absurd typed
  on-level a b (Live s kids dict) Released small typed = absurd typed
  on-level a b (Live s kids dict) (Live kind kinds under) small typed = (
    record {
      on_level = omega (arith, small);
      format = typed.0.format;
      meta = typed.0.meta;
      children = typed.0.children;
      index = typed.0.index;
      map = typed.0.map;
    },
    kids-on_level (a + 1) (b + 1) kids kinds (omega (arith, small)) typed.1,
    dict-on_level (a + 1) (b + 1) dict under (omega (arith, small)) typed.2,
  )

  kids-on_level : (a b : ℕ) (kids : Trees SchemaMembers) (kinds : Trees DataType) → b + depth_of_all kids ≤ 65 → KidsTyped a kids kinds → KidsTyped b kids kinds
  kids-on_level a b no_trees no_trees small typed = tt
  kids-on_level a b no_trees (more_trees kind kinds) small typed = absurd typed
  kids-on_level a b (more_trees kid kids) no_trees small typed = absurd typed
  kids-on_level a b (more_trees kid kids) (more_trees kind kinds) small typed =
      (on-level a b kid kind (omega (arith, small)) typed.0, kids-on_level a b kids kinds (omega (arith, small)) typed.1)

  dict-on_level : (a b : ℕ) (dict : MaybeTree SchemaMembers) (under : MaybeTree DataType) → b + depth_of_maybe dict ≤ 65 → DictTyped a dict under
      → DictTyped b dict under
  dict-on_level a b absent absent small typed = tt
  dict-on_level a b absent (present kind) small typed = absurd typed
  dict-on_level a b (present tree) absent small typed = absurd typed
  dict-on_level a b (present tree) (present kind) small typed = on-level a b tree kind small typed

kids-under : (columns : List Column) → depth_of_all (member_schemas (members columns)) ≤ 62
    → KidsTyped 2 (trees (map schema_of_column columns)) (trees (types_of_columns columns))
    → KidsTyped 3 (member_schemas (members columns)) (types_of_members (members columns))
kids-under [] small typed = tt
kids-under (c ∷ cs) small typed =
    (on-level 2 3 (schema_of_column c) (type_of_column c) (omega (arith, small)) typed.0, kids-under cs (omega (arith, small)) typed.1)

kids-push : (columns : List Column) (c : Column) → KidsTyped 2 (trees (map schema_of_column columns)) (trees (types_of_columns columns))
    → TypedFrom 2 (schema_of_column c) (type_of_column c)
    → KidsTyped 2 (trees (map schema_of_column (columns ++ c ∷ []))) (trees (types_of_columns (columns ++ c ∷ [])))
kids-push [] c kids typed = (typed, tt)
kids-push (b ∷ bs) c kids typed = (kids.0, kids-push bs c kids.1 typed)

depth-push : (columns : List Column) (c : Column) → Depth (schema_of_column c) ≤ depth_of_all (trees (map schema_of_column (columns ++ c ∷ [])))
depth-push [] c = omega arith
depth-push (b ∷ bs) c = let e = depth-push bs c in omega (arith, e)

packed-typed : (made : List ℕ) (rest picks : List ℕ) (columns : List Column) → Numbers rest picks columns
    → Depth (SchemaOf (packed_columns no_column made rest picks columns)) ≤ 64 → TypedOf (SchemaOf columns) (type_of_columns columns)
    → TypedOf (SchemaOf (packed_columns no_column made rest picks columns)) (type_of_columns (packed_columns no_column made rest picks columns))
packed-typed made rest picks columns numbers small typed =
    let deep = depth-push (picked_columns rest columns) (struct_column made picks columns) in
    let under = kids-under (picked_columns picks columns) (omega (arith, small, deep)) (kids-typed picks columns numbers.go typed.1) in (
      record { on_level = typed.0.on_level; format = typed.0.format; meta = typed.0.meta; children = tt; index = tt; map = tt },
      kids-push (picked_columns rest columns) (struct_column made picks columns) (kids-typed rest columns numbers.stay typed.1) (
        record { on_level = omega arith; format = typed.0.format; meta = tt; children = tt; index = tt; map = tt },
        under,
        tt,
      ),
      tt,
    )

-- ---- the columns

-- their kinds, and how many they are
pub record Kept (columns : List Column) : Type 0 where
  pub kinds : All (λ c. AreColumnKinds c.kind) columns
  pub dicts : All (λ c. DictsHaveBytes c.kind) columns
  pub few : column_leaves columns ≤ 4096
  pub few_structs : column_structs columns ≤ most_structs + 1

kept-packed : (made : List ℕ) (rest picks : List ℕ) (columns : List Column) → Numbers rest picks columns → LawfulColumns columns
    → Kept (packed_columns no_column made rest picks columns)
kept-packed made rest picks columns numbers lawful = record {
  kinds = all-push (λ (c : Column). AreColumnKinds c.kind) (picked_columns rest columns) (struct_column made picks columns)
      (all-picked (λ c. AreColumnKinds c.kind) rest columns numbers.stay lawful.kinds)
      (member-kinds (picked_columns picks columns) (all-picked (λ c. AreColumnKinds c.kind) picks columns numbers.go lawful.kinds));
  dicts = all-push (λ (c : Column). DictsHaveBytes c.kind) (picked_columns rest columns) (struct_column made picks columns)
      (all-picked (λ c. DictsHaveBytes c.kind) rest columns numbers.stay lawful.dicts)
      (member-dicts (picked_columns picks columns) (all-picked (λ c. DictsHaveBytes c.kind) picks columns numbers.go lawful.dicts));
  few = let fewer = leaves-packed made rest picks columns numbers in omega (arith, fewer, lawful.few);
  few_structs = let more = structs-packed made rest picks columns numbers in omega (arith, more, numbers.few);
}

pub kept-of : (rest picks : List ℕ) (kept : List ColumnType) (before : List Column) → ∥ PackFits rest picks kept before ∥₁ → LawfulColumns before
    → Kept (map column_of kept)
kept-of rest picks kept before fits lawful =
    subst Kept (sym (kept-are rest picks kept before fits))
    (kept-packed (made_name rest kept) rest picks before (numbers-of rest picks kept before fits) lawful)

kept-typed : (rest picks : List ℕ) (kept : List ColumnType) (before : List Column) → ∥ PackFits rest picks kept before ∥₁
    → Depth (SchemaOf (map column_of kept)) ≤ 64 → TypedOf (SchemaOf before) (type_of_columns before)
    → TypedOf (SchemaOf (map column_of kept)) (type_of_columns (map column_of kept))
kept-typed rest picks kept before fits not_deep typed =
    let same = kept-are rest picks kept before fits in
    subst (λ (cs : List Column). TypedOf (SchemaOf cs) (type_of_columns cs)) (sym same)
    (packed-typed (made_name rest kept) rest picks before (numbers-of rest picks kept before fits)
    (subst (λ (cs : List Column). Depth (SchemaOf cs) ≤ 64) same not_deep) typed)

pub packed_lawful : (rest picks : List ℕ) (kept : List ColumnType) → Nodes (SchemaOf (map column_of kept)) ≤ CHUNK
    → Depth (SchemaOf (map column_of kept)) ≤ 64
    → (before : List Column) → ∥ PackFits rest picks kept before ∥₁ → LawfulColumns before → LawfulColumns (map column_of kept)
packed_lawful rest picks kept small not_deep before fits lawful =
    let are = kept-of rest picks kept before fits lawful in
    record {
      kinds = are.kinds;
      dicts = are.dicts;
      few = are.few;
      typed = kept-typed rest picks kept before fits not_deep lawful.typed;
      small = small;
      not_deep = not_deep;
    }

-- ---- the tables

abbrev struct_item : List ℕ → Row → Value
struct_item picks row = Fields (values (picked Null picks row))

columns-back : (columns : List Column) → member_columns (members columns) ≡ columns
columns-back [] = refl
columns-back (c ∷ cs) = ap (λ (more : List Column). c ∷ more) (columns-back cs)

packed-widths : (made : List ℕ) (rest picks : List ℕ) (columns : List Column) (rows : List Row)
    → All (λ (row : Row). length row ≡ length (packed_columns no_column made rest picks columns)) (map (packed rest picks) rows)
packed-widths made rest picks columns [] k none small = absurd (omega (arith, small))
packed-widths made rest picks columns (row ∷ rows) zero none small =
    length_push (picked Null rest row) (struct_item picks row) ∙ ap (λ n. n + 1) (length-map rest (λ p. get_or row p Null) ∙ sym (as-many rest columns))
    ∙ sym (length_push (picked_columns rest columns) (struct_column made picks columns))
packed-widths made rest picks columns (row ∷ rows) (suc k) none small = packed-widths made rest picks columns rows k none (omega (arith, small))

-- a place is one of those before the last, or the last
pub place-of : (n k : ℕ) → k < n + 1 → (k < n) ⊎ (k ≡ n)
place-of zero zero small = inr refl
place-of zero (suc k) small = absurd (omega (arith, small))
place-of (suc n) zero small = inl (omega arith)
place-of (suc n) (suc k) small =
    ⊎_elim (λ (less : k < n). inl (omega (arith, less))) (λ (same : k ≡ n). inr (ap suc same)) (place-of n k (omega (arith, small)))

front-values : (rest picks : List ℕ) (rows : List Row) (k : ℕ) → k < length rest
    → column_values k (map (packed rest picks) rows) ≡ column_values k (picked_rows rest rows)
front-values rest picks [] k inside = refl
front-values rest picks (row ∷ rows) k inside =
    let long = length-map rest (λ p. get_or row p Null) in λ i.
    get_or_append_left (picked Null rest row) (struct_item picks row ∷ []) Null k (omega (arith, inside, long)) i ∷ front-values rest picks rows k inside i

last-values : (rest picks : List ℕ) (rows : List Row) → column_values (length rest) (map (packed rest picks) rows) ≡ map (struct_item picks) rows
last-values rest picks [] = refl
last-values rest picks (row ∷ rows) = λ i.
    get_or_push (picked Null rest row) (struct_item picks row) Null (length rest) (length-map rest (λ p. get_or row p Null)) i ∷ last-values rest picks rows i

-- ---- the struct's items
have-fields : (picks : List ℕ) (columns : List Column) (rows : List Row)
    → All (HasFields (length (member_columns (members (picked_columns picks columns))))) (map (struct_item picks) rows)
have-fields picks columns [] = All-nil (HasFields (length (member_columns (members (picked_columns picks columns)))))
have-fields picks columns (row ∷ rows) =
    All-cons (HasFields (length (member_columns (members (picked_columns picks columns))))) (struct_item picks row) (map (struct_item picks) rows)
    (ap (λ (vs : List Value). length vs) (value_list-values (picked Null picks row)) ∙ length-map picks (λ p. get_or row p Null)
    ∙ sym (ap (λ (cs : List Column). length cs) (columns-back (picked_columns picks columns)) ∙ as-many picks columns))
    (have-fields picks columns rows)

fields-back : (picks : List ℕ) (rows : List Row) → map fields_of (map (struct_item picks) rows) ≡ picked_rows picks rows
fields-back picks [] = refl
fields-back picks (row ∷ rows) = λ i. value_list-values (picked Null picks row) i ∷ fields-back picks rows i

tails-are : (p : ℕ) (picks : List ℕ) (rows : List Row) → map (drop 1) (picked_rows (p ∷ picks) rows) ≡ picked_rows picks rows
tails-are p picks [] = refl
tails-are p picks (row ∷ rows) = ap (λ (more : List Row). picked Null picks row ∷ more) (tails-are p picks rows)

fields-are : (picks : List ℕ) (columns : List Column) (rows : List Row) → AreWithin (length columns) picks → IsTable columns rows
    → AreFieldItems (members (picked_columns picks columns)) (picked_rows picks rows)
fields-are [] columns rows within table = tt
fields-are (p ∷ picks) columns rows within table = (
  subst (AreItems (get_or columns p no_column).kind) (sym (items-same (p ∷ picks) rows 0 (omega arith)))
      (table.items p no_column (first-within (length columns) p picks within)),
  subst (AreFieldItems (members (picked_columns picks columns))) (sym (tails-are p picks rows))
      (fields-are picks columns rows (rest-within (length columns) p picks within) table),
)

struct-items : (picks : List ℕ) (columns : List Column) (rows : List Row) → AreWithin (length columns) picks → IsTable columns rows
    → AreItems (StructOf (members (picked_columns picks columns))) (map (struct_item picks) rows)
struct-items picks columns rows within table = (
  have-fields picks columns rows,
  subst (AreFieldItems (members (picked_columns picks columns))) (sym (fields-back picks rows)) (fields-are picks columns rows within table),
)

-- ---- packed tables
packed-items : (made : List ℕ) (rest picks : List ℕ) (columns : List Column) (rows : List Row) → Numbers rest picks columns → IsTable columns rows
    → (k : ℕ) (none : Column) → (k < length rest) ⊎ (k ≡ length rest)
    → AreItems (get_or (packed_columns no_column made rest picks columns) k none).kind (column_values k (map (packed rest picks) rows))
packed-items made rest picks columns rows numbers table k none (inl inside) =
    let front : get_or (packed_columns no_column made rest picks columns) k none ≡ get_or columns (get_or rest k 0) no_column =
    get_or_append_left (picked_columns rest columns) (struct_column made picks columns ∷ []) none k (omega (arith, inside, as-many rest columns))
    ∙ column-at rest columns k none inside in
    subst (λ (c : Column). AreItems c.kind (column_values k (map (packed rest picks) rows))) (sym front)
    (subst (AreItems (get_or columns (get_or rest k 0) no_column).kind) (sym (front-values rest picks rows k inside ∙ items-same rest rows k inside))
    (table.items (get_or rest k 0) no_column (numbers.stay k inside)))
packed-items made rest picks columns rows numbers table k none (inr last) =
    let own = get_or_push (picked_columns rest columns) (struct_column made picks columns) none k (as-many rest columns ∙ sym last) in
    subst (λ (c : Column). AreItems c.kind (column_values k (map (packed rest picks) rows))) (sym own)
    (subst (λ (n : ℕ). AreItems (struct_column made picks columns).kind (column_values n (map (packed rest picks) rows))) (sym last)
    (subst (AreItems (struct_column made picks columns).kind) (sym (last-values rest picks rows)) (struct-items picks columns rows numbers.go table)))

packed-table : (made : List ℕ) (rest picks : List ℕ) (columns : List Column) (rows : List Row) → Numbers rest picks columns → IsTable columns rows
    → IsTable (packed_columns no_column made rest picks columns) (map (packed rest picks) rows)
packed-table made rest picks columns rows numbers table = record {
  widths = packed-widths made rest picks columns rows;
  items = λ k none small.
      let long = length_push (picked_columns rest columns) (struct_column made picks columns) in
      packed-items made rest picks columns rows numbers table k none (place-of (length rest) k (omega (arith, small, long, as-many rest columns)));
}

packed-tables : (made : List ℕ) (rest picks : List ℕ) (columns : List Column) (ahead : List (List Row)) → Numbers rest picks columns
    → AllByRecursion (IsTable columns) ahead
    → AllByRecursion (IsTable (packed_columns no_column made rest picks columns)) (map (map (packed rest picks)) ahead)
packed-tables made rest picks columns [] numbers tables = tt
packed-tables made rest picks columns (rows ∷ more) numbers tables =
    (packed-table made rest picks columns rows numbers tables.0, packed-tables made rest picks columns more numbers tables.1)

rows-kept : (rest picks : List ℕ) (ahead : List (List Row)) → total_rows (map (map (packed rest picks)) ahead) ≡ total_rows ahead
rows-kept rest picks [] = refl
rows-kept rest picks (rows ∷ more) = let e = rows-kept rest picks more in omega (arith, e, length-map rows (packed rest picks))

pub packed_tables : (rest picks : List ℕ) (kept : List ColumnType) (before : List Column) (ahead : List (List Row)) → ∥ PackFits rest picks kept before ∥₁
    → LawfulTables before ahead → LawfulTables (map column_of kept) (map (map (packed rest picks)) ahead)
packed_tables rest picks kept before ahead fits lawful =
    subst (λ (cs : List Column). LawfulTables cs (map (map (packed rest picks)) ahead)) (sym (kept-are rest picks kept before fits))
    (record {
      tables = packed-tables (made_name rest kept) rest picks before ahead (numbers-of rest picks kept before fits) lawful.tables;
      rows = let e = rows-kept rest picks ahead in omega (arith, e, lawful.rows);
    })
