-- The laws of picked, packed and unpacked columns, over the columns of a table.
use Rattle.std.proofs.Common.{◌≡◌, ◌∙◌, ℕ, zero, suc, ◌+◌, ◌<◌, List, [], ◌∷◌, ◌++◌, length, map, get_or, take, drop, refl, ap, sym, subst, arith}
use Rattle.std.specs.List.{All}
use Rattle.std.proofs.lemmas.List.{length-map}
use Rattle.data_types.specs.promise.ColumnView.{members}
use Rattle.data_types.specs.promise.Table.{Column, Columns as StructOf, Members}
use Rattle.data_types.specs.promise.Value.{Null}
use Rattle.tree_model.specs.promise.TreeData.{Released}
use Rattle.raw_array.specs.promise.Members.{ArrayTree}
use Rattle.layout_rules.specs.promise.Values.{rows_of}
use Rattle.layout_rules.specs.promise.Walk.{ChunkOk}
use Rattle.data_types.specs.promise.KindTrees.{KindTree}
use Rattle.data_types.specs.promise.ColumnKinds.{type_of_columns, type_of_kind}
use Rattle.data_types.specs.ColumnKinds.{table_type, type_of_column, types_of_columns}
use Rattle.arr_move.specs.TreeActs.{Columns, FitParentWindow, InRange}
use Rattle.array_laws.proofs.ColumnForm.{chunk-of, chunk-packed, fit-of, range-of, rows-packed, rows-picked}
use Rattle.array_laws.proofs.ColumnTypes.{struct-type, type-at, type-fields, types-live, types-picked}
use Rattle.array_laws.proofs.PackedColumns.{unpack-chunk, unpack-rows}
use Rattle.data_types.specs.promise.Parts.{member_columns, picked}
use Rattle.data_types.specs.Parts.{packed, packed_columns, unpacked, unpacked_columns, AreWithin, IsFields}
use Rattle.array_laws.specs.Picking.{AreLive, Packed, Unpacked, packed_types, unpacked_types}

-- ---- the types of the new columns
pub within-types : (columns : List Column) (picks : List ℕ) → AreWithin (length columns) picks → AreWithin (length (types_of_columns columns)) picks
within-types columns picks within = λ k lt. let e = within k lt in let f = length-map columns type_of_column in omega (arith, e, f)

map-append : {X Y : Type 0} → (f : X → Y) (xs ys : List X) → map f (xs ++ ys) ≡ map f xs ++ map f ys
map-append f [] ys = refl
map-append f (x ∷ xs) ys = ap (λ zs. f x ∷ zs) (map-append f xs ys)

map-take : {X Y : Type 0} → (f : X → Y) (n : ℕ) (xs : List X) → map f (take n xs) ≡ take n (map f xs)
map-take f zero xs = refl
map-take f (suc n) [] = refl
map-take f (suc n) (x ∷ xs) = ap (λ ys. f x ∷ ys) (map-take f n xs)

map-drop : {X Y : Type 0} → (f : X → Y) (n : ℕ) (xs : List X) → map f (drop n xs) ≡ drop n (map f xs)
map-drop f zero xs = refl
map-drop f (suc n) [] = refl
map-drop f (suc n) (x ∷ xs) = map-drop f n xs

pub packed-types : (columns : List Column) (none : Column) (name rest picks : List ℕ) → AreWithin (length columns) rest → AreWithin (length columns) picks
    → types_of_columns (packed_columns none name rest picks columns) ≡ packed_types rest picks (types_of_columns columns)
packed-types columns none name rest picks a b =
    map-append type_of_column (picked none rest columns) (record { name = name; kind = StructOf (members (picked none picks columns)) } ∷ [])
    ∙ (λ t. types-picked columns none rest a t ++ (struct-type (picked none picks columns) ∙ ap table_type (types-picked columns none picks b)) t ∷ [])

pub unpacked-types : (columns : List Column) (place : ℕ) (fields : Members)
    → types_of_columns (unpacked_columns place fields columns) ≡ unpacked_types place (types_of_columns (member_columns fields)) (types_of_columns columns)
unpacked-types columns place fields =
    map-append type_of_column (take place columns ++ member_columns fields) (drop (place + 1) columns)
    ∙ ap (λ ts. ts ++ map type_of_column (drop (place + 1) columns)) (map-append type_of_column (take place columns) (member_columns fields))
    ∙ (λ t. map-take type_of_column place columns t ++ types_of_columns (member_columns fields) ++ map-drop type_of_column (place + 1) columns t)

struct-at : (columns : List Column) (none : Column) (place : ℕ) (fields : Members) → place < length columns
    → (get_or columns place none).kind ≡ StructOf fields
    → get_or (types_of_columns columns) place Released ≡ table_type (types_of_columns (member_columns fields))
struct-at columns none place fields lt is = sym (type-at columns none place lt) ∙ ap type_of_kind is ∙ type-fields fields

few : (columns : List Column) (place : ℕ) → place < length columns → place < length (types_of_columns columns)
few columns place lt = let f = length-map columns type_of_column in omega (arith, lt, f)

-- ---- the laws, over the columns of a table
module _ (columns : List Column) (t : ArrayTree) (ok : ChunkOk (type_of_columns columns) t) where
  abbrev types : List KindTree
  types = types_of_columns columns

  live : AreLive types
  live = types-live columns

  module _ (picks : List ℕ) (within : AreWithin (length columns) picks) where
    within_types : AreWithin (length types) picks
    within_types = within-types columns picks within

    pub select-range : InRange t picks
    select-range = range-of types t picks ok.0 within_types

    pub select-fit : FitParentWindow t picks
    select-fit = fit-of types t live ok.0 picks within_types

    pub select-chunk : (none : Column) → ChunkOk (type_of_columns (picked none picks columns)) (Columns t picks)
    select-chunk none =
        subst (λ some. ChunkOk (table_type some) (Columns t picks)) (sym (types-picked columns none picks within))
        (chunk-of types t live ok.0 picks within_types)

    pub select-rows : (none : Column)
        → rows_of (type_of_columns (picked none picks columns)) (Columns t picks) ≡ map (picked Null picks) (rows_of (type_of_columns columns) t)
    select-rows none =
        ap (λ some. rows_of (table_type some) (Columns t picks)) (types-picked columns none picks within)
        ∙ rows-picked types t live ok.0 picks within_types

  module _ (none : Column) (name rest picks : List ℕ) (a : AreWithin (length columns) rest) (b : AreWithin (length columns) picks) where
    pub pack-chunk : ChunkOk (type_of_columns (packed_columns none name rest picks columns)) (Packed t rest picks)
    pack-chunk =
        subst (λ some. ChunkOk (table_type some) (Packed t rest picks)) (sym (packed-types columns none name rest picks a b))
        (chunk-packed types t live ok.0 rest picks (within-types columns rest a) (within-types columns picks b))

    pub pack-rows : rows_of (type_of_columns (packed_columns none name rest picks columns)) (Packed t rest picks)
        ≡ map (packed rest picks) (rows_of (type_of_columns columns) t)
    pack-rows =
        ap (λ some. rows_of (table_type some) (Packed t rest picks)) (packed-types columns none name rest picks a b)
        ∙ rows-packed types t live ok.0 rest picks (within-types columns rest a) (within-types columns picks b)

  module _ (none : Column) (place : ℕ) (fields : Members) (lt : place < length columns) (is : (get_or columns place none).kind ≡ StructOf fields) where
    abbrev inner : List KindTree
    inner = types_of_columns (member_columns fields)

    inner-live : AreLive inner
    inner-live = types-live (member_columns fields)

    pub unpack-table : ChunkOk (type_of_columns (unpacked_columns place fields columns)) (Unpacked t place)
    unpack-table =
        subst (λ some. ChunkOk (table_type some) (Unpacked t place)) (sym (unpacked-types columns place fields))
        (unpack-chunk types inner t place live inner-live ok.0 (few columns place lt) (struct-at columns none place fields lt is))

    pub unpack-table_rows : All (λ row. IsFields (get_or row place Null)) (rows_of (type_of_columns columns) t)
        → rows_of (type_of_columns (unpacked_columns place fields columns)) (Unpacked t place) ≡ map (unpacked place) (rows_of (type_of_columns columns) t)
    unpack-table_rows all =
        ap (λ some. rows_of (table_type some) (Unpacked t place)) (unpacked-types columns place fields)
        ∙ unpack-rows types inner t place live inner-live ok.0 (few columns place lt) (struct-at columns none place fields lt is) all
