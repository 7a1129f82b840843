-- The laws of columns that are picked and packed, over any tree.
use Rattle.std.proofs.Common.{◌≡◌, ℕ, List, length, map, arith}
use Rattle.data_types.specs.promise.Value.{Null}
use Rattle.tree_model.specs.promise.TreeData.{Released}
use Rattle.raw_array.specs.promise.Members.{ArrayTree}
use Rattle.data_types.specs.promise.KindTrees.{KindTree}
use Rattle.layout_rules.specs.promise.Values.{rows_of}
use Rattle.layout_rules.specs.promise.Walk.{ChunkOk, LayoutOk}
use Rattle.data_types.specs.ColumnKinds.{table_type}
use Rattle.arr_move.specs.TreeActs.{Columns, FitParentWindow, InRange}
use Rattle.array_laws.proofs.StructParts.{children-are, of-struct}
use Rattle.array_laws.proofs.PackedColumns.{pack-chunk, pack-rows}
use Rattle.array_laws.proofs.PickedColumns.{picked-chunk, picked-fit, picked-rows}
use Rattle.data_types.specs.promise.Parts.{picked}
use Rattle.data_types.specs.Parts.{packed, AreWithin}
use Rattle.array_laws.specs.Picking.{AreLive, Packed, packed_types}

pub range-of : (types : List KindTree) (t : ArrayTree) (picks : List ℕ) → LayoutOk (table_type types) t → AreWithin (length types) picks → InRange t picks
range-of types t picks ok within = λ k lt. let e = within k lt in let f = children-are types t ok in omega (arith, e, f)

module _ (types : List KindTree) (t : ArrayTree) (live : AreLive types) (ok : LayoutOk (table_type types) t) where
  module _ (picks : List ℕ) (within : AreWithin (length types) picks) where
    pub fit-of : FitParentWindow t picks
    fit-of = of-struct types (λ t. FitParentWindow t picks) (λ m ts d ok. picked-fit types m ts d live ok picks within) t ok

    pub chunk-of : ChunkOk (table_type (picked Released picks types)) (Columns t picks)
    chunk-of =
        of-struct types (λ t. ChunkOk (table_type (picked Released picks types)) (Columns t picks))
        (λ m ts d ok. picked-chunk types m ts d live ok picks within) t ok

    pub rows-picked : rows_of (table_type (picked Released picks types)) (Columns t picks) ≡ map (picked Null picks) (rows_of (table_type types) t)
    rows-picked =
        of-struct types (λ t. rows_of (table_type (picked Released picks types)) (Columns t picks) ≡ map (picked Null picks) (rows_of (table_type types) t))
        (λ m ts d ok. picked-rows types m ts d live ok picks within) t ok

  module _ (rest picks : List ℕ) (a : AreWithin (length types) rest) (b : AreWithin (length types) picks) where
    pub chunk-packed : ChunkOk (table_type (packed_types rest picks types)) (Packed t rest picks)
    chunk-packed =
        of-struct types (λ t. ChunkOk (table_type (packed_types rest picks types)) (Packed t rest picks))
        (λ m ts d ok. pack-chunk types m ts d live ok rest picks a b) t ok

    pub rows-packed : rows_of (table_type (packed_types rest picks types)) (Packed t rest picks) ≡ map (packed rest picks) (rows_of (table_type types) t)
    rows-packed =
        of-struct types
        (λ t. rows_of (table_type (packed_types rest picks types)) (Packed t rest picks) ≡ map (packed rest picks) (rows_of (table_type types) t))
        (λ m ts d ok. pack-rows types m ts d live ok rest picks a b) t ok
