-- The columns of a header are plain values.
use Rattle.std.proofs.Common.{◌≡◌, ◌<◌, zero, suc, List, [], ◌∷◌, map, All, sym, subst, ap, refl, arith}
use Rattle.std.proofs.lemmas.List.{get_or-map, length-map}
use Rattle.data_types.specs.ColumnForms.{KindsOk}
use Rattle.data_types.specs.ColumnView.{column_of, kind_of}
use Rattle.data_types.specs.promise.Table.{Column}
use Rattle.data_types.specs.declared.kind.ColumnType.{ColumnType}
use Rattle.field_codec.specs.TextColumns.{AreProper}
use Rattle.stages.specs.Structs.{column_structs, structs}

-- the numbers of their types are in their ranges
pub proper-kinds : (columns : List ColumnType) → AreProper (map column_of columns) → All (λ c. KindsOk (kind_of c.kind)) columns
proper-kinds columns proper k d small =
    let there = proper k (column_of d) (subst (λ n. k < n) (sym (length-map columns column_of)) small) in
    subst (λ c. KindsOk c.kind) (get_or-map column_of columns k d (column_of d) small) (subst KindsOk (sym there.1) there.2)

-- none is a struct
pub proper-flat : (columns : List Column) → AreProper columns → column_structs columns ≡ 0
proper-flat [] proper = refl
proper-flat (c ∷ cs) proper =
    let first = ap structs (proper zero c (omega arith)).1 in
    let rest = proper-flat cs (λ k d small. proper (suc k) d (omega (arith, small))) in
    omega (arith, first, rest)
