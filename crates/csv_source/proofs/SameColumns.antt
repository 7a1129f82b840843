-- The columns of a text once more are the same.
use Rattle.std.proofs.Common.{◌≡◌, ◌<◌, ◌∙◌, ℕ, zero, suc, List, [], ◌∷◌, map, All, refl, sym, ap, subst, arith}
use Rattle.std.proofs.lemmas.List.{get_or-map, length-map}
use Rattle.csv_source.proofs.PlainKinds.{IsPlain}
use Rattle.data_types.specs.ColumnForms.{KindsOk}
use Rattle.data_types.specs.ColumnView.{column_of, kind_of, members_of}
use Rattle.data_types.specs.promise.Table.{Column, Kind, Flat, Dict, Columns}
use Rattle.data_types.specs.declared.kind.ColKind.{ColKind, Flat as CodeFlat, Dict as CodeDict, Columns'}
use Rattle.data_types.specs.declared.kind.ColumnType.{ColumnType}
use Rattle.data_types.specs.declared.kind.DataType.{DataType}
use Rattle.field_codec.specs.TextColumns.{AreProper}

pub copied-kinds : (columns : List ColumnType) → AreProper (map column_of columns) → All (λ c. KindsOk (kind_of c.kind)) columns
copied-kinds columns proper k d small =
    let there = proper k (column_of d) (subst (λ n. k < n) (sym (length-map columns column_of)) small) in
    subst (λ (c : Column). KindsOk c.kind) (get_or-map column_of columns k d (column_of d) small) (subst KindsOk (sym there.1) there.2)

kind-back : (a b : ColKind) (kind : DataType) → kind_of a ≡ Flat kind → kind_of b ≡ Flat kind → a ≡ b
kind-back (CodeFlat d) (CodeFlat e) kind x y =
    let one : ◌≡◌ {A = Kind} (Flat d) (Flat kind) = x in
    let other : ◌≡◌ {A = Kind} (Flat e) (Flat kind) = y in
    let same : d ≡ e = cc in ap (λ (k : DataType). CodeFlat k) same
kind-back (CodeFlat d) (CodeDict e) kind x y = let never : ◌≡◌ {A = Kind} (Dict e) (Flat kind) = y in absurd (cc)
kind-back (CodeFlat d) (Columns' shape row) kind x y = let never : ◌≡◌ {A = Kind} (Columns (members_of row)) (Flat kind) = y in absurd (cc)
kind-back (CodeDict d) b kind x y = let never : ◌≡◌ {A = Kind} (Dict d) (Flat kind) = x in absurd (cc)
kind-back (Columns' shape row) b kind x y = let never : ◌≡◌ {A = Kind} (Columns (members_of row)) (Flat kind) = x in absurd (cc)

abbrev of : List ℕ → ColKind → ColumnType
of name kind = record { name = name; kind = kind }

same-column : (a b : ColumnType) → a.name ≡ b.name → a.kind ≡ b.kind → a ≡ b
same-column a b names kinds = ap (λ (name : List ℕ). of name a.kind) names ∙ ap (of b.name) kinds

-- columns of plain values are known by what contracts see of them
pub columns-back : (ours others : List ColumnType) → All IsPlain (map column_of ours) → map column_of ours ≡ map column_of others → ours ≡ others
columns-back [] [] plain is = refl
columns-back [] (b ∷ others) plain is = let never : ◌≡◌ {A = List Column} [] (column_of b ∷ map column_of others) = is in absurd (cc)
columns-back (a ∷ ours) [] plain is = let never : ◌≡◌ {A = List Column} (column_of a ∷ map column_of ours) [] = is in absurd (cc)
columns-back (a ∷ ours) (b ∷ others) plain is =
    let both : ◌≡◌ {A = List Column} (column_of a ∷ map column_of ours) (column_of b ∷ map column_of others) = is in
    let one : column_of a ≡ column_of b = cc in
    let rest : map column_of ours ≡ map column_of others = cc in
    let p = plain zero (column_of a) (omega arith) in
    let kinds : a.kind ≡ b.kind = kind-back a.kind b.kind p.kind p.is (ap (λ (c : Column). c.kind) (sym one) ∙ p.is) in
    let here : a ≡ b = same-column a b (ap (λ (c : Column). c.name) one) kinds in
    ap (λ (c : ColumnType). c ∷ ours) here
    ∙ ap (λ (cs : List ColumnType). b ∷ cs) (columns-back ours others (λ k d small. plain (suc k) d (omega (arith, small))) rest)
