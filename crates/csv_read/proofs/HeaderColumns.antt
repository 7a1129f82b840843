-- What the columns of a header are.
use Rattle.std.proofs.Common.{◌≡◌, ◌≢◌, ◌<◌, ◌+◌, ◌∙◌, ◌||◌, ℕ, zero, suc, Bool, true, false, true≢false, List, [], ◌∷◌, length, get_or, All, Option, Some}
use Rattle.std.proofs.Common.{None, Ok, refl, sym, ap, arith, inl, inr}
use Rattle.std.proofs.lemmas.Bool.{cases_Bool}
use Rattle.std.proofs.lemmas.List.{get_or-map, length-map}
use Rattle.std.proofs.lemmas.Slice.Eq.{bytes_eq-Decides}
use Rattle.std.specs.List.{AllPairs}
use Rattle.std.specs.Prelude.{if◌then◌else◌, nat_le}
use Rattle.std.specs.Str.{bytes_eq}
use Rattle.data_types.specs.declared.kind.DataType.{DataType}
use Rattle.data_types.specs.declared.kind.DataType.TheVariants as kinds
use Rattle.data_types.specs.promise.Table.{Column}
use Rattle.csv_model.specs.promise.Header.{Entry, fault_at, first_twice, header_of, is_among, most_columns}
use Rattle.csv_model.specs.Header.{first_not_text, column_for, header_columns, names_fault, twice_fault, unknown_fault}
use Rattle.csv_model.specs.promise.Header.{twice_behind, type_for}
use Rattle.csv_model.specs.promise.Reading.{Record}
use Rattle.csv_model.specs.declared.fault.HeaderFault.{HeaderFault}
use Rattle.csv_model.specs.declared.fault.HeaderFault.TheVariants as faults
use Rattle.stage_plan.specs.declared.types.TypeEntry.{TypeEntry}
use Rattle.stage_plan.specs.promise.Entries.{entries_of}
use Rattle.field_codec.specs.TextColumns.{IsFlatOf, NamesDiffer}

-- ---- names

none-here : (b : Bool) (p : ℕ) (rest : Option ℕ) → (if b then Some p else rest) ≡ None → (b ≡ false) × (rest ≡ None)
none-here true p rest none = let never : ◌≡◌ {A = Option ℕ} (Some p) None = none in cc
none-here false p rest none = (refl, none)

neither : (a b : Bool) → (a || b) ≡ false → (a ≡ false) × (b ≡ false)
neither true b fails = absurd (true≢false fails)
neither false b fails = (refl, fails)

fault-none : (o : Option ℕ) (f : ℕ → HeaderFault) (next : Option HeaderFault) → fault_at o f next ≡ None → (o ≡ None) × (next ≡ None)
fault-none None f next none = (refl, none)
fault-none (Some p) f next none = let never : ◌≡◌ {A = Option HeaderFault} (Some (f (p + 1))) None = none in cc

-- names without a fault are not there twice
pub no-twice : (entries : List Entry) (fields : Record) → names_fault entries fields ≡ None → first_twice fields ≡ None
no-twice entries fields none =
    let text = fault-none (first_not_text fields) (λ n. faults.NotText n) (twice_fault entries fields) none in
    (fault-none (first_twice fields) (λ n. faults.Twice n) (unknown_fault entries fields) text.1).0

-- where no name is there twice, none is one of those before
fresh : (before fields : List (List ℕ)) → twice_behind before fields ≡ None → (k : ℕ) (d : List ℕ) → k < length fields
    → is_among before (get_or fields k d) ≡ false
fresh before [] none k d within = absurd (omega arith)
fresh before (f ∷ fs) none zero d within = (none-here (is_among before f) (length before) (twice_behind (f ∷ before) fs) none).0
fresh before (f ∷ fs) none (suc k) d within =
    let rest = (none-here (is_among before f) (length before) (twice_behind (f ∷ before) fs) none).1 in
    (neither (bytes_eq (get_or fs k d) f) (is_among before (get_or fs k d)) (fresh (f ∷ before) fs rest k d (omega arith))).1

fields-differ : (before fields : List (List ℕ)) → twice_behind before fields ≡ None → AllPairs (λ a b. a ≢ b) fields
fields-differ before [] none i j d below within = absurd (omega arith)
fields-differ before (f ∷ fs) none i zero d below within = absurd (omega arith)
fields-differ before (f ∷ fs) none zero (suc j) d below within =
    let rest = (none-here (is_among before f) (length before) (twice_behind (f ∷ before) fs) none).1 in
    let other = (neither (bytes_eq (get_or fs j d) f) (is_among before (get_or fs j d)) (fresh (f ∷ before) fs rest j d (omega arith))).0 in
    λ same. true≢false (sym ((bytes_eq-Decides (get_or fs j d) f).1 (sym same)) ∙ other)
fields-differ before (f ∷ fs) none (suc i) (suc j) d below within =
    let rest = (none-here (is_among before f) (length before) (twice_behind (f ∷ before) fs) none).1 in
    fields-differ (f ∷ before) fs rest i j d (omega arith) (omega arith)

pub columns-differ : (entries : List Entry) (fields : Record) → first_twice fields ≡ None → NamesDiffer (header_columns entries fields)
columns-differ entries fields none i j d below within =
    let inside : j < length fields = omega (arith, length-map fields (column_for entries)) in
    let first = ap (λ (c : Column). c.name) (get_or-map (column_for entries) fields i d.name d (omega arith)) in
    let second = ap (λ (c : Column). c.name) (get_or-map (column_for entries) fields j d.name d inside) in
    λ same. fields-differ [] fields none i j d.name below inside (sym first ∙ same ∙ second)

-- ---- types

module _ (P : DataType → Type 0) (text : P (kinds.Utf8 false)) where
  type-has : (entries : List TypeEntry) → All (λ e. P e.kind) entries → (name : List ℕ) → P (type_for (entries_of entries) name)
  type-has [] each name = text
  type-has (e ∷ es) each name = elim (cases_Bool (bytes_eq e.name name)) [
    | inl here ↦ rw here (each zero e (omega arith))
    | inr other ↦ rw other (type-has es (λ k d within. each (suc k) d (omega arith)) name)
  ]

  pub columns-have : (entries : List TypeEntry) → All (λ e. P e.kind) entries → (fields : Record)
      → All (IsFlatOf P) (header_columns (entries_of entries) fields)
  columns-have entries each [] k d within = absurd (omega arith)
  columns-have entries each (f ∷ fs) zero d within = (type_for (entries_of entries) f, refl, type-has entries each f)
  columns-have entries each (f ∷ fs) (suc k) d within = columns-have entries each fs k d (omega arith)

-- ---- the header

pub header-found : (entries : List Entry) (records rest : List Record) (fields : Record) → records ≡ fields ∷ rest
    → nat_le (length fields) most_columns ≡ true
    → names_fault entries fields ≡ None
    → header_of entries records ≡ Ok (header_columns entries fields)
header-found entries records rest fields first few none = rw (first, few, none) refl
