-- Where there are too many rows, or too many bytes in a column, and where neither.
use Rattle.std.proofs.Common.{◌≡◌, ◌∙◌, ◌≤◌, ◌<◌, ◌+◌, ℕ, zero, suc, Bool, true, false, List, [], ◌∷◌, length, get_or, Option, None, refl, ap, sym, subst, inl, inr, arith}
use Rattle.std.specs.Prelude.{◌⊎◌, ◌||◌, nat_lt, not}
use Rattle.std.specs.List.{list_any}
use Rattle.std.proofs.lemmas.Bool.{lt-ltb}
use Rattle.std.proofs.lemmas.Bool.Decides.{nat_tests}
use Rattle.data_types.specs.promise.Parts.{column_values}
use Rattle.data_types.specs.promise.Table.{Row}
use Rattle.data_types.specs.declared.kind.DataType.{DataType}
use Rattle.data_types.specs.declared.kind.DataType.TheVariants as kinds
use Rattle.tree_model.specs.promise.TreeParts.{children_of}
use Rattle.raw_array.specs.promise.Members.{ArrayTree}
use Rattle.data_types.specs.promise.KindTrees.{KindTree}
use Rattle.layout_rules.specs.promise.Values.{rows_of}
use Rattle.list_cols.specs.declared.fault.ListFault.{ListFault}
use Rattle.list_cols.specs.declared.fault.ListFault.TheVariants.{WrongKind, TooLong, NoMemory}
use Rattle.list_cols.specs.promise.Exploded.{exploded_kinds}
use Rattle.list_cols.specs.promise.Faults.{fault_of, is_too_long, is_too_wide, most_named}
use Rattle.list_cols.specs.Faults.{IsRefusedBy}
use Rattle.list_cols.specs.promise.FlatTables.{columns_from}
use Rattle.list_cols.specs.FlatTables.{flat_column}
use Rattle.list_cols.specs.promise.Nested.{Explode}
use Rattle.list_cols.specs.Reaching.{IsLong}
use Rattle.list_cols.specs.Spreading.{AllFit, spread_values}
use Rattle.list_cols.proofs.Chunks.{many-kinds}

or-true : (b : Bool) → (b || true) ≡ true
or-true true = refl
or-true false = refl

one-wide : (types : List DataType) (k : ℕ) (rows : List Row) (j : ℕ) → j < length types
    → is_too_wide (flat_column (get_or types j kinds.Null) (column_values (k + j) rows)) ≡ true → list_any is_too_wide (columns_from k types rows) ≡ true
one-wide [] k rows j lt e = absurd (omega (arith, lt))
one-wide (kind ∷ types) k rows zero lt e =
    let here : k ≡ k + 0 = omega arith in
    ap (λ b. b || list_any is_too_wide (columns_from (suc k) types rows)) (ap (λ n. is_too_wide (flat_column kind (column_values n rows))) here ∙ e)
one-wide (kind ∷ types) k rows (suc j) lt e =
    let place : suc k + j ≡ k + suc j = omega arith in
    let rest = one-wide types (suc k) rows j (omega (arith, lt)) (ap (λ n. is_too_wide (flat_column (get_or types j kinds.Null) (column_values n rows))) place ∙ e) in
    ap (λ b. is_too_wide (flat_column kind (column_values k rows)) || b) rest ∙ or-true (is_too_wide (flat_column kind (column_values k rows)))

none-wide : (types : List DataType) (k : ℕ) (rows : List Row)
    → ((j : ℕ) → j < length types → is_too_wide (flat_column (get_or types j kinds.Null) (column_values (k + j) rows)) ≡ false)
    → list_any is_too_wide (columns_from k types rows) ≡ false
none-wide [] k rows at = refl
none-wide (kind ∷ types) k rows at =
    let here : k ≡ k + 0 = omega arith in
    let first = ap (λ n. is_too_wide (flat_column kind (column_values n rows))) here ∙ at 0 (omega arith) in
    let rest = none-wide types (suc k) rows (λ j lt.
    let place : suc k + j ≡ k + suc j = omega arith in
    ap (λ n. is_too_wide (flat_column (get_or types j kinds.Null) (column_values n rows))) place ∙ at (suc j) (omega (arith, lt))) in
    λ i. first i || rest i

module _ (column : ℕ) (typed : KindTree) (array : ArrayTree) where
  pub too-many : most_named < length (Explode column (rows_of typed array)) → is_too_long (exploded_kinds column typed) (Explode column (rows_of typed array)) ≡ true
  too-many more =
      ap (λ b. b || list_any is_too_wide (columns_from 0 (exploded_kinds column typed) (Explode column (rows_of typed array))))
      (lt-ltb most_named (length (Explode column (rows_of typed array))) more)

  pub too-wide : (k : ℕ) → k < length (children_of typed) → IsLong (get_or (exploded_kinds column typed) k kinds.Null) (spread_values column typed array k) TooLong
      → is_too_long (exploded_kinds column typed) (Explode column (rows_of typed array)) ≡ true
  too-wide k lt long =
      let rows = Explode column (rows_of typed array) in
      let here : 0 + k ≡ k = omega arith in
      ap (λ b. nat_lt most_named (length rows) || b)
      (one-wide (exploded_kinds column typed) 0 rows k (omega (arith, lt, many-kinds column typed))
      (ap (λ n. is_too_wide (flat_column (get_or (exploded_kinds column typed) k kinds.Null) (column_values n rows))) here ∙ ap not long))
      ∙ or-true (nat_lt most_named (length rows))

  pub short-enough : length (Explode column (rows_of typed array)) ≤ most_named → AllFit column typed array
      → is_too_long (exploded_kinds column typed) (Explode column (rows_of typed array)) ≡ false
  short-enough few fits =
      let rows = Explode column (rows_of typed array) in
      let test : nat_lt most_named (length rows) ≡ false = grind (arith, nat_tests, few) in
      let none = none-wide (exploded_kinds column typed) 0 rows (λ k lt.
      let here : 0 + k ≡ k = omega arith in
      ap (λ n. is_too_wide (flat_column (get_or (exploded_kinds column typed) k kinds.Null) (column_values n rows))) here
      ∙ ap not (fits k (omega (arith, lt, many-kinds column typed))).small) in
      λ i. test i || none i

-- ---- what an answer says

abbrev pub IsEnough : Bool → ListFault → Type 0
IsEnough long fault = (fault ≡ NoMemory) ⊎ ((fault ≡ TooLong) × (long ≡ true))

long-fault : (long : Bool) (fault : ListFault) → IsEnough long fault → IsRefusedBy (fault_of None long) fault
long-fault long fault (inl e) = subst (IsRefusedBy (fault_of None long)) (sym e) tt
long-fault long fault (inr e) = subst (IsRefusedBy (fault_of None long)) (sym e.0) (ap (fault_of None) e.1)

pub refused-by : (wrong : Option ℕ) (long : Bool) (fault : ListFault) → wrong ≡ None → IsEnough long fault → IsRefusedBy (fault_of wrong long) fault
refused-by wrong long fault none is = subst (λ (w : Option ℕ). IsRefusedBy (fault_of w long) fault) (sym none) (long-fault long fault is)

-- a column's fault is that of too many bytes, or memory ran out
pub wide-fault : (column : ℕ) (typed : KindTree) (array : ArrayTree) (k : ℕ) (fault : ListFault) → k < length (children_of typed)
    → IsLong (get_or (exploded_kinds column typed) k kinds.Null) (spread_values column typed array k) fault
    → IsEnough (is_too_long (exploded_kinds column typed) (Explode column (rows_of typed array))) fault
wide-fault column typed array k (WrongKind place) lt long = absurd long
wide-fault column typed array k TooLong lt long = inr (refl, too-wide column typed array k lt long)
wide-fault column typed array k NoMemory lt long = inl refl
