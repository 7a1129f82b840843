-- What one reading of a format makes of the type behind a name.
use Rattle.std.proofs.Common.{◌≡◌, ◌∙◌, ◌⊎◌, true, false, true≢false, List, ℕ, Option, Some, None, Result, Ok, Err, ap, sym, refl, inl, inr}
use Rattle.data_types.specs.declared.kind.DataType.{DataType}
use Rattle.fmt_string.specs.declared.fault.FormatRule.{FormatRule}
use Rattle.fmt_string.specs.declared.fault.FormatFault.{FormatFault}
use Rattle.fmt_string.specs.declared.fault.FormatFault.TheVariants.{At, NoMemory}
use Rattle.fmt_string.specs.Answer.{Reads}
use Rattle.data_types.specs.promise.Kinds.{is_column_type}
use Rattle.stage_plan.specs.promise.Types.{TypeReads}

-- what `read_format` says of the other readings of its text
abbrev pub Only : List ℕ → Result DataType FormatFault → Type 0
Only format result = (read : Result DataType FormatFault) → Reads format read → (result ≡ read) ⊎ (result ≡ Err NoMemory)

same_kind : (result : Result DataType FormatFault) (kind other : DataType) → result ≡ Ok kind → (result ≡ Ok other) ⊎ (result ≡ Err NoMemory) → other ≡ kind
same_kind result kind other is (inl same) = cc
same_kind result kind other is (inr out) = cc

no_fault : (result : Result DataType FormatFault) (kind : DataType) (rule : FormatRule) (place : ℕ) → result ≡ Ok kind
    → (result ≡ Err (At rule place)) ⊎ (result ≡ Err NoMemory) → ⊥
no_fault result kind rule place is (inl same) = cc
no_fault result kind rule place is (inr out) = cc

no_kind : (result : Result DataType FormatFault) (kind : DataType) (rule : FormatRule) (place : ℕ) → result ≡ Err (At rule place)
    → (result ≡ Ok kind) ⊎ (result ≡ Err NoMemory) → ⊥
no_kind result kind rule place is (inl same) = cc
no_kind result kind rule place is (inr out) = cc

module _ (format : List ℕ) (result : Result DataType FormatFault) (only : Only format result) where
  pub column : (kind : DataType) → result ≡ Ok kind → is_column_type kind ≡ true → (other : Option DataType) → TypeReads format other → other ≡ Some kind
  column kind is allowed (Some k) reads = ap (λ (x : DataType). Some x) (same_kind result kind k is (only (Ok k) reads.0))
  column kind is allowed None (inl (rule, place, fault)) = absurd (no_fault result kind rule place is (only (Err (At rule place)) fault))
  column kind is allowed None (inr (k, spelled, other)) =
      absurd (true≢false (sym allowed ∙ sym (ap is_column_type (same_kind result kind k is (only (Ok k) spelled))) ∙ other))

  pub no_column : (kind : DataType) → result ≡ Ok kind → is_column_type kind ≡ false → (other : Option DataType) → TypeReads format other → other ≡ None
  no_column kind is out None reads = refl
  no_column kind is out (Some k) reads =
      absurd (true≢false (sym reads.1 ∙ ap is_column_type (same_kind result kind k is (only (Ok k) reads.0)) ∙ out))

  pub refused : (rule : FormatRule) (place : ℕ) → result ≡ Err (At rule place) → (other : Option DataType) → TypeReads format other → other ≡ None
  refused rule place is None reads = refl
  refused rule place is (Some k) reads = absurd (no_kind result k rule place is (only (Ok k) reads.0))
