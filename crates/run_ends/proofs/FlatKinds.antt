-- Which bytes the offsets of a flat column reach.
use Rattle.std.proofs.Common.{◌≡◌, ℕ, ◌^◌, ◌-◌, Bool, true, false, Option, None, Some, refl, arith}
use Rattle.std.specs.Prelude.{if◌then◌else◌, nat_lt, is_some, not, List, ◌&&◌}
use Rattle.std.proofs.lemmas.Bool.Decides.{nat_tests}
use Rattle.data_types.specs.promise.FieldText.{Form, form_of}
use Rattle.data_types.specs.declared.kind.DataType.{DataType}
use Rattle.data_types.specs.declared.kind.DataType.TheVariants as kinds
use Rattle.data_types.specs.promise.Value.{Value, byte_total}
use Rattle.arr_export.specs.ArrayTrees.{flat_type}
use Rattle.col_build.specs.promise.Encoding.{are_within, is_by_offsets, is_wide}
use Rattle.col_build.specs.Encoding.{Fits, HasForm, are_bounded}
use Rattle.run_ends.specs.declared.code_fault.CodeFault.TheVariants.{WrongKind, TooLong}
use Rattle.run_ends.specs.CodeFaults.{decode_fault, is_narrow, most_bytes}

-- ---- which bytes are reached

pub narrow-within : (kind : DataType) (total : ℕ) → (is_narrow kind && nat_lt most_bytes total) ≡ false → are_within (is_wide kind) (form_of kind) total ≡ true
narrow-within (kinds.Utf8 true) total e = refl
narrow-within (kinds.Utf8 false) total e = grind (arith, nat_tests)
narrow-within (kinds.Binary true) total e = refl
narrow-within (kinds.Binary false) total e = grind (arith, nat_tests)
narrow-within (kinds.Decimal precision scale true) total e = refl
narrow-within (kinds.Decimal precision scale false) total e = refl
narrow-within _ total e = refl

pub wide-bounded : (form : Option Form) (total : ℕ) → nat_lt (2 ^ 63 - 1) total ≡ false → are_bounded form total ≡ true
wide-bounded None total e = refl
wide-bounded (Some form) total e = pick (is_by_offsets form)
  where
    pick : (b : Bool) → (if b then nat_lt total (2 ^ 63) else true) ≡ true
    pick true = grind (arith, nat_tests)
    pick false = refl

-- ---- a column that has an encoding

form-some : (form : Option Form) → HasForm form → is_some form ≡ true
form-some None has = absurd has
form-some (Some form) has = refl

within-narrow : (kind : DataType) (total : ℕ) → are_within (is_wide kind) (form_of kind) total ≡ true → (is_narrow kind && nat_lt most_bytes total) ≡ false
within-narrow (kinds.Utf8 true) total e = refl
within-narrow (kinds.Utf8 false) total e = grind (arith, nat_tests)
within-narrow (kinds.Binary true) total e = refl
within-narrow (kinds.Binary false) total e = grind (arith, nat_tests)
within-narrow _ total e = refl

pub fits-free : (kind : DataType) (values : List Value) → Fits kind values → decode_fault (flat_type kind None) values ≡ None
fits-free kind values fits =
    (λ j. if not (form-some (form_of kind) fits.flat j) then Some WrongKind
    else if within-narrow kind (byte_total values) fits.small j then Some TooLong else None)
