-- A value that a field spells is one that the field's column takes.
use Rattle.std.proofs.Common.{◌≡◌, ℕ, ◌+◌, ◌*◌, ◌/◌, ◌^◌, ◌<◌, ◌≤◌, Bool, true, false, List, [], ◌∷◌, length, Option, Some, None, refl, sym, subst, arith}
use Rattle.std.proofs.Math.Nat.{pow-le-pow_right}
use Rattle.std.proofs.lemmas.Bool.{and_parts, eqb-true, lt-ltb}
use Rattle.std.proofs.lemmas.Bool.Decides.{nat_tests}
use Rattle.std.specs.List.{list_all}
use Rattle.std.specs.Option.{option_map, option_and_then}
use Rattle.std.specs.Prelude.{ℤ, pos, negsuc, neg_ℤ, nat_abs, nat_lt, not, ◌==◌, ◌&&◌, if◌then◌else◌}
use Rattle.std.specs.Char.{is_ascii_hexdigit}
use Rattle.std.specs.Str.{bytes_eq, is_utf8}
use Rattle.std.specs.Str.Parse.{digits_value, signed_digits_value, starts_with_minus, without_leading_sign}
use Rattle.col_build.specs.promise.Encoding.{is_by_offsets, is_wide, is_within}
use Rattle.col_build.specs.Encoding.{fault_if, push_fault}
use Rattle.col_build.specs.declared.item.PushFault.{PushFault}
use Rattle.col_build.specs.declared.item.PushFault.TheVariants.{WrongKind, OutOfRange, NotText}
use Rattle.data_types.proofs.FieldValues.{read_is_value}
use Rattle.data_types.specs.declared.kind.DataType.{DataType}
use Rattle.data_types.specs.promise.FieldText.{Form, Truths, Wholes, FloatBits, Text, HexBytes, SizedHex, Decimals}
use Rattle.data_types.specs.FieldText.{IsFlatForm, IsOfSome, IsSomeFlat, IsValueOf}
use Rattle.data_types.specs.promise.FieldText.{form_of, hex_bytes, in_range, is_numeral, read_field, read_form, read_text, read_unscaled}
use Rattle.data_types.specs.promise.Value.{Value, Null, Truth, Whole, Bits, Bytes, byte_total, bytes_of}

-- ---- what an answer comes from

same-some : {X : Type 0} (x v : X) → ◌≡◌ {A = Option X} (Some x) (Some v) → x ≡ v
same-some x v e = cc

some-if : {X : Type 0} (b : Bool) (x v : X) → ◌≡◌ {A = Option X} (if b then Some x else None) (Some v) → (b ≡ true) × (x ≡ v)
some-if true x v e = (refl, same-some x v e)
some-if false x v e = absurd cc

some-then : {X : Type 0} (b : Bool) (o : Option X) (v : X) → ◌≡◌ {A = Option X} (if b then o else None) (Some v) → (b ≡ true) × (o ≡ Some v)
some-then true o v e = (refl, e)
some-then false o v e = absurd cc

some-map : {X Y : Type 0} (f : X → Y) (o : Option X) (v : Y) → option_map f o ≡ Some v → (x : X) × (o ≡ Some x) × (f x ≡ v)
some-map f None v e = absurd cc
some-map f (Some x) v e = (x, refl, same-some (f x) v e)

some-and : {X Y : Type 0} (f : X → Option Y) (o : Option X) (v : Y) → option_and_then f o ≡ Some v → (x : X) × (o ≡ Some x) × (f x ≡ Some v)
some-and f None v e = absurd cc
some-and f (Some x) v e = (x, refl, e)

-- ---- sizes

hex-long : (text bytes : List ℕ) → hex_bytes text ≡ Some bytes → length text ≡ 2 * length bytes
hex-long [] bytes e = subst (λ (bs : List ℕ). 0 ≡ 2 * length bs) (same-some [] bytes e) refl
hex-long (digit ∷ []) bytes e = absurd cc
hex-long (high ∷ low ∷ rest) bytes e =
    let taken = some-then (is_ascii_hexdigit high && is_ascii_hexdigit low) _ bytes e in
    let mapped = some-map (λ (bs : List ℕ). digits_value 16 (high ∷ low ∷ []) ∷ bs) (hex_bytes rest) bytes taken.1 in
    let more = hex-long rest mapped.0 mapped.1 in
    subst (λ (bs : List ℕ). length (high ∷ low ∷ rest) ≡ 2 * length bs) mapped.2 (omega (arith, more))

-- a decimal is stored in 128 bits
power-38 : (precision : ℕ) → precision ≤ 38 → 10 ^ precision ≤ 10 ^ 38
power-38 precision few = pow-le-pow_right {n = 10} (omega arith) {i = precision} {j = 38} few

wide-range : (number : ℤ) (precision : ℕ) → precision ≤ 38 → nat_abs number < 10 ^ precision → in_range 128 true number ≡ true
wide-range (pos n) precision few small = lt-ltb n (2 ^ 127) (omega (arith, small, power-38 precision few))
wide-range (negsuc n) precision few small = lt-ltb n (2 ^ 127) (omega (arith, small, power-38 precision few))

-- ---- forms

no-fault : (is storable near text : Bool) → is ≡ true → storable ≡ true → near ≡ true → text ≡ true
    → (if not is then Some WrongKind else if not (storable && near) then Some OutOfRange else if not text then Some NotText else None) ≡ None
no-fault is storable near text a b c d = rw (a, b, c, d) refl

near-enough : (wide : Bool) (form : Form) (total : ℕ) → total < 2 ^ 31 → is_within wide form total ≡ true
near-enough true form total small = refl
near-enough false form total small =
    elim (is_by_offsets form) as (λ b. (if b then nat_lt total (2 ^ 31) else true) ≡ true) [ true ↦ lt-ltb total (2 ^ 31) small | false ↦ refl ]

-- a value without a fault, which takes no more bytes than its field
pub record Taken (fault : Option PushFault) (size most : ℕ) : Type 0 where
  pub none : fault ≡ None
  pub short : size ≤ most

module _ (wide : Bool) (values : List Value) (text : List ℕ) (small : byte_total values + length text < 2 ^ 31) where
  abbrev IsTaken : Form → Value → Type 0
  IsTaken form value = Taken (fault_if wide (Some form) values value) (length (bytes_of value)) (length text)

  near : (form : Form) (size : ℕ) → size ≤ length text → is_within wide form (byte_total values + size) ≡ true
  near form size short = near-enough wide form (byte_total values + size) (omega (arith, small))

  truth-taken : (yes other : Bool) (v : Value) → ◌≡◌ {A = Option Value} (if yes then Some (Truth true) else if other then Some (Truth false) else None) (Some v)
      → IsTaken Truths v
  truth-taken true other v e = subst (IsTaken Truths) (same-some (Truth true) v e)
      (record { none = no-fault true true _ true refl refl (near Truths 0 (omega arith)) refl; short = omega arith })
  truth-taken false true v e = subst (IsTaken Truths) (same-some (Truth false) v e)
      (record { none = no-fault true true _ true refl refl (near Truths 0 (omega arith)) refl; short = omega arith })
  truth-taken false false v e = absurd cc

  sized : (bytes : List ℕ) → hex_bytes text ≡ Some bytes → length bytes ≤ length text
  sized bytes e = omega (arith, hex-long text bytes e)

  -- ---- a value of each form
  form-taken : (kind : DataType) (form : Form) (v : Value) → form_of kind ≡ Some form → IsFlatForm form → IsValueOf kind v
      → read_form form text ≡ Some v → IsTaken form v
  form-taken kind Truths v is flat of e = truth-taken _ _ v e
  form-taken kind (Wholes bits signed) v is flat of e =
      let number = signed_digits_value 10 text in
      let taken = some-if (is_numeral (without_leading_sign text) && in_range bits signed number) (Whole number) v e in
      let ranged = (and_parts (is_numeral (without_leading_sign text)) (in_range bits signed number) taken.0).1 in
      subst (IsTaken (Wholes bits signed)) taken.1
      (record { none = no-fault true _ _ true refl ranged (near (Wholes bits signed) 0 (omega arith)) refl; short = omega arith })
  form-taken kind (FloatBits bits) v is flat of e =
      let number = digits_value 16 text in
      let taken = some-if ((length text == bits / 4) && list_all is_ascii_hexdigit text) (Bits number) v e in
      let here : IsValueOf kind (Bits number) = subst (IsValueOf kind) (sym taken.1) of in
      let below : number < 2 ^ bits = subst (λ (o : Option Form). IsOfSome o (Bits number)) is here in
      subst (IsTaken (FloatBits bits)) taken.1
      (record { none = no-fault true _ _ true refl (lt-ltb number (2 ^ bits) below) (near (FloatBits bits) 0 (omega arith)) refl; short = omega arith })
  form-taken kind Text v is flat of e =
      let taken = some-if (is_utf8 text) (Bytes text) v e in
      subst (IsTaken Text) taken.1 (record { none = no-fault true true _ _ refl refl (near Text (length text) (omega arith)) taken.0; short = omega arith })
  form-taken kind HexBytes v is flat of e =
      let mapped = some-map Bytes (hex_bytes text) v e in
      subst (IsTaken HexBytes) mapped.2 (record {
        none = no-fault true true _ true refl refl (near HexBytes (length mapped.0) (sized mapped.0 mapped.1)) refl;
        short = sized mapped.0 mapped.1;
      })
  form-taken kind (SizedHex size) v is flat of e =
      let taken = some-then (length text == 2 * size) (option_map Bytes (hex_bytes text)) v e in
      let mapped = some-map Bytes (hex_bytes text) v taken.1 in
      let long : length mapped.0 ≡ size = omega (arith, hex-long text mapped.0 mapped.1, eqb-true (length text) (2 * size) taken.0) in
      let same : (length mapped.0 == size) ≡ true = grind (arith, nat_tests, long) in
      subst (IsTaken (SizedHex size)) mapped.2
      (record {
        none = no-fault true _ _ true refl same (near (SizedHex size) (length mapped.0) (sized mapped.0 mapped.1)) refl;
        short = sized mapped.0 mapped.1;
      })
  form-taken kind (Decimals precision places) v is flat of e =
      let minus = starts_with_minus text in
      let taken =
      some-and (λ (n : ℕ). if nat_lt n (10 ^ precision) then Some (Whole (if minus then neg_ℤ (pos n) else pos n)) else None)
      (read_unscaled places (without_leading_sign text)) v e in
      let number : ℤ = if minus then neg_ℤ (pos taken.0) else pos taken.0 in
      let fits = some-if (nat_lt taken.0 (10 ^ precision)) (Whole number) v taken.2 in
      let here : IsValueOf kind (Whole number) = subst (IsValueOf kind) (sym fits.1) of in
      let below : nat_abs number < 10 ^ precision = subst (λ (o : Option Form). IsOfSome o (Whole number)) is here in
      subst (IsTaken (Decimals precision places)) fits.1
      (record {
        none = no-fault true _ _ true refl (wide-range number precision flat below) (near (Decimals precision places) 0 (omega arith)) refl;
        short = omega arith;
      })

-- the column takes what the field spells, where its bytes are few
pub field-taken : (mark : List ℕ) (kind : DataType) (form : Form) (values : List Value) (text : List ℕ) (v : Value) → form_of kind ≡ Some form → IsFlatForm form
    → byte_total values + length text < 2 ^ 31 → read_field mark kind text ≡ Some v → Taken (push_fault kind values v) (length (bytes_of v)) (length text)
field-taken mark kind form values text v is flat small e = go (bytes_eq text mark) refl e
  where
    go : (b : Bool) → bytes_eq text mark ≡ b → ◌≡◌ {A = Option Value} (if b then Some Null else read_text kind text) (Some v)
        → Taken (push_fault kind values v) (length (bytes_of v)) (length text)
    go true same e2 = subst (λ (x : Value). Taken (push_fault kind values x) (length (bytes_of x)) (length text)) (same-some Null v e2)
        (record { none = refl; short = omega arith })
    go false other e2 =
        let of = read_is_value kind mark text v (subst (λ (o : Option Form). IsSomeFlat o) (sym is) flat) e in
        let read : read_form form text ≡ Some v = subst (λ (o : Option Form). option_and_then (λ (f : Form). read_form f text) o ≡ Some v) is e2 in
        subst (λ (o : Option Form). Taken (fault_if (is_wide kind) o values v) (length (bytes_of v)) (length text)) (sym is)
        (form-taken (is_wide kind) values text small kind form v is flat of read)
