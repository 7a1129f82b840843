-- Validity bits, with one more value.
use Rattle.std.proofs.Common.{◌≡◌, ◌≢◌, ◌≤◌, ◌∙◌, ◌+◌, ◌++◌, ℕ, Bool, true, false, List, [], ◌∷◌, length, replicate, refl, sym, ap, arith}
use Rattle.std.proofs.lemmas.Bool.{false≢true}
use Rattle.std.proofs.lemmas.Bool.Decides.{nat_tests}
use Rattle.std.proofs.lemmas.List.{length-map, map-append}
use Rattle.std.specs.Int.{from_bool}
use Rattle.std.specs.Prelude.{not, ◌==◌, map, None, Some}
use Rattle.data_types.specs.promise.Value.{Value, Null, Truth, Whole, Bits, Bytes, Items, Fields}
use Rattle.col_build.specs.promise.Encoding.{bit_bytes, if_some, null_total, validity_of}
use Rattle.data_types.specs.promise.Value.{is_null}
use Rattle.col_build.specs.Holding.{HasValidity}

-- ---- how many values are null
abbrev pub flags_of : List Value → List Bool
flags_of values = map (λ value. not (is_null value)) values

flags-push : (values : List Value) (value : Value) → flags_of (values ++ value ∷ []) ≡ flags_of values ++ not (is_null value) ∷ []
flags-push values value = map-append (λ v. not (is_null v)) values (value ∷ [])

pub nulls-append : (values others : List Value) → null_total (values ++ others) ≡ null_total values + null_total others
nulls-append [] others = omega arith
nulls-append (Null ∷ values) others = omega (arith, nulls-append values others)
nulls-append ((Truth t) ∷ values) others = omega (arith, nulls-append values others)
nulls-append ((Whole n) ∷ values) others = omega (arith, nulls-append values others)
nulls-append ((Bits n) ∷ values) others = omega (arith, nulls-append values others)
nulls-append ((Bytes b) ∷ values) others = omega (arith, nulls-append values others)
nulls-append ((Items vs) ∷ values) others = omega (arith, nulls-append values others)
nulls-append ((Fields vs) ∷ values) others = omega (arith, nulls-append values others)

pub nulls-push : (values : List Value) (value : Value) → null_total (values ++ value ∷ []) ≡ null_total values + null_total (value ∷ [])
nulls-push values value = nulls-append values (value ∷ [])

pub null-one : (value : Value) → is_null value ≡ true → null_total (value ∷ []) ≡ 1
null-one Null is = refl
null-one (Truth t) is = absurd (false≢true is)
null-one (Whole n) is = absurd (false≢true is)
null-one (Bits n) is = absurd (false≢true is)
null-one (Bytes b) is = absurd (false≢true is)
null-one (Items vs) is = absurd (false≢true is)
null-one (Fields vs) is = absurd (false≢true is)

pub null-none : (value : Value) → is_null value ≡ false → null_total (value ∷ []) ≡ 0
null-none Null is = absurd (false≢true (sym is))
null-none (Truth t) is = refl
null-none (Whole n) is = refl
null-none (Bits n) is = refl
null-none (Bytes b) is = refl
null-none (Items vs) is = refl
null-none (Fields vs) is = refl

all-valid : (values : List Value) → null_total values ≡ 0 → flags_of values ≡ replicate (length values) true
all-valid [] none = refl
all-valid (Null ∷ values) none = absurd (omega (arith, none))
all-valid ((Truth t) ∷ values) none = ap (λ flags. true ∷ flags) (all-valid values none)
all-valid ((Whole n) ∷ values) none = ap (λ flags. true ∷ flags) (all-valid values none)
all-valid ((Bits n) ∷ values) none = ap (λ flags. true ∷ flags) (all-valid values none)
all-valid ((Bytes b) ∷ values) none = ap (λ flags. true ∷ flags) (all-valid values none)
all-valid ((Items vs) ∷ values) none = ap (λ flags. true ∷ flags) (all-valid values none)
all-valid ((Fields vs) ∷ values) none = ap (λ flags. true ∷ flags) (all-valid values none)

-- ---- the bitmap where it is there
bits-some : (flags : List Bool) → flags ≢ [] → bit_bytes flags ≢ []
bits-some [] some = λ none. some refl
bits-some (a ∷ []) some = λ none. cc
bits-some (a ∷ b ∷ []) some = λ none. cc
bits-some (a ∷ b ∷ c ∷ []) some = λ none. cc
bits-some (a ∷ b ∷ c ∷ d ∷ []) some = λ none. cc
bits-some (a ∷ b ∷ c ∷ d ∷ f ∷ []) some = λ none. cc
bits-some (a ∷ b ∷ c ∷ d ∷ f ∷ g ∷ []) some = λ none. cc
bits-some (a ∷ b ∷ c ∷ d ∷ f ∷ g ∷ h ∷ []) some = λ none. cc
bits-some (a ∷ b ∷ c ∷ d ∷ f ∷ g ∷ h ∷ i ∷ flags) some = λ none. cc

pub shown-some : (bytes : List ℕ) → bytes ≢ [] → if_some bytes ≡ Some bytes
shown-some [] some = absurd (some refl)
shown-some (byte ∷ bytes) some = refl

pub shown-is : (bytes others : List ℕ) → if_some bytes ≡ Some others → bytes ≡ others
shown-is [] others is = cc
shown-is (byte ∷ bytes) others is = cc

pub not-zero : (n : ℕ) → n ≢ 0 → (n == 0) ≡ false
not-zero n some = grind (arith, nat_tests)

pub validity-none : (values : List Value) → null_total values ≡ 0 → validity_of values ≡ None
validity-none values none = rw none refl

pub validity-some : (values : List Value) → null_total values ≢ 0 → validity_of values ≡ Some (bit_bytes (flags_of values))
validity-some values some = rw (not-zero (null_total values) some) refl

pushed-some : (flags : List Bool) (flag : Bool) → flags ++ flag ∷ [] ≢ []
pushed-some [] flag = λ none. cc
pushed-some (f ∷ flags) flag = λ none. cc

-- ---- one more value
-- the bits of one more value, where one is null
shown-pushed : (new : List ℕ) (values : List Value) (value : Value) (flags : List Bool) (flag : Bool) → null_total (values ++ value ∷ []) ≢ 0
    → flags_of values ≡ flags → not (is_null value) ≡ flag
    → new ≡ bit_bytes (flags ++ flag ∷ []) → if_some new ≡ validity_of (values ++ value ∷ [])
shown-pushed new values value flags flag some are is made =
    let all : flags_of (values ++ value ∷ []) ≡ flags ++ flag ∷ [] =
    flags-push values value ∙ ap (λ (xs : List Bool). xs ++ not (is_null value) ∷ []) are ∙ ap (λ x. flags ++ x ∷ []) is in
    ap if_some made ∙ shown-some (bit_bytes (flags ++ flag ∷ [])) (bits-some (flags ++ flag ∷ []) (pushed-some flags flag))
    ∙ ap (λ xs. Some (bit_bytes xs)) (sym all)
    ∙ sym (validity-some (values ++ value ∷ []) some)

pub first-null : (bits new : List ℕ) (count nulls : ℕ) (values : List Value) (value : Value) → nulls ≡ 0
    → HasValidity bits count nulls values → is_null value ≡ true
    → new ≡ bit_bytes (replicate count true ++ false ∷ []) → if_some new ≡ validity_of (values ++ value ∷ [])
first-null bits new count nulls values value none has null made =
    shown-pushed new values value (replicate count true) false (λ zero_nulls. absurd (omega (arith, nulls-push values value, null-one value null, zero_nulls)))
    (all-valid values (sym has.nulls_counted ∙ none) ∙ ap (λ n. replicate n true) (sym has.counted)) (ap not null) made

pub still-none : (bits : List ℕ) (count nulls : ℕ) (values : List Value) (value : Value) → nulls ≡ 0
    → HasValidity bits count nulls values → is_null value ≡ false
    → if_some bits ≡ validity_of (values ++ value ∷ [])
still-none bits count nulls values value none has valid =
    has.shown ∙ validity-none values (sym has.nulls_counted ∙ none)
    ∙ sym (validity-none (values ++ value ∷ []) (omega (arith, nulls-push values value, null-none value valid, has.nulls_counted, none)))

pub bits-shown : (bits : List ℕ) (count nulls : ℕ) (values : List Value) → nulls ≢ 0 → HasValidity bits count nulls values → bits ≡ bit_bytes (flags_of values)
bits-shown bits count nulls values some has =
    shown-is bits (bit_bytes (flags_of values)) (has.shown ∙ validity-some values (λ none. some (has.nulls_counted ∙ none)))

pub flags-length : (values : List Value) → length (flags_of values) ≡ length values
flags-length values = length-map values (λ value. not (is_null value))

pub more-bits : (bits new : List ℕ) (count nulls : ℕ) (values : List Value) (value : Value) (null : Bool) → nulls ≢ 0
    → HasValidity bits count nulls values → is_null value ≡ null
    → ((flags : List Bool) → length flags ≡ count → bits ≡ bit_bytes flags → new ≡ bit_bytes (flags ++ not null ∷ []))
    → if_some new ≡ validity_of (values ++ value ∷ [])
more-bits bits new count nulls values value null some has is makes =
    shown-pushed new values value (flags_of values) (not null) (λ zero_nulls. some (omega (arith, nulls-push values value, has.nulls_counted, zero_nulls)))
    refl (ap not is)
    (makes (flags_of values) (flags-length values ∙ sym has.counted) (bits-shown bits count nulls values some has))

-- the number of a value's nulls, by a test
pub null-counted : (value : Value) (null : Bool) → null ≡ is_null value → from_bool null ≡ null_total (value ∷ [])
null-counted value true is = sym (null-one value (sym is))
null-counted value false is = sym (null-none value (sym is))

pub nulls-few : (values : List Value) → null_total values ≤ length values
nulls-few [] = omega arith
nulls-few (Null ∷ values) = omega (arith, nulls-few values)
nulls-few ((Truth t) ∷ values) = omega (arith, nulls-few values)
nulls-few ((Whole n) ∷ values) = omega (arith, nulls-few values)
nulls-few ((Bits n) ∷ values) = omega (arith, nulls-few values)
nulls-few ((Bytes b) ∷ values) = omega (arith, nulls-few values)
nulls-few ((Items vs) ∷ values) = omega (arith, nulls-few values)
nulls-few ((Fields vs) ∷ values) = omega (arith, nulls-few values)

-- the bits of values of which one is null
pub shown-flags : (new : List ℕ) (values : List Value) → null_total values ≢ 0 → new ≡ bit_bytes (flags_of values) → if_some new ≡ validity_of values
shown-flags new values some made =
    let there : flags_of values ≢ [] = λ none. some (omega (arith, nulls-few values, flags-length values, ap length none)) in
    ap if_some made ∙ shown-some (bit_bytes (flags_of values)) (bits-some (flags_of values) there) ∙ sym (validity-some values some)
