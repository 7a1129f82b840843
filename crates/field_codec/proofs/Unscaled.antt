-- The number of a decimal without sign, from its digits before the point and behind it.
use Rattle.std.proofs.Common.{◌≡◌, ◌≢◌, ℕ, zero, suc, ◌+◌, ◌-◌, ◌*◌, ◌^◌, ◌<◌, ◌≤◌, Bool, true, false, List, [], ◌∷◌, ◌++◌, length, take, drop, replicate}
use Rattle.std.proofs.Common.{Option, Some, None, refl, sym, ap, ◌∙◌, subst, arith, inl, inr, length-append}
use Rattle.std.specs.Prelude.{pos, neg_ℤ, ◌==◌, ◌&&◌, nat_le, nat_lt, if◌then◌else◌}
use Rattle.std.specs.List.{prefix_len}
use Rattle.std.specs.Option.{option_map, option_and_then}
use Rattle.std.specs.Char.{is_ascii_digit, digit_value}
use Rattle.std.specs.Str.{all_ascii_digits}
use Rattle.std.specs.Str.Parse.{digits_value, digits_value_after, starts_with_minus, without_leading_sign}
use Rattle.std.proofs.lemmas.Bool.{and_parts, cases_Bool, false≢true, leb-true, lt-ltb, le-ltb}
use Rattle.std.proofs.lemmas.List.{length-replicate, take_all}
use Rattle.std.proofs.lemmas.List.Sums.{prefix_len-le-length}
use Rattle.std.proofs.lemmas.Nat.{pow-add}
use Rattle.std.proofs.lemmas.Str.Parse.{digits_value-take-le}
use Rattle.std.proofs.Math.Nat.{pow-succ', one-le-pow, mul-le-mul_left, mul-le-mul_right, mul-lt-mul_of_pos_right, pow-le-pow_right}
use Rattle.data_types.specs.promise.FieldText.{is_numeral, fraction_of, unscaled, read_unscaled, read_decimal}
use Rattle.data_types.specs.promise.Value.{Value, Whole}
use Rattle.field_codec.proofs.Numbers.{all_front, part_digits}
use Rattle.field_codec.specs.Fractions.{fraction_text, IsPastDecimals}

-- ---- the number of digits behind one another

regroup : (n d p : ℕ) → (n * 10 + d) * p ≡ n * (10 * p) + (0 * 10 + d) * p
regroup n d p = grind arith

value_after : (n : ℕ) (cs : List ℕ) → digits_value_after 10 n cs ≡ n * 10 ^ length cs + digits_value 10 cs
value_after n [] = omega arith
value_after n (c ∷ cs) =
    let d = digit_value c in
    let p = 10 ^ length cs in
    let more : n * 10 ^ suc (length cs) ≡ n * (10 * p) = ap (λ (x : ℕ). n * x) (pow-succ' 10 (length cs)) in
    omega (arith, value_after (n * 10 + d) cs, value_after (0 * 10 + d) cs, regroup n d p, more)

pub after_append : (n : ℕ) (xs ys : List ℕ) → digits_value_after 10 n (xs ++ ys) ≡ digits_value_after 10 (digits_value_after 10 n xs) ys
after_append n [] ys = refl
after_append n (x ∷ xs) ys = after_append (n * 10 + digit_value x) xs ys

value_append : (xs ys : List ℕ) → digits_value 10 (xs ++ ys) ≡ digits_value 10 xs * 10 ^ length ys + digits_value 10 ys
value_append xs ys = after_append 0 xs ys ∙ value_after (digits_value 10 xs) ys

value_zeros : (k : ℕ) → digits_value 10 (replicate k 48) ≡ 0
value_zeros zero = refl
value_zeros (suc k) = value_zeros k

pub unscaled_is : (places : ℕ) (whole fraction : List ℕ) → length fraction ≤ places
    → unscaled places whole fraction ≡ digits_value 10 whole * 10 ^ places + digits_value 10 fraction * 10 ^ (places - length fraction)
unscaled_is places whole fraction few =
    let zeros : List ℕ = replicate (places - length fraction) 48 in
    let len : length zeros ≡ places - length fraction = length-replicate (places - length fraction) 48 in
    let behind : length (fraction ++ zeros) ≡ places = omega (arith, length-append fraction zeros, len, few) in
    value_append whole (fraction ++ zeros)
    ∙ ap (λ (k : ℕ). digits_value 10 whole * 10 ^ k + digits_value 10 (fraction ++ zeros)) behind
    ∙ ap (λ (n : ℕ). digits_value 10 whole * 10 ^ places + n) (value_append fraction zeros
    ∙ ap (λ (k : ℕ). digits_value 10 fraction * 10 ^ k + digits_value 10 zeros) len
    ∙ omega (arith, value_zeros (places - length fraction)))

-- ---- what is behind the point

same_text : (a b : List ℕ) → ◌≡◌ {A = Option (List ℕ)} (Some a) (Some b) → a ≡ b
same_text a b e = cc

pub record IsBehind (most : ℕ) (text digits : List ℕ) : Type 0 where
  pub found : fraction_text most text ≡ Some digits
  pub few : length digits ≤ most

taken : (test : Bool) (ds digits : List ℕ) → ◌≡◌ {A = Option (List ℕ)} (if test then Some ds else None) (Some digits) → (test ≡ true) × (ds ≡ digits)
taken true ds digits e = (refl, same_text ds digits e)
taken false ds digits e = absurd cc

pub behind_is : (most : ℕ) (text digits : List ℕ) → fraction_text most text ≡ Some digits → IsBehind most text digits
behind_is most [] digits e = record { found = e; few = subst (λ (ds : List ℕ). length ds ≤ most) (same_text [] digits e) (omega arith) }
behind_is most (c ∷ ds) digits e =
    let is = taken ((c == 46) && nat_lt 0 (length ds) && nat_le (length ds) most) ds digits e in
    record {
      found = e;
      few = subst (λ (xs : List ℕ). length xs ≤ most) is.1
          (leb-true (length ds) most (and_parts ((c == 46) && nat_lt 0 (length ds)) (nat_le (length ds) most) is.0).1);
    }

pub fraction_is : (most : ℕ) (text digits : List ℕ) → fraction_text most text ≡ Some digits → all_ascii_digits digits ≡ true
    → fraction_of most text ≡ Some digits
fraction_is most [] digits e all = e
fraction_is most (c ∷ ds) digits e all =
    let is = taken ((c == 46) && nat_lt 0 (length ds) && nat_le (length ds) most) ds digits e in
    let few = and_parts ((c == 46) && nat_lt 0 (length ds)) (nat_le (length ds) most) is.0 in
    let some = and_parts (c == 46) (nat_lt 0 (length ds)) few.0 in
    let digits_all : all_ascii_digits ds ≡ true = ap all_ascii_digits is.1 ∙ all in
    rw (some.0, some.1, digits_all, few.1) (ap (λ (xs : List ℕ). Some xs) is.1)

pub fraction_not : (most : ℕ) (text digits : List ℕ) → fraction_text most text ≡ Some digits → all_ascii_digits digits ≡ false → fraction_of most text ≡ None
fraction_not most [] digits e other = absurd (false≢true (sym other ∙ ap all_ascii_digits (sym (same_text [] digits e))))
fraction_not most (c ∷ ds) digits e other =
    let is = taken ((c == 46) && nat_lt 0 (length ds) && nat_le (length ds) most) ds digits e in
    let few = and_parts ((c == 46) && nat_lt 0 (length ds)) (nat_le (length ds) most) is.0 in
    let some = and_parts (c == 46) (nat_lt 0 (length ds)) few.0 in
    let digits_all : all_ascii_digits ds ≡ false = ap all_ascii_digits is.1 ∙ other in
    rw (some.0, some.1, digits_all) refl

-- the digits that a fraction has are those that may be
pub fraction_some : (most : ℕ) (text digits : List ℕ) → fraction_of most text ≡ Some digits → fraction_text most text ≡ Some digits
fraction_some most [] digits e = e
fraction_some most (c ∷ ds) digits e =
    let is = taken ((c == 46) && is_numeral ds && nat_le (length ds) most) ds digits e in
    let few = and_parts ((c == 46) && is_numeral ds) (nat_le (length ds) most) is.0 in
    let point = and_parts (c == 46) (is_numeral ds) few.0 in
    let some = and_parts (nat_lt 0 (length ds)) (all_ascii_digits ds) point.1 in
    rw (point.0, some.0, few.1) (ap (λ (xs : List ℕ). Some xs) is.1)

-- ---- the number

pub read_some : (places count : ℕ) (text digits : List ℕ) → count ≡ prefix_len is_ascii_digit text → count ≢ 0
    → fraction_of places (drop count text) ≡ Some digits
    → read_unscaled places text ≡ Some (unscaled places (take count text) digits)
read_some places count text digits len some found =
    let front : nat_lt 0 (prefix_len is_ascii_digit text) ≡ true = lt-ltb 0 (prefix_len is_ascii_digit text) (omega (arith, some, len)) in
    let same : fraction_of places (drop (prefix_len is_ascii_digit text) text) ≡ Some digits =
    ap (λ (k : ℕ). fraction_of places (drop k text)) (sym len) ∙ found in
    rw (front, same) (ap (λ (k : ℕ). Some (unscaled places (take k text) digits)) (sym len))

pub read_none : (places count : ℕ) (text : List ℕ) → count ≡ prefix_len is_ascii_digit text → fraction_of places (drop count text) ≡ None
    → read_unscaled places text ≡ None
read_none places count text len none =
    let same : fraction_of places (drop (prefix_len is_ascii_digit text) text) ≡ None = ap (λ (k : ℕ). fraction_of places (drop k text)) (sym len) ∙ none in
    elim (cases_Bool (nat_lt 0 (prefix_len is_ascii_digit text))) [
      | inl some ↦ rw (some, same) refl
      | inr empty ↦ rw empty refl
    ]

past_map : (places : ℕ) (whole : List ℕ) (fraction : Option (List ℕ)) → ((digits : List ℕ) → fraction ≡ Some digits → 10 ^ 38 ≤ unscaled places whole digits)
    → IsPastDecimals (option_map (unscaled places whole) fraction)
past_map places whole None large = tt
past_map places whole (Some digits) large = large digits refl

-- where each fraction makes the number too large
past : (places : ℕ) (text : List ℕ) → ((digits : List ℕ) → fraction_of places (drop (prefix_len is_ascii_digit text) text) ≡ Some digits
    → 10 ^ 38 ≤ unscaled places (take (prefix_len is_ascii_digit text) text) digits)
    → IsPastDecimals (read_unscaled places text)
past places text large = elim (cases_Bool (nat_lt 0 (prefix_len is_ascii_digit text))) [
  | inl some ↦ rw some (past_map places (take (prefix_len is_ascii_digit text) text) (fraction_of places (drop (prefix_len is_ascii_digit text) text)) large)
  | inr empty ↦ rw empty tt
]

-- the digits before the point write too large a number
pub past_whole : (places : ℕ) (text : List ℕ) → 10 ^ 38 ≤ digits_value 10 (take (prefix_len is_ascii_digit text) text) * 10 ^ places
    → IsPastDecimals (read_unscaled places text)
past_whole places text large =
    past places text (λ digits found.
    let whole : List ℕ = take (prefix_len is_ascii_digit text) text in
    let behind =
    behind_is places (drop (prefix_len is_ascii_digit text) text) digits (fraction_some places (drop (prefix_len is_ascii_digit text) text) digits found) in
    omega (arith, unscaled_is places whole digits behind.few, large))

pub at_least : (n k : ℕ) → n ≤ n * 10 ^ k
at_least n k = omega (arith, mul-le-mul_left n (one-le-pow k 10 (omega arith)))

-- and those behind it
pub past_fraction : (places count : ℕ) (text digits : List ℕ) → count ≡ prefix_len is_ascii_digit text → fraction_text places (drop count text) ≡ Some digits
    → 10 ^ 38 ≤ digits_value 10 digits * 10 ^ (places - length digits) → IsPastDecimals (read_unscaled places text)
past_fraction places count text digits len found large =
    past places text (λ other is.
    let whole : List ℕ = take (prefix_len is_ascii_digit text) text in
    let rest : List ℕ = drop (prefix_len is_ascii_digit text) text in
    let behind = behind_is places rest other (fraction_some places rest other is) in
    let same : other ≡ digits = same_text other digits (sym behind.found ∙ ap (λ (k : ℕ). fraction_text places (drop k text)) (sym len) ∙ found) in
    let more : 10 ^ 38 ≤ digits_value 10 other * 10 ^ (places - length other) =
    subst (λ (ds : List ℕ). 10 ^ 38 ≤ digits_value 10 ds * 10 ^ (places - length ds)) (sym same) large in
    omega (arith, unscaled_is places whole other behind.few, more))

-- ---- sizes

pub shifted_below : (n a k most : ℕ) → n < 10 ^ a → a + k ≤ most → n * 10 ^ k < 10 ^ most
shifted_below n a k most small within =
    omega (
      arith,
      mul-lt-mul_of_pos_right {m = n} {n = 10 ^ a} {k = 10 ^ k} small (one-le-pow k 10 (omega arith)),
      pow-add 10 a k,
      pow-le-pow_right {n = 10} (omega arith) {i = a + k} {j = most} within,
    )

pub times_below : (n a k most power : ℕ) → n < 10 ^ a → a + k ≤ most → power ≡ 10 ^ k → n * power < 10 ^ most
times_below n a k most power small within is = omega (arith, shifted_below n a k most small within, ap (λ (x : ℕ). n * x) is)

pub shifted_above : (n a k most : ℕ) → 10 ^ a ≤ n → most ≤ a + k → 10 ^ most ≤ n * 10 ^ k
shifted_above n a k most large within =
    omega (arith, mul-le-mul_right {m = 10 ^ a} {n = n} (10 ^ k) large, pow-add 10 a k, pow-le-pow_right {n = 10} (omega arith) {i = most} {j = a + k} within)

-- ---- a text that is read

-- the digits before the point, and what is behind it
pub record Parts (places count : ℕ) (text digits : List ℕ) (fine : ℕ) : Type 0 where
  pub len : count ≡ prefix_len is_ascii_digit text
  pub found : fraction_text places (drop count text) ≡ Some digits
  pub fine_len : fine ≡ prefix_len is_ascii_digit digits

pub other_behind : (places count : ℕ) (text digits : List ℕ) (fine : ℕ) → Parts places count text digits fine → fine < length digits
    → read_unscaled places text ≡ None
other_behind places count text digits fine parts short =
    read_none places count text parts.len (fraction_not places (drop count text) digits parts.found (part_digits digits fine parts.fine_len short))

pub fine_is : (places count : ℕ) (text digits : List ℕ) (fine : ℕ) → Parts places count text digits fine → length digits ≤ fine → fine ≡ length digits
fine_is places count text digits fine parts whole = omega (arith, parts.fine_len, whole, prefix_len-le-length is_ascii_digit digits)

pub fine_few : (places count : ℕ) (text digits : List ℕ) (fine : ℕ) → Parts places count text digits fine → fine ≤ places
fine_few places count text digits fine parts =
    omega (arith, parts.fine_len, prefix_len-le-length is_ascii_digit digits, (behind_is places (drop count text) digits parts.found).few)

pub parts_read : (places count : ℕ) (text digits : List ℕ) (fine whole fraction high low : ℕ) → Parts places count text digits fine
    → count ≢ 0 → length digits ≤ fine
    → whole ≡ digits_value 10 (take count text) → fraction ≡ digits_value 10 (take fine digits) → high ≡ whole * 10 ^ places
    → low ≡ fraction * 10 ^ (places - fine) → read_unscaled places text ≡ Some (high + low)
parts_read places count text digits fine whole fraction high low parts some all is_whole is_fraction is_high is_low =
    let same = fine_is places count text digits fine parts all in
    let few : length digits ≤ places = omega (arith, same, fine_few places count text digits fine parts) in
    let front : digits_value 10 (take count text) * 10 ^ places ≡ high = ap (λ (n : ℕ). n * 10 ^ places) (sym is_whole) ∙ sym is_high in
    let value : digits_value 10 digits ≡ fraction = ap (digits_value 10) (sym (take_all fine digits all)) ∙ sym is_fraction in
    let behind : digits_value 10 digits * 10 ^ (places - length digits) ≡ low =
    ap (λ (n : ℕ). n * 10 ^ (places - length digits)) value ∙ ap (λ (k : ℕ). fraction * 10 ^ (places - k)) (sym same) ∙ sym is_low in
    read_some places count text digits parts.len some (fraction_is places (drop count text) digits parts.found (all_front digits fine parts.fine_len all))
    ∙ ap (λ (n : ℕ). Some n) (unscaled_is places (take count text) digits few ∙ omega (arith, front, behind))

pub past_behind : (places count : ℕ) (text digits : List ℕ) (fine fraction : ℕ) → Parts places count text digits fine → length digits ≤ fine
    → fraction ≡ digits_value 10 (take fine digits) → 10 ^ 38 ≤ fraction * 10 ^ (places - fine) → IsPastDecimals (read_unscaled places text)
past_behind places count text digits fine fraction parts all is_fraction large =
    let same = fine_is places count text digits fine parts all in
    let value : fraction ≡ digits_value 10 digits = is_fraction ∙ ap (digits_value 10) (take_all fine digits all) in
    let behind : fraction * 10 ^ (places - fine) ≡ digits_value 10 digits * 10 ^ (places - length digits) =
    ap (λ (n : ℕ). n * 10 ^ (places - fine)) value ∙ ap (λ (k : ℕ). digits_value 10 digits * 10 ^ (places - k)) same in
    past_fraction places count text digits parts.len parts.found (omega (arith, behind, large))

pub past_digits : (places count : ℕ) (text digits : List ℕ) → count ≡ prefix_len is_ascii_digit text → fraction_text places (drop count text) ≡ Some digits
    → 10 ^ 38 ≤ digits_value 10 (take (prefix_len is_ascii_digit digits) digits) → IsPastDecimals (read_unscaled places text)
past_digits places count text digits len found large =
    past_fraction places count text digits len found
    (omega (
      arith,
      large,
      digits_value-take-le 10 digits (prefix_len is_ascii_digit digits) (omega arith),
      at_least (digits_value 10 digits) (places - length digits),
    ))

past_then : (precision : ℕ) (minus : Bool) (number : Option ℕ) → precision ≤ 38 → IsPastDecimals number
    → option_and_then (λ n. if nat_lt n (10 ^ precision) then Some (Whole (if minus then neg_ℤ (pos n) else pos n)) else None) number ≡ None
past_then precision minus None few large = refl
past_then precision minus (Some n) few large =
    rw (le-ltb n (10 ^ precision) (omega (arith, large, pow-le-pow_right {n = 10} (omega arith) {i = precision} {j = 38} few))) refl

pub past_decimal : (precision places : ℕ) (text digits : List ℕ) → digits ≡ without_leading_sign text → precision ≤ 38
    → IsPastDecimals (read_unscaled places digits) → read_decimal precision places text ≡ None
past_decimal precision places text digits e few large =
    past_then precision (starts_with_minus text) (read_unscaled places (without_leading_sign text)) few
    (subst (λ (ds : List ℕ). IsPastDecimals (read_unscaled places ds)) e large)

pub decimal_is : (precision places : ℕ) (text digits : List ℕ) (number : ℕ) (minus : Bool) → digits ≡ without_leading_sign text
    → minus ≡ starts_with_minus text → Some number ≡ read_unscaled places digits → number < 10 ^ precision
    → ◌≡◌ {A = Option Value} (Some (Whole (if minus then neg_ℤ (pos number) else pos number))) (read_decimal precision places text)
decimal_is precision places text digits number minus e is_minus read small =
    let number_is : read_unscaled places (without_leading_sign text) ≡ Some number = ap (read_unscaled places) (sym e) ∙ sym read in
    rw (number_is, lt-ltb number (10 ^ precision) small, is_minus) refl
