-- The text of a decimal: the digits of its number, with a point before this many of them.
use Rattle.std.proofs.Common.{◌≡◌, ℕ, zero, suc, ◌+◌, ◌-◌, ◌/◌, ◌%◌, ◌^◌, ◌<◌, ◌≤◌, false, List, [], ◌∷◌, ◌++◌, length, take, drop, replicate, refl, sym, ap}
use Rattle.std.proofs.Common.{◌∙◌, subst, arith, inl, inr, append_assoc, length-append}
use Rattle.std.specs.Fmt.{decimal, digit_glyph}
use Rattle.std.proofs.lemmas.Bool.{cases_lt, lt-ltb}
use Rattle.std.proofs.lemmas.Nat.{div_below}
use Rattle.std.proofs.lemmas.Fmt.{decimal_digit, decimal_step_wide, decimal_is_IsNumeral_wide}
use Rattle.std.proofs.lemmas.Int.Digits.{digits_value-lt}
use Rattle.std.proofs.lemmas.List.{append-nil, take_at, drop_at}
use Rattle.std.proofs.Math.Nat.{pow-succ', pow-zero, pow-le-pow_right, div-div-eq-div-mul}
use Rattle.data_types.specs.promise.FieldText.{last_digits, point_text}

-- ---- the digits of a number
glyph_is : (d : ℕ) → d < 10 → digit_glyph false d ≡ 48 + d
glyph_is d small = rw (lt-ltb d 10 small) refl

-- the digits of a number of more than one digit
pub steps : (n : ℕ) → 10 ≤ n → n < 10 ^ 64 → decimal n ≡ decimal (n / 10) ++ (digit_glyph false (n % 10) ∷ [])
steps n some small = decimal_step_wide n some small ∙ ap (λ (d : ℕ). decimal (n / 10) ++ (d ∷ [])) (sym (glyph_is (n % 10) (omega arith)))

one : (n : ℕ) → n < 10 → decimal n ≡ digit_glyph false (n % 10) ∷ []
one n small = decimal_digit n small ∙ ap (λ (d : ℕ). d ∷ []) (sym (glyph_is n small) ∙ ap (digit_glyph false) (omega (arith, small)))

length_one : (n : ℕ) → n < 10 → length (decimal n) ≡ 1
length_one n small = ap (λ (ds : List ℕ). length ds) (one n small)

length_steps : (n : ℕ) → 10 ≤ n → n < 10 ^ 64 → length (decimal n) ≡ length (decimal (n / 10)) + 1
length_steps n some small = ap (λ (ds : List ℕ). length ds) (steps n some small) ∙ length-append (decimal (n / 10)) (digit_glyph false (n % 10) ∷ [])

-- a text of more digits than this many ends with these
pub split_digits : (places n : ℕ) → n < 10 ^ 64 → places < length (decimal n) → decimal n ≡ decimal (n / 10 ^ places) ++ last_digits 10 places n
split_digits zero n small long =
    let same : n / 1 ≡ n = omega arith in
    sym (append-nil (decimal (n / 10 ^ 0)) ∙ ap (λ (p : ℕ). decimal (n / p)) (pow-zero 10) ∙ ap decimal same)
split_digits (suc more) n small long = elim (cases_lt n 10) [
  | inl single ↦ absurd (omega (arith, long, length_one n single))
  | inr some ↦
      let digit : List ℕ = digit_glyph false (n % 10) ∷ [] in
      let rest = split_digits more (n / 10) (omega (arith, small)) (omega (arith, long, length_steps n some small)) in
      let front : n / 10 / 10 ^ more ≡ n / 10 ^ suc more = div-div-eq-div-mul n 10 (10 ^ more) ∙ ap (λ (p : ℕ). n / p) (sym (pow-succ' 10 more)) in
      steps n some small
      ∙ ap (λ (ds : List ℕ). ds ++ digit) rest
      ∙ append_assoc (decimal (n / 10 / 10 ^ more)) (last_digits 10 more (n / 10)) digit
      ∙ ap (λ (x : ℕ). decimal x ++ (last_digits 10 more (n / 10) ++ digit)) front
]

-- ---- zeros before the digits
one_zero : List ℕ
one_zero = 48 ∷ []

zeros_more : (count : ℕ) → replicate count 48 ++ one_zero ≡ replicate (suc count) 48
unfolding one_zero
zeros_more zero = refl
zeros_more (suc count) = ap (λ (ds : List ℕ). 48 ∷ ds) (zeros_more count)

no_digits : (count : ℕ) → last_digits 10 count 0 ≡ replicate count 48
unfolding one_zero
no_digits zero = refl
no_digits (suc count) = ap (λ (ds : List ℕ). ds ++ one_zero) (no_digits count) ∙ zeros_more count

-- and one of at most this many has zeros before it
pub padded_digits : (places n : ℕ) → n < 10 ^ 64 → length (decimal n) ≤ places
    → last_digits 10 places n ≡ replicate (places - length (decimal n)) 48 ++ decimal n
padded_digits zero n small short = elim (cases_lt n 10) [
  | inl single ↦ absurd (omega (arith, short, length_one n single))
  | inr some ↦ absurd (omega (arith, short, length_steps n some small))
]
padded_digits (suc more) n small short = elim (cases_lt n 10) [
  | inl single ↦
      let digit : List ℕ = digit_glyph false (n % 10) ∷ [] in
      let none : n / 10 ≡ 0 = omega (arith, single) in
      let count : more ≡ suc more - length (decimal n) = omega (arith, length_one n single) in
      ap (λ (x : ℕ). last_digits 10 more x ++ digit) none
      ∙ ap (λ (ds : List ℕ). ds ++ digit) (no_digits more)
      ∙ ap (λ (ds : List ℕ). replicate more 48 ++ ds) (sym (one n single))
      ∙ ap (λ (k : ℕ). replicate k 48 ++ decimal n) count
  | inr some ↦
      let digit : List ℕ = digit_glyph false (n % 10) ∷ [] in
      let len = length_steps n some small in
      let rest = padded_digits more (n / 10) (omega (arith, small)) (omega (arith, short, len)) in
      let count : more - length (decimal (n / 10)) ≡ suc more - length (decimal n) = omega (arith, short, len) in
      ap (λ (ds : List ℕ). ds ++ digit) rest
      ∙ append_assoc (replicate (more - length (decimal (n / 10))) 48) (decimal (n / 10)) digit
      ∙ ap (λ (ds : List ℕ). replicate (more - length (decimal (n / 10))) 48 ++ ds) (sym (steps n some small))
      ∙ ap (λ (k : ℕ). replicate k 48 ++ decimal n) count
]

-- a number of at most this many digits has none before the point
pub none_before : (places n : ℕ) → n < 10 ^ 64 → length (decimal n) ≤ places → n / 10 ^ places ≡ 0
none_before places n small short =
    let numeral = decimal_is_IsNumeral_wide n small in
    let below : n < 10 ^ length (decimal n) = subst (λ (v : ℕ). v < 10 ^ length (decimal n)) numeral.1 (digits_value-lt 10 (decimal n) numeral.0.1) in
    let most : 10 ^ length (decimal n) ≤ 10 ^ places = pow-le-pow_right {n = 10} (omega arith) {i = length (decimal n)} {j = places} short in
    omega (arith, div_below n (10 ^ places) 1 (omega (arith, below, most)) (omega (arith, below, most)))

-- ---- the texts that are written

pub length-last_digits : (count n : ℕ) → length (last_digits 10 count n) ≡ count
length-last_digits zero n = refl
length-last_digits (suc count) n =
    omega (arith, length-append (last_digits 10 count (n / 10)) (digit_glyph false (n % 10) ∷ []), length-last_digits count (n / 10))

pub point_is : (places n : ℕ) → 0 < places → point_text places n ≡ decimal (n / 10 ^ places) ++ (46 ∷ last_digits 10 places n)
point_is zero n some = absurd (omega (arith, some))
point_is (suc more) n some = refl

module _ (places n : ℕ) (small : n < 10 ^ 64) (some : 0 < places) where
  pub pointed : places < length (decimal n)
      → point_text places n ≡ take (length (decimal n) - places) (decimal n) ++ (46 ∷ drop (length (decimal n) - places) (decimal n))
  pointed long =
      let whole : List ℕ = decimal (n / 10 ^ places) in
      let fraction : List ℕ = last_digits 10 places n in
      let split = split_digits places n small long in
      let count : length (decimal n) - places ≡ length whole =
      omega (arith, ap (λ (ds : List ℕ). length ds) split, length-append whole fraction, length-last_digits places n) in
      let front : take (length (decimal n) - places) (decimal n) ≡ whole =
      ap (λ (k : ℕ). take k (decimal n)) count ∙ ap (λ (ds : List ℕ). take (length whole) ds) split ∙ take_at whole fraction (length whole) refl in
      let behind : drop (length (decimal n) - places) (decimal n) ≡ fraction =
      ap (λ (k : ℕ). drop k (decimal n)) count ∙ ap (λ (ds : List ℕ). drop (length whole) ds) split ∙ drop_at whole fraction (length whole) refl in
      point_is places n some
      ∙ ap (λ (ds : List ℕ). ds ++ (46 ∷ fraction)) (sym front)
      ∙ ap (λ (ds : List ℕ). take (length (decimal n) - places) (decimal n) ++ (46 ∷ ds)) (sym behind)

  pub zero_pointed : length (decimal n) ≤ places → point_text places n ≡ 48 ∷ 46 ∷ (replicate (places - length (decimal n)) 48 ++ decimal n)
  zero_pointed short =
      point_is places n some
      ∙ ap (λ (x : ℕ). decimal x ++ (46 ∷ last_digits 10 places n)) (none_before places n small short)
      ∙ ap (λ (ds : List ℕ). ds ++ (46 ∷ last_digits 10 places n)) (decimal_digit 0 (omega arith))
      ∙ ap (λ (ds : List ℕ). 48 ∷ 46 ∷ ds) (padded_digits places n small short)

  pub pointed_after : (room digits whole fraction first second third : List ℕ) → digits ≡ decimal n → places < length digits
      → whole ≡ take (length digits - places) digits → fraction ≡ drop (length digits - places) digits
      → first ≡ room ++ whole → second ≡ first ++ (46 ∷ []) → third ≡ second ++ fraction → third ≡ room ++ point_text places n
  pointed_after room digits whole fraction first second third is long front behind one two three =
      let point : List ℕ = 46 ∷ [] in
      let long' : places < length (decimal n) = subst (λ (ds : List ℕ). places < length ds) is long in
      let front' : whole ≡ take (length (decimal n) - places) (decimal n) = front ∙ ap (λ (ds : List ℕ). take (length ds - places) ds) is in
      let behind' : fraction ≡ drop (length (decimal n) - places) (decimal n) = behind ∙ ap (λ (ds : List ℕ). drop (length ds - places) ds) is in
      three ∙ ap (λ (ds : List ℕ). ds ++ fraction) (two ∙ ap (λ (ds : List ℕ). ds ++ point) one)
      ∙ append_assoc (room ++ whole) point fraction
      ∙ append_assoc room whole (46 ∷ fraction)
      ∙ ap (λ (ds : List ℕ). room ++ (ds ++ (46 ∷ fraction))) front'
      ∙ ap (λ (ds : List ℕ). room ++ (take (length (decimal n) - places) (decimal n) ++ (46 ∷ ds))) behind'
      ∙ ap (λ (ds : List ℕ). room ++ ds) (sym (pointed long'))

  pub zero_pointed_after : (room digits first second third : List ℕ) → digits ≡ decimal n → length digits ≤ places
      → first ≡ room ++ (48 ∷ 46 ∷ []) → second ≡ first ++ replicate (places - length digits) 48 → third ≡ second ++ digits
      → third ≡ room ++ point_text places n
  zero_pointed_after room digits first second third is short one two three =
      let front : List ℕ = 48 ∷ 46 ∷ [] in
      let zeros : List ℕ = replicate (places - length digits) 48 in
      let short' : length (decimal n) ≤ places = subst (λ (ds : List ℕ). length ds ≤ places) is short in
      three ∙ ap (λ (ds : List ℕ). ds ++ digits) (two ∙ ap (λ (ds : List ℕ). ds ++ zeros) one)
      ∙ append_assoc (room ++ front) zeros digits
      ∙ append_assoc room front (zeros ++ digits)
      ∙ ap (λ (ds : List ℕ). room ++ (48 ∷ 46 ∷ (replicate (places - length ds) 48 ++ ds))) is
      ∙ ap (λ (ds : List ℕ). room ++ ds) (sym (zero_pointed short'))
