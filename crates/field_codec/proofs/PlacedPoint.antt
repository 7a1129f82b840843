-- A decimal whose point is before exactly as many digits as its column has: the digits in front of it and behind it.
use Rattle.std.proofs.Common.{◌≡◌, ℕ, suc, ◌+◌, ◌-◌, ◌*◌, ◌%◌, ◌^◌, ◌<◌, ◌≤◌, true, false, List, [], ◌∷◌, ◌++◌, length, take, drop, get_or, replicate}
use Rattle.std.proofs.Common.{Option, Some, None, refl, sym, ap, ◌∙◌, arith, inl, inr, length-take, length-drop}
use Rattle.std.specs.Prelude.{IfSome, IfNone, ◌==◌, ◌&&◌, nat_le, nat_lt, if◌then◌else◌}
use Rattle.std.specs.List.{prefix_len}
use Rattle.std.specs.Char.{is_ascii_digit}
use Rattle.std.specs.Str.{all_ascii_digits}
use Rattle.std.specs.Str.Parse.{digits_value, digits_value_after}
use Rattle.std.specs.Int.Bits.{bit_or}
use Rattle.std.proofs.lemmas.Bool.{cases_Bool, cases_lt, eq-eqb, false≢true, ne_eqb, le-leb, lt-leb, lt-ltb}
use Rattle.std.proofs.lemmas.List.{append-nil, drop_more, take-append-drop, take_all, take_more}
use Rattle.std.proofs.lemmas.List.Folds.{prefix_len-append}
use Rattle.std.proofs.lemmas.List.Sums.{prefix_len_is, prefix_len_passes}
use Rattle.std.proofs.lemmas.Nat.{le_or_l, le_or_r, or_lt, pow-add}
use Rattle.std.proofs.Math.Bool.{and-false}
use Rattle.std.proofs.Math.Nat.{pow-succ', mul-le-mul_left, mul-le-mul_right}
use Rattle.data_types.specs.promise.FieldText.{is_numeral, fraction_of, unscaled, read_unscaled}
use Rattle.field_codec.proofs.Numbers.{all_front, digit_is, few_digits, part_digits}
use Rattle.field_codec.proofs.Unscaled.{after_append, read_none, read_some, shifted_below}
use borrow.Author.Count.{below_more}

-- ---- digits behind a number

pub record Behind (number : ℕ) (text : List ℕ) (count value : ℕ) : Type 0 where
  pub digits : (k : ℕ) → k < count → is_ascii_digit (get_or text k 0) ≡ true
  pub writes : value ≡ digits_value_after 10 number (take count text)
  pub small : value < (number + 1) * 10 ^ count

pub behind_none : (number : ℕ) (text : List ℕ) → Behind number text 0 number
behind_none number text = record { digits = λ k none. absurd (omega (arith, none)); writes = refl; small = omega arith }

ten_times : (a k : ℕ) → a * 10 ^ suc k ≡ 10 * (a * 10 ^ k)
ten_times a k = let turned : a * (10 * 10 ^ k) ≡ 10 * (a * 10 ^ k) = grind arith in ap (λ (p : ℕ). a * p) (pow-succ' 10 k) ∙ turned

pub behind_more : (number : ℕ) (text : List ℕ) (count value next : ℕ) → Behind number text count value → count < length text
    → is_ascii_digit (get_or text count 0) ≡ true → next ≡ value * 10 + (get_or text count 0 - 48) → Behind number text (count + 1) next
behind_more number text count value next front within is e =
    let c = get_or text count 0 in
    let digit = digit_is c is in
    let more : count + 1 ≡ suc count = omega arith in
    record {
      digits = below_more (λ k. is_ascii_digit (get_or text k 0) ≡ true) count front.digits is;
      writes = e ∙ ap (λ (x : ℕ). x * 10 + (c - 48)) front.writes
          ∙ ap (λ (x : ℕ). digits_value_after 10 number (take count text) * 10 + x) (sym digit.value)
          ∙ sym (after_append number (take count text) (c ∷ []))
          ∙ ap (digits_value_after 10 number) (sym (take_more text count 0 within));
      small = rw more (omega (arith, front.small, digit.high, e, ten_times (number + 1) count));
    }

pub behind_ends : (number : ℕ) (text : List ℕ) (count value : ℕ) → Behind number text count value → count ≤ length text
    → (count < length text → is_ascii_digit (get_or text count 0) ≡ false) → prefix_len is_ascii_digit text ≡ count
behind_ends number text count value front within ends = prefix_len_is is_ascii_digit text count 0 within front.digits ends

-- a digit more keeps it small
pub behind_fits : (number : ℕ) (text : List ℕ) (count value : ℕ) → Behind number text count value → count < length text
    → (number + 1) * 10 ^ length text ≤ 10 ^ 18 → value * 10 + 10 ≤ 10 ^ 18
behind_fits number text count value front within few =
    omega (
      arith,
      front.small,
      few,
      ten_times (number + 1) count,
      mul-le-mul_left (number + 1) (few_digits (suc count) (length text) (omega (arith, within))),
    )

-- what each digit so far has been put into is at most 15, or a byte so far is no digit
pub record BehindRead (number : ℕ) (text : List ℕ) (count value all : ℕ) : Type 0 where
  pub front : all ≤ 15 → Behind number text count value
  pub other : 16 ≤ all → prefix_len is_ascii_digit text < count

pub read_behind_none : (number : ℕ) (text : List ℕ) → BehindRead number text 0 number 0
read_behind_none number text = record { front = λ low. behind_none number text; other = λ some. absurd (omega (arith, some)) }

stops_here : (text : List ℕ) (count : ℕ) → is_ascii_digit (get_or text count 0) ≡ false → prefix_len is_ascii_digit text < count + 1
stops_here text count not = elim (cases_lt (prefix_len is_ascii_digit text) (count + 1)) [
  | inl early ↦ early
  | inr late ↦ absurd (false≢true (sym not ∙ prefix_len_passes is_ascii_digit text count 0 (omega (arith, late))))
]

pub read_behind_more : (number : ℕ) (text : List ℕ) (count value all digit next : ℕ) → count < length text → (number + 1) * 10 ^ length text ≤ 10 ^ 18
    → digit ≡ (if is_ascii_digit (get_or text count 0) then get_or text count 0 - 48 else 16)
    → next ≡ (value * 10 % 2 ^ 64 + digit) % 2 ^ 64
    → BehindRead number text count value all → BehindRead number text (count + 1) next (bit_or all digit)
read_behind_more number text count value all digit next within few is_digit e read = elim (cases_Bool (is_ascii_digit (get_or text count 0))) [
  | inl is ↦
      let c = get_or text count 0 in
      let same : digit ≡ c - 48 = rw is at is_digit in
      let small : digit ≤ 9 = omega (arith, same, (digit_is c is).high) in
      record {
        front = λ low.
            let front = read.front (omega (arith, low, le_or_l all digit)) in
            let fits = behind_fits number text count value front within few in
            behind_more number text count value next front within is (omega (arith, e, fits, small, same));
        other = λ high. elim (cases_lt all 16) [
          | inl low ↦ let most : bit_or all digit < 2 ^ 4 = or_lt 4 all digit (omega (arith, low)) (omega (arith, small)) in absurd (omega (arith, high, most))
          | inr past ↦ omega (arith, read.other past)
        ];
      }
  | inr not ↦
      let same : digit ≡ 16 = rw not at is_digit in
      record { front = λ low. absurd (omega (arith, low, le_or_r all digit, same)); other = λ high. stops_here text count not }
]

-- ---- sizes

one_more : (a p : ℕ) → (a + 1) * p ≡ a * p + p
one_more a p = grind arith

-- a number of this many digits leaves room for digits behind it
pub room_behind : (whole count places : ℕ) → whole < 10 ^ count → count + places ≤ 18 → (whole + 1) * 10 ^ places ≤ 10 ^ 18
room_behind whole count places small few =
    omega (
      arith,
      mul-le-mul_right {m = whole + 1} {n = 10 ^ count} (10 ^ places) (omega (arith, small)),
      pow-add 10 count places,
      few_digits (count + places) 18 few,
    )

pub parts_small : (whole count fraction fine places high low : ℕ) → whole < 10 ^ count → fraction < 10 ^ fine → fine ≤ places → count + places ≤ 18
    → high ≡ 10 ^ places → low ≡ 10 ^ (places - fine) → whole * high + fraction * low < 10 ^ 18
parts_small whole count fraction fine places high low whole_small fraction_small within few is_high is_low =
    omega (
      arith,
      room_behind whole count places whole_small few,
      one_more whole (10 ^ places),
      shifted_below fraction fine (places - fine) places fraction_small (omega (arith, within)),
      ap (λ (x : ℕ). whole * x) is_high,
      ap (λ (x : ℕ). fraction * x) is_low,
    )

pub still_below : (number : Option ℕ) (below most : ℕ) → below ≤ most → IfSome number (λ n. n < below) → IfSome number (λ n. n < most)
still_below None below most few small = tt
still_below (Some n) below most few small = omega (arith, few, small)

-- ---- a point before exactly this many bytes

module _ (places point : ℕ) (text : List ℕ) (some : 0 < places) (len : length text ≡ point + 1 + places) (is : get_or text point 0 ≡ 46) where
  whole_len : length (take point text) ≡ point
  whole_len = omega (arith, length-take point text, len)

  fraction_len : length (drop (point + 1) text) ≡ places
  fraction_len = omega (arith, length-drop (point + 1) text, len)

  pub whole_fits : length text ≤ 19 → 1 * 10 ^ length (take point text) ≤ 10 ^ 18
  whole_fits few = omega (arith, few_digits (length (take point text)) 18 (omega (arith, whole_len, len, few)))

  pub fraction_fits : (whole : ℕ) → length text ≤ 19 → whole < 1 * 10 ^ length (take point text)
      → (whole + 1) * 10 ^ length (drop (point + 1) text) ≤ 10 ^ 18
  fraction_fits whole few small =
      rw fraction_len (room_behind whole point places (omega (arith, small, ap (λ (k : ℕ). 10 ^ k) whole_len)) (omega (arith, len, few)))

  -- what is behind the point is all that is left
  pub all_left : take (length text - (point + 1)) (drop (point + 1) text) ≡ drop (point + 1) text
  all_left = take_all (length text - (point + 1)) (drop (point + 1) text) (omega (arith, length-drop (point + 1) text))

  from_point : drop point text ≡ 46 ∷ drop (point + 1) text
  from_point = drop_more text point 0 (omega (arith, len)) ∙ ap (λ (c : ℕ). c ∷ drop (point + 1) text) is

  split : prefix_len is_ascii_digit text ≡ prefix_len is_ascii_digit (take point text ++ (46 ∷ drop (point + 1) text))
  split = ap (prefix_len is_ascii_digit) (sym (take-append-drop point text) ∙ ap (λ (rest : List ℕ). take point text ++ rest) from_point)

  digits_to_point : prefix_len is_ascii_digit (take point text) ≡ length (take point text) → point ≡ prefix_len is_ascii_digit text
  digits_to_point all =
      let same = eq-eqb (prefix_len is_ascii_digit (take point text)) (length (take point text)) all in
      let counted : prefix_len is_ascii_digit (take point text ++ (46 ∷ drop (point + 1) text)) ≡ length (take point text) + 0 =
      prefix_len-append is_ascii_digit (take point text) (46 ∷ drop (point + 1) text) ∙ rw same refl in
      omega (arith, split, counted, whole_len)

  other_before_point : prefix_len is_ascii_digit (take point text) < length (take point text) → prefix_len is_ascii_digit text < point
  other_before_point early =
      let other = ne_eqb (prefix_len is_ascii_digit (take point text)) (length (take point text)) (λ e. omega (arith, e, early)) in
      let counted : prefix_len is_ascii_digit (take point text ++ (46 ∷ drop (point + 1) text)) ≡ prefix_len is_ascii_digit (take point text) =
      prefix_len-append is_ascii_digit (take point text) (46 ∷ drop (point + 1) text) ∙ rw other refl in
      omega (arith, split, counted, whole_len, early)

  -- too many bytes are behind the first that is no digit
  fraction_long : (rest : List ℕ) → places + 1 < length rest → fraction_of places rest ≡ None
  fraction_long [] long = absurd (omega (arith, long))
  fraction_long (c ∷ digits) long =
      let past : nat_le (length digits) places ≡ false = lt-leb (length digits) places (omega (arith, long)) in
      rw (past, and-false ((c == 46) && is_numeral digits)) refl

  pub other_whole : prefix_len is_ascii_digit (take point text) < length (take point text) → read_unscaled places text ≡ None
  other_whole early =
      let count = prefix_len is_ascii_digit text in
      read_none places count text refl (fraction_long (drop count text) (omega (arith, length-drop count text, len, other_before_point early)))

  other_fraction : prefix_len is_ascii_digit (take point text) ≡ length (take point text)
      → prefix_len is_ascii_digit (drop (point + 1) text) < length (drop (point + 1) text) → read_unscaled places text ≡ None
  other_fraction all short =
      let digits : all_ascii_digits (drop (point + 1) text) ≡ false =
      part_digits (drop (point + 1) text) (prefix_len is_ascii_digit (drop (point + 1) text)) refl short in
      let long : nat_lt 0 (length (drop (point + 1) text)) ≡ true = lt-ltb 0 (length (drop (point + 1) text)) (omega (arith, some, fraction_len)) in
      let none : fraction_of places (46 ∷ drop (point + 1) text) ≡ None = rw (long, digits) refl in
      read_none places point text (digits_to_point all) (ap (fraction_of places) from_point ∙ none)

  fraction_read : prefix_len is_ascii_digit (drop (point + 1) text) ≡ length (drop (point + 1) text)
      → fraction_of places (drop point text) ≡ Some (drop (point + 1) text)
  fraction_read whole =
      let digits : all_ascii_digits (drop (point + 1) text) ≡ true =
      all_front (drop (point + 1) text) (length (drop (point + 1) text)) (sym whole) (omega arith) in
      let long : nat_lt 0 (length (drop (point + 1) text)) ≡ true = lt-ltb 0 (length (drop (point + 1) text)) (omega (arith, some, fraction_len)) in
      let few : nat_le (length (drop (point + 1) text)) places ≡ true = le-leb (length (drop (point + 1) text)) places (omega (arith, fraction_len)) in
      let found : fraction_of places (46 ∷ drop (point + 1) text) ≡ Some (drop (point + 1) text) = rw (long, digits, few) refl in
      ap (fraction_of places) from_point ∙ found

  unscaled_here : unscaled places (take point text) (drop (point + 1) text) ≡ digits_value_after 10 (digits_value 10 (take point text)) (drop (point + 1) text)
  unscaled_here =
      let none : places - length (drop (point + 1) text) ≡ 0 = omega (arith, fraction_len) in
      ap (λ (k : ℕ). digits_value 10 (take point text ++ (drop (point + 1) text ++ replicate k 48))) none
      ∙ ap (λ (ds : List ℕ). digits_value 10 (take point text ++ ds)) (append-nil (drop (point + 1) text))
      ∙ after_append 0 (take point text) (drop (point + 1) text)

  pub pointed_read : (whole : ℕ) (number : Option ℕ) → 0 < point → prefix_len is_ascii_digit (take point text) ≡ length (take point text)
      → whole ≡ digits_value_after 10 0 (take point text)
      → IfSome number (λ n. prefix_len is_ascii_digit (drop (point + 1) text) ≡ length (drop (point + 1) text))
      → IfSome number (λ n. n ≡ digits_value_after 10 whole (drop (point + 1) text))
      → IfNone number (prefix_len is_ascii_digit (drop (point + 1) text) < length (drop (point + 1) text))
      → number ≡ read_unscaled places text
  pointed_read whole (Some n) before all is_whole digits is_number other =
      let count = digits_to_point all in
      sym (read_some places point text (drop (point + 1) text) count (λ e. omega (arith, e, before)) (fraction_read digits)
      ∙ ap (λ (m : ℕ). Some m) (unscaled_here ∙ ap (λ (w : ℕ). digits_value_after 10 w (drop (point + 1) text)) (sym is_whole) ∙ sym is_number))
  pointed_read whole None before all is_whole digits is_number other = sym (other_fraction all other)
