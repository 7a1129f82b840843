-- A buffer's line: what is read of it is spelled by it, and what is spelled is read.
use Rattle.std.proofs.Common.{◌≡◌, ℕ, ◌+◌, ◌-◌, ◌*◌, ◌/◌, ◌%◌, ◌<◌, ◌≤◌, Bool, true, false, List, [], ◌∷◌, ◌++◌, take, drop, Option, Some}
use Rattle.std.proofs.Common.{None, refl, sym, ap, ◌∙◌, arith, inl, inr}
use Rattle.std.specs.Prelude.{nat_le, ◌&&◌, ◌||◌, codes}
use Rattle.std.specs.Char.{digit_value, is_ascii_hexdigit, is_ascii_uppercase}
use Rattle.std.specs.Int.{is_in_range}
use Rattle.std.specs.Fmt.{digit_glyph}
use Rattle.std.specs.List.{list_any}
use Rattle.std.specs.Option.{option_map}
use Rattle.std.specs.Str.{bytes_eq}
use Rattle.std.specs.Str.Parse.{digits_value}
use Rattle.std.proofs.lemmas.Bool.{cases_Bool, and_parts, false≢true, leb-true, le-leb, lt-ltb, le-ltb}
use Rattle.std.proofs.lemmas.List.{take-append-drop}
use Rattle.std.proofs.lemmas.Slice.Eq.{bytes_eq-Decides}
use Rattle.data_types.specs.promise.FieldText.{hex_bytes, hex_text, last_digits}
use Rattle.tree_text.specs.promise.TreeText.{AreBytes, AreBytesIf, buffer_text}
use Rattle.tree_text.specs.promise.Standing.{read_lower_hex, read_buffer_line}

glyph_value : (d : ℕ) → d < 16 → digit_value (digit_glyph false d) ≡ d
glyph_value d small = grind arith

glyph_hex : (d : ℕ) → d < 16 → is_ascii_hexdigit (digit_glyph false d) ≡ true
glyph_hex d small = grind arith

glyph_lower : (d : ℕ) → is_ascii_uppercase (digit_glyph false d) ≡ false
glyph_lower d = grind arith

record Range (low high c : ℕ) : Type 0 where
  above : low ≤ c
  below : c ≤ high

range_is : (low high c : ℕ) → is_in_range low high c ≡ true → Range low high c
range_is low high c is =
    let parts : (nat_le low c ≡ true) × (nat_le c high ≡ true) = and_parts _ _ is in
    record { above = leb-true low c parts.0; below = leb-true c high parts.1 }

-- a digit, and in lower case the one of its value
record Digit (c : ℕ) : Type 0 where
  small : digit_value c < 16
  glyph : is_ascii_uppercase c ≡ false → digit_glyph false (digit_value c) ≡ c

number_digit : (c : ℕ) → Range 48 57 c → Digit c
number_digit c r =
    let value : digit_value c ≡ c - 48 = rw (le-ltb c 48 r.above, lt-ltb c 58 (omega (arith, r.below))) refl in
    record { small = omega (arith, value, r.below); glyph = λ lower. rw (value, lt-ltb (c - 48) 10 (omega (arith, r.below))) (omega (arith, r.above)) }

letter_digit : (c : ℕ) → Range 97 102 c → Digit c
letter_digit c r =
    let value : digit_value c ≡ c - 87 =
    rw (
      le-ltb c 48 (omega (arith, r.above)),
      le-ltb c 58 (omega (arith, r.above)),
      le-ltb c 65 (omega (arith, r.above)),
      le-ltb c 91 (omega (arith, r.above)),
      le-ltb c 97 r.above,
      lt-ltb c 123 (omega (arith, r.below)),
    ) refl in
    record { small = omega (arith, value, r.above, r.below); glyph = λ lower. rw (value, le-ltb (c - 87) 10 (omega (arith, r.above))) (omega (arith, r.above)) }

upper_digit : (c : ℕ) → Range 65 70 c → Digit c
upper_digit c r =
    let value : digit_value c ≡ c - 55 =
    rw (le-ltb c 48 (omega (arith, r.above)), le-ltb c 58 (omega (arith, r.above)), le-ltb c 65 r.above, lt-ltb c 91 (omega (arith, r.below))) refl in
    let upper : is_ascii_uppercase c ≡ true = rw (le-leb 65 c r.above, le-leb c 90 (omega (arith, r.below))) refl in
    record { small = omega (arith, value, r.above, r.below); glyph = λ lower. absurd (false≢true (sym lower ∙ upper)) }

digit_is : (c : ℕ) → is_ascii_hexdigit c ≡ true → Digit c
digit_is c is = elim (cases_Bool (is_in_range 48 57 c)) [
  | inl number ↦ number_digit c (range_is 48 57 c number)
  | inr other ↦ elim (cases_Bool (is_in_range 97 102 c)) [
    | inl letter ↦ letter_digit c (range_is 97 102 c letter)
    | inr no_letter ↦ elim (cases_Bool (is_in_range 65 70 c)) [
      | inl upper ↦ upper_digit c (range_is 65 70 c upper)
      | inr none ↦ let not_hex : is_ascii_hexdigit c ≡ false = rw (other, none, no_letter) refl in absurd (false≢true (sym not_hex ∙ is))
    ]
  ]
]

-- ---- pairs of digits

pub record HexIs (text bytes : List ℕ) : Type 0 where
  pub spelled : text ≡ hex_text bytes
  pub fit : AreBytes bytes

pair_text : (h l : ℕ) → Digit h → Digit l → is_ascii_uppercase h ≡ false → is_ascii_uppercase l ≡ false
    → h ∷ l ∷ [] ≡ last_digits 16 2 (digits_value 16 (h ∷ l ∷ []))
pair_text h l high low upper_h upper_l =
    let first : digits_value 16 (h ∷ l ∷ []) / 16 % 16 ≡ digit_value h = omega (arith, high.small, low.small) in
    let second : digits_value 16 (h ∷ l ∷ []) % 16 ≡ digit_value l = omega (arith, high.small, low.small) in
    rw (first, second, high.glyph upper_h, low.glyph upper_l) refl

or_parts : (a b : Bool) → (a || b) ≡ false → (a ≡ false) × (b ≡ false)
or_parts true b e = absurd (false≢true (sym e))
or_parts false b e = (refl, e)

some_hex : (h l : ℕ) (rest : List ℕ) (read : Option (List ℕ)) (bytes : List ℕ) (P : Type 0)
    → option_map (λ (bs : List ℕ). digits_value 16 (h ∷ l ∷ []) ∷ bs) read ≡ Some bytes
    → ((bs : List ℕ) → read ≡ Some bs → digits_value 16 (h ∷ l ∷ []) ∷ bs ≡ bytes → P) → P
some_hex h l rest None bytes P found use_it = let clash : None ≡ Some bytes = found in absurd cc
some_hex h l rest (Some bs) bytes P found use_it = use_it bs refl (search found)

hex_read : (text bytes : List ℕ) → list_any is_ascii_uppercase text ≡ false → hex_bytes text ≡ Some bytes → HexIs text bytes
hex_read [] bytes lower found = let same : [] ≡ bytes = search found in rw (← same) (record { spelled = refl; fit = tt })
hex_read (h ∷ []) bytes lower found = let clash : None ≡ Some bytes = found in absurd cc
hex_read (h ∷ l ∷ rest) bytes lower found = elim (cases_Bool (is_ascii_hexdigit h && is_ascii_hexdigit l)) [
  | inl digits ↦
      let both : (is_ascii_hexdigit h ≡ true) × (is_ascii_hexdigit l ≡ true) = and_parts _ _ digits in
      let high = digit_is h both.0 in
      let low = digit_is l both.1 in
      let upper_h = or_parts (is_ascii_uppercase h) (list_any is_ascii_uppercase (l ∷ rest)) lower in
      let upper_l = or_parts (is_ascii_uppercase l) (list_any is_ascii_uppercase rest) upper_h.1 in
      let here : hex_bytes (h ∷ l ∷ rest) ≡ option_map (λ (bs : List ℕ). digits_value 16 (h ∷ l ∷ []) ∷ bs) (hex_bytes rest) = rw digits refl in
      some_hex h l rest (hex_bytes rest) bytes (HexIs (h ∷ l ∷ rest) bytes) (sym here ∙ found) (λ bs more same.
      let all = hex_read rest bs upper_l.1 more in
      let pair = pair_text h l high low upper_h.0 upper_l.0 in
      rw (← same) (record { spelled = λ i. pair i ++ all.spelled i; fit = (omega (arith, high.small, low.small), all.fit) }))
  | inr other ↦
      let none : hex_bytes (h ∷ l ∷ rest) ≡ None = rw other refl in
      let clash : None ≡ Some bytes = sym none ∙ found in absurd cc
]

hex_back : (bytes : List ℕ) → AreBytes bytes → hex_bytes (hex_text bytes) ≡ Some bytes
hex_back [] fit = refl
hex_back (b ∷ bs) fit =
    let high : b / 16 % 16 < 16 = omega arith in
    let low : b % 16 < 16 = omega arith in
    let byte : (0 * 16 + b / 16 % 16) * 16 + b % 16 ≡ b = omega (arith, fit.0) in
    rw (glyph_hex (b / 16 % 16) high, glyph_hex (b % 16) low, hex_back bs fit.1, glyph_value (b / 16 % 16) high, glyph_value (b % 16) low)
    (ap (λ (x : ℕ). Some (x ∷ bs)) byte)

hex_lower : (bytes : List ℕ) → list_any is_ascii_uppercase (hex_text bytes) ≡ false
hex_lower [] = refl
hex_lower (b ∷ bs) = rw (glyph_lower (b / 16 % 16), glyph_lower (b % 16)) (hex_lower bs)

-- ---- lines

pub record BufferTold (line : List ℕ) (told : Option (List ℕ)) : Type 0 where
  pub spelled : line ≡ buffer_text told
  pub fit : AreBytesIf told

some_bytes : (line : List ℕ) (read : Option (List ℕ)) (told : Option (List ℕ)) → take 3 line ≡ codes "B =" → read_lower_hex (drop 3 line) ≡ read
    → option_map (λ (b : List ℕ). Some b) read ≡ Some told → BufferTold line told
some_bytes line None told front is found = let clash : None ≡ Some told = found in absurd cc
some_bytes line (Some bytes) told front is found = elim (cases_Bool (list_any is_ascii_uppercase (drop 3 line))) [
  | inl upper ↦
      let none : read_lower_hex (drop 3 line) ≡ None = rw upper refl in
      let clash : None ≡ Some bytes = sym none ∙ is in absurd cc
  | inr lower ↦
      let here : read_lower_hex (drop 3 line) ≡ hex_bytes (drop 3 line) = rw lower refl in
      let all = hex_read (drop 3 line) bytes lower (sym here ∙ is) in
      let same : Some bytes ≡ told = search found in
      rw (← same) (record { spelled = sym (take-append-drop 3 line) ∙ (λ i. front i ++ all.spelled i); fit = all.fit })
]

pub buffer_read : (line : List ℕ) (told : Option (List ℕ)) → read_buffer_line line ≡ Some told → BufferTold line told
buffer_read line told found = elim (cases_Bool (bytes_eq line (codes "B ~"))) [
  | inl absent ↦
      let is : read_buffer_line line ≡ Some None = rw absent refl in
      let same : None ≡ told = search (sym is ∙ found) in
      rw (← same) (record { spelled = (bytes_eq-Decides line (codes "B ~")).0 absent; fit = tt })
  | inr present ↦ elim (cases_Bool (bytes_eq (take 3 line) (codes "B ="))) [
    | inl front ↦
        let is : read_buffer_line line ≡ option_map (λ (b : List ℕ). Some b) (read_lower_hex (drop 3 line)) = rw (present, front) refl in
        some_bytes line (read_lower_hex (drop 3 line)) told ((bytes_eq-Decides (take 3 line) (codes "B =")).0 front) refl (sym is ∙ found)
    | inr other ↦
        let none : read_buffer_line line ≡ None = rw (present, other) refl in
        let clash : None ≡ Some told = sym none ∙ found in absurd cc
  ]
]

pub buffer_back : (told : Option (List ℕ)) → AreBytesIf told → read_buffer_line (buffer_text told) ≡ Some told
buffer_back None fit = refl
buffer_back (Some bytes) fit =
    let lower : read_lower_hex (hex_text bytes) ≡ Some bytes = rw (hex_lower bytes) (hex_back bytes fit) in
    ap (option_map (λ (b : List ℕ). Some b)) lower
