-- The digits of a number of 64 bits, written into the end of a text, and those behind a point.
use Rattle.std.proofs.Common.{◌≡◌, ℕ, zero, suc, ◌+◌, ◌-◌, ◌*◌, ◌/◌, ◌%◌, ◌^◌, ◌<◌, ◌≤◌, Bool, true, false, List, [], ◌∷◌, ◌++◌, length, drop, set, sym, ap}
use Rattle.std.proofs.Common.{◌∙◌, arith}
use Rattle.std.specs.Prelude.{if◌then◌else◌}
use Rattle.std.specs.Fmt.{decimal, digit_glyph}
use Rattle.std.proofs.lemmas.Fmt.{decimal_digit, length-decimal-le}
use Rattle.std.proofs.lemmas.List.{append-nil, drop-set, drop_all}
use Rattle.std.proofs.lemmas.Nat.{div-add-mod', mod-mul-add}
use Rattle.std.proofs.Math.Nat.{mod-lt, pow-le-pow_right, pow-succ', pow-zero}
use Rattle.data_types.specs.promise.FieldText.{last_digits, point_text}
use Rattle.field_codec.proofs.PointText.{length-last_digits, steps}

-- ---- sizes

pub most_digits : (n : ℕ) → n < 2 ^ 64 → length (decimal n) ≤ 20
most_digits n small = length-decimal-le 20 n (omega arith) (omega (arith, small)) small

pub ten-some : (k : ℕ) → 0 < 10 ^ k
ten-some k = omega (arith, pow-le-pow_right {n = 10} (omega arith) {i = 0} {j = k} (omega arith), pow-zero 10)

ten-small : (k : ℕ) → k ≤ 18 → 10 ^ k ≤ 10 ^ 18
ten-small k few = pow-le-pow_right {n = 10} (omega arith) {i = k} {j = 18} few

-- a unit and what is left below it
pub unit-small : (k n : ℕ) → k ≤ 18 → 10 ^ k + n % 10 ^ k < 2 ^ 64
unit-small k n few = omega (arith, ten-small k few, mod-lt n (ten-some k))

-- ---- the digits below a unit

-- what is left below ten units
mod-ten : (p n : ℕ) → 0 < p → n % (10 * p) ≡ 10 * ((n / 10) % p) + n % 10
mod-ten p n some =
    let above = n / 10 / p in
    let below = (n / 10) % p in
    let digit = n % 10 in
    let small : 10 * below + digit < 10 * p = omega (arith, mod-lt (n / 10) some) in
    let split : n / 10 ≡ above * p + below = sym (div-add-mod' (n / 10) p) in
    let tens : 10 * (above * p) ≡ above * (10 * p) = grind arith in
    let whole : n ≡ above * (10 * p) + (10 * below + digit) = omega (arith, split, tens) in
    ap (λ (m : ℕ). m % (10 * p)) whole ∙ mod-mul-add above (10 * p) (10 * below + digit) small

-- the unit's digit, and the lowest digits of the number
unit_digits : (k n : ℕ) → 10 ^ k + n % 10 ^ k < 10 ^ 64 → decimal (10 ^ k + n % 10 ^ k) ≡ 49 ∷ last_digits 10 k n
unit_digits zero n small =
    let one : 10 ^ 0 + n % 10 ^ 0 ≡ 1 = omega (arith, pow-zero 10, mod-lt n (ten-some 0)) in
    ap decimal one ∙ decimal_digit 1 (omega arith)
unit_digits (suc k) n small =
    let p = 10 ^ k in
    let some : 0 < p = ten-some k in
    let power : 10 ^ suc k ≡ 10 * p = pow-succ' 10 k in
    let below : n % 10 ^ suc k ≡ 10 * ((n / 10) % p) + n % 10 = ap (λ (m : ℕ). n % m) power ∙ mod-ten p n some in
    let m = 10 ^ suc k + n % 10 ^ suc k in
    let front : m / 10 ≡ p + (n / 10) % p = omega (arith, power, below) in
    let digit : m % 10 ≡ n % 10 = omega (arith, power, below) in
    let rest : decimal (m / 10) ≡ 49 ∷ last_digits 10 k (n / 10) = ap decimal front ∙ unit_digits k (n / 10) (omega (arith, small, front)) in
    steps m (omega (arith, power, some)) small
    ∙ ap (λ (d : ℕ). decimal (m / 10) ++ (digit_glyph false d ∷ [])) digit
    ∙ ap (λ (ds : List ℕ). ds ++ (digit_glyph false (n % 10) ∷ [])) rest

pub wide : (m : ℕ) → m < 2 ^ 64 → m < 10 ^ 64
wide m small = omega (arith, small)

pub unit-long : (k n : ℕ) → k ≤ 18 → length (decimal (10 ^ k + n % 10 ^ k)) ≡ k + 1
unit-long k n few = omega (arith, ap (λ (ds : List ℕ). length ds) (unit_digits k n (wide _ (unit-small k n few))), length-last_digits k n)

-- ---- texts

-- a byte before what is at the end of a text
pub behind_byte : (text rest : List ℕ) (at byte : ℕ) → 1 ≤ at → at ≤ length text → drop at text ≡ rest → drop (at - 1) (set text (at - 1) byte) ≡ byte ∷ rest
behind_byte text rest at byte some within is =
    let next : at - 1 + 1 ≡ at = omega (arith, some) in
    drop-set text (at - 1) byte (omega (arith, some, within)) ∙ ap (λ (n : ℕ). byte ∷ drop n text) next ∙ ap (λ (bytes : List ℕ). byte ∷ bytes) is

tail-of : (text : List ℕ) (at byte : ℕ) (rest : List ℕ) → drop at text ≡ byte ∷ rest → drop (suc at) text ≡ rest
tail-of [] zero byte rest e = absurd cc
tail-of [] (suc at) byte rest e = absurd cc
tail-of (x ∷ text) zero byte rest e = cc
tail-of (x ∷ text) (suc at) byte rest e = tail-of text at byte rest e

-- the point takes the place of the unit's digit
pub pointed-digits : (k n at : ℕ) (text old : List ℕ) → k ≤ 18 → at < length text → length old ≡ 40
    → drop at text ≡ decimal (10 ^ k + n % 10 ^ k) ++ drop 40 old
    → drop at (set text at 46) ≡ 46 ∷ last_digits 10 k n
pointed-digits k n at text old few inside size is =
    let next : at + 1 ≡ suc at = omega arith in
    let none : drop 40 old ≡ [] = drop_all 40 old (omega (arith, size)) in
    let all : drop at text ≡ 49 ∷ last_digits 10 k n =
    is ∙ ap (λ (ds : List ℕ). decimal (10 ^ k + n % 10 ^ k) ++ ds) none ∙ append-nil (decimal (10 ^ k + n % 10 ^ k))
    ∙ unit_digits k n (wide _ (unit-small k n few)) in
    drop-set text at 46 inside ∙ ap (λ (m : ℕ). 46 ∷ drop m text) next ∙ ap (λ (ds : List ℕ). 46 ∷ ds) (tail-of text at 49 (last_digits 10 k n) all)

pub with-point : (minus : Bool) (places n unit : ℕ) (text rest : List ℕ) → 0 < places → unit ≡ 10 ^ places
    → text ≡ (if minus then 45 ∷ decimal (n / unit) else decimal (n / unit)) ++ rest → rest ≡ 46 ∷ last_digits 10 places n
    → text ≡ (if minus then 45 ∷ point_text places n else point_text places n)
with-point minus zero n unit text rest some is e behind = absurd (omega (arith, some))
with-point true (suc more) n unit text rest some is e behind =
    e ∙ ap (λ (ds : List ℕ). 45 ∷ (decimal (n / unit) ++ ds)) behind ∙ ap (λ (u : ℕ). 45 ∷ (decimal (n / u) ++ (46 ∷ last_digits 10 (suc more) n))) is
with-point false (suc more) n unit text rest some is e behind =
    e ∙ ap (λ (ds : List ℕ). decimal (n / unit) ++ ds) behind ∙ ap (λ (u : ℕ). decimal (n / u) ++ (46 ∷ last_digits 10 (suc more) n)) is

pub without-point : (minus : Bool) (places n : ℕ) (text old : List ℕ) → places ≡ 0 → length old ≡ 40
    → text ≡ (if minus then 45 ∷ decimal n else decimal n) ++ drop 40 old
    → text ≡ (if minus then 45 ∷ point_text places n else point_text places n)
without-point true zero n text old none size e =
    e ∙ ap (λ (ds : List ℕ). 45 ∷ (decimal n ++ ds)) (drop_all 40 old (omega (arith, size))) ∙ ap (λ (ds : List ℕ). 45 ∷ ds) (append-nil (decimal n))
without-point false zero n text old none size e = e ∙ ap (λ (ds : List ℕ). decimal n ++ ds) (drop_all 40 old (omega (arith, size))) ∙ append-nil (decimal n)
without-point minus (suc more) n text old none size e = absurd (omega (arith, none))
