-- The range of a number that is read from bytes.
use Rattle.std.proofs.Common.{◌≡◌, ◌∙◌, ℕ, zero, suc, ◌-◌, ◌*◌, ◌^◌, ◌<◌, ◌≤◌, Bool, true, false, List, [], ◌∷◌, get_or, take, drop, refl, ap, arith}
use Rattle.std.specs.Prelude.{pos, negsuc, nat_lt, if◌then◌else◌}
use Rattle.std.proofs.lemmas.Bool.{lt-ltb}
use Rattle.std.proofs.lemmas.Bool.Decides.{nat_tests}
use Rattle.std.proofs.lemmas.Nat.{pow-add, pow_pos}
use Rattle.data_types.specs.promise.FieldText.{in_range}
use Rattle.data_types.specs.promise.Packed.{le_number, meant, number_at}
use Rattle.raw_array.specs.promise.Members.{ArrayMembers}
use Rattle.layout_rules.specs.promise.Layout.{bytes, natural, offset}

-- ---- a number of this many bytes

abbrev pub AreBytes : List ℕ → Type 0
AreBytes bytes = (i : ℕ) → get_or bytes i 0 < 256

-- the numbers at all places are of this many bits
abbrev pub Numbered : List ℕ → Type 0
Numbered bytes = (at width : ℕ) → number_at bytes at width < 2 ^ (8 * width)

taken-small : (width : ℕ) (bytes : List ℕ) → AreBytes bytes → le_number (take width bytes) < 2 ^ (8 * width)
taken-small zero bytes are = omega arith
taken-small (suc width) [] are = omega (arith, pow_pos (8 * suc width))
taken-small (suc width) (b ∷ bs) are =
    let power : 2 ^ (8 * suc width) ≡ 2 ^ (8 * width) * 256 = ap (λ (e : ℕ). 2 ^ e) (omega arith) ∙ pow-add 2 (8 * width) 8 in
    omega (arith, are 0, power, taken-small width bs (λ i. are (suc i)))

dropped : (at : ℕ) (bytes : List ℕ) → AreBytes bytes → AreBytes (drop at bytes)
dropped zero bytes are = are
dropped (suc at) [] are = λ i. omega arith
dropped (suc at) (b ∷ bs) are = dropped at bs (λ i. are (suc i))

pub numbered : (bytes : List ℕ) → AreBytes bytes → Numbered bytes
numbered bytes are = λ at width. taken-small width (drop at bytes) (dropped at bytes are)

pub none-numbered : Numbered []
none-numbered = numbered [] (λ i. omega arith)

-- ---- what is meant by it

doubled : (width : ℕ) → 0 < width → 2 ^ (8 * width) ≡ 2 ^ (8 * width - 1) * 2
doubled width some = ap (λ (e : ℕ). 2 ^ e) (omega (arith, some)) ∙ pow-add 2 (8 * width - 1) 1

by-half : (width n : ℕ) → 0 < width → (low : Bool) → nat_lt n (2 ^ (8 * width - 1)) ≡ low
    → in_range (8 * width) true (if low then pos n else negsuc (2 ^ (8 * width) - 1 - n)) ≡ true
by-half width n some true is = is
by-half width n some false is =
    let high : 2 ^ (8 * width - 1) ≤ n = grind (arith, nat_tests, is) in
    lt-ltb (2 ^ (8 * width) - 1 - n) (2 ^ (8 * width - 1)) (omega (arith, doubled width some, high, pow_pos (8 * width - 1)))

pub signed-range : (width n : ℕ) → 0 < width → in_range (8 * width) true (meant width true n) ≡ true
signed-range width n some = by-half width n some (nat_lt n (2 ^ (8 * width - 1))) refl

pub unsigned-range : (width n : ℕ) → n < 2 ^ (8 * width) → in_range (8 * width) false (meant width false n) ≡ true
unsigned-range width n small = lt-ltb n (2 ^ (8 * width)) small

-- ---- an offset

low-half : (width n : ℕ) → 0 < width → (low : Bool) → nat_lt n (2 ^ (8 * width - 1)) ≡ low
    → natural (if low then pos n else negsuc (2 ^ (8 * width) - 1 - n)) < 2 ^ (8 * width - 1)
low-half width n some true is = grind (arith, nat_tests, is)
low-half width n some false is = omega (arith, pow_pos (8 * width - 1))

natural-range : (width n : ℕ) → 0 < width → natural (meant width true n) < 2 ^ (8 * width - 1)
natural-range width n some = low-half width n some (nat_lt n (2 ^ (8 * width - 1))) refl

-- offsets of this width reach this many bytes
abbrev pub Reaches : Bool → ℕ → Type 0
Reaches true total = total < 2 ^ 63
Reaches false total = total < 2 ^ 31

pub offset-reaches : (wide : Bool) (own : ArrayMembers) (place : ℕ) → Reaches wide (natural (offset wide own place))
offset-reaches true own place = natural-range 8 (number_at (bytes own 1) (place * 8) 8) (omega arith)
offset-reaches false own place = natural-range 4 (number_at (bytes own 1) (place * 4) 4) (omega arith)

pub reaches-less : (wide : Bool) (few many : ℕ) → few ≤ many → Reaches wide many → Reaches wide few
reaches-less true few many le near = omega (arith, le, near)
reaches-less false few many le near = omega (arith, le, near)
