-- Bits in bytes, with one more bit.
use Rattle.std.proofs.Common.{◌≡◌, ◌+◌, ◌-◌, ◌*◌, ◌%◌, ◌^◌, ◌<◌, ◌≤◌, ◌++◌, ℕ, zero, suc, Bool, true, false, List, [], ◌∷◌, length, get_or, set, replicate}
use Rattle.std.proofs.Common.{◌∙◌, refl, ap, append_assoc, length-append, arith}
use Rattle.std.proofs.lemmas.List.{length-replicate, replicate-append-replicate}
use Rattle.std.proofs.Math.Nat.{pow-suc}
use Rattle.col_build.specs.promise.Encoding.{bit_bytes, bit_value, byte_of}
use Rattle.col_build.specs.Times.{AddsBits, ShowsBits}

pub value-small : (flag : Bool) → bit_value flag ≤ 1
value-small true = omega arith
value-small false = omega arith

-- ---- a bit that begins a byte
-- a bit that begins a byte
pub bits-begin : (flags : List Bool) (q : ℕ) (flag : Bool) → length flags ≡ 8 * q → bit_bytes (flags ++ flag ∷ []) ≡ bit_bytes flags ++ bit_value flag ∷ []
bits-begin [] q flag e = ap (λ n. n ∷ []) (omega arith)
bits-begin (a ∷ []) q flag e = absurd (omega arith)
bits-begin (a ∷ b ∷ []) q flag e = absurd (omega arith)
bits-begin (a ∷ b ∷ c ∷ []) q flag e = absurd (omega arith)
bits-begin (a ∷ b ∷ c ∷ d ∷ []) q flag e = absurd (omega arith)
bits-begin (a ∷ b ∷ c ∷ d ∷ f ∷ []) q flag e = absurd (omega arith)
bits-begin (a ∷ b ∷ c ∷ d ∷ f ∷ g ∷ []) q flag e = absurd (omega arith)
bits-begin (a ∷ b ∷ c ∷ d ∷ f ∷ g ∷ h ∷ []) q flag e = absurd (omega arith)
bits-begin (a ∷ b ∷ c ∷ d ∷ f ∷ g ∷ h ∷ i ∷ flags) zero flag e = absurd (omega arith)
bits-begin (a ∷ b ∷ c ∷ d ∷ f ∷ g ∷ h ∷ i ∷ flags) (suc q) flag e =
    ap (λ bytes. byte_of (a ∷ b ∷ c ∷ d ∷ f ∷ g ∷ h ∷ i ∷ []) ∷ bytes) (bits-begin flags q flag (omega arith))

byte-small : (flags : List Bool) → byte_of flags < 2 ^ length flags
byte-small [] = omega arith
byte-small (flag ∷ flags) =
    let power : 2 ^ suc (length flags) ≡ 2 ^ length flags * 2 = pow-suc 2 (length flags) in
    omega (arith, power, value-small flag, byte-small flags)

-- ---- a bit within a byte
-- flags end this many bits into a byte, which has no other bit set
pub record EndsWithin (flags : List Bool) (q r : ℕ) : Type 0 where
  pub there : length (bit_bytes flags) ≡ q + 1
  pub small : get_or (bit_bytes flags) q 0 < 2 ^ r

pub ends-within : (flags : List Bool) (q r : ℕ) → length flags ≡ 8 * q + r → 1 ≤ r → r < 8 → EndsWithin flags q r
ends-within [] q r e some less = absurd (omega arith)
ends-within (a ∷ []) q r e some less =
    let first : q ≡ 0 = omega arith in
    let place : r ≡ 1 = omega arith in
    rw (first, place) (record { there = refl; small = byte-small (a ∷ []) })
ends-within (a ∷ b ∷ []) q r e some less =
    let first : q ≡ 0 = omega arith in
    let place : r ≡ 2 = omega arith in
    rw (first, place) (record { there = refl; small = byte-small (a ∷ b ∷ []) })
ends-within (a ∷ b ∷ c ∷ []) q r e some less =
    let first : q ≡ 0 = omega arith in
    let place : r ≡ 3 = omega arith in
    rw (first, place) (record { there = refl; small = byte-small (a ∷ b ∷ c ∷ []) })
ends-within (a ∷ b ∷ c ∷ d ∷ []) q r e some less =
    let first : q ≡ 0 = omega arith in
    let place : r ≡ 4 = omega arith in
    rw (first, place) (record { there = refl; small = byte-small (a ∷ b ∷ c ∷ d ∷ []) })
ends-within (a ∷ b ∷ c ∷ d ∷ f ∷ []) q r e some less =
    let first : q ≡ 0 = omega arith in
    let place : r ≡ 5 = omega arith in
    rw (first, place) (record { there = refl; small = byte-small (a ∷ b ∷ c ∷ d ∷ f ∷ []) })
ends-within (a ∷ b ∷ c ∷ d ∷ f ∷ g ∷ []) q r e some less =
    let first : q ≡ 0 = omega arith in
    let place : r ≡ 6 = omega arith in
    rw (first, place) (record { there = refl; small = byte-small (a ∷ b ∷ c ∷ d ∷ f ∷ g ∷ []) })
ends-within (a ∷ b ∷ c ∷ d ∷ f ∷ g ∷ h ∷ []) q r e some less =
    let first : q ≡ 0 = omega arith in
    let place : r ≡ 7 = omega arith in
    rw (first, place) (record { there = refl; small = byte-small (a ∷ b ∷ c ∷ d ∷ f ∷ g ∷ h ∷ []) })
ends-within (a ∷ b ∷ c ∷ d ∷ f ∷ g ∷ h ∷ i ∷ flags) zero r e some less = absurd (omega arith)
ends-within (a ∷ b ∷ c ∷ d ∷ f ∷ g ∷ h ∷ i ∷ flags) (suc q) r e some less =
    let rest = ends-within flags q r (omega arith) some less in
    record { there = omega (arith, rest.there); small = rest.small }

-- a bit within a byte
pub bits-more : (flags : List Bool) (q r : ℕ) (flag : Bool) → length flags ≡ 8 * q + r → 1 ≤ r → r < 8
    → bit_bytes (flags ++ flag ∷ []) ≡ set (bit_bytes flags) q (get_or (bit_bytes flags) q 0 + bit_value flag * 2 ^ r)
bits-more [] q r flag e some less = absurd (omega arith)
bits-more (a ∷ []) q r flag e some less =
    let first : q ≡ 0 = omega arith in
    let place : r ≡ 1 = omega arith in
    rw (first, place) (ap (λ n. n ∷ []) (omega arith))
bits-more (a ∷ b ∷ []) q r flag e some less =
    let first : q ≡ 0 = omega arith in
    let place : r ≡ 2 = omega arith in
    rw (first, place) (ap (λ n. n ∷ []) (omega arith))
bits-more (a ∷ b ∷ c ∷ []) q r flag e some less =
    let first : q ≡ 0 = omega arith in
    let place : r ≡ 3 = omega arith in
    rw (first, place) (ap (λ n. n ∷ []) (omega arith))
bits-more (a ∷ b ∷ c ∷ d ∷ []) q r flag e some less =
    let first : q ≡ 0 = omega arith in
    let place : r ≡ 4 = omega arith in
    rw (first, place) (ap (λ n. n ∷ []) (omega arith))
bits-more (a ∷ b ∷ c ∷ d ∷ f ∷ []) q r flag e some less =
    let first : q ≡ 0 = omega arith in
    let place : r ≡ 5 = omega arith in
    rw (first, place) (ap (λ n. n ∷ []) (omega arith))
bits-more (a ∷ b ∷ c ∷ d ∷ f ∷ g ∷ []) q r flag e some less =
    let first : q ≡ 0 = omega arith in
    let place : r ≡ 6 = omega arith in
    rw (first, place) (ap (λ n. n ∷ []) (omega arith))
bits-more (a ∷ b ∷ c ∷ d ∷ f ∷ g ∷ h ∷ []) q r flag e some less =
    let first : q ≡ 0 = omega arith in
    let place : r ≡ 7 = omega arith in
    rw (first, place) (ap (λ n. n ∷ []) (omega arith))
bits-more (a ∷ b ∷ c ∷ d ∷ f ∷ g ∷ h ∷ i ∷ flags) zero r flag e some less = absurd (omega arith)
bits-more (a ∷ b ∷ c ∷ d ∷ f ∷ g ∷ h ∷ i ∷ flags) (suc q) r flag e some less =
    ap (λ bytes. byte_of (a ∷ b ∷ c ∷ d ∷ f ∷ g ∷ h ∷ i ∷ []) ∷ bytes) (bits-more flags q r flag (omega arith) some less)

-- ---- whole bytes, and the bits above them
-- the length of whole bytes
pub whole-length : (flags : List Bool) (q : ℕ) → length flags ≡ 8 * q → length (bit_bytes flags) ≡ q
whole-length [] q e = omega arith
whole-length (a ∷ []) q e = absurd (omega arith)
whole-length (a ∷ b ∷ []) q e = absurd (omega arith)
whole-length (a ∷ b ∷ c ∷ []) q e = absurd (omega arith)
whole-length (a ∷ b ∷ c ∷ d ∷ []) q e = absurd (omega arith)
whole-length (a ∷ b ∷ c ∷ d ∷ f ∷ []) q e = absurd (omega arith)
whole-length (a ∷ b ∷ c ∷ d ∷ f ∷ g ∷ []) q e = absurd (omega arith)
whole-length (a ∷ b ∷ c ∷ d ∷ f ∷ g ∷ h ∷ []) q e = absurd (omega arith)
whole-length (a ∷ b ∷ c ∷ d ∷ f ∷ g ∷ h ∷ i ∷ flags) zero e = absurd (omega arith)
whole-length (a ∷ b ∷ c ∷ d ∷ f ∷ g ∷ h ∷ i ∷ flags) (suc q) e = omega (arith, whole-length flags q (omega arith))

-- bits that are set, and a clear one behind them
pub bits-filled : (q r : ℕ) → r < 8 → bit_bytes (replicate (8 * q + r) true ++ false ∷ []) ≡ replicate q 255 ++ (2 ^ r - 1) ∷ []
bits-filled zero zero less = refl
bits-filled zero (suc zero) less = refl
bits-filled zero (suc (suc zero)) less = refl
bits-filled zero (suc (suc (suc zero))) less = refl
bits-filled zero (suc (suc (suc (suc zero)))) less = refl
bits-filled zero (suc (suc (suc (suc (suc zero))))) less = refl
bits-filled zero (suc (suc (suc (suc (suc (suc zero)))))) less = refl
bits-filled zero (suc (suc (suc (suc (suc (suc (suc zero))))))) less = refl
bits-filled zero (suc (suc (suc (suc (suc (suc (suc (suc r)))))))) less = absurd (omega arith)
bits-filled (suc q) r less =
    let eight : 8 * suc q + r ≡ suc (suc (suc (suc (suc (suc (suc (suc (8 * q + r)))))))) = omega arith in
    rw eight (ap (λ bytes. 255 ∷ bytes) (bits-filled q r less))

-- a byte of one bit eight times
abbrev pub full_byte : Bool → ℕ
full_byte true = 255
full_byte false = 0

bits-all : (k : ℕ) (flag : Bool) → bit_bytes (replicate (8 * k) flag) ≡ replicate k (full_byte flag)
bits-all zero flag = refl
bits-all (suc k) true =
    let eight : 8 * suc k ≡ suc (suc (suc (suc (suc (suc (suc (suc (8 * k)))))))) = omega arith in
    rw eight (ap (λ bytes. 255 ∷ bytes) (bits-all k true))
bits-all (suc k) false =
    let eight : 8 * suc k ≡ suc (suc (suc (suc (suc (suc (suc (suc (8 * k)))))))) = omega arith in
    rw eight (ap (λ bytes. 0 ∷ bytes) (bits-all k false))

-- behind whole bytes
pub bits-whole : (flags : List Bool) (q k : ℕ) (flag : Bool) → length flags ≡ 8 * q
    → bit_bytes (flags ++ replicate (8 * k) flag) ≡ bit_bytes flags ++ replicate k (full_byte flag)
bits-whole [] q k flag e = bits-all k flag
bits-whole (a ∷ []) q k flag e = absurd (omega arith)
bits-whole (a ∷ b ∷ []) q k flag e = absurd (omega arith)
bits-whole (a ∷ b ∷ c ∷ []) q k flag e = absurd (omega arith)
bits-whole (a ∷ b ∷ c ∷ d ∷ []) q k flag e = absurd (omega arith)
bits-whole (a ∷ b ∷ c ∷ d ∷ f ∷ []) q k flag e = absurd (omega arith)
bits-whole (a ∷ b ∷ c ∷ d ∷ f ∷ g ∷ []) q k flag e = absurd (omega arith)
bits-whole (a ∷ b ∷ c ∷ d ∷ f ∷ g ∷ h ∷ []) q k flag e = absurd (omega arith)
bits-whole (a ∷ b ∷ c ∷ d ∷ f ∷ g ∷ h ∷ i ∷ flags) zero k flag e = absurd (omega arith)
bits-whole (a ∷ b ∷ c ∷ d ∷ f ∷ g ∷ h ∷ i ∷ flags) (suc q) k flag e =
    ap (λ bytes. byte_of (a ∷ b ∷ c ∷ d ∷ f ∷ g ∷ h ∷ i ∷ []) ∷ bytes) (bits-whole flags q k flag (omega arith))

-- a bit this many times, and this many times more
pub adds-more : (count more times : ℕ) (flag : Bool) (old between new : List ℕ) → AddsBits count flag more old between
    → AddsBits (count + more) flag times between new → AddsBits count flag (more + times) old new
adds-more count more times flag old between new first then = λ flags len is.
    let here = flags ++ replicate more flag in
    then here (omega (arith, length-append flags (replicate more flag), length-replicate more flag, len)) (first flags len is)
    ∙ ap bit_bytes (append_assoc flags (replicate more flag) (replicate times flag)
    ∙ ap (λ (fs : List Bool). flags ++ fs) (replicate-append-replicate more times flag))

pub shows-more : (count more : ℕ) (flag : Bool) (old between : List ℕ) → ShowsBits count old → AddsBits count flag more old between
    → ShowsBits (count + more) between
shows-more count more flag old between shows first = (
  shows.0 ++ replicate more flag,
  omega (arith, length-append shows.0 (replicate more flag), length-replicate more flag, shows.1),
  first shows.0 shows.1 shows.2,
)

-- the one bit of a place within a byte, and what is still free above the lower ones
pub record Mask (r : ℕ) : Type 0 where
  pub one : 1 * 2 ^ r % 256 ≡ 2 ^ r
  pub room : 2 ^ r + 2 ^ r ≤ 256
  pub some : 1 ≤ 2 ^ r
  pub fits : 2 ^ r ≤ 128

pub mask : (r : ℕ) → r < 8 → Mask r
mask zero less = record { one = refl; room = omega arith; some = omega arith; fits = omega arith }
mask (suc zero) less = record { one = refl; room = omega arith; some = omega arith; fits = omega arith }
mask (suc (suc zero)) less = record { one = refl; room = omega arith; some = omega arith; fits = omega arith }
mask (suc (suc (suc zero))) less = record { one = refl; room = omega arith; some = omega arith; fits = omega arith }
mask (suc (suc (suc (suc zero)))) less = record { one = refl; room = omega arith; some = omega arith; fits = omega arith }
mask (suc (suc (suc (suc (suc zero))))) less = record { one = refl; room = omega arith; some = omega arith; fits = omega arith }
mask (suc (suc (suc (suc (suc (suc zero)))))) less = record { one = refl; room = omega arith; some = omega arith; fits = omega arith }
mask (suc (suc (suc (suc (suc (suc (suc zero))))))) less = record { one = refl; room = omega arith; some = omega arith; fits = omega arith }
mask (suc (suc (suc (suc (suc (suc (suc (suc r)))))))) less = absurd (omega arith)
