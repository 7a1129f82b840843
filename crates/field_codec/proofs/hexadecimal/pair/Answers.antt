use Rattle.std.proofs.Common.{◌≡◌, ℕ, ◌+◌, ◌*◌, ◌/◌, ◌%◌, ◌<◌, false, get_or, refl, arith}
use Rattle.std.specs.Fmt.{digit_glyph}
use Rattle.data_types.specs.promise.FieldText.{last_digits}
use Rattle.field_codec.specs.declared.hexadecimal.TheConstants.{PAIRS}
use Rattle.field_codec.proofs.Tables.{entry_at, is_table}
use Rattle.field_codec.proofs.hexadecimal.pair.Goals as goal

entry : (i : ℕ) → i < 512 → get_or PAIRS i 0 ≡ get_or (last_digits 16 2 (i / 2)) (i % 2) 0
unfolding is_table
entry i within = entry_at (λ (k : ℕ). get_or (last_digits 16 2 (k / 2)) (k % 2) 0) PAIRS i refl (omega (arith, within))

high : (byte : ℕ) → byte < 256 → get_or PAIRS (2 * byte) 0 ≡ digit_glyph false (byte / 16 % 16)
high byte small =
    let half : 2 * byte / 2 ≡ byte = omega arith in
    let even : 2 * byte % 2 ≡ 0 = omega arith in
    let e = entry (2 * byte) (omega (arith, small)) in
    rw (half, even) at e

low : (byte : ℕ) → byte < 256 → get_or PAIRS (2 * byte + 1) 0 ≡ digit_glyph false (byte % 16)
low byte small =
    let half : (2 * byte + 1) / 2 ≡ byte = omega arith in
    let odd : (2 * byte + 1) % 2 ≡ 1 = omega arith in
    let e = entry (2 * byte + 1) (omega (arith, small)) in
    rw (half, odd) at e

pub returns : goal.returns
returns c = rw (c.from-place.ensures, high c.args.byte (omega arith), low c.args.byte (omega arith)) refl
