use Rattle.std.proofs.Common.{◌≡◌, ℕ, suc, ◌+◌, ◌-◌, ◌*◌, ◌/◌, ◌%◌, ◌^◌, false, [], ◌∷◌, ◌++◌, length, take, ap, ◌∙◌, arith}
use Rattle.std.specs.Fmt.{digit_glyph}
use Rattle.std.proofs.lemmas.List.{take_more_set}
use Rattle.std.proofs.lemmas.Nat.{and_mask}
use Rattle.data_types.specs.promise.FieldText.{last_digits}
use Rattle.field_codec.proofs.Hexadecimals.{next_digit, power_of_2}
use Rattle.field_codec.proofs.hexadecimal.write_bits.Goals as goal

pub loop-place-preserved : goal.loop-place-preserved
loop-place-preserved c =
    let number = c.args.number in
    let count = length c.args.text.now in
    let place = c.loop-place.place in
    let behind = count - 1 - place in
    let value = and_mask (number / 2 ^ (4 * behind)) 4 ∙ ap (λ (p : ℕ). number / p % 16) (power_of_2 behind) in
    let digit : c.glyph.result ≡ digit_glyph false (number / 16 ^ behind % 16) = c.glyph.ensures ∙ ap (digit_glyph false) value in
    let same : behind ≡ count - (place + 1) = omega arith in
    let more : suc place ≡ place + 1 = omega arith in
    take_more_set c.loop-place.text place c.glyph.result (omega arith)
    ∙ ap (λ (d : ℕ). take place c.loop-place.text ++ (d ∷ [])) digit
    ∙ next_digit place behind (count - place) number (take place c.loop-place.text) c.loop-place.invariant (omega arith)
    ∙ ap (λ (k : ℕ). last_digits 16 k (number / 16 ^ behind)) more
    ∙ ap (λ (k : ℕ). last_digits 16 (place + 1) (number / 16 ^ k)) same
