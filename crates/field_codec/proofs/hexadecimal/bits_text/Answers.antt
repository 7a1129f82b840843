use Rattle.std.proofs.Common.{◌≡◌, ℕ, ◌/◌, sym, ap, ◌∙◌, arith}
use Rattle.std.proofs.lemmas.Grind.{common_steps}
use Rattle.data_types.specs.promise.FieldText.{hex_text, last_digits}
use Rattle.field_codec.proofs.Hexadecimals.{bytes_written}
use Rattle.field_codec.proofs.hexadecimal.bits_text.Goals as goal
use Rattle.field_codec.proofs.hexadecimal.bits_text.Goals.{in-64, in_default}

pub returns : goal.returns
returns c = elim c.match-bits.branch [
  | in-64 w ↦
      let text : w.write_pairs.new.text ≡ last_digits 16 (c.args.bits / 4) c.args.number =
      w.write_pairs.ensures ∙ ap hex_text w.to_be_bytes.ensures ∙ bytes_written 8 c.args.number
      ∙ ap (λ (bits : ℕ). last_digits 16 (bits / 4) c.args.number) (sym w.in-64.is) in
      grind (arith, common_steps, text)
  | in_default w ↦ grind (arith, common_steps)
]
