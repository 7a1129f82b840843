use Rattle.std.proofs.Common.{◌≡◌, ◌++◌, ◌-◌, ◌*◌, ◌∙◌, ℕ, List, Some, ap, sym, arith, drop, length, take, length-drop}
use Rattle.std.proofs.lemmas.List.{length-take-le, take-append-drop, take_all}
use Rattle.data_types.specs.promise.FieldText.{hex_bytes}
use Rattle.field_codec.proofs.Hexadecimals.{none_before, none_behind, pairs_behind}
use Rattle.field_codec.proofs.hexadecimal.read_sixteen.Goals as goal

half : (text : List ℕ) → length text ≡ 32 → length (take 16 text) ≡ 2 * 8
half text len = omega (arith, length-take-le 16 text (omega (arith, len)))

rest : (text : List ℕ) → take (length text - 16) (drop 16 text) ≡ drop 16 text
rest text = take_all (length text - 16) (drop 16 text) (omega (arith, length-drop 16 text))

whole : (text : List ℕ) → hex_bytes (take 16 text ++ drop 16 text) ≡ hex_bytes text
whole text = ap hex_bytes (take-append-drop 16 text)

pub returns : goal.returns
returns c =
    let text = c.args.text.now in
    let first = c.in_ok-first.first in
    let last = c.in_ok-last.last in
    let both : c.put_eight-2.new.room ≡ first ++ last =
    sym (take_all 16 c.put_eight-2.new.room (omega (arith, c.put_eight-2.ensures.len, c.put_eight.ensures.len)))
    ∙ c.put_eight-2.ensures.put ∙ ap (λ (bs : List ℕ). bs ++ last) c.put_eight.ensures.put in
    ap (λ (bs : List ℕ). Some bs) both
    ∙ sym (pairs_behind 8 (take 16 text) (drop 16 text) first last (half text c.requires) (sym c.in_ok-first.ensures)
    (ap hex_bytes (sym (rest text)) ∙ sym c.in_ok-last.ensures)) ∙ whole text

pub returns-in_err-first : goal.returns-in_err-first
returns-in_err-first c =
    let text = c.args.text.now in
    rw c.from_residual.ensures
    (sym (none_before 8 (take 16 text) (drop 16 text) (half text c.requires) (sym c.in_err-first.ensures)) ∙ whole text)

pub returns-in_err-last : goal.returns-in_err-last
returns-in_err-last c =
    let text = c.args.text.now in
    rw c.from_residual-in_err-last.ensures
    (sym (none_behind 8 (take 16 text) (drop 16 text) (half text c.requires) (ap hex_bytes (sym (rest text)) ∙ sym c.in_err-last.ensures))
    ∙ whole text)
