use Rattle.std.proofs.Common.{◌≡◌, ℕ, ◌+◌, ◌-◌, ◌*◌, ◌/◌, List, length, take, drop, Some, ap, sym, ◌∙◌, subst, arith, length-drop}
use Rattle.std.proofs.lemmas.Bool.{OnFalse_at, OnFalse_from, OnTrue_at, OnTrue_from}
use Rattle.std.proofs.lemmas.List.{take_all}
use Rattle.data_types.specs.promise.FieldText.{hex_bytes}
use Rattle.field_codec.proofs.Hexadecimals.{Eights, eights_end, eights_end_other, eights_more, eights_other, put_behind}
use Rattle.field_codec.proofs.hexadecimal.decode.Goals as goal

pub returns-in-None-clause-none : goal.returns-in-None-clause-none
returns-in-None-clause-none c =
    let text = c.args.text.now in
    let p = c.loop-place.place in
    let sixteen : 16 * p + 16 - 16 * p ≡ 16 = omega arith in
    eights_other text p (omega (arith, c.loop-place-test.true))
    (ap (λ (k : ℕ). hex_bytes (take k (drop (16 * p) text))) (sym sixteen) ∙ sym c.read_eight_bytes.ensures ∙ c.in-None.is)

pub loop-place-preserved : goal.loop-place-preserved
loop-place-preserved c =
    let text = c.args.text.now in
    let p = c.loop-place.place in
    let sixteen : 16 * p + 16 - 16 * p ≡ 16 = omega arith in
    eights_more text c.loop-place.room c.put_eight.new.room c.in-Some.eight p (length c.args.room.now) c.loop-place.invariant
    (omega (arith, c.loop-place-test.true))
    (ap (λ (k : ℕ). hex_bytes (take k (drop (16 * p) text))) (sym sixteen) ∙ sym c.read_eight_bytes.ensures ∙ c.in-Some.is)
    c.put_eight.ensures.len c.put_eight.ensures.put

pub returns-clause-found : goal.returns-clause-found
returns-clause-found c =
    let text = c.args.text.now in
    let e = length text / 16 in
    let room = c.loop-place.room in
    let all : c.loop-place.place ≡ e = omega arith in
    let read : Eights text e (length c.args.room.now) room =
    subst (λ (k : ℕ). Eights text k (length c.args.room.now) room) all c.loop-place.invariant in
    let rest : take (length text - 16 * e) (drop (16 * e) text) ≡ drop (16 * e) text =
    take_all (length text - 16 * e) (drop (16 * e) text) (omega (arith, length-drop (16 * e) text)) in
    OnTrue_from c.decode_hex.result _ (λ yes.
    eights_end text room c.decode_hex.new.room e (length c.args.room.now) read (omega arith) (ap hex_bytes (sym rest) ∙ OnTrue_at yes c.decode_hex.ensures.found)
    ∙ ap (λ (bs : List ℕ). Some bs) (sym (put_behind (8 * e) room c.decode_hex.new.room (omega (arith, read.len, c.requires)))))

pub returns-clause-none : goal.returns-clause-none
returns-clause-none c =
    let text = c.args.text.now in
    let e = length text / 16 in
    let rest : take (length text - 16 * e) (drop (16 * e) text) ≡ drop (16 * e) text =
    take_all (length text - 16 * e) (drop (16 * e) text) (omega (arith, length-drop (16 * e) text)) in
    OnFalse_from c.decode_hex.result _ (λ no.
    eights_end_other text e (omega arith) (ap hex_bytes (sym rest) ∙ OnFalse_at no c.decode_hex.ensures.none))
