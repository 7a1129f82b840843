use Rattle.std.proofs.Common.{◌≡◌, ℕ, ◌*◌, ◌^◌, Some, drop, take, ap, sym, ◌∙◌, arith}
use Rattle.std.specs.List.{prefix_len}
use Rattle.std.specs.Char.{is_ascii_digit}
use Rattle.std.specs.Str.Parse.{digits_value}
use Rattle.field_codec.specs.Fractions.{fraction_text}
use Rattle.field_codec.proofs.Unscaled.{Parts, at_least, other_behind, parts_read, past_behind, past_digits, past_whole}
use Rattle.field_codec.proofs.decimal.long_unscaled.Goals as goal

pub returns-in_err-whole-clause-none : goal.returns-in_err-whole-clause-none
returns-in_err-whole-clause-none c =
    let text = c.args.text.now in
    let front = digits_value 10 (take (prefix_len is_ascii_digit text) text) in
    rw c.from_residual.ensures (past_whole c.args.places text (omega (arith, c.in_err-whole.ensures.large, at_least front c.args.places)))

pub returns-in_err-fraction-clause-none : goal.returns-in_err-fraction-clause-none
returns-in_err-fraction-clause-none c =
    let text = c.args.text.now in
    let whole = c.in_ok-whole in
    let digits = c.in_ok-digits.digits.now in
    let found : fraction_text c.args.places (drop whole.count text) ≡ Some digits =
    ap (fraction_text c.args.places) (sym c.split_at.ensures.back) ∙ sym c.in_ok-digits.ensures in
    rw c.from_residual-in_err-fraction.ensures (past_digits c.args.places whole.count text digits whole.ensures.count found c.in_err-fraction.ensures.large)

pub returns-then-fine-digits-clause-none : goal.returns-then-fine-digits-clause-none
returns-then-fine-digits-clause-none c =
    let text = c.args.text.now in
    let whole = c.in_ok-whole in
    let digits = c.in_ok-digits.digits.now in
    let found : fraction_text c.args.places (drop whole.count text) ≡ Some digits =
    ap (fraction_text c.args.places) (sym c.split_at.ensures.back) ∙ sym c.in_ok-digits.ensures in
    let fraction = c.in_ok-fraction in
    let parts : Parts c.args.places whole.count text digits fraction.fine =
    record { len = whole.ensures.count; found = found; fine_len = fraction.ensures.count } in
    rw (other_behind c.args.places whole.count text digits fraction.fine parts c.if-fine-digits.true) tt

pub returns-in_err-whole-2-clause-none : goal.returns-in_err-whole-2-clause-none
returns-in_err-whole-2-clause-none c =
    let text = c.args.text.now in
    let whole = c.in_ok-whole in
    let front : whole.whole ≡ digits_value 10 (take (prefix_len is_ascii_digit text) text) =
    whole.ensures.value ∙ ap (λ (k : ℕ). digits_value 10 (take k text)) whole.ensures.count in
    rw c.from_residual-in_err-whole-2.ensures
    (past_whole c.args.places text (omega (arith, c.in_err-whole-2.ensures.none, ap (λ (n : ℕ). n * 10 ^ c.args.places) front)))

pub returns-in_err-fraction-2-clause-none : goal.returns-in_err-fraction-2-clause-none
returns-in_err-fraction-2-clause-none c =
    let text = c.args.text.now in
    let whole = c.in_ok-whole in
    let digits = c.in_ok-digits.digits.now in
    let found : fraction_text c.args.places (drop whole.count text) ≡ Some digits =
    ap (fraction_text c.args.places) (sym c.split_at.ensures.back) ∙ sym c.in_ok-digits.ensures in
    let fraction = c.in_ok-fraction in
    let parts : Parts c.args.places whole.count text digits fraction.fine =
    record { len = whole.ensures.count; found = found; fine_len = fraction.ensures.count } in
    rw c.from_residual-in_err-fraction-2.ensures
    (past_behind c.args.places whole.count text digits fraction.fine fraction.fraction parts c.if-fine-digits.false fraction.ensures.value
    c.in_err-fraction-2.ensures.none)

pub returns-clause-some : goal.returns-clause-some
returns-clause-some c =
    let text = c.args.text.now in
    let whole = c.in_ok-whole in
    let digits = c.in_ok-digits.digits.now in
    let found : fraction_text c.args.places (drop whole.count text) ≡ Some digits =
    ap (fraction_text c.args.places) (sym c.split_at.ensures.back) ∙ sym c.in_ok-digits.ensures in
    let fraction = c.in_ok-fraction in
    let parts : Parts c.args.places whole.count text digits fraction.fine =
    record { len = whole.ensures.count; found = found; fine_len = fraction.ensures.count } in
    parts_read c.args.places whole.count text digits fraction.fine whole.whole fraction.fraction c.in_ok-whole-2.whole c.in_ok-fraction-2.fraction
    parts c.if-count-eq0.false c.if-fine-digits.false whole.ensures.value fraction.ensures.value c.in_ok-whole-2.ensures.some c.in_ok-fraction-2.ensures.some
