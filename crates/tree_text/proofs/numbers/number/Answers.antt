use Rattle.std.proofs.Common.{sym, ◌∙◌, subst, ℕ, List, w64, FitsSigned}
use Rattle.std.specs.Prelude.{ℤ}
use Rattle.std.specs.Str.{IsUtf8}
use Rattle.std.specs.Fmt.{signed_decimal}
use Rattle.std.specs.Str.Parse.{IsNumeral, without_leading_sign, signed_digits_value}
use Rattle.std.proofs.lemmas.Str.{IsUtf8-from_ascii}
use Rattle.itoa.proofs.Decimal.{IsAscii-signed_decimal}
use Rattle.tree_text.proofs.NumberTexts.{none_read}
use Rattle.tree_text.proofs.numbers.number.Goals as goal

pub returns-in_default : goal.returns-in_default
returns-in_default c =
    sym (none_read c.args.text.now (λ z w spelled.
    c.in_default.ensures.cases.0 (subst (λ (t : List ℕ). IsUtf8 t) (sym spelled) (IsUtf8-from_ascii (signed_decimal z) (IsAscii-signed_decimal z w.fits)))))

pub returns-in_default-parse : goal.returns-in_default-parse
returns-in_default-parse c =
    sym (none_read c.args.text.now (λ z w spelled.
    let same = c.in-Ok.ensures.cases.0 ∙ spelled in
    let holds = λ (t : List ℕ). IsNumeral 10 (without_leading_sign t) × FitsSigned w64 (signed_digits_value 10 t) in
    c.in_default-parse.ensures.value.0 (subst holds (sym same) (w.numeral, subst (λ (y : ℤ). FitsSigned w64 y) (sym w.value) w.fits))))
