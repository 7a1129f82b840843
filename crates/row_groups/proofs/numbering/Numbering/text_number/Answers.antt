use Rattle.std.proofs.Common.{◌≡◌, ◌∙◌, ◌+◌, ◌++◌, ◌∷◌, [], Some, Bool, true, false, not, List, ℕ, length, refl, sym, ap, subst, arith, length-append}
use mir.Val.{bool_byte}
use Rattle.std.specs.Prelude.{if◌then◌else◌}
use Rattle.stage_model.specs.Dictionary.{has_bytes}
use Rattle.item_keys.specs.Distinct.{Numbers, number_of, texts_with}
use Rattle.row_groups.specs.Numbering.{AreKeys, IsNumber, IsNumbering, Key, keys_with, shifted}
use Rattle.row_groups.specs.declared.numbering.Numbering.{Numbering}
use Rattle.row_groups.proofs.Keys.{number-few, shift-least, text-more, text-number}
use Rattle.row_groups.proofs.numbering.Numbering.text_number.Goals as goal

pub shifted-requires : goal.shifted-requires
shifted-requires c =
    let holds = c.requires.1 in
    let few = number-few holds.texts c.args.text.now in
    omega (
      arith,
      c.in_ok-number.ensures.number holds.texts holds.numbers,
      few,
      c.requires.2,
      holds.are.many,
      shift-least c.args.self.now.null (length holds.texts),
    )

byte-is : (b : Bool) → bool_byte b ≡ (if b then 1 else 0)
byte-is true = refl
byte-is false = refl

-- the texts and the keys after one that is known, or new
after-text : (before after : Numbering) (keys : List Key) (text : List ℕ) (b : Bool) → (holds : IsNumbering before keys) → has_bytes holds.texts text ≡ b
    → Numbers after.texts (texts_with holds.texts text) → after.known ≡ before.known + (if not b then 1 else 0) → after.null ≡ before.null
    → IsNumbering after (keys_with keys (Some text) (not b))
after-text before after keys text true holds e numbers known null = record {
  texts = holds.texts;
  numbers = subst (Numbers after.texts) (ap (λ (b : Bool). if b then holds.texts else holds.texts ++ text ∷ []) e) numbers;
  known = omega (arith, known, holds.known);
  are = subst (λ o. AreKeys o holds.texts keys) (sym null) holds.are;
}
after-text before after keys text false holds e numbers known null = record {
  texts = holds.texts ++ text ∷ [];
  numbers = subst (Numbers after.texts) (ap (λ (b : Bool). if b then holds.texts else holds.texts ++ text ∷ []) e) numbers;
  known = omega (arith, known, holds.known, length-append holds.texts (text ∷ []));
  are = subst (λ o. AreKeys o (holds.texts ++ text ∷ []) (keys ++ Some text ∷ [])) (sym null) (text-more before.null holds.texts keys text holds.are);
}

pub returns : goal.returns
returns c = λ keys holds.
    let self = c.args.self.now in
    let text = c.args.text.now in
    let has = has_bytes holds.texts text in
    let new : c.in_ok-number.new ≡ not has = c.in_ok-number.ensures.new holds.texts holds.numbers in
    let number : c.shifted.result ≡ shifted self.null (number_of holds.texts text) =
    c.shifted.ensures ∙ ap (shifted self.null) (c.in_ok-number.ensures.number holds.texts holds.numbers) in
    let after : Numbering = record { texts = c.number.new.self; known = self.known + c.from.result; null = self.null } in
    record {
      number_is = subst (λ n. IsNumber keys (Some text) n c.in_ok-number.new) (sym number)
          (subst (IsNumber keys (Some text) (shifted self.null (number_of holds.texts text))) (sym new)
          (text-number self.null holds.texts keys text holds.are holds.numbers.differ));
      keys_are = subst (λ b. IsNumbering after (keys_with keys (Some text) b)) (sym new)
          (after-text self after keys text has holds refl (c.in_ok-number.ensures.texts holds.texts holds.numbers)
          (ap (λ n. self.known + n) (c.from.ensures ∙ ap bool_byte new ∙ byte-is (not has))) refl);
    }
