-- A text cut at a byte, and its lines one after another.
use Rattle.std.proofs.Common.{◌≡◌, ℕ, ◌+◌, ◌<◌, ◌≤◌, Bool, ◌==◌, List, [], ◌∷◌, length, take, drop, Some, None}
use Rattle.std.proofs.Common.{refl, sym, ap, ◌∙◌, arith, inl, inr}
use Rattle.std.specs.List.{slice_split, position, position_or_len}
use Rattle.std.specs.Str.Lines.{lines, lines_of_parts, strip_carriage_return}
use Rattle.std.proofs.lemmas.Bool.{cases_Bool, cases_lt, lt-ltb, le-ltb}
use Rattle.std.proofs.lemmas.List.Splits.{slice_split_first, length-slice_split}

pub split_none : (p : ℕ → Bool) (xs : List ℕ) → length xs ≤ position_or_len p xs → slice_split p xs ≡ xs ∷ []
split_none p [] none = refl
split_none p (x ∷ xs) none = elim (cases_Bool (p x)) [
  | inl here ↦ let some : position_or_len p (x ∷ xs) ≡ 0 = rw here refl in absurd (omega (arith, none, some))
  | inr other ↦
      let more : position_or_len p (x ∷ xs) ≡ 1 + position_or_len p xs = rw other refl in
      rw (other, split_none p xs (omega (arith, none, more))) refl
]

-- where a byte is, if it does
pub record CutAt (p : ℕ → Bool) (text : List ℕ) (at : ℕ) : Type 0 where
  pub inside : at < length text
  pub parts : slice_split p text ≡ take at text ∷ slice_split p (drop (at + 1) text)

pub cut_at : (p : ℕ → Bool) (text : List ℕ) (at : ℕ) → position p text ≡ Some at → CutAt p text at
cut_at p text at found = elim (cases_lt (position_or_len p text) (length text)) [
  | inl inside ↦
      let is : position p text ≡ Some (position_or_len p text) = rw (lt-ltb (position_or_len p text) (length text) inside) refl in
      let same : position_or_len p text ≡ at = search (sym is ∙ found) in
      rw (← same) (record { inside = inside; parts = slice_split_first p text 0 inside })
  | inr none ↦
      let no_place : position p text ≡ None = rw (le-ltb (position_or_len p text) (length text) none) refl in
      let clash : None ≡ Some at = sym no_place ∙ found in absurd cc
]

pub not_cut : (p : ℕ → Bool) (text : List ℕ) → position p text ≡ None → slice_split p text ≡ text ∷ []
not_cut p text none = elim (cases_lt (position_or_len p text) (length text)) [
  | inl inside ↦
      let is : position p text ≡ Some (position_or_len p text) = rw (lt-ltb (position_or_len p text) (length text) inside) refl in
      let clash : None ≡ Some (position_or_len p text) = sym none ∙ is in absurd cc
  | inr all ↦ split_none p text (omega (arith, all))
]

lines_more : (line : List ℕ) (parts : List (List ℕ)) → 0 < length parts → lines_of_parts (line ∷ parts) ≡ strip_carriage_return line ∷ lines_of_parts parts
lines_more line [] some = absurd (omega (arith, some))
lines_more line (part ∷ parts) some = refl

pub lines_cut : (line rest behind : List ℕ) → slice_split (λ b. b == 10) rest ≡ line ∷ slice_split (λ b. b == 10) behind
    → lines rest ≡ strip_carriage_return line ∷ lines behind
lines_cut line rest behind split =
    let some = length-slice_split (λ b. b == 10) behind in
    ap lines_of_parts split ∙ lines_more line (slice_split (λ b. b == 10) behind) (omega (arith, some))

pub some_parts : (p : ℕ → Bool) (text : List ℕ) → 0 < length (slice_split p text)
some_parts p text = omega (arith, length-slice_split p text)
