-- A text cut at its first byte of a kind, and the parts between such bytes.
use Rattle.std.proofs.Common.{◌≡◌, ◌∙◌, ◌<◌, ◌≤◌, Bool, ◌+◌, ◌-◌, ◌==◌, ℕ, true, false, true≢false, List, [], ◌∷◌, ◌++◌, append_assoc, length, take, drop}
use Rattle.std.proofs.Common.{Option, Some, None, ap, sym, subst, refl, arith, inl, inr, length-drop}
use Rattle.std.specs.Prelude.{nat_lt}
use Rattle.std.specs.List.{position_or_len, slice_split}
use Rattle.std.proofs.lemmas.Bool.{cases_Bool, le-ltb, lt-ltb, ltb-false, ltb-true}
use Rattle.std.proofs.lemmas.List.{drop-drop}
use Rattle.std.proofs.lemmas.List.Splits.{slice_split_first}
use Rattle.stage_model.specs.promise.StageGrammar.{Cut, comma, cut_at, names_in, one_name}
use Rattle.stage_model.specs.StageGrammar.{cut_behind}
use Rattle.stage_model.specs.declared.stage.StageText.{StageText}
use Rattle.stage_plan.proofs.Cuts.{tail_all}

some-same : {X : Type 0} (x y : X) → ◌≡◌ {A = Option X} (Some x) (Some y) → x ≡ y
some-same x y e = cc

-- ---- the first cut, and what follows it
-- a slice up to a place, and one from behind it on
pub cut-parts : (text : List ℕ) (place : ℕ) (front back : List ℕ) → front ≡ take place text → back ≡ drop place text
    → cut_behind text place ≡ record { front = front; behind = take (length back - 1) (drop 1 back) }
cut-parts text place front back e f =
    let behind : take (length back - 1) (drop 1 back) ≡ drop (place + 1) text = tail_all back ∙ ap (drop 1) f ∙ drop-drop 1 place text in
    rw (e, behind) refl

-- the place of the cut
record CutHere (byte : ℕ) (text : List ℕ) (cut : Cut) : Type 0 where
  within : position_or_len (λ b. b == byte) text < length text
  is : cut ≡ cut_behind text (position_or_len (λ b. b == byte) text)

cut-here : (byte : ℕ) (text : List ℕ) (cut : Cut) → cut_at byte text ≡ Some cut → CutHere byte text cut
cut-here byte text cut e =
    let place = position_or_len (λ b. b == byte) text in
    elim (cases_Bool (nat_lt place (length text))) [
      | inl there ↦
          let same : ◌≡◌ {A = Option Cut} (Some (cut_behind text place)) (Some cut) = rw there at e in
          record { within = ltb-true place (length text) there; is = sym (some-same (cut_behind text place) cut same) }
      | inr gone ↦ let never : ◌≡◌ {A = Option Cut} None (Some cut) = rw gone at e in absurd cc
    ]

-- the parts are what is before the cut, and those behind it
pub parts-more : (byte : ℕ) (text : List ℕ) (cut : Cut) → cut_at byte text ≡ Some cut
    → slice_split (λ b. b == byte) text ≡ cut.front ∷ slice_split (λ b. b == byte) cut.behind
parts-more byte text cut e =
    let here = cut-here byte text cut e in
    subst (λ (c : Cut). slice_split (λ b. b == byte) text ≡ c.front ∷ slice_split (λ b. b == byte) c.behind) (sym here.is)
    (slice_split_first (λ b. b == byte) text 0 here.within)

-- what is behind a cut is shorter
pub cut-shorter : (byte : ℕ) (text : List ℕ) (cut : Cut) → cut_at byte text ≡ Some cut → length cut.behind < length text
cut-shorter byte text cut e =
    let here = cut-here byte text cut e in
    let place = position_or_len (λ b. b == byte) text in
    subst (λ (c : Cut). length c.behind < length text) (sym here.is) (omega (arith, length-drop (place + 1) text, here.within))

-- ---- a text without the byte
none-passes : (p : ℕ → Bool) (x : ℕ) (xs : List ℕ) → nat_lt (position_or_len p (x ∷ xs)) (length (x ∷ xs)) ≡ false
    → (p x ≡ false) × (nat_lt (position_or_len p xs) (length xs) ≡ false)
none-passes p x xs e = go (p x) refl
  where
    go : (b : Bool) → p x ≡ b → (p x ≡ false) × (nat_lt (position_or_len p xs) (length xs) ≡ false)
    go true is =
        let zero : position_or_len p (x ∷ xs) ≡ 0 = rw is refl in
        absurd (true≢false (sym (lt-ltb (position_or_len p (x ∷ xs)) (length (x ∷ xs)) (omega (arith, zero))) ∙ e))
    go false is =
        let more : position_or_len p (x ∷ xs) ≡ 1 + position_or_len p xs = rw is refl in
        let far : length (x ∷ xs) ≤ position_or_len p (x ∷ xs) = ltb-false (position_or_len p (x ∷ xs)) (length (x ∷ xs)) e in
        (is, le-ltb (position_or_len p xs) (length xs) (omega (arith, more, far)))

no-place : (byte : ℕ) (text : List ℕ) → nat_lt (position_or_len (λ b. b == byte) text) (length text) ≡ false → slice_split (λ b. b == byte) text ≡ text ∷ []
no-place byte [] e = refl
no-place byte (b ∷ bs) e =
    let parts = none-passes (λ c. c == byte) b bs e in
    rw (parts.0, no-place byte bs parts.1) refl

-- a text without such a byte is one part
pub parts-last : (byte : ℕ) (text : List ℕ) → cut_at byte text ≡ None → slice_split (λ b. b == byte) text ≡ text ∷ []
parts-last byte text e = elim (cases_Bool (nat_lt (position_or_len (λ b. b == byte) text) (length text))) [
  | inl there ↦ let never : ◌≡◌ {A = Option Cut} (Some (cut_behind text (position_or_len (λ b. b == byte) text))) None = rw there at e in absurd cc
  | inr gone ↦ no-place byte text gone
]

-- there is a first part
pub first-part : (byte : ℕ) (text : List ℕ) → (first : List ℕ) × (rest : List (List ℕ)) × (slice_split (λ b. b == byte) text ≡ first ∷ rest)
first-part byte [] = ([], [], refl)
first-part byte (b ∷ bs) =
    let more = first-part byte bs in
    elim (cases_Bool (b == byte)) [
      | inl same ↦ ([], slice_split (λ b. b == byte) bs, rw same refl)
      | inr other ↦ (b ∷ more.0, more.1, rw (other, more.2) refl)
    ]

-- ---- names

-- one name more, and those of the rest
pub one-more : (names more : List (List ℕ)) (made rest arguments : List ℕ) (cut : Cut) → more ≡ names ++ made ∷ [] → made ≡ cut.front
    → cut_at comma rest ≡ Some cut
    → names ++ names_in rest ≡ names_in arguments → more ++ names_in cut.behind ≡ names_in arguments
one-more names more made rest arguments cut pushed is found before =
    ap (λ l. l ++ names_in cut.behind) (pushed ∙ ap (λ n. names ++ n ∷ []) is)
    ∙ append_assoc names (cut.front ∷ []) (names_in cut.behind)
    ∙ ap (λ l. names ++ l) (sym (parts-more comma rest cut found))
    ∙ before

-- the last name
pub last-one : (names more : List (List ℕ)) (made rest arguments : List ℕ) → more ≡ names ++ made ∷ [] → made ≡ rest → cut_at comma rest ≡ None
    → names ++ names_in rest ≡ names_in arguments → more ≡ names_in arguments
last-one names more made rest arguments pushed is none before =
    pushed ∙ ap (λ n. names ++ n ∷ []) is ∙ ap (λ l. names ++ l) (sym (parts-last comma rest none)) ∙ before

-- more names than one
pub not-one : (stage : List ℕ → StageText) (arguments : List ℕ) (cut : Cut) → cut_at comma arguments ≡ Some cut → one_name stage (names_in arguments) ≡ None
not-one stage arguments cut found =
    let first = first-part comma cut.behind in
    ap (one_name stage) (parts-more comma arguments cut found ∙ ap (λ l. cut.front ∷ l) first.2)

-- one name
pub just-one : (stage : List ℕ → StageText) (arguments : List ℕ) → cut_at comma arguments ≡ None → one_name stage (names_in arguments) ≡ Some (stage arguments)
just-one stage arguments none = ap (one_name stage) (parts-last comma arguments none)
