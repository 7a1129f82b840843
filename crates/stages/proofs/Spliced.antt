-- A list with other items in the place of one.
use Rattle.std.proofs.Common.{arith, ◌≡◌, ◌<◌, ◌≤◌, ◌+◌, ◌-◌, ◌∙◌, ℕ, List, ◌++◌, length, get_or, take, drop, sym, ap, subst, inl, inr}
use Rattle.std.proofs.Common.{length-append, length-drop}
use Rattle.std.proofs.lemmas.Bool.{cases_lt}
use Rattle.std.proofs.lemmas.List.{get_or_append_left, get_or-append-add, get_or-take, get_or-drop, length-take-le}

abbrev pub spliced : {X : Type 0} → ℕ → List X → List X → List X
spliced place inner xs = take place xs ++ inner ++ drop (place + 1) xs

module _ {X : Type 0} (place : ℕ) (inner xs : List X) (inside : place < length xs) where
  front-length : length (take place xs) ≡ place
  front-length = length-take-le place xs (omega (arith, inside))

  both-length : length (take place xs ++ inner) ≡ place + length inner
  both-length = omega (arith, length-append (take place xs) inner, front-length)

  pub length-spliced : length (spliced place inner xs) + 1 ≡ length xs + length inner
  length-spliced =
      omega (arith, inside, length-append (take place xs ++ inner) (drop (place + 1) xs), both-length, length-drop (place + 1) xs)

  pub at-front : (k : ℕ) (d : X) → k < place → get_or (spliced place inner xs) k d ≡ get_or xs k d
  at-front k d before =
      get_or_append_left (take place xs ++ inner) (drop (place + 1) xs) d k (omega (arith, both-length, before))
      ∙ get_or_append_left (take place xs) inner d k (omega (arith, front-length, before))
      ∙ get_or-take place xs k d before

  pub at-middle : (j : ℕ) (d : X) → j < length inner → get_or (spliced place inner xs) (place + j) d ≡ get_or inner j d
  at-middle j d within =
      get_or_append_left (take place xs ++ inner) (drop (place + 1) xs) d (place + j) (omega (arith, both-length, within))
      ∙ ap (λ n. get_or (take place xs ++ inner) (n + j) d) (sym front-length)
      ∙ get_or-append-add (take place xs) inner j d

  pub at-behind : (j : ℕ) (d : X) → get_or (spliced place inner xs) (place + length inner + j) d ≡ get_or xs (place + 1 + j) d
  at-behind j d =
      ap (λ n. get_or (spliced place inner xs) (n + j) d) (sym both-length)
      ∙ get_or-append-add (take place xs ++ inner) (drop (place + 1) xs) j d
      ∙ get_or-drop (place + 1) xs j d

-- ---- what holds of each item
-- what holds of each item of both lists, each with a value, holds of each item of the new list
module _ {X V : Type 0} (P : X → V → Type 0) (place : ℕ) (inner xs : List X) (inside : place < length xs) (whole outer within : ℕ → V)
    (front : (k : ℕ) → k < place → whole k ≡ outer k)
    (middle : (j : ℕ) → j < length inner → whole (place + j) ≡ within j)
    (behind : (j : ℕ) → whole (place + length inner + j) ≡ outer (place + 1 + j))
    (of-outer : (k : ℕ) (none : X) → k < length xs → P (get_or xs k none) (outer k))
    (of-inner : (j : ℕ) (none : X) → j < length inner → P (get_or inner j none) (within j)) where
  front-holds : (k : ℕ) (none : X) → k < place → P (get_or (spliced place inner xs) k none) (whole k)
  front-holds k none before =
      subst (λ x. P x (whole k)) (sym (at-front place inner xs inside k none before))
      (subst (P (get_or xs k none)) (sym (front k before)) (of-outer k none (omega (arith, inside, before))))

  middle-holds : (j : ℕ) (none : X) → j < length inner → P (get_or (spliced place inner xs) (place + j) none) (whole (place + j))
  middle-holds j none small =
      subst (λ x. P x (whole (place + j))) (sym (at-middle place inner xs inside j none small))
      (subst (P (get_or inner j none)) (sym (middle j small)) (of-inner j none small))

  behind-holds : (j : ℕ) (none : X) → place + 1 + j < length xs
      → P (get_or (spliced place inner xs) (place + length inner + j) none) (whole (place + length inner + j))
  behind-holds j none small =
      subst (λ x. P x (whole (place + length inner + j))) (sym (at-behind place inner xs inside j none))
      (subst (P (get_or xs (place + 1 + j) none)) (sym (behind j)) (of-outer (place + 1 + j) none small))

  abbrev Holds : ℕ → X → Type 0
  Holds k none = P (get_or (spliced place inner xs) k none) (whole k)

  later-holds : (k : ℕ) (none : X) → place ≤ k → k < length (spliced place inner xs) → Holds k none
  later-holds k none from small =
      elim (cases_lt (k - place) (length inner)) [
        | inl among ↦
            let e : place + (k - place) ≡ k = omega (arith, from) in
            subst (λ n. Holds n none) e (middle-holds (k - place) none among)
        | inr past ↦
            let e : place + length inner + (k - place - length inner) ≡ k = omega (arith, from, past) in
            let s : place + 1 + (k - place - length inner) < length xs = omega (arith, from, past, small, length-spliced place inner xs inside) in
            subst (λ n. Holds n none) e (behind-holds (k - place - length inner) none s)
      ]

  pub each-holds : (k : ℕ) (none : X) → k < length (spliced place inner xs) → P (get_or (spliced place inner xs) k none) (whole k)
  each-holds k none small =
      elim (cases_lt k place) [
        | inl before ↦ front-holds k none before
        | inr from ↦ later-holds k none from small
      ]
