-- Searches that have come as far as a place: what they find is what they find in the rest.
use Rattle.std.proofs.Common.{◌≡◌, ◌<◌, ◌≤◌, ◌+◌, ◌∙◌, ℕ, Bool, true, false, cond, List, [], ◌∷◌, length, map, drop, get_or, position, Option, Some, None}
use Rattle.std.proofs.Common.{option_map, refl, sym, ap}
use Rattle.std.proofs.lemmas.Iterator.Adapters.{position_from-zero}
use Rattle.std.proofs.lemmas.List.{drop_all}
use Rattle.std.specs.List.{find, position_from}
use Rattle.stage_plan.proofs.Twice.{rest-cons}

position-map : {A B : Type 0} (f : A → B) (p : B → Bool) (n : ℕ) (xs : List A) → position_from p n (map f xs) ≡ position_from (λ a. p (f a)) n xs
position-map f p n [] = refl
position-map f p n (x ∷ xs) = ap (λ found. cond (p (f x)) (Some n) found) (position-map f p (n + 1) xs)

-- the first place in a list of images
pub position-of-map : {A B : Type 0} (f : A → B) (p : B → Bool) (xs : List A) → position p (map f xs) ≡ position (λ a. p (f a)) xs
position-of-map f p xs = position_from-zero p (map f xs) ∙ position-map f p 0 xs ∙ sym (position_from-zero (λ a. p (f a)) xs)

same-from : {A : Type 0} (p q : A → Bool) (n : ℕ) (xs : List A) → ((a : A) → p a ≡ q a) → position_from p n xs ≡ position_from q n xs
same-from p q n [] same = refl
same-from p q n (x ∷ xs) same = rw (same x, same-from p q (n + 1) xs same) refl

-- the first place by tests that tell the same
pub position-same : {A : Type 0} (p q : A → Bool) (xs : List A) → ((a : A) → p a ≡ q a) → position p xs ≡ position q xs
position-same p q xs same = position_from-zero p xs ∙ same-from p q 0 xs same ∙ sym (position_from-zero q xs)

some-or : {A B : Type 0} (f : A → B) (b : Bool) (x : A) (o : Option A) → cond b (Some (f x)) (option_map f o) ≡ option_map f (cond b (Some x) o)
some-or f true x o = refl
some-or f false x o = refl

-- the first one in a list of images
pub find-of-map : {A B : Type 0} (f : A → B) (p : B → Bool) (xs : List A) → find p (map f xs) ≡ option_map f (find (λ a. p (f a)) xs)
find-of-map f p [] = refl
find-of-map f p (x ∷ xs) =
    ap (λ found. cond (p (f x)) (Some (f x)) found) (find-of-map f p xs) ∙ some-or f (p (f x)) x (find (λ a. p (f a)) xs)

module _ {A : Type 0} (p : A → Bool) (xs : List A) where
  -- the first place is the first one of the rest
  abbrev pub PositionFrom : ℕ → Type 0
  PositionFrom i = position p xs ≡ position_from p i (drop i xs)

  pub position-start : PositionFrom 0
  position-start = position_from-zero p xs

  module _ (i : ℕ) (far : PositionFrom i) where
    module _ (d : A) (within : i < length xs) where
      here : position p xs ≡ cond (p (get_or xs i d)) (Some i) (position_from p (i + 1) (drop (i + 1) xs))
      here = far ∙ ap (position_from p i) (rest-cons xs i d within)

      pub position-hit : p (get_or xs i d) ≡ true → position p xs ≡ Some i
      position-hit passes = here ∙ ap (λ b. cond b (Some i) (position_from p (i + 1) (drop (i + 1) xs))) passes

      pub position-miss : p (get_or xs i d) ≡ false → PositionFrom (i + 1)
      position-miss fails = here ∙ ap (λ b. cond b (Some i) (position_from p (i + 1) (drop (i + 1) xs))) fails

    pub position-none : length xs ≤ i → position p xs ≡ None
    position-none over = far ∙ ap (position_from p i) (drop_all i xs over)

  -- the first one is the first one of the rest
  abbrev pub FindFrom : ℕ → Type 0
  FindFrom i = find p xs ≡ find p (drop i xs)

  module _ (i : ℕ) (far : FindFrom i) where
    module _ (d : A) (within : i < length xs) where
      pub find-hit : p (get_or xs i d) ≡ true → find p xs ≡ Some (get_or xs i d)
      find-hit passes = far ∙ ap (find p) (rest-cons xs i d within) ∙ ap (λ b. cond b (Some (get_or xs i d)) (find p (drop (i + 1) xs))) passes

      pub find-miss : p (get_or xs i d) ≡ false → FindFrom (i + 1)
      find-miss fails = far ∙ ap (find p) (rest-cons xs i d within) ∙ ap (λ b. cond b (Some (get_or xs i d)) (find p (drop (i + 1) xs))) fails

    pub find-none : length xs ≤ i → find p xs ≡ None
    find-none over = far ∙ ap (find p) (drop_all i xs over)
