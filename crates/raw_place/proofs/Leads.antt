-- What follows from that each pointer leads to its value.
use Rattle.std.proofs.Common.{◌≡◌, ℕ, zero, suc, ◌+◌, ◌-◌, ◌<◌, ◌≤◌, List, [], ◌∷◌, ◌++◌, length, map, refl, sym, ap, ◌∙◌, arith, length-append, add-one}
use Rattle.std.proofs.lemmas.Bool.{cases_lt}
use Rattle.std.proofs.lemmas.List.{get_or-append_right, get_or-map, get_or_append_left, length-map, map-append}
use denote.RawPtr.{Ptr}
use lib.ListN.{get_or}
use mathlib.Core.Logic.{◌⊎◌, inl, inr}
use Rattle.raw_place.specs.Led.{Led, way}
use Rattle.raw_place.specs.Ways.{ways}
use Rattle.raw_place.specs.declared.row.Pointer.{Pointer}
use Rattle.std.specs.declared.vec.Vec.{Vec}

length-ways : (first : Ptr) (n : ℕ) → length (ways first n) ≡ n
length-ways first zero = refl
length-ways first (suc n) = length-append (ways first n) ((first, n) ∷ []) ∙ (let rest = length-ways first n in omega arith)

ways-one_more : (first : Ptr) (n : ℕ) → ways first (n + 1) ≡ ways first n ++ (first, n) ∷ []
ways-one_more first n = ap (ways first) (add-one n)

-- ---- each way
here_or_before : (first : Ptr) (n i : ℕ) (d : Ptr × ℕ) → (i < n → get_or (ways first n) i d ≡ (first, i)) → (i < n) ⊎ (n ≤ i) → i < suc n
    → get_or (ways first n ++ (first, n) ∷ []) i d ≡ (first, i)
here_or_before first n i d before (inl less) within =
    get_or_append_left (ways first n) ((first, n) ∷ []) d i (let long = length-ways first n in omega arith) ∙ before less
here_or_before first n i d before (inr least) within =
    let none : i - n ≡ 0 = omega arith in let same : n ≡ i = omega arith in
    get_or-append_right (ways first n) ((first, n) ∷ []) n i d (length-ways first n) least ∙ ap (λ k. get_or ((first, n) ∷ []) k d) none
    ∙ ap (λ k. (first, k)) same

get_or-ways : (first : Ptr) (n i : ℕ) (d : Ptr × ℕ) → i < n → get_or (ways first n) i d ≡ (first, i)
get_or-ways first zero i d within = absurd (omega arith)
get_or-ways first (suc n) i d within = here_or_before first n i d (get_or-ways first n i d) (cases_lt i n) within

module _ {X Z : Type 0} (values : Vec X Z) (pointers : List (Pointer X)) (led : Led values pointers) where
  pub as_many : length pointers ≡ values.len
  as_many = sym (length-map pointers way) ∙ ap length led ∙ length-ways values.ptr values.len

  pub way_at : (i : ℕ) (d : Pointer X) → i < values.len → way (get_or pointers i d) ≡ (values.ptr, i)
  way_at i d within =
      sym (get_or-map way pointers i d (way d) (let many = as_many in omega arith)) ∙ ap (λ l. get_or l i (way d)) led
      ∙ get_or-ways values.ptr values.len i (way d) within

-- ---- one pointer less
first_of : {X : Type 0} → X → List X → X
first_of d [] = d
first_of d (x ∷ xs) = x

rest_of : {X : Type 0} → List X → List X
rest_of [] = []
rest_of (x ∷ xs) = xs

before_last : {X : Type 0} (xs ys : List X) (x y : X) → length xs ≡ length ys → xs ++ x ∷ [] ≡ ys ++ y ∷ [] → xs ≡ ys
unfolding rest_of first_of
before_last [] [] x y long same = refl
before_last [] (b ∷ ys) x y long same = absurd (omega (arith, long))
before_last (a ∷ xs) [] x y long same = absurd (omega (arith, long))
before_last (a ∷ xs) (b ∷ ys) x y long same =
    λ i. first_of a (same i) ∷ before_last xs ys x y (omega (arith, long)) (ap rest_of same) i

module _ {X : Type 0} (pointers : List (Pointer X)) (last : Pointer X) (first : Ptr) (n : ℕ) where
  pub one_less : map way (pointers ++ last ∷ []) ≡ ways first (n + 1) → map way pointers ≡ ways first n
  one_less led =
      let same : map way pointers ++ way last ∷ [] ≡ ways first n ++ (first, n) ∷ []
      = sym (map-append way pointers (last ∷ [])) ∙ led ∙ ways-one_more first n in
      let long : length (map way pointers) ≡ length (ways first n)
      = let both = ap length same in
      let left = length-append (map way pointers) (way last ∷ []) in
      let right = length-append (ways first n) ((first, n) ∷ []) in omega (arith, both, left, right) in
      before_last (map way pointers) (ways first n) (way last) (first, n) long same
