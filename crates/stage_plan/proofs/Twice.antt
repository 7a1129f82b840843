-- What the search for a name that is there twice keeps.
use Rattle.std.proofs.Common.{◌≡◌, ◌<◌, ◌≤◌, ◌+◌, ◌∙◌, ◌||◌, ◌++◌, ℕ, Bool, true, false, List, [], ◌∷◌, length, take, drop, get_or, Some, None, refl, sym, ap}
use Rattle.std.proofs.Common.{arith, drop-cons, suc}
use Rattle.std.proofs.lemmas.List.{drop_all, map-append, take_all, take_more}
use Rattle.std.proofs.lemmas.List.Folds.{list_any-append}
use Rattle.std.proofs.lemmas.List.Sorted.{list_any-IsPermutation}
use Rattle.std.specs.Borrow.{Bor}
use Rattle.std.specs.List.Sorted.{IsPermutation}
use Rattle.std.specs.Prelude.{if◌then◌else◌}
use Rattle.std.specs.Str.{bytes_eq}
use Rattle.csv_model.specs.promise.Header.{first_twice, is_among, twice_behind}
use Rattle.stage_plan.specs.PlanWords.{has_text, texts}

pub rest-cons : {A : Type 0} (xs : List A) (i : ℕ) (d : A) → i < length xs → drop i xs ≡ get_or xs i d ∷ drop (i + 1) xs
rest-cons xs i d within =
    let next : suc i ≡ i + 1 = omega arith in
    drop-cons xs i d within ∙ ap (λ n. get_or xs i d ∷ drop n xs) next

pub record TwiceFrom (names : List (Bor (List ℕ))) (i : ℕ) (keys : List (Bor (List ℕ))) : Type 0 where
  pub before : List (List ℕ)
  pub long : length before ≡ i
  pub rest : first_twice (texts names) ≡ twice_behind before (texts (drop i names))
  pub known : (name : List ℕ) → has_text keys name ≡ is_among before name
  pub taken : (name : List ℕ) → is_among before name ≡ is_among (texts (take i names)) name

pub twice-start : (names keys : List (Bor (List ℕ))) → keys ≡ [] → TwiceFrom names 0 keys
twice-start names keys none = rw none (record { before = []; long = refl; rest = refl; known = λ name. refl; taken = λ name. refl })

swap : (a b : Bool) → (a || b) ≡ (b || (a || false))
swap true true = refl
swap true false = refl
swap false true = refl
swap false false = refl

module _ (names : List (Bor (List ℕ))) (i : ℕ) (keys : List (Bor (List ℕ))) (far : TwiceFrom names i keys) where
  module _ (d : Bor (List ℕ)) (within : i < length names) where
    abbrev name : List ℕ
    name = (get_or names i d).now

    here : first_twice (texts names)
        ≡ (if is_among far.before name then Some (length far.before) else twice_behind (name ∷ far.before) (texts (drop (i + 1) names)))
    here = far.rest ∙ ap (λ (bs : List (Bor (List ℕ))). twice_behind far.before (texts bs)) (rest-cons names i d within)

    pub twice-hit : has_text keys name ≡ true → first_twice (texts names) ≡ Some i
    twice-hit old =
        here ∙ ap (λ b. if b then Some (length far.before) else twice_behind (name ∷ far.before) (texts (drop (i + 1) names))) (sym (far.known name) ∙ old)
        ∙ ap (λ n. Some n) far.long

    pub twice-miss : (after : List (Bor (List ℕ))) → has_text keys name ≡ false → IsPermutation (get_or names i d ∷ keys) after → TwiceFrom names (i + 1) after
    twice-miss after new puts =
        let longer : texts (take (i + 1) names) ≡ texts (take i names) ++ name ∷ [] =
        ap texts (take_more names i d within) ∙ map-append (λ b. b.now) (take i names) (get_or names i d ∷ []) in
        record {
          before = name ∷ far.before;
          long = omega (arith, far.long);
          rest = here ∙ ap (λ b. if b then Some (length far.before) else twice_behind (name ∷ far.before) (texts (drop (i + 1) names)))
              (sym (far.known name) ∙ new);
          known = λ n.
              sym (list_any-IsPermutation (λ k. bytes_eq n k.now) (get_or names i d ∷ keys) after puts) ∙ ap (λ (b : Bool). bytes_eq n name || b) (far.known n);
          taken = λ n.
              ap (λ (b : Bool). bytes_eq n name || b) (far.taken n)
              ∙ swap (bytes_eq n name) (is_among (texts (take i names)) n)
              ∙ sym (list_any-append (λ x. bytes_eq n x) (texts (take i names)) (name ∷ []))
              ∙ ap (λ (ns : List (List ℕ)). is_among ns n) (sym longer);
        }

  module _ (over : length names ≤ i) where
    pub twice-none : first_twice (texts names) ≡ None
    twice-none = far.rest ∙ ap (λ (bs : List (Bor (List ℕ))). twice_behind far.before (texts bs)) (drop_all i names over)

    pub all-known : (name : List ℕ) → has_text keys name ≡ is_among (texts names) name
    all-known name = far.known name ∙ far.taken name ∙ ap (λ (bs : List (Bor (List ℕ))). is_among (texts bs) name) (take_all i names over)
