-- Lists that the typing of stages goes over.
use Rattle.std.proofs.Common.{◌≡◌, ◌∙◌, ◌<◌, ◌+◌, ◌++◌, ℕ, zero, suc, Bool, true, false, not, List, [], ◌∷◌, length, map, get_or, refl, ap, arith, append-nil}
use Rattle.std.specs.Prelude.{◌==◌, ◌||◌, ◌&&◌, position, if◌then◌else◌}
use Rattle.std.specs.List.{filter, list_all, list_any, position_or_len, range_with_len}
use Rattle.std.proofs.lemmas.List.{length-map}
use Rattle.std.proofs.lemmas.List.Elements.{filter-append}
use Rattle.data_types.specs.promise.Parts.{picked}
use Rattle.data_types.specs.promise.Table.{Column}
use Rattle.stage_model.specs.promise.Typing.{no_column}
use Rattle.stage_model.specs.Typing.{others}

place-or-len : {X Y : Type 0} (p : Y → Bool) (f : X → Y) (xs : List X) → position_or_len p (map f xs) ≡ position_or_len (λ x. p (f x)) xs
place-or-len p f [] = refl
place-or-len p f (x ∷ xs) = ap (λ n. if not (p (f x)) then 1 + n else 0) (place-or-len p f xs)

-- a place in the list of what the items are
pub position-map : {X Y : Type 0} (p : Y → Bool) (f : X → Y) (xs : List X) → position p (map f xs) ≡ position (λ x. p (f x)) xs
position-map p f xs = rw (place-or-len p f xs, length-map xs f) refl

pub any-map : {X Y : Type 0} (p : Y → Bool) (f : X → Y) (xs : List X) → list_any p (map f xs) ≡ list_any (λ x. p (f x)) xs
any-map p f [] = refl
any-map p f (x ∷ xs) = ap (λ b. p (f x) || b) (any-map p f xs)

and-false : (a : Bool) → (a && false) ≡ false
and-false true = refl
and-false false = refl

-- a column at a place that fails the test
pub all-fails : (p : Column → Bool) (columns : List Column) (places : List ℕ) (i d : ℕ) → i < length places
    → p (get_or columns (get_or places i d) no_column) ≡ false
    → list_all p (picked no_column places columns) ≡ false
all-fails p columns [] i d within fails = absurd (omega (arith, within))
all-fails p columns (place ∷ places) zero d within fails = rw fails refl
all-fails p columns (place ∷ places) (suc i) d within fails =
    rw (all-fails p columns places i d (omega (arith, within)) fails) (and-false (p (get_or columns place no_column)))

range-more : (a n : ℕ) → range_with_len a (n + 1) ≡ range_with_len a n ++ (a + n) ∷ []
range-more a zero = ap (λ (k : ℕ). k ∷ []) (omega arith)
range-more a (suc n) =
    let e : suc n + 1 ≡ suc (n + 1) = omega arith in
    rw e (ap (λ (ks : List ℕ). a ∷ ks) (range-more (a + 1) n ∙ ap (λ (k : ℕ). range_with_len (a + 1) n ++ k ∷ []) (omega arith)))

-- one number more
pub others_more : (picks : List ℕ) (n : ℕ) → others picks (n + 1) ≡ others picks n ++ (if not (list_any (λ q. q == n) picks) then n ∷ [] else [])
others_more picks n =
    let e : 0 + n ≡ n = omega arith in
    ap (filter (λ p. not (list_any (λ q. q == p) picks))) (range-more 0 n ∙ ap (λ (k : ℕ). range_with_len 0 n ++ k ∷ []) e)
    ∙ filter-append (λ p. not (list_any (λ q. q == p) picks)) (range_with_len 0 n) (n ∷ [])

-- a number that isn't among the picks, and one that is
pub others_with : (picks : List ℕ) (n : ℕ) → list_any (λ q. q == n) picks ≡ false → others picks (n + 1) ≡ others picks n ++ n ∷ []
others_with picks n e = rw (others_more picks n, e) refl

pub others_same : (picks : List ℕ) (n : ℕ) → list_any (λ q. q == n) picks ≡ true → others picks (n + 1) ≡ others picks n
others_same picks n e = rw (others_more picks n, e) (append-nil (others picks n))
