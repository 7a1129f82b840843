-- The table of children by their ids, in the making.
use Rattle.std.proofs.Common.{◌≡◌, ◌≢◌, ℕ, suc, ◌+◌, ◌<◌, ◌≤◌, Bool, true, false, cond, List, [], ◌∷◌, ◌++◌, length, get_or, set, take, replicate, Option, None, Some, refl, ap, sym, ◌∙◌, subst, inl, inr, arith}
use Rattle.std.specs.Prelude.{◌==◌, All, AllPairs, position, if◌then◌else◌, ◌⊎◌}
use Rattle.std.specs.List.{IsDistinct, position_from, list_any}
use Rattle.std.proofs.Common.{get_or-set_other, get_or-set_same, eqb, length-set}
use Rattle.std.proofs.lemmas.Bool.{eqb-true, eq-eqb, ne_eqb}
use Rattle.std.proofs.lemmas.List.{take_more, take_all, length-take, get_or-take, get_or-replicate, get_or_default}
use Rattle.std.proofs.lemmas.List.Elements.{recursion_from_All}
use Rattle.std.proofs.lemmas.List.Folds.{Any-from_list_any}
use Rattle.std.proofs.lemmas.Iterator.Adapters.{position_from-zero}
use Rattle.std.proofs.lemmas.Map.Steps.{length-le_from_distinct_below}
use Rattle.union_cols.specs.promise.UnionFormats.{AreIds}
use Rattle.union_cols.specs.IdTables.{entry}

-- ---- ids are at most 128

distinct_of : (xs : List ℕ) → AllPairs (λ a b. a ≢ b) xs → IsDistinct eqb xs
unfolding IsDistinct
distinct_of [] pairs = tt
distinct_of (x ∷ xs) pairs = (
  recursion_from_All (λ y. eqb x y ≡ false) xs (λ k d h. ne_eqb x (get_or xs k d) (pairs 0 (suc k) d (omega arith) (omega arith))),
  distinct_of xs (λ i j d lt h. pairs (suc i) (suc j) d (omega arith) (omega arith)),
)

below : (xs : List ℕ) → All (λ id. id ≤ 127) xs → (q : ℕ) → list_any (eqb q) xs ≡ true → q < 128
below xs small q found =
    let any = Any-from_list_any (eqb q) xs found in
    let same = eqb-true q any.1 any.4 in
    omega (arith, same, subst (λ (x : ℕ). x ≤ 127) any.3 (small any.0 any.1 any.2))

pub few_ids : (ids : List ℕ) → AreIds ids → length ids ≤ 128
few_ids ids are = length-le_from_distinct_below ids 128 (distinct_of ids are.distinct) (below ids are.small)

-- ---- the first place of an id

abbrev from : ℕ → List ℕ → ℕ → Option ℕ
from n xs id = position_from (λ known. known == id) n xs

abbrev pub place : List ℕ → ℕ → Option ℕ
place ids id = position (λ known. known == id) ids

place-from : (ids : List ℕ) (id : ℕ) → place ids id ≡ from 0 ids id
place-from ids id = position_from-zero (λ known. known == id) ids

from-other : (xs : List ℕ) (n x id : ℕ) → x ≢ id → from n (xs ++ x ∷ []) id ≡ from n xs id
from-other [] n x id apart = ap (λ (b : Bool). cond b (Some n) None) (ne_eqb x id apart)
from-other (y ∷ ys) n x id apart = ap (λ (o : Option ℕ). cond (y == id) (Some n) o) (from-other ys (n + 1) x id apart)

from-same : (xs : List ℕ) (n x : ℕ) → ((k d : ℕ) → k < length xs → get_or xs k d ≢ x) → from n (xs ++ x ∷ []) x ≡ Some (n + length xs)
from-same [] n x new =
    let e : n + 0 ≡ n = omega arith in
    ap (λ (b : Bool). cond b (Some n) None) (eq-eqb x x refl) ∙ ap Some (sym e)
from-same (y ∷ ys) n x new =
    let e : (n + 1) + length ys ≡ n + suc (length ys) = omega arith in
    ap (λ (b : Bool). cond b (Some n) (from (n + 1) (ys ++ x ∷ []) x)) (ne_eqb y x (new 0 0 (omega arith)))
    ∙ from-same ys (n + 1) x (λ k d h. new (suc k) d (omega arith)) ∙ ap Some e

from-none : (xs : List ℕ) (n id : ℕ) → ((k d : ℕ) → k < length xs → get_or xs k d ≢ id) → from n xs id ≡ None
from-none [] n id new = refl
from-none (y ∷ ys) n id new =
    ap (λ (b : Bool). cond b (Some n) (from (n + 1) ys id)) (ne_eqb y id (new 0 0 (omega arith)))
    ∙ from-none ys (n + 1) id (λ k d h. new (suc k) d (omega arith))

-- ---- the table so far

pub record IsTable (ids places : List ℕ) : Type 0 where
  pub long : length places ≡ 128
  pub entries : (id : ℕ) → id < 128 → entry (get_or places id 0) ≡ place ids id

pub empty_table : (places : List ℕ) → places ≡ replicate 128 255 → IsTable [] places
empty_table places is =
    record {
      long = ap length is;
      entries = λ id h. ap entry (ap (λ (l : List ℕ). get_or l id 0) is ∙ get_or-replicate 128 id 255 0 h);
    }

entry-some : (n : ℕ) → n < 255 → entry n ≡ Some n
entry-some n h = ap (λ (b : Bool). if b then None else Some n) (ne_eqb n 255 (omega arith))

front_new : (ids : List ℕ) (n x : ℕ) → n < length ids → get_or ids n 0 ≡ x → AreIds ids → (k d : ℕ) → k < length (take n ids) → get_or (take n ids) k d ≢ x
front_new ids n x inside is are k d h =
    let lt : k < n = omega (arith, h, length-take n ids) in
    λ e. are.distinct k n d lt inside (sym (get_or-take n ids k d lt) ∙ e ∙ sym is ∙ get_or_default ids n 0 d inside)

by_case : (x id : ℕ) → (x ≡ id) ⊎ (x ≢ id)
by_case x id = split (x == id) refl
  where
    split : (b : Bool) → (x == id) ≡ b → (x ≡ id) ⊎ (x ≢ id)
    split true e = inl (eqb-true x id e)
    split false e = inr (λ same. let yes = eq-eqb x id same in cc)

pub table_more : (ids places : List ℕ) (n x : ℕ) → n < length ids → get_or ids n 0 ≡ x → AreIds ids → IsTable (take n ids) places
    → IsTable (take (n + 1) ids) (set places x n)
table_more ids places n x inside is are table =
    let few = few_ids ids are in
    let small : x < 128 = omega (arith, subst (λ (y : ℕ). y ≤ 127) is (are.small n 0 inside)) in
    let there : x < length places = omega (arith, small, table.long) in
    let grown : take (n + 1) ids ≡ take n ids ++ x ∷ [] = take_more ids n 0 inside ∙ ap (λ (y : ℕ). take n ids ++ y ∷ []) is in
    let count : 0 + length (take n ids) ≡ n = omega (arith, length-take n ids, inside) in
    record {
      long = long places x n ∙ table.long;
      entries = λ id h. elim (by_case x id) [
        | inl same ↦
            subst (λ (y : ℕ). entry (get_or (set places x n) y 0) ≡ place (take (n + 1) ids) y) same
            (ap entry (get_or-set_same places x n 0 there) ∙ entry-some n (omega (arith, few, inside))
            ∙ sym (ap (λ (l : List ℕ). place l x) grown ∙ place-from (take n ids ++ x ∷ []) x
            ∙ from-same (take n ids) 0 x (front_new ids n x inside is are) ∙ ap Some count))
        | inr apart ↦
            ap entry (get_or-set_other places x id n 0 (λ e. apart (sym e))) ∙ table.entries id h
            ∙ sym (ap (λ (l : List ℕ). place l id) grown ∙ place-from (take n ids ++ x ∷ []) id
            ∙ from-other (take n ids) 0 x id apart ∙ sym (place-from (take n ids) id))
      ];
    }
  where
    long : (places : List ℕ) (x n : ℕ) → length (set places x n) ≡ length places
    long places x n = length-set places x n

pub whole_table : (ids places : List ℕ) (n : ℕ) → length ids ≤ n → IsTable (take n ids) places → IsTable ids places
whole_table ids places n ended table = subst (λ (l : List ℕ). IsTable l places) (take_all n ids ended) table

pub none_above : (ids : List ℕ) (id : ℕ) → AreIds ids → 128 ≤ id → place ids id ≡ None
none_above ids id are high =
    place-from ids id ∙ from-none ids 0 id (λ k d h e. omega (arith, high, subst (λ (x : ℕ). x ≤ 127) e (are.small k d h)))
