-- The one group of items that are all the same.
use Rattle.std.proofs.Common.{◌≡◌, ◌∙◌, ◌+◌, ◌<◌, ◌++◌, ℕ, zero, suc, Bool, true, false, List, [], ◌∷◌, length, map, replicate, refl, sym, ap, subst, arith}
use Rattle.std.proofs.lemmas.Bool.Decides.{nat_tests}
use Rattle.std.proofs.lemmas.List.{append-nil}
use Rattle.std.specs.List.{concat}
use Rattle.std.specs.Prelude.{if◌then◌else◌, nat_eq, ◌==◌}
use Rattle.data_types.specs.promise.Value.{Value, Bytes}
use Rattle.data_types.specs.promise.Groups.{sums_from}
use Rattle.data_types.specs.Groups.{places}
use Rattle.layout_rules.specs.promise.Values.{each}
use Rattle.row_groups.specs.Chains.{places_by_number}
use Rattle.row_groups.specs.Walk.{IsGrouped}
use Rattle.row_groups.specs.declared.groups.Groups.{Groups}
use Rattle.row_groups.proofs.Alike.{no-group, one-group}
use Rattle.array_laws.proofs.WindowItems.{length-each}

-- groups that are the places of numbers
pub record ByNumbers (item : ℕ → Value) (count : ℕ) (groups : Groups) : Type 0 where
  pub numbers : List ℕ
  pub grouped : IsGrouped item count numbers groups.firsts.items
  pub order : groups.order.items ≡ concat (places_by_number numbers (length groups.firsts.items))
  pub offsets : groups.offsets.items ≡ sums_from 0 (map length (places_by_number numbers (length groups.firsts.items)))

all-places : (a n : ℕ) → places (nat_eq 0) a (replicate n 0) ≡ each (λ i. i) a n
all-places a zero = refl
all-places a (suc n) = ap (λ (xs : List ℕ). a ∷ xs) (all-places (suc a) n)

pub one-by-numbers : (item : ℕ → Value) (n : ℕ) (groups : Groups) → ((j : ℕ) → j < n → item j ≡ Bytes [])
    → groups.firsts.items ≡ (if n == 0 then [] else 0 ∷ []) → groups.order.items ≡ each (λ i. i) 0 n
    → groups.offsets.items ≡ 0 ∷ (if n == 0 then [] else n ∷ []) → ByNumbers item n groups
one-by-numbers item n groups all firsts order offsets = pick (n == 0) refl
  where
    pick : (b : Bool) → (n == 0) ≡ b → ByNumbers item n groups
    pick true f =
        let none : n ≡ 0 = grind (arith, nat_tests, f) in
        let here : groups.firsts.items ≡ [] = firsts ∙ ap (λ (b : Bool). if b then [] else 0 ∷ []) f in
        let few : length groups.firsts.items ≡ 0 = ap (length {A = ℕ}) here in
        record {
          numbers = [];
          grouped = subst (IsGrouped item n []) (sym here) (subst (λ m. IsGrouped item m [] []) (sym none) (no-group item));
          order = order ∙ ap (each (λ i. i) 0) none ∙ ap (λ m. concat (places_by_number [] m)) (sym few);
          offsets = offsets ∙ ap (λ (b : Bool). 0 ∷ (if b then [] else n ∷ [])) f ∙ ap (λ m. sums_from 0 (map length (places_by_number [] m))) (sym few);
        }
    pick false f =
        let some : 0 < n = grind (arith, nat_tests, f) in
        let here : groups.firsts.items ≡ 0 ∷ [] = firsts ∙ ap (λ (b : Bool). if b then [] else 0 ∷ []) f in
        let one : length groups.firsts.items ≡ 1 = ap (length {A = ℕ}) here in
        let ns : List ℕ = replicate n 0 in
        let long : n ≡ length (places (nat_eq 0) 0 ns) = sym (length-each (λ i. i) 0 n) ∙ ap (length {A = ℕ}) (sym (all-places 0 n)) in
        let end : n ≡ 0 + length (places (nat_eq 0) 0 ns) = omega (arith, long) in
        record {
          numbers = ns;
          grouped = subst (IsGrouped item n ns) (sym here) (one-group item n some all);
          order = order ∙ sym (all-places 0 n) ∙ sym (append-nil (places (nat_eq 0) 0 ns)) ∙ ap (λ m. concat (places_by_number ns m)) (sym one);
          offsets = offsets ∙ ap (λ (b : Bool). 0 ∷ (if b then [] else n ∷ [])) f ∙ ap (λ m. 0 ∷ m ∷ []) end
              ∙ ap (λ m. sums_from 0 (map length (places_by_number ns m))) (sym one);
        }
