-- How much the items of lists are in all, list by list, and items one by one.
use Rattle.std.proofs.Common.{◌≡◌, ◌∙◌, ◌≤◌, ◌+◌, ◌-◌, ℕ, zero, suc, List, [], ◌∷◌, ◌++◌, ap, subst, arith}
use Rattle.std.proofs.lemmas.Grind.{flat_map-append}
use Rattle.std.proofs.lemmas.List.{append-nil}
use Rattle.std.specs.List.{flat_map}
use Rattle.data_types.specs.promise.Value.{Value}
use Rattle.layout_rules.specs.promise.Values.{each}
use Rattle.list_cols.specs.Listed.{listed}
use Rattle.list_cols.specs.promise.Nested.{items_in}
use Rattle.list_cols.proofs.ListItems.{each-next}

module _ (size : List Value → ℕ) (sum : (xs ys : List Value) → size (xs ++ ys) ≡ size xs + size ys) where
  -- ---- lists

  pub list-next : (lists : ℕ → Value) (n : ℕ) → size (listed lists (n + 1)) ≡ size (listed lists n) + size (items_in (lists n))
  list-next lists n =
      let here : 0 + n ≡ n = omega arith in
      ap (λ (vs : List Value). size (flat_map items_in vs)) (each-next lists 0 n)
      ∙ ap size (flat_map-append items_in (each lists 0 n) (lists (0 + n) ∷ []))
      ∙ sum (listed lists n) (items_in (lists (0 + n)) ++ [])
      ∙ ap (λ (vs : List Value). size (listed lists n) + size vs) (append-nil (items_in (lists (0 + n))))
      ∙ ap (λ m. size (listed lists n) + size (items_in (lists m))) here

  list-more : (lists : ℕ → Value) (n d : ℕ) → size (listed lists n) ≤ size (listed lists (n + d))
  list-more lists n zero = let same : n + 0 ≡ n = omega arith in omega (arith, ap (λ m. size (listed lists m)) same)
  list-more lists n (suc d) =
      let next : n + suc d ≡ (n + d) + 1 = omega arith in
      omega (arith, list-more lists n d, list-next lists (n + d), ap (λ m. size (listed lists m)) next)

  pub list-within : (lists : ℕ → Value) (n m : ℕ) → n ≤ m → size (listed lists n) ≤ size (listed lists m)
  list-within lists n m le =
      let whole : n + (m - n) ≡ m = omega (arith, le) in
      subst (λ k. size (listed lists n) ≤ size (listed lists k)) whole (list-more lists n (m - n))

  -- ---- items

  pub item-next : (f : ℕ → Value) (a n : ℕ) → size (each f a (n + 1)) ≡ size (each f a n) + size (f (a + n) ∷ [])
  item-next f a n = ap size (each-next f a n) ∙ sum (each f a n) (f (a + n) ∷ [])

  item-more : (f : ℕ → Value) (a n d : ℕ) → size (each f a n) ≤ size (each f a (n + d))
  item-more f a n zero = let same : n + 0 ≡ n = omega arith in omega (arith, ap (λ m. size (each f a m)) same)
  item-more f a n (suc d) =
      let next : n + suc d ≡ (n + d) + 1 = omega arith in
      omega (arith, item-more f a n d, item-next f a (n + d), ap (λ m. size (each f a m)) next)

  pub item-within : (f : ℕ → Value) (a n m : ℕ) → n ≤ m → size (each f a n) ≤ size (each f a m)
  item-within f a n m le =
      let whole : n + (m - n) ≡ m = omega (arith, le) in
      subst (λ k. size (each f a n) ≤ size (each f a k)) whole (item-more f a n (m - n))
