-- Columns of nulls alone are passed over.
use Rattle.std.proofs.Common.{◌≡◌, ◌∙◌, ◌+◌, ◌<◌, ◌≤◌, ◌++◌, ◌⊎◌, ℕ, zero, suc, List, [], ◌∷◌, length, get_or, inl, inr, refl, ap, sym, subst, arith, length-append}
use Rattle.std.proofs.lemmas.Bool.{cases_eq}
use Rattle.arr_import.specs.Window.{Window, whole}
use Rattle.data_types.specs.promise.KindTrees.{KindTree}
use Rattle.layout_rules.specs.promise.Values.{row_items}
use Rattle.raw_array.specs.promise.Members.{ArrayTree}
use Rattle.union_cols.specs.NullColumns.{AreAllBut}

-- ---- numbers at places

inside-any : (xs : List ℕ) (p d e : ℕ) → p < length xs → get_or xs p d ≡ get_or xs p e
inside-any [] p d e h = absurd (omega (arith, h))
inside-any (x ∷ xs) zero d e h = refl
inside-any (x ∷ xs) (suc p) d e h = inside-any xs p d e (omega (arith, h))

behind : (xs : List ℕ) (p d : ℕ) → length xs ≤ p → get_or xs p d ≡ d
behind [] zero d h = refl
behind [] (suc p) d h = refl
behind (x ∷ xs) zero d h = absurd (omega (arith, h))
behind (x ∷ xs) (suc p) d h = behind xs p d (omega (arith, h))

shifted : (xs : List ℕ) (p n : ℕ) → p ≤ length xs → get_or (xs ++ n ∷ []) p (n + 1) ≡ get_or xs p n
shifted [] zero n h = refl
shifted [] (suc p) n h = absurd (omega (arith, h))
shifted (x ∷ xs) zero n h = refl
shifted (x ∷ xs) (suc p) n h = shifted xs p n (omega (arith, h))

last-or-before : (k n : ℕ) → k < n + 1 → (k < n) ⊎ (k ≡ n)
last-or-before k n h =
    elim (cases_eq k n) [
      | inl same ↦ inr same
      | inr apart ↦ inl (omega (arith, h, apart))
    ]

one-less : (xs : List ℕ) (p k n : ℕ) → k < get_or xs p (n + 1) → (k < get_or xs p n) ⊎ (k ≡ n)
one-less [] zero k n h = last-or-before k n h
one-less [] (suc p) k n h = last-or-before k n h
one-less (x ∷ xs) zero k n h = inl h
one-less (x ∷ xs) (suc p) k n h = one-less xs p k n h

three : (a b : ℕ) → (a < b) ⊎ ((a ≡ b) ⊎ (b < a))
three zero zero = inr (inl refl)
three zero (suc b) = inl (omega arith)
three (suc a) zero = inr (inr (omega arith))
three (suc a) (suc b) =
    elim (three a b) [
      | inl less ↦ inl (omega (arith, less))
      | inr (inl same) ↦ inr (inl (omega (arith, same)))
      | inr (inr more) ↦ inr (inr (omega (arith, more)))
    ]

-- ---- one column more

module _ {Holds : ℕ → Type 0} where
  pub none-yet : AreAllBut Holds 0 []
  none-yet = record {
    below = λ p inside. absurd (omega (arith, inside));
    start = λ k lt. absurd (omega (arith, lt));
    between = λ p k inside above lt. absurd (omega (arith, inside));
  }

  pub passed-over : (n : ℕ) (ns : List ℕ) → AreAllBut Holds n ns → Holds n → AreAllBut Holds (n + 1) ns
  passed-over n ns so_far here = record {
    below = λ p inside. omega (arith, inside-any ns p (n + 1) n inside, so_far.below p inside);
    start = λ k lt.
        elim (one-less ns 0 k n lt) [
          | inl before ↦ so_far.start k before
          | inr last ↦ subst Holds (sym last) here
        ];
    between = λ p k inside above lt.
        elim (one-less ns (p + 1) k n lt) [
          | inl before ↦ so_far.between p k inside (omega (arith, above, inside-any ns p (n + 1) n inside)) before
          | inr last ↦ subst Holds (sym last) here
        ];
  }

  pub looked-at : (n : ℕ) (ns : List ℕ) → AreAllBut Holds n ns → AreAllBut Holds (n + 1) (ns ++ n ∷ [])
  looked-at n ns so_far = record {
    below = λ p inside.
        elim (cases_eq p (length ns)) [
          | inl last ↦ omega (arith, shifted ns p n (omega (arith, last)), behind ns p n (omega (arith, last)))
          | inr other ↦
              let before : p < length ns = omega (arith, inside, other, length-append ns (n ∷ [])) in
              omega (arith, shifted ns p n (omega (arith, before)), so_far.below p before)
        ];
    start = λ k lt. so_far.start k (omega (arith, lt, shifted ns 0 n (omega arith)));
    between = λ p k inside above lt.
        elim (cases_eq p (length ns)) [
          | inl last ↦
              absurd (omega (
                arith,
                above,
                lt,
                shifted ns p n (omega (arith, last)),
                behind ns p n (omega (arith, last)),
                behind (ns ++ n ∷ []) (p + 1) (n + 1) (omega (arith, last, length-append ns (n ∷ []))),
              ))
          | inr other ↦
              let before : p < length ns = omega (arith, inside, other, length-append ns (n ∷ [])) in
              so_far.between p k before (omega (arith, above, shifted ns p n (omega (arith, before))))
              (omega (arith, lt, shifted ns (p + 1) n (omega (arith, before))))
        ];
  }

  -- one of these more
  pub also-here : (n : ℕ) (ns : List ℕ) (p : ℕ) → AreAllBut Holds n ns → p < length ns → ((k : ℕ) → k < get_or ns p n → Holds k)
      → Holds (get_or ns p n) → (k : ℕ) → k < get_or ns (p + 1) n → Holds k
  also-here n ns p is inside before here k lt =
      elim (three k (get_or ns p n)) [
        | inl less ↦ before k less
        | inr (inl same) ↦ subst Holds (sym same) here
        | inr (inr more) ↦ is.between p k inside more lt
      ]

  -- where there are no more
  pub all-behind : (n : ℕ) (ns : List ℕ) (p : ℕ) → length ns ≤ p → ((k : ℕ) → k < get_or ns p n → Holds k) → (k : ℕ) → k < n → Holds k
  all-behind n ns p end before k lt = before k (omega (arith, lt, behind ns p n end))

  pub at-place : (n : ℕ) (ns : List ℕ) (p d : ℕ) → AreAllBut Holds n ns → p < length ns → get_or ns p n ≡ get_or ns p d
  at-place n ns p d is inside = inside-any ns p n d inside

pub weaker : {Holds Also : ℕ → Type 0} (n m : ℕ) (ns : List ℕ) → n ≡ m → ((k : ℕ) → Holds k → Also k) → AreAllBut Holds n ns → AreAllBut Also m ns
weaker {Holds} {Also} n m ns same to is =
    subst (λ c. AreAllBut Also c ns) same (record {
      below = is.below;
      start = λ k lt. to k (is.start k lt);
      between = λ p k inside above lt. to k (is.between p k inside above lt);
    })

-- the rows of a window that is all of an array
pub whole-rows : (w : Window) (typed : KindTree) (array : ArrayTree) → w ≡ whole typed array → (i : ℕ)
    → row_items w.typed w.array (w.start + i) ≡ row_items typed array i
whole-rows w typed array is i =
    let e : 0 + i ≡ i = omega arith in
    ap (λ (x : Window). row_items x.typed x.array (x.start + i)) is ∙ ap (row_items typed array) e
