-- Windows one behind another.
use Rattle.std.proofs.Common.{◌≡◌, ◌∙◌, ℕ, zero, suc, ◌+◌, ◌≤◌, pos, List, [], ◌∷◌, ◌++◌, take, drop, refl, ap, sym, arith}
use Rattle.std.proofs.Math.Seq.{drop-nil, take-nil}
use Rattle.raw_array.specs.promise.Members.{ArrayTree}
use Rattle.data_types.specs.promise.KindTrees.{KindTree}
use Rattle.layout_rules.specs.promise.Values.{rows_of, tree_items, values_of}
use Rattle.layout_rules.specs.promise.Walk.{LayoutOk}
use Rattle.raw_array.specs.Windows.{Window}
use Rattle.array_laws.proofs.WindowTree.{window-has_rows, window-has_values}

pub joined : {X : Type 0} → (xs : List X) (off a b : ℕ) → take a (drop off xs) ++ take b (drop (off + a) xs) ≡ take (a + b) (drop off xs)
joined xs off zero b =
    let p : off + 0 ≡ off = omega arith in
    let q : b ≡ 0 + b = omega arith in
    λ t. take (q t) (drop (p t) xs)
joined [] off (suc a) b = rw (drop-nil off, drop-nil (off + suc a), take-nil b, take-nil (suc a + b)) refl
joined (x ∷ xs) zero (suc a) b =
    let p : 0 + suc a ≡ suc (0 + a) = omega arith in
    let q : suc (a + b) ≡ suc a + b = omega arith in
    ap (λ n. (x ∷ take a xs) ++ take b (drop n (x ∷ xs))) p
    ∙ ap (λ ys. x ∷ ys) (joined xs zero a b)
    ∙ ap (λ n. take n (x ∷ xs)) q
joined (x ∷ xs) (suc off) (suc a) b =
    let p : suc off + suc a ≡ suc (off + suc a) = omega arith in
    ap (λ n. take (suc a) (drop off xs) ++ take b (drop n (x ∷ xs))) p ∙ joined xs off (suc a) b

module _ (typed : KindTree) (t : ArrayTree) (off a b : ℕ) (le : off + a + b ≤ tree_items t) (ok : LayoutOk typed t) where
  first : off + a ≤ tree_items t
  first = omega (arith, le)

  both : off + (a + b) ≤ tree_items t
  both = omega (arith, le)

  pub values-joined : values_of typed (Window t (pos off) (pos a)) ++ values_of typed (Window t (pos (off + a)) (pos b))
      ≡ values_of typed (Window t (pos off) (pos (a + b)))
  values-joined =
      (λ i. window-has_values typed t off a first ok i ++ window-has_values typed t (off + a) b le ok i)
      ∙ joined (values_of typed t) off a b ∙ sym (window-has_values typed t off (a + b) both ok)

  pub rows-joined : rows_of typed (Window t (pos off) (pos a)) ++ rows_of typed (Window t (pos (off + a)) (pos b))
      ≡ rows_of typed (Window t (pos off) (pos (a + b)))
  rows-joined =
      (λ i. window-has_rows typed t off a first ok i ++ window-has_rows typed t (off + a) b le ok i)
      ∙ joined (rows_of typed t) off a b ∙ sym (window-has_rows typed t off (a + b) both ok)
