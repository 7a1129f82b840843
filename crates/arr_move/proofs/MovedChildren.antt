-- Children of a tree while they are moved out one after another.
use Rattle.std.proofs.Common.{arith, ◌≡◌, ◌≤◌, ◌<◌, ◌+◌, ◌-◌, ◌∙◌, ℕ, zero, suc, ℤ, List, [], ◌∷◌, ◌++◌, length, map, get_or, set, take, drop}
use Rattle.std.proofs.Common.{refl, sym, ap, subst, append_assoc, true, false, if◌then◌else◌}
use Rattle.std.proofs.lemmas.List.{drop-drop, drop-set-lt, get_or-drop, length-drop, map_more}
use Rattle.tree_model.specs.promise.TreeData.{Released, Live, trees, tree_list}
use Rattle.tree_model.specs.promise.TreeParts.{children_of}
use Rattle.tree_model.specs.Tree.{with_child}
use Rattle.tree_model.proofs.Lists.{tree_list-trees}
use Rattle.tree_model.proofs.Measures.{cost_of_all-append}
use Rattle.raw_array.specs.promise.Members.{ArrayTree, Cost, holds}
use Rattle.raw_array.specs.Members.{cost_of_all, windowed}
use Rattle.raw_array.specs.Windows.{FitsWindow, Window, is_whole}

pub children-set : (t : ArrayTree) (i : ℕ) (c : ArrayTree) → children_of (with_child t i c) ≡ set (children_of t) i c
children-set Released i c = refl
children-set (Live m ts d) i c = tree_list-trees (set (tree_list ts) i c)

abbrev pub cut_to : ℤ → ℤ → ArrayTree → ArrayTree
cut_to off len c = Window c off len

-- ---- units

pub cost-push : (xs : List ArrayTree) (c : ArrayTree) → cost_of_all (trees (xs ++ c ∷ [])) ≡ cost_of_all (trees xs) + Cost c
cost-push xs c = let e = cost_of_all-append holds xs (c ∷ []) in omega (arith, e)

-- a window costs what the array does
abbrev pub WindowCosts : Type 0
WindowCosts = (t : ArrayTree) (off len : ℤ) → Cost (Window t off len) ≡ Cost t

pub cost-cut : WindowCosts → (t u : ArrayTree) (off len : ℤ) → u ≡ Window t off len → Cost u ≡ Cost t
cost-cut law t u off len is = ap Cost is ∙ law t off len

-- ---- one more

pub fits-same : (t u : ArrayTree) (off len start count : ℤ) → t ≡ u → start ≡ off → count ≡ len → FitsWindow u off len → FitsWindow t start count
fits-same t u off len start count tree o l fits =
    subst (λ z. FitsWindow t z count) (sym o) (subst (λ z. FitsWindow t off z) (sym l) (subst (λ v. FitsWindow v off len) (sym tree) fits))

-- the items that are still there are those from a place on
pub at-place : (now cs : List ArrayTree) (place : ℕ) → drop place now ≡ drop place cs → get_or now place Released ≡ get_or cs place Released
at-place now cs place same =
    let e : place + 0 ≡ place = omega arith in
    ap (λ n. get_or now n Released) (sym e) ∙ sym (get_or-drop place now 0 Released) ∙ ap (λ l. get_or l 0 Released) same
    ∙ get_or-drop place cs 0 Released ∙ ap (λ n. get_or cs n Released) e

pub at-later : (now cs : List ArrayTree) (from k : ℕ) → from ≤ k → drop from now ≡ drop from cs → get_or now k Released ≡ get_or cs k Released
at-later now cs from k low same =
    let e : from + (k - from) ≡ k = omega (arith, low) in
    ap (λ n. get_or now n Released) (sym e) ∙ sym (get_or-drop from now (k - from) Released) ∙ ap (λ l. get_or l (k - from) Released) same
    ∙ get_or-drop from cs (k - from) Released ∙ ap (λ n. get_or cs n Released) e

pub rest-next : (now cs : List ArrayTree) (place : ℕ) (c : ArrayTree) → drop place now ≡ drop place cs
    → drop (place + 1) (set now place c) ≡ drop (place + 1) cs
rest-next now cs place c same =
    drop-set-lt (place + 1) now place c (omega arith) ∙ sym (drop-drop 1 place now) ∙ ap (drop 1) same ∙ drop-drop 1 place cs

pub rest-taken : (t moved now : ArrayTree) (place : ℕ) → drop place (children_of moved) ≡ drop place (children_of t) → now ≡ with_child moved place Released
    → drop (place + 1) (children_of now) ≡ drop (place + 1) (children_of t)
rest-taken t moved now place same is =
    ap (λ u. drop (place + 1) (children_of u)) is ∙ ap (drop (place + 1)) (children-set moved place Released)
    ∙ rest-next (children_of moved) (children_of t) place Released same

pub items-next : (off len : ℤ) (old items cs : List ArrayTree) (from place : ℕ) (c : ArrayTree) → from ≤ place → place < length cs
    → items ≡ old ++ map (cut_to off len) (take (place - from) (drop from cs)) → c ≡ get_or cs place Released
    → items ++ Window c off len ∷ [] ≡ old ++ map (cut_to off len) (take (place + 1 - from) (drop from cs))
items-next off len old items cs from place c low inside is same =
    let n = place - from in
    let e : place + 1 - from ≡ n + 1 = omega (arith, low) in
    let f : from + n ≡ place = omega (arith, low) in
    let small : n < length (drop from cs) = omega (arith, length-drop from cs, inside, low) in
    let one = same ∙ ap (λ k. get_or cs k Released) (sym f) ∙ sym (get_or-drop from cs n Released) in
    (λ i. is i ++ Window (one i) off len ∷ [])
    ∙ append_assoc old (map (cut_to off len) (take n (drop from cs))) (Window (get_or (drop from cs) n Released) off len ∷ [])
    ∙ ap (λ l. old ++ l) (sym (map_more (cut_to off len) (drop from cs) n Released small))
    ∙ ap (λ k. old ++ map (cut_to off len) (take k (drop from cs))) (sym e)

-- ---- all

cut-released : (off len : ℤ) → Window Released off len ≡ Released
cut-released off len =
    elim (is_whole Released off len) as (λ w. (if w then Released else windowed Released off len) ≡ Released)
    [ true ↦ refl | false ↦ refl ]

pub cut-at : (cs : List ArrayTree) (off len : ℤ) (k : ℕ) → get_or (map (cut_to off len) cs) k Released ≡ Window (get_or cs k Released) off len
cut-at [] off len k = sym (cut-released off len)
cut-at (c ∷ cs) off len zero = refl
cut-at (c ∷ cs) off len (suc k) = cut-at cs off len k
