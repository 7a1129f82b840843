-- What trees of picked, packed and unpacked columns cost, and how deep they are.
use Rattle.std.proofs.Common.{◌≡◌, ◌≢◌, ℕ, zero, suc, ◌+◌, ◌<◌, ◌≤◌, ℤ, List, [], ◌∷◌, ◌++◌, length, map, get_or, set, take, drop, refl, ap, sym, arith}
use Rattle.std.proofs.Math.Seq.{drop-nil}
use Rattle.std.proofs.lemmas.List.{get_or-set_other}
use Rattle.tree_model.specs.promise.TreeParts.{IsLive}
use Rattle.tree_model.specs.promise.TreeData.{Released, Live, trees, tree_list}
use Rattle.tree_model.proofs.Lists.{trees-tree_list}
use Rattle.tree_model.proofs.Measures.{cost_of_all-append}
use Rattle.raw_array.specs.promise.Members.{ArrayTree, Cost, holds}
use Rattle.raw_array.specs.Members.{cost_of_all}
use Rattle.raw_array.specs.Windows.{Window}
use Rattle.arr_move.specs.TreeActs.{Columns, Distinct}
use Rattle.raw_array.proofs.Windows.{Cost-Window}
use Rattle.array_laws.specs.Picking.{Packed, Unpacked, cut_children}

-- ---- distinct picks of a list

taken : (cs : List ArrayTree) (p : ℕ) → cost_of_all (trees (set cs p Released)) + Cost (get_or cs p Released) ≡ cost_of_all (trees cs)
taken [] p = refl
taken (c ∷ cs) zero = omega arith
taken (c ∷ cs) (suc p) = let e = taken cs p in omega (arith, e)

abbrev at : List ArrayTree → ℕ → ArrayTree
at cs p = get_or cs p Released

others-stay : (cs : List ArrayTree) (p : ℕ) (picks : List ℕ) → ((k : ℕ) → k < length picks → get_or picks k 0 ≢ p)
    → map (at (set cs p Released)) picks ≡ map (at cs) picks
others-stay cs p [] apart = refl
others-stay cs p (q ∷ picks) apart =
    let first = get_or-set_other cs p q Released Released (apart zero (omega arith)) in
    λ t. first t ∷ others-stay cs p picks (λ k lt. apart (suc k) (omega (arith, lt))) t

rest-distinct : (p : ℕ) (picks : List ℕ) → Distinct (p ∷ picks) → Distinct picks
rest-distinct p picks d = λ i j ij lt. d (suc i) (suc j) (omega (arith, ij)) (omega (arith, lt))

costs-picked : (cs : List ArrayTree) (picks : List ℕ) → Distinct picks → cost_of_all (trees (map (at cs) picks)) ≤ cost_of_all (trees cs)
costs-picked cs [] d = omega arith
costs-picked cs (p ∷ picks) d =
    let without = costs-picked (set cs p Released) picks (rest-distinct p picks d) in
    let same = ap (λ ts. cost_of_all (trees ts)) (others-stay cs p picks (λ k lt e. d zero (suc k) (omega arith) (omega (arith, lt)) (sym e))) in
    let whole = taken cs p in
    omega (arith, without, same, whole)

costs-cut : (cs : List ArrayTree) (off len : ℤ) (picks : List ℕ)
    → cost_of_all (trees (map (λ p. Window (get_or cs p Released) off len) picks)) ≡ cost_of_all (trees (map (at cs) picks))
costs-cut cs off len [] = refl
costs-cut cs off len (p ∷ picks) = let e = Cost-Window (get_or cs p Released) off len in let f = costs-cut cs off len picks in omega (arith, e, f)

costs-window : (cs : List ArrayTree) (off len : ℤ) → cost_of_all (trees (map (λ c. Window c off len) cs)) ≡ cost_of_all (trees cs)
costs-window [] off len = refl
costs-window (c ∷ cs) off len = let e = Cost-Window c off len in let f = costs-window cs off len in omega (arith, e, f)

map-append : {X Y : Type 0} → (f : X → Y) (xs ys : List X) → map f (xs ++ ys) ≡ map f xs ++ map f ys
map-append f [] ys = refl
map-append f (x ∷ xs) ys = ap (λ zs. f x ∷ zs) (map-append f xs ys)

-- ---- the trees

pub cost-picked : (t : ArrayTree) (picks : List ℕ) → IsLive t → Distinct picks → Cost (Columns t picks) ≤ Cost t
cost-picked Released picks live d = absurd live
cost-picked (Live m ts e) picks live d =
    let a = costs-picked (tree_list ts) picks d in
    let b = costs-cut (tree_list ts) m.offset m.length picks in
    let c = ap cost_of_all (trees-tree_list ts) in
    omega (arith, a, b, c)

pub cost-packed : (t : ArrayTree) (rest picks : List ℕ) → IsLive t → Distinct (rest ++ picks) → Cost (Packed t rest picks) ≤ Cost t + 1
cost-packed Released rest picks live d = absurd live
cost-packed (Live m ts e) rest picks live d =
    let a = costs-picked (tree_list ts) (rest ++ picks) d in
    let f = ap (λ cs. cost_of_all (trees cs)) (map-append (at (tree_list ts)) rest picks) in
    let g = cost_of_all-append holds (map (at (tree_list ts)) rest) (map (at (tree_list ts)) picks) in
    let b = costs-cut (tree_list ts) m.offset m.length rest in
    let h = costs-cut (tree_list ts) m.offset m.length picks in
    let c = ap cost_of_all (trees-tree_list ts) in
    let i = cost_of_all-append holds (map (λ p. Window (get_or (tree_list ts) p Released) m.offset m.length) rest) (Columns (Live m ts e) picks ∷ []) in
    omega (arith, a, f, g, b, h, c, i)

around : (cs : List ArrayTree) (p : ℕ)
    → cost_of_all (trees (take p cs)) + Cost (get_or cs p Released) + cost_of_all (trees (drop (p + 1) cs)) ≡ cost_of_all (trees cs)
around [] zero = refl
around [] (suc p) = let e = ap (λ (cs : List ArrayTree). cost_of_all (trees cs)) (drop-nil (suc p + 1)) in omega (arith, e)
around (c ∷ cs) zero = omega arith
around (c ∷ cs) (suc p) =
    let e = around cs p in
    let s : suc p + 1 ≡ suc (p + 1) = omega arith in
    let f = ap (λ n. cost_of_all (trees (drop n (c ∷ cs)))) s in
    omega (arith, e, f)

cost-children : (t : ArrayTree) → cost_of_all (trees (cut_children t)) ≤ Cost t
cost-children Released = omega arith
cost-children (Live m ts d) =
    let a = costs-window (tree_list ts) m.offset m.length in
    let c = ap cost_of_all (trees-tree_list ts) in
    omega (arith, a, c)

pub cost-unpacked : (t : ArrayTree) (place : ℕ) → IsLive t → Cost (Unpacked t place) ≤ Cost t
cost-unpacked Released place live = absurd live
cost-unpacked (Live m ts e) place live =
    let cs = cut_children (Live m ts e) in
    let one = get_or cs place Released in
    let a = around cs place in
    let b = cost-children one in
    let f = cost_of_all-append holds (take place cs ++ cut_children one) (drop (place + 1) cs) in
    let g = cost_of_all-append holds (take place cs) (cut_children one) in
    let h = costs-window (tree_list ts) m.offset m.length in
    let c = ap cost_of_all (trees-tree_list ts) in
    omega (arith, a, b, f, g, h, c)
