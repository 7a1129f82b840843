-- How deep trees of picked, packed and unpacked columns are.
use Rattle.std.proofs.Common.{◌≡◌, ℕ, zero, suc, ◌+◌, ◌≤◌, ℤ, List, [], ◌∷◌, ◌++◌, map, get_or, take, drop, refl, ap, arith}
use Rattle.tree_model.specs.promise.TreeParts.{IsLive}
use Rattle.tree_model.specs.promise.TreeData.{Released, Live, trees, tree_list}
use Rattle.tree_model.specs.Tree.{Depth, depth_of_all}
use Rattle.tree_model.proofs.Lists.{trees-tree_list}
use Rattle.tree_model.proofs.Measures.{depth_of_all-append}
use Rattle.raw_array.specs.promise.Members.{ArrayTree}
use Rattle.raw_array.specs.Windows.{Window}
use Rattle.raw_array.proofs.Windows.{Depth-Window}
use Rattle.arr_move.specs.TreeActs.{Columns}
use Rattle.array_laws.specs.Picking.{Packed, Unpacked, cut_children}

one-depth : (cs : List ArrayTree) (p : ℕ) → Depth (get_or cs p Released) ≤ depth_of_all (trees cs)
one-depth [] p = omega arith
one-depth (c ∷ cs) zero = omega arith
one-depth (c ∷ cs) (suc p) = let e = one-depth cs p in omega (arith, e)

cut-depth : (cs : List ArrayTree) (off len : ℤ) (picks : List ℕ)
    → depth_of_all (trees (map (λ p. Window (get_or cs p Released) off len) picks)) ≤ depth_of_all (trees cs)
cut-depth cs off len [] = omega arith
cut-depth cs off len (p ∷ picks) =
    let a = one-depth cs p in
    let b = Depth-Window (get_or cs p Released) off len in
    let c = cut-depth cs off len picks in
    omega (arith, a, b, c)

window-depth : (cs : List ArrayTree) (off len : ℤ) → depth_of_all (trees (map (λ c. Window c off len) cs)) ≡ depth_of_all (trees cs)
window-depth [] off len = refl
window-depth (c ∷ cs) off len = let a = Depth-Window c off len in let b = window-depth cs off len in omega (arith, a, b)

pub depth-picked : (t : ArrayTree) (picks : List ℕ) → IsLive t → Depth (Columns t picks) ≤ Depth t
depth-picked Released picks live = absurd live
depth-picked (Live m ts d) picks live =
    let a = cut-depth (tree_list ts) m.offset m.length picks in
    let b = ap depth_of_all (trees-tree_list ts) in
    omega (arith, a, b)

pub depth-packed : (t : ArrayTree) (rest picks : List ℕ) → IsLive t → Depth (Packed t rest picks) ≤ Depth t + 1
depth-packed Released rest picks live = absurd live
depth-packed (Live m ts d) rest picks live =
    let a = cut-depth (tree_list ts) m.offset m.length rest in
    let c = depth-picked (Live m ts d) picks tt in
    let e = depth_of_all-append (map (λ p. Window (get_or (tree_list ts) p Released) m.offset m.length) rest) (Columns (Live m ts d) picks ∷ []) in
    let b = ap depth_of_all (trees-tree_list ts) in
    omega (arith, a, b, c, e)

take-depth : (n : ℕ) (cs : List ArrayTree) → depth_of_all (trees (take n cs)) ≤ depth_of_all (trees cs)
take-depth zero cs = omega arith
take-depth (suc n) [] = omega arith
take-depth (suc n) (c ∷ cs) = let e = take-depth n cs in omega (arith, e)

drop-depth : (n : ℕ) (cs : List ArrayTree) → depth_of_all (trees (drop n cs)) ≤ depth_of_all (trees cs)
drop-depth zero cs = omega arith
drop-depth (suc n) [] = omega arith
drop-depth (suc n) (c ∷ cs) = let e = drop-depth n cs in omega (arith, e)

children-depth : (t : ArrayTree) → depth_of_all (trees (cut_children t)) ≤ Depth t
children-depth Released = omega arith
children-depth (Live m ts d) =
    let a = window-depth (tree_list ts) m.offset m.length in
    let b = ap depth_of_all (trees-tree_list ts) in
    omega (arith, a, b)

pub depth-unpacked : (t : ArrayTree) (place : ℕ) → IsLive t → Depth (Unpacked t place) ≤ Depth t
depth-unpacked Released place live = absurd live
depth-unpacked (Live m ts d) place live =
    let cs = cut_children (Live m ts d) in
    let one = get_or cs place Released in
    let a = take-depth place cs in
    let b = drop-depth (place + 1) cs in
    let c = children-depth one in
    let e = one-depth cs place in
    let f = window-depth (tree_list ts) m.offset m.length in
    let g = ap depth_of_all (trees-tree_list ts) in
    let h = depth_of_all-append (take place cs ++ cut_children one) (drop (place + 1) cs) in
    let i = depth_of_all-append (take place cs) (cut_children one) in
    omega (arith, a, b, c, e, f, g, h, i)
