-- The columns of a chunk while they are moved one after another, and the chunk that they make.
use Rattle.std.proofs.Common.{arith, ◌≡◌, ◌≢◌, ◌≤◌, ◌<◌, ◌+◌, ◌∙◌, ◌++◌, ℕ, zero, suc, ℤ, pos, ◌≤ℤ◌, List, [], ◌∷◌, length, map, get_or, All}
use Rattle.std.proofs.Common.{refl, sym, ap, subst}
use Rattle.std.proofs.lemmas.List.{get_or_append_left, get_or-append-add, length-append}
use Rattle.tree_model.specs.promise.TreeParts.{IsLive, child_at, children_of}
use Rattle.tree_model.specs.promise.TreeData.{Released, Live, absent, trees}
use Rattle.tree_model.specs.Tree.{Depth, depth_of_all, with_child}
use Rattle.tree_model.proofs.Parted.{length-child}
use Rattle.raw_array.specs.promise.Members.{ArrayTree, Cost, members_of}
use Rattle.raw_array.specs.Members.{cost_of_all}
use Rattle.raw_array.specs.Windows.{Window, FitsWindow}
use Rattle.raw_array.proofs.Windows.{Depth-Window}
use Rattle.layout_rules.specs.promise.Layout.{natural}
use Rattle.layout_rules.specs.promise.Values.{tree_items}
use Rattle.arr_move.specs.TreeActs.{Distinct, FitParentWindow, InRange, struct_members}
use Rattle.arr_move.proofs.Filled.{Depth-child_at}
use Rattle.arr_move.proofs.Moving.{other_child}
use Rattle.arr_export.specs.promise.ArrayTrees.{table_tree}
use Rattle.arr_export.specs.ArrayTrees.{IsColumn}
use Rattle.array_laws.specs.Picking.{Packed}
use Rattle.stages.proofs.CutColumns.{ItemsLaw, natural-is, window-live}
use Rattle.stage_kernels.specs.Packs.{LeftOf, column_in}

members-with_child : (t : ArrayTree) (i : ℕ) (c : ArrayTree) → members_of (with_child t i c) ≡ members_of t
members-with_child Released i c = refl
members-with_child (Live m ts d) i c = refl

pub left-none : (t : ArrayTree) (picks : List ℕ) → LeftOf t picks 0 t
left-none t picks = record { members = refl; places = refl; others = λ p apart. refl }

pub left-more : (t u v : ArrayTree) (picks : List ℕ) (n : ℕ) → LeftOf t picks n u → v ≡ with_child u (get_or picks n 0) Released
    → LeftOf t picks (n + 1) v
left-more t u v picks n left e = record {
  members = ap members_of e ∙ members-with_child u (get_or picks n 0) Released ∙ left.members;
  places = ap (λ w. length (children_of w)) e ∙ length-child u (get_or picks n 0) Released ∙ left.places;
  others = λ p apart.
      ap (λ w. child_at w p) e ∙ other_child u (get_or picks n 0) p (λ same. apart n (omega arith) (sym same))
      ∙ left.others p (λ k lt. apart k (omega (arith, lt)));
}

-- a column that is still there is as it was
pub column-stays : (t u : ArrayTree) (picks : List ℕ) (n p : ℕ) → LeftOf t picks n u → ((k : ℕ) → k < n → get_or picks k 0 ≢ p)
    → column_in u p ≡ column_in t p
column-stays t u picks n p left apart = λ i. Window (left.others p apart i) (left.members i).offset (left.members i).length

fits-same : (a b : ArrayTree) (o q l r : ℤ) → a ≡ b → o ≡ q → l ≡ r → FitsWindow a o l → FitsWindow b q r
fits-same a b o q l r e f g fits = subst (λ c. FitsWindow c q r) e (subst (λ off. FitsWindow a off r) f (subst (λ len. FitsWindow a o len) g fits))

pub fits-stays : (t u : ArrayTree) (picks : List ℕ) (n p : ℕ) → LeftOf t picks n u → ((k : ℕ) → k < n → get_or picks k 0 ≢ p)
    → FitsWindow (child_at t p) (members_of t).offset (members_of t).length → FitsWindow (child_at u p) (members_of u).offset (members_of u).length
fits-stays t u picks n p left apart fits =
    fits-same (child_at t p) (child_at u p) (members_of t).offset (members_of u).offset (members_of t).length (members_of u).length
    (sym (left.others p apart)) (sym (ap (λ m. m.offset) left.members)) (sym (ap (λ m. m.length) left.members)) fits

-- ---- two lists of numbers

pub distinct-front : (xs ys : List ℕ) → Distinct (xs ++ ys) → Distinct xs
distinct-front xs ys distinct i j below small e =
    distinct i j below (omega (arith, small, length-append xs ys))
    (get_or_append_left xs ys 0 i (omega (arith, below, small)) ∙ e ∙ sym (get_or_append_left xs ys 0 j small))

pub distinct-back : (xs ys : List ℕ) → Distinct (xs ++ ys) → Distinct ys
distinct-back xs ys distinct i j below small e =
    distinct (length xs + i) (length xs + j) (omega (arith, below)) (omega (arith, small, length-append xs ys))
    (get_or-append-add xs ys i 0 ∙ e ∙ sym (get_or-append-add xs ys j 0))

pub two-apart : (xs ys : List ℕ) → Distinct (xs ++ ys) → (i j : ℕ) → i < length xs → j < length ys → get_or xs i 0 ≢ get_or ys j 0
two-apart xs ys distinct i j a b e =
    distinct i (length xs + j) (omega (arith, a)) (omega (arith, b, length-append xs ys))
    (get_or_append_left xs ys 0 i a ∙ e ∙ sym (get_or-append-add xs ys j 0))

pub maps-same : {X : Type 0} → (f g : ℕ → X) (picks : List ℕ) → ((k : ℕ) → k < length picks → f (get_or picks k 0) ≡ g (get_or picks k 0))
    → map f picks ≡ map g picks
maps-same f g [] same = refl
maps-same f g (p ∷ picks) same = λ i. same zero (omega arith) i ∷ maps-same f g picks (λ k lt. same (suc k) (omega (arith, lt))) i

-- ---- columns that are cut

live-cost : (t : ArrayTree) → IsLive t → 1 ≤ Cost t
live-cost Released live = absurd live
live-cost (Live m ts d) live = omega arith

pub live-costs : (cs : List ArrayTree) → All IsLive cs → length cs ≤ cost_of_all (trees cs)
live-costs [] live = omega arith
live-costs (c ∷ cs) live =
    let one = live-cost c (live zero Released (omega arith)) in
    let more = live-costs cs (λ k none small. live (suc k) none (omega (arith, small))) in
    omega (arith, one, more)

cut-depth : (t : ArrayTree) (p : ℕ) → p < length (children_of t) → Depth t ≤ 127 → Depth (column_in t p) ≤ 126
cut-depth t p inside deep =
    let own = Depth-Window (child_at t p) (members_of t).offset (members_of t).length in
    let less = Depth-child_at t p inside in
    omega (arith, own, less, deep)

pub columns-depth : (t : ArrayTree) (picks : List ℕ) → InRange t picks → Depth t ≤ 127 → depth_of_all (trees (map (column_in t) picks)) ≤ 126
columns-depth t [] inside deep = omega arith
columns-depth t (p ∷ picks) inside deep =
    let one = cut-depth t p (inside zero (omega arith)) deep in
    let more = columns-depth t picks (λ k small. inside (suc k) (omega (arith, small))) deep in
    omega (arith, one, more)

cut-long : ItemsLaw → (t : ArrayTree) (off len : ℤ) → pos 0 ≤ℤ off → pos 0 ≤ℤ len → IsLive t → tree_items (Window t off len) ≡ natural len
cut-long law t off len a b live =
    (λ i. tree_items (Window t (natural-is off a i) (natural-is len b i))) ∙ law t (natural off) (natural len) live

-- the columns that a struct shows, taken out
pub columns-ready : ItemsLaw → (t : ArrayTree) (picks : List ℕ) → pos 0 ≤ℤ (members_of t).offset → pos 0 ≤ℤ (members_of t).length → Depth t ≤ 127
    → InRange t picks → FitParentWindow t picks → All (IsColumn (natural (members_of t).length)) (map (column_in t) picks)
columns-ready law t [] a b deep inside fits k none small = absurd (omega (arith, small))
columns-ready law t (p ∷ picks) a b deep inside fits zero none small = record {
  live = window-live (child_at t p) (members_of t).offset (members_of t).length (fits zero (omega arith)).0;
  not_deep = let low = cut-depth t p (inside zero (omega arith)) deep in omega (arith, low);
  long = let e = cut-long law (child_at t p) (members_of t).offset (members_of t).length a b (fits zero (omega arith)).0 in omega (arith, e);
}
columns-ready law t (p ∷ picks) a b deep inside fits (suc k) none small =
    columns-ready law t picks a b deep (λ j h. inside (suc j) (omega (arith, h))) (λ j h. fits (suc j) (omega (arith, h))) k none (omega (arith, small))

-- the tree that is made of them
pub packed-tree : (t : ArrayTree) (rest picks : List ℕ) (cols mems : List ArrayTree) (len : ℤ) → len ≡ (members_of t).length → pos 0 ≤ℤ (members_of t).length
    → cols ≡ map (column_in t) rest → mems ≡ map (column_in t) picks
    → table_tree (natural len) (cols ++ table_tree (natural len) mems ∷ []) ≡ Packed t rest picks
packed-tree t rest picks cols mems len same le a b =
    let long : pos (natural len) ≡ (members_of t).length = ap (λ z. pos (natural z)) same ∙ sym (natural-is (members_of t).length le) in
    λ i. Live (struct_members (long i)) (trees (a i ++ Live (struct_members (long i)) (trees (b i)) absent ∷ [])) absent

-- those of a struct whose others were taken before
pub columns-stay : (t u : ArrayTree) (rest picks : List ℕ) → LeftOf t rest (length rest) u → Distinct (rest ++ picks)
    → map (column_in u) picks ≡ map (column_in t) picks
columns-stay t u rest picks left distinct =
    maps-same (column_in u) (column_in t) picks
    (λ k inside. column-stays t u rest (length rest) (get_or picks k 0) left (λ i lt. two-apart rest picks distinct i k lt inside))

pub are-live : (t : ArrayTree) (picks : List ℕ) → FitParentWindow t picks → All IsLive (map (column_in t) picks)
are-live t [] fits k none small = absurd (omega (arith, small))
are-live t (p ∷ picks) fits zero none small = window-live (child_at t p) (members_of t).offset (members_of t).length (fits zero (omega arith)).0
are-live t (p ∷ picks) fits (suc k) none small = are-live t picks (λ j h. fits (suc j) (omega (arith, h))) k none (omega (arith, small))
