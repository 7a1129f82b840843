-- What the children of a chunk are with another column in the place of one.
use Rattle.std.proofs.Common.{arith, ◌≡◌, ◌≤◌, ◌<◌, ◌+◌, ◌-◌, ◌^◌, ◌≤ℤ◌, ◌∙◌, ℕ, zero, suc}
use Rattle.std.proofs.Common.{ℤ, pos, negsuc, List, [], ◌∷◌, ◌++◌, length, map, get_or, take, drop, All}
use Rattle.std.proofs.Common.{refl, sym, ap, subst, append_assoc}
use Rattle.std.proofs.lemmas.Int.{ints}
use Rattle.std.proofs.lemmas.List.{get_or-map, length-map, length-drop, take-map, take_rest, drop-drop, drop-map}
use Rattle.data_types.specs.promise.Parts.{replaced}
use Rattle.tree_model.specs.promise.TreeData.{Released, Live, absent, trees}
use Rattle.tree_model.specs.promise.TreeParts.{children_of, child_at}
use Rattle.tree_model.specs.Tree.{Depth}
use Rattle.tree_model.proofs.Lists.{tree_list-trees}
use Rattle.raw_array.specs.promise.Members.{ArrayTree, members_of}
use Rattle.raw_array.specs.Windows.{Window}
use Rattle.raw_array.proofs.Windows.{Depth-Window}
use Rattle.layout_rules.specs.promise.Layout.{end, first, natural}
use Rattle.layout_rules.specs.promise.Values.{tree_items}
use Rattle.arr_export.specs.promise.ArrayTrees.{table_tree}
use Rattle.arr_export.specs.ArrayTrees.{IsColumn}
use Rattle.arr_move.proofs.Filled.{Depth-child_at}
use Rattle.arr_move.specs.TreeActs.{struct_members}
use Rattle.array_laws.specs.Picking.{Replaced, cut_children}
use Rattle.stages.specs.Children.{ShowsChildren}
use Rattle.stages.proofs.CutColumns.{ItemsLaw, natural-is, window-live}
use Rattle.arr_move.proofs.MovedChildren.{cut_to}
use Rattle.stages.proofs.Spliced.{at-behind, at-front, at-middle, each-holds, length-spliced, spliced}

-- ---- a list with another item in the place of one

pub replaced-is : {X : Type 0} (place : ℕ) (x : X) (xs : List X) → spliced place (x ∷ []) xs ≡ replaced place x xs
replaced-is place x xs = append_assoc (take place xs) (x ∷ []) (drop (place + 1) xs)

pub length-replaced : {X : Type 0} (place : ℕ) (x : X) (xs : List X) → place < length xs → length (replaced place x xs) ≡ length xs
length-replaced {X} place x xs inside =
    let e = ap (length {A = X}) (replaced-is place x xs) in
    let f = length-spliced place (x ∷ []) xs inside in
    omega (arith, e, f)

module _ {X : Type 0} (place : ℕ) (x : X) (xs : List X) (inside : place < length xs) where
  pub replaced-front : (k : ℕ) (d : X) → k < place → get_or (replaced place x xs) k d ≡ get_or xs k d
  replaced-front k d low = ap (λ (ys : List X). get_or ys k d) (sym (replaced-is place x xs)) ∙ at-front place (x ∷ []) xs inside k d low

  pub replaced-behind : (j : ℕ) (d : X) → get_or (replaced place x xs) (place + 1 + j) d ≡ get_or xs (place + 1 + j) d
  replaced-behind j d = ap (λ (ys : List X). get_or ys (place + 1 + j) d) (sym (replaced-is place x xs)) ∙ at-behind place (x ∷ []) xs inside j d

  pub replaced-at : (d : X) → get_or (replaced place x xs) place d ≡ x
  replaced-at d =
      let here : place ≡ place + 0 = omega arith in
      ap (λ (ys : List X). get_or ys place d) (sym (replaced-is place x xs)) ∙ ap (λ n. get_or (spliced place (x ∷ []) xs) n d) here
      ∙ at-middle place (x ∷ []) xs inside 0 d (omega arith)

-- what holds of each item, with a value, holds where it holds of the new one
pub each-replaced : {X V : Type 0} (P : X → V → Type 0) (place : ℕ) (x : X) (xs : List X) (whole outer : ℕ → V) → place < length xs
    → ((k : ℕ) → k < place → whole k ≡ outer k) → ((j : ℕ) → whole (place + 1 + j) ≡ outer (place + 1 + j))
    → ((k : ℕ) (none : X) → k < length xs → P (get_or xs k none) (outer k)) → P x (whole place)
    → (k : ℕ) (none : X) → k < length (replaced place x xs) → P (get_or (replaced place x xs) k none) (whole k)
each-replaced {X} {V} P place x xs whole outer inside front behind of-outer of-own k none small =
    let here : place + 0 ≡ place = omega arith in
    subst (λ (ys : List X). P (get_or ys k none) (whole k)) (replaced-is place x xs)
    (each-holds P place (x ∷ []) xs inside whole outer (λ j. whole (place + j)) front (λ j within. refl) behind of-outer
    (λ j d within. one j d within (subst (λ n. P x (whole n)) (sym here) of-own)) k none
    (let e = ap (length {A = X}) (replaced-is place x xs) in omega (arith, e, small)))
  where
    one : (j : ℕ) (d : X) → j < length (x ∷ []) → P x (whole (place + 0)) → P (get_or (x ∷ []) j d) (whole (place + j))
    one zero d within own = own
    one (suc j) d within own = absurd (omega (arith, within))

-- ---- the children of a chunk

pub children-are : (t column : ArrayTree) (place : ℕ) → children_of (Replaced t place column) ≡ replaced place column (cut_children t)
children-are t column place = tree_list-trees (replaced place column (cut_children t))

pub cut-length : (t : ArrayTree) → length (cut_children t) ≡ length (children_of t)
cut-length t = length-map (children_of t) (cut_to (members_of t).offset (members_of t).length)

pub as-many : (t column : ArrayTree) (place : ℕ) → place < length (children_of t) → length (children_of (Replaced t place column)) ≡ length (children_of t)
as-many t column place inside =
    let e = ap (length {A = ArrayTree}) (children-are t column place) in
    let f = length-replaced place column (cut_children t) (omega (arith, inside, cut-length t)) in
    omega (arith, e, f, cut-length t)

pub placed : (t column : ArrayTree) (place : ℕ) → place < length (children_of t) → child_at (Replaced t place column) place ≡ column
placed t column place inside =
    ap (λ (cs : List ArrayTree). get_or cs place Released) (children-are t column place)
    ∙ replaced-at place column (cut_children t) (omega (arith, inside, cut-length t)) Released

cut-is : (t : ArrayTree) (k : ℕ) (none : ArrayTree) → k < length (children_of t)
    → get_or (cut_children t) k none ≡ Window (child_at t k) (members_of t).offset (members_of t).length
cut-is t k none small = get_or-map (cut_to (members_of t).offset (members_of t).length) (children_of t) k Released none small

cut-column : ItemsLaw → (t : ArrayTree) → ShowsChildren t → Depth t ≤ 128 → (k : ℕ) → k < length (children_of t)
    → IsColumn (natural (members_of t).length) (Window (child_at t k) (members_of t).offset (members_of t).length)
cut-column law t shown deep k small =
    let off = (members_of t).offset in
    let len = (members_of t).length in
    let live = (shown.fit k small).0 in
    let own = Depth-Window (child_at t k) off len in
    let less = Depth-child_at t k small in
    let long : tree_items (Window (child_at t k) off len) ≡ natural len =
    (λ i. tree_items (Window (child_at t k) (natural-is off shown.placed i) (natural-is len shown.sized i)))
    ∙ law (child_at t k) (natural off) (natural len) live in
    record {
      live = window-live (child_at t k) off len live;
      not_deep = omega (arith, own, less, deep);
      long = omega (arith, long);
    }

cut-columns : ItemsLaw → (t : ArrayTree) → ShowsChildren t → Depth t ≤ 128 → All (IsColumn (natural (members_of t).length)) (cut_children t)
cut-columns law t shown deep k none small =
    let inside : k < length (children_of t) = omega (arith, cut-length t, small) in
    subst (IsColumn (natural (members_of t).length)) (sym (cut-is t k none inside)) (cut-column law t shown deep k inside)

pub columns-replaced : ItemsLaw → (t column : ArrayTree) (place : ℕ) → ShowsChildren t → Depth t ≤ 128 → place < length (children_of t)
    → IsColumn (natural (members_of t).length) column
    → All (IsColumn (natural (members_of t).length)) (children_of (Replaced t place column))
columns-replaced law t column place shown deep inside own =
    subst (All (IsColumn (natural (members_of t).length))) (sym (children-are t column place))
    (each-replaced (λ (c : ArrayTree) (n : ℕ). IsColumn (natural (members_of t).length) c) place column (cut_children t) (λ k. 0) (λ k. 0)
    (omega (arith, inside, cut-length t)) (λ k before. refl) (λ j. refl) (cut-columns law t shown deep) own)

few-of : (z : ℤ) (before most : ℕ) → pos 0 ≤ℤ z → before + natural z ≤ most → z ≤ℤ pos most
few-of (pos n) before most sized small = omega (arith, ints, small)
few-of (negsuc n) before most sized small = absurd (omega (arith, sized))

pub few-rows : (t : ArrayTree) → pos 0 ≤ℤ (members_of t).length → end (members_of t) ≤ 2 ^ 40 → (members_of t).length ≤ℤ pos (2 ^ 40)
few-rows t sized small = few-of (members_of t).length (first (members_of t)) (2 ^ 40) sized small

-- ---- moved in three parts

pub parts-are : (t column : ArrayTree) (place count : ℕ) (front second third : List ArrayTree) → count ≡ length (children_of t)
    → front ≡ [] ++ map (cut_to (members_of t).offset (members_of t).length) (take (place - 0) (drop 0 (children_of t)))
    → second ≡ front ++ column ∷ []
    → third ≡ second ++ map (cut_to (members_of t).offset (members_of t).length) (take (count - (place + 1)) (drop (place + 1) (children_of t)))
    → third ≡ children_of (Replaced t place column)
parts-are t column place count front second third is a b c =
    let cs = children_of t in
    let off = (members_of t).offset in
    let len = (members_of t).length in
    let n : place - 0 ≡ place = omega arith in
    let before = a ∙ ap (λ k. map (cut_to off len) (take k cs)) n ∙ sym (take-map (cut_to off len) place cs) in
    let left = length-drop (place + 1) cs in
    let m : count - (place + 1) ≡ length cs - (place + 1) = ap (λ k. k - (place + 1)) is in
    let back = ap (λ k. map (cut_to off len) (take k (drop (place + 1) cs))) m ∙ ap (map (cut_to off len)) (take_rest cs (place + 1))
    ∙ sym (drop-map (cut_to off len) (place + 1) cs) in
    c ∙ (λ i. b i ++ back i) ∙ (λ i. (before i ++ column ∷ []) ++ drop (place + 1) (cut_children t))
    ∙ append_assoc (take place (cut_children t)) (column ∷ []) (drop (place + 1) (cut_children t)) ∙ sym (children-are t column place)

-- the table of these columns
pub table-is : (place : ℕ) (t column : ArrayTree) (rows : ℤ) (columns : List ArrayTree) → pos 0 ≤ℤ (members_of t).length → rows ≡ (members_of t).length
    → columns ≡ children_of (Replaced t place column) → table_tree (natural rows) columns ≡ Replaced t place column
table-is place t column rows columns sized is same =
    let len = ap (λ z. pos (natural z)) is ∙ sym (natural-is (members_of t).length sized) in
    let kids = same ∙ children-are t column place in
    λ i. Live (struct_members (len i)) (trees (kids i)) absent

pub rest-later : (now cs : List ArrayTree) (place : ℕ) → drop place now ≡ drop place cs → drop (place + 1) now ≡ drop (place + 1) cs
rest-later now cs place same = sym (drop-drop 1 place now) ∙ ap (drop 1) same ∙ drop-drop 1 place cs
