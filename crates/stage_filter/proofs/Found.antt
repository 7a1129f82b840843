-- What workers found in the pieces of rows, one behind another, is what is to be found in all of them.
use Rattle.std.proofs.Common.{arith, ◌≡◌, ◌∙◌, ◌≤◌, ◌<◌, ◌+◌, ◌-◌, ◌++◌, ℕ, zero, suc, Bool, List, []}
use Rattle.std.proofs.Common.{◌∷◌, length, get_or, take, drop, refl, sym, ap, subst, append_assoc}
use Rattle.std.specs.Prelude.{Vec, if◌then◌else◌}
use Rattle.std.specs.Global.{Global}
use Rattle.std.specs.List.{filter, flat_map}
use Rattle.std.proofs.lemmas.List.{append-nil, length-drop, take_all, take_more}
use Rattle.std.proofs.lemmas.Grind.{flat_map-append}
use Rattle.std.proofs.lemmas.List.Elements.{filter-append}
use Rattle.data_types.specs.promise.Table.{Row}
use Rattle.data_types.specs.promise.Value.{Null}
use Rattle.tree_model.specs.promise.TreeParts.{IsLive, child_at, children_of}
use Rattle.tree_model.specs.promise.TreeData.{Live, Released, maybe_tree, trees}
use Rattle.raw_array.specs.promise.Members.{ArrayTree, members_of}
use Rattle.data_types.specs.promise.KindTrees.{KindTree}
use Rattle.layout_rules.specs.promise.Layout.{first}
use Rattle.data_types.specs.promise.TypedView.{typed_of}
use Rattle.data_types.specs.TypedView.{dict_in, kids_of, kind_of}
use Rattle.layout_rules.specs.promise.Values.{each, row_items, rows_of, tree_items, value_at}
use Rattle.data_types.specs.declared.typed.Typed.{Typed, out-Typed}
use Rattle.array_laws.specs.Pieces.{border}
use Rattle.arr_import.specs.Window.{Window, child_window, item_at, whole}
use Rattle.arr_import.proofs.Reading.{kids-typed, row-field}
use Rattle.stage_model.specs.promise.Stages.{passes}
use Rattle.stage_model.specs.declared.stage.Const.{Const}
use Rattle.stage_model.specs.declared.stage.Test.{Test}
use Rattle.stage_filter.specs.Kept.{kept_numbers, numbers}
use Rattle.stage_filter.specs.Workers.{AreFound, row_numbers}
use Rattle.column_fill.proofs.Counts.{count-is}

-- ---- two tests that agree on some numbers

agree : (p q : ℕ → Bool) (from n : ℕ) → ((i : ℕ) → i < from + n → p i ≡ q i) → filter p (numbers from n) ≡ filter q (numbers from n)
agree p q from zero same = refl
agree p q from (suc n) same =
    let here : p from ≡ q from = same from (omega arith) in
    let rest = agree p q (suc from) n (λ i small. same i (omega (arith, small))) in
    λ t. if here t then from ∷ rest t else rest t

row-there : (f : ℕ → Row) (from n i : ℕ) (d : Row) → i < n → get_or (each f from n) i d ≡ f (from + i)
row-there f from zero i d small = absurd (omega (arith, small))
row-there f from (suc n) zero d small = let e : from ≡ from + 0 = omega arith in ap f e
row-there f from (suc n) (suc i) d small =
    let e : suc from + i ≡ from + suc i = omega arith in
    row-there f (suc from) n i d (omega (arith, small)) ∙ ap f e

-- the rows of a chunk that pass are the items of the column's window that do
pub rows-are-items : (column : ℕ) (test : Test) (constant : Const) (typed : KindTree) (chunk : ArrayTree) (own : Window) (from count : ℕ)
    → from + count ≤ length (rows_of typed chunk) → ((i : ℕ) → get_or (row_items typed chunk i) column Null ≡ item_at own i)
    → kept_numbers test constant own from count ≡ row_numbers column test constant (rows_of typed chunk) from count
rows-are-items column test constant typed chunk own from count inside same =
    agree (λ i. passes test constant (item_at own i)) (λ i. passes test constant (get_or (get_or (rows_of typed chunk) i []) column Null)) from count
    (λ i small.
    let within : i < tree_items chunk = omega (arith, small, inside, count-is typed chunk) in
    let e : 0 + i ≡ i = omega arith in
    let row : get_or (rows_of typed chunk) i [] ≡ row_items typed chunk i =
    row-there (row_items typed chunk) 0 (tree_items chunk) i [] within ∙ ap (row_items typed chunk) e in
    ap (passes test constant) (sym (ap (λ (r : Row). get_or r column Null) row ∙ same i)))

pub fields-of : (w : Window) (typed : KindTree) (chunk : ArrayTree) (own : Window) (column : ℕ) → w ≡ whole typed chunk
    → ((i : ℕ) → get_or (row_items w.typed w.array (w.start + i)) column Null ≡ item_at own i)
    → (i : ℕ) → get_or (row_items typed chunk i) column Null ≡ item_at own i
fields-of w typed chunk own column is same i =
    let at = subst (λ (v : Window). (i : ℕ) → get_or (row_items v.typed v.array (v.start + i)) column Null ≡ item_at own i) is same i in
    let e : i ≡ 0 + i = omega arith in
    ap (λ (k : ℕ). get_or (row_items typed chunk k) column Null) e ∙ at

-- the items of a column of all rows
pub column-of-whole : (t : Typed) → typed_of t ≡ Live (kind_of t) (trees (kids_of t)) (maybe_tree (dict_in (out-Typed t).dict)) → (chunk : ArrayTree)
    → IsLive chunk → length (children_of chunk) ≡ length (kids_of t) → (column : ℕ) → column < length (children_of (typed_of t))
    → (i : ℕ) → get_or (row_items (typed_of t) chunk i) column Null ≡ item_at (child_window (whole (typed_of t) chunk) column) i
column-of-whole t is chunk live long column inside i =
    let kids = kids-typed t is in
    let many = ap (length {A = KindTree}) kids in
    let e : first (members_of chunk) + i ≡ first (members_of chunk) + 0 + i = omega arith in
    row-field t is chunk i column live (omega (arith, inside, many)) (omega (arith, inside, many, long))
    ∙ ap (λ (ks : List KindTree). value_at (get_or ks column Released) (child_at chunk column) (first (members_of chunk) + i)) (sym kids)
    ∙ ap (λ (k : ℕ). value_at (child_at (typed_of t) column) (child_at chunk column) k) e

-- ---- pieces one behind another

numbers-both : (from a b : ℕ) → numbers from (a + b) ≡ numbers from a ++ numbers (from + a) b
numbers-both from zero b =
    let e : 0 + b ≡ b = omega arith in
    let f : from ≡ from + 0 = omega arith in
    λ t. numbers (f t) (e t)
numbers-both from (suc a) b =
    let e : suc a + b ≡ suc (a + b) = omega arith in
    let f : suc from + a ≡ from + suc a = omega arith in
    ap (numbers from) e ∙ ap (λ (ks : List ℕ). from ∷ ks) (numbers-both (suc from) a b ∙ ap (λ (k : ℕ). numbers (suc from) a ++ numbers k b) f)

module _ (p : ℕ → Bool) where
  -- those up to a number, and those from there on up to another
  both : (a b : ℕ) → a ≤ b → filter p (numbers 0 a) ++ filter p (numbers a (b - a)) ≡ filter p (numbers 0 b)
  both a b le =
      let all : b ≡ a + (b - a) = omega (arith, le) in
      let e : 0 + a ≡ a = omega arith in
      sym (ap (λ (n : ℕ). filter p (numbers 0 n)) all ∙ ap (filter p) (numbers-both 0 a (b - a))
      ∙ filter-append p (numbers 0 a) (numbers (0 + a) (b - a)) ∙ ap (λ (k : ℕ). filter p (numbers 0 a) ++ filter p (numbers k (b - a))) e)

  module _ (from : ℕ → ℕ) (rising : (w : ℕ) → from w ≤ from (w + 1)) where
    abbrev piece : ℕ → List ℕ
    piece w = filter p (numbers (from w) (from (w + 1) - from w))

    from-piece : (w : ℕ) (found : List (Vec ℕ Global))
        → ((j : ℕ) (e : Vec ℕ Global) → j < length found → (get_or found j e).items ≡ piece (w + j))
        → filter p (numbers 0 (from w)) ++ flat_map (λ v. v.items) found ≡ filter p (numbers 0 (from (w + length found)))
    from-piece w [] each =
        let e : w ≡ w + 0 = omega arith in
        append-nil (filter p (numbers 0 (from w))) ∙ ap (λ (n : ℕ). filter p (numbers 0 (from n))) e
    from-piece w (v ∷ found) each =
        let e : w + 0 ≡ w = omega arith in
        let f : w + 1 + length found ≡ w + length (v ∷ found) = omega arith in
        let here : v.items ≡ piece w = each 0 v (omega arith) ∙ ap piece e in
        sym (append_assoc (filter p (numbers 0 (from w))) v.items (flat_map (λ v. v.items) found))
        ∙ ap (λ (ks : List ℕ). ks ++ flat_map (λ v. v.items) found)
        (ap (λ (ks : List ℕ). filter p (numbers 0 (from w)) ++ ks) here ∙ both (from w) (from (w + 1)) (rising w))
        ∙ from-piece (w + 1) found (λ j none small.
        let g : w + suc j ≡ w + 1 + j = omega arith in
        each (suc j) none (omega (arith, small)) ∙ ap piece g)
        ∙ ap (λ (n : ℕ). filter p (numbers 0 (from n))) f

-- what is found in all pieces, one behind another
pub all-found : (column : ℕ) (test : Test) (constant : Const) (rows : List Row) (workers : ℕ) (found : List (Vec ℕ Global))
    → ((w : ℕ) → border (length rows) workers w ≤ border (length rows) workers (w + 1)) → border (length rows) workers 0 ≡ 0
    → border (length rows) workers workers ≡ length rows → AreFound column test constant rows workers found
    → flat_map (λ v. v.items) found ≡ row_numbers column test constant rows 0 (length rows)
all-found column test constant rows workers found rising start last are =
    let p : ℕ → Bool = λ i. passes test constant (get_or (get_or rows i []) column Null) in
    let from : ℕ → ℕ = border (length rows) workers in
    let all : 0 + length found ≡ workers = omega (arith, are.0) in
    ap (λ (n : ℕ). filter p (numbers 0 n) ++ flat_map (λ v. v.items) found) (sym start)
    ∙ from-piece p from rising 0 found (λ j none small.
    let e : j ≡ 0 + j = omega arith in
    are.1 j none (omega (arith, small, are.0)) ∙ ap (λ (w : ℕ). filter p (numbers (from w) (from (w + 1) - from w))) e)
    ∙ ap (λ (n : ℕ). filter p (numbers 0 (from n))) all ∙ ap (λ (n : ℕ). filter p (numbers 0 n)) last

-- ---- the first of some lists, and those behind it

module _ (xs : List (Vec ℕ Global)) where
  pub first-taken : (v : Vec ℕ Global) → 1 ≤ length xs → v ≡ get_or xs 0 v → v.items ≡ flat_map (λ v. v.items) (take (0 + 1) xs)
  first-taken v some is = head xs v some is
    where
      head : (ys : List (Vec ℕ Global)) (v : Vec ℕ Global) → 1 ≤ length ys → v ≡ get_or ys 0 v
          → v.items ≡ flat_map (λ v. v.items) (take (0 + 1) ys)
      head [] v some is = absurd (omega (arith, some))
      head (y ∷ ys) v some is = ap (λ (w : Vec ℕ Global). w.items) is ∙ sym (append-nil y.items)

  -- one list more
  pub next-taken : (ys : List (Vec ℕ Global)) (i : ℕ) (v : Vec ℕ Global) → ys ≡ drop 1 xs → i < length ys → v ≡ get_or ys i v
      → flat_map (λ v. v.items) (take (i + 1) xs) ++ v.items ≡ flat_map (λ v. v.items) (take (i + 1 + 1) xs)
  next-taken ys i v rest inside is =
      let long = ap (length {A = Vec ℕ Global}) rest in
      let small : i + 1 < length xs = omega (arith, inside, long, length-drop 1 xs) in
      let there : get_or xs (i + 1) v ≡ v = behind xs i v ∙ ap (λ (zs : List (Vec ℕ Global)). get_or zs i v) (sym rest) ∙ sym is in
      sym (ap (flat_map (λ v. v.items)) (take_more xs (i + 1) v small)
      ∙ flat_map-append (λ (v : Vec ℕ Global). v.items) (take (i + 1) xs) (get_or xs (i + 1) v ∷ [])
      ∙ ap (λ (ks : List ℕ). flat_map (λ v. v.items) (take (i + 1) xs) ++ ks)
      (append-nil (get_or xs (i + 1) v).items ∙ ap (λ (w : Vec ℕ Global). w.items) there))
    where
      behind : (zs : List (Vec ℕ Global)) (i : ℕ) (d : Vec ℕ Global) → get_or zs (i + 1) d ≡ get_or (drop 1 zs) i d
      behind [] i d = refl
      behind (z ∷ zs) i d = let e : i + 1 ≡ suc i = omega arith in ap (λ (k : ℕ). get_or (z ∷ zs) k d) e

  -- and all of them
  pub all-taken : (ys : List (Vec ℕ Global)) (i : ℕ) → ys ≡ drop 1 xs → 1 ≤ length xs → i ≡ length ys
      → flat_map (λ v. v.items) (take (i + 1) xs) ≡ flat_map (λ v. v.items) xs
  all-taken ys i rest some all =
      let long = ap (length {A = Vec ℕ Global}) rest in
      ap (flat_map (λ v. v.items)) (take_all (i + 1) xs (omega (arith, all, long, length-drop 1 xs, some)))
