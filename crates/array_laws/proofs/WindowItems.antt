-- A window's items are the part of the array's.
use Rattle.std.proofs.Common.{◌≡◌, ◌∙◌, ℕ, zero, suc, ◌+◌, ◌-◌, ◌<◌, ◌≤◌, ℤ, pos, negsuc, false, ◌∷◌, length, take, drop, refl, ap, sym, arith}
use Rattle.std.specs.Prelude.{◌+ℤ◌}
use Rattle.data_types.specs.declared.kind.DataType.{DataType}
use Rattle.tree_model.specs.promise.TreeData.{Live, Trees, MaybeTree, tree_list, option_tree}
use Rattle.raw_array.specs.promise.Members.{ArrayMembers, ArrayTree}
use Rattle.raw_array.specs.Members.{nulls_in_part}
use Rattle.data_types.specs.promise.KindTrees.{KindTree}
use Rattle.layout_rules.specs.promise.Layout.{first, items, natural}
use Rattle.layout_rules.specs.promise.Rules.{is_negative}
use Rattle.layout_rules.specs.promise.Values.{each, field_items, readers, reader_of, row_items, rows_of, value_at, values_of}
use Rattle.array_laws.proofs.PlaceItems.{same-read}
use Rattle.array_laws.proofs.PlaceRules.{IsPart}
use Rattle.array_laws.proofs.WindowNode.{IsWindow}

-- ---- the values of a function from a number on

pub each-same : {X : Type 0} → (f g : ℕ → X) (a b n : ℕ) → ((i : ℕ) → i < n → f (a + i) ≡ g (b + i)) → each f a n ≡ each g b n
each-same f g a b zero same = refl
each-same f g a b (suc n) same =
    let x : a ≡ a + 0 = omega arith in
    let y : b + 0 ≡ b = omega arith in
    let head : f a ≡ g b = ap f x ∙ same 0 (omega arith) ∙ ap g y in
    let tail = each-same f g (suc a) (suc b) n (λ i lt.
    let p : suc a + i ≡ a + suc i = omega arith in
    let q : b + suc i ≡ suc b + i = omega arith in
    ap f p ∙ same (suc i) (omega (arith, lt)) ∙ ap g q) in
    λ t. head t ∷ tail t

pub length-each : {X : Type 0} → (f : ℕ → X) (a n : ℕ) → length (each f a n) ≡ n
length-each f a zero = refl
length-each f a (suc n) = ap suc (length-each f (suc a) n)

pub take-each : {X : Type 0} → (f : ℕ → X) (a n len : ℕ) → len ≤ n → take len (each f a n) ≡ each f a len
take-each f a n zero le = refl
take-each f a zero (suc len) le = absurd (omega (arith, le))
take-each f a (suc n) (suc len) le = ap (λ xs. f a ∷ xs) (take-each f (suc a) n len (omega (arith, le)))

pub drop-each : {X : Type 0} → (f : ℕ → X) (a n off : ℕ) → off ≤ n → drop off (each f a n) ≡ each f (a + off) (n - off)
drop-each f a n zero le =
    let p : a ≡ a + 0 = omega arith in
    let q : n ≡ n - 0 = omega arith in
    λ t. each f (p t) (q t)
drop-each f a zero (suc off) le = absurd (omega (arith, le))
drop-each f a (suc n) (suc off) le =
    let p : suc a + off ≡ a + suc off = omega arith in
    let q : n - off ≡ suc n - suc off = omega arith in
    drop-each f (suc a) n off (omega (arith, le)) ∙ (λ t. each f (p t) (q t))

pub part-each : {X : Type 0} → (f : ℕ → X) (a n off len : ℕ) → off + len ≤ n → take len (drop off (each f a n)) ≡ each f (a + off) len
part-each f a n off len le = ap (take len) (drop-each f a n off (omega (arith, le))) ∙ take-each f (a + off) (n - off) len (omega (arith, le))

-- ---- the window of a node

window_first : (z : ℤ) (off : ℕ) → is_negative z ≡ false → natural (z +ℤ pos off) ≡ natural z + off
window_first (pos n) off e = refl
window_first (negsuc n) off e = absurd (cc)

window_from : (z : ℤ) (off : ℕ) → is_negative z ≡ false → is_negative (z +ℤ pos off) ≡ false
window_from (pos n) off e = refl
window_from (negsuc n) off e = absurd (cc)

-- a node's members with `len` items of the window, from item `off` on
abbrev pub window_of : ArrayMembers → ℕ → ℕ → ArrayMembers
window_of m off len = record m { length = pos len; null_count = nulls_in_part m.null_count; offset = m.offset +ℤ pos off }

pub window-part : (m : ArrayMembers) (off len : ℕ) → is_negative m.offset ≡ false → off + len ≤ items m → IsWindow m (window_of m off len) off len
window-part m off len e le = record {
  part = record { same = record { bytes = λ k. refl; count = refl }; first_is = window_first m.offset off e; items_are = refl; fits = le };
  not_before = window_from m.offset off e;
  not_less = refl;
  nulls_are = refl;
}

-- ---- its items

module _ (kind : DataType) (kids : Trees DataType) (dict : MaybeTree DataType) (m w : ArrayMembers)
    (ts : Trees ArrayMembers) (d : MaybeTree ArrayMembers) (off len : ℕ) (p : IsPart m w off len) where
  abbrev typed : KindTree
  typed = Live kind kids dict

  abbrev whole : ArrayTree
  whole = Live m ts d

  abbrev part : ArrayTree
  part = Live w ts d

  pub window-value : (i : ℕ) → value_at typed part i ≡ value_at typed whole (off + i)
  window-value i =
      same-read (reader_of dict) kind (readers kids) w m (tree_list ts) (tree_list ts) (option_tree d) (option_tree d) i (off + i)
      p.same.bytes (omega (arith, p.first_is)) refl refl refl

  -- a function of the items that is the whole's behind the part's first item
  of-each : {X : Type 0} → (f g : ℕ → X) → ((i : ℕ) → f i ≡ g (off + i)) → each f 0 (items w) ≡ take len (drop off (each g 0 (items m)))
  of-each f g same =
      ap (each f 0) p.items_are
      ∙ each-same f g 0 (0 + off) len (λ i lt. let q : off + (0 + i) ≡ 0 + off + i = omega arith in same (0 + i) ∙ ap g q)
      ∙ sym (part-each g 0 (items m) off len p.fits)

  pub window-values : values_of typed part ≡ take len (drop off (values_of typed whole))
  window-values = of-each (value_at typed part) (value_at typed whole) window-value

  pub window-rows : rows_of typed part ≡ take len (drop off (rows_of typed whole))
  window-rows =
      of-each (row_items typed part) (row_items typed whole)
      (λ i. let q : first w + i ≡ first m + (off + i) = omega (arith, p.first_is) in ap (field_items (readers kids) (tree_list ts)) q)
