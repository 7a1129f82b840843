-- A window of a lawful array is lawful, and its items are the part.
use Rattle.std.proofs.Common.{◌≡◌, ◌∙◌, ℕ, zero, suc, ◌+◌, ◌-◌, ◌^◌, ◌≤◌, ℤ, pos, Bool, true, false, not, List, [], take, drop, length, None, Some, refl, ap}
use Rattle.std.proofs.Common.{sym, arith}
use Rattle.std.specs.Prelude.{◌+ℤ◌, if◌then◌else◌, ◌&&◌, nat_lt, ◌≤ℤ◌}
use Rattle.std.specs.Ordering.{int_eq}
use Rattle.std.proofs.Math.Seq.{take-length}
use Rattle.std.proofs.lemmas.Bool.Decides.{Decides-int_eq}
use Rattle.data_types.specs.declared.kind.DataType.{DataType}
use Rattle.data_types.specs.promise.Value.{Null}
use Rattle.tree_model.specs.promise.TreeParts.{IsLive}
use Rattle.tree_model.specs.promise.TreeData.{Released, Live, Trees, MaybeTree}
use Rattle.raw_array.specs.promise.Members.{ArrayMembers, ArrayTree, members_of}
use Rattle.raw_array.specs.Members.{windowed}
use Rattle.raw_array.specs.Windows.{FitsWindow, Window}
use Rattle.data_types.specs.promise.KindTrees.{KindTree}
use Rattle.layout_rules.specs.promise.Layout.{first, items, natural}
use Rattle.layout_rules.specs.promise.Rules.{null_total}
use Rattle.layout_rules.specs.promise.Values.{each, row_items, rows_of, tree_items, value_at, values_of}
use Rattle.layout_rules.specs.promise.Walk.{ChunkOk, LayoutOk, first_some, is_table, node_fault, root_fault, top_fault, visit_fault, walk_below, walk_of, walks_of}
use Rattle.layout_rules.specs.declared.rule.LayoutRule.TheVariants as rules
use Rattle.layout_rules.proofs.Lawful.{first_fault-lawful}
use Rattle.array_laws.proofs.LawfulNodes.{below-lawful, lawful-end, lawful-live, lawful-node, length-items, node, not-before, offset-first}
use Rattle.layout_rules.specs.promise.Rules.{in_order}
use Rattle.layout_rules.proofs.NamedRules.{none-fails}
use Rattle.array_laws.proofs.NodeParts.{both-none}
use Rattle.array_laws.proofs.WindowItems.{each-same, length-each, part-each, window-part, window_of, window-rows, window-value, window-values}
use Rattle.array_laws.proofs.WindowNode.{IsWindow, part-met, total-within}

top-zero : (n : ℕ) → (if nat_lt 0 n then Some (root_fault rules.TopNulls (pos n)) else None) ≡ None → n ≡ 0
top-zero n e = grind arith

top-again : (n : ℕ) → n ≡ 0 → (if nat_lt 0 n then Some (root_fault rules.TopNulls (pos n)) else None) ≡ None
top-again n e = ap (λ (k : ℕ). if nat_lt 0 k then Some (root_fault rules.TopNulls (pos k)) else None) e

top-of : (table : Bool) (nulls fewer : ℕ) → fewer ≤ nulls
    → (if not table then Some (root_fault rules.TopKind (pos 0)) else if nat_lt 0 nulls then Some (root_fault rules.TopNulls (pos nulls)) else None) ≡ None
    → (if not table then Some (root_fault rules.TopKind (pos 0)) else if nat_lt 0 fewer then Some (root_fault rules.TopNulls (pos fewer)) else None) ≡ None
top-of false nulls fewer le e = absurd (cc)
top-of true nulls fewer le e = let z = top-zero nulls e in top-again fewer (omega (arith, z, le))

fits-by : (offset length : ℤ) (o l off len : ℕ) → offset ≡ pos o → length ≡ pos l → off + len ≤ l → o + l ≤ 2 ^ 40
    → ((pos off +ℤ pos len) ≤ℤ length) × (((offset +ℤ pos off) +ℤ pos len) ≤ℤ pos (2 ^ 63 - 1))
fits-by offset length o l off len e f le few = (grind arith, grind arith)

-- ---- a live array with its window changed

module _ (kind : DataType) (kids : Trees DataType) (dict : MaybeTree DataType) (m : ArrayMembers) (ts : Trees ArrayMembers) (d : MaybeTree ArrayMembers) where
  module _ (off len : ℕ) (le : off + len ≤ items m) (ok : LayoutOk (Live kind kids dict) (Live m ts d)) where
    abbrev typed : KindTree
    typed = Live kind kids dict

    abbrev w : ArrayMembers
    w = window_of m off len

    part : IsWindow m w off len
    part = window-part m off len (not-before kind kids dict m ts d ok) le

    live-lawful : LayoutOk typed (Live w ts d)
    live-lawful =
        first_fault-lawful typed (Live w ts d)
        (both-none (node_fault [] (Some (node kind kids dict w ts d))) (first_some visit_fault (walk_below (walks_of kids) (walk_of dict) [] (Live w ts d)))
        (none-fails [] (node kind kids dict w ts d) in_order (part-met (node kind kids dict m ts d) w off len part (lawful-node kind kids dict m ts d ok)))
        (below-lawful kind kids dict m ts d ok))

    live-values : values_of typed (Live w ts d) ≡ take len (drop off (values_of typed (Live m ts d)))
    live-values = window-values kind kids dict m w ts d off len part.part

    live-rows : rows_of typed (Live w ts d) ≡ take len (drop off (rows_of typed (Live m ts d)))
    live-rows = window-rows kind kids dict m w ts d off len part.part

    live-item : (i : ℕ) → value_at typed (Live w ts d) i ≡ value_at typed (Live m ts d) (off + i)
    live-item = window-value kind kids dict m w ts d off len part.part

    live-top : top_fault typed (Live m ts d) ≡ None → top_fault typed (Live w ts d) ≡ None
    live-top e = top-of (is_table typed) (null_total m (items m)) (null_total w (items w)) (total-within m w off len part.part) e

    live-fits : FitsWindow (Live m ts d) (pos off) (pos len)
    live-fits = (
      tt,
      fits-by m.offset m.length (first m) (items m) off len (offset-first kind kids dict m ts d ok) (length-items kind kids dict m ts d ok) le
          (lawful-end kind kids dict m ts d ok),
    )

-- ---- any array with its window changed

abbrev cut_to : ArrayTree → ℕ → ℕ → ArrayTree
cut_to t off len = windowed t (pos off) (pos len)

-- of a released type
nothing-read : {X : Type 0} → (x : X) (t : ArrayTree) (off len : ℕ) → off + len ≤ tree_items t
    → each (λ i. x) 0 (tree_items (cut_to t off len)) ≡ take len (drop off (each (λ i. x) 0 (tree_items t)))
nothing-read x Released off zero le = refl
nothing-read x Released off (suc len) le = absurd (omega (arith, le))
nothing-read x (Live m ts d) off len le = each-same (λ i. x) (λ i. x) 0 (0 + off) len (λ i lt. refl) ∙ sym (part-each (λ i. x) 0 (items m) off len le)

cut-lawful : (typed : KindTree) (t : ArrayTree) (off len : ℕ) → off + len ≤ tree_items t → LayoutOk typed t → LayoutOk typed (cut_to t off len)
cut-lawful Released t off len le ok = first_fault-lawful Released (cut_to t off len) refl
cut-lawful (Live kind kids dict) Released off len le ok = ok
cut-lawful (Live kind kids dict) (Live m ts d) off len le ok = live-lawful kind kids dict m ts d off len le ok

cut-chunk : (typed : KindTree) (t : ArrayTree) (off len : ℕ) → off + len ≤ tree_items t → ChunkOk typed t → ChunkOk typed (cut_to t off len)
cut-chunk typed Released off len le ok = ok
cut-chunk Released (Live m ts d) off len le ok = let e : top_fault Released (Live m ts d) ≡ None = ok.1 in absurd (cc)
cut-chunk (Live kind kids dict) (Live m ts d) off len le ok =
    (live-lawful kind kids dict m ts d off len le ok.0, live-top kind kids dict m ts d off len le ok.0 ok.1)

cut-values : (typed : KindTree) (t : ArrayTree) (off len : ℕ) → off + len ≤ tree_items t → LayoutOk typed t
    → values_of typed (cut_to t off len) ≡ take len (drop off (values_of typed t))
cut-values Released t off len le ok = nothing-read Null t off len le
cut-values (Live kind kids dict) Released off len le ok = absurd (lawful-live kind kids dict Released ok)
cut-values (Live kind kids dict) (Live m ts d) off len le ok = live-values kind kids dict m ts d off len le ok

cut-rows : (typed : KindTree) (t : ArrayTree) (off len : ℕ) → off + len ≤ tree_items t → LayoutOk typed t
    → rows_of typed (cut_to t off len) ≡ take len (drop off (rows_of typed t))
cut-rows Released t off len le ok = nothing-read [] t off len le
cut-rows (Live kind kids dict) Released off len le ok = absurd (lawful-live kind kids dict Released ok)
cut-rows (Live kind kids dict) (Live m ts d) off len le ok = live-rows kind kids dict m ts d off len le ok

cut-item : (typed : KindTree) (t : ArrayTree) (off len : ℕ) → off + len ≤ tree_items t → LayoutOk typed t
    → (i : ℕ) → value_at typed (cut_to t off len) i ≡ value_at typed t (off + i)
cut-item Released t off len le ok i = refl
cut-item (Live kind kids dict) Released off len le ok i = refl
cut-item (Live kind kids dict) (Live m ts d) off len le ok i = live-item kind kids dict m ts d off len le ok i

-- ---- the window, which is the array itself where it is the whole

chosen-by : (a b : Bool) (t w : ArrayTree) (P : ArrayTree → Type 0) → (a ≡ true → b ≡ true → P t) → P w → P (if a && b then t else w)
chosen-by true true t w P whole part = whole refl refl
chosen-by true false t w P whole part = part
chosen-by false b t w P whole part = part

by-window : (P : ArrayTree → Type 0) (t : ArrayTree) (off len : ℕ) → (off ≡ 0 → pos len ≡ (members_of t).length → P t) → P (cut_to t off len)
    → P (Window t (pos off) (pos len))
by-window P t off len whole part =
    chosen-by (int_eq (pos off) (pos 0)) (int_eq (pos len) (members_of t).length) t (cut_to t off len) P
    (λ a b. whole (ap natural ((Decides-int_eq (pos off) (pos 0)).0 a)) ((Decides-int_eq (pos len) (members_of t).length).0 b)) part

whole-part : {X : Type 0} → (xs : List X) (off len : ℕ) → off ≡ 0 → len ≡ length xs → xs ≡ take len (drop off xs)
whole-part xs off len e f = sym (take-length xs) ∙ (λ t. take (sym f t) (drop (sym e t) xs))

-- a function of the items, on the whole of an array
whole-window : {X : Type 0} → (f : ℕ → X) (t : ArrayTree) (off len : ℕ) → off + len ≤ tree_items t → off ≡ 0 → pos len ≡ (members_of t).length
    → each f 0 (tree_items t) ≡ take len (drop off (each f 0 (tree_items t)))
whole-window f Released off len le e g = whole-part (each f 0 0) off len e (omega (arith, le))
whole-window f (Live m ts d) off len le e g = whole-part (each f 0 (items m)) off len e (ap natural g ∙ sym (length-each f 0 (items m)))

module _ (typed : KindTree) (t : ArrayTree) (off len : ℕ) (le : off + len ≤ tree_items t) where
  pub window-lawful : LayoutOk typed t → LayoutOk typed (Window t (pos off) (pos len))
  window-lawful ok = by-window (LayoutOk typed) t off len (λ e f. ok) (cut-lawful typed t off len le ok)

  pub window-chunk : ChunkOk typed t → ChunkOk typed (Window t (pos off) (pos len))
  window-chunk ok = by-window (ChunkOk typed) t off len (λ e f. ok) (cut-chunk typed t off len le ok)

  pub window-has_values : LayoutOk typed t → values_of typed (Window t (pos off) (pos len)) ≡ take len (drop off (values_of typed t))
  window-has_values ok =
      by-window (λ u. values_of typed u ≡ take len (drop off (values_of typed t))) t off len
      (λ e f. whole-window (value_at typed t) t off len le e f) (cut-values typed t off len le ok)

  pub window-has_rows : LayoutOk typed t → rows_of typed (Window t (pos off) (pos len)) ≡ take len (drop off (rows_of typed t))
  window-has_rows ok =
      by-window (λ u. rows_of typed u ≡ take len (drop off (rows_of typed t))) t off len
      (λ e f. whole-window (row_items typed t) t off len le e f) (cut-rows typed t off len le ok)

  -- an item of it
  pub window-item : LayoutOk typed t → (i : ℕ) → value_at typed (Window t (pos off) (pos len)) i ≡ value_at typed t (off + i)
  window-item ok i =
      by-window (λ u. value_at typed u i ≡ value_at typed t (off + i)) t off len
      (λ e f. let q : i ≡ off + i = omega (arith, e) in ap (value_at typed t) q) (cut-item typed t off len le ok i)

-- how many items it has
pub window-items : (t : ArrayTree) (off len : ℕ) → IsLive t → tree_items (Window t (pos off) (pos len)) ≡ len
window-items Released off len live = absurd live
window-items (Live m ts d) off len live = by-window (λ u. tree_items u ≡ len) (Live m ts d) off len (λ e f. ap natural (sym f)) refl

-- an array has room for each window on its items
pub window-fits : (typed : KindTree) (t : ArrayTree) (off len : ℕ) → IsLive typed → off + len ≤ tree_items t → LayoutOk typed t
    → FitsWindow t (pos off) (pos len)
window-fits Released t off len live le ok = absurd live
window-fits (Live kind kids dict) Released off len live le ok = absurd (lawful-live kind kids dict Released ok)
window-fits (Live kind kids dict) (Live m ts d) off len live le ok = live-fits kind kids dict m ts d off len le ok
