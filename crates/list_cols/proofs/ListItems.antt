-- The items of a lawful list are items of its child.
use Rattle.std.proofs.Common.{◌≡◌, ◌∙◌, ◌≤◌, ◌<◌, ◌+◌, ◌-◌, ℕ, zero, suc, Bool, true, false, List, [], ◌∷◌, ◌++◌, All, refl, ap, sym, subst, inr, arith}
use Rattle.std.specs.Prelude.{if◌then◌else◌}
use Rattle.std.specs.List.{flat_map}
use Rattle.data_types.specs.promise.Parts.{value_list}
use Rattle.data_types.specs.promise.Value.{Value, Null, Items, values}
use Rattle.data_types.specs.declared.kind.DataType.TheVariants as kinds
use Rattle.tree_model.specs.promise.TreeData.{Released, Live, no_trees, more_trees, absent, tree_list}
use Rattle.tree_model.specs.promise.TreeParts.{child_at}
use Rattle.raw_array.specs.promise.Members.{ArrayTree}
use Rattle.data_types.specs.promise.KindTrees.{KindTree}
use Rattle.layout_rules.specs.promise.Layout.{first, is_valid, natural, offset}
use Rattle.layout_rules.specs.Lawful.{ItemsHold, RootHolds}
use Rattle.layout_rules.specs.promise.Values.{child_item, each, tree_items, value_at}
use Rattle.array_laws.specs.Items.{IsItemOf}
use Rattle.arr_import.specs.Window.{Window, items_of}
use Rattle.list_cols.specs.promise.Nested.{items_in}

pub values-back : (vs : List Value) → value_list (values vs) ≡ vs
values-back [] = refl
values-back (v ∷ vs) = ap (λ (ws : List Value). v ∷ ws) (values-back vs)

all-each : (P : Value → Type 0) (f : ℕ → Value) (from n : ℕ) → ((j : ℕ) → j < n → P (f (from + j))) → All P (each f from n)
all-each P f from zero at k d lt = absurd (omega (arith, lt))
all-each P f from (suc n) at zero d lt =
    let here : from + 0 ≡ from = omega arith in
    subst (λ i. P (f i)) here (at 0 (omega arith))
all-each P f from (suc n) at (suc k) d lt =
    all-each P f (suc from) n (λ j small.
    let here : from + suc j ≡ suc from + j = omega arith in
    subst (λ i. P (f i)) here (at (suc j) (omega (arith, small)))) k d (omega (arith, lt))

-- the items of a window as a list
pub window-items : (w : Window) (v : Value) → v ≡ Items (values (items_of w)) → items_in v ≡ items_of w
window-items w v e = ap items_in e ∙ values-back (items_of w)

pub each-next : {X : Type 0} → (f : ℕ → X) (a n : ℕ) → each f a (n + 1) ≡ each f a n ++ f (a + n) ∷ []
each-next f a zero = let start : a ≡ a + 0 = omega arith in ap (λ i. f i ∷ []) start
each-next f a (suc n) =
    let e : suc n + 1 ≡ suc (n + 1) = omega arith in
    let place : suc a + n ≡ a + suc n = omega arith in
    ap (each f a) e ∙ ap (λ (xs : List _). f a ∷ xs) (each-next f (suc a) n ∙ ap (λ i. each f (suc a) n ++ f i ∷ []) place)

-- ---- of one list

all-if : (P : Value → Type 0) (b : Bool) (vs : List Value) → All P vs → All P (items_in (if b then Items (values vs) else Null))
all-if P true vs all k d lt = subst (All P) (sym (values-back vs)) all k d lt
all-if P false vs all k d lt = absurd (omega (arith, lt))

pub list-items : (wide : Bool) (kid : KindTree) (array : ArrayTree) → RootHolds (Live (kinds.List wide) (more_trees kid no_trees) absent) array
    → ItemsHold (Live (kinds.List wide) (more_trees kid no_trees) absent) array → (kid ≡ Released → ⊥) → (i : ℕ) → i < tree_items array
    → All (IsItemOf kid (child_at array 0)) (items_in (value_at (Live (kinds.List wide) (more_trees kid no_trees) absent) array i))
list-items wide Released array root holds live i lt = absurd (live refl)
list-items wide (Live k ks d) Released root holds live i lt = absurd root.live
list-items wide (Live k ks d) (Live own no_trees dictionary) root holds live i lt = absurd (omega (arith, root.kids))
list-items wide (Live k ks d) (Live own (more_trees child rest) dictionary) root holds live i lt =
    let kid = Live k ks d in
    let here = natural (offset wide own (first own + i)) in
    let next = natural (offset wide own (first own + i + 1)) in
    let within : next ≤ tree_items child = holds.kids i 0 lt tt in
    all-if (IsItemOf kid child) (is_valid own i) (each (child_item (value_at kid ∷ []) (child ∷ tree_list rest)) here (next - here))
    (all-each (IsItemOf kid child) (child_item (value_at kid ∷ []) (child ∷ tree_list rest)) here (next - here)
    (λ j small. inr (here + j, omega (arith, small, within), refl)))

-- ---- of lists

all-append : (P : Value → Type 0) (xs ys : List Value) → All P xs → All P ys → All P (xs ++ ys)
all-append P [] ys few more k d lt = more k d lt
all-append P (x ∷ xs) ys few more zero d lt = few 0 d (omega arith)
all-append P (x ∷ xs) ys few more (suc k) d lt = all-append P xs ys (λ i c l. few (suc i) c (omega (arith, l))) more k d (omega (arith, lt))

pub all-lists : (P : Value → Type 0) (lists : ℕ → Value) (from n : ℕ) → ((j : ℕ) → j < n → All P (items_in (lists (from + j))))
    → All P (flat_map items_in (each lists from n))
all-lists P lists from zero at k d lt = absurd (omega (arith, lt))
all-lists P lists from (suc n) at k d lt =
    let start : from + 0 ≡ from = omega arith in
    all-append P (items_in (lists from)) (flat_map items_in (each lists (suc from) n))
    (subst (λ i. All P (items_in (lists i))) start (at 0 (omega arith)))
    (all-lists P lists (suc from) n (λ j small.
    let here : from + suc j ≡ suc from + j = omega arith in
    subst (λ i. All P (items_in (lists i))) here (at (suc j) (omega (arith, small))))) k d lt
