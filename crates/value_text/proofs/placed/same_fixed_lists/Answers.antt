use Rattle.std.proofs.Common.{◌≡◌, ◌∙◌, ◌+◌, ◌*◌, ◌<◌, ◌≤◌, ℕ, suc, length, get_or, ap, refl, sym, subst, arith}
use Rattle.std.proofs.Math.Nat.{suc-mul}
use Rattle.data_types.specs.promise.Storage.{storage_of}
use Rattle.data_types.specs.promise.Value.{values}
use Rattle.data_types.specs.promise.Value.Value.{Items}
use Rattle.data_types.specs.declared.storage.Storage.{Storage}
use Rattle.data_types.specs.promise.TypedView.{typed_of}
use Rattle.data_types.specs.TypedView.{kind_of, kids_of}
use Rattle.tree_model.specs.promise.TreeData.{Released, trees}
use Rattle.tree_model.specs.promise.TreeParts.{child_at, children_of}
use Rattle.raw_array.specs.promise.Members.{members_of}
use Rattle.layout_rules.specs.promise.Layout.{bytes, first}
use Rattle.layout_rules.specs.promise.Values.{child_item, each, readers, tree_items, value_at}
use Rattle.arr_import.specs.StoredItems.{AreItemsThere}
use Rattle.arr_import.proofs.Reading.{are-items-there, each-child}
use Rattle.value_text.specs.Lengths.{Tells, IsNestedAt, text_length}
use Rattle.value_text.specs.declared.lengths.Lengths.{Lengths}
use Rattle.value_text.specs.declared.lengths.Lengths.TheVariants as all
use Rattle.value_text.proofs.placed.same_fixed_lists.Goals as goal

pub returns-then-size-eq0 : goal.returns-then-size-eq0
returns-then-size-eq0 c =
    let t = c.args.typed.now in
    let array = c.args.array.now in
    let f = child_item (readers (trees (kids_of t))) (children_of array) in
    λ (i : ℕ) (inside : i < tree_items array).
    let from = (first (members_of array) + i) * c.args.size in
    let is : value_at (typed_of t) array i ≡ Items (values (each f from c.args.size)) =
    subst (λ (s : Storage). IsNestedAt s t array i (value_at (typed_of t) array i)) c.requires.storage (c.parts_are_whole.ensures i) in
    c.same_list.ensures f from (λ j small. absurd (omega (arith, small)))
    ∙ ap (λ n. text_length (Items (values (each f from n)))) (sym c.if-size-eq0.true)
    ∙ ap text_length (sym is)

pub returns-in-Same : goal.returns-in-Same
returns-in-Same c =
    let t = c.args.typed.now in
    let array = c.args.array.now in
    let kids = c.args.kids.now in
    let size = c.args.size in
    let total = tree_items (child_at array 0) in
    let g = value_at (get_or (kids_of t) 0 Released) (child_at array 0) in
    let one : length (kids_of t) ≡ 1 = c.one_kid_is_there.ensures in
    let told : Tells (all.Same c.in-Same.one) g total =
    subst (λ (ls : Lengths). Tells ls g total) (sym c.index-kids-0.is ∙ c.in-Same.is)
    (c.requires.kids.each 0 c.index-kids-0.result (omega (arith, one))) in
    λ (i : ℕ) (inside : i < tree_items array).
    let place = first (members_of array) + i in
    let is : value_at (typed_of t) array i ≡ Items (values (each (child_item (readers (trees (kids_of t))) (children_of array)) (place * size) size)) =
    subst (λ (s : Storage). IsNestedAt s t array i (value_at (typed_of t) array i)) c.requires.storage (c.parts_are_whole.ensures i) in
    let there : (place + 1) * size ≤ total =
    subst (λ (s : Storage). AreItemsThere s (bytes (members_of array) 1) place total) c.requires.storage
    (are-items-there (kind_of t) (storage_of (kind_of t)) (members_of array) (bytes (members_of array) 1) place total refl refl
    (c.lawful_items_lie_within.ensures.children i 0 inside (omega (arith, one)))) in
    let next : (place + 1) * size ≡ place * size + size = ap (λ n. n * size) (let e : place + 1 ≡ suc place = omega arith in e) ∙ suc-mul place size in
    c.same_list-in-Same.ensures g (place * size) (λ j small. told (place * size + j) (omega (arith, small, there, next)))
    ∙ ap (λ xs. text_length (Items (values xs)))
    (sym (each-child (kids_of t) (children_of array) (place * size) size (omega (arith, one)) (omega (arith, one, c.lawful_root.ensures.children))))
    ∙ ap text_length (sym is)
