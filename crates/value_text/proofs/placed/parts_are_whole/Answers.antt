use Rattle.std.proofs.Common.{◌≡◌, ◌+◌, ℕ, true, ap, refl, sym, subst}
use Rattle.data_types.specs.promise.Value.{Value}
use Rattle.data_types.specs.promise.Value.Value.{Fields}
use Rattle.data_types.specs.promise.Value.{values}
use Rattle.data_types.specs.promise.Storage.{storage_of}
use Rattle.data_types.specs.declared.storage.Storage.{Storage}
use Rattle.data_types.specs.declared.storage.Storage.TheVariants as storages
use Rattle.data_types.specs.declared.typed.Typed.{Typed}
use Rattle.tree_model.specs.promise.TreeData.{trees}
use Rattle.tree_model.specs.promise.TreeParts.{children_of}
use Rattle.raw_array.specs.promise.Members.{ArrayTree, members_of}
use Rattle.data_types.specs.promise.TypedView.{typed_of}
use Rattle.data_types.specs.TypedView.{kind_of, kids_of}
use Rattle.layout_rules.specs.promise.Layout.{first, is_valid, is_valid_by}
use Rattle.layout_rules.specs.promise.Values.{readers, row_items, stored_item}
use Rattle.arr_import.specs.Window.{IsStructValue}
use Rattle.arr_import.proofs.Reading.{home-row, value-item}
use Rattle.value_text.specs.Lengths.{ArePartsStorage, IsNestedAt}
use Rattle.value_text.proofs.placed.parts_are_whole.Goals as goal

parts-at : (s : Storage) (t : Typed) (array : ArrayTree) (i : ℕ) (v : Value) → ArePartsStorage s
    → v ≡ stored_item s (readers (trees (kids_of t))) (members_of array) (children_of array) i
    → (IsStructValue v → v ≡ Fields (values (row_items (typed_of t) array i))) → IsNestedAt s t array i v
parts-at storages.Nothing t array i v is e row = absurd is
parts-at storages.Truths t array i v is e row = absurd is
parts-at (storages.Wholes bits signed) t array i v is e row = absurd is
parts-at (storages.Floats bits) t array i v is e row = absurd is
parts-at (storages.Sized size) t array i v is e row = absurd is
parts-at (storages.Between wide text) t array i v is e row = absurd is
parts-at (storages.Lists wide) t array i v is e row = absurd is
parts-at (storages.FixedLists size) t array i v is e row = e
parts-at storages.Children t array i v is e row = row (subst IsStructValue (sym e) tt)
parts-at (storages.Views text) t array i v is e row = absurd is

pub returns : goal.returns
returns c = λ (i : ℕ).
    let t = c.args.typed.now in
    let array = c.args.array.now in
    let live = c.lawful_root.ensures.live in
    let v : is_valid (members_of array) i ≡ true = ap (λ b. is_valid_by b (first (members_of array) + i)) c.requires.valid in
    parts-at (storage_of (kind_of t)) t array i _ c.requires.parts
    (value-item t c.kinds_of_typed.ensures array i live v c.requires.own (storage_of (kind_of t)) refl)
    (λ is. (home-row t c.kinds_of_typed.ensures array i live (λ _. c.requires.own) is).1)
