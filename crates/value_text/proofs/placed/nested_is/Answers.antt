use Rattle.std.proofs.Common.{◌≡◌, ℕ, Bool, true, false, refl, subst, sym}
use Rattle.data_types.specs.promise.Value.{Value}
use Rattle.data_types.specs.promise.Value.Value.{Fields}
use Rattle.data_types.specs.promise.Value.{values}
use Rattle.data_types.specs.promise.Storage.{storage_of}
use Rattle.data_types.specs.declared.storage.Storage.{Storage}
use Rattle.data_types.specs.declared.storage.Storage.TheVariants as storages
use Rattle.tree_model.specs.promise.TreeData.{trees}
use Rattle.tree_model.specs.promise.TreeParts.{children_of}
use Rattle.raw_array.specs.promise.Members.{ArrayTree, members_of}
use Rattle.data_types.specs.promise.TypedView.{typed_of}
use Rattle.data_types.specs.TypedView.{kind_of, kids_of}
use Rattle.data_types.specs.declared.typed.Typed.{Typed}
use Rattle.layout_rules.specs.promise.Layout.{is_valid}
use Rattle.layout_rules.specs.promise.Values.{readers, row_items, value_at}
use Rattle.arr_import.specs.StoredItems.{stored_item}
use Rattle.arr_import.specs.Window.{IsStructValue}
use Rattle.arr_import.proofs.Reading.{home-row, value-item, value-null}
use Rattle.value_text.specs.Lengths.{IsNested, IsNestedAt}
use Rattle.value_text.proofs.placed.nested_is.Goals as goal

-- by how a type is stored
nested-at : (s : Storage) (t : Typed) (array : ArrayTree) (i : ℕ) (v : Value) → IsNested v
    → v ≡ stored_item s (readers (trees (kids_of t))) (members_of array) (children_of array) i
    → (IsStructValue v → v ≡ Fields (values (row_items (typed_of t) array i))) → IsNestedAt s t array i v
nested-at storages.Nothing t array i v n e row = absurd (subst IsNested e n)
nested-at storages.Truths t array i v n e row = absurd (subst IsNested e n)
nested-at (storages.Wholes bits signed) t array i v n e row = absurd (subst IsNested e n)
nested-at (storages.Floats bits) t array i v n e row = absurd (subst IsNested e n)
nested-at (storages.Sized size) t array i v n e row = absurd (subst IsNested e n)
nested-at (storages.Between wide text) t array i v n e row = absurd (subst IsNested e n)
nested-at (storages.Lists wide) t array i v n e row = e
nested-at (storages.FixedLists size) t array i v n e row = e
nested-at storages.Children t array i v n e row = row (subst IsStructValue (sym e) tt)
nested-at (storages.Views text) t array i v n e row = absurd (subst IsNested e n)

pub returns : goal.returns
returns c = by (is_valid (members_of c.args.array.now) c.args.i) refl
  where
    t : Typed
    t = c.args.typed.now

    array : ArrayTree
    array = c.args.array.now

    by : (b : Bool) → is_valid (members_of array) c.args.i ≡ b → IsNestedAt (storage_of (kind_of t)) t array c.args.i (value_at (typed_of t) array c.args.i)
    by true v =
        nested-at (storage_of (kind_of t)) t array c.args.i _ c.requires.nested
        (value-item t c.kinds_of_typed.ensures array c.args.i c.lawful_root.ensures.live v c.requires.own (storage_of (kind_of t)) refl)
        (λ is. (home-row t c.kinds_of_typed.ensures array c.args.i c.lawful_root.ensures.live (λ _. c.requires.own) is).1)
    by false n = absurd (subst IsNested (value-null t c.kinds_of_typed.ensures array c.args.i c.lawful_root.ensures.live n) c.requires.nested)
