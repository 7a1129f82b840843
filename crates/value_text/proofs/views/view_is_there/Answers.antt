use Rattle.std.proofs.Common.{◌≡◌, ◌∙◌, ℕ, List, refl}
use Rattle.data_types.specs.promise.Storage.{storage_of}
use Rattle.data_types.specs.promise.Value.Value.{Bytes}
use Rattle.data_types.specs.declared.storage.Storage.{Storage}
use Rattle.data_types.specs.declared.storage.Storage.TheVariants as storages
use Rattle.data_types.specs.TypedView.{kind_of, kids_of}
use Rattle.tree_model.specs.promise.TreeParts.{children_of}
use Rattle.tree_model.specs.promise.TreeData.{trees}
use Rattle.raw_array.specs.promise.Members.{ArrayMembers, ArrayTree, members_of}
use Rattle.arr_import.specs.StoredItems.{IsViewStorage}
use Rattle.arr_import.proofs.Reading.{value-item, view-there}
use Rattle.layout_rules.specs.promise.Values.{Reader, readers, stored_item}
use Rattle.layout_rules.specs.promise.Views.{view_data}
use Rattle.value_text.proofs.views.view_is_there.Goals as goal

view-item : (s : Storage) (kids : List Reader) (own : ArrayMembers) (children : List ArrayTree) (i : ℕ) → IsViewStorage s
    → stored_item s kids own children i ≡ Bytes (view_data own i)
view-item (storages.Views text) kids own children i is = refl
view-item storages.Nothing kids own children i is = absurd is
view-item storages.Truths kids own children i is = absurd is
view-item (storages.Wholes bits signed) kids own children i is = absurd is
view-item (storages.Floats bits) kids own children i is = absurd is
view-item (storages.Sized size) kids own children i is = absurd is
view-item (storages.Between wide text) kids own children i is = absurd is
view-item (storages.Lists wide) kids own children i is = absurd is
view-item (storages.FixedLists size) kids own children i is = absurd is
view-item storages.Children kids own children i is = absurd is

pub returns : goal.returns
returns c =
    let t = c.args.typed.now in
    let array = c.args.array.now in
    let i = c.args.i in
    record {
      within =
          view-there (kind_of t) (storage_of (kind_of t)) (members_of array) i refl c.requires.storage c.requires.valid
          (c.lawful_items_lie_within.ensures.views i c.requires.inside);
      value =
          value-item t c.kinds_of_typed.ensures array i c.lawful_root.ensures.live c.requires.valid c.requires.own (storage_of (kind_of t)) refl
          ∙ view-item (storage_of (kind_of t)) (readers (trees (kids_of t))) (members_of array) (children_of array) i c.requires.storage;
    }
