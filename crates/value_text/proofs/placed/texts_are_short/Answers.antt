use Rattle.std.proofs.Common.{◌≡◌, ◌∙◌, ℕ, Bool, true, false, List, ap, refl}
use Rattle.data_types.specs.promise.Storage.{storage_of}
use Rattle.data_types.specs.declared.storage.Storage.{Storage}
use Rattle.data_types.specs.declared.storage.Storage.TheVariants as storages
use Rattle.tree_model.specs.promise.TreeData.{trees}
use Rattle.tree_model.specs.promise.TreeParts.{children_of}
use Rattle.raw_array.specs.promise.Members.{ArrayMembers, ArrayTree, members_of}
use Rattle.data_types.specs.promise.TypedView.{typed_of}
use Rattle.data_types.specs.TypedView.{kind_of, kids_of}
use Rattle.layout_rules.specs.promise.Layout.{is_valid}
use Rattle.layout_rules.specs.promise.Values.{Reader, readers, stored_item, value_at}
use Rattle.arr_import.proofs.Reading.{value-item, value-null}
use Rattle.value_text.specs.Lengths.{IsEmptyStorage, text_length}
use Rattle.value_text.proofs.placed.texts_are_short.Goals as goal

short : (s : Storage) (kids : List Reader) (own : ArrayMembers) (children : List ArrayTree) (i : ℕ) → IsEmptyStorage s
    → text_length (stored_item s kids own children i) ≡ 1
short storages.Nothing kids own children i empty = refl
short (storages.Sized size) kids own children i empty =
    ap (λ n. text_length (stored_item (storages.Sized n) kids own children i)) empty
short storages.Truths kids own children i empty = absurd empty
short (storages.Wholes bits signed) kids own children i empty = absurd empty
short (storages.Floats bits) kids own children i empty = absurd empty
short (storages.Between wide text) kids own children i empty = absurd empty
short (storages.Lists wide) kids own children i empty = absurd empty
short (storages.FixedLists size) kids own children i empty = absurd empty
short storages.Children kids own children i empty = absurd empty
short (storages.Views text) kids own children i empty = absurd empty

pub returns : goal.returns
returns c = λ (i : ℕ). by i (is_valid (members_of c.args.array.now) i) refl
  where
    by : (i : ℕ) (b : Bool) → is_valid (members_of c.args.array.now) i ≡ b → text_length (value_at (typed_of c.args.typed.now) c.args.array.now i) ≡ 1
    by i true v =
        let t = c.args.typed.now in
        let array = c.args.array.now in
        ap text_length (value-item t c.kinds_of_typed.ensures array i c.lawful_root.ensures.live v c.requires.own (storage_of (kind_of t)) refl)
        ∙ short (storage_of (kind_of t)) (readers (trees (kids_of t))) (members_of array) (children_of array) i c.requires.storage
    by i false n = ap text_length (value-null c.args.typed.now c.kinds_of_typed.ensures c.args.array.now i c.lawful_root.ensures.live n)
