-- What a column keeps of its items, where they have no dictionary.
use Rattle.std.proofs.Common.{◌≡◌, ℕ, ◌+◌, ◌<◌, ◌^◌, List, Option, None, Some, refl, ap, ◌∙◌, sym, subst, arith}
use Rattle.std.specs.Prelude.{if◌then◌else◌}
use Rattle.data_types.specs.declared.storage.Storage.{Storage}
use Rattle.data_types.specs.declared.storage.Storage.TheVariants as storages
use Rattle.data_types.specs.promise.Value.Value.{Null}
use Rattle.tree_model.specs.promise.TreeParts.{children_of}
use Rattle.tree_model.specs.promise.TreeData.{trees}
use Rattle.raw_array.specs.promise.Members.{ArrayMembers, ArrayTree, members_of}
use Rattle.layout_rules.specs.promise.Layout.{buffer, bytes, first, is_valid, is_valid_by}
use Rattle.layout_rules.specs.Layout.{IsLong}
use Rattle.data_types.specs.TypedView.{kids_of}
use Rattle.layout_rules.specs.promise.Values.{Reader, readers}
use Rattle.arr_import.specs.declared.col.Col.{Col}
use Rattle.arr_import.specs.declared.plain.Plain.{Plain}
use Rattle.arr_import.specs.Lent.{lent_bytes}
use Rattle.arr_import.specs.Plain.{IsBitThere, IsItemThere, IsPlainStorage, is_valid_in, stored_value, valid_item}
use Rattle.arr_import.specs.StoredItems.{stored_item, IsThere}
use Rattle.arr_import.specs.Window.{item_at}
use Rattle.arr_import.specs.Cols.{window_of}

-- a bit of an item before the end is there
pub bit-there : (validity : Option (List ℕ)) (end place : ℕ) → place < end → IsLong end validity → IsBitThere validity place
bit-there None end place inside long = tt
bit-there (Some bits) end place inside long = omega (arith, inside, long)

-- the value of an item, by its place
pub value-at : (s : Storage) → IsPlainStorage s → (kids : List Reader) (own : ArrayMembers) (children : List ArrayTree) (i : ℕ)
    → stored_item s kids own children i ≡ stored_value s (bytes own 1) (bytes own 2) (first own + i)
value-at storages.Nothing h kids own children i = absurd h
value-at storages.Truths h kids own children i = refl
value-at (storages.Wholes bits signed) h kids own children i = refl
value-at (storages.Floats bits) h kids own children i = refl
value-at (storages.Sized size) h kids own children i = refl
value-at (storages.Between wide text) h kids own children i = refl
value-at (storages.Views text) h kids own children i = absurd h
value-at (storages.Lists wide) h kids own children i = absurd h
value-at (storages.FixedLists size) h kids own children i = absurd h
value-at storages.Children h kids own children i = absurd h

-- a plain column keeps what its column does
pub record Keeps (plain : Plain) (col : Col) : Type 0 where
  pub storage : plain.storage ≡ col.storage
  pub validity : plain.validity ≡ col.validity
  pub stored : plain.stored ≡ col.stored
  pub text : plain.text ≡ col.text
  pub first : plain.first ≡ first (members_of col.array.now) + col.start

module _ (plain : Plain) (col : Col) (keeps : Keeps plain col) (i : ℕ) where
  place : first (members_of col.array.now) + (col.start + i) ≡ plain.first + i
  place = let at = keeps.first in omega (arith, at)

  bits : buffer (members_of col.array.now) 0 ≡ lent_bytes plain.validity
  bits = sym col.validity_is ∙ ap lent_bytes (sym keeps.validity)

  stored : bytes (members_of col.array.now) 1 ≡ plain.stored.now
  stored = sym col.stored_is ∙ ap (λ b. b.now) (sym keeps.stored)

  text : bytes (members_of col.array.now) 2 ≡ plain.text.now
  text = sym col.text_is ∙ ap (λ b. b.now) (sym keeps.text)

  -- an item is there at its place
  pub item-there-at : first (members_of col.array.now) + (col.start + i) < 2 ^ 40
      → IsBitThere (buffer (members_of col.array.now) 0) (first (members_of col.array.now) + (col.start + i))
      → IsThere col.storage col.stored.now col.text.now (first (members_of col.array.now) + (col.start + i))
      → IsItemThere plain i
  item-there-at near bit there =
      record {
        near = omega (arith, near, place);
        validity = subst (λ n. IsBitThere (lent_bytes plain.validity) n) place
            (subst (λ b. IsBitThere b (first (members_of col.array.now) + (col.start + i))) bits bit);
        there =
            subst (λ n. IsThere plain.storage plain.stored.now plain.text.now n) place
            (subst (λ b. IsThere plain.storage plain.stored.now b.now (first (members_of col.array.now) + (col.start + i))) (sym keeps.text)
            (subst (λ b. IsThere plain.storage b.now col.text.now (first (members_of col.array.now) + (col.start + i))) (sym keeps.stored)
            (subst (λ s. IsThere s col.stored.now col.text.now (first (members_of col.array.now) + (col.start + i))) (sym keeps.storage) there)));
      }

  -- an item is what is at its place
  pub item-at : IsPlainStorage col.storage
      → item_at (window_of col) i
      ≡ (if is_valid (members_of col.array.now) (col.start + i)
      then stored_item col.storage (readers (trees (kids_of col.typed.now))) (members_of col.array.now) (children_of col.array.now) (col.start + i)
      else Null)
      → item_at (window_of col) i ≡ (if is_valid_in plain i then valid_item plain i else Null)
  item-at is_plain item =
      item
      ∙ ap (λ v. if is_valid (members_of col.array.now) (col.start + i) then v else Null)
      (value-at col.storage is_plain (readers (trees (kids_of col.typed.now))) (members_of col.array.now) (children_of col.array.now) (col.start + i))
      ∙ ap (λ n. if is_valid_by (buffer (members_of col.array.now) 0) n
      then stored_value col.storage (bytes (members_of col.array.now) 1) (bytes (members_of col.array.now) 2) n else Null) place
      ∙ ap (λ b. if is_valid_by b (plain.first + i)
      then stored_value col.storage (bytes (members_of col.array.now) 1) (bytes (members_of col.array.now) 2) (plain.first + i) else Null) bits
      ∙ ap (λ b. if is_valid_in plain i then stored_value col.storage b (bytes (members_of col.array.now) 2) (plain.first + i) else Null) stored
      ∙ ap (λ b. if is_valid_in plain i then stored_value col.storage plain.stored.now b (plain.first + i) else Null) text
      ∙ ap (λ s. if is_valid_in plain i then stored_value s plain.stored.now plain.text.now (plain.first + i) else Null) (sym keeps.storage)
