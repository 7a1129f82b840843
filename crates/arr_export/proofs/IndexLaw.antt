-- A column of indices into a lawful dictionary is lawful, and its items are those of the dictionary.
use Rattle.std.proofs.Common.{◌≡◌, ◌∙◌, ℕ, ◌+◌, ◌/◌, ◌<◌, ℤ, pos, negsuc, Bool, false, not, List, [], ◌∷◌, length, map, get_or, refl, sym, ap, subst, arith}
use Rattle.std.proofs.Common.{Option, None, Some}
use Rattle.std.specs.Prelude.{if◌then◌else◌, ◌&&◌}
use Rattle.std.specs.List.{All}
use Rattle.std.proofs.lemmas.Bool.{lt-ltb}
use Rattle.std.proofs.lemmas.List.{get_or-map, length-map}
use Rattle.tree_model.specs.promise.TreeData.{Released, Live, no_trees, present}
use Rattle.raw_array.specs.promise.Members.{ArrayMembers, ArrayTree}
use Rattle.data_types.specs.promise.Value.{Value, Null, Truth, Whole}
use Rattle.data_types.specs.declared.kind.DataType.{DataType}
use Rattle.data_types.specs.declared.kind.DataType.TheVariants as kinds
use Rattle.data_types.specs.promise.Value.{is_null}
use Rattle.col_build.specs.Encoding.{Fits}
use Rattle.data_types.specs.promise.KindTrees.{KindTree}
use Rattle.layout_rules.specs.promise.Layout.{is_valid, natural, stored_number}
use Rattle.layout_rules.specs.promise.Rules.{index_wrong, indices_wrong, is_outside, live_length}
use Rattle.layout_rules.specs.promise.Values.{each, tree_items, value_at, values_of}
use Rattle.data_types.specs.promise.Ways.{dictionary_step}
use Rattle.layout_rules.specs.promise.Walk.{LayoutOk, first_some, node_fault, visit_fault, visits}
use Rattle.layout_rules.proofs.Lawful.{first_fault-lawful, lawful-first_fault}
use Rattle.arr_export.specs.promise.ArrayTrees.{column_members, column_tree}
use Rattle.arr_export.specs.ArrayTrees.{AreIndices, IsPlaceOf, flat_type, looked_up}
use Rattle.arr_export.proofs.ColumnLaw.{column-node, members-are}
use Rattle.arr_export.proofs.ColumnReads.{Reads, reads}
use Rattle.arr_export.proofs.Each.{each-is, value-there}
use Rattle.arr_export.proofs.NodeRules.{below-none, both-none, no-fault}
use Rattle.arr_export.proofs.Nulls.{own, valid-at}
use Rattle.arr_export.proofs.Steady.{steady}

-- ---- an index, and the item that it looks up
-- an index that is a place of this many items is none outside of them
inside : (total index : ℤ) → IsPlaceOf (natural total) (Whole index) → is_outside total index ≡ false
inside (pos n) (pos place) is = ap not (lt-ltb place n is)
inside (pos n) (negsuc place) is = absurd is
inside (negsuc n) (pos place) is = absurd (omega (arith, is))
inside (negsuc n) (negsuc place) is = absurd is

null-or-inside : (total index : ℤ) (value : Value) → IsPlaceOf (natural total) value → (is_null value ≡ false → Whole index ≡ value)
    → (not (is_null value) && is_outside total index) ≡ false
null-or-inside total index Null is same = refl
null-or-inside total index (Whole number) is same = inside total index (subst (IsPlaceOf (natural total)) (sym (same refl)) is)
null-or-inside total index (Truth truth) is same = absurd is
null-or-inside total index value is same = absurd is

-- what is read at the index is what the value looks up
entry-at : (type : KindTree) (dictionary : ArrayTree) (index : ℤ) (place : ℕ) → place < tree_items dictionary → Whole index ≡ Whole (pos place)
    → value_at type dictionary (natural index) ≡ get_or (values_of type dictionary) place Null
entry-at type dictionary index place lt e =
    let same : index ≡ pos place = cc in
    let start : place ≡ 0 + place = omega arith in
    ap (λ (n : ℤ). value_at type dictionary (natural n)) same ∙ ap (value_at type dictionary) start
    ∙ sym (value-there (value_at type dictionary) 0 (tree_items dictionary) place Null lt)

entry-is : (type : KindTree) (dictionary : ArrayTree) (index : ℤ) (value : Value) → IsPlaceOf (tree_items dictionary) value
    → (is_null value ≡ false → Whole index ≡ value)
    → (if not (is_null value) then value_at type dictionary (natural index) else Null) ≡ looked_up (values_of type dictionary) value
entry-is type dictionary index Null is same = refl
entry-is type dictionary index (Whole (pos place)) is same = entry-at type dictionary index place is (same refl)
entry-is type dictionary index (Whole (negsuc place)) is same = absurd is
entry-is type dictionary index (Truth truth) is same = absurd is
entry-is type dictionary index value is same = absurd is

live-count : (dictionary : ArrayTree) (n : ℤ) → live_length dictionary ≡ Some n → natural n ≡ tree_items dictionary
live-count Released n e = cc
live-count (Live own children dictionary) n e = let same : own.length ≡ n = cc in ap natural (sym same)

-- ---- a column of indices
module _ (bits : ℕ) (signed : Bool) (values : List Value) (type : KindTree) (dictionary : ArrayTree) (fits : Fits (kinds.Int bits signed) values)
    (places : All (IsPlaceOf (tree_items dictionary)) values) where
  r : Reads (kinds.Int bits signed) values
  r = reads (kinds.Int bits signed) values fits

  index-ok : (total : ℤ) → natural total ≡ tree_items dictionary → (i : ℕ) → i < length values
      → index_wrong (bits / 8) signed (own values r.rest) total i ≡ None
  index-ok total count i lt =
      let index = stored_number (bits / 8) signed (own values r.rest) i in
      no-fault (is_valid (own values r.rest) i && is_outside total index) i index total
      (ap (λ (valid : Bool). valid && is_outside total index) (valid-at values r.rest i lt)
      ∙ null-or-inside total index (get_or values i Null) (subst (λ (n : ℕ). IsPlaceOf n (get_or values i Null)) (sym count) (places i Null lt))
      (r.item_is i lt))

  indices-ok : (total : Option ℤ) → ((n : ℤ) → total ≡ Some n → natural n ≡ tree_items dictionary)
      → indices_wrong (kinds.Int bits signed) (column_members (kinds.Int bits signed) values) total ≡ None
  indices-ok None count = refl
  indices-ok (Some total) count =
      ap (λ (m : ArrayMembers). indices_wrong (kinds.Int bits signed) m (Some total)) (members-are (kinds.Int bits signed) values r)
      ∙ below-none (index_wrong (bits / 8) signed (own values r.rest) total) (length values) (index-ok total (count total refl))

  pub index-lawful : LayoutOk type dictionary
      → LayoutOk (flat_type (kinds.Int bits signed) (Some type)) (column_tree (kinds.Int bits signed) values (Some dictionary))
  index-lawful lawful =
      first_fault-lawful (flat_type (kinds.Int bits signed) (Some type)) (column_tree (kinds.Int bits signed) values (Some dictionary))
      (both-none (node_fault [] (Some (record {
        kind = kinds.Int bits signed;
        kids = [];
        dict = Some type;
        own = column_members (kinds.Int bits signed) values;
        children = [];
        dictionary = Some dictionary;
      }))) (first_some visit_fault (visits type (dictionary_step ∷ []) dictionary))
      (column-node (kinds.Int bits signed) values fits (Some type) (Some dictionary) refl (indices-ok (live_length dictionary) (live-count dictionary)) [])
      (steady type [] (dictionary_step ∷ []) dictionary (lawful-first_fault type dictionary lawful)))

  looked-at : (i : ℕ) → i < length values → value_at (flat_type (kinds.Int bits signed) (Some type)) (Live (own values r.rest) no_trees (present dictionary)) i
      ≡ looked_up (values_of type dictionary) (get_or values i Null)
  looked-at i lt =
      ap (λ (valid : Bool). if valid then value_at type dictionary (natural (stored_number (bits / 8) signed (own values r.rest) i)) else Null)
      (valid-at values r.rest i lt)
      ∙ entry-is type dictionary (stored_number (bits / 8) signed (own values r.rest) i) (get_or values i Null) (places i Null lt) (r.item_is i lt)

  pub index-values : values_of (flat_type (kinds.Int bits signed) (Some type)) (column_tree (kinds.Int bits signed) values (Some dictionary))
      ≡ map (looked_up (values_of type dictionary)) values
  index-values =
      let read = value_at (flat_type (kinds.Int bits signed) (Some type)) (Live (own values r.rest) no_trees (present dictionary)) in
      let count : length values ≡ length (map (looked_up (values_of type dictionary)) values) =
      sym (length-map values (looked_up (values_of type dictionary))) in
      ap (λ (m : ArrayMembers). values_of (flat_type (kinds.Int bits signed) (Some type)) (Live m no_trees (present dictionary)))
      (members-are (kinds.Int bits signed) values r)
      ∙ ap (each read 0) count
      ∙ each-is read (map (looked_up (values_of type dictionary)) values) 0 Null (λ i lt.
      let place : 0 + i ≡ i = omega arith in
      let within : i < length values = omega (arith, count, lt) in
      ap read place ∙ looked-at i within ∙ sym (get_or-map (looked_up (values_of type dictionary)) values i Null Null within))

pub indices-lawful : (kind : DataType) (values : List Value) (type : KindTree) (dictionary : ArrayTree) → Fits kind values → AreIndices kind values dictionary
    → LayoutOk type dictionary
    → LayoutOk (flat_type kind (Some type)) (column_tree kind values (Some dictionary))
indices-lawful (kinds.Int bits signed) values type dictionary fits are lawful = index-lawful bits signed values type dictionary fits are.places lawful
indices-lawful kinds.Bool values type dictionary fits are lawful = absurd are.kind_ok
indices-lawful kind values type dictionary fits are lawful = absurd are.kind_ok

pub indices-values : (kind : DataType) (values : List Value) (type : KindTree) (dictionary : ArrayTree) → Fits kind values → AreIndices kind values dictionary
    → values_of (flat_type kind (Some type)) (column_tree kind values (Some dictionary)) ≡ map (looked_up (values_of type dictionary)) values
indices-values (kinds.Int bits signed) values type dictionary fits are = index-values bits signed values type dictionary fits are.places
indices-values kinds.Bool values type dictionary fits are = absurd are.kind_ok
indices-values kind values type dictionary fits are = absurd are.kind_ok
