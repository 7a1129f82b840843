-- What an item of a flat column is, by how it is stored, and its key.
use Rattle.std.proofs.Common.{◌≡◌, ◌∙◌, ℕ, Bool, true, false, List, [], ◌∷◌, None, Some}
use Rattle.std.proofs.Common.{inl, inr, refl, sym, ap, subst}
use Rattle.std.specs.Prelude.{◌/◌, if◌then◌else◌}
use Rattle.data_types.specs.ColumnForms.{HasForm}
use Rattle.data_types.specs.promise.FieldText.{form_of}
use Rattle.data_types.specs.promise.Storage.{storage_of}
use Rattle.data_types.specs.promise.Table.{Flat}
use Rattle.data_types.specs.promise.Value.{Value, Null, Truth, Bytes}
use Rattle.data_types.specs.declared.kind.DataType.{DataType}
use Rattle.data_types.specs.declared.kind.DataType.TheVariants as kinds
use Rattle.data_types.specs.declared.storage.Storage.{Storage}
use Rattle.data_types.specs.declared.storage.Storage.TheVariants as storages
use Rattle.tree_model.specs.promise.TreeParts.{IsLive, children_of}
use Rattle.tree_model.specs.promise.TreeData.{Released, Live}
use Rattle.raw_array.specs.promise.Members.{ArrayMembers, ArrayTree, members_of}
use Rattle.data_types.specs.promise.ColumnKinds.{type_of_kind}
use Rattle.data_types.specs.promise.KindTrees.{KindTree, kind_in}
use Rattle.layout_rules.specs.promise.Layout.{is_valid}
use Rattle.layout_rules.specs.Layout.{stored_bytes}
use Rattle.layout_rules.specs.promise.Values.{value_at}
use Rattle.arr_import.specs.StoredItems.{stored_item}
use Rattle.row_groups.specs.ItemKeys.{AreNumberBytes, HasKey, IsFloat, IsWhole, value_of}

-- an item that may be null
abbrev pub item_if : Bool → Storage → ArrayMembers → List ArrayTree → ℕ → Value
item_if b storage own children i = if b then stored_item storage [] own children i else Null

pub item-plain : (t : KindTree) (a : ArrayTree) → t ≡ type_of_kind (Flat (kind_in t)) → IsLive a → (i : ℕ)
    → value_at t a i ≡ item_if (is_valid (members_of a) i) (storage_of (kind_in t)) (members_of a) (children_of a) i
item-plain t Released e live i = absurd live
item-plain t (Live own children dictionary) e live i =
    ap (λ (s : KindTree). value_at s (Live own children dictionary) i) e

-- ---- which storage a value has

abbrev pub IsFlatStorage : Storage → Type 0
IsFlatStorage storages.Truths = Unit {0}
IsFlatStorage (storages.Wholes bits signed) = Unit {0}
IsFlatStorage (storages.Floats bits) = Unit {0}
IsFlatStorage (storages.Sized size) = Unit {0}
IsFlatStorage (storages.Between wide text) = Unit {0}
IsFlatStorage _ = ⊥

pub flat-storage : (kind : DataType) → HasForm (form_of kind) → IsFlatStorage (storage_of kind)
flat-storage kinds.Null has = absurd has
flat-storage (kinds.List wide) has = absurd has
flat-storage (kinds.FixedList size) has = absurd has
flat-storage kinds.Struct has = absurd has
flat-storage kinds.Map has = absurd has
flat-storage kinds.BinaryView has = absurd has
flat-storage kinds.Utf8View has = absurd has
flat-storage (kinds.Decimal precision scale true) has = tt
flat-storage (kinds.Decimal precision scale false) has = tt
flat-storage _ has = tt

-- a whole number is stored in place
pub record WholeStored (storage : Storage) (value : Value) (own : ArrayMembers) (i : ℕ) : Type 0 where
  pub bits : ℕ
  pub signed : Bool
  pub storage_is : storage ≡ storages.Wholes bits signed
  pub is : value ≡ value_of (Some (stored_bytes (bits / 8) own i)) (storages.Wholes bits signed)

pub whole-stored : (storage : Storage) (b : Bool) (own : ArrayMembers) (children : List ArrayTree) (i : ℕ) → IsWhole (item_if b storage own children i)
    → WholeStored storage (item_if b storage own children i) own i
whole-stored (storages.Wholes bits signed) true own children i is = record { bits = bits; signed = signed; storage_is = refl; is = refl }
whole-stored _ true own children i is = absurd is
whole-stored _ false own children i is = absurd is

pub record FloatStored (storage : Storage) (value : Value) (own : ArrayMembers) (i : ℕ) : Type 0 where
  pub bits : ℕ
  pub storage_is : storage ≡ storages.Floats bits
  pub is : value ≡ value_of (Some (stored_bytes (bits / 8) own i)) (storages.Floats bits)

pub float-stored : (storage : Storage) (b : Bool) (own : ArrayMembers) (children : List ArrayTree) (i : ℕ) → IsFloat (item_if b storage own children i)
    → FloatStored storage (item_if b storage own children i) own i
float-stored (storages.Floats bits) true own children i is = record { bits = bits; storage_is = refl; is = refl }
float-stored _ true own children i is = absurd is
float-stored _ false own children i is = absurd is

-- ---- keys of truth values and of bytes

abbrev pub IsTruth : Value → Type 0
IsTruth (Truth b) = Unit {0}
IsTruth _ = ⊥

abbrev pub IsBytes : Value → Type 0
IsBytes (Bytes b) = Unit {0}
IsBytes _ = ⊥

truths : (storage : Storage) (b : Bool) (own : ArrayMembers) (children : List ArrayTree) (i : ℕ) → IsTruth (item_if b storage own children i)
    → storage ≡ storages.Truths
truths storages.Truths true own children i is = refl
truths _ true own children i is = absurd is
truths _ false own children i is = absurd is

truth-key : (truth : Bool) → HasKey storages.Truths (Truth truth) (Some ((if truth then 1 else 0) ∷ []))
truth-key true = record { is = refl; key_is = inr refl }
truth-key false = record { is = refl; key_is = inl refl }

pub has-truth : (storage : Storage) (b : Bool) (own : ArrayMembers) (children : List ArrayTree) (i : ℕ) (v : Value) (truth : Bool)
    → v ≡ item_if b storage own children i → v ≡ Truth truth → HasKey storage v (Some ((if truth then 1 else 0) ∷ []))
has-truth storage b own children i v truth is e =
    let stored = truths storage b own children i (subst IsTruth is (subst IsTruth (sym e) tt)) in
    subst (λ (s : Storage). HasKey s v (Some ((if truth then 1 else 0) ∷ []))) (sym stored)
    (subst (λ (w : Value). HasKey storages.Truths w (Some ((if truth then 1 else 0) ∷ []))) (sym e) (truth-key truth))

bytes-key : (storage : Storage) (b : Bool) (own : ArrayMembers) (children : List ArrayTree) (i : ℕ) (bytes : List ℕ) → IsFlatStorage storage
    → IsBytes (item_if b storage own children i) → HasKey storage (Bytes bytes) (Some bytes)
bytes-key (storages.Sized size) true own children i bytes flat is = record { is = refl; key_is = tt }
bytes-key (storages.Between wide text) true own children i bytes flat is = record { is = refl; key_is = tt }
bytes-key (storages.Views text) true own children i bytes flat is = absurd flat
bytes-key _ true own children i bytes flat is = absurd is
bytes-key _ false own children i bytes flat is = absurd is

pub has-bytes : (storage : Storage) (b : Bool) (own : ArrayMembers) (children : List ArrayTree) (i : ℕ) (v : Value) (bytes : List ℕ) → IsFlatStorage storage
    → v ≡ item_if b storage own children i → v ≡ Bytes bytes → HasKey storage v (Some bytes)
has-bytes storage b own children i v bytes flat is e =
    subst (λ (w : Value). HasKey storage w (Some bytes)) (sym e)
    (bytes-key storage b own children i bytes flat (subst IsBytes is (subst IsBytes (sym e) tt)))

pub null-key : (storage : Storage) (v : Value) → v ≡ Null → HasKey storage v None
null-key storage v e = record { is = e; key_is = tt }

-- ---- keys of numbers

abbrev bits_of : Storage → ℕ
bits_of (storages.Wholes bits signed) = bits
bits_of (storages.Floats bits) = bits
bits_of _ = 0

wholes-same : (bits more : ℕ) (signed other : Bool) → storages.Wholes bits signed ≡ storages.Wholes more other → bits ≡ more
wholes-same bits more signed other e = ap bits_of e

floats-same : (bits more : ℕ) → storages.Floats bits ≡ storages.Floats more → bits ≡ more
floats-same bits more e = ap bits_of e

pub whole-key : (storage : Storage) (b : Bool) (own : ArrayMembers) (children : List ArrayTree) (i : ℕ) (v : Value) (bits : ℕ) (text : List ℕ)
    → v ≡ item_if b storage own children i → IsWhole v → ((signed : Bool) × (storage ≡ storages.Wholes bits signed))
    → text ≡ stored_bytes (bits / 8) own i → AreNumberBytes (bits / 8) text → HasKey storage v (Some text)
whole-key storage b own children i v bits text is whole stored bytes number =
    let found = whole-stored storage b own children i (subst IsWhole is whole) in
    let same : found.bits ≡ bits = wholes-same found.bits bits found.signed stored.0 (sym found.storage_is ∙ stored.1) in
    subst (λ (s : Storage). HasKey s v (Some text)) (sym found.storage_is) (record {
      is = is ∙ found.is ∙ ap (λ (t : List ℕ). value_of (Some t) (storages.Wholes found.bits found.signed)) (ap (λ n. stored_bytes (n / 8) own i) same ∙ sym bytes);
      key_is = subst (λ n. AreNumberBytes (n / 8) text) (sym same) number;
    })

pub float-key : (storage : Storage) (b : Bool) (own : ArrayMembers) (children : List ArrayTree) (i : ℕ) (v : Value) (bits : ℕ) (text : List ℕ)
    → v ≡ item_if b storage own children i → IsFloat v → storage ≡ storages.Floats bits
    → text ≡ stored_bytes (bits / 8) own i → AreNumberBytes (bits / 8) text → HasKey storage v (Some text)
float-key storage b own children i v bits text is float stored bytes number =
    let found = float-stored storage b own children i (subst IsFloat is float) in
    let same : found.bits ≡ bits = floats-same found.bits bits (sym found.storage_is ∙ stored) in
    subst (λ (s : Storage). HasKey s v (Some text)) (sym found.storage_is) (record {
      is = is ∙ found.is ∙ ap (λ (t : List ℕ). value_of (Some t) (storages.Floats found.bits)) (ap (λ n. stored_bytes (n / 8) own i) same ∙ sym bytes);
      key_is = subst (λ n. AreNumberBytes (n / 8) text) (sym same) number;
    })
