-- An item is read of the buffers' bytes and a place alone.
use Rattle.std.proofs.Common.{◌≡◌, ◌∙◌, ℕ, ◌+◌, ◌-◌, ◌*◌, ◌/◌, Bool, false, ◌==◌, ℤ, List, take, drop, Option, None, Some, refl, ap, sym}
use Rattle.std.specs.Prelude.{if◌then◌else◌}
use Rattle.data_types.specs.declared.kind.DataType.{DataType}
use Rattle.data_types.specs.declared.kind.DataType.TheVariants as kinds
use Rattle.data_types.specs.declared.storage.Storage.{Storage}
use Rattle.data_types.specs.declared.storage.Storage.TheVariants as stored
use Rattle.data_types.specs.promise.Storage.{storage_of}
use Rattle.data_types.specs.promise.Packed.{bit, meant, number_at}
use Rattle.data_types.specs.promise.Value.{Value, values}
use Rattle.data_types.specs.promise.Value.Value.{Null, Truth, Whole, Bits, Bytes, Items, Fields}
use Rattle.raw_array.specs.promise.Members.{ArrayMembers, ArrayTree}
use Rattle.layout_rules.specs.promise.Layout.{buffer, bytes_or_none, first, is_valid, is_valid_by, natural, offset_in}
use Rattle.array_laws.proofs.PlaceRules.{Buffers, data_at, view_at}
use Rattle.layout_rules.specs.promise.Values.{Reader, child_item, dictionary_item, each, field_items, item_or_entry, stored_item}

-- ---- an item of the array's own
abbrev number_by : ℕ → Bool → Buffers → ℕ → ℤ
number_by width signed bs p = meant width signed (number_at (bytes_or_none (bs 1)) (p * width) width)

abbrev list_by : Bool → Buffers → ℕ → (ℕ → Value) → Value
list_by wide bs p child =
    let here = natural (offset_in wide (bytes_or_none (bs 1)) p) in
    let next = natural (offset_in wide (bytes_or_none (bs 1)) (p + 1)) in
    Items (values (each child here (next - here)))

abbrev item_by : Storage → Buffers → ℕ → (ℕ → Value) → (ℕ → List Value) → Value
item_by stored.Nothing bs p child fields = Null
item_by stored.Truths bs p child fields = Truth (bit (bytes_or_none (bs 1)) p == 1)
item_by (stored.Wholes bits signed) bs p child fields = Whole (number_by (bits / 8) signed bs p)
item_by (stored.Floats bits) bs p child fields = Bits (natural (number_by (bits / 8) false bs p))
item_by (stored.Sized size) bs p child fields = Bytes (take size (drop (p * size) (bytes_or_none (bs 1))))
item_by (stored.Between wide text) bs p child fields = Bytes (data_at wide bs p)
item_by (stored.Views text) bs p child fields = Bytes (view_at bs p)
item_by (stored.Lists wide) bs p child fields = list_by wide bs p child
item_by (stored.FixedLists size) bs p child fields = Items (values (each child (p * size) size))
item_by stored.Children bs p child fields = Fields (values (fields p))

item-by : (storage : Storage) (kids : List Reader) (a : ArrayMembers) (children : List ArrayTree) (i : ℕ)
    → stored_item storage kids a children i ≡ item_by storage (buffer a) (first a + i) (child_item kids children) (field_items kids children)
item-by stored.Nothing kids a children i = refl
item-by _ kids a children i = refl

-- ---- an item of the dictionary, and any item
abbrev entry_by : Option Reader → DataType → Buffers → ℕ → (ℕ → Value) → (ℕ → List Value) → (ℕ → Value) → Value
entry_by None kind bs p child fields entry = item_by (storage_of kind) bs p child fields
entry_by (Some read) (kinds.Int bits signed) bs p child fields entry = entry (natural (number_by (bits / 8) signed bs p))
entry_by (Some read) _ bs p child fields entry = Null

abbrev pub entries : Option Reader → Option ArrayTree → ℕ → Value
entries None dictionary = λ i. Null
entries (Some read) dictionary = dictionary_item read dictionary

entry-by : (dict : Option Reader) (kind : DataType) (kids : List Reader) (a : ArrayMembers) (children : List ArrayTree) (dictionary : Option ArrayTree) (i : ℕ)
    → item_or_entry dict kind kids a children dictionary i
    ≡ entry_by dict kind (buffer a) (first a + i) (child_item kids children) (field_items kids children) (entries dict dictionary)
entry-by None kind kids a children dictionary i = item-by (storage_of kind) kids a children i
entry-by (Some read) kinds.Null kids a children dictionary i = refl
entry-by (Some read) _ kids a children dictionary i = refl

abbrev pub read_by : Option Reader → DataType → Buffers → ℕ → (ℕ → Value) → (ℕ → List Value) → (ℕ → Value) → Value
read_by dict kind bs p child fields entry = if is_valid_by (bs 0) p then entry_by dict kind bs p child fields entry else Null

read-by : (dict : Option Reader) (kind : DataType) (kids : List Reader) (a : ArrayMembers) (children : List ArrayTree) (dictionary : Option ArrayTree) (i : ℕ)
    → (if is_valid a i then item_or_entry dict kind kids a children dictionary i else Null)
    ≡ read_by dict kind (buffer a) (first a + i) (child_item kids children) (field_items kids children) (entries dict dictionary)
read-by dict kind kids a children dictionary i = ap (λ v. if is_valid a i then v else Null) (entry-by dict kind kids a children dictionary i)

-- two arrays with the same bytes, whose children and dictionaries have the same items, have the same item at the same place
pub same-read : (dict : Option Reader) (kind : DataType) (kids : List Reader) (a b : ArrayMembers) (cs ds : List ArrayTree) (d e : Option ArrayTree) (i j : ℕ)
    → ((k : ℕ) → buffer a k ≡ buffer b k) → first a + i ≡ first b + j
    → child_item kids cs ≡ child_item kids ds → field_items kids cs ≡ field_items kids ds → entries dict d ≡ entries dict e
    → (if is_valid a i then item_or_entry dict kind kids a cs d i else Null) ≡ (if is_valid b j then item_or_entry dict kind kids b ds e j else Null)
same-read dict kind kids a b cs ds d e i j bytes place kid cells entry =
    read-by dict kind kids a cs d i
    ∙ (λ t. read_by dict kind (λ k. bytes k t) (place t) (kid t) (cells t) (entry t))
    ∙ sym (read-by dict kind kids b ds e j)
