-- A column takes each item of a lawful array.
use Rattle.std.proofs.Common.{◌≡◌, ℕ, ◌+◌, ◌-◌, ◌*◌, ◌/◌, ◌^◌, ◌<◌, ◌≤◌, ℤ, pos, Bool, true, false, List, [], length, take, drop, inl, inr}
use Rattle.std.proofs.Common.{None, Some, refl, sym, subst, true≢false, arith}
use Rattle.std.specs.Prelude.{nat_lt, if◌then◌else◌, not, ◌&&◌, ◌==◌}
use Rattle.std.specs.Str.{is_utf8}
use Rattle.std.specs.Str.Lossy.{utf8_valid_len}
use Rattle.std.proofs.lemmas.Bool.{lt-ltb}
use Rattle.std.proofs.lemmas.Bool.Decides.{nat_tests}
use Rattle.std.proofs.lemmas.List.{length-take-le, length-take, length-drop}
use Rattle.data_types.specs.promise.FieldText.{Wholes, FloatBits, Text, HexBytes, SizedHex, Decimals, form_of, in_range, places, stored_form}
use Rattle.data_types.specs.Kinds.{KindOk}
use Rattle.data_types.specs.promise.Value.{Null, Whole, Bits, Bytes}
use Rattle.data_types.specs.declared.kind.DataType.{DataType}
use Rattle.data_types.specs.declared.kind.DataType.TheVariants as kinds
use Rattle.data_types.specs.declared.storage.Storage.{Storage}
use Rattle.data_types.specs.declared.storage.Storage.TheVariants as stored
use Rattle.data_types.specs.promise.Storage.{storage_of}
use Rattle.data_types.specs.promise.Packed.{meant, number_at}
use Rattle.data_types.specs.Packed.{IsWidth}
use Rattle.col_build.specs.Encoding.{HasForm, fault_if, push_fault}
use Rattle.col_build.proofs.ShapeFacts.{FormOk, form-ok}
use Rattle.tree_model.specs.promise.TreeData.{Released, Live, no_trees, absent, tree_list}
use Rattle.raw_array.specs.promise.Members.{ArrayMembers, ArrayTree, members_of}
use Rattle.layout_rules.specs.declared.rule.LayoutRule.TheVariants as rules
use Rattle.layout_rules.specs.promise.Layout.{bytes, data_of, first, is_valid, items, laid_out, layout_of, natural, offset, stored_number}
use Rattle.layout_rules.specs.Layout.{stored_bytes}
use Rattle.layout_rules.specs.Lawful.{ItemsHold}
use Rattle.layout_rules.specs.promise.Rules.{texts_wrong}
use Rattle.layout_rules.specs.Rules.{not_text}
use Rattle.layout_rules.specs.promise.Rules.{fault_if as rule_fault}
use Rattle.layout_rules.specs.promise.Values.{stored_item, tree_items, value_at}
use Rattle.layout_rules.specs.Values.{item}
use Rattle.layout_rules.specs.promise.Walk.{LayoutOk}
use Rattle.layout_rules.specs.Within.{StoredWithin}
use Rattle.layout_rules.proofs.Firsts.{first_below-none_at}
use Rattle.layout_rules.proofs.Roots.{level_in, root-met}
use Rattle.array_laws.proofs.Ranges.{Numbered, Reaches, offset-reaches, reaches-less, signed-range, unsigned-range}

-- ---- the fault of an item, form by form

whole-taken : (wide : Bool) (bits : ℕ) (signed : Bool) (z : ℤ) → in_range bits signed z ≡ true → fault_if wide (Some (Wholes bits signed)) [] (Whole z) ≡ None
whole-taken true bits signed z e = rw e refl
whole-taken false bits signed z e = rw e refl

decimal-taken : (wide : Bool) (precision places : ℕ) (z : ℤ) → in_range 128 true z ≡ true
    → fault_if wide (Some (Decimals precision places)) [] (Whole z) ≡ None
decimal-taken true precision places z e = rw e refl
decimal-taken false precision places z e = rw e refl

bits-taken : (wide : Bool) (bits n : ℕ) → nat_lt n (2 ^ bits) ≡ true → fault_if wide (Some (FloatBits bits)) [] (Bits n) ≡ None
bits-taken true bits n e = rw e refl
bits-taken false bits n e = rw e refl

sized-taken : (wide : Bool) (size : ℕ) (bs : List ℕ) → (length bs == size) ≡ true → fault_if wide (Some (SizedHex size)) [] (Bytes bs) ≡ None
sized-taken true size bs e = rw e refl
sized-taken false size bs e = rw e refl

near : (total : ℕ) → total < 2 ^ 31 → nat_lt (0 + total) (2 ^ 31) ≡ true
near total small = lt-ltb (0 + total) (2 ^ 31) (omega (arith, small))

hex-taken : (wide : Bool) (bs : List ℕ) → Reaches wide (length bs) → fault_if wide (Some HexBytes) [] (Bytes bs) ≡ None
hex-taken true bs small = refl
hex-taken false bs small = rw (near (length bs) small) refl

text-taken : (wide : Bool) (bs : List ℕ) → Reaches wide (length bs) → is_utf8 bs ≡ true → fault_if wide (Some Text) [] (Bytes bs) ≡ None
text-taken true bs small e = rw e refl
text-taken false bs small e = rw (near (length bs) small) (rw e refl)

-- ---- what is read of an item

int-range : (bits : ℕ) (signed : Bool) (n : ℕ) → 8 * (bits / 8) ≡ bits → 0 < bits → n < 2 ^ (8 * (bits / 8))
    → in_range bits signed (meant (bits / 8) signed n) ≡ true
int-range bits signed n whole some small =
    subst (λ b. in_range b signed (meant (bits / 8) signed n) ≡ true) whole (by-sign (bits / 8) signed n (omega (arith, whole, some)) small)
  where
    by-sign : (width : ℕ) (signed : Bool) (n : ℕ) → 0 < width → n < 2 ^ (8 * width) → in_range (8 * width) signed (meant width signed n) ≡ true
    by-sign width true n some small = signed-range width n some
    by-sign width false n some small = unsigned-range width n small

float-range : (bits n : ℕ) → 8 * (bits / 8) ≡ bits → n < 2 ^ (8 * (bits / 8)) → nat_lt n (2 ^ bits) ≡ true
float-range bits n whole small = subst (λ b. nat_lt n (2 ^ b) ≡ true) whole (lt-ltb n (2 ^ (8 * (bits / 8))) small)

some-bits : (bits : ℕ) → 8 * (bits / 8) ≡ bits → IsWidth (bits / 8) → 0 < bits
some-bits bits whole (inl e) = omega (arith, whole, e)
some-bits bits whole (inr (inl e)) = omega (arith, whole, e)
some-bits bits whole (inr (inr (inl e))) = omega (arith, whole, e)
some-bits bits whole (inr (inr (inr (inl e)))) = omega (arith, whole, e)
some-bits bits whole (inr (inr (inr (inr e)))) = omega (arith, whole, e)

sized-long : (size place : ℕ) (stored : List ℕ) → (place + 1) * size ≤ length stored → (length (take size (drop (place * size) stored)) == size) ≡ true
sized-long size place stored there =
    let left : size ≤ length (drop (place * size) stored) = omega (arith, there, length-drop (place * size) stored) in
    let is : length (take size (drop (place * size) stored)) ≡ size = length-take-le size (drop (place * size) stored) left in
    grind (arith, nat_tests, is)

-- the bytes of an item end at the next offset
pub data-long : (wide : Bool) (own : ArrayMembers) (i : ℕ) → length (data_of wide own i) ≤ natural (offset wide own (first own + i + 1)) - natural (offset wide own (first own + i))
data-long wide own i =
    let here = natural (offset wide own (first own + i)) in
    let next = natural (offset wide own (first own + i + 1)) in
    omega (arith, length-take (next - here) (drop here (bytes own 2)))

data-reaches : (wide : Bool) (own : ArrayMembers) (i : ℕ) → Reaches wide (length (data_of wide own i))
data-reaches wide own i =
    reaches-less wide (length (data_of wide own i)) (natural (offset wide own (first own + i + 1))) (omega (arith, data-long wide own i))
    (offset-reaches wide own (first own + i + 1))

valid-text : (valid text : Bool) (i : ℕ) (left right : ℤ) → valid ≡ true → rule_fault (valid && not text) i left right ≡ None → text ≡ true
valid-text true true i left right v e = refl
valid-text true false i left right v e = grind arith
valid-text false text i left right v e = absurd (true≢false (sym v))

text-is : (wide : Bool) (own : ArrayMembers) (i : ℕ) → texts_wrong (kinds.Utf8 wide) own ≡ None → i < items own → is_valid own i ≡ true
    → is_utf8 (data_of wide own i) ≡ true
text-is wide own i none inside valid =
    let text = data_of wide own i in
    valid-text (is_valid own i) (is_utf8 text) i (pos (utf8_valid_len text)) (pos (length text)) valid
    (first_below-none_at (not_text wide own) (items own) i inside none)

-- a text between offsets is UTF-8
abbrev IsTextIf : Storage → ArrayMembers → ℕ → Type 0
IsTextIf (stored.Between wide true) own i = is_utf8 (data_of wide own i) ≡ true
IsTextIf _ own i = Unit {0}

text-if : (kind : DataType) (own : ArrayMembers) (i : ℕ) → texts_wrong kind own ≡ None → i < items own → is_valid own i ≡ true
    → IsTextIf (storage_of kind) own i
text-if (kinds.Utf8 wide) own i none inside valid = text-is wide own i none inside valid
text-if (kinds.Decimal precision scale false) own i none inside valid = tt
text-if (kinds.Decimal precision scale true) own i none inside valid = tt
text-if _ own i none inside valid = tt

-- offsets of 64 bits
abbrev wide_in : Storage → Bool
wide_in (stored.Between wide text) = wide
wide_in _ = false

stored-taken : (storage : Storage) (own : ArrayMembers) (children : List ArrayTree) (i : ℕ) → FormOk (stored_form storage) → HasForm (stored_form storage)
    → Numbered (bytes own 1) → StoredWithin (laid_out storage) own (first own + i) → IsTextIf storage own i
    → fault_if (wide_in storage) (stored_form storage) [] (stored_item storage [] own children i) ≡ None
stored-taken stored.Truths own children i ok flat small there text = refl
stored-taken (stored.Wholes bits signed) own children i ok flat small there text =
    whole-taken false bits signed (stored_number (bits / 8) signed own i)
    (int-range bits signed (number_at (bytes own 1) ((first own + i) * (bits / 8)) (bits / 8)) ok.0 (some-bits bits ok.0 ok.1)
    (small ((first own + i) * (bits / 8)) (bits / 8)))
stored-taken (stored.Floats bits) own children i ok flat small there text =
    let n = number_at (bytes own 1) ((first own + i) * (bits / 8)) (bits / 8) in
    bits-taken false bits n (float-range bits n ok.0 (small ((first own + i) * (bits / 8)) (bits / 8)))
stored-taken (stored.Sized size) own children i ok flat small there text =
    sized-taken false size (stored_bytes size own i) (sized-long size (first own + i) (bytes own 1) there)
stored-taken (stored.Between wide false) own children i ok flat small there text = hex-taken wide (data_of wide own i) (data-reaches wide own i)
stored-taken (stored.Between wide true) own children i ok flat small there text = text-taken wide (data_of wide own i) (data-reaches wide own i) text
stored-taken _ own children i ok flat small there text = absurd flat

item-taken : (kind : DataType) (own : ArrayMembers) (children : List ArrayTree) (i : ℕ) → KindOk kind → HasForm (form_of kind) → Numbered (bytes own 1)
    → StoredWithin (layout_of kind) own (first own + i)
    → texts_wrong kind own ≡ None → i < items own → is_valid own i ≡ true
    → push_fault kind [] (item kind [] own children i) ≡ None
item-taken (kinds.Decimal precision scale false) own children i ok flat small there texts inside valid =
    decimal-taken false precision (places scale) (stored_number 16 true own i) (signed-range 16 (number_at (bytes own 1) ((first own + i) * 16) 16) (omega arith))
item-taken (kinds.Decimal precision scale true) own children i ok flat small there texts inside valid = absurd flat
item-taken kinds.IntervalDayTime own children i ok flat small there texts inside valid = absurd flat
item-taken kinds.IntervalMonthDayNano own children i ok flat small there texts inside valid = absurd flat
item-taken kind own children i ok flat small there texts inside valid =
    stored-taken (storage_of kind) own children i (form-ok kind ok) flat small there (text-if kind own i texts inside valid)

pub null-taken : (kind : DataType) → push_fault kind [] Null ≡ None
null-taken kind = refl

-- ---- an item of an array

texts-right : (kind : DataType) (array : ArrayTree) → LayoutOk (Live kind no_trees absent) array → texts_wrong kind (members_of array) ≡ None
texts-right kind array lawful = root-met (level_in kind no_trees absent) array lawful rules.NotText

by-valid : (kind : DataType) (own : ArrayMembers) (children : List ArrayTree) (i : ℕ) (valid : Bool) → KindOk kind → HasForm (form_of kind)
    → Numbered (bytes own 1) → StoredWithin (layout_of kind) own (first own + i) → texts_wrong kind own ≡ None → i < items own → is_valid own i ≡ valid
    → push_fault kind [] (if valid then item kind [] own children i else Null) ≡ None
by-valid kind own children i true ok flat small there texts inside valid = item-taken kind own children i ok flat small there texts inside valid
by-valid kind own children i false ok flat small there texts inside valid = null-taken kind

pub at-taken : (kind : DataType) (array : ArrayTree) (i : ℕ) → KindOk kind → HasForm (form_of kind) → Numbered (bytes (members_of array) 1)
    → LayoutOk (Live kind no_trees absent) array
    → ItemsHold (Live kind no_trees absent) array → i < tree_items array
    → push_fault kind [] (value_at (Live kind no_trees absent) array i) ≡ None
at-taken kind Released i ok flat small lawful holds inside = absurd (omega (arith, inside))
at-taken kind (Live own children dictionary) i ok flat small lawful holds inside =
    by-valid kind own (tree_list children) i (is_valid own i) ok flat small (holds.stored i inside)
    (texts-right kind (Live own children dictionary) lawful) inside refl
