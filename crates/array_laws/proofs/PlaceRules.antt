-- The rules that say something of each item by the buffers' bytes, their number and the item's place alone.
use Rattle.std.proofs.Common.{◌≡◌, ◌∙◌, ℕ, ◌+◌, ◌-◌, ◌*◌, ◌/◌, ◌≤◌, ℤ, pos, Bool, true, false, not, ◌&&◌, ◌==◌, List, length, take, drop, Option, None, Some}
use Rattle.std.proofs.Common.{refl, sym, arith}
use Rattle.std.specs.Prelude.{if◌then◌else◌, int_lt, nat_lt}
use Rattle.std.specs.Str.{is_utf8}
use Rattle.std.specs.Str.Lossy.{utf8_valid_len}
use Rattle.data_types.specs.declared.kind.DataType.{DataType}
use Rattle.data_types.specs.declared.kind.DataType.TheVariants as kinds
use Rattle.data_types.specs.promise.Packed.{meant, number_at}
use Rattle.raw_array.specs.promise.Members.{ArrayMembers}
use Rattle.layout_rules.specs.declared.layout.Layout.{Layout}
use Rattle.layout_rules.specs.declared.layout.Layout.TheVariants.{NoBuffers, FixedWidth, TruthBits, ByOffsets, ListOffsets, FixedItems, ByChildren, Views}
use Rattle.layout_rules.specs.declared.rule.Numbers.{Numbers}
use Rattle.layout_rules.specs.promise.Layout.{buffer, bytes_or_none, data_place, first, is_valid_by, items, natural, offset_in, view_width}
use Rattle.layout_rules.specs.promise.Views.{is_long}
use Rattle.layout_rules.specs.promise.Rules.{fault, fault_if, first_below, index_wrong, indices_wrong, is_negative, is_outside}
use Rattle.layout_rules.specs.Rules.{misplaced, not_text, offset_falls, view_not_text}
use Rattle.layout_rules.specs.promise.Rules.{prefix_wrong, prefixes_wrong, texts_wrong, views_misplaced}
use Rattle.array_laws.specs.Shown.{shown_members}
use Rattle.array_laws.proofs.NodeParts.{below-part, other-numbers}
use Rattle.array_laws.proofs.ShownParts.{SameBytes, funext, shown-bytes}

abbrev pub Buffers : Type 0
Buffers = ℕ → Option (List ℕ)

-- what is said of the item at a place: of the buffers' bytes, their number, the place, and the number to tell
abbrev Said : Type 0
Said = Buffers → ℕ → ℕ → ℕ → Option Numbers

abbrev pub ItemRule : Type 0
ItemRule = ArrayMembers → ℕ → Option Numbers

-- whether it fails doesn't depend on the number to tell
pub record ByPlace (rule : ItemRule) : Type 0 where
  pub said : Said
  pub is_said : (own : ArrayMembers) (i : ℕ) → rule own i ≡ said (buffer own) (length own.buffers) (first own + i) i
  pub steady : (bs : Buffers) (n p i j : ℕ) → said bs n p i ≡ None → said bs n p j ≡ None

pub below-same : (f g : ℕ → Option Numbers) (n : ℕ) → ((i : ℕ) → f i ≡ g i) → first_below f n ≡ first_below g n
below-same f g n same = λ t. first_below (funext {f = f} {g = g} same t) n

-- ---- the rules one by one

pub falls-by_place : (wide : Bool) → ByPlace (offset_falls wide)
falls-by_place wide = record {
  said =
      λ bs n p i. fault_if (int_lt (offset_in wide (bytes_or_none (bs 1)) (p + 1)) (offset_in wide (bytes_or_none (bs 1)) p)) i
      (offset_in wide (bytes_or_none (bs 1)) p) (offset_in wide (bytes_or_none (bs 1)) (p + 1));
  is_said = λ own i. refl;
  steady = λ bs n p i j e. other-numbers (int_lt (offset_in wide (bytes_or_none (bs 1)) (p + 1)) (offset_in wide (bytes_or_none (bs 1)) p)) i j _ _ _ _ e;
}

abbrev text_said : Bool → List ℕ → ℕ → Option Numbers
text_said valid text i = fault_if (valid && not (is_utf8 text)) i (pos (utf8_valid_len text)) (pos (length text))

text-steady : (valid : Bool) (text : List ℕ) (i j : ℕ) → text_said valid text i ≡ None → text_said valid text j ≡ None
text-steady valid text i j e = other-numbers (valid && not (is_utf8 text)) i j _ _ _ _ e

abbrev pub data_at : Bool → Buffers → ℕ → List ℕ
data_at wide bs p =
    let here = natural (offset_in wide (bytes_or_none (bs 1)) p) in
    let next = natural (offset_in wide (bytes_or_none (bs 1)) (p + 1)) in
    take (next - here) (drop here (bytes_or_none (bs 2)))

text-by_place : (wide : Bool) → ByPlace (not_text wide)
text-by_place wide = record {
  said = λ bs n p i. text_said (is_valid_by (bs 0) p) (data_at wide bs p) i;
  is_said = λ own i. refl;
  steady = λ bs n p i j. text-steady (is_valid_by (bs 0) p) (data_at wide bs p) i j;
}

index-by_place : (width : ℕ) (signed : Bool) (total : ℤ) → ByPlace (λ own i. index_wrong width signed own total i)
index-by_place width signed total = record {
  said = λ bs n p i.
      let index = meant width signed (number_at (bytes_or_none (bs 1)) (p * width) width) in
      fault_if (is_valid_by (bs 0) p && is_outside total index) i index total;
  is_said = λ own i. refl;
  steady =
      λ bs n p i j e. other-numbers (is_valid_by (bs 0) p && is_outside total
      (meant width signed (number_at (bytes_or_none (bs 1)) (p * width) width))) i j _ _ _ _ e;
}

-- ---- views

abbrev word_at : Buffers → ℕ → ℕ → ℕ
word_at bs p word = number_at (bytes_or_none (bs 1)) ((p * 4 + word) * 4) 4

abbrev length_at : Buffers → ℕ → ℤ
length_at bs p = meant 4 true (word_at bs p 0)

abbrev buffer_at : Buffers → ℕ → ℤ
buffer_at bs p = meant 4 true (word_at bs p 2)

abbrev from_at : Buffers → ℕ → ℤ
from_at bs p = meant 4 true (word_at bs p 3)

abbrev pub view_at : Buffers → ℕ → List ℕ
view_at bs p =
    if is_long (length_at bs p) then take (natural (length_at bs p))
    (drop (natural (from_at bs p)) (bytes_or_none (bs (data_place (natural (buffer_at bs p))))))
    else take (natural (length_at bs p)) (drop (p * view_width + 4) (bytes_or_none (bs 1)))

-- what the lengths behind the last of this many buffers say of a data buffer
abbrev pub size_at : Buffers → ℕ → ℕ → ℕ
size_at bs n k =
    let lengths = bytes_or_none (bs (data_place (n - 3))) in
    if nat_lt (length lengths) ((n - 3) * 8) then 0 else natural (offset_in true lengths k)

abbrev named_said : Buffers → ℕ → ℕ → ℕ → Option Numbers
named_said bs n p i =
    let to = natural (from_at bs p) + natural (length_at bs p) in
    let size = size_at bs n (natural (buffer_at bs p)) in
    if is_outside (pos (n - 3)) (buffer_at bs p) then fault i (buffer_at bs p) (pos (n - 3))
    else if is_negative (from_at bs p) then fault i (from_at bs p) (pos 0)
    else fault_if (nat_lt size to) i (pos to) (pos size)

abbrev outside_said : Buffers → ℕ → ℕ → ℕ → Option Numbers
outside_said bs n p i =
    if is_negative (length_at bs p) then fault i (length_at bs p) (pos 0)
    else if is_long (length_at bs p) then named_said bs n p i
    else None

-- ---- the rules of views
if-steady : (test : Bool) (a b : Option Numbers) → (a ≡ None → b ≡ None) → (if test then a else None) ≡ None → (if test then b else None) ≡ None
if-steady true a b step e = step e
if-steady false a b step e = refl

fault-steady : (test : Bool) (i j : ℕ) (left right : ℤ) (a b : Option Numbers) → (a ≡ None → b ≡ None) → (if test then fault i left right else a) ≡ None
    → (if test then fault j left right else b) ≡ None
fault-steady true i j left right a b step e = absurd (cc)
fault-steady false i j left right a b step e = step e

named-steady : (bs : Buffers) (n p i j : ℕ) → named_said bs n p i ≡ None → named_said bs n p j ≡ None
named-steady bs n p i j =
    let to = natural (from_at bs p) + natural (length_at bs p) in
    let size = size_at bs n (natural (buffer_at bs p)) in
    fault-steady (is_outside (pos (n - 3)) (buffer_at bs p)) i j (buffer_at bs p) (pos (n - 3)) _ _
    (fault-steady (is_negative (from_at bs p)) i j (from_at bs p) (pos 0) _ _ (λ e. other-numbers (nat_lt size to) i j _ _ _ _ e))

outside-steady : (bs : Buffers) (n p i j : ℕ) → outside_said bs n p i ≡ None → outside_said bs n p j ≡ None
outside-steady bs n p i j =
    fault-steady (is_negative (length_at bs p)) i j (length_at bs p) (pos 0) _ _
    (if-steady (is_long (length_at bs p)) (named_said bs n p i) (named_said bs n p j) (named-steady bs n p i j))

place-by_place : ByPlace misplaced
place-by_place = record {
  said = λ bs n p i. if is_valid_by (bs 0) p then outside_said bs n p i else None;
  is_said = λ own i. refl;
  steady = λ bs n p i j. if-steady (is_valid_by (bs 0) p) (outside_said bs n p i) (outside_said bs n p j) (outside-steady bs n p i j);
}

prefix-by_place : ByPlace prefix_wrong
prefix-by_place = record {
  said = λ bs n p i.
      let begin = number_at (view_at bs p) 0 4 in
      fault_if (is_valid_by (bs 0) p && is_long (length_at bs p) && not (word_at bs p 1 == begin)) i (pos (word_at bs p 1)) (pos begin);
  is_said = λ own i. refl;
  steady =
      λ bs n p i j e. other-numbers (is_valid_by (bs 0) p && is_long (length_at bs p) && not (word_at bs p 1 == number_at (view_at bs p) 0 4)) i j _ _ _ _ e;
}

view_text-by_place : ByPlace view_not_text
view_text-by_place = record {
  said = λ bs n p i. text_said (is_valid_by (bs 0) p) (view_at bs p) i;
  is_said = λ own i. refl;
  steady = λ bs n p i j. text-steady (is_valid_by (bs 0) p) (view_at bs p) i j;
}

-- ---- a node's rule that is one of these, or none

abbrev first_of : Option ItemRule → ArrayMembers → Option Numbers
first_of None own = None
first_of (Some rule) own = first_below (rule own) (items own)

abbrev ByPlaceIf : Option ItemRule → Type 0
ByPlaceIf None = Unit {0}
ByPlaceIf (Some rule) = ByPlace rule

pub record EachByPlace (wrong : ArrayMembers → Option Numbers) : Type 0 where
  pub rule : Option ItemRule
  pub by_place : ByPlaceIf rule
  pub is_first : (own : ArrayMembers) → wrong own ≡ first_of rule own

no-rule : EachByPlace (λ own. None)
no-rule = record { rule = None; by_place = tt; is_first = λ own. refl }

one-rule : (rule : ItemRule) → ByPlace rule → EachByPlace (λ own. first_below (rule own) (items own))
one-rule rule by = record { rule = Some rule; by_place = by; is_first = λ own. refl }

pub places-by_place : (l : Layout) → EachByPlace (views_misplaced l)
places-by_place NoBuffers = no-rule
places-by_place (FixedWidth width) = no-rule
places-by_place TruthBits = no-rule
places-by_place (ByOffsets wide) = no-rule
places-by_place (ListOffsets wide) = no-rule
places-by_place (FixedItems size) = no-rule
places-by_place ByChildren = no-rule
places-by_place Views = one-rule misplaced place-by_place

pub prefixes-by_place : (l : Layout) → EachByPlace (prefixes_wrong l)
prefixes-by_place NoBuffers = no-rule
prefixes-by_place (FixedWidth width) = no-rule
prefixes-by_place TruthBits = no-rule
prefixes-by_place (ByOffsets wide) = no-rule
prefixes-by_place (ListOffsets wide) = no-rule
prefixes-by_place (FixedItems size) = no-rule
prefixes-by_place ByChildren = no-rule
prefixes-by_place Views = one-rule prefix_wrong prefix-by_place

-- ---- texts and indices
pub texts-by_place : (kind : DataType) → EachByPlace (texts_wrong kind)
texts-by_place (kinds.Utf8 wide) = one-rule (not_text wide) (text-by_place wide)
texts-by_place kinds.Utf8View = one-rule view_not_text view_text-by_place
texts-by_place _ = no-rule

pub indices-by_place : (kind : DataType) (total : Option ℤ) → EachByPlace (λ own. indices_wrong kind own total)
indices-by_place kind None = no-rule
indices-by_place (kinds.Int bits signed) (Some total) = one-rule (λ own i. index_wrong (bits / 8) signed own total i) (index-by_place (bits / 8) signed total)
indices-by_place _ (Some total) = no-rule

-- ---- they see neither amounts nor windows

-- the second node's window is `len` items of the first one's, from item `off` on
pub record IsPart (m w : ArrayMembers) (off len : ℕ) : Type 0 where
  pub same : SameBytes m w
  pub first_is : first w ≡ first m + off
  pub items_are : items w ≡ len
  pub fits : off + len ≤ items m

module _ (m w : ArrayMembers) (off len : ℕ) (p : IsPart m w off len) where
  -- a rule by place says the same of an item in both
  item-part : (rule : ItemRule) → ByPlace rule → (i : ℕ) → rule m (off + i) ≡ None → rule w i ≡ None
  item-part rule by i e =
      let q : first w + i ≡ first m + (off + i) = omega (arith, p.first_is) in
      by.is_said w i ∙ (λ t. by.said (λ k. p.same.bytes k t) (p.same.count t) (q t) i)
      ∙ by.steady (buffer m) (length m.buffers) (first m + (off + i)) (off + i) i (sym (by.is_said m (off + i)) ∙ e)

  pub rule-part : (rule : ItemRule) → ByPlace rule → first_below (rule m) (items m) ≡ None → first_below (rule w) (items w) ≡ None
  rule-part rule by e = below-part (rule m) (rule w) (items m) off (items w) (omega (arith, p.items_are, p.fits)) (λ i lt. item-part rule by i) e

  first-part : (rule : Option ItemRule) → ByPlaceIf rule → first_of rule m ≡ None → first_of rule w ≡ None
  first-part None by e = refl
  first-part (Some rule) by e = rule-part rule by e

  pub each-part : (wrong : ArrayMembers → Option Numbers) → EachByPlace wrong → wrong m ≡ None → wrong w ≡ None
  each-part wrong by e = by.is_first w ∙ first-part by.rule by.by_place (sym (by.is_first m) ∙ e)

rule-shown : (rule : ItemRule) → ByPlace rule → (m : ArrayMembers) (i : ℕ) → rule (shown_members m) i ≡ rule m i
rule-shown rule by m i =
    by.is_said (shown_members m) i ∙ (λ t. by.said (λ k. (shown-bytes m).bytes k t) ((shown-bytes m).count t) (first m + i) i) ∙ sym (by.is_said m i)

first-shown : (rule : Option ItemRule) → ByPlaceIf rule → (m : ArrayMembers) → first_of rule (shown_members m) ≡ first_of rule m
first-shown None by m = refl
first-shown (Some rule) by m = below-same (rule (shown_members m)) (rule m) (items m) (rule-shown rule by m)

pub each-shown : (wrong : ArrayMembers → Option Numbers) → EachByPlace wrong → (m : ArrayMembers) → wrong (shown_members m) ≡ wrong m
each-shown wrong by m = by.is_first (shown_members m) ∙ first-shown by.rule by.by_place m ∙ sym (by.is_first m)
