-- The buffers of values and what they hold, layout by layout.
use Rattle.std.proofs.Common.{◌≡◌, ◌∙◌, ℕ, zero, suc, ◌+◌, ◌-◌, ◌*◌, ◌/◌, ◌^◌, ◌<◌, ◌≤◌, ℤ, pos, Bool, true, false, List, [], ◌∷◌, length, map, get_or, take}
use Rattle.std.proofs.Common.{drop, refl, ap, arith, Option, None, Some}
use Rattle.std.specs.Prelude.{if◌then◌else◌, int_lt, nat_lt, ◌==◌, ◌||◌}
use Rattle.std.proofs.lemmas.List.{get_or-map, length-map}
use Rattle.std.specs.List.{All, concat, flat_map}
use Rattle.raw_array.specs.promise.Members.{Buffer}
use Rattle.data_types.specs.promise.Value.{Value, Null}
use Rattle.data_types.specs.promise.Packed.{bit, le_bytes, le_number, number_at, offset_width}
use Rattle.col_build.specs.promise.Encoding.{bit_bytes, bit_value, if_some, is_set, stored_item}
use Rattle.col_build.specs.Encoding.{offset_bytes}
use Rattle.data_types.specs.promise.Value.{bytes_of}
use Rattle.layout_rules.specs.promise.Layout.{bytes, data_of, end, natural, offset_in, offsets_need}
use Rattle.layout_rules.specs.Layout.{stored_bytes}
use Rattle.layout_rules.specs.promise.Rules.{fault, first_below, is_negative, offsets_fall}
use Rattle.layout_rules.specs.Rules.{buffer_short, offset_falls}
use Rattle.layout_rules.specs.declared.layout.Layout.TheVariants.{ByOffsets, FixedWidth, TruthBits}
use Rattle.layout_rules.specs.declared.rule.Numbers.{Numbers}
use Rattle.arr_export.specs.promise.ArrayTrees.{made_if}
use Rattle.arr_export.proofs.BitBytes.{bits-of, length-bit_bytes}
use Rattle.arr_export.proofs.NodeRules.{BuffersOk, absent-none, below-none, both-none, data-back, long-data, long-if, no-fault, nulls-fit, short-none, there-if}
use Rattle.arr_export.proofs.NodeRules.{validity-fits}
use Rattle.arr_export.proofs.Nulls.{own}
use Rattle.arr_export.proofs.Offsets.{item-between, length-offset_bytes, limit, offset-first, offset-last, offsets-rise}
use Rattle.arr_export.proofs.Pieces.{length-pieces, number-back, piece-at}

from-start : (i : ℕ) → 0 + i ≡ i
from-start i = omega arith

-- ---- items of one size, in place

abbrev pub in_place : ℕ → List Value → List (Option Buffer)
in_place width values = made_if (if_some (flat_map (stored_item width) values)) ∷ []

module _ (width : ℕ) (values : List Value) (sized : All (λ value. length (stored_item width value) ≡ width) values) where
  pub fixed-ok : BuffersOk (FixedWidth width) (own values (in_place width values))
  fixed-ok =
      let members = own values (in_place width values) in
      let size : (0 + length values) * width ≤ length (flat_map (stored_item width) values) =
      omega (arith, length-pieces (stored_item width) width values sized) in
      record {
        count = refl;
        there = absent-none (FixedWidth width) members 0 (there-if (flat_map (stored_item width) values) ((0 + length values) * width) size);
        long = both-none (buffer_short (FixedWidth width) members 0) (buffer_short (FixedWidth width) members 1)
            (validity-fits (FixedWidth width) values (in_place width values))
            (short-none (FixedWidth width) members 1 (long-data _ (flat_map (stored_item width) values) ((0 + length values) * width) size));
        rise = refl;
        nulls = nulls-fit values (in_place width values);
        views = refl;
        prefixes = refl;
      }

  pub stored-there : (i : ℕ) → i < length values → stored_bytes width (own values (in_place width values)) i ≡ stored_item width (get_or values i Null)
  stored-there i lt =
      ap (λ k. take width (drop (k * width) (bytes (own values (in_place width values)) 1))) (from-start i)
      ∙ ap (λ (data' : List ℕ). take width (drop (i * width) data')) (data-back (flat_map (stored_item width) values))
      ∙ piece-at (stored_item width) width values i Null sized lt

  pub number-stored : (i number : ℕ) → i < length values → stored_item width (get_or values i Null) ≡ le_bytes width number → number < 2 ^ (8 * width)
      → number_at (bytes (own values (in_place width values)) 1) ((0 + i) * width) width ≡ number
  number-stored i number lt is small = ap le_number (stored-there i lt ∙ is) ∙ number-back width number small

-- ---- a bit an item

abbrev pub as_bits : List Value → List (Option Buffer)
as_bits values = made_if (if_some (bit_bytes (map is_set values))) ∷ []

pub bits-ok : (values : List Value) → BuffersOk TruthBits (own values (as_bits values))
bits-ok values =
    let members = own values (as_bits values) in
    let size : (0 + length values + 7) / 8 ≤ length (bit_bytes (map is_set values)) =
    omega (arith, length-bit_bytes (map is_set values), length-map values is_set) in
    record {
      count = refl;
      there = absent-none TruthBits members 0 (there-if (bit_bytes (map is_set values)) ((0 + length values + 7) / 8) size);
      long = both-none (buffer_short TruthBits members 0) (buffer_short TruthBits members 1) (validity-fits TruthBits values (as_bits values))
          (short-none TruthBits members 1 (long-data _ (bit_bytes (map is_set values)) ((0 + length values + 7) / 8) size));
      rise = refl;
      nulls = nulls-fit values (as_bits values);
      views = refl;
      prefixes = refl;
    }

pub bit-there : (values : List Value) (i : ℕ) → i < length values
    → bit (bytes (own values (as_bits values)) 1) (0 + i) ≡ bit_value (is_set (get_or values i Null))
bit-there values i lt =
    ap (bit (bytes (own values (as_bits values)) 1)) (from-start i)
    ∙ ap (λ (data' : List ℕ). bit data' i) (data-back (bit_bytes (map is_set values)))
    ∙ bits-of (map is_set values) i (omega (arith, length-map values is_set))
    ∙ ap bit_value (get_or-map is_set values i Null false lt)

-- ---- items between offsets

abbrev pub by_offsets : Bool → List Value → List (Option Buffer)
by_offsets wide values = made_if (Some (offset_bytes wide (map bytes_of values))) ∷ made_if (if_some (concat (map bytes_of values))) ∷ []

offsets-need : (wide : Bool) (n : ℕ) → offsets_need wide n ≤ (n + 1) * offset_width wide
offsets-need wide zero = omega arith
offsets-need wide (suc n) = omega arith

nothing-or : (none : Bool) (n most : ℕ) → n ≤ most → (if none then 0 else n) ≤ most
nothing-or true n most le = omega arith
nothing-or false n most le = le

none-or : (none : Bool) (found : Option Numbers) → found ≡ None → (if none then None else found) ≡ None
none-or true found e = refl
none-or false found e = e

module _ (wide : Bool) (values : List Value) (small : length (concat (map bytes_of values)) < limit wide) where
  count : length (map bytes_of values) ≡ length values
  count = length-map values bytes_of

  last-is : offset_in wide (offset_bytes wide (map bytes_of values)) (0 + length values) ≡ pos (length (concat (map bytes_of values)))
  last-is =
      let place : 0 + length values ≡ length (map bytes_of values) = omega (arith, count) in
      ap (offset_in wide (offset_bytes wide (map bytes_of values))) place ∙ offset-last wide (map bytes_of values) small

  rise-at : (i : ℕ) → i < length values → offset_falls wide (own values (by_offsets wide values)) i ≡ None
  rise-at i lt =
      let offsets = offset_bytes wide (map bytes_of values) in
      no-fault (int_lt (offset_in wide offsets (0 + i + 1)) (offset_in wide offsets (0 + i))) i (offset_in wide offsets (0 + i))
      (offset_in wide offsets (0 + i + 1))
      (ap (λ (k : ℕ). int_lt (offset_in wide offsets (k + 1)) (offset_in wide offsets k)) (from-start i)
      ∙ offsets-rise wide (map bytes_of values) small i (omega (arith, count)))

  rise-all : offsets_fall wide (own values (by_offsets wide values)) ≡ None
  rise-all =
      let members = own values (by_offsets wide values) in
      none-or (end members == 0) _
      (ap (λ (z : ℤ). if is_negative z then fault 0 (pos 0) z else first_below (offset_falls wide members) (length values))
      (offset-first wide (map bytes_of values) small)
      ∙ below-none (offset_falls wide members) (length values) rise-at)

  -- ---- offsets that are lawful, and the data between them
  pub offsets-ok : BuffersOk (ByOffsets wide) (own values (by_offsets wide values))
  offsets-ok =
      let members = own values (by_offsets wide values) in
      let offsets = offset_bytes wide (map bytes_of values) in
      let all = concat (map bytes_of values) in
      let long : offsets_need wide (0 + length values) ≤ length offsets =
      omega (
        arith,
        offsets-need wide (0 + length values),
        length-offset_bytes wide (map bytes_of values) small,
        ap (λ (n : ℕ). (n + 1) * offset_width wide) count,
        ap (λ (n : ℕ). (n + 1) * offset_width wide) (from-start (length values)),
      ) in
      let last : natural (offset_in wide offsets (0 + length values)) ≤ length all = omega (arith, ap natural last-is) in
      let none = (0 + length values == 0) || nat_lt (length offsets) (offsets_need wide (0 + length values)) in
      let most : (if none then 0 else natural (offset_in wide offsets (0 + length values))) ≤ length all = nothing-or none _ (length all) last in
      record {
        count = refl;
        there = absent-none (ByOffsets wide) members 1 (there-if all _ most);
        long = both-none (first_below (buffer_short (ByOffsets wide) members) 2) (buffer_short (ByOffsets wide) members 2)
            (both-none (buffer_short (ByOffsets wide) members 0) (buffer_short (ByOffsets wide) members 1)
            (validity-fits (ByOffsets wide) values (by_offsets wide values))
            (short-none (ByOffsets wide) members 1 (long-if true (length offsets) (offsets_need wide (0 + length values)) long)))
            (short-none (ByOffsets wide) members 2 (long-data _ all _ most));
        rise = rise-all;
        nulls = nulls-fit values (by_offsets wide values);
        views = refl;
        prefixes = refl;
      }

  pub data-there : (i : ℕ) → i < length values → data_of wide (own values (by_offsets wide values)) i ≡ bytes_of (get_or values i Null)
  data-there i lt =
      let offsets = offset_bytes wide (map bytes_of values) in
      let all = concat (map bytes_of values) in
      let there =
      λ (data' : List ℕ) (k : ℕ). take (natural (offset_in wide offsets (k + 1)) - natural (offset_in wide offsets k))
      (drop (natural (offset_in wide offsets k)) data') in
      ap (there (bytes (own values (by_offsets wide values)) 2)) (from-start i)
      ∙ ap (λ (data' : List ℕ). there data' i) (data-back all)
      ∙ item-between wide (map bytes_of values) small i (omega (arith, count))
      ∙ get_or-map bytes_of values i Null [] lt
