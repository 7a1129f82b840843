-- The rules that an array must meet at a node.
use Rattle.std.specs.Prelude.{ℕ, ℤ, pos, negsuc, Bool, true, false, not, ◌==◌, ◌&&◌, ◌||◌, nat_lt, int_lt, if◌then◌else◌, ◌+◌, ◌*◌, ◌/◌, ◌^◌, zero, suc}
use Rattle.std.specs.Prelude.{is_some, List, [], ◌∷◌, length, Option, Some, None}
use Rattle.std.specs.Option.{option_or}
use Rattle.std.specs.Ordering.{int_eq}
use Rattle.std.specs.Str.{is_utf8}
use Rattle.std.specs.Str.Lossy.{utf8_valid_len}
use Rattle.data_types.specs.declared.kind.DataType.{DataType}
use Rattle.data_types.specs.declared.kind.DataType.TheVariants as kinds
use Rattle.data_types.specs.promise.Packed.{number_at}
use Rattle.tree_model.specs.promise.TreeData.{Released, Live}
use Rattle.raw_array.specs.promise.Members.{ArrayMembers, ArrayTree}
use Rattle.layout_rules.specs.declared.rule.LayoutRule.{LayoutRule}
use Rattle.layout_rules.specs.declared.rule.LayoutRule.TheVariants as rules
use Rattle.layout_rules.specs.declared.rule.Numbers.{Numbers}
use Rattle.data_types.specs.promise.KindTrees.{KindTree}
use Rattle.layout_rules.specs.promise.Layout.{is_valid, layout_of, buffer_count, need, bytes, buffer, offset, offset_in, first, items, end, natural, data_of}
use Rattle.layout_rules.specs.promise.Layout.{data_buffers, data_length, stored_number}
use Rattle.layout_rules.specs.promise.Views.{view_length, view_buffer, view_offset, view_data, is_long, view_number}
use Rattle.layout_rules.specs.declared.layout.Layout.{Layout}
use Rattle.layout_rules.specs.declared.layout.Layout.TheVariants.{NoBuffers, ByOffsets, ListOffsets, FixedItems, ByChildren, Views}

-- A live node with its type: the members, the parts, and what is below the type.
pub record Node : Type 0 where
  pub kind : DataType
  pub kids : List KindTree
  pub dict : Option KindTree
  pub own : ArrayMembers
  pub children : List ArrayTree
  pub dictionary : Option ArrayTree

abbrev pub fault : ℕ → ℤ → ℤ → Option Numbers
fault place left right = Some (record { place = place; left = left; right = right })

abbrev pub fault_if : Bool → ℕ → ℤ → ℤ → Option Numbers
fault_if true place left right = fault place left right
fault_if false place left right = None

abbrev pub is_negative : ℤ → Bool
is_negative (pos n) = false
is_negative (negsuc n) = true

-- a number that has to be another
abbrev pub count_wrong : ℕ → ℕ → Option Numbers
count_wrong found needed = fault_if (not (found == needed)) 0 (pos found) (pos needed)

abbrev pub one_if : {X : Type 0} → Option X → ℕ
one_if (Some x) = 1
one_if None = 0

-- ---- buffers
-- an absent buffer of which this many bytes are needed
abbrev pub missing : ℕ → ArrayMembers → ℕ → Option Numbers
missing needed own k = fault_if (not (is_some (buffer own k)) && nat_lt 0 needed) k (pos 0) (pos needed)

-- a present buffer that has fewer bytes than are needed
abbrev pub too_short : ℕ → ArrayMembers → ℕ → Option Numbers
too_short needed own k =
    let found = length (bytes own k) in
    fault_if (is_some (buffer own k) && nat_lt found needed) k (pos found) (pos needed)

-- an absent buffer, other than validity, of which something is needed
abbrev pub buffer_absent : Layout → ArrayMembers → ℕ → Option Numbers
buffer_absent layout own zero = None
buffer_absent layout own (suc k) = missing (need layout own (suc k)) own (suc k)

-- the first fault of the numbers below n
abbrev pub first_below : (ℕ → Option Numbers) → ℕ → Option Numbers
first_below f zero = None
first_below f (suc n) = option_or (first_below f n) (f n)

-- ---- offsets
-- item i, counted from a place of the offsets on: its offset is above the next one
abbrev pub falls_in : Bool → List ℕ → ℕ → ℕ → Option Numbers
falls_in wide offsets start i =
    let here = offset_in wide offsets (start + i) in
    let next = offset_in wide offsets (start + i + 1) in
    fault_if (int_lt next here) i here next

-- an offset below 0 at the first item, or the first item whose offset is above the next one
abbrev pub offsets_fall : Bool → ArrayMembers → Option Numbers
offsets_fall wide own =
    let at_first = offset wide own (first own) in
    if end own == 0 then None
    else if is_negative at_first then fault 0 (pos 0) at_first
    else first_below (falls_in wide (bytes own 1) (first own)) (items own)

abbrev pub is_behind_offsets : Layout → Option Bool
is_behind_offsets (ByOffsets wide) = Some wide
is_behind_offsets (ListOffsets wide) = Some wide
is_behind_offsets _ = None

abbrev pub offsets_fall_if : Option Bool → ArrayMembers → Option Numbers
offsets_fall_if None own = None
offsets_fall_if (Some wide) own = offsets_fall wide own

-- ---- nulls
-- how many of the window's first n items are null
abbrev pub null_total : ArrayMembers → ℕ → ℕ
null_total own zero = 0
null_total own (suc n) = null_total own n + (if is_valid own n then 0 else 1)

-- how many items of the window are null: all of them where the layout has no buffer
abbrev pub null_items : Layout → ArrayMembers → ℕ
null_items NoBuffers own = items own
null_items _ own = null_total own (items own)

abbrev pub null_count_wrong : ArrayMembers → Option Numbers
null_count_wrong own =
    let nulls = pos (null_total own (items own)) in
    fault_if (not (int_eq own.null_count (negsuc 0)) && not (int_eq own.null_count nulls)) 0 own.null_count nulls

-- a count of nulls is not checked where the layout has no buffer
abbrev pub null_count_wrong_in : Layout → ArrayMembers → Option Numbers
null_count_wrong_in NoBuffers own = None
null_count_wrong_in _ own = null_count_wrong own

-- ---- children

-- how many items an array needs of each child
abbrev pub items_need : Layout → ArrayMembers → ℕ
items_need (ListOffsets wide) own = if end own == 0 then 0 else natural (offset wide own (end own))
items_need (FixedItems size) own = end own * size
items_need ByChildren own = end own
items_need _ own = 0

-- the length of a live array
abbrev pub live_length : ArrayTree → Option ℤ
live_length Released = None
live_length (Live own children dictionary) = Some own.length

-- a live child that has too few items; a released one fails at its own node
abbrev pub short_child : ℕ → ℕ → Option ℤ → Option Numbers
short_child needed k None = None
short_child needed k (Some found) = fault_if (int_lt found (pos needed)) k found (pos needed)

-- the first child that is too short
abbrev pub child_short : ℕ → ℕ → List ArrayTree → Option Numbers
child_short needed k [] = None
child_short needed k (child ∷ rest) = option_or (short_child needed k (live_length child)) (child_short needed (suc k) rest)

-- ---- items

-- a valid text that isn't UTF-8, with the length of its longest valid prefix and its own
abbrev pub bad_text : ArrayMembers → ℕ → List ℕ → Option Numbers
bad_text own i text = fault_if (is_valid own i && not (is_utf8 text)) i (pos (utf8_valid_len text)) (pos (length text))

abbrev pub texts_wrong : DataType → ArrayMembers → Option Numbers
texts_wrong (kinds.Utf8 wide) own = first_below (λ i. bad_text own i (data_of wide own i)) (items own)
texts_wrong kinds.Utf8View own = first_below (λ i. bad_text own i (view_data own i)) (items own)
texts_wrong _ own = None

-- an index, valid or not, that is no place of a dictionary of this many items
abbrev pub is_outside : ℤ → ℤ → Bool
is_outside total index = is_negative index || not (int_lt index total)

-- a valid index that is no place of the dictionary
abbrev pub index_wrong : ℕ → Bool → ArrayMembers → ℤ → ℕ → Option Numbers
index_wrong width signed own total i =
    let index = stored_number width signed own i in
    fault_if (is_valid own i && is_outside total index) i index total

-- indices into a live dictionary; a released one fails at its own node
abbrev pub indices_wrong : DataType → ArrayMembers → Option ℤ → Option Numbers
indices_wrong kind own None = None
indices_wrong (kinds.Int bits signed) own (Some total) = first_below (index_wrong (bits / 8) signed own total) (items own)
indices_wrong _ own (Some total) = None

-- ---- views

-- a long view that names no data: there is no such buffer, it begins before 0, or it ends behind the buffer's length
abbrev pub named_outside : ArrayMembers → ℕ → Option Numbers
named_outside own i =
    let buffer = view_buffer own i in
    let from = view_offset own i in
    let to = natural from + natural (view_length own i) in
    let size = data_length own (natural buffer) in
    if is_outside (pos (data_buffers own)) buffer then fault i buffer (pos (data_buffers own))
    else if is_negative from then fault i from (pos 0)
    else fault_if (nat_lt size to) i (pos to) (pos size)

-- a view with a length below 0, or a long one that names no data
abbrev pub view_outside : ArrayMembers → ℕ → Option Numbers
view_outside own i =
    let size = view_length own i in
    if is_negative size then fault i size (pos 0)
    else if is_long size then named_outside own i
    else None

abbrev pub views_misplaced : Layout → ArrayMembers → Option Numbers
views_misplaced Views own = first_below (λ i. if is_valid own i then view_outside own i else None) (items own)
views_misplaced _ own = None

-- a valid long view whose prefix isn't how its data begin
abbrev pub prefix_wrong : ArrayMembers → ℕ → Option Numbers
prefix_wrong own i =
    let begin = number_at (view_data own i) 0 4 in
    fault_if (is_valid own i && is_long (view_length own i) && not (view_number own i 1 == begin)) i (pos (view_number own i 1)) (pos begin)

abbrev pub prefixes_wrong : Layout → ArrayMembers → Option Numbers
prefixes_wrong Views own = first_below (prefix_wrong own) (items own)
prefixes_wrong _ own = None

-- ---- the rules of a node, in order
abbrev pub length_if : Option ArrayTree → Option ℤ
length_if None = None
length_if (Some array) = live_length array

-- the most places that a window may lie in
abbrev pub window_limit : ℕ
window_limit = 2 ^ 40

-- What each rule says of a live node, with the fault's place and numbers where it fails. A rule is read where no rule
-- before it fails at the node. The two rules of a chunk's root are no rules of a node.
abbrev pub fails : LayoutRule → Node → Option Numbers
fails rules.Released node = None
fails rules.NegativeLength node = fault_if (is_negative node.own.length) 0 node.own.length (pos 0)
fails rules.NegativeOffset node = fault_if (is_negative node.own.offset) 0 node.own.offset (pos 0)
fails rules.BufferCount node = count_wrong (length node.own.buffers) (buffer_count (layout_of node.kind) (length node.own.buffers))
fails rules.ChildCount node = count_wrong (length node.children) (length node.kids)
fails rules.Dictionary node = count_wrong (one_if node.dictionary) (one_if node.dict)
fails rules.BufferAbsent node = first_below (buffer_absent (layout_of node.kind) node.own) (buffer_count (layout_of node.kind) (length node.own.buffers))
fails rules.OffsetsFall node = offsets_fall_if (is_behind_offsets (layout_of node.kind)) node.own
fails rules.BufferShort node = first_below (λ k. too_short (need (layout_of node.kind) node.own k) node.own k) (buffer_count (layout_of node.kind) (length node.own.buffers))
fails rules.ChildShort node = child_short (items_need (layout_of node.kind) node.own) 0 node.children
fails rules.NullCount node = null_count_wrong_in (layout_of node.kind) node.own
fails rules.ViewPlace node = views_misplaced (layout_of node.kind) node.own
fails rules.ViewPrefix node = prefixes_wrong (layout_of node.kind) node.own
fails rules.NotText node = texts_wrong node.kind node.own
fails rules.IndexRange node = indices_wrong node.kind node.own (length_if node.dictionary)
fails rules.WindowTooLong node = fault_if (nat_lt window_limit (end node.own)) 0 (pos (end node.own)) (pos window_limit)
fails rules.TopNulls node = None
fails rules.TopKind node = None

-- the order in which a live node's rules are tried: those of its form, of its buffers, of its items
abbrev pub in_order : List LayoutRule
in_order =
    rules.NegativeLength ∷ rules.NegativeOffset ∷ rules.BufferCount ∷ rules.ChildCount ∷ rules.Dictionary ∷
    rules.BufferAbsent ∷ rules.BufferShort ∷ rules.OffsetsFall ∷
    rules.ChildShort ∷ rules.NullCount ∷ rules.ViewPlace ∷ rules.ViewPrefix ∷ rules.NotText ∷ rules.IndexRange ∷ rules.WindowTooLong ∷ []
