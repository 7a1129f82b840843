-- Which line is allowed at a place of a text of trees, and the first line that isn't.
use Rattle.std.specs.Prelude.{◌≡◌, ℕ, ◌+◌, ◌*◌, ℤ, pos, negsuc, true, nat_lt, nat_le, ◌&&◌, ◌==◌, if◌then◌else◌, List, [], ◌∷◌}
use Rattle.std.specs.Prelude.{◌++◌, codes, replicate, Option, None, Some, take, drop, length}
use Rattle.std.specs.Option.{option_map, option_and_then}
use Rattle.std.specs.List.{list_any, slice_split}
use Rattle.std.specs.Char.{digit_value, is_ascii_uppercase}
use Rattle.std.specs.Str.{bytes_eq}
use Rattle.std.specs.Str.Parse.{signed_digits_value}
use Rattle.std.specs.Str.Lines.{lines}
use Rattle.std.specs.Fmt.{signed_decimal}
use Rattle.data_types.specs.promise.FieldText.{hex_bytes, in_range}
use Rattle.raw_schema.specs.promise.Members.{SchemaMembers}
use Rattle.tree_text.specs.promise.TreeText.{is_plain, byte_text, ArrayNumbers, most_parts, deepest_level}

-- ---- the fields of a line

-- the byte that a `%` and two digits spell
abbrev pub read_escape : ℕ → ℕ → ℕ → Option ℕ
read_escape percent high low =
    let byte = digit_value high * 16 + digit_value low in
    if nat_lt byte 256 && bytes_eq (byte_text byte) (percent ∷ high ∷ low ∷ []) then Some byte else None

-- a byte in front of what follows it, where both are there
abbrev pub onto : Option ℕ → Option (List ℕ) → Option (List ℕ)
onto None bytes = None
onto (Some byte) None = None
onto (Some byte) (Some bytes) = Some (byte ∷ bytes)

-- a byte that stands for itself
abbrev pub plain : ℕ → Option ℕ
plain byte = if is_plain byte then Some byte else None

-- the bytes behind a token's `=`
abbrev pub read_bytes : List ℕ → Option (List ℕ)
read_bytes [] = Some []
read_bytes (c ∷ []) = onto (plain c) (Some [])
read_bytes (c ∷ d ∷ []) = onto (plain c) (onto (plain d) (Some []))
read_bytes (c ∷ d ∷ e ∷ rest) = if is_plain c then onto (Some c) (read_bytes (d ∷ e ∷ rest)) else onto (read_escape c d e) (read_bytes rest)

-- the bytes of a token that must be present
abbrev pub read_present : List ℕ → Option (List ℕ)
read_present [] = None
read_present (c ∷ rest) = if c == 61 then read_bytes rest else None

-- the bytes of a token, or that they are absent
abbrev pub read_token : List ℕ → Option (Option (List ℕ))
read_token text = if bytes_eq text (codes "~") then Some None else option_map (λ bytes. Some bytes) (read_present text)

-- a number from -2^63 to 2^63 - 1
abbrev pub read_number : List ℕ → Option ℤ
read_number text =
    let number = signed_digits_value 10 text in
    if in_range 64 true number && bytes_eq (signed_decimal number) text then Some number else None

-- a number that is neither below 0 nor above a bound
abbrev pub at_most : ℕ → ℤ → Option ℕ
at_most most (pos n) = if nat_le n most then Some n else None
at_most most (negsuc n) = None

-- a number from 0 to a bound
abbrev pub read_count : ℕ → List ℕ → Option ℕ
read_count most text = option_and_then (at_most most) (read_number text)

-- ---- a node's line: `!` for a released one, or its own members with the numbers of its children and dictionaries

pub data NodeLine (M : Type 0) : Type 0 where
  ReleasedLine : NodeLine M
  LiveLine : M → ℕ → ℕ → NodeLine M

-- the parts of a line between single spaces
abbrev pub fields : List ℕ → List (List ℕ)
fields line = slice_split (λ c. c == 32) line

-- a live schema node's seven fields
abbrev pub read_schema_fields : List (List ℕ) → Option (NodeLine SchemaMembers)
read_schema_fields (tag ∷ format ∷ name ∷ flags ∷ children ∷ dictionaries ∷ metadata ∷ []) =
    if bytes_eq tag (codes "S") then
    option_and_then (λ z. option_and_then (λ c. option_and_then (λ d. option_and_then (λ f. option_and_then (λ n. option_and_then (λ m.
    Some (LiveLine (record { format = f; name = n; metadata = m; flags = z }) c d))
    (read_token metadata)) (read_token name)) (read_present format)) (read_count 1 dictionaries)) (read_count most_parts children)) (read_number flags)
    else None
read_schema_fields _ = None

-- a line of the schema tree
abbrev pub read_schema_line : List ℕ → Option (NodeLine SchemaMembers)
read_schema_line line = if bytes_eq line (codes "S !") then Some ReleasedLine else read_schema_fields (fields line)

-- a live array node's seven fields
abbrev pub read_array_fields : List (List ℕ) → Option (NodeLine ArrayNumbers)
read_array_fields (tag ∷ length ∷ null_count ∷ offset ∷ buffers ∷ children ∷ dictionaries ∷ []) =
    if bytes_eq tag (codes "A") then
    option_and_then (λ l. option_and_then (λ n. option_and_then (λ o. option_and_then (λ b. option_and_then (λ c. option_and_then (λ d.
    Some (LiveLine (record { length = l; null_count = n; offset = o; buffers = b }) c d))
    (read_count 1 dictionaries)) (read_count most_parts children)) (read_count most_parts buffers)) (read_number offset)) (read_number null_count))
    (read_number length)
    else None
read_array_fields _ = None

-- a line of the array tree that is no buffer's
abbrev pub read_array_line : List ℕ → Option (NodeLine ArrayNumbers)
read_array_line line = if bytes_eq line (codes "A !") then Some ReleasedLine else read_array_fields (fields line)

-- ---- a buffer's line: absent, or its bytes by pairs of lower-case digits

-- the bytes that pairs of lower-case digits write
abbrev pub read_lower_hex : List ℕ → Option (List ℕ)
read_lower_hex text = if list_any is_ascii_uppercase text then None else hex_bytes text

-- a buffer's line
abbrev pub read_buffer_line : List ℕ → Option (Option (List ℕ))
read_buffer_line line =
    if bytes_eq line (codes "B ~") then Some None
    else if bytes_eq (take 3 line) (codes "B =") then option_map (λ bytes. Some bytes) (read_lower_hex (drop 3 line))
    else None

-- ---- what is expected at a place

pub data Place : Type 0 where
  -- the first line
  AtFirst : Place
  -- a node of the schema tree or of the array tree, at a level counted from 1
  AtSchema : ℕ → Place
  AtArray : ℕ → Place
  AtBuffer : Place

-- what a node's line announces, in order: buffers, then children and a dictionary
abbrev pub schema_parts : ℕ → NodeLine SchemaMembers → List Place
schema_parts level ReleasedLine = []
schema_parts level (LiveLine own children dictionaries) = replicate (children + dictionaries) (AtSchema (level + 1))

-- the same of the array tree
abbrev pub array_parts : ℕ → NodeLine ArrayNumbers → List Place
array_parts level ReleasedLine = []
array_parts level (LiveLine own children dictionaries) = replicate own.buffers AtBuffer ++ replicate (children + dictionaries) (AtArray (level + 1))

-- what a line that is allowed at a place announces; none where it isn't allowed
abbrev pub next : Place → List ℕ → Option (List Place)
next AtFirst line = if bytes_eq line (codes "tree 1") then Some [] else None
next (AtSchema level) line = if nat_le level deepest_level then option_map (schema_parts level) (read_schema_line line) else None
next (AtArray level) line = if nat_le level deepest_level then option_map (array_parts level) (read_array_line line) else None
next AtBuffer line = option_map (λ bytes. []) (read_buffer_line line)

-- ---- the first line that isn't allowed

-- the line's own number where it isn't allowed, and else what comes later
abbrev pub fault_or : ℕ → Option (Option ℕ) → Option ℕ
fault_or number None = Some number
fault_or number (Some later) = later

-- lines from a number on against the places that are expected: none where each line is allowed and no place is left
abbrev pub first_fault : List Place → List (List ℕ) → ℕ → Option ℕ
first_fault [] [] number = None
first_fault [] (line ∷ rest) number = Some number
first_fault (place ∷ places) [] number = Some number
first_fault (place ∷ places) (line ∷ rest) number = fault_or number (option_map (λ parts. first_fault (parts ++ places) rest (number + 1)) (next place line))

-- This line of the text, counted from 1, is the first that isn't allowed at its place, or is missing there.
abbrev pub TreeLineIs : List ℕ → ℕ → Type 0
TreeLineIs bytes number = first_fault (AtFirst ∷ AtSchema 1 ∷ AtArray 1 ∷ []) (lines bytes) 1 ≡ Some number
