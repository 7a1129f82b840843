-- Whole lines: what is read of one is spelled by it, and what is spelled is read.
use Rattle.std.proofs.Common.{◌≡◌, ℕ, suc, ◌/◌, ◌%◌, ◌^◌, ◌<◌, ◌≤◌, true, false, List, [], ◌∷◌, ◌++◌, length, Option, Some, None}
use Rattle.std.proofs.Common.{refl, sym, ap, ◌∙◌, arith, subst, inl, inr}
use Rattle.std.specs.Prelude.{ℤ, pos, negsuc, nat_le, ◌==◌, ◌&&◌, codes}
use Rattle.std.specs.Char.{digit_value}
use Rattle.std.specs.Fmt.{decimal, signed_decimal, digit_glyph}
use Rattle.std.specs.List.{flat_map, AllByRecursion}
use Rattle.std.specs.Option.{option_map, option_and_then}
use Rattle.std.specs.Str.{bytes_eq}
use Rattle.std.specs.Str.Parse.{AllDigits}
use Rattle.std.proofs.lemmas.Bool.{cases_Bool, and_parts, ltb-true, lt-ltb, leb-true, le-leb, ne_eqb, eqb-true}
use Rattle.std.proofs.lemmas.Fmt.{decimal_is_IsNumeral}
use Rattle.std.proofs.lemmas.List.Elements.{All-from_recursion}
use Rattle.std.proofs.lemmas.List.Splits.{slice_split_none, slice_split_at, join_with_byte-slice_split}
use Rattle.std.proofs.lemmas.Option.{option_and_then_some}
use Rattle.std.proofs.lemmas.Slice.Eq.{bytes_eq-Decides}
use Rattle.data_types.specs.promise.FieldText.{in_range}
use Rattle.raw_schema.specs.promise.Members.{SchemaMembers}
use Rattle.tree_text.specs.promise.TreeText.{is_plain, byte_text, token, spaced, schema_line, ArrayNumbers, array_line, AreBytes, AreBytesIf, most_parts}
use Rattle.tree_text.specs.promise.TreeText.{SchemaNodeFits, ArrayNumbersFit}
use Rattle.tree_text.specs.promise.Standing.{read_bytes, read_present, read_token, read_number, read_count, at_most, fields, NodeLine, ReleasedLine, LiveLine}
use Rattle.tree_text.specs.promise.Standing.{read_schema_fields, read_schema_line, read_array_fields, read_array_line}
use Rattle.tree_text.proofs.NumberTexts.{number_read, number_back}
use Rattle.tree_text.proofs.LineLaws.{bytes_read, bytes_back}

-- ---- tokens and counts

pub record PresentIs (text bytes : List ℕ) : Type 0 where
  pub spelled : text ≡ token (Some bytes)
  pub fit : AreBytes bytes

pub present_read : (text bytes : List ℕ) → read_present text ≡ Some bytes → PresentIs text bytes
present_read [] bytes found = let clash : None ≡ Some bytes = found in absurd cc
present_read (c ∷ rest) bytes found = elim (cases_Bool (c == 61)) [
  | inl is ↦
      let here : read_present (c ∷ rest) ≡ read_bytes rest = rw is refl in
      let all = bytes_read rest bytes (sym here ∙ found) in
      let same : c ≡ 61 = eqb-true c 61 is in
      record { spelled = rw (same, all.spelled) refl; fit = all.fit }
  | inr other ↦
      let none : read_present (c ∷ rest) ≡ None = rw other refl in
      let clash : None ≡ Some bytes = sym none ∙ found in absurd cc
]

pub present_back : (bytes : List ℕ) → AreBytes bytes → read_present (token (Some bytes)) ≡ Some bytes
present_back bytes fit = bytes_back bytes fit

pub record TokenIs (text : List ℕ) (bytes : Option (List ℕ)) : Type 0 where
  pub spelled : text ≡ token bytes
  pub fit : AreBytesIf bytes

some_token : (text : List ℕ) (read : Option (List ℕ)) (bytes : Option (List ℕ)) → read_present text ≡ read
    → option_map (λ (b : List ℕ). Some b) read ≡ Some bytes → TokenIs text bytes
some_token text None bytes is found = let clash : None ≡ Some bytes = found in absurd cc
some_token text (Some b) bytes is found =
    let same : Some b ≡ bytes = search found in
    let all = present_read text b is in
    rw (← same) (record { spelled = all.spelled; fit = all.fit })

pub token_read : (text : List ℕ) (bytes : Option (List ℕ)) → read_token text ≡ Some bytes → TokenIs text bytes
token_read text bytes found = elim (cases_Bool (bytes_eq text (codes "~"))) [
  | inl absent ↦
      let is : read_token text ≡ Some None = rw absent refl in
      let same : None ≡ bytes = search (sym is ∙ found) in
      rw (← same) (record { spelled = (bytes_eq-Decides text (codes "~")).0 absent; fit = tt })
  | inr other ↦
      let is : read_token text ≡ option_map (λ (b : List ℕ). Some b) (read_present text) = rw other refl in
      some_token text (read_present text) bytes refl (sym is ∙ found)
]

pub token_back : (bytes : Option (List ℕ)) → AreBytesIf bytes → read_token (token bytes) ≡ Some bytes
token_back None fit = refl
token_back (Some bytes) fit = ap (option_map (λ (b : List ℕ). Some b)) (present_back bytes fit)

pub record CountIs (most : ℕ) (text : List ℕ) (n : ℕ) : Type 0 where
  pub spelled : text ≡ decimal n
  pub few : n ≤ most

record InMost (most : ℕ) (z : ℤ) (n : ℕ) : Type 0 where
  same : z ≡ pos n
  few : n ≤ most

at_most_is : (most : ℕ) (z : ℤ) (n : ℕ) → at_most most z ≡ Some n → InMost most z n
at_most_is most (pos m) n found = elim (cases_Bool (nat_le m most)) [
  | inl few ↦
      let is : at_most most (pos m) ≡ Some m = rw few refl in
      let same : m ≡ n = search (sym is ∙ found) in
      rw (← same) (record { same = refl; few = leb-true m most few })
  | inr other ↦
      let none : at_most most (pos m) ≡ None = rw other refl in
      let clash : None ≡ Some n = sym none ∙ found in absurd cc
]
at_most_is most (negsuc m) n found = let clash : None ≡ Some n = found in absurd cc

pub count_read : (most : ℕ) (text : List ℕ) (n : ℕ) → read_count most text ≡ Some n → CountIs most text n
count_read most text n found = option_and_then_some (at_most most) (read_number text) n found (λ z number few.
    let m = at_most_is most z n few in
    record { spelled = (number_read text z number).spelled ∙ ap signed_decimal m.same; few = m.few })

pub count_back : (most n : ℕ) → most < 2 ^ 63 → n ≤ most → read_count most (decimal n) ≡ Some n
count_back most n bounded few =
    let range : in_range 64 true (pos n) ≡ true = lt-ltb n (2 ^ 63) (omega (arith, bounded, few)) in
    ap (option_and_then (at_most most)) (number_back (pos n) range) ∙ rw (le-leb n most few) refl

-- ---- fields

abbrev NoSpace : List ℕ → Type 0
NoSpace text = AllByRecursion (λ c. (c == 32) ≡ false) text

pub fields_back : (part : List ℕ) (parts : List (List ℕ)) → AllByRecursion NoSpace (part ∷ parts) → fields (spaced (part ∷ parts)) ≡ part ∷ parts
fields_back part [] none = slice_split_none (λ c. c == 32) part (All-from_recursion (λ c. (c == 32) ≡ false) part none.0)
fields_back part (next ∷ parts) none =
    slice_split_at (λ c. c == 32) part 32 (spaced (next ∷ parts)) (All-from_recursion (λ c. (c == 32) ≡ false) part none.0) refl
    ∙ ap (λ (ps : List (List ℕ)). part ∷ ps) (fields_back next parts none.1)

pub fields_spell : (line : List ℕ) (parts : List (List ℕ)) → fields line ≡ parts → line ≡ spaced parts
fields_spell line parts is = sym (join_with_byte-slice_split 32 line) ∙ ap spaced is

no_space-append : (xs ys : List ℕ) → NoSpace xs → NoSpace ys → NoSpace (xs ++ ys)
no_space-append [] ys none more = more
no_space-append (x ∷ xs) ys none more = (none.0, no_space-append xs ys none.1 more)

not_space : (c : ℕ) → 33 ≤ c → (c == 32) ≡ false
not_space c low = ne_eqb c 32 (λ e. omega (arith, e, low))

glyph_above : (d : ℕ) → 33 ≤ digit_glyph true d
glyph_above d = grind arith

byte_no_space : (byte : ℕ) → NoSpace (byte_text byte)
byte_no_space byte = elim (cases_Bool (is_plain byte)) [
  | inl own ↦
      let range : (nat_le 33 byte && nat_le byte 126) ≡ true = (and_parts _ _ own).0 in
      let low : 33 ≤ byte = leb-true 33 byte (and_parts _ _ range).0 in
      rw own (not_space byte low, tt)
  | inr other ↦ rw other (
    refl,
    (
      not_space (digit_glyph true (byte / 16)) (glyph_above (byte / 16)),
      (not_space (digit_glyph true (byte % 16)) (glyph_above (byte % 16)), tt),
    ),
  )
]

bytes_no_space : (bytes : List ℕ) → NoSpace (flat_map byte_text bytes)
bytes_no_space [] = tt
bytes_no_space (b ∷ bs) = no_space-append (byte_text b) (flat_map byte_text bs) (byte_no_space b) (bytes_no_space bs)

token_no_space : (bytes : Option (List ℕ)) → NoSpace (token bytes)
token_no_space None = (refl, tt)
token_no_space (Some bytes) = (refl, bytes_no_space bytes)

digits_no_space : (text : List ℕ) → AllDigits 10 text → NoSpace text
digits_no_space [] digits = tt
digits_no_space (c ∷ cs) digits =
    (ne_eqb c 32 (λ e. let h : digit_value 32 < 10 = subst (λ (x : ℕ). digit_value x < 10) e digits.0 in omega (arith, h)), digits_no_space cs digits.1)

decimal_no_space : (n : ℕ) → n < 2 ^ 64 → NoSpace (decimal n)
decimal_no_space n small = digits_no_space (decimal n) (decimal_is_IsNumeral n small).0.1

number_no_space : (z : ℤ) → in_range 64 true z ≡ true → NoSpace (signed_decimal z)
number_no_space (pos n) range =
    let small : n < 2 ^ 63 = ltb-true n (2 ^ 63) range in
    decimal_no_space n (omega (arith, small))
number_no_space (negsuc n) range =
    let small : n < 2 ^ 63 = ltb-true n (2 ^ 63) range in
    (refl, decimal_no_space (suc n) (omega (arith, small)))

-- ---- schema lines

pub record SchemaLineIs (line : List ℕ) (own : SchemaMembers) (children dictionaries : ℕ) : Type 0 where
  pub spelled : line ≡ schema_line own children dictionaries
  pub fits : SchemaNodeFits own children
  pub one : dictionaries ≤ 1

abbrev pub SchemaTold : List ℕ → NodeLine SchemaMembers → Type 0
SchemaTold line ReleasedLine = line ≡ codes "S !"
SchemaTold line (LiveLine own children dictionaries) = SchemaLineIs line own children dictionaries

schema_fields_read : (line : List ℕ) (parts : List (List ℕ)) (told : NodeLine SchemaMembers) → fields line ≡ parts → read_schema_fields parts ≡ Some told
    → SchemaTold line told
schema_fields_read line (tag ∷ format ∷ name ∷ flags ∷ children ∷ dictionaries ∷ metadata ∷ []) told split found =
    elim (cases_Bool (bytes_eq tag (codes "S"))) [
      | inl is ↦
          let live = rw is at found in
          option_and_then_some _ (read_number flags) told live (λ z flags_is live.
          option_and_then_some _ (read_count most_parts children) told live (λ c children_is live.
          option_and_then_some _ (read_count 1 dictionaries) told live (λ d dictionaries_is live.
          option_and_then_some _ (read_present format) told live (λ f format_is live.
          option_and_then_some _ (read_token name) told live (λ n name_is live.
          option_and_then_some _ (read_token metadata) told live (λ m metadata_is live.
          let same : LiveLine (record { format = f; name = n; metadata = m; flags = z }) c d ≡ told = search live in
          let tag_is = (bytes_eq-Decides tag (codes "S")).0 is in
          let format_read = present_read format f format_is in
          let name_read = token_read name n name_is in
          let metadata_read = token_read metadata m metadata_is in
          let flags_read = number_read flags z flags_is in
          let children_read = count_read most_parts children c children_is in
          let dictionaries_read = count_read 1 dictionaries d dictionaries_is in
          subst (SchemaTold line) same (record {
            spelled = fields_spell line (tag ∷ format ∷ name ∷ flags ∷ children ∷ dictionaries ∷ metadata ∷ []) split
                ∙ (λ i. spaced (tag_is i ∷ format_read.spelled i ∷ name_read.spelled i ∷ flags_read.spelled i ∷ children_read.spelled i
                ∷ dictionaries_read.spelled i ∷ metadata_read.spelled i ∷ []));
            fits = record {
              format = format_read.fit;
              name = name_read.fit;
              metadata = metadata_read.fit;
              flags = flags_read.range;
              few_children =
                  children_read.few;
            };
            one = dictionaries_read.few;
          })))))))
      | inr other ↦ let clash : None ≡ Some told = rw other at found in absurd cc
    ]
schema_fields_read line _ told split found = let clash : None ≡ Some told = found in absurd cc

pub schema_read : (line : List ℕ) (told : NodeLine SchemaMembers) → read_schema_line line ≡ Some told → SchemaTold line told
schema_read line told found = elim (cases_Bool (bytes_eq line (codes "S !"))) [
  | inl released ↦
      let is : read_schema_line line ≡ Some ReleasedLine = rw released refl in
      let same : ReleasedLine ≡ told = search (sym is ∙ found) in
      subst (SchemaTold line) same ((bytes_eq-Decides line (codes "S !")).0 released)
  | inr live ↦
      let is : read_schema_line line ≡ read_schema_fields (fields line) = rw live refl in
      schema_fields_read line (fields line) told refl (sym is ∙ found)
]

-- a line of seven fields is no other line
longer : (line other : List ℕ) (n : ℕ) → length (fields line) ≡ n → (length (fields other) ≡ n → ⊥) → bytes_eq line other ≡ false
longer line other n is not = elim (cases_Bool (bytes_eq line other)) [
  | inl same ↦ absurd (not (ap (λ (t : List ℕ). length (fields t)) (sym ((bytes_eq-Decides line other).0 same)) ∙ is))
  | inr different ↦ different
]

parts_small : (n : ℕ) → n ≤ most_parts → n < 2 ^ 64
parts_small n few = omega (arith, few)

pub schema_back : (own : SchemaMembers) (children dictionaries : ℕ) → SchemaNodeFits own children → dictionaries ≤ 1
    → read_schema_line (schema_line own children dictionaries) ≡ Some (LiveLine own children dictionaries)
schema_back own children dictionaries fits one =
    let parts = token (Some own.format) ∷ token own.name ∷ signed_decimal own.flags ∷ decimal children ∷ decimal dictionaries ∷ token own.metadata ∷ [] in
    let split : fields (schema_line own children dictionaries) ≡ codes "S" ∷ parts =
    fields_back (codes "S") parts (
      (refl, tt),
      (
        token_no_space (Some own.format),
        (
          token_no_space own.name,
          (
            number_no_space own.flags fits.flags,
            (
              decimal_no_space children (parts_small children fits.few_children),
              (decimal_no_space dictionaries (omega (arith, one)), (token_no_space own.metadata, tt)),
            ),
          ),
        ),
      ),
    ) in
    let live = longer (schema_line own children dictionaries) (codes "S !") 7 (ap length split) (λ e. omega (arith, e)) in
    let format = present_back own.format fits.format in
    let name = token_back own.name fits.name in
    let metadata = token_back own.metadata fits.metadata in
    let flags = number_back own.flags fits.flags in
    let children_is = count_back most_parts children (omega arith) fits.few_children in
    let dictionaries_is = count_back 1 dictionaries (omega arith) one in
    rw live (ap read_schema_fields split ∙ rw (flags, children_is, dictionaries_is, format, name, metadata) refl)

-- ---- array lines

pub record ArrayLineIs (line : List ℕ) (own : ArrayNumbers) (children dictionaries : ℕ) : Type 0 where
  pub spelled : line ≡ array_line own children dictionaries
  pub fits : ArrayNumbersFit own children
  pub one : dictionaries ≤ 1

abbrev pub ArrayTold : List ℕ → NodeLine ArrayNumbers → Type 0
ArrayTold line ReleasedLine = line ≡ codes "A !"
ArrayTold line (LiveLine own children dictionaries) = ArrayLineIs line own children dictionaries

array_fields_read : (line : List ℕ) (parts : List (List ℕ)) (told : NodeLine ArrayNumbers) → fields line ≡ parts → read_array_fields parts ≡ Some told
    → ArrayTold line told
array_fields_read line (tag ∷ len ∷ null_count ∷ offset ∷ buffers ∷ children ∷ dictionaries ∷ []) told split found =
    elim (cases_Bool (bytes_eq tag (codes "A"))) [
      | inl is ↦
          let live = rw is at found in
          option_and_then_some _ (read_number len) told live (λ l len_is live.
          option_and_then_some _ (read_number null_count) told live (λ n null_count_is live.
          option_and_then_some _ (read_number offset) told live (λ o offset_is live.
          option_and_then_some _ (read_count most_parts buffers) told live (λ b buffers_is live.
          option_and_then_some _ (read_count most_parts children) told live (λ c children_is live.
          option_and_then_some _ (read_count 1 dictionaries) told live (λ d dictionaries_is live.
          let same : LiveLine (record { length = l; null_count = n; offset = o; buffers = b }) c d ≡ told = search live in
          let tag_is = (bytes_eq-Decides tag (codes "A")).0 is in
          let len_read = number_read len l len_is in
          let null_count_read = number_read null_count n null_count_is in
          let offset_read = number_read offset o offset_is in
          let buffers_read = count_read most_parts buffers b buffers_is in
          let children_read = count_read most_parts children c children_is in
          let dictionaries_read = count_read 1 dictionaries d dictionaries_is in
          subst (ArrayTold line) same (record {
            spelled = fields_spell line (tag ∷ len ∷ null_count ∷ offset ∷ buffers ∷ children ∷ dictionaries ∷ []) split
                ∙ (λ i. spaced (tag_is i ∷ len_read.spelled i ∷ null_count_read.spelled i ∷ offset_read.spelled i ∷ buffers_read.spelled i
                ∷ children_read.spelled i ∷ dictionaries_read.spelled i ∷ []));
            fits = record {
              length = len_read.range;
              null_count = null_count_read.range;
              offset = offset_read.range;
              buffers = buffers_read.few;
              few_children =
                  children_read.few;
            };
            one = dictionaries_read.few;
          })))))))
      | inr other ↦ let clash : None ≡ Some told = rw other at found in absurd cc
    ]
array_fields_read line _ told split found = let clash : None ≡ Some told = found in absurd cc

pub array_read : (line : List ℕ) (told : NodeLine ArrayNumbers) → read_array_line line ≡ Some told → ArrayTold line told
array_read line told found = elim (cases_Bool (bytes_eq line (codes "A !"))) [
  | inl released ↦
      let is : read_array_line line ≡ Some ReleasedLine = rw released refl in
      let same : ReleasedLine ≡ told = search (sym is ∙ found) in
      subst (ArrayTold line) same ((bytes_eq-Decides line (codes "A !")).0 released)
  | inr live ↦
      let is : read_array_line line ≡ read_array_fields (fields line) = rw live refl in
      array_fields_read line (fields line) told refl (sym is ∙ found)
]

pub array_back : (own : ArrayNumbers) (children dictionaries : ℕ) → ArrayNumbersFit own children → dictionaries ≤ 1
    → read_array_line (array_line own children dictionaries) ≡ Some (LiveLine own children dictionaries)
array_back own children dictionaries fits one =
    let parts = signed_decimal own.length ∷ signed_decimal own.null_count ∷ signed_decimal own.offset ∷ decimal own.buffers ∷ decimal children
    ∷ decimal dictionaries ∷ [] in
    let split : fields (array_line own children dictionaries) ≡ codes "A" ∷ parts =
    fields_back (codes "A") parts (
      (refl, tt),
      (
        number_no_space own.length fits.length,
        (
          number_no_space own.null_count fits.null_count,
          (
            number_no_space own.offset fits.offset,
            (
              decimal_no_space own.buffers (parts_small own.buffers fits.buffers),
              (decimal_no_space children (parts_small children fits.few_children), (decimal_no_space dictionaries (omega (arith, one)), tt)),
            ),
          ),
        ),
      ),
    ) in
    let live = longer (array_line own children dictionaries) (codes "A !") 7 (ap length split) (λ e. omega (arith, e)) in
    let len = number_back own.length fits.length in
    let null_count = number_back own.null_count fits.null_count in
    let offset = number_back own.offset fits.offset in
    let buffers = count_back most_parts own.buffers (omega arith) fits.buffers in
    let children_is = count_back most_parts children (omega arith) fits.few_children in
    let dictionaries_is = count_back 1 dictionaries (omega arith) one in
    rw live (ap read_array_fields split ∙ rw (len, null_count, offset, buffers, children_is, dictionaries_is) refl)
