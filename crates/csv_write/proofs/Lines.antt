-- A record that is written field by field.
use Rattle.std.proofs.Common.{◌≡◌, ◌≢◌, ◌<◌, ◌+◌, ◌-◌, ◌^◌, ◌++◌, ◌∙◌, ℕ, Bool, true, false, List, [], ◌∷◌, Option, None, Some, length, min, refl, sym, ap}
use Rattle.std.proofs.Common.{arith, append_assoc, append-nil, length-append}
use Rattle.std.proofs.lemmas.Bool.{false≢true}
use Rattle.std.proofs.lemmas.Bool.Decides.{nat_tests}
use Rattle.std.specs.Prelude.{if◌then◌else◌, not, ◌==◌, ◌&&◌, ◌||◌}
use Rattle.std.specs.Io.KnownBytes.{Appends}
use Rattle.csv.specs.Writing.{blank_text, comma, default_writer, end_text, field_text, fields_text, fields_written, has_written, is_blank, next_sep, quote_mark}
use Rattle.csv.specs.Writing.{row_body, row_text, tail_text, writer_setup}
use Rattle.csv.specs.declared.writer.WriterBuilder.{WriterBuilder}
use Rattle.csv.specs.declared.writer.QuoteStyle.TheVariants as style
use Rattle.csv_write.specs.Lines.{HasFields, HasLines, HasShown, MemoryWriter, text_of}

pub appends-known : (a b : Option (List ℕ)) (xs bs : List ℕ) → a ≡ Some xs → Appends a b bs → b ≡ Some (xs ++ bs)
appends-known None b xs bs e h = let none : ◌≡◌ {A = Option (List ℕ)} None (Some xs) = e in cc
appends-known (Some ys) None xs bs e h = absurd h
appends-known (Some ys) (Some zs) xs bs e h = let same : ◌≡◌ {A = Option (List ℕ)} (Some ys) (Some xs) = e in cc

-- ---- one more field

fields-push : (fields : List (List ℕ)) (field : List ℕ)
    → fields_text default_writer (fields ++ field ∷ []) ≡ fields_text default_writer fields ++ (comma ∷ field_text default_writer field)
unfolding fields_text
fields-push [] field = ap (λ xs. comma ∷ xs) (append-nil _)
fields-push (g ∷ gs) field =
    ap (λ xs. comma ∷ (field_text default_writer g ++ xs)) (fields-push gs field)
    ∙ ap (λ xs. comma ∷ xs) (sym (append_assoc (field_text default_writer g) (fields_text default_writer gs) (comma ∷ field_text default_writer field)))

sep-after : (b : Bool) → b ≡ false → (if b then [] else comma ∷ []) ≡ comma ∷ []
sep-after true e = absurd (false≢true (sym e))
sep-after false e = refl

not-first : (n : ℕ) → 0 < n → (n == 0) ≡ false
not-first n h = grind (arith, nat_tests)

pub body-push : (fields : List (List ℕ)) (field : List ℕ)
    → row_body default_writer (fields ++ field ∷ [])
    ≡ row_body default_writer fields ++ (next_sep default_writer (length fields) ++ field_text default_writer field)
unfolding fields_text
body-push [] field = append-nil _
body-push (g ∷ gs) field =
    let some : 0 < length (g ∷ gs) = omega arith in
    ap (λ xs. field_text default_writer g ++ xs) (fields-push gs field)
    ∙ sym (append_assoc (field_text default_writer g) (fields_text default_writer gs) (comma ∷ field_text default_writer field))
    ∙ ap (λ sep. row_body default_writer (g ∷ gs) ++ (sep ++ field_text default_writer field)) (sym (sep-after (length (g ∷ gs) == 0) (not-first _ some)))

shown-push : (fields : List (List ℕ)) (field : List ℕ) (old new : Bool) → HasShown fields old
    → (old ≡ false → new ≡ not (length (field_text default_writer field) == 0)) → HasShown (fields ++ field ∷ []) new
shown-push [] field old new h more = more h
shown-push (g ∷ []) field old new h more = tt
shown-push (g ∷ f ∷ rest) field old new h more = tt

-- ---- the end of a record

end-blank : (b : Bool) → (if not (not b) && ((1 == 0) || (1 == 1)) then quote_mark ∷ quote_mark ∷ [] else []) ≡ (if b then quote_mark ∷ quote_mark ∷ [] else [])
end-blank true = refl
end-blank false = refl

never : (wrote a b : Bool) → a ≡ false → b ≡ false → (if not wrote && (a || b) then quote_mark ∷ quote_mark ∷ [] else []) ≡ []
never wrote true b e f = absurd (false≢true (sym e))
never wrote false true e f = absurd (false≢true (sym f))
never true false false e f = refl
never false false false e f = refl

not-second : (n : ℕ) → 1 < n → (n == 1) ≡ false
not-second n h = grind (arith, nat_tests)

blank-is : (fields : List (List ℕ)) (shown : Bool) → HasShown fields shown
    → blank_text default_writer shown (length fields) ≡ (if is_blank default_writer fields then quote_mark ∷ quote_mark ∷ [] else [])
unfolding is_blank
blank-is [] shown h = ap (λ b. blank_text default_writer b 0) h
blank-is (f ∷ []) shown h = ap (λ b. blank_text default_writer b 1) h ∙ end-blank (length (field_text default_writer f) == 0)
blank-is (f ∷ g ∷ rest) shown h =
    let n = length (f ∷ g ∷ rest) in
    never shown (n == 0) (n == 1) (not-first n (omega arith)) (not-second n (omega arith))

pub row-ends : (fields : List (List ℕ)) (shown : Bool) → HasShown fields shown
    → row_body default_writer fields ++ tail_text default_writer shown (length fields) ≡ row_text default_writer fields
row-ends fields shown h = ap (λ xs. row_body default_writer fields ++ (xs ++ end_text default_writer.terminator)) (blank-is fields shown h)

-- ---- writers

necessary : (cfg : WriterBuilder) → cfg ≡ default_writer → cfg.style ≢ style.NonNumeric
necessary cfg e h = let other : style.Necessary ≡ style.NonNumeric = sym (ap (λ c. c.style) e) ∙ h in cc

module _ (old new : MemoryWriter) (text : List ℕ) (fields : List (List ℕ)) (has : HasFields old text fields) where
  pub field-written : (field : List ℕ) → length fields < 2 ^ 64 - 1
      → ((writer_setup old).style ≢ style.NonNumeric
      → Appends (text_of old) (text_of new) (next_sep (writer_setup old) (fields_written old) ++ field_text (writer_setup old) field))
      → writer_setup new ≡ writer_setup old → fields_written new ≡ min (fields_written old + 1) (2 ^ 64 - 1)
      → (has_written old ≡ false → (writer_setup old).style ≢ style.NonNumeric → has_written new ≡ not (length (field_text (writer_setup old) field) == 0))
      → HasFields new text (fields ++ field ∷ [])
  field-written field few appends same count wrote =
      let plain = necessary (writer_setup old) has.setup in
      let put = appends-known _ _ _ _ has.text_is (appends plain) in
      record {
        count = omega (arith, count, has.count, length-append fields (field ∷ []));
        shown = shown-push fields field (has_written old) (has_written new) has.shown
            (λ e. wrote e plain ∙ ap (λ cfg. not (length (field_text cfg field) == 0)) has.setup);
        setup = same ∙ has.setup;
        text_is = put
            ∙ (λ i. Some ((text ++ row_body default_writer fields) ++ (next_sep (has.setup i) (has.count i) ++ field_text (has.setup i) field)))
            ∙ ap Some (append_assoc text (row_body default_writer fields) _ ∙ ap (λ xs. text ++ xs) (sym (body-push fields field)));
      }

  pub row-written : Appends (text_of old) (text_of new) (tail_text (writer_setup old) (has_written old) (fields_written old))
      → fields_written new ≡ 0 → has_written new ≡ false → writer_setup new ≡ writer_setup old → HasLines new (text ++ row_text default_writer fields)
  row-written appends none clean same =
      let put = appends-known _ _ _ _ has.text_is appends in
      record {
        whole = none;
        clean = clean;
        setup = same ∙ has.setup;
        text_is = put
            ∙ (λ i. Some ((text ++ row_body default_writer fields) ++ tail_text (has.setup i) (has_written old) (has.count i)))
            ∙ ap Some (append_assoc text (row_body default_writer fields) _ ∙ ap (λ xs. text ++ xs) (row-ends fields (has_written old) has.shown));
      }

-- between two records no field is written
pub no-fields : (writer : MemoryWriter) (text : List ℕ) → HasLines writer text → HasFields writer text []
no-fields writer text h = record { count = h.whole; shown = h.clean; setup = h.setup; text_is = h.text_is ∙ ap Some (sym (append-nil text)) }
