-- The records of a text that is UTF-8: each of their fields is, since a text is cut, and bytes of it are left out, only at ASCII.
use Rattle.std.proofs.Common.{◌≡◌, ◌∙◌, ◌≤◌, ◌<◌, ◌+◌, ◌/◌, ◌%◌, ◌++◌, ℕ, zero, suc, true, false, List, [], ◌∷◌, length, get_or, Option, Some, None, refl, sym, ap, subst}
use Rattle.std.proofs.Common.{arith, inl, inr}
use Rattle.std.specs.Prelude.{All, ◌⊎◌, ⊤}
use Rattle.std.specs.Str.{IsUtf8, is_utf8}
use Rattle.std.proofs.Math.Utf8.{encode, encodes, scalar, scalars}
use Rattle.std.proofs.lemmas.Bool.{cases_Bool, cases_lt, false≢true}
use Rattle.std.proofs.lemmas.Bool.Decides.{nat_tests}
use Rattle.std.proofs.lemmas.List.{append-nil, append_assoc}
use Rattle.std.proofs.lemmas.Str.{IsUtf8-append, IsUtf8-encode, IsUtf8-from_ascii, IsUtf8-from_is_utf8, IsUtf8-nil, IsUtf8-past_char, encode_ascii, is_utf8-from_IsUtf8}
use Rattle.std.proofs.lemmas.Str.Ascii.{IsAscii-cons, IsAscii-nil}
use Rattle.csv.specs.Machine.{Read, ends_at_end, field_after, fields_after, is_end, next_record, step}
use Rattle.csv.specs.Reading.{default_config, is_bom, records_from, records_next, strip_bom}
use Rattle.csv.specs.Records.{AllText}
use Rattle.csv.specs.declared.parser.Action.{Action}
use Rattle.csv.specs.declared.parser.Action.TheVariants as act
use Rattle.csv.specs.declared.parser.State.{State}
use Rattle.csv.specs.declared.parser.State.TheVariants as st
use Rattle.csv_model.specs.promise.Reading.{Record, records_of}
use Rattle.csv_read.specs.Texts.{AreTexts}

-- ---- bytes of no ASCII

-- each byte is 128 or more
abbrev High : List ℕ → Type 0
High [] = ⊤
High (b ∷ bs) = (128 ≤ b) × High bs

-- what the machine does with such bytes in a state that they leave as it is
abbrev Steady : State → Action → Type 0
Steady st.InField a = a ≡ act.Copy
Steady st.InQuoted a = a ≡ act.Copy
Steady st.InComment a = a ≡ act.Skip
Steady st.StartRecord a = ⊥
Steady st.StartField a = ⊥
Steady st.AfterQuote a = ⊥
Steady st.InEscape a = ⊥
Steady st.AfterCr a = ⊥

steady-after : (s : State) (b : ℕ) → 128 ≤ b → Steady (step default_config s b).0 (step default_config s b).1
steady-after st.StartRecord b high = grind (arith, nat_tests)
steady-after st.StartField b high = grind (arith, nat_tests)
steady-after st.InField b high = grind (arith, nat_tests)
steady-after st.InQuoted b high = grind (arith, nat_tests)
steady-after st.AfterQuote b high = grind (arith, nat_tests)
steady-after st.InEscape b high = refl
steady-after st.InComment b high = grind (arith, nat_tests)
steady-after st.AfterCr b high = grind (arith, nat_tests)

steady-stays : (s : State) (a : Action) (b : ℕ) → Steady s a → 128 ≤ b → step default_config s b ≡ (s, a)
steady-stays st.InField a b steady high = grind (arith, nat_tests)
steady-stays st.InQuoted a b steady high = grind (arith, nat_tests)
steady-stays st.InComment a b steady high = grind (arith, nat_tests)
steady-stays st.StartRecord a b steady high = absurd steady
steady-stays st.StartField a b steady high = absurd steady
steady-stays st.AfterQuote a b steady high = absurd steady
steady-stays st.InEscape a b steady high = absurd steady
steady-stays st.AfterCr a b steady high = absurd steady

steady-goes : (s : State) (a : Action) → Steady s a → (a ≡ act.Copy) ⊎ (a ≡ act.Skip)
steady-goes st.InField a steady = inl steady
steady-goes st.InQuoted a steady = inl steady
steady-goes st.InComment a steady = inr steady
steady-goes st.StartRecord a steady = absurd steady
steady-goes st.StartField a steady = absurd steady
steady-goes st.AfterQuote a steady = absurd steady
steady-goes st.InEscape a steady = absurd steady
steady-goes st.AfterCr a steady = absurd steady

-- the field at hand behind such bytes
abbrev joined : Action → List ℕ → List ℕ → List ℕ
joined act.Copy field bs = field ++ bs
joined act.Skip field bs = field
joined act.EndField field bs = field
joined act.EndRecord field bs = field

high-run : (s : State) (a : Action) → Steady s a → (a ≡ act.Copy) ⊎ (a ≡ act.Skip) → (bs : List ℕ) → High bs → (fields : List (List ℕ)) (field rest : List ℕ)
    → next_record default_config s fields field (bs ++ rest) ≡ next_record default_config s fields (joined a field bs) rest
unfolding next_record
high-run s a steady (inl copy) [] high fields field rest = rw copy (ap (λ (p : List ℕ). next_record default_config s fields p rest) (sym (append-nil field)))
high-run s a steady (inr skip) [] high fields field rest = rw skip refl
high-run s a steady (inl copy) (b ∷ bs) high fields field rest =
    let one = steady-stays s a b steady high.0 in
    let run = high-run s a steady (inl copy) bs high.1 fields (field ++ (b ∷ [])) rest in
    rw (one, copy) (rw copy at run ∙ ap (λ (p : List ℕ). next_record default_config s fields p rest) (append_assoc field (b ∷ []) bs))
high-run s a steady (inr skip) (b ∷ bs) high fields field rest =
    let one = steady-stays s a b steady high.0 in
    let run = high-run s a steady (inr skip) bs high.1 fields field rest in
    rw (one, skip) (rw skip at run)

-- a character that isn't ASCII has such bytes alone
encode-high : (c : ℕ) → 128 ≤ c → High (encode c)
unfolding encode
encode-high c high = elim (cases_lt c 2048) [
  | inl h ↦
      let is : encode c ≡ (192 + c / 64) ∷ (128 + c % 64) ∷ [] = grind (arith, nat_tests) in
      subst High (sym is) (omega arith, (omega arith, tt))
  | inr h2 ↦ elim (cases_lt c 65536) [
    | inl h ↦
        let is : encode c ≡ (224 + c / 4096) ∷ (128 + c / 64 % 64) ∷ (128 + c % 64) ∷ [] = grind (arith, nat_tests) in
        subst High (sym is) (omega arith, (omega arith, (omega arith, tt)))
    | inr h3 ↦
        let is : encode c ≡ (240 + c / 262144) ∷ (128 + c / 4096 % 64) ∷ (128 + c / 64 % 64) ∷ (128 + c % 64) ∷ [] = grind (arith, nat_tests) in
        subst High (sym is) (omega arith, (omega arith, (omega arith, (omega arith, tt))))
  ]
]

-- and it joins the field at hand, or is left out
char-run : (s : State) (bs : List ℕ) → High bs → (fields : List (List ℕ)) (field rest : List ℕ)
    → (s2 : State) × (field2 : List ℕ) × ((field2 ≡ field) ⊎ (field2 ≡ field ++ bs))
    × (next_record default_config s fields field (bs ++ rest) ≡ next_record default_config s2 fields field2 rest)
unfolding next_record
char-run s [] high fields field rest = (s, field, inl refl, refl)
char-run s (b ∷ bs) high fields field rest =
    let after = (step default_config s b).0 in
    let a = (step default_config s b).1 in
    let steady = steady-after s b high.0 in
    elim (steady-goes after a steady) [
      | inl copy ↦ (
        after,
        field ++ (b ∷ bs),
        inr refl,
        rw copy (rw copy at (high-run after a steady (inl copy) bs high.1 fields (field ++ (b ∷ [])) rest)
            ∙ ap (λ (p : List ℕ). next_record default_config after fields p rest) (append_assoc field (b ∷ []) bs)),
      )
      | inr skip ↦ (after, field, inl refl, rw skip (rw skip at (high-run after a steady (inr skip) bs high.1 fields field rest)))
    ]

-- ---- one record

some-same : (p q : Read) → ◌≡◌ {A = Option Read} (Some p) (Some q) → p ≡ q
some-same p q e = cc

AllText-more : (fields : List (List ℕ)) (field : List ℕ) → AllText fields → IsUtf8 field → AllText (fields ++ (field ∷ []))
unfolding AllText
AllText-more [] field all text = (text, tt)
AllText-more (f ∷ fs) field all text = (all.0, AllText-more fs field all.1 text)

one-char : (c : ℕ) → c < 128 → IsUtf8 (c ∷ [])
one-char c low = IsUtf8-from_ascii (c ∷ []) (IsAscii-cons c [] low IsAscii-nil)

fields-text : (a : Action) (fields : List (List ℕ)) (field : List ℕ) → AllText fields → IsUtf8 field → AllText (fields_after a fields field)
fields-text act.Copy fields field all text = all
fields-text act.Skip fields field all text = all
fields-text act.EndField fields field all text = AllText-more fields field all text
fields-text act.EndRecord fields field all text = AllText-more fields field all text

field-text : (a : Action) (c : ℕ) (field : List ℕ) → c < 128 → IsUtf8 field → IsUtf8 (field_after a c field)
field-text act.Copy c field low text = IsUtf8-append field (c ∷ []) text (one-char c low)
field-text act.Skip c field low text = text
field-text act.EndField c field low text = IsUtf8-nil
field-text act.EndRecord c field low text = IsUtf8-nil

both-scalar : (c : ℕ) (cs : List ℕ) → scalars (c ∷ cs) ≡ true → (scalar c ≡ true) × (scalars cs ≡ true)
both-scalar c cs ok = elim (cases_Bool (scalar c)) [
  | inl s ↦ (s, rw s at ok)
  | inr n ↦ let wrong : false ≡ true = rw n at ok in absurd (false≢true wrong)
]

-- what a read of a text gives
abbrev Gives : Option Read → Type 0
Gives None = ⊤
Gives (Some q) = AllText q.0 × IsUtf8 q.2

text-next : (cs : List ℕ) → scalars cs ≡ true → (s : State) (fields : List (List ℕ)) (field : List ℕ) → AllText fields → IsUtf8 field
    → Gives (next_record default_config s fields field (encodes cs))
unfolding next_record
text-next [] ok s fields field all text = elim (cases_Bool (ends_at_end s)) [
  | inl ends ↦ rw ends (AllText-more fields field all text, IsUtf8-nil)
  | inr goes ↦ rw goes tt
]
text-next (c ∷ cs) ok s fields field all text =
    let both = both-scalar c cs ok in
    elim (cases_lt c 128) [
      | inl low ↦
          let a = (step default_config s c).1 in
          let after = (step default_config s c).0 in
          let here : Gives (next_record default_config s fields field (c ∷ encodes cs)) =
          elim (cases_Bool (is_end a)) [
            | inl ends ↦ rw ends (fields-text a fields field all text, (cs, (both.1, refl)))
            | inr goes ↦ rw goes (text-next cs both.1 after (fields_after a fields field) (field_after a c field) (fields-text a fields field all text) (field-text a c field low text))
          ] in
          subst (λ (bs : List ℕ). Gives (next_record default_config s fields field (bs ++ encodes cs))) (sym (encode_ascii c low)) here
      | inr high ↦
          let run = char-run s (encode c) (encode-high c high) fields field (encodes cs) in
          let field2 : IsUtf8 run.1 =
          elim run.2 [
            | inl same ↦ subst IsUtf8 (sym same) text
            | inr more ↦ subst IsUtf8 (sym more) (IsUtf8-append field (encode c) text (IsUtf8-encode c both.0))
          ] in
          subst Gives (sym run.3) (text-next cs both.1 run.0 fields run.1 all field2)
    ]

-- ---- all records

AllText-texts : (fields : Record) → AllText fields → AreTexts fields
unfolding AllText
AllText-texts [] all j within = absurd (omega (arith, within))
AllText-texts (f ∷ fs) all zero within = is_utf8-from_IsUtf8 f all.0
AllText-texts (f ∷ fs) all (suc j) within = AllText-texts fs all.1 j (omega (arith, within))

all-more : (r : Record) (rs : List Record) → AreTexts r → All AreTexts rs → All AreTexts (r ∷ rs)
all-more r rs head tail zero d within = head
all-more r rs head tail (suc i) d within = tail i d (omega (arith, within))

-- and the other way round
pub both-parts : (r : Record) (rs : List Record) → All AreTexts (r ∷ rs) → AreTexts r × All AreTexts rs
both-parts r rs all = (all 0 [] (omega arith), λ i d within. all (suc i) d (omega (arith, within)))

next-texts : (more : State → List ℕ → List Record) → ((s : State) (ys : List ℕ) → IsUtf8 ys → All AreTexts (more s ys)) → (o : Option Read) → Gives o
    → All AreTexts (records_next more o)
next-texts more each None given = λ i d within. absurd (omega (arith, within))
next-texts more each (Some p) given = all-more p.0 (more p.1 p.2) (AllText-texts p.0 given.0) (each p.1 p.2 given.1)

records-texts : (n : ℕ) (s : State) (xs : List ℕ) → IsUtf8 xs → All AreTexts (records_from default_config n s xs)
unfolding records_from AllText
records-texts zero s xs text = λ i d within. absurd (omega (arith, within))
records-texts (suc n) s xs text =
    let first : Gives (next_record default_config s [] [] xs) =
    subst (λ (bs : List ℕ). Gives (next_record default_config s [] [] bs)) text.1.1 (text-next text.0 text.1.0 s [] [] tt IsUtf8-nil) in
    next-texts (records_from default_config n) (records-texts n) (next_record default_config s [] [] xs) first

bom-encodes : (a b c : ℕ) (rest : List ℕ) → is_bom a b c ≡ true → a ∷ b ∷ c ∷ rest ≡ encode 65279 ++ rest
unfolding encode
bom-encodes a b c rest mark =
    let bytes : (a ≡ 239) × (b ≡ 187) × (c ≡ 191) = grind (arith, nat_tests) in
    rw (bytes.0, bytes.1, bytes.2) refl

strip-text : (xs : List ℕ) → IsUtf8 xs → IsUtf8 (strip_bom xs)
unfolding strip_bom
strip-text [] text = text
strip-text (a ∷ []) text = text
strip-text (a ∷ b ∷ []) text = text
strip-text (a ∷ b ∷ c ∷ rest) text = elim (cases_Bool (is_bom a b c)) [
  | inl mark ↦ rw mark (IsUtf8-past_char (a ∷ b ∷ c ∷ rest) rest 65279 text (bom-encodes a b c rest mark))
  | inr other ↦ rw other text
]

pub texts-read : (bytes : List ℕ) → is_utf8 bytes ≡ true → All AreTexts (records_of bytes)
texts-read bytes utf8 = records-texts _ _ (strip_bom bytes) (strip-text bytes (IsUtf8-from_is_utf8 bytes utf8))
