-- A line that is read is spelled by what is read of it, and what is spelled is read.
use Rattle.std.proofs.Common.{◌≡◌, ℕ, ◌+◌, ◌*◌, ◌/◌, ◌%◌, ◌<◌, ◌≤◌, true, false, List, [], ◌∷◌, ◌++◌, Option}
use Rattle.std.proofs.Common.{Some, None, refl, sym, ap, ◌∙◌, arith, inl, inr}
use Rattle.std.specs.Prelude.{nat_lt, nat_le, ◌&&◌}
use Rattle.std.specs.Char.{digit_value}
use Rattle.std.specs.Fmt.{digit_glyph}
use Rattle.std.specs.List.{flat_map}
use Rattle.std.specs.Str.{bytes_eq}
use Rattle.std.proofs.lemmas.Bool.{cases_Bool, and_parts, ltb-true, lt-ltb, leb-true}
use Rattle.std.proofs.lemmas.Slice.Eq.{bytes_eq-Decides}
use Rattle.tree_text.specs.promise.TreeText.{is_plain, byte_text, AreBytes}
use Rattle.tree_text.specs.promise.Standing.{read_escape, onto, plain, read_bytes}
use Rattle.tree_text.proofs.TokenBytes.{read_plain, read_escaped}

-- ---- bytes

pub record BytesAre (text bytes : List ℕ) : Type 0 where
  pub spelled : text ≡ flat_map byte_text bytes
  pub fit : AreBytes bytes

plain_small : (c : ℕ) → is_plain c ≡ true → c < 256
plain_small c own =
    let range : (nat_le 33 c && nat_le c 126) ≡ true = (and_parts _ _ own).0 in
    let top : c ≤ 126 = leb-true c 126 (and_parts _ _ range).1 in
    omega (arith, top)

plain_text : (c : ℕ) → is_plain c ≡ true → byte_text c ≡ c ∷ []
plain_text c own = rw own refl

-- what is read of an escape is a byte that is spelled so
record Escape (c h l byte : ℕ) : Type 0 where
  spelled : c ∷ h ∷ l ∷ [] ≡ byte_text byte
  small : byte < 256

escape_is : (c h l byte : ℕ) → read_escape c h l ≡ Some byte → Escape c h l byte
escape_is c h l byte found =
    let value = digit_value h * 16 + digit_value l in
    elim (cases_Bool (nat_lt value 256 && bytes_eq (byte_text value) (c ∷ h ∷ l ∷ []))) [
      | inl both ↦
          let parts : (nat_lt value 256 ≡ true) × (bytes_eq (byte_text value) (c ∷ h ∷ l ∷ []) ≡ true) = and_parts _ _ both in
          let is : read_escape c h l ≡ Some value = rw both refl in
          let same : value ≡ byte = search (sym is ∙ found) in
          rw (← same) (record { spelled = sym ((bytes_eq-Decides (byte_text value) (c ∷ h ∷ l ∷ [])).0 parts.1); small = ltb-true value 256 parts.0 })
      | inr other ↦
          let none : read_escape c h l ≡ None = rw other refl in
          let clash : None ≡ Some byte = sym none ∙ found in absurd cc
    ]

joined : (text : List ℕ) (byte : ℕ) (rest : List ℕ) (bytes : List ℕ) → text ≡ byte_text byte → byte < 256 → BytesAre rest bytes
    → BytesAre (text ++ rest) (byte ∷ bytes)
joined text byte rest bytes one small all = record { spelled = rw (one, all.spelled) refl; fit = (small, all.fit) }

-- one byte in front of others
onto_is : (o : Option ℕ) (rest : Option (List ℕ)) (bytes : List ℕ) (P : Type 0) → onto o rest ≡ Some bytes
    → ((b : ℕ) (bs : List ℕ) → o ≡ Some b → rest ≡ Some bs → bytes ≡ b ∷ bs → P) → P
onto_is None rest bytes P found use_it = let clash : None ≡ Some bytes = found in absurd cc
onto_is (Some b) None bytes P found use_it = let clash : None ≡ Some bytes = found in absurd cc
onto_is (Some b) (Some bs) bytes P found use_it = use_it b bs refl refl (search (sym found))

record Plain (c b : ℕ) : Type 0 where
  same : b ≡ c
  own : is_plain c ≡ true

plain_is : (c b : ℕ) → plain c ≡ Some b → Plain c b
plain_is c b found = elim (cases_Bool (is_plain c)) [
  | inl own ↦ let is : plain c ≡ Some c = rw own refl in record { same = search (sym found ∙ is); own = own }
  | inr other ↦ let none : plain c ≡ None = rw other refl in let clash : None ≡ Some b = sym none ∙ found in absurd cc
]

none_are : BytesAre [] []
none_are = record { spelled = refl; fit = tt }

plain_joined : (c b : ℕ) (rest bs bytes : List ℕ) → plain c ≡ Some b → BytesAre rest bs → bytes ≡ b ∷ bs → BytesAre (c ∷ rest) bytes
plain_joined c b rest bs bytes found all e =
    let p = plain_is c b found in
    rw (e, p.same) (joined (c ∷ []) c rest bs (sym (plain_text c p.own)) (plain_small c p.own) all)

pub bytes_read : (text bytes : List ℕ) → read_bytes text ≡ Some bytes → BytesAre text bytes
bytes_read [] bytes found =
    let same : [] ≡ bytes = search found in rw (← same) none_are
bytes_read (c ∷ []) bytes found = onto_is (plain c) (Some []) bytes (BytesAre (c ∷ []) bytes) found (λ b bs one rest e.
    let none : [] ≡ bs = search rest in plain_joined c b [] bs bytes one (rw (← none) none_are) e)
bytes_read (c ∷ d ∷ []) bytes found = onto_is (plain c) (onto (plain d) (Some [])) bytes (BytesAre (c ∷ d ∷ []) bytes) found (λ b bs one rest e.
    plain_joined c b (d ∷ []) bs bytes one (bytes_read (d ∷ []) bs rest) e)
bytes_read (c ∷ d ∷ f ∷ text) bytes found = elim (cases_Bool (is_plain c)) [
  | inl own ↦
      onto_is (Some c) (read_bytes (d ∷ f ∷ text)) bytes (BytesAre (c ∷ d ∷ f ∷ text) bytes) (sym (read_plain c (d ∷ f ∷ text) own) ∙ found) (λ b bs one rest e.
      plain_joined c b (d ∷ f ∷ text) bs bytes (rw own one) (bytes_read (d ∷ f ∷ text) bs rest) e)
  | inr other ↦
      onto_is (read_escape c d f) (read_bytes text) bytes (BytesAre (c ∷ d ∷ f ∷ text) bytes) (sym (read_escaped c d f text other) ∙ found) (λ b bs one rest e.
      let esc = escape_is c d f b one in
      rw e (joined (c ∷ d ∷ f ∷ []) b text bs esc.spelled esc.small (bytes_read text bs rest)))
]

-- ---- and back

glyph_value : (d : ℕ) → d < 16 → digit_value (digit_glyph true d) ≡ d
glyph_value d small = grind arith

percent_other : is_plain 37 ≡ false
percent_other = refl

escape_back : (byte : ℕ) → byte < 256 → is_plain byte ≡ false → read_escape 37 (digit_glyph true (byte / 16)) (digit_glyph true (byte % 16)) ≡ Some byte
escape_back byte small other =
    let high = glyph_value (byte / 16) (omega (arith, small)) in
    let low = glyph_value (byte % 16) (omega arith) in
    let value : byte / 16 * 16 + byte % 16 ≡ byte = omega arith in
    let text : byte_text byte ≡ 37 ∷ digit_glyph true (byte / 16) ∷ digit_glyph true (byte % 16) ∷ [] = rw other refl in
    let same : bytes_eq (byte_text byte) (37 ∷ digit_glyph true (byte / 16) ∷ digit_glyph true (byte % 16) ∷ []) ≡ true = (bytes_eq-Decides _ _).1 text in
    rw (high, low, value, lt-ltb byte 256 small, same) refl

pub bytes_back : (bytes : List ℕ) → AreBytes bytes → read_bytes (flat_map byte_text bytes) ≡ Some bytes
bytes_back [] fit = refl
bytes_back (b ∷ bs) fit = elim (cases_Bool (is_plain b)) [
  | inl own ↦
      let text : flat_map byte_text (b ∷ bs) ≡ b ∷ flat_map byte_text bs = rw own refl in
      ap read_bytes text ∙ read_plain b (flat_map byte_text bs) own ∙ ap (onto (Some b)) (bytes_back bs fit.1)
  | inr other ↦
      let text : flat_map byte_text (b ∷ bs) ≡ 37 ∷ digit_glyph true (b / 16) ∷ digit_glyph true (b % 16) ∷ flat_map byte_text bs = rw other refl in
      ap read_bytes text ∙ read_escaped 37 (digit_glyph true (b / 16)) (digit_glyph true (b % 16)) (flat_map byte_text bs) percent_other
      ∙ rw (escape_back b fit.0 other, bytes_back bs fit.1) refl
]
