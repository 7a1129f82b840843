-- Pairs of lower-case hexadecimal digits, read one after another.
use Rattle.std.proofs.Common.{◌≡◌, ℕ, zero, suc, ◌+◌, ◌*◌, ◌%◌, ◌<◌, ◌&&◌, ◌||◌, Bool, true, false, List, [], ◌∷◌, length, get_or, Option, Some, None, inl, inr}
use Rattle.std.proofs.Common.{refl, ap, sym, ◌∙◌, subst, true≢false, arith}
use Rattle.std.specs.Prelude.{if◌then◌else◌, slice_set}
use Rattle.std.specs.Bool.{OnTrue}
use Rattle.std.specs.Option.{option_map}
use Rattle.std.specs.List.{list_any}
use Rattle.std.specs.Char.{digit_value, is_ascii_hexdigit, is_ascii_uppercase}
use Rattle.std.specs.Str.Parse.{digits_value}
use Rattle.std.proofs.lemmas.Bool.{cases_eq}
use Rattle.std.proofs.lemmas.List.{length-set, get_or-set_other}
use Rattle.std.proofs.lemmas.List.Folds.{list_any_at}
use Rattle.std.proofs.lemmas.Grind.{get_or-set_at}
use Rattle.data_types.specs.promise.FieldText.{hex_bytes}
use Rattle.tree_text.specs.promise.Standing.{read_lower_hex}
use Rattle.tree_text.specs.Standing.{is_lower_digit}

-- ---- one digit

lower-is_small : (c : ℕ) → is_lower_digit c ≡ true → is_ascii_uppercase c ≡ false
lower-is_small c e = grind (arith, e)

lower-is_hex : (c : ℕ) → is_lower_digit c ≡ true → is_ascii_hexdigit c ≡ true
lower-is_hex c e = grind (arith, e)

others-are_none : (c : ℕ) → is_lower_digit c ≡ false → is_ascii_uppercase c ≡ false → is_ascii_hexdigit c ≡ false
others-are_none c e u = grind (arith, e, u)

-- ---- where no bytes are written

if-none : (b : Bool) (o : Option (List ℕ)) → o ≡ None → (if b then None else o) ≡ None
if-none true o e = refl
if-none false o e = e

one-none : (b : Bool) (o : Option (List ℕ)) → b ≡ false → (if b then o else None) ≡ None
one-none true o e = absurd (true≢false e)
one-none false o e = refl

both-none : (b : Bool) (byte : ℕ) (o : Option (List ℕ)) → o ≡ None → (if b then option_map (λ bytes. byte ∷ bytes) o else None) ≡ None
both-none true byte o e = ap (option_map (λ bytes. byte ∷ bytes)) e
both-none false byte o e = refl

and-false : (b : Bool) → (b && false) ≡ false
and-false true = refl
and-false false = refl

hex-odd : (text : List ℕ) → length text % 2 ≡ 1 → hex_bytes text ≡ None
hex-odd [] e = absurd (omega (arith, e))
hex-odd (a ∷ []) e = refl
hex-odd (a ∷ b ∷ rest) e =
    both-none (is_ascii_hexdigit a && is_ascii_hexdigit b) (digits_value 16 (a ∷ b ∷ [])) (hex_bytes rest) (hex-odd rest (omega (arith, e)))

pub odd-none : (text : List ℕ) → length text % 2 ≡ 1 → read_lower_hex text ≡ None
odd-none text e = if-none (list_any is_ascii_uppercase text) (hex_bytes text) (hex-odd text e)

pub ruleset odd = (odd-none)

hex-bad : (text : List ℕ) (j : ℕ) → j < length text → is_ascii_hexdigit (get_or text j 0) ≡ false → hex_bytes text ≡ None
hex-bad [] j l e = absurd (omega (arith, l))
hex-bad (a ∷ []) j l e = refl
hex-bad (a ∷ b ∷ rest) zero l e =
    one-none (is_ascii_hexdigit a && is_ascii_hexdigit b) (option_map (λ bytes. digits_value 16 (a ∷ b ∷ []) ∷ bytes) (hex_bytes rest))
    (ap (λ x. x && is_ascii_hexdigit b) e)
hex-bad (a ∷ b ∷ rest) (suc zero) l e =
    one-none (is_ascii_hexdigit a && is_ascii_hexdigit b) (option_map (λ bytes. digits_value 16 (a ∷ b ∷ []) ∷ bytes) (hex_bytes rest))
    (ap (λ x. is_ascii_hexdigit a && x) e ∙ and-false (is_ascii_hexdigit a))
hex-bad (a ∷ b ∷ rest) (suc (suc j)) l e =
    both-none (is_ascii_hexdigit a && is_ascii_hexdigit b) (digits_value 16 (a ∷ b ∷ [])) (hex_bytes rest) (hex-bad rest j (omega (arith, l)) e)

-- a byte that is no lower-case digit
pub bad-none : (text : List ℕ) (j : ℕ) → j < length text → is_lower_digit (get_or text j 0) ≡ false → read_lower_hex text ≡ None
bad-none text j l e = by (is_ascii_uppercase (get_or text j 0)) refl
  where
    by : (b : Bool) → is_ascii_uppercase (get_or text j 0) ≡ b → read_lower_hex text ≡ None
    by true u = ap (λ b. if b then None else hex_bytes text) (list_any_at is_ascii_uppercase text j 0 l u)
    by false u =
        if-none (list_any is_ascii_uppercase text) (hex_bytes text) (hex-bad text j l (others-are_none (get_or text j 0) e u))

-- ---- where they are

-- at a place of a text are two digits that write a byte
pub record PairAt (text : List ℕ) (i byte : ℕ) : Type 0 where
  pub high : is_lower_digit (get_or text i 0) ≡ true
  pub low : is_lower_digit (get_or text (suc i) 0) ≡ true
  pub written : byte ≡ digit_value (get_or text i 0) * 16 + digit_value (get_or text (suc i) 0)

pair-behind : (a b : ℕ) (rest : List ℕ) (i byte : ℕ) → PairAt (a ∷ b ∷ rest) (suc (suc i)) byte → PairAt rest i byte
pair-behind a b rest i byte p = record { high = p.high; low = p.low; written = p.written }

pairs-behind : (a b x : ℕ) (rest room : List ℕ) → ((k : ℕ) → k < length (x ∷ room) → PairAt (a ∷ b ∷ rest) (2 * k) (get_or (x ∷ room) k 0))
    → (k : ℕ) → k < length room → PairAt rest (2 * k) (get_or room k 0)
pairs-behind a b x rest room h k l =
    let place : 2 * suc k ≡ suc (suc (2 * k)) = omega arith in
    pair-behind a b rest (2 * k) (get_or room k 0) (subst (λ i. PairAt (a ∷ b ∷ rest) i (get_or room k 0)) place (h (suc k) (omega (arith, l))))

one-more : (b : Bool) (o : Option (List ℕ)) (v w : ℕ) (bytes : List ℕ) → b ≡ true → o ≡ Some bytes → w ≡ v
    → (if b then option_map (λ more. v ∷ more) o else None) ≡ Some (w ∷ bytes)
one-more true o v w bytes h e p = ap (option_map (λ more. v ∷ more)) e ∙ ap (λ x. Some (x ∷ bytes)) (sym p)
one-more false o v w bytes h e p = absurd (true≢false (sym h))

two-digits : (high low : ℕ) → high * 16 + low ≡ (0 * 16 + high) * 16 + low
two-digits high low = omega arith

hex-read : (text room : List ℕ) → length text ≡ 2 * length room → ((k : ℕ) → k < length room → PairAt text (2 * k) (get_or room k 0))
    → hex_bytes text ≡ Some room
hex-read [] [] e h = refl
hex-read [] (x ∷ room) e h = absurd (omega (arith, e))
hex-read (a ∷ []) room e h = absurd (omega (arith, e))
hex-read (a ∷ b ∷ rest) [] e h = absurd (omega (arith, e))
hex-read (a ∷ b ∷ rest) (x ∷ room) e h =
    let first = h 0 (omega arith) in
    one-more (is_ascii_hexdigit a && is_ascii_hexdigit b) (hex_bytes rest) (digits_value 16 (a ∷ b ∷ [])) x room
    (ap (λ y. y && is_ascii_hexdigit b) (lower-is_hex a first.high) ∙ lower-is_hex b first.low)
    (hex-read rest room (omega (arith, e)) (pairs-behind a b x rest room h))
    (first.written ∙ two-digits (digit_value a) (digit_value b))

no-capitals : (text room : List ℕ) → length text ≡ 2 * length room → ((k : ℕ) → k < length room → PairAt text (2 * k) (get_or room k 0))
    → list_any is_ascii_uppercase text ≡ false
no-capitals [] room e h = refl
no-capitals (a ∷ []) room e h = absurd (omega (arith, e))
no-capitals (a ∷ b ∷ rest) [] e h = absurd (omega (arith, e))
no-capitals (a ∷ b ∷ rest) (x ∷ room) e h =
    let first = h 0 (omega arith) in
    ap (λ y. y || (is_ascii_uppercase b || list_any is_ascii_uppercase rest)) (lower-is_small a first.high)
    ∙ ap (λ y. y || list_any is_ascii_uppercase rest) (lower-is_small b first.low)
    ∙ no-capitals rest room (omega (arith, e)) (pairs-behind a b x rest room h)

-- ---- so far

-- the first n bytes of a room are those of the text's pairs, as long as all were digits
pub record PairsRead (text room : List ℕ) (n : ℕ) (all : Bool) : Type 0 where
  pub pairs : all ≡ true → (k : ℕ) → k < n → PairAt text (2 * k) (get_or room k 0)
  pub none : all ≡ false → read_lower_hex text ≡ None

pub no-pairs : (text room : List ℕ) → PairsRead text room 0 true
no-pairs text room = record { pairs = λ e k l. absurd (omega (arith, l)); none = λ e. absurd (true≢false e) }

and-first : (a b : Bool) → (a && b) ≡ true → a ≡ true
and-first true b e = refl
and-first false b e = absurd (true≢false (sym e))

and-second : (a b : Bool) → (a && b) ≡ true → b ≡ true
and-second true b e = e
and-second false b e = absurd (true≢false (sym e))

-- one of three is false
one-false : {P : Type 0} (a b c : Bool) → ((a && b) && c) ≡ false → (a ≡ false → P) → (b ≡ false → P) → (c ≡ false → P) → P
one-false false b c e f g h = f refl
one-false true false c e f g h = g refl
one-false true true false e f g h = h refl
one-false true true true e f g h = absurd (true≢false e)

module _ (text room : List ℕ) (n byte : ℕ) (all high low : Bool) (inside : n < length room) (sized : length text ≡ 2 * length room)
    (is_high : high ≡ is_lower_digit (get_or text (2 * n) 0)) (is_low : low ≡ is_lower_digit (get_or text (2 * n + 1) 0))
    (writes : is_lower_digit (get_or text (2 * n) 0) ≡ true → is_lower_digit (get_or text (2 * n + 1) 0) ≡ true
    → byte ≡ digit_value (get_or text (2 * n) 0) * 16 + digit_value (get_or text (2 * n + 1) 0)) where
  next : 2 * n + 1 ≡ suc (2 * n)
  next = omega arith

  this-pair : high ≡ true → low ≡ true → PairAt text (2 * n) byte
  this-pair h l =
      let a = sym is_high ∙ h in
      let b = sym is_low ∙ l in
      record {
        high = a;
        low = subst (λ i. is_lower_digit (get_or text i 0) ≡ true) next b;
        written = subst (λ i. byte ≡ digit_value (get_or text (2 * n) 0) * 16 + digit_value (get_or text i 0)) next (writes a b);
      }

  pub pairs-more : PairsRead text room n all → PairsRead text (slice_set room n byte) (n + 1) ((all && high) && low)
  pairs-more h =
      record {
        pairs = λ e k l.
            elim (cases_eq k n) [
              | inl same ↦ subst (PairAt text (2 * k)) (sym (get_or-set_at room n k byte 0 same inside))
                  (subst (λ j. PairAt text (2 * j) byte) (sym same)
                  (this-pair (and-second all high (and-first (all && high) low e)) (and-second (all && high) low e)))
              | inr other ↦ subst (PairAt text (2 * k)) (sym (get_or-set_other room n k byte 0 other))
                  (h.pairs (and-first all high (and-first (all && high) low e)) k (omega (arith, l, other)))
            ];
        none = λ e. one-false all high low e h.none
            (λ f. bad-none text (2 * n) (omega (arith, inside, sized)) (sym is_high ∙ f))
            (λ f. bad-none text (2 * n + 1) (omega (arith, inside, sized)) (sym is_low ∙ f));
      }

pub pairs-found : (text room : List ℕ) → length text ≡ 2 * length room → PairsRead text room (length room) true → read_lower_hex text ≡ Some room
pairs-found text room e h =
    ap (λ b. if b then None else hex_bytes text) (no-capitals text room e (h.pairs refl)) ∙ hex-read text room e (h.pairs refl)

pub pairs-on_true : (text room : List ℕ) (n : ℕ) (all : Bool) → length text ≡ 2 * length room → n ≡ length room → PairsRead text room n all
    → OnTrue all (read_lower_hex text ≡ Some room)
pairs-on_true text room n true e l h = pairs-found text room e (subst (λ m. PairsRead text room m true) l h)
pairs-on_true text room n false e l h = tt
