-- Distinct texts, and what becomes of them with each value.
use Rattle.std.proofs.Common.{◌≡◌, ◌∙◌, ◌+◌, ◌||◌, ◌++◌, ℕ, suc, pos, Bool, true, false, not, List, [], ◌∷◌, length, map}
use Rattle.std.proofs.Common.{refl, sym, ap, arith, true≢false}
use Rattle.std.specs.Prelude.{if◌then◌else◌}
use Rattle.std.specs.List.{position_or_len}
use Rattle.std.specs.Str.{bytes_eq}
use Rattle.std.proofs.lemmas.Cmp.{nat_list_eq_equiv}
use Rattle.std.proofs.lemmas.List.Folds.{list_any-append}
use Rattle.data_types.specs.promise.Value.{Value, Null, Truth, Whole, Bits, Bytes, Items, Fields}
use Rattle.stage_model.specs.promise.Dictionary.{Dictionary, distinct_behind}
use Rattle.stage_model.specs.Dictionary.{has_bytes}
use Rattle.dict_stage.specs.Indices.{Indices, index_in, is_text}
use Rattle.item_keys.specs.Distinct.{number_of, texts_with}
use Rattle.dict_stage.specs.Texts.{index_by, texts_after}

-- ---- one more

pub with-old : (texts : List (List ℕ)) (text : List ℕ) → has_bytes texts text ≡ true → texts_with texts text ≡ texts
with-old texts text e = ap (λ (b : Bool). if b then texts else texts ++ text ∷ []) e

pub with-new : (texts : List (List ℕ)) (text : List ℕ) → has_bytes texts text ≡ false → texts_with texts text ≡ texts ++ text ∷ []
with-new texts text e = ap (λ (b : Bool). if b then texts else texts ++ text ∷ []) e

-- the same texts are among both
abbrev AreSame : List (List ℕ) → List (List ℕ) → Type 0
AreSame before texts = (q : List ℕ) → has_bytes before q ≡ has_bytes texts q

swapped : (a b : Bool) → (a || b) ≡ (b || (a || false))
swapped true true = refl
swapped true false = refl
swapped false true = refl
swapped false false = refl

same-more : (before texts : List (List ℕ)) (text : List ℕ) → AreSame before texts → AreSame (text ∷ before) (texts ++ text ∷ [])
same-more before texts text same q =
    ap (λ (b : Bool). bytes_eq text q || b) (same q) ∙ swapped (bytes_eq text q) (has_bytes texts q)
    ∙ sym (list_any-append (λ (t : List ℕ). bytes_eq t q) texts (text ∷ []))

map-push : (texts : List (List ℕ)) (text : List ℕ) (rest : List Value) → map Bytes (texts ++ text ∷ []) ++ rest ≡ map Bytes texts ++ Bytes text ∷ rest
map-push [] text rest = refl
map-push (t ∷ texts) text rest = ap (λ (vs : List Value). Bytes t ∷ vs) (map-push texts text rest)

nothing-more : (xs : List Value) → xs ≡ xs ++ []
nothing-more [] = refl
nothing-more (x ∷ xs) = ap (λ (vs : List Value). x ∷ vs) (nothing-more xs)

-- what is to be shown of some values, whatever came before
abbrev AfterIs : List Value → Type 0
AfterIs vs = (before texts : List (List ℕ)) → AreSame before texts → map Bytes (texts_after texts vs) ≡ map Bytes texts ++ distinct_behind before vs

after-text : (b : Bool) (before texts : List (List ℕ)) (text : List ℕ) (vs : List Value) → has_bytes before text ≡ b → AreSame before texts → AfterIs vs
    → map Bytes (texts_after (texts_with texts text) vs) ≡ map Bytes texts ++ distinct_behind before (Bytes text ∷ vs)
after-text true before texts text vs e same more =
    ap (λ (ts : List (List ℕ)). map Bytes (texts_after ts vs)) (with-old texts text (sym (same text) ∙ e)) ∙ more before texts same
    ∙ ap (λ (c : Bool). map Bytes texts ++ (if c then distinct_behind before vs else Bytes text ∷ distinct_behind (text ∷ before) vs)) (sym e)
after-text false before texts text vs e same more =
    ap (λ (ts : List (List ℕ)). map Bytes (texts_after ts vs)) (with-new texts text (sym (same text) ∙ e))
    ∙ more (text ∷ before) (texts ++ text ∷ []) (same-more before texts text same)
    ∙ map-push texts text (distinct_behind (text ∷ before) vs)
    ∙ ap (λ (c : Bool). map Bytes texts ++ (if c then distinct_behind before vs else Bytes text ∷ distinct_behind (text ∷ before) vs)) (sym e)

after-is : (vs : List Value) → AfterIs vs
after-is [] before texts same = nothing-more (map Bytes texts)
after-is (Bytes text ∷ vs) before texts same = after-text (has_bytes before text) before texts text vs refl same (after-is vs)
after-is (Null ∷ vs) before texts same = after-is vs before texts same
after-is (Truth t ∷ vs) before texts same = after-is vs before texts same
after-is (Whole n ∷ vs) before texts same = after-is vs before texts same
after-is (Bits n ∷ vs) before texts same = after-is vs before texts same
after-is (Items xs ∷ vs) before texts same = after-is vs before texts same
after-is (Fields xs ∷ vs) before texts same = after-is vs before texts same

-- the texts after values are their dictionary
pub dictionary-is : (vs : List Value) → map Bytes (texts_after [] vs) ≡ Dictionary vs
dictionary-is vs = after-is vs [] [] (λ q. refl)

pub after-push : (texts : List (List ℕ)) (vs : List Value) (v : Value) → texts_after texts (vs ++ v ∷ []) ≡ texts_after (texts_after texts vs) (v ∷ [])
after-push texts [] v = refl
after-push texts (Bytes text ∷ vs) v = after-push (texts_with texts text) vs v
after-push texts (Null ∷ vs) v = after-push texts vs v
after-push texts (Truth t ∷ vs) v = after-push texts vs v
after-push texts (Whole n ∷ vs) v = after-push texts vs v
after-push texts (Bits n ∷ vs) v = after-push texts vs v
after-push texts (Items xs ∷ vs) v = after-push texts vs v
after-push texts (Fields xs ∷ vs) v = after-push texts vs v

-- ---- indices

abbrev there : List ℕ → List ℕ → Bool
there q t = bytes_eq t q

-- a text that is among them keeps its number
keeps-number : (texts : List (List ℕ)) (text q : List ℕ) → has_bytes texts q ≡ true → number_of (texts ++ text ∷ []) q ≡ number_of texts q
keeps-number [] text q has = absurd (true≢false (sym has))
keeps-number (t ∷ texts) text q has =
    elim (bytes_eq t q) as (λ b. (b || has_bytes texts q) ≡ true
    → (if not b then 1 + number_of (texts ++ text ∷ []) q else 0) ≡ (if not b then 1 + number_of texts q else 0)) [
      | true ↦ λ h. refl
      | false ↦ λ h. ap (λ n. 1 + n) (keeps-number texts text q h)
    ] has

-- one that isn't gets the next number
next-number : (texts : List (List ℕ)) (text : List ℕ) → has_bytes texts text ≡ false → number_of texts text ≡ length texts
next-number [] text has = refl
next-number (t ∷ texts) text has =
    elim (bytes_eq t text) as (λ b. (b || has_bytes texts text) ≡ false → (if not b then 1 + number_of texts text else 0) ≡ suc (length texts)) [
      | true ↦ λ h. absurd (true≢false h)
      | false ↦ λ h. let e = next-number texts text h in omega (arith, e)
    ] has

own-number : (texts : List (List ℕ)) (text : List ℕ) → has_bytes texts text ≡ false → number_of (texts ++ text ∷ []) text ≡ length texts
own-number [] text has = ap (λ (b : Bool). if not b then 1 + 0 else 0) (nat_list_eq_equiv.refl text)
own-number (t ∷ texts) text has =
    elim (bytes_eq t text) as (λ b. (b || has_bytes texts text) ≡ false → (if not b then 1 + number_of (texts ++ text ∷ []) text else 0) ≡ suc (length texts)) [
      | true ↦ λ h. absurd (true≢false h)
      | false ↦ λ h. let e = own-number texts text h in omega (arith, e)
    ] has

same-number-by : (b : Bool) (texts : List (List ℕ)) (text : List ℕ) → has_bytes texts text ≡ b → number_of texts text ≡ number_of (texts_with texts text) text
same-number-by true texts text e = ap (λ (ts : List (List ℕ)). number_of ts text) (sym (with-old texts text e))
same-number-by false texts text e =
    next-number texts text e ∙ sym (own-number texts text e) ∙ ap (λ (ts : List (List ℕ)). number_of ts text) (sym (with-new texts text e))

pub same-number : (texts : List (List ℕ)) (text : List ℕ) → number_of texts text ≡ number_of (texts_with texts text) text
same-number texts text = same-number-by (has_bytes texts text) texts text refl

-- the texts among values are among these
abbrev pub AreIn : List (List ℕ) → List Value → Type 0
AreIn texts [] = Unit {0}
AreIn texts (Bytes text ∷ vs) = (has_bytes texts text ≡ true) × AreIn texts vs
AreIn texts (_ ∷ vs) = AreIn texts vs

or-right : (a b : Bool) → b ≡ true → (a || b) ≡ true
or-right true b e = refl
or-right false b e = e

or-left : (a b : Bool) → a ≡ true → (a || b) ≡ true
or-left true b e = refl
or-left false b e = absurd (true≢false (sym e))

has-push : (texts : List (List ℕ)) (text q : List ℕ) → has_bytes texts q ≡ true → has_bytes (texts ++ text ∷ []) q ≡ true
has-push texts text q has = list_any-append (there q) texts (text ∷ []) ∙ or-left (has_bytes texts q) (has_bytes (text ∷ []) q) has

has-own : (texts : List (List ℕ)) (text : List ℕ) → has_bytes (texts ++ text ∷ []) text ≡ true
has-own texts text =
    list_any-append (there text) texts (text ∷ [])
    ∙ or-right (has_bytes texts text) (has_bytes (text ∷ []) text) (or-left (bytes_eq text text) false (nat_list_eq_equiv.refl text))

has-with-by : (b : Bool) (texts : List (List ℕ)) (text q : List ℕ) → has_bytes texts text ≡ b → has_bytes texts q ≡ true
    → has_bytes (texts_with texts text) q ≡ true
has-with-by true texts text q e has = ap (λ (ts : List (List ℕ)). has_bytes ts q) (with-old texts text e) ∙ has
has-with-by false texts text q e has = ap (λ (ts : List (List ℕ)). has_bytes ts q) (with-new texts text e) ∙ has-push texts text q has

has-with : (texts : List (List ℕ)) (text q : List ℕ) → has_bytes texts q ≡ true → has_bytes (texts_with texts text) q ≡ true
has-with texts text q has = has-with-by (has_bytes texts text) texts text q refl has

has-after : (texts : List (List ℕ)) (vs : List Value) (q : List ℕ) → has_bytes texts q ≡ true → has_bytes (texts_after texts vs) q ≡ true
has-after texts [] q has = has
has-after texts (Bytes text ∷ vs) q has = has-after (texts_with texts text) vs q (has-with texts text q has)
has-after texts (Null ∷ vs) q has = has-after texts vs q has
has-after texts (Truth t ∷ vs) q has = has-after texts vs q has
has-after texts (Whole n ∷ vs) q has = has-after texts vs q has
has-after texts (Bits n ∷ vs) q has = has-after texts vs q has
has-after texts (Items xs ∷ vs) q has = has-after texts vs q has
has-after texts (Fields xs ∷ vs) q has = has-after texts vs q has

own-with-by : (b : Bool) (texts : List (List ℕ)) (text : List ℕ) → has_bytes texts text ≡ b → has_bytes (texts_with texts text) text ≡ true
own-with-by true texts text e = ap (λ (ts : List (List ℕ)). has_bytes ts text) (with-old texts text e) ∙ e
own-with-by false texts text e = ap (λ (ts : List (List ℕ)). has_bytes ts text) (with-new texts text e) ∙ has-own texts text

pub are-in-after : (texts : List (List ℕ)) (vs : List Value) → AreIn (texts_after texts vs) vs
are-in-after texts [] = tt
are-in-after texts (Bytes text ∷ vs) = (
  has-after (texts_with texts text) vs text (own-with-by (has_bytes texts text) texts text refl),
  are-in-after (texts_with texts text) vs,
)
are-in-after texts (Null ∷ vs) = are-in-after texts vs
are-in-after texts (Truth t ∷ vs) = are-in-after texts vs
are-in-after texts (Whole n ∷ vs) = are-in-after texts vs
are-in-after texts (Bits n ∷ vs) = are-in-after texts vs
are-in-after texts (Items xs ∷ vs) = are-in-after texts vs
are-in-after texts (Fields xs ∷ vs) = are-in-after texts vs

keeps-with-by : (b : Bool) (texts : List (List ℕ)) (text q : List ℕ) → has_bytes texts text ≡ b → has_bytes texts q ≡ true
    → number_of (texts_with texts text) q ≡ number_of texts q
keeps-with-by true texts text q e has = ap (λ (ts : List (List ℕ)). number_of ts q) (with-old texts text e)
keeps-with-by false texts text q e has = ap (λ (ts : List (List ℕ)). number_of ts q) (with-new texts text e) ∙ keeps-number texts text q has

-- the indices of values whose texts are among them stay
pub indices-stay : (texts : List (List ℕ)) (text : List ℕ) (vs : List Value) → AreIn texts vs
    → map (index_by (texts_with texts text)) vs ≡ map (index_by texts) vs
indices-stay texts text [] are = refl
indices-stay texts text (Bytes q ∷ vs) are =
    λ i. Whole (pos (keeps-with-by (has_bytes texts text) texts text q refl are.0 i)) ∷ indices-stay texts text vs are.1 i
indices-stay texts text (Null ∷ vs) are = ap (λ (xs : List Value). Null ∷ xs) (indices-stay texts text vs are)
indices-stay texts text (Truth t ∷ vs) are = ap (λ (xs : List Value). Null ∷ xs) (indices-stay texts text vs are)
indices-stay texts text (Whole n ∷ vs) are = ap (λ (xs : List Value). Null ∷ xs) (indices-stay texts text vs are)
indices-stay texts text (Bits n ∷ vs) are = ap (λ (xs : List Value). Null ∷ xs) (indices-stay texts text vs are)
indices-stay texts text (Items ys ∷ vs) are = ap (λ (xs : List Value). Null ∷ xs) (indices-stay texts text vs are)
indices-stay texts text (Fields ys ∷ vs) are = ap (λ (xs : List Value). Null ∷ xs) (indices-stay texts text vs are)

-- ---- the same of the dictionary's values

number-in : (texts : List (List ℕ)) (text : List ℕ) → position_or_len (is_text text) (map Bytes texts) ≡ number_of texts text
number-in [] text = refl
number-in (t ∷ texts) text = ap (λ n. if not (bytes_eq t text) then 1 + n else 0) (number-in texts text)

index-in : (texts : List (List ℕ)) (v : Value) → index_in (map Bytes texts) v ≡ index_by texts v
index-in texts (Bytes text) = ap (λ n. Whole (pos n)) (number-in texts text)
index-in texts Null = refl
index-in texts (Truth t) = refl
index-in texts (Whole n) = refl
index-in texts (Bits n) = refl
index-in texts (Items xs) = refl
index-in texts (Fields xs) = refl

indices-in : (texts : List (List ℕ)) (vs : List Value) → map (index_by texts) vs ≡ map (index_in (map Bytes texts)) vs
indices-in texts [] = refl
indices-in texts (v ∷ vs) = λ i. sym (index-in texts v) i ∷ indices-in texts vs i

pub indices-are : (vs : List Value) → map (index_by (texts_after [] vs)) vs ≡ Indices vs
indices-are vs = indices-in (texts_after [] vs) vs ∙ ap (λ (entries : List Value). map (index_in entries) vs) (dictionary-is vs)
