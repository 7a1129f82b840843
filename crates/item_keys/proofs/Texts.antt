-- The number of a text among distinct ones.
use Rattle.std.proofs.Common.{◌≡◌, ◌∙◌, ◌+◌, ◌<◌, ◌||◌, ◌++◌, ℕ, zero, suc, Bool, true, false, not, List, [], ◌∷◌, length, get_or}
use Rattle.std.proofs.Common.{inl, inr, refl, sym, ap, subst, arith}
use Rattle.std.proofs.Math.Seq.{get_or-append_seam}
use Rattle.std.proofs.lemmas.Bool.{cases_eq, false_from_ne_true, false≢true, or_left}
use Rattle.std.proofs.lemmas.List.{get_or_append_left, length-append}
use Rattle.std.proofs.lemmas.Slice.Eq.{bytes_eq-Decides}
use Rattle.std.specs.Prelude.{if◌then◌else◌}
use Rattle.std.specs.Str.{bytes_eq}
use Rattle.stage_model.specs.Dictionary.{has_bytes}
use Rattle.item_keys.specs.Distinct.{number_of, texts_with}

-- ---- texts that are the same

pub same-is : (a b : List ℕ) → bytes_eq a b ≡ true → a ≡ b
same-is a b e = (bytes_eq-Decides a b).0 e

pub same-self : (a : List ℕ) → bytes_eq a a ≡ true
same-self a = (bytes_eq-Decides a a).1 refl

-- ---- whether a text is among others, and where

right-too : (a b : Bool) → b ≡ true → (a || b) ≡ true
right-too true b e = refl
right-too false b e = e

pub has-at : (texts : List (List ℕ)) (n : ℕ) (text : List ℕ) → n < length texts → bytes_eq (get_or texts n []) text ≡ true → has_bytes texts text ≡ true
has-at [] n text small e = absurd (omega (arith, small))
has-at (t ∷ ts) zero text small e = or_left (bytes_eq t text) (has_bytes ts text) e
has-at (t ∷ ts) (suc n) text small e =
    right-too (bytes_eq t text) (has_bytes ts text) (has-at ts n text (omega (arith, small)) e)

pub has-none : (texts : List (List ℕ)) (text : List ℕ) → ((i : ℕ) → i < length texts → bytes_eq (get_or texts i []) text ≡ false)
    → has_bytes texts text ≡ false
has-none [] text none = refl
has-none (t ∷ ts) text none =
    λ k. none 0 (omega arith) k || has-none ts text (λ i small. none (suc i) (omega (arith, small))) k

pub none-has : (texts : List (List ℕ)) (text : List ℕ) (i : ℕ) → has_bytes texts text ≡ false → i < length texts
    → bytes_eq (get_or texts i []) text ≡ false
none-has texts text i new small =
    false_from_ne_true (bytes_eq (get_or texts i []) text) (λ e. false≢true (sym new ∙ has-at texts i text small e))

pub number-at : (texts : List (List ℕ)) (n : ℕ) (text : List ℕ) → n < length texts → bytes_eq (get_or texts n []) text ≡ true
    → ((i : ℕ) → i < length texts → bytes_eq (get_or texts i []) text ≡ true → i ≡ n) → n ≡ number_of texts text
number-at [] n text small e only = absurd (omega (arith, small))
number-at (t ∷ ts) zero text small e only = sym (ap (λ (b : Bool). if not b then 1 + number_of ts text else 0) e)
number-at (t ∷ ts) (suc n) text small e only =
    let no : bytes_eq t text ≡ false =
    false_from_ne_true (bytes_eq t text) (λ y. absurd (omega (arith, only 0 (omega arith) y))) in
    let more : n ≡ number_of ts text =
    number-at ts n text (omega (arith, small)) e (λ i near y. omega (arith, only (suc i) (omega (arith, near)) y)) in
    let here : suc n ≡ 1 + number_of ts text = omega (arith, more) in
    here ∙ sym (ap (λ (b : Bool). if not b then 1 + number_of ts text else 0) no)

pub number-none : (texts : List (List ℕ)) (text : List ℕ) → has_bytes texts text ≡ false → length texts ≡ number_of texts text
number-none [] text new = refl
number-none (t ∷ ts) text new =
    let no : bytes_eq t text ≡ false = none-has (t ∷ ts) text 0 new (omega arith) in
    let rest : has_bytes ts text ≡ false =
    has-none ts text (λ i small. none-has (t ∷ ts) text (suc i) new (omega (arith, small))) in
    let here : suc (length ts) ≡ 1 + number_of ts text = omega (arith, number-none ts text rest) in
    here ∙ sym (ap (λ (b : Bool). if not b then 1 + number_of ts text else 0) no)

pub with-old : (texts : List (List ℕ)) (text : List ℕ) → has_bytes texts text ≡ true → texts ≡ texts_with texts text
with-old texts text e = sym (ap (λ (b : Bool). if b then texts else texts ++ text ∷ []) e)

pub with-new : (texts : List (List ℕ)) (text : List ℕ) → has_bytes texts text ≡ false → texts ++ text ∷ [] ≡ texts_with texts text
with-new texts text e = sym (ap (λ (b : Bool). if b then texts else texts ++ text ∷ []) e)

-- ---- one text more

-- the texts are all different
abbrev pub Differ : List (List ℕ) → Type 0
Differ texts = (i j : ℕ) → i < length texts → j < length texts → bytes_eq (get_or texts i []) (get_or texts j []) ≡ true → i ≡ j

pub old-text : (texts : List (List ℕ)) (text : List ℕ) (i : ℕ) → i < length texts → get_or (texts ++ text ∷ []) i [] ≡ get_or texts i []
old-text texts text i small = get_or_append_left texts (text ∷ []) [] i small

pub new-text : (texts : List (List ℕ)) (text : List ℕ) → get_or (texts ++ text ∷ []) (length texts) [] ≡ text
new-text texts text = get_or-append_seam texts text [] []

pub turned : (a b : List ℕ) → bytes_eq a b ≡ true → bytes_eq b a ≡ true
turned a b e = subst (λ (x : List ℕ). bytes_eq b x ≡ true) (sym (same-is a b e)) (same-self b)

pub same-by : (a c b d : List ℕ) → a ≡ c → b ≡ d → bytes_eq a b ≡ true → bytes_eq c d ≡ true
same-by a c b d e f same = subst (λ (x : List ℕ). bytes_eq x d ≡ true) e (subst (λ (y : List ℕ). bytes_eq a y ≡ true) f same)

pub differ-more : (texts : List (List ℕ)) (text : List ℕ) → has_bytes texts text ≡ false → Differ texts → Differ (texts ++ text ∷ [])
differ-more texts text new differ i j near far e =
    let all = texts ++ text ∷ [] in
    let many = length-append texts (text ∷ []) in
    elim (cases_eq i (length texts)) [
      | inl last ↦ elim (cases_eq j (length texts)) [
        | inl same ↦ omega (arith, last, same)
        | inr other ↦
            let small : j < length texts = omega (arith, far, many, other) in
            let own = same-by (get_or all i []) text (get_or all j []) (get_or texts j [])
            (ap (λ n. get_or all n []) last ∙ new-text texts text) (old-text texts text j small) e in
            absurd (false≢true (sym (none-has texts text j new small) ∙ turned text (get_or texts j []) own))
      ]
      | inr other ↦
          let small : i < length texts = omega (arith, near, many, other) in
          elim (cases_eq j (length texts)) [
            | inl same ↦
                let own = same-by (get_or all i []) (get_or texts i []) (get_or all j []) text
                (old-text texts text i small) (ap (λ n. get_or all n []) same ∙ new-text texts text) e in
                absurd (false≢true (sym (none-has texts text i new small) ∙ own))
            | inr apart ↦
                let close : j < length texts = omega (arith, far, many, apart) in
                differ i j small close (same-by (get_or all i []) (get_or texts i []) (get_or all j []) (get_or texts j [])
                (old-text texts text i small) (old-text texts text j close) e)
          ]
    ]
