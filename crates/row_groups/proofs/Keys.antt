-- The numbers of texts and of a null, and what becomes of them with each key.
use Rattle.std.proofs.Common.{◌≡◌, ◌≢◌, ◌∙◌, ◌+◌, ◌-◌, ◌<◌, ◌≤◌, ◌++◌, ℕ, suc, Bool, true, false, not, List, [], ◌∷◌, length, get_or, None, Some}
use Rattle.std.proofs.Common.{inl, inr, refl, sym, ap, arith}
use Rattle.std.proofs.Math.Seq.{get_or-append_seam}
use Rattle.std.proofs.lemmas.Bool.{cases_eq, false_from_ne_true, false≢true}
use Rattle.std.proofs.lemmas.Bool.Decides.{nat_tests}
use Rattle.std.proofs.lemmas.List.{get_or_append_left, length-append}
use Rattle.std.proofs.lemmas.List.Sums.{fails_before_first, passes_at_first}
use Rattle.std.proofs.lemmas.Option.{none-some, same_Some}
use Rattle.std.proofs.lemmas.Slice.Eq.{bytes_eq-Decides}
use Rattle.std.specs.Prelude.{if◌then◌else◌, nat_eq, nat_lt, Option, ◌||◌}
use Rattle.std.specs.Str.{bytes_eq}
use Rattle.stage_model.specs.Dictionary.{has_bytes}
use Rattle.item_keys.specs.Distinct.{number_of}
use Rattle.row_groups.specs.Numbering.{AreKeys, IsNumber, Key, same_key, shifted}

-- ---- texts alone

pub number-few : (texts : List (List ℕ)) (text : List ℕ) → number_of texts text ≤ length texts
number-few [] text = omega arith
number-few (t ∷ texts) text =
    let e = number-few texts text in
    elim (bytes_eq t text) as (λ b. (if not b then 1 + number_of texts text else 0) ≤ suc (length texts)) [ true ↦ omega arith | false ↦ omega (arith, e) ]

pub number-new : (texts : List (List ℕ)) (text : List ℕ) → not (has_bytes texts text) ≡ nat_eq (number_of texts text) (length texts)
number-new [] text = refl
number-new (t ∷ texts) text =
    let e = number-new texts text in
    elim (bytes_eq t text) as (λ b. not (b || has_bytes texts text) ≡ nat_eq (if not b then 1 + number_of texts text else 0) (suc (length texts))) [
      | true ↦ grind (arith, nat_tests)
      | false ↦ e ∙ grind (arith, nat_tests)
    ]

abbrev Differ : List (List ℕ) → Type 0
Differ texts = (i j : ℕ) → i < length texts → j < length texts → bytes_eq (get_or texts i []) (get_or texts j []) ≡ true → i ≡ j

same-text : (a b text : List ℕ) → bytes_eq a text ≡ true → bytes_eq b text ≡ true → bytes_eq a b ≡ true
same-text a b text e f = (bytes_eq-Decides a b).1 ((bytes_eq-Decides a text).0 e ∙ sym ((bytes_eq-Decides b text).0 f))

pub is-number : (texts : List (List ℕ)) (text : List ℕ) → Differ texts → (t : ℕ) → t < length texts
    → bytes_eq (get_or texts t []) text ≡ nat_eq t (number_of texts text)
is-number texts text differ t small =
    let n = number_of texts text in
    elim (cases_eq t n) [
      | inl same ↦
          let yes : nat_eq t n ≡ true = grind (arith, nat_tests, same) in
          let passes = passes_at_first (λ (x : List ℕ). bytes_eq x text) texts [] (omega (arith, small, same)) in
          ap (λ k. bytes_eq (get_or texts k []) text) same ∙ passes ∙ sym yes
      | inr other ↦
          let no : nat_eq t n ≡ false = grind (arith, nat_tests, other) in
          false_from_ne_true (bytes_eq (get_or texts t []) text) (λ yes. pick (nat_lt t n) refl other yes) ∙ sym no
    ]
  where
    pick : (b : Bool) → nat_lt t (number_of texts text) ≡ b → t ≢ number_of texts text → bytes_eq (get_or texts t []) text ≡ true → ⊥
    pick true below other e =
        let less : t < number_of texts text = grind (arith, nat_tests, below) in
        false≢true (sym (fails_before_first (λ (x : List ℕ). bytes_eq x text) texts t [] less) ∙ e)
    pick false above other e =
        let n = number_of texts text in
        let more : n < t = grind (arith, nat_tests, above, other) in
        other (differ t n small (omega (arith, more, small)) (same-text (get_or texts t []) (get_or texts n []) text e
        (passes_at_first (λ (x : List ℕ). bytes_eq x text) texts [] (omega (arith, more, small)))))

-- ---- texts and a null

eq-both : (p q r s : ℕ) → (p ≡ q → r ≡ s) → (r ≡ s → p ≡ q) → nat_eq p q ≡ nat_eq r s
eq-both p q r s to back = elim (cases_eq p q) [
  | inl e ↦
      let f = to e in
      let x : nat_eq p q ≡ true = grind (arith, nat_tests, e) in
      let y : nat_eq r s ≡ true = grind (arith, nat_tests, f) in
      x ∙ sym y
  | inr n ↦
      let m : r ≢ s = λ f. n (back f) in
      let x : nat_eq p q ≡ false = grind (arith, nat_tests, n) in
      let y : nat_eq r s ≡ false = grind (arith, nat_tests, m) in
      x ∙ sym y
]

shift-below : (a t : ℕ) → t < a → shifted (Some a) t ≡ t
shift-below a t small =
    let yes : nat_lt t a ≡ true = grind (arith, nat_tests, small) in
    ap (λ (b : Bool). if b then t else t + 1) yes

shift-above : (a t : ℕ) → a ≤ t → shifted (Some a) t ≡ t + 1
shift-above a t large =
    let no : nat_lt t a ≡ false = grind (arith, nat_tests, large) in
    ap (λ (b : Bool). if b then t else t + 1) no

data Side (a t : ℕ) : Type 0 where
  under : t < a → shifted (Some a) t ≡ t → Side a t
  over : a ≤ t → shifted (Some a) t ≡ t + 1 → Side a t

side : (a t : ℕ) → Side a t
side a t = pick (nat_lt t a) refl
  where
    pick : (b : Bool) → nat_lt t a ≡ b → Side a t
    pick true e = let less : t < a = grind (arith, nat_tests, e) in under less (shift-below a t less)
    pick false e = let more : a ≤ t = grind (arith, nat_tests, e) in over more (shift-above a t more)

pub shift-least : (null : Option ℕ) (t : ℕ) → t ≤ shifted null t
shift-least None t = omega arith
shift-least (Some a) t = elim (side a t) [ under small is ↦ omega (arith, is) | over large is ↦ omega (arith, is) ]

-- where the null is, no text is
shift-misses : (a t : ℕ) → shifted (Some a) t ≢ a
shift-misses a t = elim (side a t) [ under small is ↦ λ e. omega (arith, small, is, e) | over large is ↦ λ e. omega (arith, large, is, e) ]

pub is-text : (null : Option ℕ) (texts : List (List ℕ)) (keys : List Key) (text : List ℕ) (m : ℕ) → AreKeys null texts keys
    → ((t : ℕ) → t < length texts → bytes_eq (get_or texts t []) text ≡ nat_eq t m)
    → (k : ℕ) → k < length keys → same_key (get_or keys k None) (Some text) ≡ nat_eq k (shifted null m)
is-text None texts keys text m are own k small =
    let near : k < length texts = omega (arith, small, are.many) in
    ap (λ (x : Key). same_key x (Some text)) (are.text k near) ∙ own k near
is-text (Some a) texts keys text m are own k small = elim (cases_eq k a) [
  | inl at ↦
      let miss = shift-misses a m in
      let no : nat_eq k (shifted (Some a) m) ≡ false = false_from_ne_true _ (λ y.
      let e : k ≡ shifted (Some a) m = grind (arith, nat_tests, y) in
      miss (sym e ∙ at)) in
      ap (λ n. same_key (get_or keys n None) (Some text)) at ∙ ap (λ (x : Key). same_key x (Some text)) (are.null_is a refl).1 ∙ sym no
  | inr apart ↦ pick (nat_lt k a) refl apart
]
  where
    few : a ≤ length texts
    few = (are.null_is a refl).0

    many : length keys ≡ length texts + 1
    many = are.many ∙ shift-above a (length texts) few

    at-text : (t : ℕ) → t < length texts → shifted (Some a) t ≡ k → nat_eq t m ≡ nat_eq k (shifted (Some a) m)
        → same_key (get_or keys k None) (Some text) ≡ nat_eq k (shifted (Some a) m)
    at-text t near is e =
        ap (λ n. same_key (get_or keys n None) (Some text)) (sym is) ∙ ap (λ (x : Key). same_key x (Some text)) (are.text t near) ∙ own t near ∙ e

    pick : (b : Bool) → nat_lt k a ≡ b → k ≢ a → same_key (get_or keys k None) (Some text) ≡ nat_eq k (shifted (Some a) m)
    pick true e apart =
        let less : k < a = grind (arith, nat_tests, e) in
        at-text k (omega (arith, less, few)) (shift-below a k less) (elim (side a m) [
          | under small is ↦ ap (nat_eq k) (sym is)
          | over large is ↦ eq-both k m k (shifted (Some a) m) (λ f. omega (arith, f, less, large)) (λ f. omega (arith, f, less, large, is))
        ])
    pick false e apart =
        let more : a < k = grind (arith, nat_tests, e, apart) in
        let before : shifted (Some a) (k - 1) ≡ k - 1 + 1 = shift-above a (k - 1) (omega (arith, more)) in
        at-text (k - 1) (omega (arith, more, small, many)) (omega (arith, before, more)) (elim (side a m) [
          | under small is ↦ eq-both (k - 1) m k (shifted (Some a) m) (λ f. omega (arith, f, more, small)) (λ f. omega (arith, f, more, small, is))
          | over large is ↦ eq-both (k - 1) m k (shifted (Some a) m) (λ f. omega (arith, f, more, is)) (λ f. omega (arith, f, more, is))
        ])

shift-less : (null : Option ℕ) (t u : ℕ) → t < u → shifted null t < shifted null u
shift-less None t u less = less
shift-less (Some a) t u less = elim (side a t) [
  | under small is ↦ elim (side a u) [ under s i ↦ omega (arith, less, is, i) | over l i ↦ omega (arith, less, is, i) ]
  | over large is ↦ elim (side a u) [ under s i ↦ omega (arith, less, large, s) | over l i ↦ omega (arith, less, is, i) ]
]

shift-within : (null : Option ℕ) (t u : ℕ) → t ≤ u → shifted null t ≤ shifted null u
shift-within null t u le = elim (cases_eq t u) [
  | inl e ↦ omega (arith, ap (shifted null) e)
  | inr n ↦ let h = shift-less null t u (omega (arith, le, n)) in omega (arith, h)
]

shift-new : (null : Option ℕ) (t u : ℕ) → t ≤ u → nat_eq t u ≡ nat_eq (shifted null t) (shifted null u)
shift-new null t u le = eq-both t u (shifted null t) (shifted null u) (ap (shifted null)) (λ e. elim (cases_eq t u) [
  | inl f ↦ f
  | inr n ↦ let h = shift-less null t u (omega (arith, le, n)) in absurd (omega (arith, h, e))
])

-- the number of a text
pub text-number : (null : Option ℕ) (texts : List (List ℕ)) (keys : List Key) (text : List ℕ) → AreKeys null texts keys → Differ texts
    → IsNumber keys (Some text) (shifted null (number_of texts text)) (not (has_bytes texts text))
text-number null texts keys text are differ =
    let n = number_of texts text in
    let few = number-few texts text in
    record {
      within = omega (arith, shift-within null n (length texts) few, are.many);
      is = is-text null texts keys text n are (is-number texts text differ);
      new_is = number-new texts text ∙ shift-new null n (length texts) few ∙ ap (nat_eq (shifted null n)) (sym are.many);
    }

-- one text more
pub text-more : (null : Option ℕ) (texts : List (List ℕ)) (keys : List Key) (text : List ℕ) → AreKeys null texts keys
    → AreKeys null (texts ++ text ∷ []) (keys ++ Some text ∷ [])
text-more null texts keys text are =
    let more = length-append texts (text ∷ []) in
    let longer = length-append keys (Some text ∷ []) in
    let behind : shifted null (length texts + 1) ≡ shifted null (length texts) + 1 = behind-of null (λ a e. (are.null_is a e).0) in
    let next : length (texts ++ text ∷ []) ≡ length texts + 1 = more in
    record {
      many = omega (arith, longer, are.many, behind, ap (shifted null) next);
      text = λ t small. elim (cases_eq t (length texts)) [
        | inl last ↦
            ap (λ n. get_or (keys ++ Some text ∷ []) n None) (ap (shifted null) last ∙ sym are.many)
            ∙ get_or-append_seam keys (Some text) [] None
            ∙ ap Some (sym (get_or-append_seam texts text [] []) ∙ ap (λ n. get_or (texts ++ text ∷ []) n []) (sym last))
        | inr other ↦
            let near : t < length texts = omega (arith, small, more, other) in
            let less = shift-less null t (length texts) near in
            get_or_append_left keys (Some text ∷ []) None (shifted null t) (omega (arith, less, are.many)) ∙ are.text t near
            ∙ ap Some (sym (get_or_append_left texts (text ∷ []) [] t near))
      ];
      null_is = λ a e.
          let old = are.null_is a e in
          let there : a < length keys =
          omega (arith, are.many, ap (λ (o : Option ℕ). shifted o (length texts)) e, shift-above a (length texts) old.0, old.0) in
          (omega (arith, more, old.0), get_or_append_left keys (Some text ∷ []) None a there ∙ old.1);
    }
  where
    behind-of : (o : Option ℕ) → ((a : ℕ) → o ≡ Some a → a ≤ length texts) → shifted o (length texts + 1) ≡ shifted o (length texts) + 1
    behind-of None few = refl
    behind-of (Some a) few =
        let le = few a refl in
        omega (arith, shift-above a (length texts + 1) (omega (arith, le)), shift-above a (length texts) le)

-- ---- the null

not-null : (x : Key) (text : List ℕ) → x ≡ Some text → same_key x None ≡ false
not-null x text e = ap (λ (k : Key). same_key k None) e

-- each key but the null is a text
pub null-number : (a : ℕ) (texts : List (List ℕ)) (keys : List Key) → AreKeys (Some a) texts keys → IsNumber keys None a false
null-number a texts keys are =
    let few = (are.null_is a refl).0 in
    let many : length keys ≡ length texts + 1 = are.many ∙ shift-above a (length texts) few in
    let behind : nat_eq a (length keys) ≡ false = grind (arith, nat_tests, many, few) in
    record { within = omega (arith, many, few); is = is; new_is = sym behind }
  where
    is : (k : ℕ) → k < length keys → same_key (get_or keys k None) None ≡ nat_eq k a
    is k small = elim (cases_eq k a) [
      | inl at ↦
          let yes : nat_eq k a ≡ true = grind (arith, nat_tests, at) in
          ap (λ n. same_key (get_or keys n None) None) at ∙ ap (λ (x : Key). same_key x None) (are.null_is a refl).1 ∙ sym yes
      | inr apart ↦
          let no : nat_eq k a ≡ false = grind (arith, nat_tests, apart) in
          pick (nat_lt k a) refl apart ∙ sym no
    ]
      where
        few : a ≤ length texts
        few = (are.null_is a refl).0

        many : length keys ≡ length texts + 1
        many = are.many ∙ shift-above a (length texts) few

        at-text : (t : ℕ) → t < length texts → shifted (Some a) t ≡ k → same_key (get_or keys k None) None ≡ false
        at-text t near e = ap (λ n. same_key (get_or keys n None) None) (sym e) ∙ not-null (get_or keys (shifted (Some a) t) None) (get_or texts t []) (are.text t near)

        pick : (b : Bool) → nat_lt k a ≡ b → k ≢ a → same_key (get_or keys k None) None ≡ false
        pick true e apart =
            let less : k < a = grind (arith, nat_tests, e) in
            at-text k (omega (arith, less, few)) (shift-below a k less)
        pick false e apart =
            let more : a < k = grind (arith, nat_tests, e, apart) in
            let before = shift-above a (k - 1) (omega (arith, more)) in
            at-text (k - 1) (omega (arith, more, small, many)) (omega (arith, before, more))

pub null-new : (texts : List (List ℕ)) (keys : List Key) → AreKeys None texts keys → IsNumber keys None (length texts) true
null-new texts keys are =
    let behind : nat_eq (length texts) (length keys) ≡ true = grind (arith, nat_tests, are.many) in
    record {
      within = omega (arith, are.many);
      is = λ k small.
          let no : nat_eq k (length texts) ≡ false = grind (arith, nat_tests, small, are.many) in
          not-null (get_or keys k None) (get_or texts k []) (are.text k (omega (arith, small, are.many))) ∙ sym no;
      new_is = sym behind;
    }

pub null-more : (texts : List (List ℕ)) (keys : List Key) → AreKeys None texts keys → AreKeys (Some (length texts)) texts (keys ++ None ∷ [])
null-more texts keys are =
    let null : Key = None in
    let longer = length-append keys (null ∷ []) in
    record {
      many = omega (arith, longer, are.many, shift-above (length texts) (length texts) (omega arith));
      text = λ t small.
          ap (λ n. get_or (keys ++ None ∷ []) n None) (shift-below (length texts) t small)
          ∙ get_or_append_left keys (None ∷ []) None t (omega (arith, small, are.many)) ∙ are.text t small;
      null_is = λ a e.
          let same : a ≡ length texts = sym (same_Some (length texts) a e) in (
            omega (arith, same),
            ap (λ n. get_or (keys ++ None ∷ []) n None) (same ∙ sym are.many) ∙ get_or-append_seam keys None [] None,
          );
    }

pub none-yet : AreKeys None [] []
none-yet = record { many = refl; text = λ t small. absurd (omega (arith, small)); null_is = λ a e. absurd (none-some a e) }
