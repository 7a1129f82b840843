-- What the slots and the tree say of a text.
use Rattle.std.proofs.Common.{◌≡◌, ◌≢◌, ◌∙◌, ◌+◌, ◌-◌, ◌<◌, ◌^◌, ◌&&◌, ℕ, Bool, true, false, List, [], Some, length, get_or}
use Rattle.std.proofs.Common.{inl, inr, refl, sym, ap, subst, arith}
use Rattle.std.proofs.lemmas.Bool.{cases_lt, cases_order, false_from_ne_true, false≢true}
use Rattle.std.proofs.lemmas.Cmp.{nat_list_eq_equiv}
use Rattle.std.proofs.lemmas.Map.Text.{is_eq-slice_cmp}
use Rattle.std.specs.Prelude.{cond, if◌then◌else◌, vec_len}
use Rattle.std.proofs.lemmas.List.{get_or-map, length-map}
use Rattle.std.specs.BTreeMap.{Updates, get}
use Rattle.std.specs.Cmp.{nat_cmp_is}
use Rattle.std.specs.Cmp.Lexicographic.{slice_cmp}
use Rattle.std.specs.Ordering.{is_eq, nat_cmp, ordering_then}
use Rattle.std.specs.Str.{bytes_eq}
use Rattle.std.specs.declared.cmp.Ordering.{Ordering}
use Rattle.std.specs.declared.cmp.Ordering.TheVariants.{Less, Equal, Greater}
use Rattle.stage_model.specs.Dictionary.{has_bytes}
use Rattle.item_keys.specs.Distinct.{AreTaken, Numbers, NumbersFew, Tree, found, key_cmp, most_steps, number_of, slot}
use Rattle.item_keys.specs.Search.{IsFull}
use Rattle.item_keys.specs.Slots.{hash_in, second_hash_in, slot_in}
use Rattle.item_keys.specs.declared.distinct.Distinct.{Distinct}
use Rattle.item_keys.proofs.Texts.{has-at, has-none, number-at, same-is, turned}
use denote.Ref.{Bor}

-- ---- the texts of what is kept are determined

pub one-list : (d : Distinct) (a b : List (List ℕ)) → Numbers d a → Numbers d b → a ≡ b
one-list d a b x y = sym x.lends ∙ y.lends

pub few-texts : (d : Distinct) (texts : List (List ℕ)) → NumbersFew d → Numbers d texts → length texts < 2 ^ 32 - 1
few-texts d texts few holds = subst (λ (ts : List (List ℕ)). length ts < 2 ^ 32 - 1) (one-list d few.0 texts few.1 holds) few.2

-- as many texts are lent
pub lent-count : (d : Distinct) (texts : List (List ℕ)) → Numbers d texts → length d.texts.items ≡ length texts
lent-count d texts holds =
    sym (length-map d.texts.items (λ (t : Bor (List ℕ)). t.now)) ∙ ap (λ (ts : List (List ℕ)). length ts) holds.lends

pub lent-number : (d : Distinct) (texts : List (List ℕ)) (n : ℕ) → Numbers d texts → n ≡ vec_len d.texts → n ≡ length texts
lent-number d texts n holds is = omega (arith, is, d.texts.ok.0, lent-count d texts holds)

pub lent-at : (d : Distinct) (texts : List (List ℕ)) (i : ℕ) (t : Bor (List ℕ)) → Numbers d texts → i < length texts
    → t ≡ get_or d.texts.items i t → get_or texts i [] ≡ t.now
lent-at d texts i t holds small is =
    ap (λ (ts : List (List ℕ)). get_or ts i []) (sym holds.lends)
    ∙ get_or-map (λ (b : Bor (List ℕ)). b.now) d.texts.items i t [] (omega (arith, small, lent-count d texts holds))
    ∙ ap (λ (b : Bor (List ℕ)). b.now) (sym is)

-- ---- a text that is one of them

-- the text of this number is the same
abbrev pub IsAt : List (List ℕ) → List ℕ → ℕ → Type 0
IsAt texts text n = (n < length texts) × (bytes_eq (get_or texts n []) text ≡ true)

pub at-has : (d : Distinct) (texts : List (List ℕ)) (text : List ℕ) (n : ℕ) → Numbers d texts → IsAt texts text n → has_bytes texts text ≡ true
at-has d texts text n holds at = has-at texts n text at.0 at.1

pub at-number : (d : Distinct) (texts : List (List ℕ)) (text : List ℕ) (n : ℕ) → Numbers d texts → IsAt texts text n → n ≡ number_of texts text
at-number d texts text n holds at =
    number-at texts n text at.0 at.1 (λ i small same.
    holds.differ i n small at.0
    (subst (λ (t : List ℕ). bytes_eq (get_or texts i []) t ≡ true) (sym (same-is (get_or texts n []) text at.1)) same))

-- ---- the tree's order

then-eq : (x o : Ordering) → is_eq (ordering_then x o) ≡ (is_eq x && is_eq o)
then-eq Less o = refl
then-eq Equal o = refl
then-eq Greater o = refl

and-false : (b : Bool) → (b && false) ≡ false
and-false true = refl
and-false false = refl

same-keys : (text key : Bor (List ℕ)) (b : Bool) → bytes_eq key.now text.now ≡ b → bytes_eq text.now key.now ≡ b
    → (is_eq (nat_cmp (second_hash_in text.now) (second_hash_in key.now)) && bytes_eq text.now key.now) ≡ b
same-keys text key false e turned = ap (λ (b : Bool). is_eq (nat_cmp (second_hash_in text.now) (second_hash_in key.now)) && b) turned
    ∙ and-false (is_eq (nat_cmp (second_hash_in text.now) (second_hash_in key.now)))
same-keys text key true e turned =
    (λ k. is_eq (nat_cmp (second_hash_in (same-is text.now key.now turned k)) (second_hash_in key.now)) && turned k)
    ∙ ap (λ (b : Bool). b && true) (ap is_eq (sym (nat_cmp_is (second_hash_in key.now) (second_hash_in key.now) Equal refl)))

pub key-same : (text key : Bor (List ℕ)) → is_eq (key_cmp (second_hash_in text.now, text) (second_hash_in key.now, key)) ≡ bytes_eq key.now text.now
key-same text key =
    then-eq (nat_cmp (second_hash_in text.now) (second_hash_in key.now)) (slice_cmp nat_cmp text.now key.now)
    ∙ ap (λ (b : Bool). is_eq (nat_cmp (second_hash_in text.now) (second_hash_in key.now)) && b) (is_eq-slice_cmp text.now key.now)
    ∙ same-keys text key (bytes_eq key.now text.now) refl (nat_list_eq_equiv.symm text.now key.now)

-- ---- the tree

pub tree-found : (tree : Tree) (second : ℕ) (text : Bor (List ℕ)) (n : ℕ) → second ≡ second_hash_in text.now
    → Some n ≡ get key_cmp tree (second, text) → found tree text ≡ Some n
tree-found tree second text n is told = ap (λ h. get key_cmp tree (h, text)) (sym is) ∙ sym told

pub tree-added : (tree after : Tree) (second : ℕ) (text : Bor (List ℕ)) (n m : ℕ) → second ≡ second_hash_in text.now → n ≡ m
    → Updates key_cmp tree after (second, text) (Some n)
    → (key : Bor (List ℕ)) → found after key ≡ (if bytes_eq key.now text.now then Some m else found tree key)
tree-added tree after second text n m is many updates key =
    updates.0 (second_hash_in key.now, key)
    ∙ (λ k. cond (is_eq (key_cmp (is k, text) (second_hash_in key.now, key))) (Some (many k)) (found tree key))
    ∙ ap (λ (b : Bool). cond b (Some m) (found tree key)) (key-same text key)

-- ---- slots that were looked at

pub at-is : (now slots text : List ℕ) (hash step at : ℕ) → now ≡ slots → hash ≡ hash_in text → at ≡ slot_in (length now) hash step
    → at ≡ slot_in (length slots) (hash_in text) step
at-is now slots text hash step at same own is = is ∙ (λ k. slot_in (length (same k)) (own k) step)

pub slot-is : (now slots text : List ℕ) (hash step at : ℕ) → now ≡ slots → hash ≡ hash_in text → at ≡ slot_in (length now) hash step
    → slot slots text step ≡ get_or now at 0
slot-is now slots text hash step at same own is =
    ap (λ n. get_or slots n 0) (sym (at-is now slots text hash step at same own is)) ∙ ap (λ (ss : List ℕ). get_or ss at 0) (sym same)

-- none of the texts before some step is the same
abbrev pub AreOthers : List (List ℕ) → List ℕ → List ℕ → ℕ → Type 0
AreOthers texts slots text steps = (step : ℕ) → step < steps → bytes_eq (get_or texts (slot slots text step - 1) []) text ≡ false

-- one slot more

pub taken-more : (slots text : List ℕ) (step : ℕ) → AreTaken slots text step → slot slots text step ≢ 0 → AreTaken slots text (step + 1)
taken-more slots text step taken here s small = elim (cases_lt s step) [
  | inl before ↦ taken s before
  | inr behind ↦
      let same : step ≡ s = omega (arith, small, behind) in
      subst (λ n. slot slots text n ≢ 0) same here
]

pub others-more : (texts : List (List ℕ)) (slots text : List ℕ) (step : ℕ) → AreOthers texts slots text step
    → bytes_eq (get_or texts (slot slots text step - 1) []) text ≡ false → AreOthers texts slots text (step + 1)
others-more texts slots text step others here s small = elim (cases_lt s step) [
  | inl before ↦ others s before
  | inr behind ↦
      let same : step ≡ s = omega (arith, small, behind) in
      subst (λ n. bytes_eq (get_or texts (slot slots text n - 1) []) text ≡ false) same here
]

-- a text that is the same, and placed, is placed in a slot of the text's own
other-number : (texts : List (List ℕ)) (slots text : List ℕ) (i step : ℕ) → slot slots text step ≡ i + 1
    → bytes_eq (get_or texts i []) text ≡ true → bytes_eq (get_or texts (slot slots text step - 1) []) text ≡ true
other-number texts slots text i step is same =
    let e : i ≡ slot slots text step - 1 = omega (arith, is) in
    subst (λ n. bytes_eq (get_or texts n []) text ≡ true) e same

pub free-new : (d : Distinct) (texts : List (List ℕ)) (text : List ℕ) (step : ℕ) → Numbers d texts → step < most_steps
    → AreOthers texts d.slots.items text step → slot d.slots.items text step ≡ 0 → has_bytes texts text ≡ false
free-new d texts text step holds within others free =
    has-none texts text (λ i small. false_from_ne_true (bytes_eq (get_or texts i []) text) (λ same.
    let own = same-is (get_or texts i []) text same in
    elim (holds.there i small) [
      | inl placed ↦
          let is : slot d.slots.items text placed.step ≡ i + 1 = ap (λ (t : List ℕ). slot d.slots.items t placed.step) (sym own) ∙ placed.is in
          elim (cases_order placed.step step) [
            | inl here ↦ omega (arith, is, ap (λ n. slot d.slots.items text n) here, free)
            | inr apart ↦ elim apart [
              | inl before ↦ false≢true (sym (others placed.step before) ∙ other-number texts d.slots.items text i placed.step is same)
              | inr behind ↦ placed.before step behind (ap (λ (t : List ℕ). slot d.slots.items t step) own ∙ free)
            ]
          ]
      | inr beside ↦ beside.taken step within (ap (λ (t : List ℕ). slot d.slots.items t step) own ∙ free)
    ]))

pub full-others : (d : Distinct) (texts : List (List ℕ)) (text : List ℕ) → Numbers d texts → AreTaken d.slots.items text most_steps
    → AreOthers texts d.slots.items text most_steps → IsFull d texts text
full-others d texts text holds taken others = record {
  taken = taken;
  others = λ i small placed. false_from_ne_true (bytes_eq (get_or texts i []) text) (λ same.
      let own = same-is (get_or texts i []) text same in
      let is : slot d.slots.items text placed.step ≡ i + 1 = ap (λ (t : List ℕ). slot d.slots.items t placed.step) (sym own) ∙ placed.is in
      false≢true (sym (others placed.step placed.within) ∙ other-number texts d.slots.items text i placed.step is same));
}
