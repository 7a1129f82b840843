-- One text more among distinct ones, in a slot that was free or in the tree.
use Rattle.std.proofs.Common.{◌≡◌, ◌≢◌, ◌∙◌, ◌+◌, ◌-◌, ◌<◌, ◌≤◌, ◌^◌, ◌++◌, ℕ, Bool, true, false, List, [], ◌∷◌, None, Some, length, map, get_or}
use Rattle.std.proofs.Common.{inl, inr, refl, sym, ap, subst, arith}
use Rattle.std.proofs.lemmas.Bool.{cases_eq, false_from_ne_true, false≢true}
use Rattle.std.proofs.lemmas.List.{get_or-set_same, get_or-set_other, length-append, length-set, map-append}
use Rattle.std.proofs.lemmas.Option.{none-some, same_Some}
use Rattle.std.specs.Prelude.{◌⊎◌, if◌then◌else◌, set}
use Rattle.std.specs.Str.{bytes_eq}
use Rattle.stage_model.specs.Dictionary.{has_bytes}
use Rattle.item_keys.specs.Distinct.{AreTaken, IsBeside, IsPlaced, Numbers, found, most_steps, slot}
use Rattle.item_keys.specs.Search.{IsFree, IsFull}
use Rattle.item_keys.specs.Slots.{hash_in, slot_in}
use Rattle.item_keys.specs.declared.distinct.Distinct.{Distinct}
use Rattle.item_keys.proofs.Texts.{differ-more, has-none, new-text, none-has, old-text, same-by, same-is, turned}
use denote.Ref.{Bor}

-- ---- a slot that is filled

-- another slot that is taken stays as it is
kept-slot : (slots : List ℕ) (at v k : ℕ) → get_or slots at 0 ≡ 0 → get_or slots k 0 ≢ 0 → get_or (set slots at v) k 0 ≡ get_or slots k 0
kept-slot slots at v k free taken =
    get_or-set_other slots at k v 0 (λ same. taken (ap (λ n. get_or slots n 0) same ∙ free))

-- a text's slots are the same ones
same-slot : (slots : List ℕ) (at v : ℕ) (text : List ℕ) (step : ℕ)
    → slot (set slots at v) text step ≡ get_or (set slots at v) (slot_in (length slots) (hash_in text) step) 0
same-slot slots at v text step =
    ap (λ n. get_or (set slots at v) (slot_in n (hash_in text) step) 0) (length-set slots at v)

kept : (slots : List ℕ) (at v : ℕ) (text : List ℕ) (step : ℕ) → get_or slots at 0 ≡ 0 → slot slots text step ≢ 0
    → slot (set slots at v) text step ≡ slot slots text step
kept slots at v text step free taken =
    same-slot slots at v text step ∙ kept-slot slots at v (slot_in (length slots) (hash_in text) step) free taken

taken-kept : (slots : List ℕ) (at v : ℕ) (text : List ℕ) (steps : ℕ) → get_or slots at 0 ≡ 0 → AreTaken slots text steps
    → AreTaken (set slots at v) text steps
taken-kept slots at v text steps free taken step small =
    subst (λ n. n ≢ 0) (sym (kept slots at v text step free (taken step small))) (taken step small)

placed-kept : (slots : List ℕ) (at v : ℕ) (text : List ℕ) (n : ℕ) → get_or slots at 0 ≡ 0 → IsPlaced slots text n → IsPlaced (set slots at v) text n
placed-kept slots at v text n free placed =
    let some : slot slots text placed.step ≢ 0 = λ none. omega (arith, sym placed.is ∙ none) in
    record {
      step = placed.step;
      within = placed.within;
      is = kept slots at v text placed.step free some ∙ placed.is;
      before = taken-kept slots at v text placed.step free placed.before;
    }

numbered-more : (slots : List ℕ) (at n s : ℕ) → at < length slots → ((k : ℕ) → get_or slots k 0 ≤ n) → get_or (set slots at (n + 1)) s 0 ≤ n + 1
numbered-more slots at n s inside all = elim (cases_eq s at) [
  | inl same ↦ omega (arith, ap (λ k. get_or (set slots at (n + 1)) k 0) same ∙ get_or-set_same slots at (n + 1) 0 inside)
  | inr other ↦ omega (arith, get_or-set_other slots at s (n + 1) 0 other, all s)
]

-- ---- the texts

lends-more : (lent : List (Bor (List ℕ))) (text : Bor (List ℕ)) (texts : List (List ℕ)) → map (λ (t : Bor (List ℕ)). t.now) lent ≡ texts
    → map (λ (t : Bor (List ℕ)). t.now) (lent ++ text ∷ []) ≡ texts ++ text.now ∷ []
lends-more lent text texts e = map-append (λ (t : Bor (List ℕ)). t.now) lent (text ∷ []) ∙ ap (λ (ts : List (List ℕ)). ts ++ text.now ∷ []) e

-- the number of one of more texts is that of one of them, or the last
split-number : (texts : List (List ℕ)) (text : List ℕ) (i : ℕ) → i < length (texts ++ text ∷ []) → (i < length texts) ⊎ (i ≡ length texts)
split-number texts text i small = elim (cases_eq i (length texts)) [
  | inl last ↦ inr last
  | inr other ↦ inl (omega (arith, small, length-append texts (text ∷ []), other))
]

-- what the tree tells is among more texts
beside-more : (d : Distinct) (texts : List (List ℕ)) (text : List ℕ) (key : Bor (List ℕ)) (n : ℕ) → Numbers d texts → found d.beside key ≡ Some n
    → (n < length (texts ++ text ∷ [])) × (bytes_eq (get_or (texts ++ text ∷ []) n []) key.now ≡ true)
beside-more d texts text key n holds is =
    let old = holds.beside key n is in (
      omega (arith, old.0, length-append texts (text ∷ [])),
      subst (λ (t : List ℕ). bytes_eq t key.now ≡ true) (sym (old-text texts text n old.0)) old.1,
    )

-- ---- one text more, in a slot

there-free : (d : Distinct) (texts : List (List ℕ)) (text : List ℕ) (at : ℕ) → Numbers d texts → IsFree d texts text at
    → (i : ℕ) → i < length (texts ++ text ∷ [])
    → IsPlaced (set d.slots.items at (length texts + 1)) (get_or (texts ++ text ∷ []) i []) i
    ⊎ IsBeside (set d.slots.items at (length texts + 1)) d.beside (get_or (texts ++ text ∷ []) i []) i
there-free d texts text at holds free i near =
    let slots = d.slots.items in
    let v = length texts + 1 in
    let all = texts ++ text ∷ [] in
    elim (split-number texts text i near) [
      | inl small ↦
          let own = sym (old-text texts text i small) in
          elim (holds.there i small) [
            | inl placed ↦ inl (subst (λ (t : List ℕ). IsPlaced (set slots at v) t i) own (placed-kept slots at v (get_or texts i []) i free.free placed))
            | inr beside ↦ inr (subst (λ (t : List ℕ). IsBeside (set slots at v) d.beside t i) own (record {
              taken = taken-kept slots at v (get_or texts i []) most_steps free.free beside.taken;
              is = beside.is;
            }))
          ]
      | inr last ↦ inl (subst (λ n. IsPlaced (set slots at v) (get_or all n []) n) (sym last)
          (subst (λ (t : List ℕ). IsPlaced (set slots at v) t (length texts)) (sym (new-text texts text)) (record {
            step = free.step;
            within = free.within;
            is = same-slot slots at v text free.step ∙ ap (λ k. get_or (set slots at v) k 0) (sym free.is) ∙ get_or-set_same slots at v 0 free.inside;
            before = taken-kept slots at v text free.step free.free free.before;
          })))
    ]

pub add-free : (d e : Distinct) (texts : List (List ℕ)) (text : Bor (List ℕ)) (at : ℕ) → Numbers d texts → length texts < 2 ^ 32 - 1
    → IsFree d texts text.now at → e.texts.items ≡ d.texts.items ++ text ∷ [] → e.slots.items ≡ set d.slots.items at (length texts + 1)
    → e.beside ≡ d.beside → Numbers e (texts ++ text.now ∷ [])
add-free d e texts text at holds few free lends filled same =
    let slots = d.slots.items in
    let v = length texts + 1 in
    let all = texts ++ text.now ∷ [] in
    let many = length-append texts (text.now ∷ []) in
    record {
      lends = ap (λ (ts : List (Bor (List ℕ))). map (λ (t : Bor (List ℕ)). t.now) ts) lends ∙ lends-more d.texts.items text texts holds.lends;
      some = omega (arith, holds.some, ap (λ (ss : List ℕ). length ss) filled, length-set slots at v);
      few = omega (arith, few, many);
      differ = differ-more texts text.now free.new holds.differ;
      numbered = λ s. subst (λ (ss : List ℕ). get_or ss s 0 ≤ length all) (sym filled)
          (omega (arith, many, numbered-more slots at (length texts) s free.inside holds.numbered));
      there = λ i near. subst (λ (ss : List ℕ). IsPlaced ss (get_or all i []) i ⊎ IsBeside ss e.beside (get_or all i []) i) (sym filled)
          (subst (λ t. IsPlaced (set slots at v) (get_or all i []) i ⊎ IsBeside (set slots at v) t (get_or all i []) i) (sym same)
          (there-free d texts text.now at holds free i near));
      beside = λ key n is. beside-more d texts text.now key n holds (ap (λ t. found t key) (sym same) ∙ is);
    }

-- ---- one text more, in the tree

-- what the tree tells of a text once this one has this number
abbrev pub IsAdded : Distinct → Distinct → Bor (List ℕ) → ℕ → Type 0
IsAdded d e text n = (key : Bor (List ℕ)) → found e.beside key ≡ (if bytes_eq key.now text.now then Some n else found d.beside key)

pub full-new : (d : Distinct) (texts : List (List ℕ)) (text : Bor (List ℕ)) → Numbers d texts → IsFull d texts text.now → found d.beside text ≡ None
    → has_bytes texts text.now ≡ false
full-new d texts text holds full none =
    has-none texts text.now (λ i small. false_from_ne_true (bytes_eq (get_or texts i []) text.now) (λ same.
    elim (holds.there i small) [
      | inl placed ↦ false≢true (sym (full.others i small placed) ∙ same)
      | inr beside ↦ none-some i (sym none ∙ beside.is text (turned (get_or texts i []) text.now same))
    ]))

there-full : (d e : Distinct) (texts : List (List ℕ)) (text : Bor (List ℕ)) → Numbers d texts → IsFull d texts text.now
    → has_bytes texts text.now ≡ false → e.slots.items ≡ d.slots.items → IsAdded d e text (length texts)
    → (i : ℕ) → i < length (texts ++ text.now ∷ [])
    → IsPlaced d.slots.items (get_or (texts ++ text.now ∷ []) i []) i ⊎ IsBeside d.slots.items e.beside (get_or (texts ++ text.now ∷ []) i []) i
there-full d e texts text holds full new same added i near =
    let slots = d.slots.items in
    let all = texts ++ text.now ∷ [] in
    elim (split-number texts text.now i near) [
      | inl small ↦
          let own = sym (old-text texts text.now i small) in
          elim (holds.there i small) [
            | inl placed ↦ inl (subst (λ (t : List ℕ). IsPlaced slots t i) own placed)
            | inr beside ↦ inr (subst (λ (t : List ℕ). IsBeside slots e.beside t i) own (record {
              taken = beside.taken;
              is = λ key is.
                  let other : bytes_eq key.now text.now ≡ false =
                  false_from_ne_true (bytes_eq key.now text.now) (λ also.
                  false≢true (sym (none-has texts text.now i new small)
                  ∙ same-by key.now (get_or texts i []) text.now text.now (same-is key.now (get_or texts i []) is) refl also)) in
                  added key ∙ ap (λ (b : Bool). if b then Some (length texts) else found d.beside key) other ∙ beside.is key is;
            }))
          ]
      | inr last ↦ inr (subst (λ n. IsBeside slots e.beside (get_or all n []) n) (sym last)
          (subst (λ (t : List ℕ). IsBeside slots e.beside t (length texts)) (sym (new-text texts text.now)) (record {
            taken = full.taken;
            is = λ key is. added key ∙ ap (λ (b : Bool). if b then Some (length texts) else found d.beside key) is;
          })))
    ]

added-beside : (d e : Distinct) (texts : List (List ℕ)) (text key : Bor (List ℕ)) (n : ℕ) (b : Bool) → Numbers d texts
    → bytes_eq key.now text.now ≡ b → (if b then Some (length texts) else found d.beside key) ≡ Some n
    → (n < length (texts ++ text.now ∷ [])) × (bytes_eq (get_or (texts ++ text.now ∷ []) n []) key.now ≡ true)
added-beside d e texts text key n true holds own is =
    let here : length texts ≡ n = same_Some (length texts) n is in (
      omega (arith, here, length-append texts (text.now ∷ [])),
      subst (λ m. bytes_eq (get_or (texts ++ text.now ∷ []) m []) key.now ≡ true) here
          (same-by text.now (get_or (texts ++ text.now ∷ []) (length texts) []) key.now key.now (sym (new-text texts text.now)) refl
          (turned key.now text.now own)),
    )
added-beside d e texts text key n false holds own is = beside-more d texts text.now key n holds is

pub add-full : (d e : Distinct) (texts : List (List ℕ)) (text : Bor (List ℕ)) → Numbers d texts → length texts < 2 ^ 32 - 1
    → IsFull d texts text.now → has_bytes texts text.now ≡ false → e.texts.items ≡ d.texts.items ++ text ∷ []
    → e.slots.items ≡ d.slots.items → IsAdded d e text (length texts) → Numbers e (texts ++ text.now ∷ [])
add-full d e texts text holds few full new lends same added =
    let all = texts ++ text.now ∷ [] in
    let many = length-append texts (text.now ∷ []) in
    record {
      lends = ap (λ (ts : List (Bor (List ℕ))). map (λ (t : Bor (List ℕ)). t.now) ts) lends ∙ lends-more d.texts.items text texts holds.lends;
      some = omega (arith, holds.some, ap (λ (ss : List ℕ). length ss) same);
      few = omega (arith, few, many);
      differ = differ-more texts text.now new holds.differ;
      numbered = λ s. subst (λ (ss : List ℕ). get_or ss s 0 ≤ length all) (sym same) (omega (arith, many, holds.numbered s));
      there = λ i near. subst (λ (ss : List ℕ). IsPlaced ss (get_or all i []) i ⊎ IsBeside ss e.beside (get_or all i []) i) (sym same)
          (there-full d e texts text holds full new same added i near);
      beside = λ key n is. added-beside d e texts text key n (bytes_eq key.now text.now) holds refl (sym (added key) ∙ is);
    }
