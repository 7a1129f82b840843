-- One item more among those that are numbered by their values.
use Rattle.std.proofs.Common.{◌≡◌, ◌∙◌, ◌+◌, ◌<◌, ◌++◌, ◌||◌, ℕ, zero, suc, Bool, true, false, List, [], ◌∷◌, length, map, get_or, None, Some}
use Rattle.std.proofs.Common.{inl, inr, refl, sym, ap, subst, arith}
use Rattle.std.proofs.Math.Seq.{get_or-append_seam}
use Rattle.std.proofs.lemmas.Bool.{cases_eq}
use Rattle.std.proofs.lemmas.Bool.Decides.{nat_tests}
use Rattle.std.proofs.lemmas.List.{get_or_append_left, length-append, map-append}
use Rattle.std.proofs.lemmas.Slice.Eq.{bytes_eq-Decides}
use Rattle.std.specs.List.{list_any}
use Rattle.std.specs.Prelude.{if◌then◌else◌, nat_eq}
use Rattle.data_types.specs.promise.Value.{Value}
use Rattle.data_types.specs.declared.storage.Storage.{Storage}
use Rattle.layout_rules.specs.promise.Values.{each}
use Rattle.data_types.specs.promise.Groups.{distinct, distinct_behind, same}
use Rattle.row_groups.specs.ItemKeys.{HasKey}
use Rattle.row_groups.specs.Numbering.{IsNumbered, IsNumbering, Key, same_key}
use Rattle.row_groups.specs.Walk.{IsGrouped, IsWalked}
use Rattle.row_groups.specs.declared.numbering.Numbering.{Numbering}
use Rattle.row_groups.proofs.Eaches.{each-next}
use Rattle.row_groups.proofs.ItemKeys.{same-is, same-turned, values-agree}

-- ---- one distinct value more

abbrev pub among : Value → List Value → Bool
among v vs = list_any (λ b. same b v) vs

turned : (s a b : Bool) → ((s || a) || b) ≡ (a || (s || b))
turned true true b = refl
turned true false b = refl
turned false true b = refl
turned false false b = refl

abbrev pub with-last : Bool → List Value → Value → List Value
with-last b vs v = if b then vs else vs ++ v ∷ []

with-first : (b : Bool) (w : Value) (vs : List Value) (v : Value) → w ∷ with-last b vs v ≡ with-last b (w ∷ vs) v
with-first true w vs v = refl
with-first false w vs v = refl

behind-next : (before vs : List Value) (v : Value)
    → distinct_behind before (vs ++ v ∷ []) ≡ with-last (among v before || among v (distinct_behind before vs)) (distinct_behind before vs) v
behind-next before [] v = pick (among v before)
  where
    pick : (a : Bool) → (if a then [] else v ∷ []) ≡ with-last (a || false) [] v
    pick true = refl
    pick false = refl
behind-next before (w ∷ vs) v = pick (among w before) (behind-next before vs v) (behind-next (w ∷ before) vs v)
  where
    pick : (c : Bool)
        → distinct_behind before (vs ++ v ∷ []) ≡ with-last (among v before || among v (distinct_behind before vs)) (distinct_behind before vs) v
        → distinct_behind (w ∷ before) (vs ++ v ∷ [])
        ≡ with-last (among v (w ∷ before) || among v (distinct_behind (w ∷ before) vs)) (distinct_behind (w ∷ before) vs) v
        → (if c then distinct_behind before (vs ++ v ∷ []) else w ∷ distinct_behind (w ∷ before) (vs ++ v ∷ []))
        ≡ with-last (among v before || among v (if c then distinct_behind before vs else w ∷ distinct_behind (w ∷ before) vs))
        (if c then distinct_behind before vs else w ∷ distinct_behind (w ∷ before) vs) v
    pick true known new = known
    pick false known new =
        let rest = distinct_behind (w ∷ before) vs in
        ap (λ (xs : List Value). w ∷ xs) new
        ∙ ap (λ (b : Bool). w ∷ with-last b rest v) (turned (same w v) (among v before) (among v rest))
        ∙ with-first (among v before || among v (w ∷ rest)) w rest v

pub distinct-next : (vs : List Value) (v : Value) → distinct (vs ++ v ∷ []) ≡ with-last (among v (distinct vs)) (distinct vs) v
distinct-next vs v = behind-next [] vs v

-- ---- whether one of some passes

none-passes : {X : Type 0} (f : X → Bool) (xs : List X) (d : X) → ((k : ℕ) → k < length xs → f (get_or xs k d) ≡ false) → list_any f xs ≡ false
none-passes f [] d fails = refl
none-passes f (x ∷ xs) d fails =
    ap (λ (b : Bool). b || list_any f xs) (fails 0 (omega arith)) ∙ none-passes f xs d (λ k small. fails (suc k) (omega (arith, small)))

or-true : (a : Bool) → (a || true) ≡ true
or-true true = refl
or-true false = refl

one-passes : {X : Type 0} (f : X → Bool) (xs : List X) (d : X) (k : ℕ) → k < length xs → f (get_or xs k d) ≡ true → list_any f xs ≡ true
one-passes f [] d k small passes = absurd (omega (arith, small))
one-passes f (x ∷ xs) d zero small passes = ap (λ (b : Bool). b || list_any f xs) passes
one-passes f (x ∷ xs) d (suc k) small passes = ap (λ (b : Bool). f x || b) (one-passes f xs d k (omega (arith, small)) passes) ∙ or-true (f x)

any-map : {X Y : Type 0} (p : Y → Bool) (f : X → Y) (xs : List X) → list_any p (map f xs) ≡ list_any (λ x. p (f x)) xs
any-map p f [] = refl
any-map p f (x ∷ xs) = ap (λ (b : Bool). p (f x) || b) (any-map p f xs)

same-key-self : (key : Key) → same_key key key ≡ true
same-key-self None = refl
same-key-self (Some text) = (bytes_eq-Decides text text).1 refl

eq-self : (n : ℕ) → nat_eq n n ≡ true
eq-self n = grind (arith, nat_tests)

-- ---- one item more

old-number : (ns : List ℕ) (number j : ℕ) → j < length ns → get_or (ns ++ number ∷ []) j 0 ≡ get_or ns j 0
old-number ns number j small = get_or_append_left ns (number ∷ []) 0 j small

last-number : (ns : List ℕ) (number j : ℕ) → j ≡ length ns → get_or (ns ++ number ∷ []) j 0 ≡ number
last-number ns number j e = ap (λ n. get_or (ns ++ number ∷ []) n 0) e ∙ get_or-append_seam ns number [] 0

pub each-more : (item : ℕ → Value) (n : ℕ) → each item 0 (n + 1) ≡ each item 0 n ++ item n ∷ []
each-more item n =
    let here : 0 + n ≡ n = omega arith in
    each-next item 0 n ∙ ap (λ k. each item 0 n ++ item k ∷ []) here

-- an item whose value is known
grouped-old : (item : ℕ → Value) (n : ℕ) (ns firsts : List ℕ) (number : ℕ) → IsGrouped item n ns firsts → number < length firsts
    → ((k : ℕ) → k < length firsts → same (item (get_or firsts k 0)) (item n) ≡ nat_eq k number) → IsGrouped item (n + 1) (ns ++ number ∷ []) firsts
grouped-old item n ns firsts number is known alike =
    let longer = length-append ns (number ∷ []) in
    record {
      many = omega (arith, longer, is.many);
      few = omega (arith, is.few);
      below = λ j small. elim (cases_eq j n) [
        | inl last ↦ omega (arith, last-number ns number j (omega (arith, last, is.many)), known)
        | inr other ↦
            let near : j < n = omega (arith, small, other) in
            omega (arith, old-number ns number j (omega (arith, near, is.many)), is.below j near)
      ];
      alike = λ k j few small. elim (cases_eq j n) [
        | inl last ↦ ap (λ m. same (item (get_or firsts k 0)) (item m)) last ∙ alike k few
            ∙ ap (nat_eq k) (sym (last-number ns number j (omega (arith, last, is.many))))
        | inr other ↦
            let near : j < n = omega (arith, small, other) in
            is.alike k j few near ∙ ap (nat_eq k) (sym (old-number ns number j (omega (arith, near, is.many))))
      ];
      inside = λ k few. omega (arith, is.inside k few);
      own = λ k few. old-number ns number (get_or firsts k 0) (omega (arith, is.inside k few, is.many)) ∙ is.own k few;
      first = λ k j few small e. is.first k j few small
          (sym (old-number ns number j (omega (arith, small, is.inside k few, is.many))) ∙ e);
      values =
          let any : among (item n) (map item firsts) ≡ true =
          any-map (λ b. same b (item n)) item firsts
          ∙ one-passes (λ f. same (item f) (item n)) firsts 0 number known (alike number known ∙ eq-self number) in
          is.values ∙ ap (λ (b : Bool). with-last b (distinct (each item 0 n)) (item n)) (sym (ap (among (item n)) (sym is.values) ∙ any))
          ∙ sym (distinct-next (each item 0 n) (item n)) ∙ ap distinct (sym (each-more item n));
    }

-- an item whose value is new
grouped-new : (item : ℕ → Value) (n : ℕ) (ns firsts : List ℕ) (number : ℕ) → IsGrouped item n ns firsts → number ≡ length firsts
    → same (item n) (item n) ≡ true → ((k : ℕ) → k < length firsts → same (item (get_or firsts k 0)) (item n) ≡ false)
    → IsGrouped item (n + 1) (ns ++ number ∷ []) (firsts ++ n ∷ [])
grouped-new item n ns firsts number is new self alike =
    let longer = length-append ns (number ∷ []) in
    let more = length-append firsts (n ∷ []) in
    record {
      many = omega (arith, longer, is.many);
      few = omega (arith, is.few, more);
      below = λ j small. elim (cases_eq j n) [
        | inl last ↦ omega (arith, last-number ns number j (omega (arith, last, is.many)), new, more)
        | inr other ↦
            let near : j < n = omega (arith, small, other) in
            omega (arith, old-number ns number j (omega (arith, near, is.many)), is.below j near, more)
      ];
      alike = λ k j few small. elim (cases_eq k (length firsts)) [
        | inl end ↦ ap (λ f. same (item f) (item j)) (last-number firsts n k end) ∙ own-alike k j end small
        | inr before ↦
            let less : k < length firsts = omega (arith, few, before, more) in
            ap (λ f. same (item f) (item j)) (old-number firsts n k less) ∙ old-alike k j less small
      ];
      inside = λ k few. elim (cases_eq k (length firsts)) [
        | inl end ↦ omega (arith, last-number firsts n k end)
        | inr before ↦
            let less : k < length firsts = omega (arith, few, before, more) in
            omega (arith, old-number firsts n k less, is.inside k less)
      ];
      own = λ k few. elim (cases_eq k (length firsts)) [
        | inl end ↦ ap (λ f. get_or (ns ++ number ∷ []) f 0) (last-number firsts n k end) ∙ last-number ns number n (sym is.many) ∙ new ∙ sym end
        | inr before ↦
            let less : k < length firsts = omega (arith, few, before, more) in
            ap (λ f. get_or (ns ++ number ∷ []) f 0) (old-number firsts n k less)
            ∙ old-number ns number (get_or firsts k 0) (omega (arith, is.inside k less, is.many)) ∙ is.own k less
      ];
      first = λ k j few small e. elim (cases_eq k (length firsts)) [
        | inl end ↦
            let near : j < n = omega (arith, small, last-number firsts n k end) in
            omega (arith, is.below j near, old-number ns number j (omega (arith, near, is.many)), e, end)
        | inr before ↦
            let less : k < length firsts = omega (arith, few, before, more) in
            let near : j < get_or firsts k 0 = omega (arith, small, old-number firsts n k less) in
            is.first k j less near (sym (old-number ns number j (omega (arith, near, is.inside k less, is.many))) ∙ e)
      ];
      values =
          let any : among (item n) (map item firsts) ≡ false =
          any-map (λ b. same b (item n)) item firsts ∙ none-passes (λ f. same (item f) (item n)) firsts 0 alike in
          map-append item firsts (n ∷ []) ∙ ap (λ (vs : List Value). vs ++ item n ∷ []) is.values
          ∙ ap (λ (b : Bool). with-last b (distinct (each item 0 n)) (item n)) (sym (ap (among (item n)) (sym is.values) ∙ any))
          ∙ sym (distinct-next (each item 0 n) (item n)) ∙ ap distinct (sym (each-more item n));
    }
  where
    old-alike : (k j : ℕ) → k < length firsts → j < n + 1 → same (item (get_or firsts k 0)) (item j) ≡ nat_eq k (get_or (ns ++ number ∷ []) j 0)
    old-alike k j less small = elim (cases_eq j n) [
      | inl last ↦
          let end = last-number ns number j (omega (arith, last, is.many)) in
          let no : nat_eq k (get_or (ns ++ number ∷ []) j 0) ≡ false = grind (arith, nat_tests, end, less, new) in
          ap (λ m. same (item (get_or firsts k 0)) (item m)) last ∙ alike k less ∙ sym no
      | inr other ↦
          let near : j < n = omega (arith, small, other) in
          is.alike k j less near ∙ ap (nat_eq k) (sym (old-number ns number j (omega (arith, near, is.many))))
    ]

    own-alike : (k j : ℕ) → k ≡ length firsts → j < n + 1 → same (item n) (item j) ≡ nat_eq k (get_or (ns ++ number ∷ []) j 0)
    own-alike k j end small = elim (cases_eq j n) [
      | inl last ↦
          let own = last-number ns number j (omega (arith, last, is.many)) in
          let yes : nat_eq k (get_or (ns ++ number ∷ []) j 0) ≡ true = grind (arith, nat_tests, own, end, new) in
          ap (λ m. same (item n) (item m)) last ∙ self ∙ sym yes
      | inr other ↦
          let near : j < n = omega (arith, small, other) in
          let m = get_or ns j 0 in
          let less = is.below j near in
          let equal = same-is (item (get_or firsts m 0)) (item j) (is.alike m j less near ∙ eq-self m) in
          let here = old-number ns number j (omega (arith, near, is.many)) in
          let no : nat_eq k (get_or (ns ++ number ∷ []) j 0) ≡ false = grind (arith, nat_tests, here, less, end) in
          ap (same (item n)) (sym equal) ∙ same-turned (item n) (item (get_or firsts m 0)) ∙ alike m less ∙ sym no
    ]

-- ---- with keys

pub walked-more : (before after : Numbering) (storage : Storage) (item : ℕ → Value) (n : ℕ) (ns firsts : List ℕ) (key : Key) (number : ℕ) (new : Bool)
    → (is : IsWalked before storage item n ns firsts) → HasKey storage (item n) key → IsNumbered after is.keys key number new
    → IsWalked after storage item (n + 1) (ns ++ number ∷ []) (if new then firsts ++ n ∷ [] else firsts)
walked-more before after storage item n ns firsts key number true is has found =
    let at-end : number ≡ length firsts =
    let e : nat_eq number (length is.keys) ≡ true = sym found.number_is.new_is in
    grind (arith, nat_tests, e, is.many) in
    let more = length-append firsts (n ∷ []) in
    let longer = length-append is.keys (key ∷ []) in
    record {
      keys = is.keys ++ key ∷ [];
      numbered = found.keys_are;
      grouped = grouped-new item n ns firsts number is.grouped at-end
          (values-agree storage (item n) (item n) key key has has ∙ same-key-self key)
          (λ k less.
          let no : nat_eq k number ≡ false = grind (arith, nat_tests, at-end, less) in
          values-agree storage (item (get_or firsts k 0)) (item n) (get_or is.keys k None) key (is.keyed k less) has
          ∙ found.number_is.is k (omega (arith, less, is.many)) ∙ no);
      many = omega (arith, more, longer, is.many);
      keyed = λ k few. elim (cases_eq k (length firsts)) [
        | inl end ↦
            let first = last-number firsts n k end in
            let own : get_or (is.keys ++ key ∷ []) k None ≡ key =
            ap (λ m. get_or (is.keys ++ key ∷ []) m None) (end ∙ sym is.many) ∙ get_or-append_seam is.keys key [] None in
            subst (λ (f : ℕ). HasKey storage (item f) (get_or (is.keys ++ key ∷ []) k None)) (sym first)
            (subst (HasKey storage (item n)) (sym own) has)
        | inr before ↦
            let less : k < length firsts = omega (arith, few, before, more) in
            let old : get_or (is.keys ++ key ∷ []) k None ≡ get_or is.keys k None =
            get_or_append_left is.keys (key ∷ []) None k (omega (arith, less, is.many)) in
            subst (λ (f : ℕ). HasKey storage (item f) (get_or (is.keys ++ key ∷ []) k None)) (sym (old-number firsts n k less))
            (subst (HasKey storage (item (get_or firsts k 0))) (sym old) (is.keyed k less))
      ];
    }
walked-more before after storage item n ns firsts key number false is has found =
    let known : number < length firsts =
    let e : nat_eq number (length is.keys) ≡ false = sym found.number_is.new_is in
    let w = found.number_is.within in
    grind (arith, nat_tests, e, w, is.many) in
    record {
      keys = is.keys;
      numbered = found.keys_are;
      grouped = grouped-old item n ns firsts number is.grouped known
          (λ k less. values-agree storage (item (get_or firsts k 0)) (item n) (get_or is.keys k None) key (is.keyed k less) has
          ∙ found.number_is.is k (omega (arith, less, is.many)));
      many = is.many;
      keyed = is.keyed;
    }

pub walked-none : (numbering : Numbering) (storage : Storage) (item : ℕ → Value) → IsNumbering numbering [] → IsWalked numbering storage item 0 [] []
walked-none numbering storage item is = record {
  keys = [];
  numbered = is;
  grouped = record {
    many = refl;
    few = omega arith;
    below = λ j small. absurd (omega (arith, small));
    alike = λ k j few small. absurd (omega (arith, few));
    inside = λ k few. absurd (omega (arith, few));
    own = λ k few. absurd (omega (arith, few));
    first = λ k j few small. absurd (omega (arith, few));
    values = refl;
  };
  many = refl;
  keyed = λ k few. absurd (omega (arith, few));
}
