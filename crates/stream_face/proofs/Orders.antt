-- What a tap sees before what is made of it.
use Rattle.std.proofs.Common.{◌≡◌, ◌≢◌, ◌==◌, ◌++◌, ◌⊎◌, ℕ, ℤ, pos, Bool, true, false, List, [], ◌∷◌, Option, Some, None, refl, sym, ◌∙◌, ap, subst, if◌then◌else◌}
use Rattle.std.proofs.Common.{inl, inr, get_or, drop, map, true≢false}
use Rattle.std.proofs.lemmas.Bool.Decides.{eqb_tells}
use Rattle.std.proofs.lemmas.List.{append-nil, append_assoc, map-append}
use Rattle.data_types.specs.promise.Table.{Column, Row}
use Rattle.tree_model.specs.promise.TreeData.{Released}
use Rattle.tree_model.specs.promise.TreeParts.{IsLive}
use Rattle.raw_array.specs.promise.Members.{ArrayTree}
use Rattle.raw_schema.specs.promise.Members.{SchemaTree}
use Rattle.data_types.specs.promise.KindTrees.{KindTree}
use Rattle.data_types.specs.promise.ColumnKinds.{type_of_columns}
use Rattle.schema_check.specs.promise.ColumnSchema.{SchemaOf}
use Rattle.stream_face.specs.promise.Calls.{Begins, IsMade}
use Rattle.stream_face.specs.Calls.{Answers, GoesOn, InOrder, Shows, ShowsInOrder}
use Rattle.stream_face.specs.Codes.{enomem}
use Rattle.stream_face.specs.Raw.{apart, raw_joints, raw_makings, raw_state}
use Rattle.stream_face.specs.promise.Shown.{Seen, Shown, grown, of_link, rows_of_link, rows_shown, seen_of, shown_tables}
use Rattle.stream_face.specs.promise.Streams.{Making}
use Rattle.stream_face.specs.Streams.{Stream}
use Rattle.stream_face.specs.declared.fault.StreamFault.{StreamFault}
use Rattle.stream_face.proofs.Joints.{Shows-raw_chunk, Shows-raw_ends, Shows-raw_wants, had_memory, of_link-append, of_link-none, seen_table}

-- ---- lists in two parts
pub first_part : {A : Type 0} (a b first rest : List A) → a ++ b ≡ first ++ rest
    → ((more : List A) × (a ≡ first ++ more)) ⊎ ((part : List A) × (first ≡ a ++ part) × (b ≡ part ++ rest))
first_part [] b first rest e = inr (first, refl, e)
first_part (x ∷ a) b [] rest e = inl (x ∷ a, refl)
first_part (x ∷ a) b (y ∷ first) rest e =
    let same : x ≡ y = ap (λ l. get_or l 0 x) e in
    elim (first_part a b first rest (ap (drop 1) e)) [
      | inl h ↦ inl (h.0, λ i. same i ∷ h.1 i)
      | inr h ↦ inr (h.0, λ i. sym same i ∷ h.1 i, h.2)
    ]

pub nil_part : {A : Type 0} (xs ys : List A) → [] ≡ xs ++ ys → xs ≡ []
nil_part [] ys h = refl
nil_part (z ∷ xs) ys h = absurd (cc)

first_of_one : {A : Type 0} (x : A) (part rest : List A) → x ∷ [] ≡ part ++ rest → (part ≡ []) ⊎ (part ≡ x ∷ [])
first_of_one x [] rest e = inl refl
first_of_one x (y ∷ part) rest e =
    let same : x ≡ y = ap (λ l. get_or l 0 x) e in
    let none : part ≡ [] = nil_part part rest (ap (drop 1) e) in
    inr (λ i. sym same i ∷ none i)

pub rows-append : (link : ℕ) (a b : List Seen) → rows_of_link link (a ++ b) ≡ rows_of_link link a ++ rows_of_link link b
rows-append link a b = ap rows_shown (of_link-append link a b) ∙ map-append (λ (table : Shown). table.rows) (of_link link a) (of_link link b)

-- a prefix of a list is one behind the same list
pub begins-more : {A : Type 0} (xs a b : List A) → Begins a b → Begins (xs ++ a) (xs ++ b)
begins-more xs a b h = (h.0, ap (λ l. xs ++ l) h.1 ∙ sym (append_assoc xs a h.0))

-- ---- two calls one after the other
-- before any
pub goes-start : (x : Option Making) (left : ℕ → List Shown) → GoesOn x x left [] []
goes-start None left = refl
goes-start (Some x) left = (refl, λ more begins. refl)

-- what is left after the first begins with what the second shows
pub left-begins : (m n : ℕ → List Shown) (b : List Seen) (link : ℕ) (more : List (List Row)) → m link ≡ of_link link b ++ n link
    → Begins more (rows_shown (n link)) → Begins (rows_of_link link b ++ more) (rows_shown (m link))
left-begins m n b link more leaves begins =
    let all : rows_shown (m link) ≡ rows_of_link link b ++ rows_shown (n link)
    = ap rows_shown leaves ∙ map-append (λ (table : Shown). table.rows) (of_link link b) (n link) in
    subst (Begins (rows_of_link link b ++ more)) (sym all) (begins-more (rows_of_link link b) more (rows_shown (n link)) begins)

-- how tables are made after both calls
pub goes-both : (x y z : Option Making) (m n : ℕ → List Shown) (a b : List Seen) (p q : List (List Row))
    → ((link : ℕ) → m link ≡ of_link link b ++ n link) → GoesOn x y m a p → GoesOn y z n b q → GoesOn x z n (a ++ b) (p ++ q)
goes-both None y z m n a b p q leaves e f = then-none y z n b q e f
  where
    then-none : (y z : Option Making) (n : ℕ → List Shown) (b : List Seen) (q : List (List Row)) → y ≡ None → GoesOn y z n b q → z ≡ None
    then-none None z n b q e f = f
    then-none (Some y) z n b q e f = absurd (cc)
goes-both (Some x) None z m n a b p q leaves e f = absurd e
goes-both (Some x) (Some y) None m n a b p q leaves e f = absurd f
goes-both (Some x) (Some y) (Some z) m n a b p q leaves e f = (
  f.0 ∙ e.0,
  λ more begins.
      let same : rows_of_link y.link b ≡ rows_of_link x.link b = ap (λ k. rows_of_link k b) e.0 in
      let begun : Begins more (rows_shown (n y.link)) = subst (λ k. Begins more (rows_shown (n k))) (sym e.0) begins in
      ap (λ l. x.makes (l ++ more)) (rows-append x.link a b) ∙ ap x.makes (append_assoc (rows_of_link x.link a) (rows_of_link x.link b) more)
      ∙ e.1 (rows_of_link x.link b ++ more) (left-begins m n b x.link more (leaves x.link) begins)
      ∙ ap (λ l. p ++ y.makes (l ++ more)) (sym same) ∙ ap (λ l. p ++ l) (f.1 more begun) ∙ sym (append_assoc p q (z.makes more)),
)

rows-begin : (xs ys : List Shown) → Begins xs ys → Begins (rows_shown xs) (rows_shown ys)
rows-begin xs ys h = (rows_shown h.0, ap rows_shown h.1 ∙ map-append (λ (table : Shown). table.rows) xs h.0)

-- what was seen in the second call follows what was seen in the first
pub made-behind : (x y : Option Making) (m : ℕ → List Shown) (a part : List Seen) (link : ℕ) → GoesOn x y m a (rows_of_link link a)
    → ((k : ℕ) → Begins (of_link k part) (m k)) → IsMade y link part → IsMade x link (a ++ part)
made-behind None y m a part link on begins made = tt
made-behind (Some x) None m a part link on begins made = absurd on
made-behind (Some x) (Some y) m a part link on begins made =
    let same : rows_of_link y.link part ≡ rows_of_link x.link part = ap (λ k. rows_of_link k part) on.0 in
    let is : x.makes (rows_of_link x.link (a ++ part)) ≡ rows_of_link link a ++ y.makes (rows_of_link y.link part)
    = ap x.makes (rows-append x.link a part) ∙ on.1 (rows_of_link x.link part) (rows-begin (of_link x.link part) (m x.link) (begins x.link))
    ∙ ap (λ l. rows_of_link link a ++ y.makes l) (sym same) in
    subst (λ l. Begins l (x.makes (rows_of_link x.link (a ++ part)))) (sym (rows-append link a part))
    (subst (Begins (rows_of_link link a ++ rows_of_link link part)) (sym is)
    (begins-more (rows_of_link link a) (rows_of_link link part) (y.makes (rows_of_link y.link part)) made))

-- a prefix of what begins a list begins it
pub begins-part : {A : Type 0} (part rest all ys : List A) → all ≡ part ++ rest → Begins all ys → Begins part ys
begins-part part rest all ys e h = (rest ++ h.0, h.1 ∙ ap (λ l. l ++ h.0) e ∙ append_assoc part rest h.0)

pub seen-part : (link : ℕ) (part rest all : List Seen) (ys : List Shown) → all ≡ part ++ rest → Begins (of_link link all) ys → Begins (of_link link part) ys
seen-part link part rest all ys e h =
    begins-part (of_link link part) (of_link link rest) (of_link link all) ys (ap (of_link link) e ∙ of_link-append link part rest) h

-- the order of what two calls show
pub made-both : (old middle : ℕ → Option Making) (m : ℕ → List Shown) (a b : List Seen)
    → ((first rest : List Seen) → a ≡ first ++ rest → (link : ℕ) → IsMade (old link) link first)
    → ((link : ℕ) → GoesOn (old link) (middle link) m a (rows_of_link link a)) → ((link : ℕ) → Begins (of_link link b) (m link))
    → ((first rest : List Seen) → b ≡ first ++ rest → (link : ℕ) → IsMade (middle link) link first)
    → (first rest : List Seen) → a ++ b ≡ first ++ rest → (link : ℕ) → IsMade (old link) link first
made-both old middle m a b before on begins behind first rest e link = elim (first_part a b first rest e) [
  | inl h ↦ before first h.0 h.1 link
  | inr h ↦ subst (IsMade (old link) link) (sym h.1)
      (made-behind (old link) (middle link) m a h.0 link (on link) (λ k. seen-part k h.0 rest b (m k) h.2 (begins k)) (behind h.0 rest h.2 link))
]

-- ---- the joint of a checked stream
-- nothing of other links than this
abbrev pub IsOf : ℕ → List Seen → Type 0
IsOf own last = (k : ℕ) → (own == k) ≡ false → of_link k last ≡ []

rows-beside : (own : ℕ) (a last : List Seen) → IsOf own last → (k : ℕ) → (own == k) ≡ false → rows_of_link k (a ++ last) ≡ rows_of_link k a
rows-beside own a last none k e = rows-append k a last ∙ ap (λ l. rows_of_link k a ++ rows_shown l) (none k e) ∙ append-nil (rows_of_link k a)

-- tables that are made apart from its link
made-apart : (own : ℕ) (x : Option Making) (link : ℕ) (a last : List Seen) → IsOf own last → (own == link) ≡ false → IsMade x link a
    → IsMade (apart own x) link (a ++ last)
made-apart own None link a last none other made = tt
made-apart own (Some x) link a last none other made = elim (eqb_tells own x.link) [
  | inl h ↦ subst (λ (t : Bool). IsMade (if t then None else Some x) link (a ++ last)) (sym h.0) tt
  | inr h ↦ subst (λ (t : Bool). IsMade (if t then None else Some x) link (a ++ last)) (sym h.0)
      (subst (λ l. Begins l (x.makes (rows_of_link x.link (a ++ last)))) (sym (rows-beside own a last none link other))
      (subst (λ l. Begins (rows_of_link link a) (x.makes l)) (sym (rows-beside own a last none x.link h.0)) made))
]

pub made-none : (x : Option Making) (link : ℕ) (a : List Seen) → rows_of_link link a ≡ [] → IsMade x link a
made-none None link a none = tt
made-none (Some x) link a none = subst (λ l. Begins l (x.makes (rows_of_link x.link a))) (sym none) (x.makes (rows_of_link x.link a), refl)

-- its own tables, of which this is the next
made-own : (own : ℕ) (x y : Option Making) (left : ℕ → List Shown) (link : ℕ) (a last : List Seen) (given : List (List Row)) → IsOf own last
    → rows_of_link link (a ++ last) ≡ given → GoesOn x y left a given → IsMade (apart own x) link (a ++ last)
made-own own None y left link a last given none is on = tt
made-own own (Some x) None left link a last given none is on = absurd on
made-own own (Some x) (Some y) left link a last given none is on = elim (eqb_tells own x.link) [
  | inl h ↦ subst (λ (t : Bool). IsMade (if t then None else Some x) link (a ++ last)) (sym h.0) tt
  | inr h ↦ subst (λ (t : Bool). IsMade (if t then None else Some x) link (a ++ last)) (sym h.0)
      (subst (λ l. Begins l (x.makes (rows_of_link x.link (a ++ last)))) (sym is) (
        y.makes [],
        ap x.makes (rows-beside own a last none x.link h.0 ∙ sym (append-nil (rows_of_link x.link a))) ∙ on.1 [] (rows_shown (left x.link), refl),
      ))
]

-- how they are made after it
goes-apart : (own : ℕ) (x y : Option Making) (n : Stream) (a last : List Seen) (given : List (List Row)) → IsOf own last → GoesOn x y n.joints a given
    → GoesOn (apart own x) (apart own y) (raw_joints own n) (a ++ last) given
goes-apart own None y n a last given none on = ap (apart own) on
goes-apart own (Some x) None n a last given none on = absurd on
goes-apart own (Some x) (Some y) n a last given none on = elim (eqb_tells own x.link) [
  | inl h ↦
      let also : (own == y.link) ≡ true = ap (λ k. own == k) on.0 ∙ h.0 in
      subst (λ (t : Bool). GoesOn (if t then None else Some x) (apart own (Some y)) (raw_joints own n) (a ++ last) given) (sym h.0)
      (ap (λ (t : Bool). if t then None else Some y) also)
  | inr h ↦
      let also : (own == y.link) ≡ false = ap (λ k. own == k) on.0 ∙ h.0 in
      subst (λ (t : Bool). GoesOn (if t then None else Some x) (apart own (Some y)) (raw_joints own n) (a ++ last) given) (sym h.0)
      (subst (λ (t : Bool). GoesOn (Some x) (if t then None else Some y) (raw_joints own n) (a ++ last) given) (sym also) (
        on.0,
        λ more begins.
            let below : raw_joints own n x.link ≡ n.joints x.link
            = ap (λ (t : Bool). if t then shown_tables n.columns n.ahead else n.joints x.link) h.0 in
            ap (λ l. x.makes (l ++ more)) (rows-beside own a last none x.link h.0) ∙ on.1 more (subst (λ l. Begins more (rows_shown l)) below begins),
      ))
]

-- the tables of its own link
rows-tables : (columns : List Column) (tables : List (List Row)) → rows_shown (shown_tables columns tables) ≡ tables
rows-tables columns [] = refl
rows-tables columns (rows ∷ tables) = ap (λ l. rows ∷ l) (rows-tables columns tables)

pub rows-own : (own : ℕ) (inner : Stream) → rows_shown (raw_joints own inner own) ≡ inner.ahead
rows-own own inner = elim (eqb_tells own own) [ inl h ↦ rw h.0 (rows-tables inner.columns inner.ahead) | inr h ↦ absurd (h.1 refl) ]

pub own-rows : (own link : ℕ) (inner : Stream) → own ≡ link → rows_shown (raw_joints own inner link) ≡ inner.ahead
own-rows own link inner same = subst (λ k. rows_shown (raw_joints own inner k) ≡ inner.ahead) same (rows-own own inner)

-- what a checked stream shows is in order, since its inner stream's is and its own chunk comes last
module _ (s n : Stream) (own : ℕ) (code told : ℤ) (a last : List Seen) (given : List (List Row)) (order : InOrder s n code a) (own_none : of_link own a ≡ [])
    (none : IsOf own last) (is : (k : ℕ) → (own == k) ≡ true → rows_of_link k last ≡ given) (had : told ≢ enomem → code ≢ enomem)
    (gave : told ≢ enomem → s.ahead ≡ given ++ n.ahead) where
  no-rows : (k : ℕ) → own ≡ k → rows_of_link k a ≡ []
  no-rows k e = ap rows_shown (ap (λ j. of_link j a) (sym e) ∙ own_none)

  all-rows : (k : ℕ) → (own == k) ≡ true → own ≡ k → rows_of_link k (a ++ last) ≡ given
  all-rows k t e = rows-append k a last ∙ (λ i. no-rows k e i ++ is k t i)

  made-inner : (first rest : List Seen) → a ≡ first ++ rest → (link : ℕ) → IsMade (raw_makings own s link) link first
  made-inner first rest e link = elim (eqb_tells own link) [
    | inl h ↦
        let none_of : rows_of_link link first ≡ [] =
        nil_part (rows_of_link link first) (rows_of_link link rest)
        (sym (sym (rows-append link first rest) ∙ ap (rows_of_link link) (sym e) ∙ no-rows link h.1)) in
        made-none (raw_makings own s link) link first none_of
    | inr h ↦ subst (λ (t : Bool). IsMade (apart own (if t then s.making else s.makings link)) link first) (sym h.0)
        (subst (IsMade (apart own (s.makings link)) link) (append-nil first)
        (made-apart own (s.makings link) link first [] (λ k _. refl) h.0 (order.made first rest e link)))
  ]

  made-all : told ≢ enomem → (link : ℕ) → IsMade (raw_makings own s link) link (a ++ last)
  made-all works link = elim (eqb_tells own link) [
    | inl h ↦ subst (λ (t : Bool). IsMade (apart own (if t then s.making else s.makings link)) link (a ++ last)) (sym h.0)
        (made-own own s.making n.making n.joints link a last given none (all-rows link h.0 h.1) (order.gives (had works) given (gave works)))
    | inr h ↦ subst (λ (t : Bool). IsMade (apart own (if t then s.making else s.makings link)) link (a ++ last)) (sym h.0)
        (made-apart own (s.makings link) link a last none h.0 (order.made a [] (sym (append-nil a)) link))
  ]

  pub goes-raw : told ≢ enomem → (link : ℕ)
      → GoesOn (raw_makings own s link) (raw_makings own n link) (raw_joints own n) (a ++ last) (rows_of_link link (a ++ last))
  goes-raw works link = elim (eqb_tells own link) [
    | inl h ↦ subst (λ (t : Bool). GoesOn (apart own (if t then s.making else s.makings link)) (apart own (if t then n.making else n.makings link))
        (raw_joints own n) (a ++ last) (rows_of_link link (a ++ last))) (sym h.0)
        (subst (GoesOn (apart own s.making) (apart own n.making) (raw_joints own n) (a ++ last)) (sym (all-rows link h.0 h.1))
        (goes-apart own s.making n.making n a last given none (order.gives (had works) given (gave works))))
    | inr h ↦ subst (λ (t : Bool). GoesOn (apart own (if t then s.making else s.makings link)) (apart own (if t then n.making else n.makings link))
        (raw_joints own n) (a ++ last) (rows_of_link link (a ++ last))) (sym h.0)
        (subst (GoesOn (apart own (s.makings link)) (apart own (n.makings link)) (raw_joints own n) (a ++ last))
        (sym (rows-beside own a last none link h.0))
        (goes-apart own (s.makings link) (n.makings link) n a last (rows_of_link link a) none (order.goes_on (had works) link)))
  ]

-- what a checked stream shows where memory runs out
pub Ordered-raw_wants : (s n : Stream) (link nodes : ℕ) (f h : Option StreamFault) (code refusal : ℤ) (out left : ArrayTree)
    (before after : Option (List Seen)) → s.joints link ≡ [] → refusal ≡ enomem → ShowsInOrder s n code out before after
    → ShowsInOrder (raw_state link nodes f s) (raw_state link nodes h n) refusal left before after
Ordered-raw_wants s n link nodes f h code refusal out left before after none wants x = record {
  shows = Shows-raw_wants s n link code refusal out left before after none wants x.shows;
  order = record {
    made = made-inner s n link code refusal x.shows.shown [] [] x.order (of_link-none s.joints n.joints link code out before after none x.shows)
        (λ k _. refl) (λ k _. refl) (λ e. absurd (e wants)) (λ e. absurd (e wants));
    goes_on = λ e. absurd (e wants);
    gives = λ e. absurd (e wants);
  };
}

-- where its inner stream gives nothing
pub Ordered-raw_ends : (s n : Stream) (link nodes : ℕ) (f h : Option StreamFault) (code : ℤ) (out : ArrayTree) (before after : Option (List Seen))
    → s.joints link ≡ [] → (code ≢ enomem → (s.ahead ≡ []) × (n.ahead ≡ [])) → out ≡ Released → ShowsInOrder s n code out before after
    → ShowsInOrder (raw_state link nodes f s) (raw_state link nodes h n) code out before after
Ordered-raw_ends s n link nodes f h code out before after none ended released x =
    let own = of_link-none s.joints n.joints link code out before after none x.shows in
    let gone = λ (had : code ≢ enomem). (ended had).0 ∙ sym (ended had).1 in
    record {
      shows = Shows-raw_ends s n link code out before after none ended released x.shows;
      order = record {
        made = made-inner s n link code code x.shows.shown [] [] x.order own (λ k _. refl) (λ k _. refl) (λ had. had) gone;
        goes_on = λ had k. subst (λ seen. GoesOn (raw_makings link s k) (raw_makings link n k) (raw_joints link n) seen (rows_of_link k seen))
            (append-nil x.shows.shown)
            (goes-raw s n link code code x.shows.shown [] [] x.order own (λ k _. refl) (λ k _. refl) (λ had. had) gone had k);
        gives = λ _ _ _. refl;
      };
    }

-- a chunk of the checked stream is shown after all that its inner stream showed
pub Ordered-raw_chunk : (s n : Stream) (link nodes : ℕ) (f h : Option StreamFault) (rows : List Row) (out : ArrayTree)
    (before middle after : Option (List Seen)) → s.joints link ≡ [] → s.ahead ≡ rows ∷ n.ahead → n.columns ≡ s.columns
    → ShowsInOrder s n (pos 0) out before middle → IsLive out → after ≡ grown middle (seen_table link s.columns rows ∷ [])
    → ShowsInOrder (raw_state link nodes f s) (raw_state link nodes h n) (pos 0) out before after
Ordered-raw_chunk s n link nodes f h rows out before middle after none gave same x live told =
    let c = seen_table link s.columns rows in
    let own = of_link-none s.joints n.joints link (pos 0) out before middle none x.shows in
    let other : IsOf link (c ∷ []) = λ k e. ap (λ (t : Bool). if t then c.shown ∷ [] else []) e in
    let is : (k : ℕ) → (link == k) ≡ true → rows_of_link k (c ∷ []) ≡ rows ∷ []
    = λ k e. ap (λ (t : Bool). rows_shown (if t then c.shown ∷ [] else [])) e in
    let within = made-inner s n link (pos 0) (pos 0) x.shows.shown (c ∷ []) (rows ∷ []) x.order own other is (λ had. had) (λ _. gave) in
    let whole = made-all s n link (pos 0) (pos 0) x.shows.shown (c ∷ []) (rows ∷ []) x.order own other is (λ had. had) (λ _. gave)
    (had_memory (pos 0) refl) in
    record {
      shows = Shows-raw_chunk s n link rows out before middle after none gave same x.shows live told;
      order = record {
        made = λ first rest e k. elim (first_part x.shows.shown (c ∷ []) first rest e) [
          | inl p ↦ within first p.0 p.1 k
          | inr p ↦ elim (first_of_one c p.0 rest p.2) [
            | inl q ↦ within first [] (sym (append-nil first ∙ p.1 ∙ ap (λ l. x.shows.shown ++ l) q ∙ append-nil x.shows.shown)) k
            | inr q ↦ subst (IsMade (raw_makings link s k) k) (sym (p.1 ∙ ap (λ l. x.shows.shown ++ l) q)) (whole k)
          ]
        ];
        goes_on = λ had k. goes-raw s n link (pos 0) (pos 0) x.shows.shown (c ∷ []) (rows ∷ []) x.order own other is (λ had. had) (λ _. gave) had k;
        gives = λ _ _ _. refl;
      };
    }

-- the same, for a call of the inner stream that answered 0 with a live chunk
pub Ordered-raw_live : (s n : Stream) (link nodes : ℕ) (f h : Option StreamFault) (code : ℤ) (schema : SchemaTree) (kinds : KindTree) (out : ArrayTree)
    (before middle after : Option (List Seen)) → code ≡ pos 0 → IsLive out → s.joints link ≡ [] → n.columns ≡ s.columns
    → Answers s n code out → ShowsInOrder s n code out before middle → schema ≡ SchemaOf s.columns → kinds ≡ type_of_columns s.columns
    → after ≡ grown middle (seen_of link schema kinds out ∷ [])
    → ShowsInOrder (raw_state link nodes f s) (raw_state link nodes h n) (pos 0) out before after
Ordered-raw_live s n link nodes f h code schema kinds out before middle after works live none same answers x known typed told =
    let chunk = answers.chunk live in
    let rows_are = chunk.2.rows_are in
    Ordered-raw_chunk s n link nodes f h chunk.0 out before middle after none chunk.1 same (rw works at x) live (rw (known, typed, rows_are) at told)
