-- The values of a lawful array have an encoding.
use Rattle.std.proofs.Common.{◌≡◌, ℕ, zero, suc, ◌+◌, ◌^◌, ◌<◌, ◌≤◌, Bool, true, false, List, [], length, refl, sym, ap, subst, arith, length-append}
use Rattle.std.proofs.Common.{inl, inr}
use Rattle.std.specs.Prelude.{◌⊎◌, None, All, map, slice_index_or, get_or, if◌then◌else◌}
use Rattle.std.specs.List.{concat}
use Rattle.std.proofs.lemmas.Bool.{lt-ltb}
use Rattle.std.proofs.lemmas.List.{get_or-map, length-map}
use Rattle.data_types.specs.promise.FieldText.{form_of}
use Rattle.data_types.specs.Kinds.{KindOk}
use Rattle.data_types.specs.promise.Value.{Value, Null, Bytes, byte_total, bytes_of}
use Rattle.data_types.specs.declared.kind.DataType.{DataType}
use Rattle.data_types.specs.declared.kind.DataType.TheVariants as kinds
use Rattle.col_build.specs.promise.Encoding.{are_within, is_wide}
use Rattle.col_build.specs.Encoding.{Fits, HasForm, are_bounded, push_fault}
use Rattle.tree_model.specs.promise.TreeData.{Released, Live, no_trees, absent}
use Rattle.raw_array.specs.promise.Members.{ArrayMembers, ArrayTree, members_of}
use Rattle.data_types.specs.promise.KindTrees.{KindTree}
use Rattle.data_types.specs.KindTrees.{NodesOk, TypedOk}
use Rattle.layout_rules.specs.promise.Layout.{bytes, data_of, first, is_valid, items, natural, offset}
use Rattle.layout_rules.specs.Lawful.{ItemsHold, RootHolds}
use Rattle.layout_rules.specs.promise.Values.{each, tree_items, value_at, values_of}
use Rattle.layout_rules.specs.promise.Walk.{LayoutOk}
use Rattle.layout_rules.specs.Within.{OffsetsRise}
use Rattle.layout_rules.proofs.TextData.{natural-rise}
use Rattle.layout_rules.proofs.TreeLaws.{OfLawful}
use Rattle.array_laws.specs.Items.{AreApart, IsItemOf}
use Rattle.array_laws.proofs.OneItem.{at-taken, data-long, null-taken}
use Rattle.array_laws.proofs.OnceEach.{once-few, once-total}
use Rattle.array_laws.proofs.Ranges.{Numbered, Reaches, offset-reaches, reaches-less}

-- ---- the items of a list

length-each : {X : Type 0} → (f : ℕ → X) (a n : ℕ) → length (each f a n) ≡ n
length-each f a zero = refl
length-each f a (suc n) = omega (arith, length-each f (suc a) n)

each-all : {X : Type 0} → (P : X → Type 0) (f : ℕ → X) (a n : ℕ) → ((k : ℕ) → k < n → P (f (a + k))) → All P (each f a n)
each-all P f a zero h k d small = absurd (omega (arith, small))
each-all P f a (suc n) h zero d small =
    let here : a + 0 ≡ a = omega arith in
    subst (λ i. P (f i)) here (h 0 (omega arith))
each-all P f a (suc n) h (suc k) d small =
    let later = λ (j : ℕ) (below : j < n).
    let same : a + suc j ≡ suc a + j = omega arith in
    subst (λ i. P (f i)) same (h (suc j) (omega (arith, below))) in
    each-all P f (suc a) n later k d (omega (arith, small))

-- ---- the bytes of all items

-- each item's bytes end where the next one's begin, or before
total-each : (f : ℕ → Value) (g : ℕ → ℕ) (a n : ℕ) → ((k : ℕ) → k < a + n → length (bytes_of (f k)) + g k ≤ g (suc k))
    → byte_total (each f a n) + g a ≤ g (a + n)
total-each f g a zero h =
    let same : a + 0 ≡ a = omega arith in
    omega (arith, ap g same)
total-each f g a (suc n) h =
    let same : suc a + n ≡ a + suc n = omega arith in
    omega (
      arith,
      total-each f g (suc a) n (λ k small. h k (omega (arith, small))),
      h a (omega arith),
      ap g same,
      length-append (bytes_of (f a)) (concat (map bytes_of (each f (suc a) n))),
    )

-- where an item of the window begins
abbrev begins : Bool → ArrayMembers → ℕ → ℕ
begins wide own k = natural (offset wide own (first own + k))

bytes-rise : (wide : Bool) (own : ArrayMembers) (k : ℕ) (v : Value) → OffsetsRise wide (bytes own 1) (first own + k)
    → (length (bytes_of v) ≡ 0) ⊎ (bytes_of v ≡ data_of wide own k)
    → length (bytes_of v) + natural (offset wide own (first own + k)) ≤ natural (offset wide own (first own + suc k))
bytes-rise wide own k v rise is =
    let next : first own + k + 1 ≡ first own + suc k = omega arith in
    let step = natural-rise (offset wide own (first own + k)) (offset wide own (first own + k + 1)) rise.from rise.rise in
    let there = ap (λ p. natural (offset wide own p)) next in
    elim is [
      | inl none ↦ omega (arith, none, step, there)
      | inr same ↦ omega (arith, ap length same, data-long wide own k, step, there)
    ]

total-reaches : (wide : Bool) (own : ArrayMembers) (f : ℕ → Value) (n : ℕ) → ((k : ℕ) → k < n → OffsetsRise wide (bytes own 1) (first own + k))
    → ((k : ℕ) → (length (bytes_of (f k)) ≡ 0) ⊎ (bytes_of (f k) ≡ data_of wide own k))
    → Reaches wide (byte_total (each f 0 n))
total-reaches wide own f n rise are =
    let most : byte_total (each f 0 n) + begins wide own 0 ≤ begins wide own (0 + n) =
    total-each f (begins wide own) 0 n (λ k small. bytes-rise wide own k (f k) (rise k (omega (arith, small))) (are k)) in
    reaches-less wide (byte_total (each f 0 n)) (begins wide own (0 + n)) (omega (arith, most)) (offset-reaches wide own (first own + (0 + n)))

none-reaches : (wide : Bool) → Reaches wide 0
none-reaches true = omega arith
none-reaches false = omega arith

bytes-are : (wide valid : Bool) (own : ArrayMembers) (k : ℕ)
    → (length (bytes_of (if valid then Bytes (data_of wide own k) else Null)) ≡ 0) ⊎ (bytes_of (if valid then Bytes (data_of wide own k) else Null) ≡ data_of wide own k)
bytes-are wide true own k = inr refl
bytes-are wide false own k = inl refl

-- the offsets of a type, if it has some, reach this many bytes
abbrev IfOffsets : DataType → ℕ → Type 0
IfOffsets (kinds.Binary wide) total = Reaches wide total
IfOffsets (kinds.Utf8 wide) total = Reaches wide total
IfOffsets _ total = Unit {0}

all-reached : (kind : DataType) (array : ArrayTree) → ItemsHold (Live kind no_trees absent) array
    → IfOffsets kind (byte_total (values_of (Live kind no_trees absent) array))
all-reached (kinds.Binary wide) Released holds = none-reaches wide
all-reached (kinds.Utf8 wide) Released holds = none-reaches wide
all-reached (kinds.Binary wide) (Live own children dictionary) holds =
    total-reaches wide own (value_at (Live (kinds.Binary wide) no_trees absent) (Live own children dictionary)) (items own)
    (λ k inside. (holds.stored k inside).0)
    (λ k. bytes-are wide (is_valid own k) own k)
all-reached (kinds.Utf8 wide) (Live own children dictionary) holds =
    total-reaches wide own (value_at (Live (kinds.Utf8 wide) no_trees absent) (Live own children dictionary)) (items own)
    (λ k inside. (holds.stored k inside).0)
    (λ k. bytes-are wide (is_valid own k) own k)
all-reached kind array holds = tt

reached-within : (kind : DataType) (total : ℕ) → IfOffsets kind total → are_within (is_wide kind) (form_of kind) total ≡ true
reached-within (kinds.Binary true) total near = refl
reached-within (kinds.Binary false) total near = lt-ltb total (2 ^ 31) near
reached-within (kinds.Utf8 true) total near = refl
reached-within (kinds.Utf8 false) total near = lt-ltb total (2 ^ 31) near
reached-within (kinds.Decimal precision scale false) total near = refl
reached-within (kinds.Decimal precision scale true) total near = refl
reached-within _ total near = refl

reached-bounded : (kind : DataType) (total : ℕ) → IfOffsets kind total → are_bounded (form_of kind) total ≡ true
reached-bounded (kinds.Binary true) total near = lt-ltb total (2 ^ 63) near
reached-bounded (kinds.Binary false) total near = lt-ltb total (2 ^ 63) (omega (arith, near))
reached-bounded (kinds.Utf8 true) total near = lt-ltb total (2 ^ 63) near
reached-bounded (kinds.Utf8 false) total near = lt-ltb total (2 ^ 63) (omega (arith, near))
reached-bounded (kinds.Decimal precision scale false) total near = refl
reached-bounded (kinds.Decimal precision scale true) total near = refl
reached-bounded _ total near = refl

less-reached : (kind : DataType) (few many : ℕ) → few ≤ many → IfOffsets kind many → IfOffsets kind few
less-reached (kinds.Binary wide) few many le near = reaches-less wide few many le near
less-reached (kinds.Utf8 wide) few many le near = reaches-less wide few many le near
less-reached kind few many le near = tt

-- ---- a lawful array of a flat type

pub record Lawful (kind : DataType) (typed : KindTree) (array : ArrayTree) : Type 0 where
  pub is : typed ≡ Live kind no_trees absent
  pub flat : HasForm (form_of kind)
  pub ok : KindOk kind
  pub lawful : LayoutOk (Live kind no_trees absent) array
  pub root : RootHolds (Live kind no_trees absent) array
  pub holds : ItemsHold (Live kind no_trees absent) array
  pub small : Numbered (bytes (members_of array) 1)

pub lawful : (kind : DataType) (typed : KindTree) (array : ArrayTree) → typed ≡ Live kind no_trees absent → HasForm (form_of kind) → TypedOk typed
    → LayoutOk typed array
    → OfLawful RootHolds → OfLawful ItemsHold → Numbered (bytes (members_of array) 1)
    → Lawful kind typed array
lawful kind typed array is flat ok lies root holds small =
    let own = subst (λ t. LayoutOk t array) is lies in
    record {
      is = is;
      flat = flat;
      ok = (subst NodesOk is ok.1).0;
      lawful = own;
      root = root (Live kind no_trees absent) array tt own;
      holds = holds (Live kind no_trees absent) array tt own;
      small = small;
    }

pub each-fits : (kind : DataType) (typed : KindTree) (array : ArrayTree) (i : ℕ) → Lawful kind typed array → i < tree_items array
    → push_fault kind [] (value_at typed array i) ≡ None
each-fits kind typed array i l inside =
    subst (λ t. push_fault kind [] (value_at t array i) ≡ None) (sym l.is) (at-taken kind array i l.ok l.flat l.small l.lawful l.holds inside)

pub whole-fits : (kind : DataType) (typed : KindTree) (array : ArrayTree) → Lawful kind typed array → Fits kind (values_of typed array)
whole-fits kind typed array l =
    let type = Live kind no_trees absent in
    let reached = all-reached kind array l.holds in
    subst (λ t. Fits kind (values_of t array)) (sym l.is) (record {
      kind_ok = l.ok;
      flat = l.flat;
      few = omega (arith, length-each (value_at type array) 0 (tree_items array), l.root.many, l.root.near);
      each = each-all (λ v. push_fault kind [] v ≡ None) (value_at type array) 0 (tree_items array)
          (λ k inside. at-taken kind array (0 + k) l.ok l.flat l.small l.lawful l.holds (omega (arith, inside)));
      small = reached-within kind (byte_total (values_of type array)) reached;
      bounded = reached-bounded kind (byte_total (values_of type array)) reached;
    })

item-fits : (kind : DataType) (typed : KindTree) (array : ArrayTree) (v : Value) → Lawful kind typed array → IsItemOf typed array v → push_fault kind [] v ≡ None
item-fits kind typed array v l is =
    elim is [
      | inl none ↦ subst (λ w. push_fault kind [] w ≡ None) (sym none) (null-taken kind)
      | inr found ↦ subst (λ w. push_fault kind [] w ≡ None) (sym found.2) (each-fits kind typed array found.0 l found.1)
    ]

pub items-fit : (kind : DataType) (typed : KindTree) (array : ArrayTree) (values : List Value) → Lawful kind typed array
    → All (IsItemOf typed array) values → length values ≤ 2 ^ 40
    → are_within (is_wide kind) (form_of kind) (byte_total values) ≡ true → are_bounded (form_of kind) (byte_total values) ≡ true
    → Fits kind values
items-fit kind typed array values l are few small bounded = record {
  kind_ok = l.ok;
  flat = l.flat;
  few = few;
  each = λ k d inside. item-fits kind typed array (slice_index_or values k d) l (are k d inside);
  small = small;
  bounded = bounded;
}

pub fewer-fit : (kind : DataType) (typed : KindTree) (array : ArrayTree) (values : List Value) → Lawful kind typed array
    → All (IsItemOf typed array) values → length values ≤ 2 ^ 40 → byte_total values ≤ byte_total (values_of typed array)
    → Fits kind values
fewer-fit kind typed array values l are few less =
    let many = byte_total (values_of (Live kind no_trees absent) array) in
    let most : byte_total values ≤ many = omega (arith, less, ap (λ t. byte_total (values_of t array)) l.is) in
    let reached = less-reached kind (byte_total values) many most (all-reached kind array l.holds) in
    items-fit kind typed array values l are few (reached-within kind (byte_total values) reached) (reached-bounded kind (byte_total values) reached)

-- ---- items that are taken once each

pub once-fit : (kind : DataType) (typed : KindTree) (array : ArrayTree) (start : ℕ) (kept : List ℕ) → Lawful kind typed array
    → All (λ i. start + i < tree_items array) kept → AreApart kept
    → Fits kind (map (λ i. value_at typed array (start + i)) kept)
once-fit kind typed array start kept l inside apart =
    let f = value_at typed array in
    let many = once-few start (tree_items array) kept inside apart in
    fewer-fit kind typed array (map (λ i. f (start + i)) kept) l
    (λ k d small. inr (
      start + get_or kept k 0,
      inside k 0 (omega (arith, small, length-map kept (λ i. f (start + i)))),
      get_or-map (λ i. f (start + i)) kept k 0 d (omega (arith, small, length-map kept (λ i. f (start + i)))),
    ))
    (omega (arith, many, length-map kept (λ i. f (start + i)), l.root.many, l.root.near))
    (once-total f start (tree_items array) kept inside apart)
