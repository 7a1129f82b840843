-- What holds of a union's array at which no rule fails.
use Rattle.std.proofs.Common.{◌≡◌, ℕ, zero, suc, ◌^◌, ◌<◌, ◌≤◌, Bool, true, false, ℤ, pos, negsuc, not, List, [], ◌∷◌, length, get_or, map, Option, None, Some, refl, ap, sym, ◌∙◌, subst, arith}
use Rattle.std.specs.Prelude.{if◌then◌else◌, ◌≤ℤ◌, ◌==◌, ◌&&◌, nat_lt, int_lt, is_none, is_some, IsTrue, All}
use Rattle.std.specs.List.{AllZip}
use Rattle.std.proofs.lemmas.Bool.Decides.{nat_tests}
use Rattle.std.proofs.lemmas.List.{length-map}
use Rattle.std.proofs.lemmas.List.Elements.{All-map, All-from_get_or}
use Rattle.std.proofs.lemmas.List.Quantifiers.{position-Some}
use Rattle.tree_model.specs.promise.TreeData.{Released, Live}
use Rattle.tree_model.specs.promise.TreeParts.{IsLive, child_at, children_of}
use Rattle.raw_array.specs.promise.Members.{ArrayMembers, ArrayTree, members_of}
use Rattle.data_types.specs.promise.KindTrees.{KindTree}
use Rattle.data_types.specs.declared.typed.Typed.{Typed}
use Rattle.data_types.specs.promise.TypedView.{typed_of}
use Rattle.data_types.proofs.Levels.{typed_out, get_or-typed}
use Rattle.layout_rules.specs.Lawful.{RootHolds}
use Rattle.layout_rules.specs.declared.rule.Numbers.{Numbers}
use Rattle.layout_rules.specs.promise.Layout.{items, end, natural, buffer, bytes, bytes_or_none}
use Rattle.layout_rules.specs.promise.Rules.{fault_if, first_below, child_short, short_child, live_length, is_outside, window_limit}
use Rattle.layout_rules.specs.promise.Values.{tree_items}
use Rattle.layout_rules.specs.promise.Walk.{LayoutOk}
use Rattle.layout_rules.proofs.Firsts.{first_below-none_at}
use Rattle.layout_rules.proofs.Lawful.{left-none, right-none}
use Rattle.root_check.specs.declared.own.OwnFault.{OwnFault}
use Rattle.root_check.specs.promise.OwnRules.{own_fault}
use Rattle.root_check.specs.OwnRules.{OwnHolds}
use Rattle.root_check.specs.promise.Children.{ChildFault, children_fault}
use Rattle.union_cols.specs.promise.Unions.{UnionTree, id_at, start_at, child_of, child_number, or_zero}
use Rattle.union_cols.specs.Unions.{item_number}
use Rattle.union_cols.specs.promise.UnionRules.{Rule, BufferAbsent, BufferShort, BadTypeId, ChildShort, OffsetRange, WindowTooLong, need}
use Rattle.union_cols.specs.UnionRules.{buffer_absent, buffer_count, buffer_short, child_rule, own_rule}
use Rattle.union_cols.specs.promise.UnionRules.{bad_id, bad_start, union_fault}
use Rattle.root_check.specs.promise.Found.{by}
use Rattle.union_cols.specs.UnionHolds.{IsReadable, UnionHolds}

-- ---- answers that are none

own-none : (fault : Option OwnFault) → own_rule fault ≡ None → fault ≡ None
own-none None e = refl
own-none (Some fault) e = absurd (cc)

child-none : (fault : Option ChildFault) → child_rule fault ≡ None → fault ≡ None
child-none None e = refl
child-none (Some fault) e = absurd (cc)

by-none : (rule : Rule) (fault : Option Numbers) → by rule fault ≡ None → fault ≡ None
by-none rule None e = refl
by-none rule (Some numbers) e = absurd (cc)

passes : (b : Bool) (place : ℕ) (left right : ℤ) → fault_if b place left right ≡ None → b ≡ false
passes false place left right e = refl
passes true place left right e = absurd (cc)

-- ---- buffers

enough_in : (needed k : ℕ) (there : Option (List ℕ)) → fault_if (not (is_some there) && nat_lt 0 needed) k (pos 0) (pos needed) ≡ None
    → fault_if (is_some there && nat_lt (length (bytes_or_none there)) needed) k (pos (length (bytes_or_none there))) (pos needed) ≡ None
    → needed ≤ length (bytes_or_none there)
enough_in needed k None there long =
    let test = passes (nat_lt 0 needed) k (pos 0) (pos needed) there in
    grind (arith, nat_tests)
enough_in needed k (Some found) there long =
    let test = passes (nat_lt (length found) needed) k (pos (length found)) (pos needed) long in
    grind (arith, nat_tests)

enough : (own : ArrayMembers) (k n : ℕ) → k < n → first_below (buffer_absent own) n ≡ None → first_below (buffer_short own) n ≡ None
    → need own k ≤ length (bytes own k)
enough own k n inside there long =
    enough_in (need own k) k (buffer own k) (first_below-none_at (buffer_absent own) n k inside there) (first_below-none_at (buffer_short own) n k inside long)

pub readable : (dense : Bool) (own : ArrayMembers) → first_below (buffer_absent own) (buffer_count dense) ≡ None
    → first_below (buffer_short own) (buffer_count dense) ≡ None → IsReadable dense own
readable true own there long =
    record { ids = enough own 0 2 (omega arith) there long; starts = λ yes. enough own 1 2 (omega arith) there long }
readable false own there long = record { ids = enough own 0 1 (omega arith) there long; starts = λ no. absurd (cc) }

-- ---- the child of an item

some-of : (o : Option ℕ) → is_none o ≡ false → o ≡ Some (or_zero o)
some-of None e = absurd (cc)
some-of (Some k) e = refl

named : (ids : List ℕ) (own : ArrayMembers) (n i : ℕ) → i < n → first_below (bad_id ids own) n ≡ None
    → child_of ids (id_at own i) ≡ Some (child_number ids own i)
named ids own n i inside e =
    some-of (child_of ids (id_at own i)) (passes (is_none (child_of ids (id_at own i))) i (id_at own i) (pos 0)
    (first_below-none_at (bad_id ids own) n i inside e))

within_of : (ids : List ℕ) (id : ℤ) (k : ℕ) → child_of ids id ≡ Some k → k < length ids
within_of ids (pos id) k e = (position-Some (λ known. known == id) ids k 0 e).0
within_of ids (negsuc n) k e = absurd (cc)

pub named_within : (ids : List ℕ) (own : ArrayMembers) (n i : ℕ) → i < n → first_below (bad_id ids own) n ≡ None → child_number ids own i < length ids
named_within ids own n i inside e = within_of ids (id_at own i) (child_number ids own i) (named ids own n i inside e)

pub not_unnamed : (ids : List ℕ) (own : ArrayMembers) (n i : ℕ) → i < n → first_below (bad_id ids own) n ≡ None → child_of ids (id_at own i) ≡ None → ⊥
not_unnamed ids own n i inside e none = let some = named ids own n i inside e in cc

-- ---- lengths of children

live-length : (child : ArrayTree) → IsLive child → live_length child ≡ Some (members_of child).length
live-length Released live = absurd live
live-length (Live own children dictionary) live = refl

items-length : (child : ArrayTree) → IsLive child → tree_items child ≡ natural (members_of child).length
items-length Released live = absurd live
items-length (Live own children dictionary) live = refl

long_enough : (needed k : ℕ) (length : ℤ) → fault_if (int_lt length (pos needed)) k length (pos needed) ≡ None → needed ≤ natural length
long_enough needed k (pos n) e = let test = passes (nat_lt n needed) k (pos n) (pos needed) e in grind (arith, nat_tests)
long_enough needed k (negsuc n) e = absurd (cc)

-- each child is long enough where none is too short
pub child_long : (needed k0 k : ℕ) (children : List ArrayTree) → k < length children → IsLive (get_or children k Released)
    → child_short needed k0 children ≡ None → needed ≤ tree_items (get_or children k Released)
child_long needed k0 k [] h live e = absurd (omega arith)
child_long needed k0 zero (child ∷ rest) h live e =
    let here = left-none (short_child needed k0 (live_length child)) (child_short needed (suc k0) rest) e in
    let there : short_child needed k0 (Some (members_of child).length) ≡ None = ap (short_child needed k0) (sym (live-length child live)) ∙ here in
    subst (λ (n : ℕ). needed ≤ n) (sym (items-length child live)) (long_enough needed k0 (members_of child).length there)
child_long needed k0 (suc k) (child ∷ rest) h live e =
    child_long needed (suc k0) k rest (omega arith) live
    (right-none (short_child needed k0 (live_length child)) (child_short needed (suc k0) rest)
    (left-none (short_child needed k0 (live_length child)) (child_short needed (suc k0) rest) e) e)

inside_of : (total start : ℤ) → is_outside total start ≡ false → (pos 0 ≤ℤ start) × (natural start < natural total)
inside_of (pos n) (pos s) e = (grind arith, grind (arith, nat_tests))
inside_of (negsuc n) (pos s) e = absurd (cc)
inside_of total (negsuc s) e = absurd (cc)

lawful_at : (kids : List KindTree) (children : List ArrayTree) (k : ℕ) → AllZip LayoutOk kids children → k < length kids
    → LayoutOk (get_or kids k Released) (get_or children k Released)
lawful_at [] children k all h = absurd (omega arith)
lawful_at (kid ∷ kids) [] k all h = absurd all
lawful_at (kid ∷ kids) (child ∷ rest) zero all h = all.0
lawful_at (kid ∷ kids) (child ∷ rest) (suc k) all h = lawful_at kids rest k all.1 (omega arith)

pub item_inside : (dense : Bool) (ids : List ℕ) (array : ArrayTree) (i : ℕ) → i < items (members_of array)
    → child_number ids (members_of array) i < length (children_of array) → IsLive (child_at array (child_number ids (members_of array) i))
    → (if dense then None else child_short (end (members_of array)) 0 (children_of array)) ≡ None
    → (if dense then first_below (bad_start ids array) (items (members_of array)) else None) ≡ None
    → (IsTrue dense → pos 0 ≤ℤ start_at (members_of array) i)
    × (item_number dense (members_of array) i < tree_items (child_at array (child_number ids (members_of array) i)))
item_inside true ids array i inside child live short starts =
    let own = members_of array in
    let kid = child_at array (child_number ids own i) in
    let total = (members_of kid).length in
    let test = passes (is_outside total (start_at own i)) i (start_at own i) total (first_below-none_at (bad_start ids array) (items own) i inside starts) in
    let found = inside_of total (start_at own i) test in
    (λ yes. found.0, subst (λ (n : ℕ). natural (start_at own i) < n) (sym (items-length kid live)) found.1)
item_inside false ids array i inside child live short starts =
    let own = members_of array in
    let k = child_number ids own i in
    let long = child_long (end own) 0 k (children_of array) child live short in
    (λ no. absurd (cc), omega (arith, inside, long))

-- ---- the whole

abbrev pub OwnFaultless : Type 0
OwnFaultless = (buffers children : ℕ) (array : ArrayTree) → own_fault buffers children array ≡ None → OwnHolds buffers children array

abbrev pub KidsFaultless : Type 0
KidsFaultless =
    (kids : List KindTree) (children : List ArrayTree) → length children ≡ length kids → children_fault kids 0 children ≡ None → AllZip LayoutOk kids children

abbrev pub RootLaw : Type 0
RootLaw = (typed : KindTree) (array : ArrayTree) → IsLive typed → LayoutOk typed array → RootHolds typed array

live_at : RootLaw → (kids : List KindTree) (children : List ArrayTree) (k : ℕ) → AllZip LayoutOk kids children → All IsLive kids → k < length kids
    → IsLive (get_or children k Released)
live_at law kids children k all kinds h =
    (law (get_or kids k Released) (get_or children k Released) (kinds k Released h) (lawful_at kids children k all h)).live

length_zip : (kids : List KindTree) (children : List ArrayTree) → AllZip LayoutOk kids children → length kids ≡ length children
length_zip [] [] all = refl
length_zip [] (y ∷ ys) all = absurd all
length_zip (x ∷ xs) [] all = absurd all
length_zip (x ∷ xs) (y ∷ ys) all = omega (arith, length_zip xs ys all.1)

pub children_live : RootLaw → (kids : List KindTree) (children : List ArrayTree) → AllZip LayoutOk kids children → All IsLive kids → All IsLive children
children_live law kids children all kinds =
    All-from_get_or IsLive children Released (λ k h. live_at law kids children k all kinds (omega (arith, h, length_zip kids children all)))

pub kinds_live : (kids : List Typed) → All IsLive (map typed_of kids)
kinds_live kids = All-map IsLive typed_of kids (λ k d h. subst IsLive (sym (typed_out (get_or kids k d))) tt)

near_of : (places : ℕ) → fault_if (nat_lt window_limit places) 0 (pos places) (pos window_limit) ≡ None → places ≤ 2 ^ 40
near_of places e = let test = passes (nat_lt window_limit places) 0 (pos places) (pos window_limit) e in grind (arith, nat_tests)

pub union_hold : OwnFaultless → KidsFaultless → RootLaw → (u : UnionTree) (array : ArrayTree) → All IsLive u.kids → length u.ids ≡ length u.kids
    → union_fault u array ≡ None → UnionHolds u array
union_hold own_law kids_law root_law u array kinds same e =
    let own = members_of array in
    let s1 = own_rule (own_fault (buffer_count u.dense) (length u.kids) array) in
    let s2 = by BufferAbsent (first_below (buffer_absent own) (buffer_count u.dense)) in
    let s3 = by BufferShort (first_below (buffer_short own) (buffer_count u.dense)) in
    let s4 = by BadTypeId (first_below (bad_id u.ids own) (items own)) in
    let s5 = child_rule (children_fault u.kids 0 (children_of array)) in
    let s6 = by ChildShort (if u.dense then None else child_short (end own) 0 (children_of array)) in
    let s7 = by OffsetRange (if u.dense then first_below (bad_start u.ids array) (items own) else None) in
    let s8 = by WindowTooLong (fault_if (nat_lt window_limit (end own)) 0 (pos (end own)) (pos window_limit)) in
    let a1 = left-none s1 _ e in
    let e1 = right-none s1 _ a1 e in
    let a2 = left-none s2 _ e1 in
    let e2 = right-none s2 _ a2 e1 in
    let a3 = left-none s3 _ e2 in
    let e3 = right-none s3 _ a3 e2 in
    let a4 = left-none s4 _ e3 in
    let e4 = right-none s4 _ a4 e3 in
    let a5 = left-none s5 _ e4 in
    let e5 = right-none s5 _ a5 e4 in
    let a6 = left-none s6 _ e5 in
    let e6 = right-none s6 _ a6 e5 in
    let a7 = left-none s7 _ e6 in
    let e7 = right-none s7 _ a7 e6 in
    let a8 = left-none s8 _ e7 in
    let holds = own_law (buffer_count u.dense) (length u.kids) array (own-none _ a1) in
    let lawful = kids_law u.kids (children_of array) holds.children_are (child-none _ a5) in
    let ids : first_below (bad_id u.ids own) (items own) ≡ None = by-none BadTypeId _ a4 in
    record {
      own = holds;
      readable = readable u.dense own (by-none BufferAbsent _ a2) (by-none BufferShort _ a3);
      children = lawful;
      each = λ i h.
          let within : child_number u.ids own i < length u.kids = omega (arith, same, named_within u.ids own (items own) i h ids) in
          let live = live_at root_law u.kids (children_of array) (child_number u.ids own i) lawful kinds within in
          let there : child_number u.ids own i < length (children_of array) = omega (arith, within, holds.children_are) in
          let found = item_inside u.dense u.ids array i h there live (by-none ChildShort _ a6) (by-none OffsetRange _ a7) in
          record { named = named u.ids own (items own) i h ids; child = within; start = found.0; inside = found.1 };
      near = near_of (end own) (by-none WindowTooLong _ a8);
    }

pub none_of : {X : Type 0} → (o : Option X) → IsTrue (is_none o) → o ≡ None
none_of None h = refl
none_of (Some x) h = absurd (cc)

pub kid_lawful : (kids : List Typed) (children : List ArrayTree) (k : ℕ) (kid : Typed) (child : ArrayTree) → AllZip LayoutOk (map typed_of kids) children
    → k < length kids → get_or kids k kid ≡ kid → get_or children k Released ≡ child → LayoutOk (typed_of kid) child
kid_lawful kids children k kid child all inside is there =
    subst (λ t. LayoutOk t child) (get_or-typed kids k kid inside ∙ ap typed_of is)
    (subst (λ a. LayoutOk (get_or (map typed_of kids) k Released) a) there
    (lawful_at (map typed_of kids) children k all (omega (arith, inside, length-map kids typed_of))))
