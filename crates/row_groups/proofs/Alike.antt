-- Items that are all the same, and how many values there are.
use Rattle.std.proofs.Common.{◌≡◌, ◌∙◌, ◌+◌, ◌<◌, ◌≤◌, ◌||◌, ℕ, zero, suc, Bool, true, false, List, [], ◌∷◌, length, map, get_or, replicate}
use Rattle.std.proofs.Common.{refl, sym, ap, subst, arith, length-append}
use Rattle.std.proofs.lemmas.List.{length-replicate}
use Rattle.std.specs.Prelude.{nat_eq, IfErr, IfOk, OnOk, Result, Ok, Err}
use Rattle.data_types.specs.promise.Value.{Value, Bytes}
use Rattle.raw_array.specs.promise.Members.{ArrayTree}
use Rattle.data_types.specs.promise.KindTrees.{KindTree}
use Rattle.layout_rules.specs.promise.Values.{each, value_at}
use Rattle.data_types.specs.promise.Groups.{distinct, same}
use Rattle.row_groups.specs.ItemKeys.{array_of, item_of, type_of}
use Rattle.row_groups.specs.Items.{IsRefusedFor}
use Rattle.row_groups.specs.declared.column.Column.{Column}
use Rattle.row_groups.specs.declared.fault.GroupFault.{GroupFault}
use Rattle.row_groups.specs.declared.fault.GroupFault.TheVariants.{TooMany, NoMemory}
use Rattle.row_groups.specs.Walk.{IsGrouped}
use Rattle.row_groups.proofs.Steps.{among, distinct-next, each-more, with-last}

-- ---- more items have no fewer values

last-more : (b : Bool) (vs : List Value) (v : Value) → length vs ≤ length (with-last b vs v)
last-more true vs v = omega arith
last-more false vs v = omega (arith, length-append vs (v ∷ []))

more-values : (item : ℕ → Value) (n : ℕ) → length (distinct (each item 0 n)) ≤ length (distinct (each item 0 (n + 1)))
more-values item n =
    let vs = each item 0 n in
    let more = last-more (among (item n) (distinct vs)) (distinct vs) (item n) in
    let e : length (distinct (each item 0 (n + 1))) ≡ length (with-last (among (item n) (distinct vs)) (distinct vs) (item n)) =
    ap (λ (ws : List Value). length (distinct ws)) (each-more item n) ∙ ap (length {A = Value}) (distinct-next vs (item n)) in
    omega (arith, more, e)

pub values-upto : (item : ℕ → Value) (n d : ℕ) → length (distinct (each item 0 n)) ≤ length (distinct (each item 0 (n + d)))
values-upto item n zero =
    let e : n + 0 ≡ n = omega arith in
    omega (arith, ap (λ k. length (distinct (each item 0 k))) e)
values-upto item n (suc d) =
    let e : n + suc d ≡ n + d + 1 = omega arith in
    omega (arith, values-upto item n d, more-values item (n + d), ap (λ k. length (distinct (each item 0 k))) e)

pub values-count : (item : ℕ → Value) (n : ℕ) (ns firsts : List ℕ) → IsGrouped item n ns firsts → length (distinct (each item 0 n)) ≡ length firsts
values-count item n ns firsts is = ap (length {A = Value}) (sym is.values) ∙ length-map-of firsts
  where
    length-map-of : (xs : List ℕ) → length (map item xs) ≡ length xs
    length-map-of [] = refl
    length-map-of (x ∷ xs) = ap suc (length-map-of xs)

-- ---- all the same

zero-at : (n j : ℕ) → get_or {A = ℕ} (replicate n 0) j 0 ≡ 0
zero-at zero j = refl
zero-at (suc n) zero = refl
zero-at (suc n) (suc j) = zero-at n j

one-value : (item : ℕ → Value) (n : ℕ) → ((j : ℕ) → j < n + 1 → item j ≡ Bytes []) → distinct (each item 0 (n + 1)) ≡ item 0 ∷ []
one-value item zero all = refl
one-value item (suc n) all =
    let e : suc n + 1 ≡ n + 1 + 1 = omega arith in
    let before = one-value item n (λ j small. all j (omega (arith, small))) in
    let known : among (item (n + 1)) (item 0 ∷ []) ≡ true =
    (λ t. same (all 0 (omega arith) t) (all (n + 1) (omega arith) t) || false) in
    ap (λ k. distinct (each item 0 k)) e ∙ ap distinct (each-more item (n + 1)) ∙ distinct-next (each item 0 (n + 1)) (item (n + 1))
    ∙ ap (λ (vs : List Value). with-last (among (item (n + 1)) vs) vs (item (n + 1))) before
    ∙ ap (λ (b : Bool). with-last b (item 0 ∷ []) (item (n + 1))) known

pub one-group : (item : ℕ → Value) (n : ℕ) → 0 < n → ((j : ℕ) → j < n → item j ≡ Bytes []) → IsGrouped item n (replicate n 0) (0 ∷ [])
one-group item zero some all = absurd (omega (arith, some))
one-group item (suc n) some all =
    let e : suc n ≡ n + 1 = omega arith in
    record {
      many = length-replicate (suc n) 0;
      few = omega arith;
      below = λ j small. omega (arith, zero-at (suc n) j);
      alike = λ k j few small.
          let start : k ≡ 0 = omega (arith, few) in
          ap (λ m. same (item (get_or (0 ∷ []) m 0)) (item j)) start
          ∙ (λ t. same (all 0 (omega arith) t) (all j small t))
          ∙ (λ t. nat_eq (sym start t) (sym (zero-at (suc n) j) t));
      inside = λ k few.
          let start : k ≡ 0 = omega (arith, few) in
          omega (arith, ap {B = ℕ} (λ m. get_or (0 ∷ []) m 0) start);
      own = λ k few. omega (arith, zero-at (suc n) (get_or (0 ∷ []) k 0), few);
      first = λ k j few small.
          let start : k ≡ 0 = omega (arith, few) in
          absurd (omega (arith, small, ap {B = ℕ} (λ m. get_or (0 ∷ []) m 0) start));
      values = sym (ap (λ m. distinct (each item 0 m)) e ∙ one-value item n (λ j small. all j (omega (arith, small))));
    }

pub no-group : (item : ℕ → Value) → IsGrouped item 0 [] []
no-group item = record {
  many = refl;
  few = omega arith;
  below = λ j small. absurd (omega (arith, small));
  alike = λ k j few small. absurd (omega (arith, few));
  inside = λ k few. absurd (omega (arith, few));
  own = λ k few. absurd (omega (arith, few));
  first = λ k j few small. absurd (omega (arith, few));
  values = refl;
}

-- ---- faults and results

pub refused-more : (fault : GroupFault) (few many : ℕ) → few ≤ many → IsRefusedFor few fault → IsRefusedFor many fault
refused-more TooMany few many le refused = omega (arith, le, refused)
refused-more NoMemory few many le refused = tt

pub moved : (column : Column) (t : KindTree) (a : ArrayTree) (start n : ℕ) (ns firsts : List ℕ) → type_of column ≡ t → array_of column ≡ a
    → IsGrouped (λ i. item_of column (start + i)) n ns firsts → IsGrouped (λ i. value_at t a (start + i)) n ns firsts
moved column t a start n ns firsts e f is =
    subst (λ (s : KindTree). IsGrouped (λ i. value_at s a (start + i)) n ns firsts) e
    (subst (λ (b : ArrayTree). IsGrouped (λ i. value_at (type_of column) b (start + i)) n ns firsts) f is)

pub if-ok : {X E : Type 0} (r : Result X E) (P Q : X → Type 0) → ((x : X) → P x → Q x) → IfOk r P → IfOk r Q
if-ok (Ok x) P Q to p = to x p
if-ok (Err e) P Q to p = p

pub on-ok : {X E : Type 0} (r : Result X E) (P : X → Type 0) (Q : Type 0) → ((x : X) → P x → Q) → IfOk r P → OnOk r Q
on-ok (Ok x) P Q to p = to x p
on-ok (Err e) P Q to p = p

pub if-both : {X E : Type 0} (r : Result X E) (P Q : X → Type 0) → IfOk r P → IfOk r Q → IfOk r (λ x. P x × Q x)
if-both (Ok x) P Q p q = (p, q)
if-both (Err e) P Q p q = p

pub if-err : {X E : Type 0} (r : Result X E) (P Q : E → Type 0) → ((e : E) → P e → Q e) → IfErr r P → IfErr r Q
if-err (Ok x) P Q to p = p
if-err (Err e) P Q to p = to e p
