use Rattle.std.proofs.Common.{◌≡◌, ◌∙◌, ◌+◌, ◌<◌, ◌∷◌, [], All, List, ℕ, length, map, refl, sym, ap, subst, arith}
use Rattle.std.specs.List.{concat}
use Rattle.std.specs.Prelude.{if◌then◌else◌, ◌==◌, IfOk}
use Rattle.data_types.specs.promise.Value.{Value, Bytes}
use Rattle.data_types.specs.promise.KindTrees.{KindTree}
use Rattle.raw_array.specs.promise.Members.{ArrayTree}
use Rattle.data_types.specs.promise.TypedView.{typed_of}
use Rattle.layout_rules.specs.promise.Values.{each, tree_items, value_at}
use Rattle.array_laws.specs.Items.{AreApart}
use Rattle.row_groups.specs.Chains.{places_by_number}
use Rattle.data_types.specs.promise.Groups.{distinct, sums_from}
use Rattle.data_types.specs.Groups.{firsts_of, offsets_of, order_of}
use Rattle.row_groups.specs.ItemKeys.{array_of, item_of, type_of}
use Rattle.row_groups.specs.Items.{items_from}
use Rattle.row_groups.specs.Walk.{IsGrouped}
use Rattle.row_groups.specs.declared.groups.Groups.{Groups}
use Rattle.row_groups.proofs.Alike.{if-both, if-ok}
use Rattle.row_groups.proofs.Final.{numbers-below, firsts-apart, firsts-are, firsts-inside, offsets-are, order-apart, order-inside, order-is, order-whole}
use Rattle.row_groups.proofs.OneGroup.{ByNumbers, one-by-numbers}
use Rattle.row_groups.proofs.groups.grouped.Goals as goal

pub ordered-requires-clause-below : goal.ordered-requires-clause-below
ordered-requires-clause-below c =
    let t = type_of c.of-column.result in
    let a = array_of c.of-column.result in
    let ns = c.in_ok-numbers.field-0.numbers.items in
    let firsts = c.in_ok-numbers.field-0.firsts.items in
    let below = numbers-below (λ i. value_at t a (c.args.start + i)) c.args.count ns firsts c.in_ok-numbers.ensures in
    let many : length firsts ≡ c.len.result = omega (arith, c.len.ensures, c.in_ok-numbers.field-0.firsts.ok.0) in
    subst (λ (xs : List ℕ). All (λ k. k < c.len.result) xs) (sym c.deref.ensures.value) (subst (λ n. All (λ k. k < n) ns) many below)

pub returns : goal.returns
returns c =
    let t = typed_of c.args.typed.now in
    let a = c.args.array.now in
    let item : ℕ → Value = λ i. value_at t a (c.args.start + i) in
    let n = c.args.count in
    let ns = c.in_ok-numbers.field-0.numbers.items in
    let firsts = c.in_ok-numbers.field-0.firsts.items in
    let is : IsGrouped item n ns firsts =
    subst (λ (s : KindTree). IsGrouped (λ i. value_at s a (c.args.start + i)) n ns firsts) c.of-column.ensures.type_is
    (subst (λ (b : ArrayTree). IsGrouped (λ i. value_at (type_of c.of-column.result) b (c.args.start + i)) n ns firsts) c.of-column.ensures.array_is
    c.in_ok-numbers.ensures) in
    let all = concat (places_by_number ns (length firsts)) in
    let many : c.len.result ≡ length firsts = omega (arith, c.len.ensures, c.in_ok-numbers.field-0.firsts.ok.0) in
    let places : c.in_ok-places.field-0.places.items ≡ all =
    c.in_ok-places.ensures.places ∙ (λ j. concat (places_by_number (c.deref.ensures.value j) (many j))) in
    let offsets : c.in_ok-places.field-0.offsets.items ≡ sums_from 0 (map length (places_by_number ns (length firsts))) =
    c.in_ok-places.ensures.offsets ∙ (λ j. sums_from 0 (map length (places_by_number (c.deref.ensures.value j) (many j)))) in
    record {
      firsts = firsts-are item n ns firsts is;
      order = places ∙ order-is item n ns firsts is;
      offsets = offsets ∙ offsets-are item n ns firsts is;
      values = is.values;
      firsts_inside = firsts-inside item n ns firsts is;
      firsts_apart = firsts-apart item n ns firsts is;
      inside = subst (All (λ i. i < n)) (sym places) (order-inside item n ns firsts is);
      apart = subst AreApart (sym places) (order-apart ns firsts);
      all = ap (length {A = ℕ}) places ∙ order-whole item n ns firsts is;
    }

pub returns-then-are_alike : goal.returns-then-are_alike
returns-then-are_alike c =
    let t = typed_of c.args.typed.now in
    let a = c.args.array.now in
    let column = c.of-column.result in
    let start = c.args.start in
    let n = c.args.count in
    let item : ℕ → Value = λ i. value_at t a (start + i) in
    let vs = items_from t a start n in
    let r = c.one_group.result in
    let all : (j : ℕ) → j < n → item_of column (start + j) ≡ Bytes [] =
    λ j small. c.if-are_alike.ensures refl (start + j) (omega (arith, small, c.requires.inside, ap tree_items c.of-column.ensures.array_is)) in
    let same : (j : ℕ) → j < n → item j ≡ Bytes [] =
    λ j small. (λ k. value_at (sym c.of-column.ensures.type_is k) (sym c.of-column.ensures.array_is k) (start + j)) ∙ all j small in
    let has = if-ok r (λ g. (g.firsts.items ≡ (if n == 0 then [] else 0 ∷ [])) × ((g.order.items ≡ each (λ i. i) 0 n) × (g.offsets.items ≡ 0 ∷ (if n == 0 then [] else n ∷ []))))
    (ByNumbers item n) (λ g is. one-by-numbers item n g same is.0 is.1.0 is.1.1)
    (if-both r (λ g. g.firsts.items ≡ (if n == 0 then [] else 0 ∷ [])) (λ g. (g.order.items ≡ each (λ i. i) 0 n) × (g.offsets.items ≡ 0 ∷ (if n == 0 then [] else n ∷ [])))
    c.one_group.ensures.firsts (if-both r (λ g. g.order.items ≡ each (λ i. i) 0 n) (λ g. g.offsets.items ≡ 0 ∷ (if n == 0 then [] else n ∷ []))
    c.one_group.ensures.order c.one_group.ensures.offsets)) in
    let found : (P : Groups → Type 0) → ((g : Groups) → ByNumbers item n g → P g) → IfOk r P = λ P to. if-ok r (ByNumbers item n) P to has in
    record {
      firsts = found (λ g. g.firsts.items ≡ firsts_of vs) (λ g is. firsts-are item n is.numbers g.firsts.items is.grouped);
      order = found (λ g. g.order.items ≡ order_of vs) (λ g is. is.order ∙ order-is item n is.numbers g.firsts.items is.grouped);
      offsets = found (λ g. g.offsets.items ≡ offsets_of vs) (λ g is. is.offsets ∙ offsets-are item n is.numbers g.firsts.items is.grouped);
      values = found (λ g. map item g.firsts.items ≡ distinct vs) (λ g is. is.grouped.values);
      firsts_inside = found (λ g. All (λ i. i < n) g.firsts.items) (λ g is. firsts-inside item n is.numbers g.firsts.items is.grouped);
      firsts_apart = found (λ g. AreApart g.firsts.items) (λ g is. firsts-apart item n is.numbers g.firsts.items is.grouped);
      inside = found (λ g. All (λ i. i < n) g.order.items)
          (λ g is. subst (All (λ i. i < n)) (sym is.order) (order-inside item n is.numbers g.firsts.items is.grouped));
      apart = found (λ g. AreApart g.order.items) (λ g is. subst AreApart (sym is.order) (order-apart is.numbers g.firsts.items));
      all = found (λ g. length g.order.items ≡ n) (λ g is. ap (length {A = ℕ}) is.order ∙ order-whole item n is.numbers g.firsts.items is.grouped);
    }
