use Rattle.std.proofs.Common.{◌≡◌, ◌∙◌, ◌+◌, ◌<◌, ◌≤◌, All, [], ◌∷◌, List, ℕ, Bool, true, false, length, map, replicate, refl, sym, ap, subst, arith}
use Rattle.std.proofs.lemmas.Bool.Decides.{nat_tests}
use Rattle.std.specs.Prelude.{IfErr, if◌then◌else◌, ◌==◌}
use Rattle.data_types.specs.promise.Value.{Value, Bytes}
use Rattle.data_types.specs.promise.TypedView.{typed_of}
use Rattle.data_types.specs.promise.KindTrees.{KindTree}
use Rattle.raw_array.specs.promise.Members.{ArrayTree}
use Rattle.layout_rules.specs.promise.Values.{each, tree_items, value_at}
use Rattle.array_laws.specs.Items.{AreApart}
use Rattle.data_types.specs.promise.Groups.{distinct}
use Rattle.data_types.specs.Groups.{firsts_of}
use Rattle.row_groups.specs.ItemKeys.{item_of, type_of}
use Rattle.row_groups.specs.Items.{IsRefusedFor, items_from, most_groups}
use Rattle.row_groups.specs.declared.fault.GroupFault.TheVariants.{NoMemory}
use Rattle.row_groups.specs.Walk.{IsGrouped}
use Rattle.row_groups.proofs.Alike.{if-both, if-err, if-ok, moved, no-group, on-ok, one-group, values-count}
use Rattle.row_groups.proofs.Final.{firsts-apart, firsts-are, firsts-inside}
use Rattle.row_groups.proofs.firsts.first_items.Goals as goal

-- the first of items that are all the same
alone : (item : ℕ → Value) (n : ℕ) (firsts : List ℕ) → ((j : ℕ) → j < n → item j ≡ Bytes []) → firsts ≡ (if n == 0 then [] else 0 ∷ [])
    → (ns : List ℕ) × IsGrouped item n ns firsts × (length firsts ≤ most_groups)
alone item n firsts all e = pick (n == 0) refl
  where
    pick : (b : Bool) → (n == 0) ≡ b → (ns : List ℕ) × IsGrouped item n ns firsts × (length firsts ≤ most_groups)
    pick true f =
        let none : n ≡ 0 = grind (arith, nat_tests, f) in
        let here : firsts ≡ [] = e ∙ ap (λ (b : Bool). if b then [] else 0 ∷ []) f in (
          [],
          subst (IsGrouped item n []) (sym here) (subst (λ m. IsGrouped item m [] []) (sym none) (no-group item)),
          omega (arith, ap (length {A = ℕ}) here),
        )
    pick false f =
        let some : 0 < n = grind (arith, nat_tests, f) in
        let here : firsts ≡ 0 ∷ [] = e ∙ ap (λ (b : Bool). if b then [] else 0 ∷ []) f in (
          replicate n 0,
          subst (IsGrouped item n (replicate n 0)) (sym here) (one-group item n some all),
          omega (arith, ap (length {A = ℕ}) here),
        )

abbrev Has : (ℕ → Value) → ℕ → List ℕ → Type 0
Has item n firsts = (ns : List ℕ) × IsGrouped item n ns firsts × (length firsts ≤ most_groups)

pub returns-then-are_alike : goal.returns-then-are_alike
returns-then-are_alike c =
    let t = typed_of c.args.typed.now in
    let a = c.args.array.now in
    let column = c.of-column.result in
    let start = c.args.start in
    let n = c.args.count in
    let item : ℕ → Value = λ i. value_at t a (start + i) in
    let vs = items_from t a start n in
    let r = c.only_first.result in
    let all : (j : ℕ) → j < n → item_of column (start + j) ≡ Bytes [] =
    λ j small. c.if-are_alike.ensures refl (start + j) (omega (arith, small, c.requires.inside, ap tree_items c.of-column.ensures.array_is)) in
    let has = if-ok r (λ firsts. firsts.items ≡ (if n == 0 then [] else 0 ∷ [])) (λ firsts. Has item n firsts.items) (λ firsts e.
    let own = alone (λ i. item_of column (start + i)) n firsts.items all e in
    (own.0, moved column t a start n own.0 firsts.items c.of-column.ensures.type_is c.of-column.ensures.array_is own.1, own.2)) c.only_first.ensures.firsts in
    record {
      firsts = if-ok r (λ firsts. Has item n firsts.items) (λ firsts. firsts.items ≡ firsts_of vs) (λ firsts w. firsts-are item n w.0 firsts.items w.1) has;
      values = if-ok r (λ firsts. Has item n firsts.items) (λ firsts. map item firsts.items ≡ distinct vs) (λ firsts w. w.1.values) has;
      firsts_inside = if-ok r (λ firsts. Has item n firsts.items) (λ firsts. All (λ i. i < n) firsts.items)
          (λ firsts w. firsts-inside item n w.0 firsts.items w.1) has;
      firsts_apart = if-ok r (λ firsts. Has item n firsts.items) (λ firsts. AreApart firsts.items)
          (λ firsts w. firsts-apart item n w.0 firsts.items w.1) has;
      few = on-ok r (λ firsts. Has item n firsts.items) (length (distinct vs) ≤ most_groups)
          (λ firsts w. omega (arith, values-count item n w.0 firsts.items w.1, w.2)) has;
      fault = if-err r (λ fault. fault ≡ NoMemory) (IsRefusedFor (length (distinct vs))) (λ fault e. subst (IsRefusedFor (length (distinct vs))) (sym e) tt) c.only_first.ensures.fault;
    }

pub returns : goal.returns
returns c =
    let t = typed_of c.args.typed.now in
    let a = c.args.array.now in
    let column = c.of-column.result in
    let start = c.args.start in
    let n = c.args.count in
    let item : ℕ → Value = λ i. value_at t a (start + i) in
    let vs = items_from t a start n in
    let r = c.walked_firsts.result in
    let both = if-both r (λ firsts. (ns : List ℕ) × IsGrouped (λ i. item_of column (start + i)) n ns firsts.items) (λ firsts. length firsts.items ≤ most_groups)
    c.walked_firsts.ensures.firsts c.walked_firsts.ensures.few in
    let has = if-ok r (λ firsts. ((ns : List ℕ) × IsGrouped (λ i. item_of column (start + i)) n ns firsts.items) × (length firsts.items ≤ most_groups))
    (λ firsts. Has item n firsts.items)
    (λ firsts w. (w.0.0, moved column t a start n w.0.0 firsts.items c.of-column.ensures.type_is c.of-column.ensures.array_is w.0.1, w.1)) both in
    record {
      firsts = if-ok r (λ firsts. Has item n firsts.items) (λ firsts. firsts.items ≡ firsts_of vs) (λ firsts w. firsts-are item n w.0 firsts.items w.1) has;
      values = if-ok r (λ firsts. Has item n firsts.items) (λ firsts. map item firsts.items ≡ distinct vs) (λ firsts w. w.1.values) has;
      firsts_inside = if-ok r (λ firsts. Has item n firsts.items) (λ firsts. All (λ i. i < n) firsts.items)
          (λ firsts w. firsts-inside item n w.0 firsts.items w.1) has;
      firsts_apart = if-ok r (λ firsts. Has item n firsts.items) (λ firsts. AreApart firsts.items)
          (λ firsts w. firsts-apart item n w.0 firsts.items w.1) has;
      few = on-ok r (λ firsts. Has item n firsts.items) (length (distinct vs) ≤ most_groups)
          (λ firsts w. omega (arith, values-count item n w.0 firsts.items w.1, w.2)) has;
      fault = subst (λ (s : KindTree). IfErr r (IsRefusedFor (length (distinct (each (λ i. value_at s a (start + i)) 0 n))))) c.of-column.ensures.type_is
          (subst (λ (b : ArrayTree). IfErr r (IsRefusedFor (length (distinct (each (λ i. value_at (type_of column) b (start + i)) 0 n)))))
          c.of-column.ensures.array_is c.walked_firsts.ensures.fault);
    }
