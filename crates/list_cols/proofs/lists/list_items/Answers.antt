use Rattle.std.proofs.Common.{◌≡◌, ◌∙◌, ◌<◌, ◌+◌, ◌++◌, [], ◌∷◌, suc, ℕ, List, length, get_or, take, drop, ap, sym, subst, arith}
use Rattle.std.proofs.Math.Seq.{take-length}
use Rattle.std.proofs.lemmas.Grind.{flat_map-append}
use Rattle.std.proofs.lemmas.List.{append-nil, take_more}
use Rattle.std.specs.List.{flat_map}
use Rattle.arr_export.proofs.Each.{length-each, value-there}
use Rattle.arr_import.specs.Cols.{window_of}
use Rattle.arr_import.specs.Window.{Window, item_at}
use Rattle.col_build.specs.Encoding.{Fits}
use Rattle.col_build.specs.Holding.{Holds}
use Rattle.column_fill.proofs.Taken.{run-split}
use Rattle.data_types.specs.promise.Value.{Value, Null}
use Rattle.data_types.specs.declared.kind.DataType.{DataType}
use Rattle.layout_rules.specs.promise.Values.{each}
use Rattle.list_cols.specs.promise.Nested.{items_in}
use Rattle.list_cols.proofs.lists.list_items.Goals as goal

abbrev all : Window → List Value
all w = each (item_at w) 0 w.count

here : (w : Window) (i : ℕ) → i < w.count → get_or (all w) i Null ≡ item_at w i
here w i lt = let e : 0 + i ≡ i = omega arith in value-there (item_at w) 0 w.count i Null lt ∙ ap (item_at w) e

pub loop-i-init : goal.loop-i-init
loop-i-init c = subst (λ (k : DataType). Holds c.new-builder.result k []) c.in_ok-clone_kind.ensures.same c.new-builder.ensures

pub push_list-requires-clause-takes : goal.push_list-requires-clause-takes
push_list-requires-clause-takes c =
    let w = window_of c.args.lists.now in
    let i = c.loop-i.i in
    let vs = all w in
    let small : i < w.count = omega (arith, c.loop-i-test.true, c.count_items-i-end.ensures.count) in
    let inside : i < length vs = omega (arith, small, length-each (item_at w) 0 w.count) in
    let before = flat_map items_in (take i vs) in
    let after = flat_map items_in (drop (suc i) vs) in
    record {
      kind = c.args.kind.now;
      before = before;
      after = after;
      holds = c.loop-i.invariant;
      stored = c.storage_of-storage.ensures;
      items = subst (Fits c.args.kind.now)
          (run-split items_in vs i Null inside ∙ ap (λ (v : Value). before ++ (items_in v ++ after)) (here w i small)) c.requires.items;
    }

pub loop-i-preserved : goal.loop-i-preserved
loop-i-preserved c =
    let w = window_of c.args.lists.now in
    let i = c.loop-i.i in
    let vs = all w in
    let kind = c.args.kind.now in
    let small : i < w.count = omega (arith, c.loop-i-test.true, c.count_items-i-end.ensures.count) in
    let inside : i < length vs = omega (arith, small, length-each (item_at w) 0 w.count) in
    let before = flat_map items_in (take i vs) in
    subst (Holds c.push_list.new.builder kind)
    (ap (λ (v : Value). before ++ items_in v) (sym (here w i small))
    ∙ ap (λ (xs : List Value). before ++ xs) (sym (append-nil (items_in (get_or vs i Null))))
    ∙ sym (flat_map-append items_in (take i vs) (get_or vs i Null ∷ []))
    ∙ ap (flat_map items_in) (sym (take_more vs i Null inside)))
    (c.in_ok-push_list.ensures kind before c.loop-i.invariant)

pub returns : goal.returns
returns c =
    let w = window_of c.args.lists.now in
    let vs = all w in
    let end : c.loop-i.i ≡ length vs =
    omega (arith, c.loop-i-test.false, c.loop-i.auto.i-end, c.count_items-i-end.ensures.count, length-each (item_at w) 0 w.count) in
    subst (λ (xs : List Value). Holds c.loop-i.builder c.args.kind.now (flat_map items_in xs)) (take-length vs)
    (subst (λ n. Holds c.loop-i.builder c.args.kind.now (flat_map items_in (take n vs))) end c.loop-i.invariant)
