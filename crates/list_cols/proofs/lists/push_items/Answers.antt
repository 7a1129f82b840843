use Rattle.std.proofs.Common.{◌≡◌, ◌∙◌, ◌<◌, ◌++◌, [], ◌∷◌, suc, List, length, get_or, take, drop, ap, sym, subst, arith}
use Rattle.std.proofs.Math.Seq.{split_at, take-length}
use Rattle.std.proofs.lemmas.List.{append_assoc, append-nil, length-append, take_more}
use Rattle.arr_export.proofs.Each.{length-each, value-there}
use Rattle.arr_import.specs.Cols.{window_of}
use Rattle.arr_import.specs.Window.{Window, item_at, items_of}
use Rattle.col_build.specs.Holding.{Holds}
use Rattle.column_fill.specs.Takes.{Takes}
use Rattle.column_fill.proofs.Taken.{takes-one}
use Rattle.data_types.specs.promise.Value.{Value, Null}
use Rattle.layout_rules.specs.promise.Values.{value_at}
use Rattle.list_cols.specs.Listed.{AddsAll}
use Rattle.list_cols.proofs.lists.push_items.Goals as goal

many : (w : Window) → length (items_of w) ≡ w.count
many w = length-each (value_at w.typed w.array) w.start w.count

here : (w : Window) (i : _) → i < w.count → get_or (items_of w) i Null ≡ item_at w i
here w i lt = value-there (value_at w.typed w.array) w.start w.count i Null lt

pub loop-i-init : goal.loop-i-init
loop-i-init c = λ kind values holds. subst (Holds c.args.builder.now kind) (sym (append-nil values)) holds

pub push_item-requires-clause-near : goal.push_item-requires-clause-near
push_item-requires-clause-near c =
    let takes = c.requires.takes in
    let w = window_of c.args.items.now in
    omega (
      arith,
      takes.items.few,
      length-append takes.before (items_of w ++ takes.after),
      length-append (items_of w) takes.after,
      many w,
      c.loop-i-test.true,
      c.count_items-i-end.ensures.count,
    )

pub push_item-requires-clause-takes : goal.push_item-requires-clause-takes
push_item-requires-clause-takes c =
    let takes = c.requires.takes in
    let w = window_of c.args.items.now in
    let i = c.loop-i.i in
    let vs = items_of w in
    let small : i < w.count = omega (arith, c.loop-i-test.true, c.count_items-i-end.ensures.count) in
    let inside : i < length vs = omega (arith, small, many w) in
    let v = get_or vs i Null in
    let rest = drop (suc i) vs in
    let split : takes.before ++ (vs ++ takes.after) ≡ (takes.before ++ take i vs) ++ v ∷ (rest ++ takes.after) =
    ap (λ (xs : List Value). takes.before ++ (xs ++ takes.after)) (split_at vs i Null inside)
    ∙ ap (λ (xs : List Value). takes.before ++ xs) (append_assoc (take i vs) (v ∷ rest) takes.after)
    ∙ sym (append_assoc takes.before (take i vs) (v ∷ (rest ++ takes.after))) in
    subst (λ (x : Value). Takes c.loop-i.builder c.args.storage x) (here w i small)
    (takes-one takes.kind (takes.before ++ take i vs) (rest ++ takes.after) _ v c.loop-i.builder c.args.storage split takes.items
    (c.loop-i.invariant takes.kind takes.before takes.holds) takes.stored)

pub loop-i-preserved : goal.loop-i-preserved
loop-i-preserved c = λ kind values holds.
    let w = window_of c.args.items.now in
    let i = c.loop-i.i in
    let vs = items_of w in
    let small : i < w.count = omega (arith, c.loop-i-test.true, c.count_items-i-end.ensures.count) in
    let inside : i < length vs = omega (arith, small, many w) in
    subst (Holds c.push_item.new.builder kind)
    (append_assoc values (take i vs) (item_at w i ∷ [])
    ∙ ap (λ (v : Value). values ++ (take i vs ++ v ∷ [])) (sym (here w i small))
    ∙ ap (λ (xs : List Value). values ++ xs) (sym (take_more vs i Null inside)))
    (c.in_ok-push_item.ensures kind (values ++ take i vs) (c.loop-i.invariant kind values holds))

pub returns : goal.returns
returns c =
    let w = window_of c.args.items.now in
    let vs = items_of w in
    let end : c.loop-i.i ≡ length vs = omega (arith, c.loop-i-test.false, c.loop-i.auto.i-end, c.count_items-i-end.ensures.count, many w) in
    subst (λ (xs : List Value). AddsAll xs c.args.builder.now c.loop-i.builder) (take-length vs)
    (subst (λ n. AddsAll (take n vs) c.args.builder.now c.loop-i.builder) end c.loop-i.invariant)
