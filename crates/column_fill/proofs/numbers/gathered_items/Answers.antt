use Rattle.std.proofs.Common.{◌≡◌, ◌∙◌, ◌+◌, ◌++◌, ℕ, suc, [], ◌∷◌, List, sym, ap, subst, take, drop, map, length, get_or, arith}
use Rattle.std.proofs.Math.Seq.{take-length}
use Rattle.arr_import.specs.Cols.{window_of}
use Rattle.col_build.specs.Holding.{Holds}
use Rattle.data_types.specs.promise.Table.{Flat}
use Rattle.data_types.specs.promise.Value.{Value}
use Rattle.data_types.specs.declared.kind.DataType.{DataType}
use Rattle.data_types.specs.promise.ColumnKinds.{type_of_kind}
use Rattle.data_types.specs.promise.TypedView.{typed_of}
use Rattle.layout_rules.specs.promise.Values.{value_at}
use Rattle.column_fill.specs.Takes.{Takes}
use Rattle.column_fill.proofs.ItemsMoved.{item-of, one-more}
use Rattle.column_fill.specs.Gathered.{values_at}
use Rattle.column_fill.proofs.Taken.{next-of, takes-one}
use Rattle.column_fill.proofs.numbers.gathered_items.Goals as goal

pub loop-i-init : goal.loop-i-init
loop-i-init c = subst (λ (k : DataType). Holds c.new-builder.result k []) c.in_ok-clone_kind.ensures.same c.new-builder.ensures

pub push_item-requires-clause-near : goal.push_item-requires-clause-near
push_item-requires-clause-near c =
    let node = c.lawful_trees.ensures.root (type_of_kind (Flat c.args.kind.now)) c.args.array.now tt c.requires.items.ok in
    let inside = c.requires.items.inside c.loop-i.i-index 0 c.loop-i-test.true in
    omega (arith, inside, node.many, node.near)

pub push_item-requires-clause-takes : goal.push_item-requires-clause-takes
push_item-requires-clause-takes c =
    let kind = c.args.kind.now in
    let can = c.requires.items in
    let kept = c.args.kept.now in
    let k = c.loop-i.i-index in
    let f : ℕ → Value = λ i. value_at (type_of_kind (Flat kind)) c.args.array.now (c.args.start + i) in
    let from : c.from.result ≡ get_or kept k 0 = c.from.ensures in
    subst (Takes c.loop-i.builder c.storage_of-storage.result)
    (sym (item-of (Flat kind) (typed_of c.args.typed.now) c.args.array.now (window_of c.of-items.result) (c.args.start + c.from.result)
    c.of-items.ensures.window c.requires.typed ∙ ap f from))
    (takes-one kind (map f (take k kept)) (map f (drop (suc k) kept)) (map f kept) (f (get_or kept k 0)) c.loop-i.builder c.storage_of-storage.result
    (next-of f kept k c.loop-i-test.true) can.items c.loop-i.invariant c.storage_of-storage.ensures)

pub loop-i-preserved : goal.loop-i-preserved
loop-i-preserved c =
    let kind = c.args.kind.now in
    let kept = c.args.kept.now in
    let k = c.loop-i.i-index in
    let f : ℕ → Value = λ i. value_at (type_of_kind (Flat kind)) c.args.array.now (c.args.start + i) in
    let from : c.from.result ≡ get_or kept k 0 = c.from.ensures in
    let here = item-of (Flat kind) (typed_of c.args.typed.now) c.args.array.now (window_of c.of-items.result) (c.args.start + c.from.result)
    c.of-items.ensures.window c.requires.typed ∙ ap f from in
    let before = values_at (type_of_kind (Flat kind)) c.args.array.now c.args.start (take k kept) in
    subst (Holds c.push_item.new.builder kind)
    (ap (λ (v : Value). before ++ v ∷ []) here ∙ sym (one-more f kept k c.loop-i-test.true))
    (c.in_ok-push_item.ensures kind before c.loop-i.invariant)

pub returns : goal.returns
returns c =
    let kept = c.args.kept.now in
    let typed = type_of_kind (Flat c.args.kind.now) in
    let all : c.loop-i.i-index ≡ length kept = omega (arith, c.loop-i-test.false, c.loop-i.auto.i-index-end) in
    subst (λ (ks : List ℕ). Holds c.loop-i.builder c.args.kind.now (values_at typed c.args.array.now c.args.start ks)) (take-length kept)
    (subst (λ n. Holds c.loop-i.builder c.args.kind.now (values_at typed c.args.array.now c.args.start (take n kept))) all c.loop-i.invariant)
