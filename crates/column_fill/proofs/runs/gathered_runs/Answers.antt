use Rattle.std.proofs.Common.{◌≡◌, ◌≢◌, ◌∙◌, ◌++◌, suc, [], ◌∷◌, List, sym, ap, subst, replicate, take, drop, length, get_or, arith}
use Rattle.std.proofs.Math.Seq.{take-length}
use Rattle.std.proofs.lemmas.Grind.{flat_map-append}
use Rattle.std.proofs.lemmas.List.{append-nil, take_more}
use Rattle.std.specs.List.{flat_map}
use Rattle.arr_import.specs.Cols.{window_of}
use Rattle.col_build.specs.Encoding.{Fits}
use Rattle.col_build.specs.Holding.{Holds}
use Rattle.col_build.specs.Times.{TakesTimes}
use Rattle.data_types.specs.promise.Table.{Flat}
use Rattle.data_types.specs.promise.Value.{Value}
use Rattle.data_types.specs.declared.kind.DataType.{DataType}
use Rattle.data_types.specs.promise.ColumnKinds.{type_of_kind}
use Rattle.data_types.specs.promise.TypedView.{typed_of}
use Rattle.layout_rules.specs.promise.Values.{value_at}
use Rattle.column_fill.specs.Takes.{IsStored}
use Rattle.column_fill.proofs.ItemsMoved.{item-of}
use Rattle.column_fill.specs.Gathered.{values_of_runs}
use Rattle.column_fill.specs.declared.runs.Run.{Run}
use Rattle.column_fill.proofs.Taken.{run-split, stored-times, takes-times}
use Rattle.column_fill.proofs.runs.gathered_runs.Goals as goal

-- of no item
abbrev none : Run
none = record { item = 0; times = 0 }

pub loop-run-init : goal.loop-run-init
loop-run-init c = subst (λ (k : DataType). Holds c.new-builder.result k []) c.in_ok-clone_kind.ensures.same c.new-builder.ensures

pub push_item_times-requires-clause-near : goal.push_item_times-requires-clause-near
push_item_times-requires-clause-near c =
    let node = c.lawful_trees.ensures.root (type_of_kind (Flat c.args.kind.now)) c.args.array.now tt c.requires.items.ok in
    let inside = c.requires.items.inside c.loop-run.run-index none c.loop-run-test.true in
    omega (arith, inside, node.many, node.near)

pub push_item_times-requires-clause-stored : goal.push_item_times-requires-clause-stored
push_item_times-requires-clause-stored c =
    let kind = c.args.kind.now in
    let can = c.requires.items in
    let runs = c.args.runs.now in
    let k = c.loop-run.run-index in
    let run = get_or runs k none in
    let f : Run → List Value = λ r. replicate r.times (value_at (type_of_kind (Flat kind)) c.args.array.now r.item) in
    subst (λ (v : Value). run.times ≢ 0 → IsStored c.storage_of-storage.result v)
    (sym (item-of (Flat kind) (typed_of c.args.typed.now) c.args.array.now (window_of c.of-items.result) run.item
    c.of-items.ensures.window c.requires.typed))
    (stored-times kind (flat_map f (take k runs)) (flat_map f (drop (suc k) runs)) (value_at (type_of_kind (Flat kind)) c.args.array.now run.item)
    run.times c.storage_of-storage.result (subst (Fits kind) (run-split f runs k none c.loop-run-test.true) can.items) c.storage_of-storage.ensures)

pub push_item_times-requires-clause-takes : goal.push_item_times-requires-clause-takes
push_item_times-requires-clause-takes c =
    let kind = c.args.kind.now in
    let can = c.requires.items in
    let runs = c.args.runs.now in
    let k = c.loop-run.run-index in
    let run = get_or runs k none in
    let f : Run → List Value = λ r. replicate r.times (value_at (type_of_kind (Flat kind)) c.args.array.now r.item) in
    subst (λ (v : Value). TakesTimes c.loop-run.builder v run.times)
    (sym (item-of (Flat kind) (typed_of c.args.typed.now) c.args.array.now (window_of c.of-items.result) run.item
    c.of-items.ensures.window c.requires.typed))
    (takes-times kind (flat_map f (take k runs)) (flat_map f (drop (suc k) runs)) (value_at (type_of_kind (Flat kind)) c.args.array.now run.item)
    run.times c.loop-run.builder (subst (Fits kind) (run-split f runs k none c.loop-run-test.true) can.items) c.loop-run.invariant)

pub loop-run-preserved : goal.loop-run-preserved
loop-run-preserved c =
    let kind = c.args.kind.now in
    let runs = c.args.runs.now in
    let k = c.loop-run.run-index in
    let run = get_or runs k none in
    let f : Run → List Value = λ r. replicate r.times (value_at (type_of_kind (Flat kind)) c.args.array.now r.item) in
    let here = item-of (Flat kind) (typed_of c.args.typed.now) c.args.array.now (window_of c.of-items.result) run.item
    c.of-items.ensures.window c.requires.typed in
    let before = flat_map f (take k runs) in
    let one : f run ≡ flat_map f (run ∷ []) = sym (append-nil (f run)) in
    subst (Holds c.push_item_times.new.builder kind)
    (ap (λ (v : Value). before ++ replicate run.times v) here
    ∙ ap (λ (vs : List Value). before ++ vs) one
    ∙ sym (flat_map-append f (take k runs) (run ∷ []))
    ∙ ap (flat_map f) (sym (take_more runs k none c.loop-run-test.true)))
    (c.in_ok-push_item_times.ensures.added kind before c.loop-run.invariant)

pub returns : goal.returns
returns c =
    let runs = c.args.runs.now in
    let typed = type_of_kind (Flat c.args.kind.now) in
    let all : c.loop-run.run-index ≡ length runs = omega (arith, c.loop-run-test.false, c.loop-run.auto.run-index-end) in
    subst (λ (rs : List Run). Holds c.loop-run.builder c.args.kind.now (values_of_runs typed c.args.array.now rs)) (take-length runs)
    (subst (λ n. Holds c.loop-run.builder c.args.kind.now (values_of_runs typed c.args.array.now (take n runs))) all c.loop-run.invariant)
