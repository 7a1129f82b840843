use Rattle.std.proofs.Common.{◌≡◌, ◌∙◌, ◌+◌, ◌++◌, ℕ, suc, [], ◌∷◌, List, sym, ap, subst, take, drop, map, length, get_or, arith}
use Rattle.std.specs.Prelude.{if◌then◌else◌}
use Rattle.std.proofs.Math.Seq.{take-length}
use Rattle.arr_import.specs.Plain.{IsItemThere, is_valid_in, valid_item}
use Rattle.col_build.specs.Holding.{Holds}
use Rattle.data_types.specs.promise.Value.{Value, Null}
use Rattle.data_types.specs.declared.kind.DataType.{DataType}
use Rattle.column_fill.specs.Takes.{Takes}
use Rattle.column_fill.proofs.ItemsMoved.{one-more}
use Rattle.column_fill.specs.Gathered.{shown_at}
use Rattle.column_fill.proofs.Taken.{next-of, takes-one}
use Rattle.column_fill.proofs.numbers.gathered_of_storage.Goals as goal

pub loop-i-init : goal.loop-i-init
loop-i-init c = subst (λ (k : DataType). Holds c.in_ok-builder.builder k []) c.in_ok-kind.ensures.same c.in_ok-builder.ensures

pub push_plain-requires-clause-there : goal.push_plain-requires-clause-there
push_plain-requires-clause-there c =
    let from : c.from.result ≡ get_or c.args.kept.now c.loop-i.i-index 0 = c.from.ensures in
    subst (λ n. IsItemThere c.args.items (c.args.start + n)) (sym from) (c.requires.items.there c.loop-i.i-index 0 c.loop-i-test.true)

pub push_plain-requires-clause-takes : goal.push_plain-requires-clause-takes
push_plain-requires-clause-takes c =
    let kind = c.args.kind.now in
    let can = c.requires.items in
    let kept = c.args.kept.now in
    let k = c.loop-i.i-index in
    let items = c.args.items in
    let f : ℕ → Value = λ i. if is_valid_in items (c.args.start + i) then valid_item items (c.args.start + i) else Null in
    let from : c.from.result ≡ get_or kept k 0 = c.from.ensures in
    subst (Takes c.loop-i.builder c.args.storage) (ap f (sym from))
    (takes-one kind (map f (take k kept)) (map f (drop (suc k) kept)) (map f kept) (f (get_or kept k 0)) c.loop-i.builder c.args.storage
    (next-of f kept k c.loop-i-test.true) can.fits c.loop-i.invariant (sym c.requires.stored ∙ can.stored))

pub loop-i-preserved : goal.loop-i-preserved
loop-i-preserved c =
    let kind = c.args.kind.now in
    let kept = c.args.kept.now in
    let k = c.loop-i.i-index in
    let items = c.args.items in
    let f : ℕ → Value = λ i. if is_valid_in items (c.args.start + i) then valid_item items (c.args.start + i) else Null in
    let from : c.from.result ≡ get_or kept k 0 = c.from.ensures in
    let before = shown_at items c.args.start (take k kept) in
    subst (Holds c.push_plain.new.builder kind)
    (ap (λ (n : ℕ). before ++ f n ∷ []) from ∙ sym (one-more f kept k c.loop-i-test.true))
    (c.in_ok-push_plain.ensures kind before c.loop-i.invariant)

pub returns : goal.returns
returns c =
    let kept = c.args.kept.now in
    let all : c.loop-i.i-index ≡ length kept = omega (arith, c.loop-i-test.false, c.loop-i.auto.i-index-end) in
    subst (λ (ks : List ℕ). Holds c.loop-i.builder c.args.kind.now (shown_at c.args.items c.args.start ks)) (take-length kept)
    (subst (λ n. Holds c.loop-i.builder c.args.kind.now (shown_at c.args.items c.args.start (take n kept))) all c.loop-i.invariant)
