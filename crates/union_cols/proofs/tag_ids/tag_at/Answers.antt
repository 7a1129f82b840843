use Rattle.std.proofs.Common.{◌≡◌, ◌<◌, ◌≤◌, ◌∙◌, get_or, length, map, true, sym, ap, arith}
use Rattle.std.proofs.lemmas.List.{length-map}
use Rattle.data_types.specs.promise.Value.{Null, is_null}
use Rattle.arr_import.specs.declared.col.Col.{Col}
use Rattle.arr_import.specs.Cols.{window_of}
use Rattle.arr_import.specs.Window.{item_at}
use Rattle.union_cols.proofs.NullColumns.{all-behind, also-here, at-place}
use Rattle.union_cols.proofs.TagSteps.{first-there, none-there}
use Rattle.union_cols.proofs.tag_ids.tag_at.Goals as goal

pub returns-then-not-is_null : goal.returns-then-not-is_null
returns-then-not-is_null c =
    let columns = c.args.columns.now in
    let numbers = c.args.numbers.now in
    let f = λ (x : Col). item_at (window_of x) c.args.i in
    let p = c.loop-p.p in
    let k = get_or numbers p 0 in
    let at : get_or numbers p (length columns) ≡ k = at-place (length columns) numbers p 0 c.requires.numbers c.loop-p-test.true in
    let inside : k < length (map f columns) = omega (arith, length-map columns f, c.requires.numbers.below p c.loop-p-test.true, at) in
    sym (first-there (map f columns) k Null inside (λ j before. c.loop-p.invariant j (omega (arith, before, at)))
    (sym c.is_null.ensures ∙ c.if-not-is_null.true))

pub loop-p-preserved : goal.loop-p-preserved
loop-p-preserved c =
    let columns = c.args.columns.now in
    let numbers = c.args.numbers.now in
    let f = λ (x : Col). item_at (window_of x) c.args.i in
    let p = c.loop-p.p in
    let at = at-place (length columns) numbers p 0 c.requires.numbers c.loop-p-test.true in
    also-here (length columns) numbers p c.requires.numbers c.loop-p-test.true c.loop-p.invariant
    (ap (λ k. is_null (get_or (map f columns) k Null)) at ∙ sym c.is_null.ensures ∙ c.if-not-is_null.false)

pub returns : goal.returns
returns c =
    let columns = c.args.columns.now in
    let numbers = c.args.numbers.now in
    let f = λ (x : Col). item_at (window_of x) c.args.i in
    let end : length numbers ≤ c.loop-p.p = omega (arith, c.loop-p-test.false) in
    sym (none-there (map f columns) Null (λ j lt.
    all-behind (length columns) numbers c.loop-p.p end c.loop-p.invariant j (omega (arith, lt, length-map columns f))))
