use Rattle.std.proofs.Common.{◌≡◌, ◌∙◌, ◌<◌, ◌+◌, suc, true, false, length, get_or, drop, ap, sym, arith, rules}
use Rattle.std.proofs.Math.Seq.{drop-cons, drop-length}
use Rattle.tree_model.specs.promise.TreeData.{Released}
use Rattle.data_types.specs.TypedView.{kids_of}
use Rattle.data_types.specs.declared.typed.Typed.{out-Typed}
use Rattle.list_cols.specs.promise.Faults.{first_wrong}
use Rattle.list_cols.specs.Faults.{nests}
use Rattle.list_cols.proofs.Kids.{kid-is, kids-are, many-kids, step-wrong}
use Rattle.list_cols.proofs.nest_wrong.wrong_to_nest.Goals as goal

pub returns-then-not-is_flat_column : goal.returns-then-not-is_flat_column
returns-then-not-is_flat_column c =
    let t = c.args.typed.now in
    let k = c.loop-k.k in
    let p = nests in
    let kids = kids_of t in
    let lt : k < length kids = omega (arith, c.loop-k-test.true, c.len-k-end.ensures, many-kids t, (out-Typed t).kids.ok) in
    let kid = kid-is t c.index.result.now k lt c.index.ensures in
    let bad : c.is_flat_column.result ≡ false = search rules in
    let here : p k (get_or kids k Released) ≡ false = ap (p k) kid ∙ sym c.is_flat_column.ensures ∙ bad in
    sym (ap (first_wrong p 0) (kids-are t c.kinds_of_typed.ensures) ∙ c.loop-k.invariant ∙ ap (first_wrong p k) (drop-cons kids k Released lt)
    ∙ step-wrong p k (get_or kids k Released) (drop (suc k) kids) false here)

pub loop-k-preserved : goal.loop-k-preserved
loop-k-preserved c =
    let t = c.args.typed.now in
    let k = c.loop-k.k in
    let p = nests in
    let kids = kids_of t in
    let lt : k < length kids = omega (arith, c.loop-k-test.true, c.len-k-end.ensures, many-kids t, (out-Typed t).kids.ok) in
    let kid = kid-is t c.index.result.now k lt c.index.ensures in
    let good : c.is_flat_column.result ≡ true = search rules in
    let here : p k (get_or kids k Released) ≡ true = ap (p k) kid ∙ sym c.is_flat_column.ensures ∙ good in
    let next : suc k ≡ k + 1 = omega arith in
    c.loop-k.invariant ∙ ap (first_wrong p k) (drop-cons kids k Released lt)
    ∙ step-wrong p k (get_or kids k Released) (drop (suc k) kids) true here
    ∙ ap (λ n. first_wrong p n (drop n kids)) next

pub returns : goal.returns
returns c =
    let t = c.args.typed.now in
    let p = nests in
    let kids = kids_of t in
    let end : c.loop-k.k ≡ length kids = omega (arith, c.loop-k-test.false, c.loop-k.auto.k-end, c.len-k-end.ensures, many-kids t, (out-Typed t).kids.ok) in
    sym (ap (first_wrong p 0) (kids-are t c.kinds_of_typed.ensures) ∙ c.loop-k.invariant
    ∙ ap (λ n. first_wrong p n (drop n kids)) end ∙ ap (first_wrong p (length kids)) (drop-length kids))
