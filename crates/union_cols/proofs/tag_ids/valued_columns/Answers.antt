use Rattle.std.proofs.Common.{rules, ◌≡◌, ◌∙◌, ◌+◌, length, ap, sym, subst, arith}
use Rattle.std.specs.Prelude.{IsTrue}
use Rattle.arr_import.proofs.Reading.{children-count}
use Rattle.data_types.specs.promise.TypedView.{typed_of}
use Rattle.data_types.specs.declared.typed.Typed.{out-Typed}
use Rattle.tree_model.specs.promise.TreeParts.{children_of}
use Rattle.union_cols.specs.NullColumns.{AreAllBut, IsNullColumn}
use Rattle.union_cols.proofs.NullColumns.{looked-at, passed-over}
use Rattle.union_cols.proofs.tag_ids.valued_columns.Goals as goal
use Rattle.union_cols.proofs.tag_ids.valued_columns.Goals.{then-not-is_null_column+in_ok-push, else-not-is_null_column}

pub is_null_column-requires-clause-inside : goal.is_null_column-requires-clause-inside
is_null_column-requires-clause-inside c =
    let t = c.args.typed.now in
    omega (arith, c.loop-k-test.true, c.len-k-end.ensures, (out-Typed t).kids.ok, children-count t c.kinds_of_typed.ensures)

pub loop-k-preserved : goal.loop-k-preserved
loop-k-preserved c =
    let N = IsNullColumn (typed_of c.args.typed.now) c.args.array.now in
    let k = c.loop-k.k in
    let ns = c.loop-k.numbers.items in
    elim c.if-not-is_null_column.branch [
      | then-not-is_null_column+in_ok-push w ↦
          subst (AreAllBut N (k + 1)) (sym (ap (λ v. v.items) w.numbers-is ∙ w.in_ok-push.ensures.items)) (looked-at k ns c.loop-k.invariant)
      | else-not-is_null_column w ↦
          let yes : IsTrue c.is_null_column.result = search rules in
          subst (AreAllBut N (k + 1)) (sym (ap (λ v. v.items) w.numbers-is)) (passed-over k ns c.loop-k.invariant (c.is_null_column.ensures yes))
    ]

pub returns : goal.returns
returns c =
    let t = c.args.typed.now in
    let N = IsNullColumn (typed_of t) c.args.array.now in
    let end : c.loop-k.k ≡ length (children_of (typed_of t)) =
    omega (arith, c.loop-k-test.false, c.loop-k.auto.k-end, c.len-k-end.ensures, (out-Typed t).kids.ok, children-count t c.kinds_of_typed.ensures) in
    subst (λ n. AreAllBut N n c.loop-k.numbers.items) end c.loop-k.invariant
