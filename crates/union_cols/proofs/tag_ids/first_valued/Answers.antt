use Rattle.std.proofs.Common.{rules, ◌+◌, ◌<◌, ℕ, inl, inr, arith, subst, sym}
use Rattle.std.specs.Prelude.{IsTrue}
use Rattle.std.proofs.lemmas.Bool.{cases_eq}
use Rattle.arr_import.proofs.Reading.{children-count}
use Rattle.data_types.specs.promise.TypedView.{typed_of}
use Rattle.data_types.specs.declared.typed.Typed.{out-Typed}
use Rattle.union_cols.specs.NullColumns.{IsNullColumn}
use Rattle.union_cols.proofs.tag_ids.first_valued.Goals as goal

pub is_null_column-requires-clause-inside : goal.is_null_column-requires-clause-inside
is_null_column-requires-clause-inside c =
    let t = c.args.typed.now in
    omega (arith, c.loop-k-test.true, c.len-k-end.ensures, (out-Typed t).kids.ok, children-count t c.kinds_of_typed.ensures)

pub loop-k-preserved : goal.loop-k-preserved
loop-k-preserved c = λ (j : ℕ) (lt : j < c.loop-k.k + 1).
    let N = IsNullColumn (typed_of c.args.typed.now) c.args.array.now in
    elim (cases_eq j c.loop-k.k) [
      | inl last ↦
          let yes : IsTrue c.is_null_column.result = search rules in
          subst N (sym last) (c.is_null_column.ensures yes)
      | inr other ↦ c.loop-k.invariant j (omega (arith, lt, other))
    ]

pub returns-then-not-is_null_column-clause-inside : goal.returns-then-not-is_null_column-clause-inside
returns-then-not-is_null_column-clause-inside c =
    let t = c.args.typed.now in
    omega (arith, c.loop-k-test.true, c.len-k-end.ensures, (out-Typed t).kids.ok, children-count t c.kinds_of_typed.ensures)
