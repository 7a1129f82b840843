use Rattle.std.proofs.Common.{ℕ, replicate, get_or, refl, arith}
use Rattle.union_cols.proofs.Tables.{few_ids, empty_table, table_more, whole_table, none_above}
use Rattle.union_cols.proofs.id_table.IdTable.of.Goals as goal

pub loop-k-init : goal.loop-k-init
loop-k-init c = empty_table (replicate {A = ℕ} 128 255) refl

pub overflow_cast-places : goal.overflow_cast-places
overflow_cast-places c = omega (arith, few_ids c.args.ids.now c.requires, c.loop-k-test.true)

pub loop-k-preserved : goal.loop-k-preserved
loop-k-preserved c =
    table_more c.args.ids.now c.loop-k.places c.loop-k.k (get_or c.args.ids.now c.loop-k.k 0) c.loop-k-test.true refl c.requires c.loop-k.invariant

pub invariant_of-result : goal.invariant_of-result
invariant_of-result c =
    record {
      entries = (whole_table c.args.ids.now c.loop-k.places c.loop-k.k c.loop-k-test.false c.loop-k.invariant).entries;
      above = λ id high. none_above c.args.ids.now id c.requires high;
    }
