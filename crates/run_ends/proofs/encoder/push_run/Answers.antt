use Rattle.std.proofs.Common.{◌≡◌, ℤ, sym, subst, pos, arith, to_z, of_z}
use Rattle.std.specs.Int.{w128}
use Rattle.std.proofs.lemmas.Int.{ints}
use Rattle.arr_import.specs.Cols.{window_of}
use Rattle.col_build.specs.Holding as held
use Rattle.column_fill.specs.Takes.{Takes}
use Rattle.data_types.specs.promise.Value.{Value, Whole}
use Rattle.run_ends.specs.ColumnRuns.{values_in}
use Rattle.run_ends.proofs.Making.{end-taken, ends-whole, item-there, one-added, value-taken}
use Rattle.run_ends.proofs.encoder.push_run.Goals as goal

pub add_whole-requires-clause-takes : goal.add_whole-requires-clause-takes
add_whole-requires-clause-takes c =
    let holds = c.requires.holds in
    let number : to_z w128 (of_z w128 c.from.result) ≡ pos c.stop_of-stop.result =
    omega (arith, ints, c.from.ensures, c.stop_of-stop.ensures.few) in
    subst (λ (z : ℤ). held.Takes c.args.making.now.ends (Whole z)) (sym number)
    (end-taken c.args.making.now holds.0 (values_in c.args.runs.now) c.args.at c.stop_of-stop.result holds.1 c.stop_of-stop.ensures.run)

pub add_whole-requires-clause-width : goal.add_whole-requires-clause-width
add_whole-requires-clause-width c =
    let holds = c.requires.holds in
    ends-whole c.args.making.now holds.0 (values_in c.args.runs.now) c.args.at holds.1

pub push_item-requires-clause-inside : goal.push_item-requires-clause-inside
push_item-requires-clause-inside c =
    (item-there (window_of c.args.items.now) (values_in c.args.runs.now) c.args.at c.requires.same c.requires.inside).0

pub push_item-requires-clause-takes : goal.push_item-requires-clause-takes
push_item-requires-clause-takes c =
    let holds = c.requires.holds in
    let values = values_in c.args.runs.now in
    let there = (item-there (window_of c.args.items.now) values c.args.at c.requires.same c.requires.inside).1 in
    subst (λ (v : Value). Takes c.args.making.now.values c.args.storage v) (sym there)
    (value-taken c.args.making.now holds.0 values c.args.at c.stop_of-stop.result c.args.storage holds.1 c.stop_of-stop.ensures.run holds.2)

pub returns-clause-added : goal.returns-clause-added
returns-clause-added c = λ kind up stored.
    let values = values_in c.args.runs.now in
    let there = (item-there (window_of c.args.items.now) values c.args.at c.requires.same c.requires.inside).1 in
    let number : to_z w128 (of_z w128 c.from.result) ≡ pos c.stop_of-stop.result =
    omega (arith, ints, c.from.ensures, c.stop_of-stop.ensures.few) in
    one-added c.args.making.now (record { ends = c.add_whole.new.self; values = c.push_item.new.builder }) kind values c.args.at c.stop_of-stop.result up
    c.stop_of-stop.ensures.run
    (subst (λ (z : ℤ). held.Adds (Whole z) c.args.making.now.ends c.add_whole.new.self) number c.in_ok-add_whole.ensures.added)
    (subst (λ (v : Value). held.Adds v c.args.making.now.values c.push_item.new.builder) there c.in_ok-push_item.ensures)
