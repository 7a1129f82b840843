use Rattle.std.proofs.Common.{rules, ◌≤◌, length, refl, Err}
use Rattle.std.specs.Str.Lines.{lines}
use Rattle.tree_text.specs.declared.cursor.Cursor.{Cursor}
use Rattle.tree_text.specs.promise.Answers.{most_lines}
use Rattle.tree_text.proofs.OneTree.{gives}
use Rattle.tree_text.proofs.WholeText.{origin_is, read_result, fault_result, first_named}
use Rattle.tree_text.proofs.reading.read_tree.Goals as goal

abbrev origin : Cursor
origin = record { at = 0; line = 1 }

pub returns-in-Ok-clause-found : goal.returns-in-Ok-clause-found
returns-in-Ok-clause-found c =
    let few : length (lines c.args.bytes.now) ≤ most_lines = search rules in
    read_result c.args.bytes.now origin c.in-Ok.cursor c.both_trees.result refl few c.in-Ok.ensures.read c.both_trees.ensures.read

pub returns-in-Ok-clause-fault : goal.returns-in-Ok-clause-fault
returns-in-Ok-clause-fault c =
    let few : length (lines c.args.bytes.now) ≤ most_lines = search rules in
    fault_result c.args.bytes.now origin c.in-Ok.cursor c.both_trees.result refl refl (origin_is c.args.bytes.now origin refl refl few) c.in-Ok.ensures.read
    c.both_trees.ensures.fault

pub returns-in-Ok-clause-only : goal.returns-in-Ok-clause-only
returns-in-Ok-clause-only c =
    let few : length (lines c.args.bytes.now) ≤ most_lines = search rules in
    gives c.args.bytes.now c.both_trees.result
    (read_result c.args.bytes.now origin c.in-Ok.cursor c.both_trees.result refl few c.in-Ok.ensures.read c.both_trees.ensures.read)
    (fault_result c.args.bytes.now origin c.in-Ok.cursor c.both_trees.result refl refl (origin_is c.args.bytes.now origin refl refl few) c.in-Ok.ensures.read
    c.both_trees.ensures.fault)

pub returns-in-Err-clause-fault : goal.returns-in-Err-clause-fault
returns-in-Err-clause-fault c =
    let few : length (lines c.args.bytes.now) ≤ most_lines = search rules in
    first_named c.args.bytes.now origin c.in-Err.fault refl refl few c.in-Err.ensures.fault

pub returns-in-Err-clause-only : goal.returns-in-Err-clause-only
returns-in-Err-clause-only c =
    let few : length (lines c.args.bytes.now) ≤ most_lines = search rules in
    gives c.args.bytes.now (Err c.in-Err.fault) tt (first_named c.args.bytes.now origin c.in-Err.fault refl refl few c.in-Err.ensures.fault)
