use Rattle.std.proofs.Common.{[], ◌∷◌, arith, sym, subst}
use Rattle.tree_text.specs.declared.fault.TextFault.TheVariants.{Line}
use Rattle.tree_text.specs.promise.Standing.{AtSchema, AtArray}
use Rattle.tree_text.specs.Cursors.{left, StopsLast}
use Rattle.tree_text.proofs.SchemaSteps.{left_tree}
use Rattle.tree_text.proofs.WholeText.{stops_in_array, stops_behind}
use Rattle.tree_text.proofs.reading.both_trees.Goals as goal

pub array-requires-clause-room : goal.array-requires-clause-room
array-requires-clause-room c =
    omega (
      arith,
      left_tree c.args.bytes.now c.args.cursor c.in_ok-schema.middle 1 c.in_ok-schema.schema c.in_ok-schema.ensures.read,
      c.in_ok-schema.ensures.units,
      c.requires.room,
    )

pub returns-in-Some-clause-fault : goal.returns-in-Some-clause-fault
returns-in-Some-clause-fault c =
    let bytes = c.args.bytes.now in
    let taken = c.in-Some.field-0 in
    let behind = stops_behind bytes c.in_ok-schema.middle c.in-Ok.end c.in-Ok.array taken.0.now (left bytes taken.1)
    c.in_ok-schema.ensures.read.between.cursor c.in-Ok.ensures.read c.in-Some.ensures.taken in
    let all = stops_in_array bytes c.args.cursor c.in_ok-schema.middle c.in_ok-schema.schema (Line c.in-Ok.end.line) c.requires.cursor
    c.in_ok-schema.ensures.read behind in
    subst (StopsLast bytes c.args.cursor (AtSchema 1 ∷ AtArray 1 ∷ [])) (sym c.fault.ensures) all

pub returns-in-Err-clause-fault : goal.returns-in-Err-clause-fault
returns-in-Err-clause-fault c =
    stops_in_array c.args.bytes.now c.args.cursor c.in_ok-schema.middle c.in_ok-schema.schema c.in-Err.fault c.requires.cursor c.in_ok-schema.ensures.read
    (c.in-Err.ensures.fault [])
