use Rattle.std.proofs.Common.{rules, map, arith}
use Rattle.std.proofs.lemmas.List.{length-map}
use Rattle.tree_model.specs.promise.TreeParts.{children_of}
use Rattle.data_types.specs.promise.TypedView.{typed_of}
use Rattle.run_ends.specs.promise.Runs.{IsEnds}
use Rattle.run_ends.proofs.OneRuns.{two_zipped, are_over, are_ok}
use Rattle.run_ends.proofs.read.kinds_below.Goals as goal

pub two_kids-ends-requires : goal.two_kids-ends-requires
two_kids-ends-requires c =
    let kids = c.in_ok-kids.kids.items in
    omega (arith, two_zipped (children_of c.args.schema.now) (map typed_of kids) c.in_ok-kids.ensures.found, length-map kids typed_of, c.requires.count)

pub returns-then-not-is_ends-clause-fault : goal.returns-then-not-is_ends-clause-fault
returns-then-not-is_ends-clause-fault c =
    let ends = c.two_kids-ends.result.0 in
    let values = c.two_kids-ends.result.1 in
    let no : ¬ IsEnds (typed_of ends) = search rules in
    let over = are_over c.args.schema.now c.in_ok-kids.kids.items ends values c.requires.plain c.requires.count c.in_ok-kids.ensures.found c.two_kids-ends.ensures in
    (tt, (record { ends = typed_of ends; values = typed_of values }, over, no))

pub returns-clause-found : goal.returns-clause-found
returns-clause-found c =
    let ends = c.two_kids-ends.result.0 in
    let values = c.two_kids-ends.result.1 in
    let yes : IsEnds (typed_of ends) = search rules in
    let over = are_over c.args.schema.now c.in_ok-kids.kids.items ends values c.requires.plain c.requires.count c.in_ok-kids.ensures.found c.two_kids-ends.ensures in
    record { over = over; ends = yes }

pub returns-clause-valid : goal.returns-clause-valid
returns-clause-valid c =
    let ends = c.two_kids-ends.result.0 in
    let values = c.two_kids-ends.result.1 in
    let yes : IsEnds (typed_of ends) = search rules in
    are_ok c.in_ok-kids.kids.items ends values c.in_ok-kids.ensures.valid c.two_kids-ends.ensures yes
