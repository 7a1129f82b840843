use Rattle.std.proofs.Common.{rules, ◌≡◌, ◌<◌, length, get_or, arith}
use Rattle.tree_model.specs.promise.TreeParts.{children_of}
use Rattle.data_types.specs.promise.Ways.{steps_of}
use Rattle.data_types.proofs.Levels.{levels-kid, kid-ok}
use Rattle.layout_check.proofs.Faults.{children_fault-step, walks}
use Rattle.layout_check.proofs.walk.+check.Goals as goal

pub check_children-check_part-requires : goal.check_children-check_part-requires
check_children-check_part-requires t c =
    let kids = c.args.kids.now in
    let i = c.loop-i.i in
    let kid = c.index-kids-i.result in
    let inside : i < length kids = search rules in
    let is : get_or kids i kid ≡ kid = search rules in
    let levels = levels-kid kids i kid inside in
    let ok = kid-ok kids i kid inside c.requires.types in
    search rules

pub check_children-returns-in_err-check_part-clause-fault : goal.check_children-returns-in_err-check_part-clause-fault
check_children-returns-in_err-check_part-clause-fault t c =
    let kids = c.args.kids.now in
    let i = c.loop-i.i in
    let kid = c.index-kids-i.result in
    let inside : i < length kids = search rules in
    let is : get_or kids i kid ≡ kid = search rules in
    let step = children_fault-step kids i kid (steps_of c.args.path.now) (children_of c.args.array.now) inside c.requires.children in
    search rules

pub check_children-loop-i-preserved : goal.check_children-loop-i-preserved
check_children-loop-i-preserved t c =
    let kids = c.args.kids.now in
    let i = c.loop-i.i in
    let kid = c.index-kids-i.result in
    let inside : i < length kids = search rules in
    let is : get_or kids i kid ≡ kid = search rules in
    let step = children_fault-step kids i kid (steps_of c.args.path.now) (children_of c.args.array.now) inside c.requires.children in
    search rules

pub check_from-check_own-requires : goal.check_from-check_own-requires
check_from-check_own-requires t c = grind (arith, walks)

pub check_from-check_children-requires : goal.check_from-check_children-requires
check_from-check_children-requires t c = grind (arith, walks)

pub check_from-check_dictionary-requires : goal.check_from-check_dictionary-requires
check_from-check_dictionary-requires t c = grind (arith, walks)

pub check_from-returns-clause-fault : goal.check_from-returns-clause-fault
check_from-returns-clause-fault t c = grind (arith, walks)

pub check_children-loop-i-init : goal.check_children-loop-i-init
check_children-loop-i-init t c = grind (arith, walks)

pub check_children-offset_bounds-kids-i : goal.check_children-offset_bounds-kids-i
check_children-offset_bounds-kids-i t c = grind (arith, walks)

pub check_children-bounds-kids-i : goal.check_children-bounds-kids-i
check_children-bounds-kids-i t c = grind (arith, walks)

pub check_children-child-requires : goal.check_children-child-requires
check_children-child-requires t c = grind (arith, walks)

pub check_children-overflow_cast-i : goal.check_children-overflow_cast-i
check_children-overflow_cast-i t c = grind (arith, walks)

pub check_children-loop-i-smaller : goal.check_children-loop-i-smaller
check_children-loop-i-smaller t c = grind (arith, walks)

pub check_children-returns-clause-way : goal.check_children-returns-clause-way
check_children-returns-clause-way t c = grind (arith, walks)

pub check_children-returns-clause-depth : goal.check_children-returns-clause-depth
check_children-returns-clause-depth t c = grind (arith, walks)

pub check_dictionary-dictionary-requires : goal.check_dictionary-dictionary-requires
check_dictionary-dictionary-requires t c = grind (arith, walks)

pub check_dictionary-check_part-requires : goal.check_dictionary-check_part-requires
check_dictionary-check_part-requires t c = grind (arith, walks)

pub check_from-returns-clause-way : goal.check_from-returns-clause-way
check_from-returns-clause-way t c = grind (arith, walks)

pub check_from-returns-clause-depth : goal.check_from-returns-clause-depth
check_from-returns-clause-depth t c = grind (arith, walks)

pub check_part-push-requires : goal.check_part-push-requires
check_part-push-requires t c = grind (arith, walks)

pub check_part-check_from-requires : goal.check_part-check_from-requires
check_part-check_from-requires t c = grind (arith, walks)

pub check_part-pop-requires-clause-some : goal.check_part-pop-requires-clause-some
check_part-pop-requires-clause-some t c = grind (arith, walks)

pub check_part-pop-requires-clause-within : goal.check_part-pop-requires-clause-within
check_part-pop-requires-clause-within t c = grind (arith, walks)

pub check_part-returns-clause-fault : goal.check_part-returns-clause-fault
check_part-returns-clause-fault t c = grind (arith, walks)

pub check_part-returns-clause-way : goal.check_part-returns-clause-way
check_part-returns-clause-way t c = grind (arith, walks)

pub check_part-returns-clause-depth : goal.check_part-returns-clause-depth
check_part-returns-clause-depth t c = grind (arith, walks)
