use Rattle.std.proofs.Common.{rules, ◌≡◌, ◌∙◌, ◌<◌, ◌≤◌, sym, length, get_or, map, Some, None}
use Rattle.tree_model.specs.promise.TreeParts.{children_of}
use Rattle.tree_model.specs.promise.TreeData.{Released}
use Rattle.data_types.specs.promise.TypedView.{typed_of}
use Rattle.layout_rules.specs.Found.{fault_of}
use Rattle.layout_rules.specs.promise.Walk.{first_fault}
use Rattle.root_check.proofs.ChildFaults.{valid_kid, found_here, none_here, not_lawful, all_lawful}
use Rattle.root_check.proofs.children.check_children.Goals as goal

pub check_array-requires : goal.check_array-requires
check_array-requires c =
    let kids = c.args.kids.now in
    let i = c.loop-i.i in
    let kid = c.index-kids-i.result in
    let inside : i < length kids = search rules in
    let is : get_or kids i kid ≡ kid = search rules in
    valid_kid kids i kid inside is c.requires.types

pub returns-in-Err-clause-fault : goal.returns-in-Err-clause-fault
returns-in-Err-clause-fault c =
    let kids = c.args.kids.now in
    let i = c.loop-i.i in
    let kid = c.index-kids-i.result in
    let inside : i < length kids = search rules in
    let is : get_or kids i kid ≡ kid = search rules in
    let fault : first_fault (typed_of kid) (get_or (children_of c.args.array.now) i Released) ≡ Some (fault_of c.in-Err.fault) = search rules in
    sym (c.loop-i.invariant ∙ found_here kids i kid (children_of c.args.array.now) (fault_of c.in-Err.fault) inside c.requires.children is fault)

pub returns-in-Err-clause-lawful : goal.returns-in-Err-clause-lawful
returns-in-Err-clause-lawful c =
    let kids = c.args.kids.now in
    let i = c.loop-i.i in
    let kid = c.index-kids-i.result in
    let inside : i < length kids = search rules in
    let is : get_or kids i kid ≡ kid = search rules in
    let fault : first_fault (typed_of kid) (get_or (children_of c.args.array.now) i Released) ≡ Some (fault_of c.in-Err.fault) = search rules in
    not_lawful (map typed_of kids) (children_of c.args.array.now) _
    (c.loop-i.invariant ∙ found_here kids i kid (children_of c.args.array.now) (fault_of c.in-Err.fault) inside c.requires.children is fault)

pub loop-i-preserved : goal.loop-i-preserved
loop-i-preserved c =
    let kids = c.args.kids.now in
    let i = c.loop-i.i in
    let kid = c.index-kids-i.result in
    let inside : i < length kids = search rules in
    let is : get_or kids i kid ≡ kid = search rules in
    let fault : first_fault (typed_of kid) (get_or (children_of c.args.array.now) i Released) ≡ None = search rules in
    c.loop-i.invariant ∙ none_here kids i kid (children_of c.args.array.now) inside c.requires.children is fault

pub returns-clause-lawful : goal.returns-clause-lawful
returns-clause-lawful c =
    let kids = c.args.kids.now in
    let ended : length kids ≤ c.loop-i.i = search rules in
    all_lawful kids c.loop-i.i (children_of c.args.array.now) ended c.requires.children c.loop-i.invariant
