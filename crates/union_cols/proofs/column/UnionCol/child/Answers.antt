use Rattle.std.proofs.Common.{rules, ◌≡◌, ◌<◌, length, get_or}
use Rattle.tree_model.specs.promise.TreeParts.{children_of}
use Rattle.tree_model.specs.promise.TreeData.{Released}
use Rattle.root_check.proofs.ChildFaults.{valid_kid}
use Rattle.union_cols.proofs.Holding.{kid_lawful}
use Rattle.union_cols.proofs.column.UnionCol.child.Goals as goal

pub of-requires-clause-lawful : goal.of-requires-clause-lawful
of-requires-clause-lawful c =
    let kids = c.args.self.now.typed.now.kids.items in
    let k = c.child_number-k.result in
    let inside : k < length kids = search rules in
    let is : get_or kids k c.index.result.now ≡ c.index.result.now = search rules in
    let there : get_or (children_of c.args.self.now.node.array.now) k Released ≡ c.child.result.now = search rules in
    kid_lawful kids (children_of c.args.self.now.node.array.now) k c.index.result.now c.child.result.now c.union_holds.ensures.children inside is there

pub of-requires-clause-types : goal.of-requires-clause-types
of-requires-clause-types c =
    let kids = c.args.self.now.typed.now.kids.items in
    let k = c.child_number-k.result in
    let inside : k < length kids = search rules in
    let is : get_or kids k c.index.result.now ≡ c.index.result.now = search rules in
    valid_kid kids k c.index.result.now inside is c.args.self.now.kids_are
