use Rattle.std.proofs.Common.{rules, ◌≡◌, ◌<◌, None, Some, sym}
use Rattle.raw_array.specs.promise.Members.{members_of}
use Rattle.layout_rules.specs.promise.Layout.{items}
use Rattle.layout_rules.proofs.Firsts.{first_below-none, first_below-some}
use Rattle.union_cols.specs.promise.UnionRules.{bad_start}
use Rattle.union_cols.proofs.node.UnionNode.starts_wrong.Goals as goal

pub returns-in-Some : goal.returns-in-Some
returns-in-Some c =
    let inside : c.loop-i.i < items (members_of c.args.self.now.array.now) = search rules in
    let is : bad_start c.args.table.now.ids.now c.args.self.now.array.now c.loop-i.i ≡ Some c.in-Some.numbers = search rules in
    sym (first_below-some (bad_start c.args.table.now.ids.now c.args.self.now.array.now) (items (members_of c.args.self.now.array.now)) c.loop-i.i c.in-Some.numbers inside c.loop-i.invariant is)

pub loop-i-preserved : goal.loop-i-preserved
loop-i-preserved c =
    let is : bad_start c.args.table.now.ids.now c.args.self.now.array.now c.loop-i.i ≡ None = search rules in
    first_below-none (bad_start c.args.table.now.ids.now c.args.self.now.array.now) c.loop-i.i c.loop-i.invariant is
