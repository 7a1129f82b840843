use Rattle.std.proofs.Common.{rules, ◌≡◌, ◌<◌, Some, sym}
use Rattle.raw_array.specs.promise.Members.{members_of}
use Rattle.layout_rules.specs.promise.Layout.{items}
use Rattle.layout_rules.specs.Rules.{misplaced}
use Rattle.layout_rules.proofs.Firsts.{first_below-some}
use Rattle.layout_check.proofs.views.first_misplaced.Goals as goal

pub returns-in-Some : goal.returns-in-Some
returns-in-Some c =
    let own = members_of c.args.node.now.array.now in
    let inside : c.loop-i.i < items own = search rules in
    let is : misplaced own c.loop-i.i ≡ Some c.in-Some.numbers = search rules in
    sym (first_below-some (misplaced own) (items own) c.loop-i.i c.in-Some.numbers inside c.loop-i.invariant is)
