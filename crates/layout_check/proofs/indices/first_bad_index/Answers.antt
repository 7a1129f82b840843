use Rattle.std.proofs.Common.{rules, ◌≡◌, ◌<◌, Some, None, sym}
use Rattle.raw_array.specs.promise.Members.{members_of}
use Rattle.layout_rules.specs.promise.Layout.{items}
use Rattle.layout_rules.specs.promise.Rules.{index_wrong, first_below}
use Rattle.layout_rules.proofs.Firsts.{first_below-some}
use Rattle.layout_check.proofs.indices.first_bad_index.Goals as goal

pub returns-in-Some : goal.returns-in-Some
returns-in-Some c =
    let own = members_of c.args.node.now.array.now in
    let inside : c.loop-i.i < items own = search rules in
    let is : index_wrong c.args.width c.args.signed own c.args.total c.loop-i.i ≡ Some c.in-Some.numbers = search rules in
    let before : first_below (index_wrong c.args.width c.args.signed own c.args.total) c.loop-i.i ≡ None = search rules in
    sym (first_below-some (index_wrong c.args.width c.args.signed own c.args.total) (items own) c.loop-i.i c.in-Some.numbers inside before is)
