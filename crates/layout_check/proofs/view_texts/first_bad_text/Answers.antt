use Rattle.layout_rules.proofs.Placed.{placed}
use Rattle.layout_rules.proofs.TextData.{items_lie}
use Rattle.std.proofs.Common.{rules, ◌≡◌, ◌<◌, Some, sym, arith}
use Rattle.raw_array.specs.promise.Members.{members_of}
use Rattle.layout_rules.specs.promise.Layout.{items}
use Rattle.layout_rules.specs.Rules.{view_not_text}
use Rattle.layout_rules.proofs.Firsts.{first_below-some}
use Rattle.layout_check.proofs.view_texts.first_bad_text.Goals as goal

pub returns-in-Some : goal.returns-in-Some
returns-in-Some c =
    let own = members_of c.args.node.now.array.now in
    let inside : c.loop-i.i < items own = search rules in
    let is : view_not_text own c.loop-i.i ≡ Some c.in-Some.numbers = search rules in
    sym (first_below-some (view_not_text own) (items own) c.loop-i.i c.in-Some.numbers inside c.loop-i.invariant is)

pub view_not_text-requires-clause-within : goal.view_not_text-requires-clause-within
view_not_text-requires-clause-within c = grind (arith, items_lie, placed)
