use Rattle.std.proofs.Common.{rules, ◌≡◌, subst, decimal}
use Rattle.std.specs.Fmt.{signed_decimal}
use Rattle.layout_rules.specs.promise.FaultTexts.{rule_text}
use Rattle.run_model.specs.Diagnostics.{Says}
use Rattle.run_model.proofs.TreeLines.{number-pieces}
use Rattle.run_model.proofs.tree_line.tell_numbers.Goals as goal

pub returns : goal.returns
returns g c =
    let fault = c.args.fault.now in
    let left : c.format-left.result.now ≡ signed_decimal fault.left = search rules in
    let right : c.format-right.result.now ≡ signed_decimal fault.right = search rules in
    subst (Says c.say.result (g.E.Sink.taken c.args.errs.now) (g.E.Sink.taken c.say.new.errs)
    (g.E.Sink.faults c.args.errs.now) (g.E.Sink.faults c.say.new.errs))
    (number-pieces (rule_text fault.rule) (decimal fault.place) (signed_decimal fault.left) (signed_decimal fault.right) c.name-rule.result.now
    c.format-place.result.now c.format-left.result.now c.format-right.result.now c.name-rule.ensures c.format-place.ensures.text
    left right) c.say.ensures
