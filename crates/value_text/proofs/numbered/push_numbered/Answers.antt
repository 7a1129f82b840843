use Rattle.std.specs.Prelude.{decimal}
use Rattle.value_text.proofs.NumberedLines.{numbered-appended}
use Rattle.value_text.proofs.numbered.push_numbered.Goals as goal

pub returns : goal.returns
returns c =
    numbered-appended c.push-2.result c.args.text.now c.push_number.new.text c.push.new.self c.push_value.new.text c.push-2.new.self
    (decimal c.args.number) _ c.in_ok-push_number.ensures c.in_ok-push.ensures c.in_ok-push_value.ensures c.push-2.ensures
