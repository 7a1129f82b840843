use Rattle.std.proofs.Common.{decimal}
use Rattle.std.specs.Fmt.{signed_decimal}
use Rattle.data_types.specs.promise.WayTexts.{way_text}
use Rattle.layout_rules.specs.promise.FaultTexts.{rule_text}
use Rattle.data_types.specs.promise.Ways.{steps_of}
use Rattle.run_model.proofs.Pieces.{says-both, says-in-part}
use Rattle.run_model.proofs.TreeLines.{layout-line}
use Rattle.run_model.proofs.tree_line.tell_layout.Goals as goal

pub returns-in_err-tell_way : goal.returns-in_err-tell_way
returns-in_err-tell_way g c =
    let fault = c.args.fault.now in
    says-in-part _ _ _ _ _ _ _ _ c.from_residual.ensures.0
    (layout-line (way_text (steps_of fault.path)) (rule_text fault.rule) (decimal fault.place) (signed_decimal fault.left) (signed_decimal fault.right))
    c.in_err-tell_way.ensures

pub returns : goal.returns
returns g c =
    let fault = c.args.fault.now in
    says-both _ _ _ _ _ _ _ _ _ _
    (layout-line (way_text (steps_of fault.path)) (rule_text fault.rule) (decimal fault.place) (signed_decimal fault.left) (signed_decimal fault.right))
    c.in_ok-tell_way.ensures c.tell_numbers.ensures
