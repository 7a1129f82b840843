use Rattle.schema_check.specs.promise.FaultTexts.{schema_rule_text}
use Rattle.data_types.specs.promise.WayTexts.{way_text}
use Rattle.data_types.specs.promise.Ways.{steps_of}
use Rattle.run_model.proofs.Pieces.{says-both, says-in-part}
use Rattle.run_model.proofs.TreeLines.{schema-line}
use Rattle.std.proofs.Common.{refl}
use Rattle.run_model.proofs.tree_line.tell_schema.Goals as goal

pub returns-in_err-tell_way : goal.returns-in_err-tell_way
returns-in_err-tell_way g c =
    says-in-part _ _ _ _ _ _ _ _ c.from_residual.ensures.0
    (schema-line (way_text (steps_of c.args.path.now)) (schema_rule_text c.args.rule) (schema_rule_text c.args.rule) refl) c.in_err-tell_way.ensures

pub returns : goal.returns
returns g c =
    says-both _ _ _ _ _ _ _ _ _ _
    (schema-line (way_text (steps_of c.args.path.now)) c.name.result.now (schema_rule_text c.args.rule) c.name.ensures)
    c.in_ok-tell_way.ensures c.say.ensures
