use Rattle.std.proofs.Common.{rules, ◌≡◌, ◌∷◌, ◌++◌, Some}
use Rattle.std.specs.Fmt.{signed_decimal}
use Rattle.data_types.specs.promise.WayTexts.{way_text}
use Rattle.data_types.specs.promise.Ways.{steps_of}
use Rattle.tree_text.specs.promise.TreeText.{token}
use Rattle.tree_text.proofs.ReportLines.{line_written}
use Rattle.tree_text.proofs.report_text.push_line.Goals as goal

pub returns : goal.returns
returns c =
    let length : c.push_number.new.text.items ≡ c.push_token.new.text.items ++ (32 ∷ signed_decimal c.args.length) = search rules in
    let nulls : c.push_number-2.new.text.items ≡ c.push_number.new.text.items ++ (32 ∷ signed_decimal c.args.nulls) = search rules in
    line_written c.args.text.now.items (way_text (steps_of c.args.path.now)) (token (Some c.args.format.now)) (signed_decimal c.args.length)
    (signed_decimal c.args.nulls)
    _ _ _ _ _ _ c.in_ok-push_way.ensures c.in_ok-push.ensures.items c.in_ok-push_token.ensures length nulls c.in_ok-push-2.ensures.items
