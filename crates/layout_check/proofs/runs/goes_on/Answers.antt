use Rattle.std.proofs.Common.{rules, ◌-◌, ◌≤◌, take, drop}
use Rattle.std.specs.Str.{IsCharBoundary}
use Rattle.layout_check.proofs.TextRuns.{part-text}
use Rattle.layout_check.proofs.runs.goes_on.Goals as goal

pub returns-then-is_border : goal.returns-then-is_border
returns-then-is_border c = λ h.
    let bytes = c.args.bytes.now in
    let run = c.args.run in
    let begins : c.args.from ≤ run.from = search rules in
    let ends : run.from ≤ c.args.to = search rules in
    let goes : c.args.to ≤ run.to = search rules in
    let border : IsCharBoundary (take (run.to - run.from) (drop run.from bytes)) (c.args.to - run.from) = search rules in
    part-text bytes c.args.from c.args.to run.from run.to begins ends goes (c.is_text.ensures.0 h) c.requires.run.text border
