use Rattle.std.proofs.Common.{◌∙◌, sym, ap}
use Rattle.std.specs.Prelude.{not, if◌then◌else◌}
use Rattle.stage_filter.proofs.Tests.{same-passes}
use Rattle.stage_filter.proofs.kept.are_asked.Goals as goal

pub returns-then-equal : goal.returns-then-equal
returns-then-equal c =
    let same = c.eq-same.result in
    ap (λ b. if b then same else not same) (sym c.if-equal.true)
    ∙ same-passes c.args.equal same c.args.bytes.now c.args.constant.now c.eq-same.ensures

pub returns-else-equal : goal.returns-else-equal
returns-else-equal c =
    let same = c.eq-same.result in
    ap (λ b. if b then same else not same) (sym c.if-equal.false)
    ∙ same-passes c.args.equal same c.args.bytes.now c.args.constant.now c.eq-same.ensures
