use Rattle.col_build.proofs.ValidityFacts.{first-null, more-bits, still-none}
use Rattle.std.proofs.Common.{◌∙◌}
use Rattle.col_build.proofs.validity.push_validity.Goals as goal

pub returns-then-null : goal.returns-then-null
returns-then-null c values value has is =
    first-null c.args.validity.now.items c.fill_to_clear.new.bits.items c.args.count c.args.nulls values value c.if-nulls-eq0.true has
    (is ∙ c.if-null.true) c.fill_to_clear.ensures

pub returns-else-null : goal.returns-else-null
returns-else-null c values value has is =
    still-none c.args.validity.now.items c.args.count c.args.nulls values value c.if-nulls-eq0.true has (is ∙ c.if-null.false)

pub returns : goal.returns
returns c values value has is =
    more-bits c.args.validity.now.items c.push_bit.new.bits.items c.args.count c.args.nulls values value c.args.null c.if-nulls-eq0.false has
    is c.in-Ok.ensures.added
