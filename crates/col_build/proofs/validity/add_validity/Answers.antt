use Rattle.std.proofs.Common.{◌∙◌, sym}
use Rattle.std.proofs.lemmas.Result.{on_ok_weaker}
use Rattle.col_build.proofs.ValidityFacts.{bits-shown, first-null, flags-length, flags_of, more-bits, still-none}
use Rattle.col_build.proofs.validity.add_validity.Goals as goal

pub push_bit-requires : goal.push_bit-requires
push_bit-requires c =
    let has = c.requires.has in
    record {
      shows = (
        flags_of has.0,
        flags-length has.0 ∙ sym has.1.counted,
        bits-shown c.args.validity.now.items c.args.count c.args.nulls has.0 c.if-nulls-ne0.true has.1,
      );
    }

pub returns-then-nulls-ne0-clause-added : goal.returns-then-nulls-ne0-clause-added
returns-then-nulls-ne0-clause-added c =
    on_ok_weaker c.push_bit.result
    (λ makes values value has is.
    more-bits c.args.validity.now.items c.push_bit.new.bits.items c.args.count c.args.nulls values value c.args.null c.if-nulls-ne0.true has is makes)
    c.push_bit.ensures.added

pub returns-then-null-clause-added : goal.returns-then-null-clause-added
returns-then-null-clause-added c =
    on_ok_weaker c.begin_validity.result
    (λ made values value has is.
    first-null c.args.validity.now.items c.begin_validity.new.validity.items c.args.count c.args.nulls values value c.if-nulls-ne0.false has
    (is ∙ c.if-null.true) made)
    c.begin_validity.ensures.made

pub returns-clause-added : goal.returns-clause-added
returns-clause-added c values value has is =
    still-none c.args.validity.now.items c.args.count c.args.nulls values value c.if-nulls-ne0.false has (is ∙ c.if-null.false)
