use Rattle.std.proofs.Common.{◌≡◌, ◌≢◌, ◌∙◌, ℕ, Bool, true, false, refl}
use Rattle.col_build.proofs.ManyTimes.{validity-still, validity-times}
use Rattle.col_build.proofs.times.repeat_validity.Goals as goal

none-null : (null : Bool) (nulls : ℕ) → (null ≡ true → nulls ≢ 0) → nulls ≡ 0 → null ≡ false
none-null true nulls behind none = absurd (behind refl none)
none-null false nulls behind none = refl

pub returns-then-nulls-eq0-clause-added : goal.returns-then-nulls-eq0-clause-added
returns-then-nulls-eq0-clause-added c values value has is =
    validity-still c.args.validity.now.items c.args.count c.args.nulls values value c.args.times c.if-nulls-eq0.true has
    (is ∙ none-null c.args.null c.args.nulls c.requires.behind c.if-nulls-eq0.true)

pub returns-clause-added : goal.returns-clause-added
returns-clause-added c values value has is =
    validity-times c.args.validity.now.items c.push_bits.new.bits.items c.args.count c.args.nulls values value c.args.null c.args.times
    c.if-nulls-eq0.false has is (λ flags len shown. c.push_bits.ensures flags len (c.make_room.ensures.items ∙ shown))
