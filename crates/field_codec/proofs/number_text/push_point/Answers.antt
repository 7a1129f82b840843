use Rattle.std.proofs.Common.{arith}
use Rattle.field_codec.proofs.PointText.{pointed_after, zero_pointed_after}
use Rattle.field_codec.proofs.number_text.push_point.Goals as goal

pub returns-then-digits-places : goal.returns-then-digits-places
returns-then-digits-places c =
    pointed_after c.args.places c.args.number (omega (arith, c.ranges.number)) (omega (arith, c.if-places-eq0.false)) c.args.room.now.items
    c.digits-digits.result.now c.split_at.result.0.now c.split_at.result.1.now c.extend_from_slice-then-digits-places.new.self.items
    c.push.new.self.items c.extend_from_slice-then-digits-places-2.new.self.items c.digits-digits.ensures c.if-digits-places.true
    c.split_at.ensures.front c.split_at.ensures.back
    c.in_ok-extend_from_slice-2.ensures.items c.in_ok-push.ensures.items c.in_ok-extend_from_slice-3.ensures.items

pub returns : goal.returns
returns c =
    zero_pointed_after c.args.places c.args.number (omega (arith, c.ranges.number)) (omega (arith, c.if-places-eq0.false)) c.args.room.now.items
    c.digits-digits.result.now c.extend_from_slice-2.new.self.items c.push_zeros.new.room.items c.extend_from_slice-3.new.self.items
    c.digits-digits.ensures c.if-digits-places.false
    c.in_ok-extend_from_slice-4.ensures.items c.in_ok-push_zeros.ensures c.in_ok-extend_from_slice-5.ensures.items
