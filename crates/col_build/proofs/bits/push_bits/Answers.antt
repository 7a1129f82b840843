use Rattle.std.proofs.Common.{◌≡◌, ◌+◌, ◌-◌, ◌*◌, ◌/◌, ◌%◌, subst, arith}
use Rattle.col_build.specs.Times.{AddsBits}
use Rattle.col_build.proofs.BitBytes.{adds-more, shows-more}
use Rattle.col_build.proofs.bits.push_bits.Goals as goal

pub push_whole-requires-clause-shows : goal.push_whole-requires-clause-shows
push_whole-requires-clause-shows c =
    shows-more c.args.count c.min-first.result c.args.flag c.args.bits.now.items c.push_each.new.bits.items c.requires.shows c.push_each.ensures.added

pub push_each-requires-2-clause-shows : goal.push_each-requires-2-clause-shows
push_each-requires-2-clause-shows c =
    let first = c.min-first.result in
    shows-more (c.args.count + first) (8 * ((c.args.times - first) / 8)) c.args.flag c.push_each.new.bits.items c.push_whole.new.bits.items
    (shows-more c.args.count first c.args.flag c.args.bits.now.items c.push_each.new.bits.items c.requires.shows c.push_each.ensures.added)
    c.push_whole.ensures.added

pub returns : goal.returns
returns c =
    let count = c.args.count in
    let flag = c.args.flag in
    let times = c.args.times in
    let first = c.min-first.result in
    let whole = 8 * ((times - first) / 8) in
    let last = (times - first) % 8 in
    let old = c.args.bits.now.items in
    let new = c.push_each-2.new.bits.items in
    let all : first + (whole + last) ≡ times = omega (arith, c.min-first.ensures) in
    subst (λ n. AddsBits count flag n old new) all
    (adds-more count first (whole + last) flag old c.push_each.new.bits.items new c.push_each.ensures.added
    (adds-more (count + first) whole last flag c.push_each.new.bits.items c.push_whole.new.bits.items new c.push_whole.ensures.added c.push_each-2.ensures.added))
