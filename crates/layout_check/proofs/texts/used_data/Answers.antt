use Rattle.std.proofs.Common.{◌≤◌, ◌+◌, ◌*◌, pos, length, ap, subst, sym, ◌∙◌}
use Rattle.std.specs.Prelude.{◌≤ℤ◌}
use Rattle.data_types.specs.promise.Packed.{offset_width}
use Rattle.raw_array.specs.promise.Members.{members_of}
use Rattle.layout_rules.specs.promise.Layout.{first, end, bytes, offset, data_between}
use Rattle.layout_check.proofs.Readable.{need_some, end_some, window}
use Rattle.layout_rules.proofs.TextData.{border-from, border-rise, border-within}
use Rattle.layout_check.proofs.texts.used_data.Goals as goal

pub data_between-requires-clause-order : goal.data_between-requires-clause-order
data_between-requires-clause-order c =
    let node = c.args.node.now in
    window (members_of node.array.now) node.start node.stop node.starts node.stops

pub data_between-requires-clause-long : goal.data_between-requires-clause-long
data_between-requires-clause-long c =
    let node = c.args.node.now in
    let own = members_of node.array.now in
    subst (λ p. (p + 1) * offset_width c.args.wide ≤ length (bytes own 1)) (sym node.stops)
    (need_some c.args.wide (end own) (length (bytes own 1)) (end_some own c.requires.some) c.requires.long)

pub data_between-requires-clause-from : goal.data_between-requires-clause-from
data_between-requires-clause-from c =
    let node = c.args.node.now in
    let own = members_of node.array.now in
    subst (λ p. pos 0 ≤ℤ offset c.args.wide own p) (sym node.starts) (border-from c.args.wide own c.requires.rise c.requires.some)

pub data_between-requires-clause-rise : goal.data_between-requires-clause-rise
data_between-requires-clause-rise c =
    let node = c.args.node.now in
    let own = members_of node.array.now in
    subst (λ p. offset c.args.wide own p ≤ℤ offset c.args.wide own node.stop) (sym node.starts)
    (subst (λ p. offset c.args.wide own (first own) ≤ℤ offset c.args.wide own p) (sym node.stops) (border-rise c.args.wide own c.requires.rise c.requires.some))

pub data_between-requires-clause-within : goal.data_between-requires-clause-within
data_between-requires-clause-within c =
    let node = c.args.node.now in
    let own = members_of node.array.now in
    subst (λ p. offset c.args.wide own p ≤ℤ pos (length (bytes own 2))) (sym node.stops)
    (border-within c.args.wide own c.requires.rise c.requires.some c.requires.long c.requires.data)

pub returns : goal.returns
returns c =
    let node = c.args.node.now in
    let own = members_of node.array.now in
    c.data_between.ensures ∙ ap (λ p. data_between c.args.wide own p node.stop) node.starts ∙ ap (data_between c.args.wide own (first own)) node.stops
