use Rattle.std.proofs.Common.{◌≤◌, ◌+◌, ◌*◌, pos, length, subst, sym, true≢false, ap, ◌∙◌}
use Rattle.std.specs.Prelude.{IsUtf8, ◌≤ℤ◌}
use Rattle.std.specs.Str.{IsCharBoundary}
use Rattle.data_types.specs.promise.Packed.{offset_width}
use Rattle.raw_array.specs.promise.Members.{members_of}
use Rattle.layout_rules.specs.promise.Layout.{bytes, end, natural, offset}
use Rattle.layout_check.proofs.MarkedText.{border-to, buffer-text, used-text}
use Rattle.layout_check.proofs.Readable.{need_some, end_some, window, offsets_before}
use Rattle.layout_rules.proofs.TextData.{border-from}
use Rattle.layout_check.proofs.texts.used_is_text.Goals as goal

pub returns-then-not-buffer_is_text : goal.returns-then-not-buffer_is_text
returns-then-not-buffer_is_text c = λ h. c.is_text.ensures.0 h

pub data_place-from-requires-clause-long : goal.data_place-from-requires-clause-long
data_place-from-requires-clause-long c =
    let node = c.args.node.now in
    let own = members_of node.array.now in
    offsets_before node.start (end own) (offset_width c.args.wide) (length (bytes own 1))
    (subst (λ p. node.start ≤ p) node.stops (window own node.start node.stop node.starts node.stops))
    (need_some c.args.wide (end own) (length (bytes own 1)) (end_some own c.requires.some) c.requires.long)

pub data_place-from-requires-clause-from : goal.data_place-from-requires-clause-from
data_place-from-requires-clause-from c =
    let node = c.args.node.now in
    let own = members_of node.array.now in
    subst (λ p. pos 0 ≤ℤ offset c.args.wide own p) (sym node.starts) (border-from c.args.wide own c.requires.rise c.requires.some)

pub data_place-to-requires-clause-long : goal.data_place-to-requires-clause-long
data_place-to-requires-clause-long c =
    let node = c.args.node.now in
    let own = members_of node.array.now in
    subst (λ p. (p + 1) * offset_width c.args.wide ≤ length (bytes own 1)) (sym node.stops)
    (need_some c.args.wide (end own) (length (bytes own 1)) (end_some own c.requires.some) c.requires.long)

pub data_place-to-requires-clause-from : goal.data_place-to-requires-clause-from
data_place-to-requires-clause-from c =
    let node = c.args.node.now in
    let own = members_of node.array.now in
    subst (λ p. pos 0 ≤ℤ offset c.args.wide own p) (sym node.stops) (border-to c.args.wide own c.requires.rise c.requires.some)

pub returns-then-is_border : goal.returns-then-is_border
returns-then-is_border c last =
    let node = c.args.node.now in
    let own = members_of node.array.now in
    let wide = c.args.wide in
    let at_start = c.data_place-from.ensures ∙ ap (λ p. natural (offset wide own p)) node.starts in
    let at_stop = c.data_place-to.ensures ∙ ap (λ p. natural (offset wide own p)) node.stops in
    let from = subst (λ bs. IsCharBoundary bs c.data_place-from.result) c.bytes-all.ensures (c.is_border.ensures c.if-is_border.true) in
    let to = subst (λ bs. IsCharBoundary bs c.data_place-to.result) c.bytes-all.ensures (c.is_border-then-is_border.ensures last) in
    subst IsUtf8 (sym c.requires.used)
    (used-text wide own c.requires.some c.requires.rise (buffer-text own 2 (c.buffer_is_text.ensures c.if-not-buffer_is_text.false))
    (subst (IsCharBoundary (bytes own 2)) at_start from) (subst (IsCharBoundary (bytes own 2)) at_stop to))

pub returns-else-is_border : goal.returns-else-is_border
returns-else-is_border c = λ h. absurd (true≢false (sym h ∙ c.if-is_border.false))
