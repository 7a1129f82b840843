use Rattle.std.proofs.Common.{◌≤◌, ◌<◌, ◌+◌, ◌*◌, ◌^◌, pos, length, subst, sym, ◌∙◌, true≢false, ap}
use Rattle.std.specs.Prelude.{IsUtf8, ◌≤ℤ◌}
use Rattle.data_types.specs.promise.Packed.{offset_width}
use Rattle.raw_array.specs.promise.Members.{members_of}
use Rattle.layout_rules.specs.promise.Layout.{bytes, first, end, items, natural, offset}
use Rattle.layout_check.specs.Scans.{AreBorders}
use Rattle.layout_check.proofs.Readable.{need_some, end_some, window, offsets_before, window_end, few_offsets}
use Rattle.layout_check.proofs.Scanned.{borders-pass}
use Rattle.layout_rules.proofs.TextData.{border-from}
use Rattle.layout_check.proofs.texts.is_text_in_items.Goals as goal

pub data_place-base-requires-clause-long : goal.data_place-base-requires-clause-long
data_place-base-requires-clause-long c =
    let node = c.args.node.now in
    let own = members_of node.array.now in
    offsets_before node.start (end own) (offset_width c.args.wide) (length (bytes own 1))
    (subst (λ p. node.start ≤ p) node.stops (window own node.start node.stop node.starts node.stops))
    (need_some c.args.wide (end own) (length (bytes own 1)) (end_some own c.requires.some) c.requires.long)

pub data_place-base-requires-clause-from : goal.data_place-base-requires-clause-from
data_place-base-requires-clause-from c =
    let node = c.args.node.now in
    let own = members_of node.array.now in
    subst (λ p. pos 0 ≤ℤ offset c.args.wide own p) (sym node.starts) (border-from c.args.wide own c.requires.rise c.requires.some)

pub cut_between_characters-requires-clause-fits : goal.cut_between_characters-requires-clause-fits
cut_between_characters-requires-clause-fits c =
    let node = c.args.node.now in
    let own = members_of node.array.now in
    let long = subst (λ b. (end own + 1) * offset_width c.args.wide ≤ length b) (sym c.bytes.ensures)
    (need_some c.args.wide (end own) (length (bytes own 1)) (end_some own c.requires.some) c.requires.long) in
    subst (λ p. p + 1 < 2 ^ 64) (sym (window_end own node.start c.len.result node.starts c.len.ensures))
    (few_offsets c.args.wide (end own + 1) (length c.bytes.result.now) long c.bytes.type_inv.0)

pub cut_between_characters-requires-clause-long : goal.cut_between_characters-requires-clause-long
cut_between_characters-requires-clause-long c =
    let node = c.args.node.now in
    let own = members_of node.array.now in
    subst (λ p. (p + 1) * offset_width c.args.wide ≤ length c.bytes.result.now) (sym (window_end own node.start c.len.result node.starts c.len.ensures))
    (subst (λ b. (end own + 1) * offset_width c.args.wide ≤ length b) (sym c.bytes.ensures)
    (need_some c.args.wide (end own) (length (bytes own 1)) (end_some own c.requires.some) c.requires.long))

pub returns-then-used_is_text : goal.returns-then-used_is_text
returns-then-used_is_text c passed =
    let node = c.args.node.now in
    let own = members_of node.array.now in
    let wide = c.args.wide in
    let found = c.cut_between_characters.ensures passed in
    let base = c.data_place-base.result in
    let base_is = c.data_place-base.ensures ∙ ap (λ p. natural (offset wide own p)) node.starts in
    let borders =
    subst (λ text. AreBorders wide (bytes own 1) (first own) (natural (offset wide own (first own))) text (items own + 1)) c.requires.used
    (subst (λ b. AreBorders wide (bytes own 1) (first own) b c.args.used.now (items own + 1)) base_is
    (subst (λ n. AreBorders wide (bytes own 1) (first own) base c.args.used.now (n + 1)) c.len.ensures
    (subst (λ p. AreBorders wide (bytes own 1) p base c.args.used.now (c.len.result + 1)) node.starts
    (subst (λ b. AreBorders wide b node.start base c.args.used.now (c.len.result + 1)) c.bytes.ensures found)))) in
    borders-pass wide own c.requires.rise (subst IsUtf8 c.requires.used (c.used_is_text.ensures c.if-used_is_text.true)) borders

pub returns-else-used_is_text : goal.returns-else-used_is_text
returns-else-used_is_text c = λ h. absurd (true≢false (sym h ∙ c.if-used_is_text.false))
