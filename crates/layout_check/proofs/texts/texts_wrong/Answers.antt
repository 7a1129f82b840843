use Rattle.std.proofs.Common.{◌≡◌, None, ap, subst, sym, ◌∙◌}
use Rattle.raw_array.specs.promise.Members.{members_of}
use Rattle.layout_rules.specs.promise.Layout.{layout_of}
use Rattle.layout_rules.specs.promise.Rules.{is_behind_offsets, offsets_fall_if, views_misplaced, texts_wrong}
use Rattle.layout_check.proofs.Readable.{text-some, text-validity, text-long, text-data, views-some, views-validity, views-long, views-lengths, views-named}
use Rattle.layout_check.proofs.Readable.{texts_other}
use Rattle.layout_check.proofs.texts.texts_wrong.Goals as goal

pub text_wrong-requires-clause-buffers : goal.text_wrong-requires-clause-buffers
text_wrong-requires-clause-buffers c =
    let node = c.args.node.now in
    text-some (members_of node.array.now) node.layout c.in-Utf8.wide (c.requires.layout ∙ ap layout_of c.in-Utf8.is) node.counted c.requires.buffers

pub text_wrong-requires-clause-validity : goal.text_wrong-requires-clause-validity
text_wrong-requires-clause-validity c =
    let node = c.args.node.now in
    text-validity (members_of node.array.now) node.layout c.in-Utf8.wide (c.requires.layout ∙ ap layout_of c.in-Utf8.is) node.counted c.requires.buffers

pub text_wrong-requires-clause-long : goal.text_wrong-requires-clause-long
text_wrong-requires-clause-long c =
    let node = c.args.node.now in
    text-long (members_of node.array.now) node.layout c.in-Utf8.wide (c.requires.layout ∙ ap layout_of c.in-Utf8.is) node.counted c.requires.buffers

pub text_wrong-requires-clause-data : goal.text_wrong-requires-clause-data
text_wrong-requires-clause-data c =
    let node = c.args.node.now in
    text-data (members_of node.array.now) node.layout c.in-Utf8.wide (c.requires.layout ∙ ap layout_of c.in-Utf8.is) node.counted c.requires.buffers

pub text_wrong-requires-clause-rise : goal.text_wrong-requires-clause-rise
text_wrong-requires-clause-rise c =
    let node = c.args.node.now in
    subst (λ l. offsets_fall_if (is_behind_offsets l) (members_of node.array.now) ≡ None) (c.requires.layout ∙ ap layout_of c.in-Utf8.is) c.requires.rise

pub returns-in-Utf8 : goal.returns-in-Utf8
returns-in-Utf8 c = c.text_wrong.ensures ∙ sym (ap (λ k. texts_wrong k (members_of c.args.node.now.array.now)) c.in-Utf8.is)

pub view_text_wrong-requires-clause-buffers : goal.view_text_wrong-requires-clause-buffers
view_text_wrong-requires-clause-buffers c =
    let node = c.args.node.now in
    views-some (members_of node.array.now) node.layout (c.requires.layout ∙ ap layout_of c.in-Utf8View.is) node.counted c.requires.buffers

pub view_text_wrong-requires-clause-validity : goal.view_text_wrong-requires-clause-validity
view_text_wrong-requires-clause-validity c =
    let node = c.args.node.now in
    views-validity (members_of node.array.now) node.layout (c.requires.layout ∙ ap layout_of c.in-Utf8View.is) node.counted c.requires.buffers

pub view_text_wrong-requires-clause-long : goal.view_text_wrong-requires-clause-long
view_text_wrong-requires-clause-long c =
    let node = c.args.node.now in
    views-long (members_of node.array.now) node.layout (c.requires.layout ∙ ap layout_of c.in-Utf8View.is) node.counted c.requires.buffers

pub view_text_wrong-requires-clause-lengths : goal.view_text_wrong-requires-clause-lengths
view_text_wrong-requires-clause-lengths c =
    let node = c.args.node.now in
    views-lengths (members_of node.array.now) node.layout (c.requires.layout ∙ ap layout_of c.in-Utf8View.is) node.counted c.requires.buffers

pub view_text_wrong-requires-clause-named : goal.view_text_wrong-requires-clause-named
view_text_wrong-requires-clause-named c =
    let node = c.args.node.now in
    views-named (members_of node.array.now) node.layout (c.requires.layout ∙ ap layout_of c.in-Utf8View.is) node.counted c.requires.buffers

pub view_text_wrong-requires-clause-placed : goal.view_text_wrong-requires-clause-placed
view_text_wrong-requires-clause-placed c =
    let node = c.args.node.now in
    subst (λ l. views_misplaced l (members_of node.array.now) ≡ None) (c.requires.layout ∙ ap layout_of c.in-Utf8View.is) c.requires.placed

pub returns-in-Utf8View : goal.returns-in-Utf8View
returns-in-Utf8View c = c.view_text_wrong.ensures ∙ sym (ap (λ k. texts_wrong k (members_of c.args.node.now.array.now)) c.in-Utf8View.is)

pub returns-in_default : goal.returns-in_default
returns-in_default c = texts_other c.args.kind.now (members_of c.args.node.now.array.now) c.in_default.not-Utf8 c.in_default.not-Utf8View
