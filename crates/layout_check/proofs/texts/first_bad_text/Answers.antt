use Rattle.std.proofs.Common.{◌≡◌, ◌<◌, ◌∙◌, ℕ, None, length, refl, subst, sym, arith}
use Rattle.raw_array.specs.promise.Members.{members_of}
use Rattle.layout_rules.specs.promise.Layout.{items, end, bytes}
use Rattle.layout_rules.specs.promise.Rules.{first_below}
use Rattle.layout_rules.specs.Rules.{not_text}
use Rattle.layout_rules.proofs.Firsts.{first_below-none, first_below-some}
use Rattle.layout_check.proofs.Loops.{at_last}
use Rattle.layout_check.proofs.Readable.{need_some, end_some}
use Rattle.layout_rules.proofs.TextData.{offsets-from, offsets-rise, offsets-within}
use Rattle.layout_check.proofs.texts.first_bad_text.Goals as goal

below_some : (i n : ℕ) → i < n → 0 < n
below_some i n l = omega (arith, l)

pub loop-i-init : goal.loop-i-init
loop-i-init c = refl

pub bad_text-requires-clause-buffers : goal.bad_text-requires-clause-buffers
bad_text-requires-clause-buffers c = c.requires.buffers

pub bad_text-requires-clause-validity : goal.bad_text-requires-clause-validity
bad_text-requires-clause-validity c = c.requires.validity

pub bad_text-requires-clause-inside : goal.bad_text-requires-clause-inside
bad_text-requires-clause-inside c = subst (λ n. c.loop-i.i < n) c.len-i-end.ensures c.loop-i-test.true

pub bad_text-requires-clause-long : goal.bad_text-requires-clause-long
bad_text-requires-clause-long c =
    let own = members_of c.args.node.now.array.now in
    let inside = subst (λ n. c.loop-i.i < n) c.len-i-end.ensures c.loop-i-test.true in
    need_some c.args.wide (end own) (length (bytes own 1)) (end_some own (below_some c.loop-i.i (items own) inside)) c.requires.long

pub bad_text-requires-clause-from : goal.bad_text-requires-clause-from
bad_text-requires-clause-from c =
    offsets-from c.args.wide (members_of c.args.node.now.array.now) c.loop-i.i c.requires.rise
    (subst (λ n. c.loop-i.i < n) c.len-i-end.ensures c.loop-i-test.true)

pub bad_text-requires-clause-rise : goal.bad_text-requires-clause-rise
bad_text-requires-clause-rise c =
    offsets-rise c.args.wide (members_of c.args.node.now.array.now) c.loop-i.i c.requires.rise
    (subst (λ n. c.loop-i.i < n) c.len-i-end.ensures c.loop-i-test.true)

pub bad_text-requires-clause-within : goal.bad_text-requires-clause-within
bad_text-requires-clause-within c =
    offsets-within c.args.wide (members_of c.args.node.now.array.now) c.loop-i.i c.requires.rise
    (subst (λ n. c.loop-i.i < n) c.len-i-end.ensures c.loop-i-test.true) c.requires.long c.requires.data

pub returns-in-Some : goal.returns-in-Some
returns-in-Some c =
    let own = members_of c.args.node.now.array.now in
    sym (first_below-some (not_text c.args.wide own) (items own) c.loop-i.i c.in-Some.numbers
    (subst (λ n. c.loop-i.i < n) c.len-i-end.ensures c.loop-i-test.true) c.loop-i.invariant (sym c.bad_text.ensures ∙ c.in-Some.is))

pub loop-i-preserved : goal.loop-i-preserved
loop-i-preserved c =
    let own = members_of c.args.node.now.array.now in
    first_below-none (not_text c.args.wide own) c.loop-i.i c.loop-i.invariant (sym c.bad_text.ensures ∙ c.in_default.is)

pub returns : goal.returns
returns c =
    let own = members_of c.args.node.now.array.now in
    sym (subst (λ n. first_below (not_text c.args.wide own) n ≡ None)
    (at_last c.loop-i.i c.len-i-end.result c.loop-i-test.false c.loop-i.auto.i-end ∙ c.len-i-end.ensures) c.loop-i.invariant)
