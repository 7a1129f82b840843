use Rattle.std.proofs.Common.{◌≡◌, ◌∙◌, get_or, take, ap, arith}
use Rattle.std.proofs.lemmas.List.{take_all}
use Rattle.value_text.specs.Lengths.{field_length, length_at, some_fields}
use Rattle.value_text.specs.declared.lengths.Lengths.TheVariants as all
use Rattle.value_text.proofs.LengthSums.{any-length, some-next}
use Rattle.value_text.proofs.lengths.with_own.Goals as goal

pub loop-q-preserved : goal.loop-q-preserved
loop-q-preserved c =
    let kids = c.args.kids.now in
    let place = c.args.place in
    let own = c.args.own.now in
    let q = c.loop-q.q in
    let k = get_or own q 0 in
    let kid = c.index-kids-k.result in
    let at : c.at.result ≡ field_length kids place k =
    c.at.ensures ∙ ap (λ l. length_at l place) (c.index-kids-k.is ∙ any-length kids k kid (all.Same 0) (c.requires.below q c.loop-q-test.true)) in
    omega (arith, c.plus-sum.ensures, at, c.loop-q.invariant, some-next kids place own q c.loop-q-test.true)

pub returns : goal.returns
returns c =
    let own = c.args.own.now in
    let all_of : take c.loop-q.q own ≡ own = take_all c.loop-q.q own (omega (arith, c.loop-q-test.false)) in
    omega (arith, c.loop-q.invariant, ap (some_fields c.args.kids.now c.args.place) all_of)
