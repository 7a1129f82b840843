use Rattle.std.proofs.Common.{◌≡◌, of_z, rules, subst, sym, to_z, w32}
use Rattle.stream_face.specs.Calls.{ShowsInOrder}
use Rattle.stream_face.specs.Streams.{IsFresh}
use Rattle.stage_chain.proofs.boxed.BoxedArrayStream.get_next.Goals as goal

pub returns-clause-shows : goal.returns-clause-shows
returns-clause-shows g c = λ fresh.
    let same = c.deref_mut.ensures.value in
    let state = g.S.ArrayStream.state in
    let told = c.get_next.ensures.shows (subst (λ s. IsFresh (state s)) (sym same) fresh) in
    let code : c.get_next.result ≡ to_z w32 (of_z w32 c.get_next.result) = search rules in
    subst (λ z. ShowsInOrder (state c.args.self.now.inner.value) (state c.get_next.new.self) z c.get_next.new.out (g.T.Tap.seen c.args.tap.now)
    (g.T.Tap.seen c.get_next.new.tap)) code
    (subst (λ s. ShowsInOrder (state s) (state c.get_next.new.self) c.get_next.result c.get_next.new.out (g.T.Tap.seen c.args.tap.now)
    (g.T.Tap.seen c.get_next.new.tap)) same told)
