use Rattle.std.proofs.Common.{arith, ◌≡◌, ◌+◌, ◌-◌, take, ◌++◌, ◌∙◌, map, length, Ok, refl, ap, sym, subst, reverse, List, [], ◌∷◌}
use Rattle.std.proofs.Common.{length-append}
use Rattle.std.proofs.lemmas.List.{append-nil, reverse-append, reverse-reverse, length-reverse}
use Rattle.data_types.specs.promise.TypedView.{typed_of}
use Rattle.foreign_array.specs.Kept.{AreKept, tree_in, units_of_all}
use Rattle.foreign_array.specs.Drained.{ShownAfter}
use Rattle.foreign_array.proofs.Coming.{Coming, coming-done, coming-first, coming-next}
use Rattle.foreign_array.proofs.draining.drain.Goals as goal

pub loop-chunk-init : goal.loop-chunk-init
loop-chunk-init g c =
    let typed = typed_of c.args.typed.now in
    let chunks = map tree_in c.args.chunks.items in
    let seen = g.V.Visit.seen c.args.visit.now in
    let back = ap reverse c.reverse.ensures.items ∙ reverse-reverse c.args.chunks.items in
    let many = ap length c.reverse.ensures.items ∙ length-reverse c.args.chunks.items in
    record {
      coming = subst (λ cs. Coming typed chunks (map tree_in cs) 0 (Ok tt) seen seen) (sym back) (coming-first typed chunks seen tt);
      units = ap (λ cs. c.args.pass.now.units + units_of_all g.O.Owner.owes cs) back;
      blocks = refl;
      nodes = refl;
      live = subst AreKept (sym back) c.requires.live;
      few = omega (arith, many);
    }

pub array-requires : goal.array-requires
array-requires g c =
    let next = ap reverse c.in-Some.ensures.items ∙ reverse-append c.pop.new.self.items (c.in-Some.chunk ∷ []) in
    (subst AreKept next c.loop-chunk.invariant.live).0

pub overflow_add-number : goal.overflow_add-number
overflow_add-number g c =
    let many = ap length c.in-Some.ensures.items ∙ length-append c.pop.new.self.items (c.in-Some.chunk ∷ []) in
    omega (arith, many, c.loop-chunk.invariant.few, c.args.chunks.small)

pub release-requires : goal.release-requires
release-requires g c =
    let next = ap reverse c.in-Some.ensures.items ∙ reverse-append c.pop.new.self.items (c.in-Some.chunk ∷ []) in
    let units = ap (units_of_all g.O.Owner.owes) next in
    omega (arith, units, c.loop-chunk.invariant.units, c.requires.room)

pub loop-chunk-preserved : goal.loop-chunk-preserved
loop-chunk-preserved g c =
    let typed = typed_of c.args.typed.now in
    let chunks = map tree_in c.args.chunks.items in
    let chunk = c.in-Some.chunk in
    let rest = reverse c.pop.new.self.items in
    let next = ap reverse c.in-Some.ensures.items ∙ reverse-append c.pop.new.self.items (chunk ∷ []) in
    let units = ap (units_of_all g.O.Owner.owes) next in
    let many = ap length c.in-Some.ensures.items ∙ length-append c.pop.new.self.items (chunk ∷ []) in
    let first = g.V.Visit.seen c.args.visit.now in
    let before = g.V.Visit.seen c.loop-chunk.visit in
    let now = g.V.Visit.seen c.go_on-shown.new.visit in
    let shown = c.loop-chunk.shown in
    let number = c.loop-chunk.number in
    let coming = subst (λ cs. Coming typed chunks (map tree_in cs) number shown first before) next c.loop-chunk.invariant.coming in
    let tree = c.array.ensures.tree in
    record {
      coming = coming-next typed chunks (tree_in chunk) (map tree_in rest) number first before now shown c.go_on-shown.result coming
          (subst (λ t. ShownAfter typed t number shown c.go_on-shown.result before now) tree c.go_on-shown.ensures);
      units = omega (arith, units, c.loop-chunk.invariant.units, c.release.ensures.units);
      blocks = c.release.ensures.blocks ∙ c.loop-chunk.invariant.blocks;
      nodes = c.release.ensures.nodes ∙ c.loop-chunk.invariant.nodes;
      live = (subst AreKept next c.loop-chunk.invariant.live).1;
      few = omega (arith, many, c.loop-chunk.invariant.few);
    }

pub returns-clause-drained : goal.returns-clause-drained
returns-clause-drained g c =
    let typed = typed_of c.args.typed.now in
    let chunks = map tree_in c.args.chunks.items in
    let first = g.V.Visit.seen c.args.visit.now in
    let now = g.V.Visit.seen c.loop-chunk.visit in
    let none = c.in_default.ensures.items ∙ append-nil c.pop.new.self.items ∙ c.in_default.ensures.rest
    ∙ ap (λ n. take (n - 1) c.loop-chunk.chunks.items) c.in_default.ensures.cases.0 in
    coming-done typed chunks c.loop-chunk.number c.loop-chunk.shown first now
    (subst (λ cs. Coming typed chunks (map tree_in (reverse cs)) c.loop-chunk.number c.loop-chunk.shown first now) none c.loop-chunk.invariant.coming)

pub returns-clause-units : goal.returns-clause-units
returns-clause-units g c =
    let none = c.in_default.ensures.items ∙ append-nil c.pop.new.self.items ∙ c.in_default.ensures.rest
    ∙ ap (λ n. take (n - 1) c.loop-chunk.chunks.items) c.in_default.ensures.cases.0 in
    let units = ap (λ cs. units_of_all g.O.Owner.owes (reverse cs)) none in
    omega (arith, units, c.loop-chunk.invariant.units)
