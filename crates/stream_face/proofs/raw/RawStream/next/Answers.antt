use Rattle.std.proofs.lemmas.Grind.{common_steps}
use Rattle.std.proofs.Common.{IsTrue, ◌≡◌, ◌∙◌, pos, w32, of_z, refl, sym, ap, subst, true≢false, arith}
use Rattle.tree_model.specs.promise.TreeCost.{Nodes}
use Rattle.data_types.specs.promise.ColumnKinds.{type_of_columns}
use Rattle.schema_check.specs.promise.ColumnSchema.{SchemaOf}
use Rattle.schema_check.specs.promise.Schemas.{TypedOf}
use Rattle.layout_rules.specs.promise.Walk.{ChunkOk}
use Rattle.stream_face.specs.Calls.{IsCode, IsRowFault, ShowsInOrder, Tells}
use Rattle.stream_face.specs.Failures.{why}
use Rattle.stream_face.specs.Raw.{refusal_or}
use Rattle.stream_face.specs.Meaning.{meaning, raw_kinds}
use Rattle.stream_face.specs.Streams.{IsFresh, is_nil}
use Rattle.stream_face.proofs.Joints.{nil, inner_works, not_failed, joints-none, kinds_are, live_unless, raw_wants, tells_nothing, tells_refusal}
use Rattle.stream_face.proofs.Joints.{works_before, had_memory, wants_code}
use Rattle.stream_face.proofs.Orders.{Ordered-raw_ends, Ordered-raw_live, Ordered-raw_wants}
use Rattle.stream_face.proofs.Next.{same, is_zero, zero_code, own_is_code, own_is_refusal, keeps-raw, inner_fresh, no_fault, never_live, kept_some}
use Rattle.stream_face.proofs.Next.{repeats-refused, answers-refused, row_ends, tells-kept}
use Rattle.stream_face.proofs.Next.{repeats-never, never_refused, tells-working, why-working, faulted-working, answers-working, refused_ends, why-own, row-own}
use Rattle.stream_face.proofs.raw.RawStream.next.Goals as goal

-- ---- the inner stream refuses
pub refuse-requires-clause-number : goal.refuse-requires-clause-number
refuse-requires-clause-number g c = subst IsCode (sym (same c.get_next-code.result c.get_next-code.type_inv)) c.get_next-code.ensures.code

pub refuse-requires-clause-refused : goal.refuse-requires-clause-refused
refuse-requires-clause-refused g c = λ z. c.if-code-ne0.true (ap (of_z w32) (sym (same c.get_next-code.result c.get_next-code.type_inv) ∙ z))

pub refuse-requires-clause-tells : goal.refuse-requires-clause-tells
refuse-requires-clause-tells g c =
    subst (λ z. Tells z (g.S.ArrayStream.state c.get_next-code.new.self).said) (sym (same c.get_next-code.result c.get_next-code.type_inv))
    c.get_next-code.ensures.tells

pub refuse-requires-clause-row : goal.refuse-requires-clause-row
refuse-requires-clause-row g c =
    let n = g.S.ArrayStream.state c.get_next-code.new.self in
    subst (λ z. IsRowFault z n.ending n.fault) (sym (same c.get_next-code.result c.get_next-code.type_inv)) c.get_next-code.ensures.row_fault

pub invariant_of-self-clause-own_link : goal.invariant_of-self-clause-own_link
invariant_of-self-clause-own_link g c = λ live lawful works. kept_some c.refuse.new.failure _ c.refuse.ensures.code works

pub invariant_of-self-clause-same : goal.invariant_of-self-clause-same
invariant_of-self-clause-same g c = λ live lawful.
    let call = c.get_next-code.ensures in
    c.args.self.now.same c.requires.live (rw call.keeps.lawful at lawful) ∙ ap SchemaOf (sym call.keeps.columns)

pub invariant_of-self-clause-ends : goal.invariant_of-self-clause-ends
invariant_of-self-clause-ends g c = λ live fault q.
    row_ends (why c.refuse.new.failure) (g.S.ArrayStream.state c.get_next-code.new.self) c.get_next-code.result fault c.refuse.ensures.row
    c.get_next-code.ensures.row_fault q

pub returns-then-code-ne0 : goal.returns-then-code-ne0
returns-then-code-ne0 g c =
    let raw = c.args.self.now in
    let s = g.S.ArrayStream.state raw.inner in
    let e = same c.get_next-code.result c.get_next-code.type_inv in
    let n = g.S.ArrayStream.state c.get_next-code.new.self in
    let nonzero = λ (z : c.get_next-code.result ≡ pos 0). c.if-code-ne0.true (ap (of_z w32) z) in
    record {
      why = λ _. c.refuse.ensures.why (raw_kinds c.args.self.now) (g.S.ArrayStream.state c.args.self.now.inner);
      shows = λ fresh.
          let inner : IsFresh s = record { lawful = fresh.lawful; no_failure = inner_works (why raw.failure) s.failure s.said fresh.no_failure } in
          let none = nil (s.joints raw.link) (raw.own_link c.requires.live inner.lawful (not_failed raw.failure s.failure s.said fresh.no_failure)) in
          Ordered-raw_ends s n raw.link (Nodes raw.known.schema) (why raw.failure) _ _ c.get_next-code.new.out _ _ none
          (refused_ends s n c.get_next-code.result _ c.get_next-code.new.out e nonzero (c.get_next-code.ensures.answers inner))
          (c.get_next-code.ensures.refuses nonzero)
          (subst (λ z. ShowsInOrder s n z c.get_next-code.new.out (g.T.Tap.seen c.args.tap.now) (g.T.Tap.seen c.get_next-code.new.tap)) (sym e)
          (c.get_next-code.ensures.shows inner));
      keeps = keeps-raw raw.link (Nodes raw.known.schema) (why raw.failure) (why c.refuse.new.failure) (g.S.ArrayStream.state raw.inner)
          (g.S.ArrayStream.state c.get_next-code.new.self) c.get_next-code.ensures.keeps;
      code = subst IsCode (sym (same c.get_next-code.result c.get_next-code.type_inv)) c.get_next-code.ensures.code;
      tells = tells-kept (why c.refuse.new.failure) (g.S.ArrayStream.state c.get_next-code.new.self).said _ _ c.refuse.ensures.code refl
          (λ z. c.if-code-ne0.true (ap (of_z w32) (sym e ∙ z)));
      refuses = λ _. c.get_next-code.ensures.refuses (λ z. c.if-code-ne0.true (ap (of_z w32) z));
      told = λ z. absurd (c.if-code-ne0.true (ap (of_z w32) (sym e ∙ z)));
      checked = λ live. never_live c.get_next-code.new.out (c.get_next-code.ensures.refuses (λ z. c.if-code-ne0.true (ap (of_z w32) z))) live;
      shown = λ live. never_live c.get_next-code.new.out (c.get_next-code.ensures.refuses (λ z. c.if-code-ne0.true (ap (of_z w32) z))) live;
      units = c.get_next-code.ensures.units;
      stays = λ fault q. no_fault c.args.self.now.failure fault c.in_default.is q;
      failure = ap (λ x. refusal_or (why c.refuse.new.failure) x n.said) c.get_next-code.ensures.failure;
      row_fault = subst (IsRowFault _ n.ending) (sym c.refuse.ensures.row) (subst (λ z. IsRowFault z n.ending n.fault) (sym e) c.get_next-code.ensures.row_fault);
      repeats = repeats-refused raw.link (Nodes raw.known.schema) raw.failure (why c.refuse.new.failure) s n c.get_next-code.result _ c.in_default.is
          (same c.get_next-code.result c.get_next-code.type_inv) c.refuse.ensures.code c.refuse.ensures.row c.args.pass.now c.get_next-code.new.pass
          (g.T.Tap.seen c.args.tap.now) (g.T.Tap.seen c.get_next-code.new.tap) c.get_next-code.ensures.repeats;
      answers = λ fresh. answers-refused raw.link (Nodes raw.known.schema) raw.failure (why c.refuse.new.failure) s n c.get_next-code.result _ c.in_default.is
          (same c.get_next-code.result c.get_next-code.type_inv) c.refuse.ensures.code c.refuse.ensures.row c.get_next-code.new.out
          (c.get_next-code.ensures.refuses nonzero) nonzero
          (c.get_next-code.ensures.answers (inner_fresh raw.link (Nodes raw.known.schema) (why raw.failure) s fresh));
      counts = λ fresh had. c.get_next-code.ensures.counts (inner_fresh raw.link (Nodes raw.known.schema) (why raw.failure) s fresh) (λ z. had (e ∙ z));
      link = grind (arith, common_steps);
      schema = grind (arith, common_steps);
      kinds = grind (arith, common_steps);
    }

-- ---- the inner stream is at its end
pub returns-then-is_released : goal.returns-then-is_released
returns-then-is_released g c =
    let raw = c.args.self.now in
    let s = g.S.ArrayStream.state raw.inner in
    let n = g.S.ArrayStream.state c.get_next-code.new.self in
    let zero = is_zero c.get_next-code.result c.get_next-code.type_inv c.if-code-ne0.false in
    let never = never_refused raw.failure s n c.get_next-code.result c.args.pass.now c.get_next-code.new.pass (g.T.Tap.seen c.args.tap.now)
    (g.T.Tap.seen c.get_next-code.new.tap) c.in_default.is c.get_next-code.ensures.repeats c.get_next-code.ensures.tells zero in
    let released = c.is_released.ensures.0 c.if-is_released.true in
    record {
      keeps = keeps-raw raw.link (Nodes raw.known.schema) (why raw.failure) (why raw.failure) (g.S.ArrayStream.state raw.inner)
          (g.S.ArrayStream.state c.get_next-code.new.self) c.get_next-code.ensures.keeps;
      code = zero_code;
      tells = tells-working raw.link (Nodes raw.known.schema) raw.failure s n c.get_next-code.result c.in_default.is zero c.get_next-code.ensures.tells;
      refuses = λ h. absurd (h refl);
      why = λ _. why-working raw.link (Nodes raw.known.schema) raw.failure s n c.get_next-code.result c.in_default.is zero (raw_kinds raw);
      stays = λ fault q. no_fault c.args.self.now.failure fault c.in_default.is q;
      failure = ap (λ x. refusal_or (why raw.failure) x n.said) c.get_next-code.ensures.failure;
      row_fault = faulted-working raw.link (Nodes raw.known.schema) raw.failure s n c.get_next-code.result c.in_default.is zero c.get_next-code.ensures.row_fault;
      told = λ _. c.get_next-code.ensures.told zero;
      checked = λ live. never_live c.get_next-code.new.out (c.is_released.ensures.0 c.if-is_released.true) live;
      shown = λ live. never_live c.get_next-code.new.out (c.is_released.ensures.0 c.if-is_released.true) live;
      units = c.get_next-code.ensures.units;
      repeats = repeats-never _ _ _ _ _ _ _ never;
      answers = λ fresh. answers-working raw.link (Nodes raw.known.schema) raw.failure s n c.get_next-code.result c.in_default.is zero c.get_next-code.new.out
          (c.get_next-code.ensures.answers (inner_fresh raw.link (Nodes raw.known.schema) (why raw.failure) s fresh));
      counts = λ fresh _. c.get_next-code.ensures.counts (inner_fresh raw.link (Nodes raw.known.schema) (why raw.failure) s fresh)
          (had_memory c.get_next-code.result zero);
      shows = λ fresh.
          let inner = inner_fresh raw.link (Nodes raw.known.schema) (why raw.failure) s fresh in
          let last = (c.get_next-code.ensures.answers inner).finish zero released in
          let none = nil (s.joints raw.link) (raw.own_link c.requires.live inner.lawful c.in_default.is) in
          Ordered-raw_ends s n raw.link (Nodes raw.known.schema) (why raw.failure) _ (pos 0) c.get_next-code.new.out (g.T.Tap.seen c.args.tap.now) (g.T.Tap.seen c.get_next-code.new.tap) none
          (λ _. (last.0, last.1)) released
          (subst (λ z. ShowsInOrder s n z c.get_next-code.new.out (g.T.Tap.seen c.args.tap.now) (g.T.Tap.seen c.get_next-code.new.tap)) zero
          (c.get_next-code.ensures.shows inner));
      link = grind (arith, common_steps);
      schema = grind (arith, common_steps);
      kinds = grind (arith, common_steps);
    }

-- ---- the chunk passes the check
pub invariant_of-self-then-admits-clause-own_link : goal.invariant_of-self-then-admits-clause-own_link
invariant_of-self-then-admits-clause-own_link g c = λ live lawful works.
    let raw = c.args.self.now in
    let s = g.S.ArrayStream.state raw.inner in
    let n = g.S.ArrayStream.state c.get_next-code.new.self in
    let call = c.get_next-code.ensures in
    let zero = is_zero c.get_next-code.result c.get_next-code.type_inv c.if-code-ne0.false in
    let inner : IsFresh s = record {
      lawful = rw call.keeps.lawful at lawful;
      no_failure =
          works_before s.failure c.get_next-code.result
          (λ refusal e. tells_refusal c.get_next-code.result n.said refusal call.tells (call.repeats.same refusal e).1) zero;
    } in
    let none = nil (s.joints raw.link) (raw.own_link c.requires.live inner.lawful works) in
    ap is_nil (joints-none s.joints n.joints raw.link c.get_next-code.new.out _ _ none (rw zero at (call.shows inner)).shows)

pub invariant_of-self-then-admits-clause-same : goal.invariant_of-self-then-admits-clause-same
invariant_of-self-then-admits-clause-same g c = λ live lawful.
    let call = c.get_next-code.ensures in
    c.args.self.now.same c.requires.live (rw call.keeps.lawful at lawful) ∙ ap SchemaOf (sym call.keeps.columns)

pub returns-then-admits : goal.returns-then-admits
returns-then-admits g c =
    let raw = c.args.self.now in
    let s = g.S.ArrayStream.state raw.inner in
    let n = g.S.ArrayStream.state c.get_next-code.new.self in
    let call = c.get_next-code.ensures in
    let live = live_unless c.get_next-code.new.out (λ r. absurd (true≢false (sym (c.is_released.ensures.1 r) ∙ c.if-is_released.false))) in
    let zero = is_zero c.get_next-code.result c.get_next-code.type_inv c.if-code-ne0.false in
    let never = never_refused raw.failure s n c.get_next-code.result c.args.pass.now c.get_next-code.new.pass (g.T.Tap.seen c.args.tap.now)
    (g.T.Tap.seen c.get_next-code.new.tap) c.in_default.is c.get_next-code.ensures.repeats c.get_next-code.ensures.tells zero in
    record {
      shows = λ fresh.
          let inner : IsFresh s = record { lawful = fresh.lawful; no_failure = inner_works (why raw.failure) s.failure s.said fresh.no_failure } in
          let none = nil (s.joints raw.link) (raw.own_link c.requires.live inner.lawful (not_failed raw.failure s.failure s.said fresh.no_failure)) in
          let lawful = subst IsTrue (sym call.keeps.lawful) fresh.lawful in
          let typed : TypedOf (SchemaOf s.columns) (type_of_columns s.columns) =
          subst (λ cs. TypedOf (SchemaOf cs) (type_of_columns cs)) call.keeps.columns (c.lawful_facts.ensures.columns lawful).typed in
          let known = raw.same c.requires.live fresh.lawful in
          let kinds = kinds_are raw.known.schema (raw_kinds raw) s.columns known typed c.admits.ensures.only in
          Ordered-raw_live s n raw.link (Nodes raw.known.schema) (why raw.failure) (why raw.failure) c.get_next-code.result raw.known.schema (raw_kinds raw) c.get_next-code.new.out _ _ _ zero live none call.keeps.columns
          (call.answers inner) (call.shows inner) known kinds (c.admits.ensures.seen c.if-admits.true);
      keeps = keeps-raw raw.link (Nodes raw.known.schema) (why raw.failure) (why raw.failure) (g.S.ArrayStream.state raw.inner)
          (g.S.ArrayStream.state c.get_next-code.new.self) c.get_next-code.ensures.keeps;
      code = zero_code;
      tells = tells-working raw.link (Nodes raw.known.schema) raw.failure s n c.get_next-code.result c.in_default.is zero c.get_next-code.ensures.tells;
      refuses = λ h. absurd (h refl);
      why = λ _. why-working raw.link (Nodes raw.known.schema) raw.failure s n c.get_next-code.result c.in_default.is zero (raw_kinds raw);
      stays = λ fault q. no_fault c.args.self.now.failure fault c.in_default.is q;
      failure = ap (λ x. refusal_or (why raw.failure) x n.said) c.get_next-code.ensures.failure;
      row_fault = faulted-working raw.link (Nodes raw.known.schema) raw.failure s n c.get_next-code.result c.in_default.is zero c.get_next-code.ensures.row_fault;
      told = λ _. c.get_next-code.ensures.told (is_zero c.get_next-code.result c.get_next-code.type_inv c.if-code-ne0.false);
      checked = λ _. c.admits.ensures.chunk c.if-admits.true;
      shown = λ _. (g.T.Tap.seen c.get_next-code.new.tap, c.admits.ensures.seen c.if-admits.true);
      units = c.get_next-code.ensures.units;
      repeats = repeats-never _ _ _ _ _ _ _ never;
      answers = λ fresh. answers-working raw.link (Nodes raw.known.schema) raw.failure s n c.get_next-code.result c.in_default.is zero c.get_next-code.new.out
          (c.get_next-code.ensures.answers (inner_fresh raw.link (Nodes raw.known.schema) (why raw.failure) s fresh));
      counts = λ fresh _. c.get_next-code.ensures.counts (inner_fresh raw.link (Nodes raw.known.schema) (why raw.failure) s fresh)
          (had_memory c.get_next-code.result zero);
      link = grind (arith, common_steps);
      schema = grind (arith, common_steps);
      kinds = grind (arith, common_steps);
    }

-- ---- the chunk is refused
-- over a lawful stream the check doesn't refuse
pub returns : goal.returns
returns g c =
    let raw = c.args.self.now in
    let s = g.S.ArrayStream.state raw.inner in
    let n = g.S.ArrayStream.state c.get_next-code.new.self in
    let call = c.get_next-code.ensures in
    let out = c.get_next-code.new.out in
    let live = live_unless c.get_next-code.new.out (λ r. absurd (true≢false (sym (c.is_released.ensures.1 r) ∙ c.if-is_released.false))) in
    let zero = is_zero c.get_next-code.result c.get_next-code.type_inv c.if-code-ne0.false in
    let refusal = own_is_refusal (raw_kinds raw) c.get_next-code.new.out (why c.refuse_chunk.new.failure) c.refuse_chunk.result c.refuse_chunk.ensures.why
    c.refuse_chunk.ensures.code in
    let e = same c.refuse_chunk.result c.refuse_chunk.type_inv in
    let never = never_refused raw.failure s n c.get_next-code.result c.args.pass.now c.get_next-code.new.pass (g.T.Tap.seen c.args.tap.now)
    (g.T.Tap.seen c.get_next-code.new.tap) c.in_default.is c.get_next-code.ensures.repeats c.get_next-code.ensures.tells zero in
    let passes = λ (inner : IsFresh s).
    let chunk = (call.answers inner).chunk live in
    let lawful = subst IsTrue (sym call.keeps.lawful) inner.lawful in
    let typed : TypedOf (SchemaOf s.columns) (type_of_columns s.columns) =
    subst (λ cs. TypedOf (SchemaOf cs) (type_of_columns cs)) call.keeps.columns (c.lawful_facts.ensures.columns lawful).typed in
    let kinds = kinds_are raw.known.schema (raw_kinds raw) s.columns (raw.same c.requires.live inner.lawful) typed c.admits.ensures.only in
    let ok : ChunkOk (raw_kinds raw) out = subst (λ k. ChunkOk k out) (sym kinds) chunk.2.ok in
    c.refuse_chunk.ensures.lawful ok in
    let inner_of = λ (fresh : IsFresh (meaning g.S.ArrayStream.state raw)). inner_fresh raw.link (Nodes raw.known.schema) (why raw.failure) s fresh in
    let wants = λ (inner : IsFresh s). wants_code (why c.refuse_chunk.new.failure) _ _ c.refuse_chunk.ensures.code (passes inner) e in
    record {
      answers = λ fresh. raw_wants (meaning g.S.ArrayStream.state raw) n raw.link (Nodes raw.known.schema) (why c.refuse_chunk.new.failure)
          c.refuse_chunk.result _ c.refuse_chunk.new.out (passes (inner_of fresh)) (tells_nothing c.get_next-code.result n.said call.tells zero)
          c.refuse_chunk.ensures.code e c.refuse_chunk.ensures.released;
      shows = λ fresh.
          let inner = inner_of fresh in
          let none = nil (s.joints raw.link) (raw.own_link c.requires.live inner.lawful c.in_default.is) in
          subst (ShowsInOrder (meaning g.S.ArrayStream.state raw) _ _ c.refuse_chunk.new.out (g.T.Tap.seen c.args.tap.now)) (sym
          (c.admits.ensures.unseen c.if-admits.false))
          (Ordered-raw_wants s n raw.link (Nodes raw.known.schema) (why raw.failure) (why c.refuse_chunk.new.failure) c.get_next-code.result _ c.get_next-code.new.out _ _ _ none (wants inner) (call.shows inner));
      keeps = keeps-raw raw.link (Nodes raw.known.schema) (why raw.failure) (why c.refuse_chunk.new.failure) (g.S.ArrayStream.state raw.inner)
          (g.S.ArrayStream.state c.get_next-code.new.self) c.get_next-code.ensures.keeps;
      code = subst IsCode (sym (same c.refuse_chunk.result c.refuse_chunk.type_inv))
          (own_is_code (raw_kinds raw) c.get_next-code.new.out (why c.refuse_chunk.new.failure) c.refuse_chunk.result c.refuse_chunk.ensures.why
          c.refuse_chunk.ensures.code);
      tells = tells-kept (why c.refuse_chunk.new.failure)
          (g.S.ArrayStream.state c.get_next-code.new.self).said c.refuse_chunk.result _ c.refuse_chunk.ensures.code e
          refusal;
      refuses = λ _. c.refuse_chunk.ensures.released;
      told = λ z. absurd (refusal (sym e ∙ z));
      checked = λ live. never_live c.refuse_chunk.new.out c.refuse_chunk.ensures.released live;
      shown = λ live. never_live c.refuse_chunk.new.out c.refuse_chunk.ensures.released live;
      why = λ _. why-own (raw_kinds raw) c.get_next-code.new.out s n (why c.refuse_chunk.new.failure) _ c.refuse_chunk.result c.refuse_chunk.ensures.why
          c.refuse_chunk.ensures.code e (tells_nothing c.get_next-code.result n.said call.tells zero) (λ other. call.gave other zero)
          (λ lawful. passes (record {
            lawful = lawful;
            no_failure = works_before s.failure c.get_next-code.result
                (λ refusal q. tells_refusal c.get_next-code.result n.said refusal call.tells (call.repeats.same refusal q).1) zero;
          }))
          (call.told zero);
      stays = λ fault q. no_fault c.args.self.now.failure fault c.in_default.is q;
      failure = ap (λ x. refusal_or (why c.refuse_chunk.new.failure) x n.said) c.get_next-code.ensures.failure;
      row_fault = row-own (raw_kinds c.args.self.now) c.get_next-code.new.out (g.S.ArrayStream.state c.get_next-code.new.self) (why c.refuse_chunk.new.failure) _
          c.refuse_chunk.ensures.why;
      repeats = repeats-never _ _ _ _ _ _ _ never;
      counts = λ fresh had. absurd (had (wants (inner_of fresh)));
      link = grind (arith, common_steps);
      schema = grind (arith, common_steps);
      kinds = grind (arith, common_steps);
      units = grind (arith, common_steps);
    }

pub returns-in-Some : goal.returns-in-Some
returns-in-Some g c =
    record {
      keeps = grind (arith, common_steps);
      link = grind (arith, common_steps);
      schema = grind (arith, common_steps);
      kinds = grind (arith, common_steps);
      code = grind (arith, common_steps);
      tells = grind (arith, common_steps);
      refuses = grind (arith, common_steps);
      told = grind (arith, common_steps);
      checked = grind (arith, common_steps);
      shown = grind (arith, common_steps);
      units = grind (arith, common_steps);
      why = grind (arith, common_steps);
      stays = grind (arith, common_steps);
      failure = grind (arith, common_steps);
      row_fault = grind (arith, common_steps);
      repeats = grind (arith, common_steps);
      answers = grind (arith, common_steps);
      counts = grind (arith, common_steps);
      shows = grind (arith, common_steps);
    }
