use Rattle.std.proofs.lemmas.Grind.{common_steps}
use Rattle.std.proofs.Common.{arith, ◌≡◌, ◌≢◌, ◌+◌, ◌++◌, Err, IsTrue, length, of_z, w32, refl, sym, ◌∙◌, ap, subst}
use Rattle.layout_rules.specs.promise.Values.{rows_of}
use Rattle.layout_rules.specs.promise.Walk.{LayoutOk}
use Rattle.data_types.specs.promise.ColumnKinds.{type_of_columns}
use Rattle.csv_model.specs.Text.{rows_text}
use Rattle.csv_write.specs.CsvTexts.{HasText}
use Rattle.stream_face.specs.Codes.{enomem}
use Rattle.stream_face.specs.Meaning.{meaning}
use Rattle.stream_face.specs.Streams.{IsFresh}
use Rattle.stream_face.proofs.Joints.{fresh_at, had_memory, tells_nothing}
use Rattle.csv_write.proofs.RunLemmas.{at-row, is-live, zero_code, Ran-fresh, Ran-start, Ran-next, Ran-refused, Ran-ends, Ran-counted, Wrote-next, Wrote-ends}
use Rattle.csv_write.proofs.gather.pull_all.Goals as goal

pub chunks-init : goal.chunks-init
chunks-init g c = record {
  ran = Ran-start (meaning g.U.ArrayStream.state c.args.stream.now) (g.T.Tap.seen c.args.tap.now) c.args.pass.now;
  wrote = λ mark written has. record { so_far = written; has = has; all = refl };
  units = refl;
  chunk = c.released-chunk.ensures;
}

-- ---- a call that refuses
pub returns-then-code-eq-EINVAL : goal.returns-then-code-eq-EINVAL
returns-then-code-eq-EINVAL g c =
    let ran = c.chunks.invariant.ran in
    let start = meaning g.U.ArrayStream.state c.args.stream.now in
    let m = meaning g.U.ArrayStream.state c.chunks.stream in
    let n = meaning g.U.ArrayStream.state c.next-code.new.self in
    let call = c.next-code.ensures in
    let out = c.next-code.new.out in
    let gone = call.refuses (λ z. c.if-code-ne0.true (ap (of_z w32) z)) in
    let had : c.next-code.result ≢ enomem = λ z. absurd (let k : 12 ≡ 22 = ap (of_z w32) (sym z) ∙ c.if-code-eq-EINVAL.true in omega (arith, k)) in
    let still = Ran-fresh start m _ _ _ _ ran in
    record {
      shows_some = Ran-refused start m n _ _ _ _ _ _ _ c.next-code.result out c.requires.lawful ran call.shows call.repeats;
      keeps = grind (arith, common_steps);
      units = grind (arith, common_steps);
      text = tt;
      ends = tt;
      row = grind (arith, common_steps);
      counts = tt;
      refused_counts = λ fresh. at-row {A = Unit {0}} (Err c.fault_of.result)
          (Ran-counted start m n _ _ c.args.pass.now c.chunks.pass c.next-code.new.pass out ran gone (call.counts (still fresh) had));
      shows = tt;
      refused_shows = λ fresh. at-row {A = Unit {0}} (Err c.fault_of.result) (Ran-ends start m n _ _ _ _ _ c.next-code.result out ran had gone (call.shows (still fresh)));
    }

pub returns-else-code-eq-EINVAL : goal.returns-else-code-eq-EINVAL
returns-else-code-eq-EINVAL g c =
    let ran = c.chunks.invariant.ran in
    let start = meaning g.U.ArrayStream.state c.args.stream.now in
    let m = meaning g.U.ArrayStream.state c.chunks.stream in
    let n = meaning g.U.ArrayStream.state c.next-code.new.self in
    let call = c.next-code.ensures in
    let out = c.next-code.new.out in
    record {
      shows_some = Ran-refused start m n _ _ _ _ _ _ _ c.next-code.result out c.requires.lawful ran call.shows call.repeats;
      keeps = grind (arith, common_steps);
      units = grind (arith, common_steps);
      text = tt;
      ends = tt;
      row = grind (arith, common_steps);
      counts = tt;
      refused_counts = λ _. tt;
      shows = tt;
      refused_shows = λ _. tt;
    }

pub returns-in-Err : goal.returns-in-Err
returns-in-Err g c =
    let ran = c.chunks.invariant.ran in
    let start = meaning g.U.ArrayStream.state c.args.stream.now in
    let m = meaning g.U.ArrayStream.state c.chunks.stream in
    let n = meaning g.U.ArrayStream.state c.next-code.new.self in
    let call = c.next-code.ensures in
    let out = c.next-code.new.out in
    record {
      shows_some = Ran-refused start m n _ _ _ _ _ _ _ c.next-code.result out c.requires.lawful ran call.shows call.repeats;
      keeps = grind (arith, common_steps);
      units = grind (arith, common_steps);
      text = tt;
      ends = tt;
      row = grind (arith, common_steps);
      counts = tt;
      refused_counts = λ _. tt;
      shows = tt;
      refused_shows = λ _. tt;
    }

-- ---- the end of the stream
pub returns-then-is_released : goal.returns-then-is_released
returns-then-is_released g c =
    let ran = c.chunks.invariant.ran in
    let start = meaning g.U.ArrayStream.state c.args.stream.now in
    let m = meaning g.U.ArrayStream.state c.chunks.stream in
    let n = meaning g.U.ArrayStream.state c.next-code.new.self in
    let call = c.next-code.ensures in
    let out = c.next-code.new.out in
    let zero = zero_code c.next-code.result call.code c.if-code-ne0.false in
    let lawful : IsTrue m.lawful = subst IsTrue (sym ran.keeps.lawful) c.requires.lawful in
    let fresh : IsFresh m = fresh_at m n c.next-code.result _ _ _ _ lawful call.repeats call.tells zero in
    let ended = c.if-is_released.ensures.0 refl in
    record {
      text = λ mark written has. Wrote-ends mark start.columns start m written c.chunks.text
          ((call.answers fresh).finish zero ended).0 (c.chunks.invariant.wrote mark written has);
      ends = sym ran.keeps.ending ∙ ((call.answers fresh).finish zero ended).2;
      counts = Ran-counted start m n _ _ c.args.pass.now c.chunks.pass c.next-code.new.pass out ran ended (call.counts fresh (had_memory c.next-code.result zero));
      shows = Ran-ends start m n _ _ _ _ _ c.next-code.result out ran (had_memory c.next-code.result zero) ended (call.shows fresh);
      refused_counts = λ _. tt;
      refused_shows = λ _. tt;
      keeps = grind (arith, common_steps);
      units = grind (arith, common_steps);
      row = grind (arith, common_steps);
      shows_some = grind (arith, common_steps);
    }

-- ---- one more chunk
pub add_chunk-added-requires-clause-text : goal.add_chunk-added-requires-clause-text
add_chunk-added-requires-clause-text g c =
    let ran = c.chunks.invariant.ran in
    let start = meaning g.U.ArrayStream.state c.args.stream.now in
    let m = meaning g.U.ArrayStream.state c.chunks.stream in
    let n = meaning g.U.ArrayStream.state c.next-code.new.self in
    let call = c.next-code.ensures in
    let out = c.next-code.new.out in
    let lawful : IsTrue n.lawful = subst IsTrue (sym (call.keeps.lawful ∙ ran.keeps.lawful)) c.requires.lawful in
    let w = c.chunks.invariant.wrote c.requires.text.0 c.requires.text.1 c.requires.text.2 in
    let kinds = c.typed.ensures.lawful lawful ∙ ap type_of_columns (call.keeps.columns ∙ ran.keeps.columns) in
    (c.requires.text.0, start.columns, w.so_far, w.has, c.typed.ensures.kinds ∙ kinds)

pub release-requires : goal.release-requires
release-requires g c = omega (arith, c.chunks.pass.supply, c.chunks.invariant.units, c.next-code.ensures.units)

pub chunks-preserved : goal.chunks-preserved
chunks-preserved g c =
    let ran = c.chunks.invariant.ran in
    let start = meaning g.U.ArrayStream.state c.args.stream.now in
    let m = meaning g.U.ArrayStream.state c.chunks.stream in
    let n = meaning g.U.ArrayStream.state c.next-code.new.self in
    let call = c.next-code.ensures in
    let out = c.next-code.new.out in
    let zero = zero_code c.next-code.result call.code c.if-code-ne0.false in
    let lawful : IsTrue m.lawful = subst IsTrue (sym ran.keeps.lawful) c.requires.lawful in
    let fresh : IsFresh m = fresh_at m n c.next-code.result _ _ _ _ lawful call.repeats call.tells zero in
    let live = is-live out c.if-is_released.ensures.1 in
    let still : IsTrue n.lawful = subst IsTrue (sym (call.keeps.lawful ∙ ran.keeps.lawful)) c.requires.lawful in
    let kinds = c.typed.ensures.kinds ∙ c.typed.ensures.lawful still ∙ ap type_of_columns (call.keeps.columns ∙ ran.keeps.columns) in
    let new = c.add_chunk-added.new.text in
    record {
      ran =
          Ran-next start m n _ _ _ c.args.pass.now c.chunks.pass c.next-code.new.pass c.release.new.pass c.next-code.result out ran zero call.keeps
          (call.failure ∙ tells_nothing c.next-code.result n.said call.tells zero) (call.shows fresh)
          (call.counts fresh (had_memory c.next-code.result zero)) c.release.ensures.blocks c.release.ensures.nodes;
      wrote = λ mark written has.
          Wrote-next mark start.columns start m n written c.next-code.result out c.chunks.text new ran.keeps.columns live (call.answers fresh)
          (c.chunks.invariant.wrote mark written has)
          (λ so_far old. subst (λ k. HasText new mark start.columns (so_far ++ rows_text mark start.columns (rows_of k out))) kinds
          (c.in-Ok.ensures mark start.columns so_far old kinds));
      units = omega (arith, c.release.ensures.units, call.units, c.chunks.invariant.units);
      chunk = c.release.ensures.released;
    }

pub add_chunk-added-requires-clause-lawful : goal.add_chunk-added-requires-clause-lawful
add_chunk-added-requires-clause-lawful g c =
    let call = c.next-code.ensures in
    let out = c.next-code.new.out in
    let live = is-live out c.if-is_released.ensures.1 in
    subst (λ k. LayoutOk k out) (sym (c.typed.ensures.kinds ∙ call.kinds)) (call.checked live).0

pub chunks-smaller : goal.chunks-smaller
chunks-smaller g c =
    let ran = c.chunks.invariant.ran in
    let start = meaning g.U.ArrayStream.state c.args.stream.now in
    let m = meaning g.U.ArrayStream.state c.chunks.stream in
    let n = meaning g.U.ArrayStream.state c.next-code.new.self in
    let call = c.next-code.ensures in
    let out = c.next-code.new.out in
    let zero = zero_code c.next-code.result call.code c.if-code-ne0.false in
    let lawful : IsTrue m.lawful = subst IsTrue (sym ran.keeps.lawful) c.requires.lawful in
    let fresh : IsFresh m = fresh_at m n c.next-code.result _ _ _ _ lawful call.repeats call.tells zero in
    let live = is-live out c.if-is_released.ensures.1 in
    let taken = ap length ((call.answers fresh).chunk live).1 in
    omega (arith, taken)
