use Rattle.std.proofs.Common.{rules, ◌≡◌, ◌∙◌, pos, IsTrue, w32, of_z, to_z, sym, ap, subst, refl}
use Rattle.std.proofs.Common.{◌++◌, List, [], ◌∷◌, Option, map}
use Rattle.std.proofs.lemmas.List.{append_cancel_right}
use Rattle.data_types.specs.promise.ColumnKinds.{type_of_columns}
use Rattle.data_types.specs.ColumnView.{column_of}
use Rattle.data_types.specs.promise.Table.{Row}
use Rattle.data_types.specs.declared.kind.ColumnType.{ColumnType}
use Rattle.data_types.specs.declared.row_fault.RowFault.{RowFault}
use Rattle.layout_rules.specs.promise.Values.{rows_of}
use Rattle.stream_face.specs.Lawful.{LawfulTables}
use Rattle.tree_model.specs.promise.TreeParts.{IsLive}
use Rattle.tree_model.specs.promise.TreeData.{Released}
use Rattle.data_types.specs.KindTrees.{TypedOk}
use Rattle.data_types.specs.promise.TypedView.{typed_of}
use Rattle.stream_face.specs.Calls.{IsCode, IsRowFault, Tells}
use Rattle.stream_face.specs.Codes.{enomem}
use Rattle.stream_face.specs.Meaning.{meaning, raw_link}
use Rattle.stream_face.specs.Streams.{IsFresh}
use Rattle.stream_face.proofs.Joints.{had_memory}
use Rattle.stream_face.proofs.Next as codes
use Rattle.stream_face.proofs.Orders.{own-rows, rows-own}
use Rattle.stages.proofs.Runs.{Called, Ran-counts, Ran-goes, Ran-leaves, Ran-made, Ran-next, Ran-repeats, Ran-shows, Ran-start, Ran-still, Ran-works, kept-both}
use Rattle.stages.proofs.Turning as turning
use Rattle.stages.proofs.pull.pull.Goals as goal

pub chunks-init : goal.chunks-init
chunks-init g c =
    let start = meaning g.U.ArrayStream.state c.args.up.now in
    record {
      ran = Ran-start start (g.T.Tap.seen c.args.tap.now) c.args.pass.now (search rules) (search rules);
      same = λ _. refl;
      takes = λ fresh. c.lawful_facts-2.ensures.begins c.requires.rests start.columns start.ahead c.requires.fits (c.lawful_facts.ensures.columns fresh.lawful)
          (c.lawful_facts.ensures.tables fresh.lawful);
      tables = λ fresh. c.lawful_facts.ensures.tables fresh.lawful;
      link = refl;
      goes = λ fresh. turning.Goes-start (g.S.ChunkStep.takes c.args.step.now start.columns) (g.S.ChunkStep.ahead c.args.step.now start.ending) start.ahead
          (λ some rest e. c.lawful_facts-2.ensures.begins c.requires.rests start.columns some c.requires.fits (c.lawful_facts.ensures.columns fresh.lawful)
          (turning.lawful-first start.columns some rest (subst (LawfulTables start.columns) e (c.lawful_facts.ensures.tables fresh.lawful))));
      columns = refl;
      fits = λ _ h. h;
      own_blocks = λ _. refl;
      own_nodes = λ _. refl;
      besides = λ _ _ h. h;
      units = refl;
      chunk = c.requires.empty;
    }

-- ---- the stream below is refused
pub returns-then-code-ne0 : goal.returns-then-code-ne0
returns-then-code-ne0 g c =
    let start = meaning g.U.ArrayStream.state c.args.up.now in
    let m = meaning g.U.ArrayStream.state c.chunks.up in
    let n = meaning g.U.ArrayStream.state c.next-code.new.self in
    let ran = c.chunks.invariant.ran in
    let call = c.next-code.ensures in
    let refused : c.next-code.result ≡ pos 0 → ⊥ = λ z. c.if-code-ne0.true (ap (of_z w32) z) in
    let gone = call.refuses refused in
    let e = codes.same c.next-code.result c.next-code.type_inv in
    let answers = λ (fresh : IsFresh start).
    turning.refused-answers (g.S.ChunkStep.columns c.args.step.now) (g.S.ChunkStep.columns c.forget.new.self) (g.S.ChunkStep.ahead c.args.step.now)
    (g.S.ChunkStep.ahead c.chunks.step) (g.S.ChunkStep.ahead c.forget.new.self) (raw_link c.args.up.now) (raw_link c.next-code.new.self) start m n c.next-code.result (to_z w32 (of_z w32 c.next-code.result))
    c.next-code.new.out e refused (c.chunks.invariant.same fresh) c.forget.ensures.refused ran.keeps.ending call.keeps.ending
    (call.answers (Ran-still start m _ _ _ _ ran fresh)) gone in
    record {
      rests = c.forget.ensures.rests;
      keeps = kept-both start m n ran.keeps call.keeps;
      columns = c.forget.ensures.columns ∙ c.chunks.invariant.columns;
      fits = λ before h. c.forget.ensures.fits before (c.chunks.invariant.fits before h);
      besides = λ rows t h. c.chunks.invariant.besides rows t (c.forget.ensures.besides rows t h);
      code = subst IsCode (sym e) call.code;
      tells = subst (λ z. Tells z n.said) (sym e) call.tells;
      refuses = λ _. gone;
      released = tt;
      units = call.units ∙ c.chunks.invariant.units;
      failure = call.failure;
      row_fault = subst (λ z. IsRowFault z n.ending n.fault) (sym e) call.row_fault;
      no_failure = tt;
      repeats = Ran-repeats start m n c.next-code.result _ _ _ _ c.args.pass.now c.chunks.pass c.next-code.new.pass e ran call.repeats;
      answers = answers;
      gives = λ _ zero. absurd (refused (sym e ∙ zero));
      counts = λ fresh had.
          let ends = codes.refused_ends _ _ _ _ c.next-code.new.out refl (λ z. refused (sym e ∙ z)) (answers fresh) had in
          turning.none-counted (g.S.ChunkStep.blocks c.args.step.now) (g.S.ChunkStep.nodes c.args.step.now) (g.S.ChunkStep.blocks c.forget.new.self)
          (g.S.ChunkStep.nodes c.forget.new.self) _ _ start.due n.due c.args.pass.now c.next-code.new.pass c.next-code.new.pass c.next-code.new.out
          ends.0 ends.1 refl refl
          (Ran-counts start m n c.next-code.new.out c.next-code.new.out _ _ c.args.pass.now c.chunks.pass c.next-code.new.pass c.next-code.new.pass
          (ran.went fresh) (call.counts (Ran-still start m _ _ _ _ ran fresh) (λ z. had (e ∙ z))) refl refl (λ left. left));
      shows = λ fresh.
          let went = ran.went fresh in
          let still = Ran-still start m _ _ _ _ ran fresh in
          let x = call.shows still in
          let goes = c.chunks.invariant.goes fresh in
          record {
            shows = Ran-shows start m n c.next-code.result _ c.next-code.new.out c.next-code.new.out _ _ _ _ _ went x.shows (λ had z. had (e ∙ z)) (λ _ left. left);
            order = record {
              made = Ran-made start m n c.next-code.result c.next-code.new.out _ _ _ _ _ went x;
              goes_on = λ had. Ran-goes start m n c.next-code.result c.next-code.new.out _ _ _ _ _ went x (λ z. had (e ∙ z));
              gives = λ had given all.
                  let ends = codes.refused_ends m n c.next-code.result _ c.next-code.new.out e refused (call.answers still) had in
                  turning.gives-end start n (raw_link c.args.up.now) (raw_link c.next-code.new.self) (g.S.ChunkStep.ahead c.args.step.now start.ending)
                  (g.S.ChunkStep.ahead c.forget.new.self n.ending) (went.shown ++ x.shows.shown) given (call.link ∙ c.chunks.invariant.link)
                  (Ran-leaves start m n c.next-code.result c.next-code.new.out _ _ _ _ _ went x (λ z. had (e ∙ z)) (raw_link c.args.up.now))
                  (rows-own c.args.up.now.link (g.U.ArrayStream.state c.args.up.now.inner))
                  (own-rows c.next-code.new.self.link c.args.up.now.link (g.U.ArrayStream.state c.next-code.new.self.inner)
                  (call.link ∙ c.chunks.invariant.link)) m goes.pulled goes.all ends.0 ends.1 all;
            };
          };
    }

-- ---- a turn of the step
pub turn-requires-clause-next : goal.turn-requires-clause-next
turn-requires-clause-next g c = λ _ _ live.
    let start = meaning g.U.ArrayStream.state c.args.up.now in
    let m = meaning g.U.ArrayStream.state c.chunks.up in
    let n = meaning g.U.ArrayStream.state c.next-code.new.self in
    let ran = c.chunks.invariant.ran in
    let call = c.next-code.ensures in
    let works = turning.zero_code c.next-code.result call.code c.if-code-ne0.false in
    let out = c.next-code.new.out in
    let seen = g.T.Tap.seen c.chunks.tap in
    let later = g.T.Tap.seen c.next-code.new.tap in
    let called : Called m n c.next-code.result out seen later c.chunks.pass c.next-code.new.pass =
    record { keeps = call.keeps; tells = call.tells; failure = call.failure; repeats = call.repeats; counts = call.counts; shows = call.shows } in
    let fresh = turning.first-fresh start m n c.next-code.result out _ seen later c.args.pass.now c.chunks.pass c.next-code.new.pass ran called works
    c.requires.lawful call.answers in
    let got = turning.got start m n c.next-code.result out _ seen later c.args.pass.now c.chunks.pass c.next-code.new.pass ran called works
    c.requires.lawful call.answers live in
    let typed = c.typed.ensures.lawful (subst IsTrue (sym (call.keeps.lawful ∙ ran.keeps.lawful)) c.requires.lawful) in (
      start.columns,
      got.rows,
      n.ahead,
      c.chunks.invariant.fits start.columns c.requires.fits,
      subst (g.S.ChunkStep.takes c.chunks.step start.columns) got.ahead (c.chunks.invariant.takes fresh),
      turning.is-next start m n c.next-code.result out _ seen later c.args.pass.now c.chunks.pass c.next-code.new.pass ran called works c.requires.lawful
          call.answers (typed_of c.typed.result.now) (c.typed.ensures.kinds ∙ typed) (subst TypedOk (sym c.typed.ensures.kinds) c.typed.ensures.types)
          (c.lawful_facts.ensures.columns c.requires.lawful) (c.chunks.invariant.tables fresh) live,
    )

pub returns-in-Ok-true : goal.returns-in-Ok-true
returns-in-Ok-true g c =
    let start = meaning g.U.ArrayStream.state c.args.up.now in
    let m = meaning g.U.ArrayStream.state c.chunks.up in
    let n = meaning g.U.ArrayStream.state c.next-code.new.self in
    let inv = c.chunks.invariant in
    let ran = inv.ran in
    let call = c.next-code.ensures in
    let works = turning.zero_code c.next-code.result call.code c.if-code-ne0.false in
    let out = c.next-code.new.out in
    let given = c.turn.new.out in
    let first = c.args.step.now in
    let step = c.chunks.step in
    let last = c.turn.new.step in
    let seen = g.T.Tap.seen c.chunks.tap in
    let later = g.T.Tap.seen c.next-code.new.tap in
    let called : Called m n c.next-code.result out seen later c.chunks.pass c.next-code.new.pass =
    record { keeps = call.keeps; tells = call.tells; failure = call.failure; repeats = call.repeats; counts = call.counts; shows = call.shows } in
    let fresh = turning.first-fresh start m n c.next-code.result out _ seen later c.args.pass.now c.chunks.pass c.next-code.new.pass ran called works
    c.requires.lawful call.answers in
    let got = turning.got start m n c.next-code.result out _ seen later c.args.pass.now c.chunks.pass c.next-code.new.pass ran called works
    c.requires.lawful call.answers in
    let ended = turning.ended start m n c.next-code.result out _ seen later c.args.pass.now c.chunks.pass c.next-code.new.pass ran called works
    c.requires.lawful call.answers in
    let typed = c.typed.ensures.lawful (subst IsTrue (sym (call.keeps.lawful ∙ ran.keeps.lawful)) c.requires.lawful) in
    let columns = c.lawful_facts.ensures.columns c.requires.lawful in
    let next = turning.is-next start m n c.next-code.result out _ seen later c.args.pass.now c.chunks.pass c.next-code.new.pass ran called works
    c.requires.lawful call.answers (typed_of c.typed.result.now) (c.typed.ensures.kinds ∙ typed)
    (subst TypedOk (sym c.typed.ensures.kinds) c.typed.ensures.types) columns (inv.tables fresh) in
    let fits = inv.fits start.columns c.requires.fits in
    let live : IsLive out → IsLive given = c.in-Ok-true.ensures.done c.in-Ok-true.field-0-test in
    let done = turning.turned (g.S.ChunkStep.columns first) (g.S.ChunkStep.columns step) (g.S.ChunkStep.blocks step) (g.S.ChunkStep.nodes step)
    (g.S.ChunkStep.blocks first) (g.S.ChunkStep.nodes first) (g.S.ChunkStep.gives step) (g.S.ChunkStep.gives first) (g.S.ChunkStep.ahead first)
    (g.S.ChunkStep.ahead step) (g.S.ChunkStep.ahead last) (g.S.ChunkStep.takes last start.columns n.ahead) (g.S.ChunkStep.rests last) start m n
    c.next-code.new.pass c.turn.new.pass out given (inv.same fresh) (call.keeps.ending ∙ ran.keeps.ending) inv.columns inv.own_blocks inv.own_nodes inv.besides
    got ended
    (λ here. c.in-Ok-true.ensures.pushed here start.columns (got here).rows n.ahead fits
    (subst (g.S.ChunkStep.takes step start.columns) (got here).ahead (inv.takes fresh)) (next here))
    (λ gone. c.in-Ok-true.ensures.finished gone start.columns fits columns
    (subst (g.S.ChunkStep.takes step start.columns) (ended gone).before_end (inv.takes fresh)))
    live in
    let back : given ≡ Released → out ≡ Released = λ left. turning.by-tree out (λ gone. gone) (λ here. absurd (subst IsLive left (live here))) in
    record {
      rests = done.rests;
      keeps = kept-both start m n ran.keeps call.keeps;
      columns = c.in-Ok-true.ensures.columns ∙ inv.columns;
      fits = λ before h. c.in-Ok-true.ensures.fits before (inv.fits before h);
      besides = λ rows t h. inv.besides rows t (c.in-Ok-true.ensures.besides rows t h);
      code = codes.zero_code;
      tells = subst (λ z. Tells z n.said) works call.tells;
      refuses = λ no. absurd (no refl);
      released = tt;
      units = c.in-Ok-true.ensures.units ∙ call.units ∙ inv.units;
      failure = call.failure;
      row_fault = subst (λ z. IsRowFault z n.ending n.fault) works call.row_fault;
      no_failure = tt;
      repeats = Ran-works start m n c.next-code.result out _ _ _ c.args.pass.now c.chunks.pass c.next-code.new.pass ran called works (pos 0) _
          c.turn.new.pass;
      answers = λ _. turning.done-answers (g.S.ChunkStep.columns first) (g.S.ChunkStep.columns last) (g.S.ChunkStep.blocks first)
          (g.S.ChunkStep.nodes first) (g.S.ChunkStep.gives first) (g.S.ChunkStep.ahead first) (g.S.ChunkStep.ahead last) (raw_link c.args.up.now)
          (raw_link c.next-code.new.self) start n (g.S.ChunkStep.rests last)
          c.next-code.new.pass c.turn.new.pass given done;
      gives = λ _ _ here. turning.done-gives _ _ _ (g.S.ChunkStep.gives first) (g.S.ChunkStep.ahead first start.ending start.ahead) _ _ _ _ _ given done here;
      counts = λ at _. turning.done-counts _ (g.S.ChunkStep.blocks first) (g.S.ChunkStep.nodes first) (g.S.ChunkStep.blocks last)
          (g.S.ChunkStep.nodes last) (g.S.ChunkStep.gives first) (g.S.ChunkStep.ahead first start.ending start.ahead)
          (g.S.ChunkStep.ahead last n.ending n.ahead) start.ending (g.S.ChunkStep.rests last) c.args.pass.now c.next-code.new.pass c.turn.new.pass given
          start.due n.due
          (Ran-counts start m n out given _ _ _ _ c.next-code.new.pass c.next-code.new.pass (ran.went at)
          (call.counts (Ran-still start m _ _ _ _ ran at) (had_memory c.next-code.result works)) refl refl back)
          done (λ rows. c.in-Ok-true.ensures.own_blocks rows ∙ inv.own_blocks rows) (λ rows. c.in-Ok-true.ensures.own_nodes rows ∙ inv.own_nodes rows);
      shows = λ at.
          let went = ran.went at in
          let x = call.shows (Ran-still start m _ _ _ _ ran at) in
          let goes = inv.goes at in
          let had = had_memory c.next-code.result works in
          record {
            shows = Ran-shows start m n c.next-code.result (pos 0) out given _ _ _ _ _ went x.shows (λ _. had) (λ _. back);
            order = record {
              made = Ran-made start m n c.next-code.result out _ _ _ _ _ went x;
              goes_on = λ _. Ran-goes start m n c.next-code.result out _ _ _ _ _ went x had;
              gives = λ _ tables all.
                  let leaves = Ran-leaves start m n c.next-code.result out _ _ _ _ _ went x had (raw_link c.args.up.now) in
                  let own = rows-own c.args.up.now.link (g.U.ArrayStream.state c.args.up.now.inner) in
                  let same = call.link ∙ inv.link in
                  let then = own-rows c.next-code.new.self.link c.args.up.now.link (g.U.ArrayStream.state c.next-code.new.self.inner) same in
                  turning.by-tree out
                  (λ gone.
                  let end = ended gone in
                  turning.gives-end start n (raw_link c.args.up.now) (raw_link c.next-code.new.self) (g.S.ChunkStep.ahead first start.ending)
                  (g.S.ChunkStep.ahead last n.ending) (went.shown ++ x.shows.shown) tables same leaves own then m goes.pulled goes.all end.before_end
                  end.behind_end all)
                  (λ here.
                  let some = done.something (live here) in
                  turning.gives-next start n (raw_link c.args.up.now) (raw_link c.next-code.new.self) (g.S.ChunkStep.ahead first start.ending)
                  (g.S.ChunkStep.ahead last n.ending) (went.shown ++ x.shows.shown) tables same leaves own then m
                  (g.S.ChunkStep.takes step start.columns) (g.S.ChunkStep.ahead step start.ending) (got here).rows some.rows goes (got here).ahead
                  (append_cancel_right tables (some.rows ∷ []) (g.S.ChunkStep.ahead last n.ending n.ahead) (sym all ∙ some.ahead start.ending))
                  (λ more rest e takes.
                  let other = (c.in-Ok-true.ensures.pushed here start.columns (got here).rows more fits takes
                  (turning.next-first start.columns (got here).rows n.ahead more rest (typed_of c.typed.result.now) out e (next here))).something
                  (live here) in
                  let same_rows : other.rows ≡ some.rows = sym other.is.rows_are
                  ∙ ap (λ (cs : List ColumnType). rows_of (type_of_columns (map column_of cs)) given) inv.columns ∙ some.is.rows_are in
                  other.ahead start.ending ∙ ap (λ (r : List Row). r ∷ g.S.ChunkStep.ahead last start.ending more) same_rows
                  ∙ ap (λ (o : Option RowFault). some.rows ∷ g.S.ChunkStep.ahead last o more) (sym (call.keeps.ending ∙ ran.keeps.ending))));
            };
          };
    }

-- ---- nothing is given for the chunk
pub chunks-smaller : goal.chunks-smaller
chunks-smaller g c =
    let start = meaning g.U.ArrayStream.state c.args.up.now in
    let m = meaning g.U.ArrayStream.state c.chunks.up in
    let n = meaning g.U.ArrayStream.state c.next-code.new.self in
    let call = c.next-code.ensures in
    let works = turning.zero_code c.next-code.result call.code c.if-code-ne0.false in
    let out = c.next-code.new.out in
    let seen = g.T.Tap.seen c.chunks.tap in
    let later = g.T.Tap.seen c.next-code.new.tap in
    let called : Called m n c.next-code.result out seen later c.chunks.pass c.next-code.new.pass =
    record { keeps = call.keeps; tells = call.tells; failure = call.failure; repeats = call.repeats; counts = call.counts; shows = call.shows } in
    let on = c.in-Ok-false.ensures.goes_on c.in-Ok-false.field-0-test in
    let got = turning.got start m n c.next-code.result out _ seen later c.args.pass.now c.chunks.pass c.next-code.new.pass c.chunks.invariant.ran called works
    c.requires.lawful call.answers on.0 in
    turning.shorter m.ahead n.ahead got.rows got.ahead

pub chunks-preserved : goal.chunks-preserved
chunks-preserved g c =
    let start = meaning g.U.ArrayStream.state c.args.up.now in
    let m = meaning g.U.ArrayStream.state c.chunks.up in
    let n = meaning g.U.ArrayStream.state c.next-code.new.self in
    let inv = c.chunks.invariant in
    let ran = inv.ran in
    let call = c.next-code.ensures in
    let works = turning.zero_code c.next-code.result call.code c.if-code-ne0.false in
    let out = c.next-code.new.out in
    let step = c.chunks.step in
    let last = c.turn.new.step in
    let seen = g.T.Tap.seen c.chunks.tap in
    let later = g.T.Tap.seen c.next-code.new.tap in
    let called : Called m n c.next-code.result out seen later c.chunks.pass c.next-code.new.pass =
    record { keeps = call.keeps; tells = call.tells; failure = call.failure; repeats = call.repeats; counts = call.counts; shows = call.shows } in
    let fresh = turning.first-fresh start m n c.next-code.result out _ seen later c.args.pass.now c.chunks.pass c.next-code.new.pass ran called works
    c.requires.lawful call.answers in
    let on = c.in-Ok-false.ensures.goes_on c.in-Ok-false.field-0-test in
    let got = turning.got start m n c.next-code.result out _ seen later c.args.pass.now c.chunks.pass c.next-code.new.pass ran called works
    c.requires.lawful call.answers on.0 in
    let typed = c.typed.ensures.lawful (subst IsTrue (sym (call.keeps.lawful ∙ ran.keeps.lawful)) c.requires.lawful) in
    let next = turning.is-next start m n c.next-code.result out _ seen later c.args.pass.now c.chunks.pass c.next-code.new.pass ran called works
    c.requires.lawful call.answers (typed_of c.typed.result.now) (c.typed.ensures.kinds ∙ typed)
    (subst TypedOk (sym c.typed.ensures.kinds) c.typed.ensures.types) (c.lawful_facts.ensures.columns c.requires.lawful) (inv.tables fresh) on.0 in
    let taken = (c.in-Ok-false.ensures.pushed on.0 start.columns got.rows n.ahead (inv.fits start.columns c.requires.fits)
    (subst (g.S.ChunkStep.takes step start.columns) got.ahead (inv.takes fresh)) next).nothing on.1 in
    record {
      ran = Ran-next start m n c.next-code.result out _ _ _ c.args.pass.now c.chunks.pass c.next-code.new.pass ran called works c.turn.new.pass
          c.requires.lawful taken.blocks taken.nodes;
      same = λ at. inv.same at ∙ ap (g.S.ChunkStep.ahead step start.ending) got.ahead ∙ taken.ahead start.ending;
      takes = λ _. taken.takes;
      tables = λ at. turning.lawful-rest start.columns m.ahead got.rows n.ahead got.ahead (inv.tables at);
      link = call.link ∙ inv.link;
      goes = λ at. turning.Goes-next (g.S.ChunkStep.takes step start.columns) (g.S.ChunkStep.takes last start.columns)
          (g.S.ChunkStep.ahead c.args.step.now start.ending) (g.S.ChunkStep.ahead step start.ending) (g.S.ChunkStep.ahead last start.ending) start.ahead m.ahead
          n.ahead got.rows (inv.goes at) got.ahead
          (λ some rest e takes.
          let here = (c.in-Ok-false.ensures.pushed on.0 start.columns got.rows some (inv.fits start.columns c.requires.fits) takes
          (turning.next-first start.columns got.rows n.ahead some rest (typed_of c.typed.result.now) out e next)).nothing on.1 in
          (here.takes, here.ahead start.ending));
      columns = c.in-Ok-false.ensures.columns ∙ inv.columns;
      fits = λ before h. c.in-Ok-false.ensures.fits before (inv.fits before h);
      own_blocks = λ rows. c.in-Ok-false.ensures.own_blocks rows ∙ inv.own_blocks rows;
      own_nodes = λ rows. c.in-Ok-false.ensures.own_nodes rows ∙ inv.own_nodes rows;
      besides = λ rows t h. inv.besides rows t (c.in-Ok-false.ensures.besides rows t h);
      units = turning.none-left _ _ _ _ _ _ c.in-Ok-false.ensures.units on.1 call.units inv.units;
      chunk = on.1;
    }

-- ---- out of memory
pub returns-in-Err : goal.returns-in-Err
returns-in-Err g c =
    let start = meaning g.U.ArrayStream.state c.args.up.now in
    let m = meaning g.U.ArrayStream.state c.chunks.up in
    let n = meaning g.U.ArrayStream.state c.next-code.new.self in
    let inv = c.chunks.invariant in
    let ran = inv.ran in
    let call = c.next-code.ensures in
    let works = turning.zero_code c.next-code.result call.code c.if-code-ne0.false in
    let out = c.next-code.new.out in
    let seen = g.T.Tap.seen c.chunks.tap in
    let later = g.T.Tap.seen c.next-code.new.tap in
    let called : Called m n c.next-code.result out seen later c.chunks.pass c.next-code.new.pass =
    record { keeps = call.keeps; tells = call.tells; failure = call.failure; repeats = call.repeats; counts = call.counts; shows = call.shows } in
    let fresh = turning.first-fresh start m n c.next-code.result out _ seen later c.args.pass.now c.chunks.pass c.next-code.new.pass ran called works
    c.requires.lawful call.answers in
    record {
      rests = c.in-Err.ensures.rests;
      keeps = kept-both start m n ran.keeps call.keeps;
      columns = c.in-Err.ensures.columns ∙ inv.columns;
      fits = λ before h. c.in-Err.ensures.fits before (inv.fits before h);
      besides = λ rows t h. inv.besides rows t (c.in-Err.ensures.besides rows t h);
      code = tt;
      tells = tt;
      refuses = tt;
      released = c.in-Err.ensures.released;
      units = c.in-Err.ensures.units ∙ call.units ∙ inv.units;
      failure = tt;
      row_fault = tt;
      no_failure = fresh.no_failure;
      repeats = tt;
      answers = λ _. tt;
      gives = λ _. tt;
      counts = λ _. tt;
      shows = λ at.
          let x = call.shows (Ran-still start m _ _ _ _ ran at) in
          record {
            shows = Ran-shows start m n c.next-code.result enomem out c.turn.new.out _ _ _ _ _ (ran.went at) x.shows (λ had. absurd (had refl))
                (λ had. absurd (had refl));
            order = record {
              made = Ran-made start m n c.next-code.result out _ _ _ _ _ (ran.went at) x;
              goes_on = λ had. absurd (had refl);
              gives = λ had. absurd (had refl);
            };
          };
    }
