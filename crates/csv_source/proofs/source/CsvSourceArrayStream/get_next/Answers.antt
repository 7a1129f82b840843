use Rattle.std.proofs.lemmas.Grind.{common_steps}
use Rattle.std.proofs.Common.{◌≡◌, ◌<◌, ◌^◌, ◌∙◌, ℕ, arith, None, Some, [], ap, inl, inr, refl, subst, sym, to_z, of_z, true≢false, w32}
use Rattle.std.proofs.lemmas.Int.{ints}
use Rattle.csv_model.specs.promise.Batches.{Chunks}
use Rattle.csv_read.specs.BatchesLeft.{batches_left, columns_in}
use Rattle.csv_source.specs.NextChunks.{IsNextChunk}
use Rattle.csv_source.specs.Refusals.{row_of}
use Rattle.csv_source.specs.SourceStreams.{no_batches}
use Rattle.csv_source.proofs.ChunkReplies.{no-refusal, refused-answers}
use Rattle.csv_source.proofs.ChunkStreams.{refused-counts}
use Rattle.csv_source.proofs.Replies.{none-left}
use Rattle.csv_source.proofs.Streams.{chunk-counts, same-counts}
use Rattle.data_types.specs.declared.row_fault.RowFault.{RowFault}
use Rattle.stream_face.proofs.Producers.{given-answers, live-or-released, shows-no-link}
use Rattle.csv_source.proofs.source.CsvSourceArrayStream.get_next.Goals as goal

pub returns-in-Ok : goal.returns-in-Ok
returns-in-Ok g c =
    let source = c.args.self.now in
    let new = c.next_chunk.new.batches in
    let out = c.next_chunk.new.out in
    let same : c.from.result ≡ source.batch = c.from.ensures in
    let after = c.next_chunk.new.pass in
    let blocks : c.args.pass.now.blocks < 2 ^ 64 = omega (arith, c.args.pass.now.most_blocks) in
    let nodes : c.args.pass.now.nodes < 2 ^ 64 = omega (arith, c.args.pass.now.most_nodes) in
    record {
      answers = λ fresh. given-answers _ _ out
          (λ live.
          let next =
          subst (λ (n : ℕ). IsNextChunk n out source.batches new c.args.pass.now c.next_chunk.new.pass) same (c.in-Ok.ensures.chunk live) in
          (next.rows, ap (λ (b : Chunks). b.chunks) next.ahead, next.is))
          (λ gone.
          let ends = subst (λ (n : ℕ). batches_left n source.batches ≡ no_batches None) same (c.in-Ok.ensures.end gone) in
          let stays = subst (λ (n : ℕ). batches_left n new ≡ batches_left n source.batches) same (c.in-Ok.ensures.end_stays gone) in (
            ap (λ (b : Chunks). b.chunks) ends,
            ap (λ (b : Chunks). b.chunks) (stays ∙ ends),
            sym (source.end (no-refusal source.refused fresh.no_failure)) ∙ ap (λ (b : Chunks). b.ending) ends,
          ));
      counts = λ _ _. elim (live-or-released out) [
        | inl live ↦
            chunk-counts source.batch out out source.batches new c.args.pass.now after
            (subst (λ (n : ℕ). IsNextChunk n out source.batches new c.args.pass.now after) same (c.in-Ok.ensures.chunk live)) refl
            c.next_chunk.ensures.columns
        | inr gone ↦
            same-counts source.batch source.batches new c.args.pass.now after out
            (subst (λ (n : ℕ). batches_left n source.batches ≡ no_batches None) same (c.in-Ok.ensures.end gone))
            (subst (λ (n : ℕ). batches_left n new ≡ batches_left n source.batches) same (c.in-Ok.ensures.end_stays gone))
            c.next_chunk.ensures.columns (c.in-Ok.ensures.end_counts gone) blocks nodes
      ];
      keeps = grind (arith, common_steps);
      code = grind (arith, common_steps);
      tells = refl;
      refuses = λ no. absurd (no refl);
      told = λ _. tt;
      gave = λ other _. absurd (true≢false other);
      units = c.in-Ok.ensures.units;
      failure = grind (arith, common_steps);
      row_fault = grind (arith, common_steps);
      repeats = grind (arith, common_steps);
      shows = λ _. shows-no-link _ _ _ _ _ (λ _. refl) refl refl refl (λ _. (refl, refl));
    }

pub returns-in-Err : goal.returns-in-Err
returns-in-Err g c =
    let source = c.args.self.now in
    let same : c.from.result ≡ source.batch = c.from.ensures in
    let code : to_z w32 (of_z w32 c.code-code-in-Err.result) ≡ c.code-code-in-Err.result = omega (arith, ints) in
    let left : (row : RowFault) → row_of c.in-Err.refused ≡ Some row → batches_left source.batch source.batches ≡ no_batches (Some row) =
    λ row is. subst (λ (n : ℕ). batches_left n source.batches ≡ no_batches (Some row)) same (c.in-Err.ensures.fault row is).0 in
    let none : (row : RowFault) → row_of c.in-Err.refused ≡ Some row
    → ((batches_left source.batch source.batches).chunks ≡ []) × ((batches_left source.batch c.next_chunk.new.batches).chunks ≡ []) =
    λ row is. (ap (λ (b : Chunks). b.chunks) (left row is), none-left source.batch c.next_chunk.new.batches (c.in-Err.ensures.fault row is).1) in
    record {
      answers = λ fresh. refused-answers _ _ c.in-Err.refused _ _ c.in-Err.ensures.refuses (code ∙ c.code-code-in-Err.ensures) refl refl (λ row is. (
        (none row is).0,
        (none row is).1,
        sym (source.end (no-refusal source.refused fresh.no_failure)) ∙ ap (λ (b : Chunks). b.ending) (left row is),
      ));
      keeps = grind (arith, common_steps);
      code = grind (arith, common_steps);
      tells = grind (arith, common_steps);
      refuses = λ _. c.in-Err.ensures.refuses;
      told = λ _. tt;
      gave = λ other _. absurd (true≢false other);
      units = grind (arith, common_steps);
      failure = refl;
      row_fault = grind (arith, common_steps);
      repeats = grind (arith, common_steps);
      counts = λ _ had. refused-counts (columns_in source.batches) (columns_in c.next_chunk.new.batches)
          (batches_left source.batch source.batches).chunks (batches_left source.batch c.next_chunk.new.batches).chunks c.in-Err.refused _ c.args.pass.now c.next_chunk.new.pass c.next_chunk.new.out
          (code ∙ c.code-code-in-Err.ensures) had none c.in-Err.ensures.fault_counts (omega (arith, c.args.pass.now.most_blocks))
          (omega (arith, c.args.pass.now.most_nodes));
      shows = λ _. shows-no-link _ _ _ _ _ (λ _. refl) refl refl refl (λ _. (refl, refl));
    }

pub returns-in-Some : goal.returns-in-Some
returns-in-Some g c =
    record {
      keeps = grind (arith, common_steps);
      code = grind (arith, common_steps);
      tells = grind (arith, common_steps);
      refuses = λ _. c.requires.empty;
      told = λ _. tt;
      gave = λ other _. absurd (true≢false other);
      units = grind (arith, common_steps);
      failure = grind (arith, common_steps);
      row_fault = grind (arith, common_steps);
      repeats = grind (arith, common_steps);
      answers = grind (arith, common_steps);
      counts = grind (arith, common_steps);
      shows = λ _. shows-no-link _ _ _ _ _ (λ _. refl) refl refl refl (λ _. (refl, refl));
    }
