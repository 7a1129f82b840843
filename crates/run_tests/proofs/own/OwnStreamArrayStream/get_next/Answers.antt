use Rattle.std.proofs.Common.{◌≡◌, ◌∙◌, arith, of_z, refl, to_z, w32}
use Rattle.std.proofs.lemmas.Int.{ints}
use Rattle.stream_face.proofs.Producers.{shows-no-link}
use Rattle.run_tests.proofs.Fitting.{fit}
use Rattle.run_tests.proofs.OwnCalls.{given, only-record, refuses}
use Rattle.run_tests.specs.Own.{own_values}
use Rattle.run_tests.proofs.own.OwnStreamArrayStream.get_next.Goals as goal

pub returns-in-Some-clause-shows : goal.returns-in-Some-clause-shows
returns-in-Some-clause-shows g c = λ _. shows-no-link _ _ _ _ _ (λ _. refl) refl refl refl (λ _. (refl, refl))

pub returns-in-Ok-clause-answers : goal.returns-in-Ok-clause-answers
returns-in-Ok-clause-answers g c = λ fresh.
    let stream = c.args.self.now in
    let chunk = c.fitting_values_make_a_lawful_chunk.ensures.chunk 3 own_values fit (omega arith) (omega arith) in
    given stream.failure stream.said stream.released stream.bad stream.given c.next_chunk.new.out chunk c.in-Ok.ensures.next

pub returns-in-Ok-clause-counts : goal.returns-in-Ok-clause-counts
returns-in-Ok-clause-counts g c = λ _ _. c.in-Ok.ensures.counts

pub returns-in-Ok-clause-shows : goal.returns-in-Ok-clause-shows
returns-in-Ok-clause-shows g c = λ _. shows-no-link _ _ _ _ _ (λ _. refl) refl refl refl (λ _. (refl, refl))

pub returns-in-Err-clause-answers : goal.returns-in-Err-clause-answers
returns-in-Err-clause-answers g c = λ fresh.
    let stream = c.args.self.now in
    let code : to_z w32 (of_z w32 c.code-in-Err.result) ≡ c.code-in-Err.result = omega (arith, ints) in
    refuses stream.failure stream.said stream.released stream.bad stream.given c.in-Err.refused _ c.next_chunk.new.out c.in-Err.ensures.why
    c.in-Err.ensures.refuses (code ∙ c.code-in-Err.ensures)

pub returns-in-Err-clause-counts : goal.returns-in-Err-clause-counts
returns-in-Err-clause-counts g c = λ _ had.
    let code : to_z w32 (of_z w32 c.code-in-Err.result) ≡ c.code-in-Err.result = omega (arith, ints) in
    c.in-Err.ensures.refused_counts (only-record c.in-Err.refused _ (code ∙ c.code-in-Err.ensures) had)

pub returns-in-Err-clause-shows : goal.returns-in-Err-clause-shows
returns-in-Err-clause-shows g c = λ _. shows-no-link _ _ _ _ _ (λ _. refl) refl refl refl (λ _. (refl, refl))
