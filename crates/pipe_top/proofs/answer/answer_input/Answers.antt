use Rattle.csv_model.specs.promise.Reading.{records_of}
use Rattle.std.proofs.Common.{◌∙◌, sym}
use Rattle.stage_chain.proofs.Chaining.{shows-nothing, whatever}
use Rattle.pipe_top.proofs.Carried.{at-err, the-error, untrue}
use Rattle.pipe_top.proofs.answer.answer_input.Goals as goal

-- ---- without a thread
pub returns-in_err-source-in-None-clause-shows_some : goal.returns-in_err-source-in-None-clause-shows_some
returns-in_err-source-in-None-clause-shows_some g c = whatever c.from_residual.result (shows-nothing _ _ _)

pub returns-in_err-source-in-None-clause-behind : goal.returns-in_err-source-in-None-clause-behind
returns-in_err-source-in-None-clause-behind g c =
    let same = the-error c.from_residual.result c.in_err-source-in-None.field-0.0 c.from_residual.ensures.1 in
    at-err _ _ _ same (λ behind. absurd (untrue (sym c.in_err-source-in-None.ensures.no_record ∙ behind)))

pub answer_begun-requires-clause-begun : goal.answer_begun-requires-clause-begun
answer_begun-requires-clause-begun g c = λ _ _. (records_of c.args.bytes.items, c.in_ok-source-in-None.ensures.begun)

pub returns-in_ok-source-in-None : goal.returns-in_ok-source-in-None
returns-in_ok-source-in-None g c =
    let records = records_of c.args.bytes.items in
    let begun = c.in_ok-source-in-None.ensures.begun in
    record {
      text = c.answer_begun.ensures.text records begun;
      fault = c.answer_begun.ensures.fault records begun;
      units = c.answer_begun.ensures.units;
      counts = c.answer_begun.ensures.counts records begun;
      shows = c.answer_begun.ensures.shows records begun;
      shows_some = c.answer_begun.ensures.shows_some records begun;
      behind = c.answer_begun.ensures.behind records begun;
    }

-- ---- with one that reads ahead
pub returns-in_err-source-in-Some-clause-shows_some : goal.returns-in_err-source-in-Some-clause-shows_some
returns-in_err-source-in-Some-clause-shows_some g c = whatever c.from_residual-in_err-source-in-Some.result (shows-nothing _ _ _)

pub returns-in_err-source-in-Some-clause-behind : goal.returns-in_err-source-in-Some-clause-behind
returns-in_err-source-in-Some-clause-behind g c =
    let same = the-error c.from_residual-in_err-source-in-Some.result c.in_err-source-in-Some.field-0.0 c.from_residual-in_err-source-in-Some.ensures.1 in
    at-err _ _ _ same (λ behind. absurd (untrue (sym c.in_err-source-in-Some.ensures.no_record ∙ behind)))

pub answer_begun-requires-in-Some-clause-begun : goal.answer_begun-requires-in-Some-clause-begun
answer_begun-requires-in-Some-clause-begun g c = λ _ _. (records_of c.args.bytes.items, c.in_ok-source-in-Some.ensures.begun)

pub returns-in_ok-source-in-Some : goal.returns-in_ok-source-in-Some
returns-in_ok-source-in-Some g c =
    let records = records_of c.args.bytes.items in
    let begun = c.in_ok-source-in-Some.ensures.begun in
    record {
      text = c.answer_begun-in-Some.ensures.text records begun;
      fault = c.answer_begun-in-Some.ensures.fault records begun;
      units = c.answer_begun-in-Some.ensures.units;
      counts = c.answer_begun-in-Some.ensures.counts records begun;
      shows = c.answer_begun-in-Some.ensures.shows records begun;
      shows_some = c.answer_begun-in-Some.ensures.shows_some records begun;
      behind = c.answer_begun-in-Some.ensures.behind records begun;
    }
