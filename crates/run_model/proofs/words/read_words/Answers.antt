use Rattle.std.proofs.Common.{subst}
use Rattle.clap.specs.Words.{app_of}
use Rattle.clap.specs.declared.error.kind.ErrorKind.{ErrorKind}
use Rattle.run_model.specs.promise.Words.{texts_of}
use Rattle.run_model.specs.Words.{ErrorOf}
use Rattle.run_model.proofs.Taken.{asked_errs, asked_options, asked_ruled, refused_words, taken_words}
use Rattle.run_model.proofs.words.read_words.Goals as goal

pub returns-in-Ok-try_get_matches_from : goal.returns-in-Ok-try_get_matches_from
returns-in-Ok-try_get_matches_from c =
    let parse = c.try_get_matches_from in
    let taken = taken_words (app_of c.in-Ok.command) (texts_of c.args.words.now) parse.result c.in-Ok-try_get_matches_from.matches c.in-Ok.ensures
    c.in-Ok-try_get_matches_from.is parse.ensures.kinds parse.ensures.matches in
    record {
      taken = asked_ruled _ _ c.options.result taken c.options.ensures.taken;
      asked = asked_options _ _ c.options.result taken c.options.ensures.asked;
      refused = asked_errs _ _ c.options.result taken c.options.ensures.refused;
      batch = c.options.ensures.batch;
      workers = c.options.ensures.workers;
      rows = c.options.ensures.rows;
      ahead = c.options.ensures.ahead;
      few = c.options.ensures.few;
      fits = c.options.ensures.fits;
    }

pub returns-in-Err-try_get_matches_from : goal.returns-in-Err-try_get_matches_from
returns-in-Err-try_get_matches_from c =
    let parse = c.try_get_matches_from in
    record {
      taken = tt;
      asked = tt;
      refused =
          refused_words (app_of c.in-Ok.command) (texts_of c.args.words.now) parse.result c.in-Err-try_get_matches_from.error c.error_by.result c.in-Ok.ensures
          c.in-Err-try_get_matches_from.is parse.ensures.passes
          (subst (λ (k : ErrorKind). ErrorOf k c.error_by.result) c.kind.ensures c.error_by.ensures);
      batch = tt;
      workers = tt;
      rows = tt;
      ahead = tt;
      few = tt;
      fits = tt;
    }
