use Rattle.std.proofs.Common.{codes, refl}
use Rattle.clap.specs.Words.{found_of, rows_of}
use Rattle.fan_out.specs.promise.Counts.{most_workers}
use Rattle.run_model.specs.promise.Words.{default_batch, default_workers, most_ahead, most_batch, most_rows}
use Rattle.run_model.proofs.Rows.{choice_is, given_text, no_ahead, no_batch, no_rows, no_workers, number_is, options_are, refused-without}
use Rattle.run_model.proofs.Taken.{asked_errs, asked_options, asked_ruled}
use Rattle.run_model.proofs.words.options.Goals as goal

pub returns-in_default-clause-refused : goal.returns-in_default-clause-refused
returns-in_default-clause-refused c =
    let found = found_of c.args.matches.now in
    refused-without _ c.refused.result c.refused.ensures
    (no_batch (rows_of found)
    (number_is default_batch most_batch (codes "batch") found c.get_str.result c.number_given.result _ c.get_str.ensures c.number_given.ensures
    c.in_default.is))

pub returns-in_default-number_given-clause-refused : goal.returns-in_default-number_given-clause-refused
returns-in_default-number_given-clause-refused c =
    let found = found_of c.args.matches.now in
    refused-without _ c.refused-in_default-number_given.result c.refused-in_default-number_given.ensures
    (no_workers (rows_of found) c.in-Some.batch
    (number_is default_batch most_batch (codes "batch") found c.get_str.result c.number_given.result _ c.get_str.ensures c.number_given.ensures
    c.in-Some.is)
    (number_is default_workers most_workers (codes "workers") found c.get_str-2.result c.number_given-2.result _ c.get_str-2.ensures c.number_given-2.ensures
    c.in_default-number_given.is))

pub returns-in_default-choice_given-clause-refused : goal.returns-in_default-choice_given-clause-refused
returns-in_default-choice_given-clause-refused c =
    let found = found_of c.args.matches.now in
    refused-without _ c.refused-in_default-choice_given.result c.refused-in_default-choice_given.ensures
    (no_rows (rows_of found) c.in-Some.batch
    (number_is default_batch most_batch (codes "batch") found c.get_str.result c.number_given.result _ c.get_str.ensures c.number_given.ensures
    c.in-Some.is)
    c.in-Some-number_given.workers
    (number_is default_workers most_workers (codes "workers") found c.get_str-2.result c.number_given-2.result _ c.get_str-2.ensures c.number_given-2.ensures
    c.in-Some-number_given.is)
    (choice_is most_rows (codes "selftest") found c.get_str-3.result c.choice_given.result _ c.get_str-3.ensures c.choice_given.ensures
    c.in_default-choice_given.is))

pub returns-in_default-choice_given-2-clause-refused : goal.returns-in_default-choice_given-2-clause-refused
returns-in_default-choice_given-2-clause-refused c =
    let found = found_of c.args.matches.now in
    refused-without _ c.refused-in_default-choice_given-2.result c.refused-in_default-choice_given-2.ensures
    (no_ahead (rows_of found) c.in-Some.batch
    (number_is default_batch most_batch (codes "batch") found c.get_str.result c.number_given.result _ c.get_str.ensures c.number_given.ensures
    c.in-Some.is)
    c.in-Some-number_given.workers
    (number_is default_workers most_workers (codes "workers") found c.get_str-2.result c.number_given-2.result _ c.get_str-2.ensures c.number_given-2.ensures
    c.in-Some-number_given.is)
    c.in-Some-choice_given.selftest
    (choice_is most_rows (codes "selftest") found c.get_str-3.result c.choice_given.result _ c.get_str-3.ensures c.choice_given.ensures
    c.in-Some-choice_given.is)
    (choice_is most_ahead (codes "ahead") found c.get_str-4.result c.choice_given-2.result _ c.get_str-4.ensures c.choice_given-2.ensures
    c.in_default-choice_given-2.is))

pub returns-clause-taken : goal.returns-clause-taken
returns-clause-taken c =
    let found = found_of c.args.matches.now in
    asked_ruled _ _ c.fitting.result
    (options_are (rows_of found) c.in-Some.batch
    (number_is default_batch most_batch (codes "batch") found c.get_str.result c.number_given.result _ c.get_str.ensures c.number_given.ensures
    c.in-Some.is)
    c.in-Some-number_given.workers
    (number_is default_workers most_workers (codes "workers") found c.get_str-2.result c.number_given-2.result _ c.get_str-2.ensures c.number_given-2.ensures
    c.in-Some-number_given.is)
    c.in-Some-choice_given.selftest
    (choice_is most_rows (codes "selftest") found c.get_str-3.result c.choice_given.result _ c.get_str-3.ensures c.choice_given.ensures
    c.in-Some-choice_given.is)
    c.in-Some-choice_given-2.ahead
    (choice_is most_ahead (codes "ahead") found c.get_str-4.result c.choice_given-2.result _ c.get_str-4.ensures c.choice_given-2.ensures
    c.in-Some-choice_given-2.is)
    _ (given_text found (codes "schema") c.get_str-5.result c.get_str-5.ensures) refl refl c.flag.ensures c.flag-2.ensures refl
    (given_text found (codes "null") c.get_str-6.result c.get_str-6.ensures) refl c.in-Ok.ensures)
    c.fitting.ensures.taken

pub returns-clause-asked : goal.returns-clause-asked
returns-clause-asked c =
    let found = found_of c.args.matches.now in
    asked_options _ _ c.fitting.result
    (options_are (rows_of found) c.in-Some.batch
    (number_is default_batch most_batch (codes "batch") found c.get_str.result c.number_given.result _ c.get_str.ensures c.number_given.ensures
    c.in-Some.is)
    c.in-Some-number_given.workers
    (number_is default_workers most_workers (codes "workers") found c.get_str-2.result c.number_given-2.result _ c.get_str-2.ensures c.number_given-2.ensures
    c.in-Some-number_given.is)
    c.in-Some-choice_given.selftest
    (choice_is most_rows (codes "selftest") found c.get_str-3.result c.choice_given.result _ c.get_str-3.ensures c.choice_given.ensures
    c.in-Some-choice_given.is)
    c.in-Some-choice_given-2.ahead
    (choice_is most_ahead (codes "ahead") found c.get_str-4.result c.choice_given-2.result _ c.get_str-4.ensures c.choice_given-2.ensures
    c.in-Some-choice_given-2.is)
    _ (given_text found (codes "schema") c.get_str-5.result c.get_str-5.ensures) refl refl c.flag.ensures c.flag-2.ensures refl
    (given_text found (codes "null") c.get_str-6.result c.get_str-6.ensures) refl c.in-Ok.ensures)
    c.fitting.ensures.asked

pub returns-clause-refused : goal.returns-clause-refused
returns-clause-refused c =
    let found = found_of c.args.matches.now in
    asked_errs _ _ c.fitting.result
    (options_are (rows_of found) c.in-Some.batch
    (number_is default_batch most_batch (codes "batch") found c.get_str.result c.number_given.result _ c.get_str.ensures c.number_given.ensures
    c.in-Some.is)
    c.in-Some-number_given.workers
    (number_is default_workers most_workers (codes "workers") found c.get_str-2.result c.number_given-2.result _ c.get_str-2.ensures c.number_given-2.ensures
    c.in-Some-number_given.is)
    c.in-Some-choice_given.selftest
    (choice_is most_rows (codes "selftest") found c.get_str-3.result c.choice_given.result _ c.get_str-3.ensures c.choice_given.ensures
    c.in-Some-choice_given.is)
    c.in-Some-choice_given-2.ahead
    (choice_is most_ahead (codes "ahead") found c.get_str-4.result c.choice_given-2.result _ c.get_str-4.ensures c.choice_given-2.ensures
    c.in-Some-choice_given-2.is)
    _ (given_text found (codes "schema") c.get_str-5.result c.get_str-5.ensures) refl refl c.flag.ensures c.flag-2.ensures refl
    (given_text found (codes "null") c.get_str-6.result c.get_str-6.ensures) refl c.in-Ok.ensures)
    c.fitting.ensures.refused
