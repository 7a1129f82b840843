use Rattle.std.proofs.Common.{◌≡◌, ◌∙◌, ◌≤◌, ◌⊎◌, true, length, ap, refl, rules, subst, sym, take}
use Rattle.std.specs.Io.KnownBytes.{Appends}
use Rattle.edge_io.specs.promise.Edge.{Rose}
use Rattle.edge_io.specs.Edge.{taken_by}
use Rattle.run_model.specs.promise.Answer.{Fault, cause_of}
use Rattle.run_model.specs.Outcomes.{asked_of, is_early, task_of}
use Rattle.run_model.specs.declared.fault.RunFault.TheVariants as run
use Rattle.run_model.specs.promise.RunAnswer.{IsAnswerTo, input_by}
use Rattle.pipe_top.proofs.Carried.{all-asked, at-err, at-ok, early-not_behind, early-not_reading, early-not_writing, early-read, if-some}
use Rattle.pipe_top.proofs.Carried.{keeps-same, late, late-not_early, late-not_writing, late-read, no-write}
use Rattle.pipe_top.proofs.Carried.{late-not_reading, loses-nothing, no-err, no-ok, of-err, one-error, over-fault, refused-with, the-error}
use Rattle.pipe_top.proofs.Carried.{unread-failed, unread-not_behind, unread-late, unread-not_writing, unread-refused, untrue}
use Rattle.pipe_top.proofs.Unshown.{unshown}
use Rattle.pipe_top.proofs.Written.{all-written, first-written, shown-for, some-bytes}
use Rattle.pipe_top.proofs.carry.run_task.Goals as goal

-- ---- the words were refused
pub returns-in_err-task : goal.returns-in_err-task
returns-in_err-task g c =
    let left = g.S.Source.left c.args.source.now in
    let input = input_by c.args.rows left in
    let fault = c.in_err-task.field-0.0 in
    let was = c.in_err-task.was in
    let same = the-error c.from_residual.result fault c.from_residual.ensures.1 in
    let early = of-err (λ f. (is_early f ≡ true) ⊎ (f ≡ run.NoMemory)) c.args.task fault was c.requires.early in
    let unwritten = early-not_writing fault early in
    let asked = asked_of c.args.task in
    let refused = ap asked_of was in
    let bytes = some-bytes input in
    let seen = g.T.Tap.seen c.args.tap.now in
    record {
      over = (
        bytes.0,
        bytes.1,
        over-fault asked bytes.0 _ _ _ seen seen _ _ _ _ fault same unwritten
            (λ _. subst (λ a. IsAnswerTo a bytes.0 (Fault fault)) (sym refused) refl) (early-not_behind _ fault early) (unshown asked bytes.0 seen seen refl),
      );
      text_read_to_end = no-ok _ _ _ same;
      fault_read = at-err _ _ _ same (early-read fault early c.args.rows left left);
      refused_early = at-err _ _ _ was same;
      refused_early_only = at-err _ _ _ same (λ _. ap asked_of was);
      refused_unread = at-err _ _ _ was (keeps-same left);
      refused_unfailed = at-err _ _ _ was refl;
      made_unread = if-some _ c.args.rows (keeps-same left);
      made_unfailed = if-some _ c.args.rows refl;
      read_fault = λ e. early-not_reading _ fault early (one-error _ fault run.ReadFault same e);
      write_fault = no-write _ _ fault same unwritten;
      unwritten = at-err _ _ _ same (λ _. keeps-same (g.K.Sink.taken c.args.sink.now));
      prefix = loses-nothing left;
      units = refl;
      unshown = at-err _ _ _ was refl;
    }

-- ---- the input was refused
pub returns-in_err-bytes : goal.returns-in_err-bytes
returns-in_err-bytes g c =
    let input = input_by c.args.rows (g.S.Source.left c.args.source.now) in
    let fault = c.in_err-bytes.field-0.0 in
    let was = c.in_ok-task.was in
    let same = the-error c.from_residual-in_err-bytes.result fault c.from_residual-in_err-bytes.ensures.1 in
    let why = c.in_err-bytes.ensures.fault in
    let rises = Rose (g.S.Source.faults c.args.source.now) (g.S.Source.faults c.read_input.new.source) in
    let late_one = unread-late c.args.rows rises input fault why in
    let unwritten = unread-not_writing c.args.rows rises input fault why in
    let asked = asked_of c.args.task in
    let refused = unread-refused c.args.rows rises input asked (task_of c.in_ok-task.task) fault (ap asked_of was) why in
    let seen = g.T.Tap.seen c.args.tap.now in
    record {
      over = (
        refused.0,
        refused.1,
        over-fault asked refused.0 _ _ _ seen seen _ _ _ _ fault same unwritten refused.2 (unread-not_behind c.args.rows rises _ input fault why)
            (unshown asked refused.0 seen seen refl),
      );
      text_read_to_end = no-ok _ _ _ same;
      fault_read = at-err _ _ _ same (of-err _ _ fault c.in_err-bytes.was c.read_input.ensures.read);
      refused_early = no-err _ _ _ was;
      refused_early_only = at-err _ _ _ same (λ early. absurd (untrue (sym late_one ∙ early)));
      refused_unread = no-err _ _ _ was;
      refused_unfailed = no-err _ _ _ was;
      made_unread = c.read_input.ensures.made_unread;
      made_unfailed = c.read_input.ensures.made_unfailed;
      read_fault = λ e. unread-failed c.args.rows rises input fault why (one-error _ fault run.ReadFault same e);
      write_fault = no-write _ _ fault same unwritten;
      unwritten = at-err _ _ _ same (λ _. keeps-same (g.K.Sink.taken c.args.sink.now));
      prefix = c.read_input.ensures.prefix;
      units = refl;
      unshown = no-err _ _ _ was;
    }

-- ---- the task has a fault
pub returns-in_err-text : goal.returns-in_err-text
returns-in_err-text g c =
    let input = input_by c.args.rows (g.S.Source.left c.args.source.now) in
    let asked = asked_of c.args.task in
    let task = task_of c.in_ok-task.task in
    let bytes = c.in_ok-bytes.bytes.items in
    let fault = c.in_err-text.field-0.0 in
    let was = c.in_ok-task.was in
    let same = the-error c.from_residual-in_err-text.result fault c.from_residual-in_err-text.ensures.1 in
    let read = c.in_ok-bytes.ensures.bytes in
    let seen = g.T.Tap.seen c.args.tap.now in
    let shown = g.T.Tap.seen c.answer_task.new.tap in
    let late_one = late task bytes c.in_ok-bytes.ensures.fits fault c.in_err-text.ensures.fault in
    record {
      over = (
        bytes,
        read,
        over-fault asked bytes _ _ _ seen shown _ _ _ _ fault same (late-not_writing (cause_of fault) late_one)
            (refused-with asked task bytes (ap asked_of was) fault c.in_err-text.ensures.fault)
            (λ behind. let made = c.in_err-text.ensures.behind behind in (task, ap asked_of was, made.0, made.1))
            (shown-for asked task bytes (ap asked_of was) seen shown c.in_err-text.ensures.shows_some),
      );
      text_read_to_end = no-ok _ _ _ same;
      fault_read = at-err _ _ _ same (late-read (cause_of fault) late_one c.args.rows _ _ c.in_ok-bytes.ensures.end);
      refused_early = no-err _ _ _ was;
      refused_early_only = at-err _ _ _ same (λ early. absurd (late-not_early (cause_of fault) late_one early));
      refused_unread = no-err _ _ _ was;
      refused_unfailed = no-err _ _ _ was;
      made_unread = c.read_input.ensures.made_unread;
      made_unfailed = c.read_input.ensures.made_unfailed;
      read_fault = λ e. late-not_reading _ fault late_one (one-error _ fault run.ReadFault same e);
      write_fault = no-write _ _ fault same (late-not_writing (cause_of fault) late_one);
      unwritten = at-err _ _ _ same (λ _. keeps-same (g.K.Sink.taken c.args.sink.now));
      prefix = c.read_input.ensures.prefix;
      units = c.answer_task.ensures.units;
      unshown = no-err _ _ _ was;
    }

-- ---- all was written
pub returns-in-Ok : goal.returns-in-Ok
returns-in-Ok g c =
    let input = input_by c.args.rows (g.S.Source.left c.args.source.now) in
    let asked = asked_of c.args.task in
    let task = task_of c.in_ok-task.task in
    let bytes = c.in_ok-bytes.bytes.items in
    let was = c.in_ok-task.was in
    let read = c.in_ok-bytes.ensures.bytes in
    let old = g.K.Sink.taken c.args.sink.now in
    let new = g.K.Sink.taken c.write_all.new.sink in
    let wrote = subst (Appends old new) c.deref.ensures.value c.in-Ok.ensures.all in
    record {
      over = (
        bytes,
        read,
        record {
          text = all-written asked task bytes (ap asked_of was) old new c.in_ok-text.text.items c.in_ok-text.ensures.text wrote;
          refused = tt;
          first = tt;
          counts = at-ok _ _ _ (ap asked_of was) c.in_ok-text.ensures.counts;
          shows = at-ok _ _ _ (ap asked_of was) c.in_ok-text.ensures.shows;
          behind = tt;
          shows_some = tt;
        },
      );
      text_read_to_end = c.in_ok-bytes.ensures.end;
      fault_read = tt;
      refused_early = no-err _ _ _ was;
      refused_early_only = tt;
      refused_unread = no-err _ _ _ was;
      refused_unfailed = no-err _ _ _ was;
      made_unread = c.read_input.ensures.made_unread;
      made_unfailed = c.read_input.ensures.made_unfailed;
      read_fault = λ e. absurd (cc);
      write_fault = tt;
      unwritten = tt;
      prefix = c.read_input.ensures.prefix;
      units = c.answer_task.ensures.units;
      unshown = no-err _ _ _ was;
    }

-- ---- a write failed
pub returns : goal.returns
returns g c =
    let input = input_by c.args.rows (g.S.Source.left c.args.source.now) in
    let asked = asked_of c.args.task in
    let task = task_of c.in_ok-task.task in
    let bytes = c.in_ok-bytes.bytes.items in
    let was = c.in_ok-task.was in
    let read = c.in_ok-bytes.ensures.bytes in
    let old = g.K.Sink.taken c.args.sink.now in
    let new = g.K.Sink.taken c.write_all.new.sink in
    let text = c.in_ok-text.text.items in
    let taken = taken_by c.in-Err-Failed.field-0 in
    let wrote = subst (λ t. Appends old new (take taken t)) c.deref.ensures.value c.in-Err-Failed.ensures.prefix in
    let within = subst (λ t. taken ≤ length t) c.deref.ensures.value c.in-Err-Failed.ensures.within in
    let fits = c.in_ok-bytes.ensures.fits in
    let seen = g.T.Tap.seen c.args.tap.now in
    let shown = g.T.Tap.seen c.answer_task.new.tap in
    let got = first-written asked task bytes (ap asked_of was) old new text taken c.in_ok-text.ensures.text within wrote in
    record {
      over = (
        bytes,
        read,
        record {
          text = tt;
          refused = λ decided. absurd (untrue decided);
          first = search (rules, got);
          counts = tt;
          shows = tt;
          behind = λ _. (task, ap asked_of was, c.in_ok-text.ensures.counts, c.in_ok-text.ensures.shows);
          shows_some = shown-for asked task bytes (ap asked_of was) seen shown (all-asked task bytes seen shown fits c.in_ok-text.ensures.shows);
        },
      );
      text_read_to_end = tt;
      fault_read = c.in_ok-bytes.ensures.end;
      refused_early = no-err _ _ _ was;
      refused_early_only = λ early. absurd (untrue early);
      refused_unread = no-err _ _ _ was;
      refused_unfailed = no-err _ _ _ was;
      made_unread = c.read_input.ensures.made_unread;
      made_unfailed = c.read_input.ensures.made_unfailed;
      read_fault = λ e. absurd (cc);
      write_fault = c.in-Err-Failed.ensures.failed;
      unwritten = λ e. absurd (untrue (sym e));
      prefix = c.read_input.ensures.prefix;
      units = c.answer_task.ensures.units;
      unshown = no-err _ _ _ was;
    }
