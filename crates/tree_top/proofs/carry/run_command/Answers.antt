use Rattle.std.proofs.Common.{◌≤◌, ◌∙◌, Some, length, ap, refl, subst, sym, take}
use Rattle.std.specs.Io.KnownBytes.{Appends}
use Rattle.edge_io.specs.promise.Edge.{Rose}
use Rattle.edge_io.specs.Edge.{taken_by}
use Rattle.tree_check.specs.promise.Runs.{input_limit}
use Rattle.tree_top.specs.Answer.{AreBytes}
use Rattle.tree_top.specs.promise.TextOrFault.{Text}
use Rattle.tree_top.specs.promise.Faults.{cause_of}
use Rattle.tree_top.specs.Faults.{is_write_fault}
use Rattle.tree_top.specs.promise.Over.{RanOver}
use Rattle.tree_top.specs.declared.fault.TreeRunFault.TheVariants as run
use Rattle.tree_top.proofs.Carried.{failed-at-write, failed-not_reading, failed-not_words, failed-read, read-of}
use Rattle.tree_top.proofs.Carried.{at-err, done-over, failed-over, keeps-same, no-ok, no-write, not_reading-of, not_words-of, not_writing-of}
use Rattle.tree_top.proofs.Carried.{of-text, one-error, refused-result, text-refused-with, the-error, unread-failed, unread-not_words}
use Rattle.tree_top.proofs.Carried.{unread-not_writing, unread-refused, untrue, within}
use Rattle.tree_top.proofs.carry.run_command.Goals as goal

-- ---- the input was refused
pub returns-in_err-bytes : goal.returns-in_err-bytes
returns-in_err-bytes g c =
    let told = g.S.Source.left c.args.source.now in
    let taken = g.K.Sink.taken c.args.sink.now in
    let fault = c.in_err-bytes.field-0.0 in
    let same = the-error c.from_residual.result fault c.from_residual.ensures.1 in
    let why = c.in_err-bytes.ensures.fault in
    let rises = Rose (g.S.Source.faults c.args.source.now) (g.S.Source.faults c.read_source.new.source) in
    let unwritten = unread-not_writing rises told fault why in
    let refused = unread-refused rises told fault c.args.command why in
    record {
      over = (
        refused.0,
        refused.1,
        refused-result c.one_answer.ensures.alone (Some c.args.command) refused.0 taken taken _ _ _ _ rises _ _ fault same unwritten refused.2
            (unread-failed rises told fault why),
      );
      read_to_end = no-ok _ _ _ same;
      fault_read = at-err _ _ _ same c.in_err-bytes.ensures.read;
      not_words = λ e. unread-not_words rises told fault _ why (one-error _ fault run.Words same e);
      read_fault = λ e. unread-failed rises told fault why (one-error _ fault run.ReadFault same e);
      write_fault = no-write _ _ fault same unwritten;
      unwritten = at-err _ _ _ same (λ _. keeps-same taken);
      prefix = c.read_source.ensures.prefix;
      units = refl;
    }

-- ---- the text has a fault
pub returns-in_err-text : goal.returns-in_err-text
returns-in_err-text g c =
    let told = g.S.Source.left c.args.source.now in
    let taken = g.K.Sink.taken c.args.sink.now in
    let bytes = c.deref.result.now in
    let fault = c.in_err-text.field-0.0 in
    let same = the-error c.from_residual-in_err-text.result fault c.from_residual-in_err-text.ensures.1 in
    let why = c.in_err-text.ensures.fault in
    let read = subst (AreBytes told) (sym c.deref.ensures.value) c.in_ok-bytes.ensures.bytes in
    let fits = subst (λ b. length b ≤ input_limit) (sym c.deref.ensures.value) c.in_ok-bytes.ensures.fits in
    let of = of-text c.args.command bytes fault why in
    let unwritten = not_writing-of (cause_of fault) of in
    record {
      over = (
        bytes,
        read,
        refused-result c.one_answer.ensures.alone (Some c.args.command) bytes taken taken _ _ _ _ _ _ _ fault same unwritten
            (text-refused-with c.args.command bytes fits fault why) (not_reading-of _ fault of),
      );
      read_to_end = no-ok _ _ _ same;
      fault_read = at-err _ _ _ same (read-of (cause_of fault) of _ _ c.in_ok-bytes.ensures.end);
      not_words = λ e. not_words-of _ fault of (one-error _ fault run.Words same e);
      read_fault = λ e. not_reading-of _ fault of (one-error _ fault run.ReadFault same e);
      write_fault = no-write _ _ fault same unwritten;
      unwritten = at-err _ _ _ same (λ _. keeps-same taken);
      prefix = c.read_source.ensures.prefix;
      units = c.answer_text.ensures.units;
    }

-- ---- all was written
pub returns-in-Ok : goal.returns-in-Ok
returns-in-Ok g c =
    let told = g.S.Source.left c.args.source.now in
    let bytes = c.deref.result.now in
    let text = c.in_ok-text.text.items in
    let read = subst (AreBytes told) (sym c.deref.ensures.value) c.in_ok-bytes.ensures.bytes in
    let fits = subst (λ b. length b ≤ input_limit) (sym c.deref.ensures.value) c.in_ok-bytes.ensures.fits in
    let old = g.K.Sink.taken c.args.sink.now in
    let new = g.K.Sink.taken c.write_all.new.sink in
    let wrote = subst (Appends old new) c.deref-2.ensures.value c.in-Ok.ensures.all in
    record {
      over = (
        bytes,
        read,
        done-over c.one_answer.ensures.alone (Some c.args.command) bytes old new _ _ _ _ _ _ text
            (within c.args.command bytes fits (Text text) c.in_ok-text.ensures.text) wrote c.in_ok-text.ensures.counts,
      );
      read_to_end = c.in_ok-bytes.ensures.end;
      fault_read = tt;
      not_words = λ e. cc;
      read_fault = λ e. absurd (cc);
      write_fault = tt;
      unwritten = tt;
      prefix = c.read_source.ensures.prefix;
      units = c.answer_text.ensures.units;
    }

-- ---- a write failed
pub returns : goal.returns
returns g c =
    let told = g.S.Source.left c.args.source.now in
    let bytes = c.deref.result.now in
    let text = c.in_ok-text.text.items in
    let read = subst (AreBytes told) (sym c.deref.ensures.value) c.in_ok-bytes.ensures.bytes in
    let fits = subst (λ b. length b ≤ input_limit) (sym c.deref.ensures.value) c.in_ok-bytes.ensures.fits in
    let old = g.K.Sink.taken c.args.sink.now in
    let new = g.K.Sink.taken c.write_all.new.sink in
    let fault = c.in-Err.fault in
    let taken = taken_by fault in
    let wrote = subst (λ t. Appends old new (take taken t)) c.deref-2.ensures.value c.in-Err.ensures.prefix in
    let least = subst (λ t. taken ≤ length t) c.deref-2.ensures.value c.in-Err.ensures.within in
    let told = sym c.from.ensures in
    record {
      over = (
        bytes,
        read,
        subst
            (λ f. RanOver (Some c.args.command) bytes (Some f) old new c.args.pass.now.blocks c.args.pass.now.nodes c.answer_text.new.pass.blocks
            c.answer_text.new.pass.nodes (Rose (g.S.Source.faults c.args.source.now) (g.S.Source.faults c.read_source.new.source))
            (Rose (g.K.Sink.faults c.args.sink.now) (g.K.Sink.faults c.write_all.new.sink))) told
            (failed-over c.one_answer.ensures.alone (Some c.args.command) bytes old new _ _ _ _ _ _ text taken
            (within c.args.command bytes fits (Text text) c.in_ok-text.ensures.text) least wrote c.in-Err.ensures.failed),
      );
      read_to_end = tt;
      fault_read = failed-read _ _ taken c.from.result c.from.ensures c.in_ok-bytes.ensures.end;
      not_words = λ e. failed-not_words _ taken c.from.result c.from.ensures e;
      read_fault = λ e. failed-not_reading _ taken c.from.result c.from.ensures e;
      write_fault = failed-at-write _ taken c.from.result c.from.ensures c.in-Err.ensures.failed;
      unwritten = λ e. absurd (untrue (sym e ∙ ap is_write_fault c.from.ensures));
      prefix = c.read_source.ensures.prefix;
      units = c.answer_text.ensures.units;
    }
