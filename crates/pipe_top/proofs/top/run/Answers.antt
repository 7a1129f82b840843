use Rattle.std.proofs.Common.{◌≡◌, ◌∙◌, false, ap}
use Rattle.std.specs.Io.KnownBytes.{Keeps}
use Rattle.edge_io.specs.promise.Edge.{Rose}
use Rattle.run_model.specs.Outcomes.{AtWriteFault, is_write_fault}
use Rattle.pipe_top.proofs.Runs.{fault-read, made-keeps, memory-alone, nothing-written, of-fault, over-input, ran-over, read-failed, read-to-end}
use Rattle.pipe_top.proofs.Runs.{refused-for, refused-only, silent-audit, told-all, unshown-check, where-refused}
use Rattle.pipe_top.proofs.top.run.Goals as goal

pub returns : goal.returns
returns g c =
    let request = c.read_command_line-wanted.result.task in
    let rows = c.read_command_line-wanted.result.made in
    let result = c.run_task-carried.result in
    let left = g.S.Source.left c.args.source.now in
    let rest = g.S.Source.left c.run_task-carried.new.source in
    let unfailed = g.S.Source.faults c.run_task-carried.new.source ≡ g.S.Source.faults c.args.source.now in
    let rises = Rose (g.S.Source.faults c.args.source.now) (g.S.Source.faults c.run_task-carried.new.source) in
    let fails = Rose (g.K.Sink.faults c.args.sink.now) (g.K.Sink.faults c.run_task-carried.new.sink) in
    let taken = g.K.Sink.taken c.args.sink.now in
    let got = g.K.Sink.taken c.run_task-carried.new.sink in
    let seen = g.T.Tap.seen c.args.tap.now in
    let shown = g.T.Tap.seen c.run_task-carried.new.tap in
    let carried = c.run_task-carried.ensures in
    let asked = c.read_command_line-wanted.ensures in
    let early = carried.refused_early in
    let told = c.outcome_of-outcome.ensures.fault in
    let audit = c.outcome_of-outcome.ensures.audit in
    let input = over-input _ request result _ early told asked.asks rows left taken got seen shown _ _ _ _ carried.unshown asked.made carried.over in
    let ran = ran-over _ request result _ early told asked.asks input.0 taken got seen shown _ _ _ _ _ _ input.2 c.one_answer.ensures.alone _ rises fails
    carried.read_fault carried.write_fault carried.unshown asked.only c.open_desk-pass.ensures.blocks c.open_desk-pass.ensures.nodes
    (ap (λ a. a.blocks) audit ∙ c.close-audit.ensures.blocks) (ap (λ a. a.nodes) audit ∙ c.close-audit.ensures.nodes) in
    let silent = silent-audit request result _ c.read_command_line-wanted.result.audit _ early told asked.audit in
    record {
      ran = record {
        over = (input.0, input.1, ran);
        text_read_to_end = read-to-end _ request result _ early told asked.asks rows left rest asked.made carried.text_read_to_end;
        fault_read = fault-read _ request result _ early told asked.asks rows left rest asked.made carried.fault_read;
        refused_early = refused-for _ request result _ early told asked.asks asked.only;
        refused_early_only = refused-only _ request result _ early told asked.asks carried.refused_early_only;
        refused_unread = where-refused _ request result _ early told asked.asks (Keeps left rest) carried.refused_unread asked.only;
        refused_unfailed = where-refused _ request result _ early told asked.asks unfailed carried.refused_unfailed asked.only;
        made_unread = made-keeps (Keeps left rest) _ rows request asked.made carried.refused_unread carried.made_unread;
        made_unfailed = made-keeps unfailed _ rows request asked.made carried.refused_unfailed carried.made_unfailed;
        read_fault = read-failed _ request result _ early told asked.asks rows rises asked.made carried.read_fault;
        write_fault = of-fault _ request result _ early told asked.asks (λ f. AtWriteFault f (λ taken. fails)) carried.write_fault;
        no_memory = nothing-written _ request result _ early told asked.asks (Keeps taken got) carried.unwritten;
        unwritten = of-fault _ request result _ early told asked.asks (λ f. is_write_fault f ≡ false → Keeps taken got) carried.unwritten;
        memory_alone = memory-alone _ input.0 c.outcome_of-outcome.result.fault c.memory_stands_alone.ensures.faults ran.refused;
        status = c.outcome_of-outcome.ensures.status;
        prefix = carried.prefix;
        unshown_early = where-refused _ request result _ early told asked.asks (shown ≡ seen) carried.unshown asked.only;
        unshown_check = unshown-check _ request result _ early told asked.asks input.0 taken got seen shown _ _ _ _ input.2 carried.unshown asked.only;
        audit = ap (λ a. a.left) audit ∙ c.close-audit.ensures.left;
        diagnostics = told-all c.write_diagnostics-told.result _ _ _ _ c.outcome_of-outcome.result.fault c.outcome_of-outcome.result.audit
            c.read_command_line-wanted.result.audit _ silent c.write_diagnostics-told.ensures;
      };
    }
