use Rattle.std.proofs.Common.{◌∙◌, ap, sym}
use Rattle.tree_top.specs.declared.fault.TreeRunFault.TheVariants as run
use Rattle.tree_top.proofs.RunFacts.{carried-err, fault-some, if-some, memory-alone, on-ok, ran-over}
use Rattle.tree_top.proofs.top.run_tree.Goals as goal

pub returns : goal.returns
returns g c =
    let carried = c.run_over_source-carried.ensures in
    let result = c.run_over_source-carried.result in
    let fault = c.outcome_of-outcome.result.fault in
    let told = c.outcome_of-outcome.ensures.fault in
    let audit = c.outcome_of-outcome.ensures.audit in
    let command = c.read_command-command.ensures in
    let over = carried.over in
    let ran = ran-over _ _ over.0 result fault _ _ _ _ _ _ _ _ _ _ command told c.open_desk-pass.ensures.blocks c.open_desk-pass.ensures.nodes
    (ap (λ a. a.blocks) audit ∙ c.close-audit.ensures.blocks) (ap (λ a. a.nodes) audit ∙ c.close-audit.ensures.nodes) over.2 in
    record {
      ran = record {
        over = (over.0, over.1, ran);
        read_to_end = on-ok result fault told _ carried.read_to_end;
        fault_read = if-some result fault told _ carried.fault_read;
        words = (
          (λ is. sym command ∙ carried.words.0 (carried-err result fault told run.Words is)),
          (λ none. fault-some result fault told run.Words (carried.words.1 (command ∙ none))),
        );
        words_unread = λ none. carried.words_unread (command ∙ none);
        words_unfailed = λ none. carried.words_unfailed (command ∙ none);
        read_fault = λ is. carried.read_fault (carried-err result fault told run.ReadFault is);
        write_fault = if-some result fault told _ carried.write_fault;
        unwritten = if-some result fault told _ carried.unwritten;
        memory_alone = memory-alone _ over.0 fault c.memory_stands_alone.ensures ran.refused;
        status = c.outcome_of-outcome.ensures.status;
        prefix = carried.prefix;
        audit = ap (λ a. a.left) audit ∙ c.close-audit.ensures.left;
        diagnostics = c.write_diagnostics-told.ensures;
      };
    }
