use Rattle.std.proofs.Common.{◌≡◌, subst, arith}
use Rattle.raw_array.specs.promise.Members.{ArrayTree}
use Rattle.layout_check.specs.FoundAt.{found_at}
use Rattle.layout_rules.specs.Rules.{buffer_rules, item_rules}
use Rattle.layout_check.specs.NodeView.{live_node}
use Rattle.layout_rules.specs.Walk.{rules_fault}
use Rattle.layout_check.proofs.Faults.{own_fault-typed, own_rules}
use Rattle.layout_check.proofs.walk.check_own.Goals as goal

pub returns-in_err-check_buffers-clause-fault : goal.returns-in_err-check_buffers-clause-fault
returns-in_err-check_buffers-clause-fault c path =
    let same = c.of-node.ensures.array in
    let buffers =
    subst (λ (a : ArrayTree). found_at path c.check_buffers.result ≡ rules_fault buffer_rules path (live_node c.args.typed.now a)) same
    (c.check_buffers.ensures.fault path) in
    grind (arith, own_fault-typed, buffers)

pub returns-clause-fault : goal.returns-clause-fault
returns-clause-fault c path =
    let same = c.of-node.ensures.array in
    let buffers =
    subst (λ (a : ArrayTree). found_at path c.check_buffers.result ≡ rules_fault buffer_rules path (live_node c.args.typed.now a)) same
    (c.check_buffers.ensures.fault path) in
    let items =
    subst (λ (a : ArrayTree). found_at path c.check_items.result ≡ rules_fault item_rules path (live_node c.args.typed.now a)) same
    (c.check_items.ensures path) in
    grind (arith, own_fault-typed, buffers, items)

pub returns-in_err-check_form-clause-fault : goal.returns-in_err-check_form-clause-fault
returns-in_err-check_form-clause-fault c = grind (arith, own_rules)
