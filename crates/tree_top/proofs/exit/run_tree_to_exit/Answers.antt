use Rattle.std.proofs.Common.{◌≡◌, rules}
use Rattle.std.specs.Process.{exit_status}
use Rattle.tree_top.proofs.exit.run_tree_to_exit.Goals as goal

pub returns : goal.returns
returns g c =
    let status : exit_status c.from.result ≡ c.run_tree-outcome.result.status = search rules in
    record { ran = (c.run_tree-outcome.result, status, c.run_tree-outcome.ensures.ran) }
