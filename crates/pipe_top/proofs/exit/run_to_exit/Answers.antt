use Rattle.std.proofs.Common.{◌≡◌, rules}
use Rattle.std.specs.Process.{exit_status}
use Rattle.pipe_top.proofs.exit.run_to_exit.Goals as goal

pub returns : goal.returns
returns g c =
    let status : exit_status c.from.result ≡ c.run-outcome.result.status = search rules in
    record { ran = (c.run-outcome.result, status, c.run-outcome.ensures.ran) }
