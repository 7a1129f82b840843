use Rattle.total_stage.proofs.Going.{refused-ahead}
use Rattle.total_stage.proofs.totals.TotalsStepChunkStep.forget.Goals as goal

pub returns-clause-refused : goal.returns-clause-refused
returns-clause-refused c = λ fault.
    let s = c.args.self.now in
    (refused-ahead s.sums.items s.picks.items s.given fault, refused-ahead _ s.picks.items s.given fault)
