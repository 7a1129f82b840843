use Rattle.stage_filter.proofs.Filtered.{filter-columns, filter-tables}
use Rattle.stage_filter.proofs.filter.FilterStepChunkStep.lawful_facts.Goals as goal

pub returns-clause-columns : goal.returns-clause-columns
returns-clause-columns c = filter-columns c.args.self.now.column c.args.self.now.out

pub returns-clause-tables : goal.returns-clause-tables
returns-clause-tables c = λ _ before ending tables fits columns lawful.
    let s = c.args.self.now in
    filter-tables s.column s.test s.constant s.out before tables fits lawful
