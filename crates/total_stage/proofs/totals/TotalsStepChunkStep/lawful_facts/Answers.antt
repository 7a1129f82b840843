use Rattle.std.proofs.Common.{[], refl, inl}
use Rattle.total_stage.proofs.Fitting.{totals-lawful, totals-tables}
use Rattle.total_stage.proofs.Going.{none-is}
use Rattle.total_stage.proofs.totals.TotalsStepChunkStep.lawful_facts.Goals as goal

pub returns-clause-columns : goal.returns-clause-columns
returns-clause-columns c =
    let s = c.args.self.now in
    totals-lawful s.picks.items s.out c.column_schemas_are_lawful.ensures c.schema_is_small.ensures.small c.schema_is_small.ensures.not_deep

pub returns-clause-tables : goal.returns-clause-tables
returns-clause-tables c = λ rests before ending tables fits columns lawful.
    let s = c.args.self.now in
    totals-tables s.sums.items s.picks.items s.out s.given ending before tables (none-is s.sums.items rests) fits columns lawful

pub returns-clause-begins : goal.returns-clause-begins
returns-clause-begins c = λ rests before tables fits columns lawful.
    record { done = []; begun = inl (none-is c.args.self.now.sums.items rests, refl); lawful = lawful }
