use Rattle.array_laws.proofs.ShownParts.{shown-like, shown-lowered, shown-lowered_by, shown-share}
use Rattle.array_laws.proofs.laws.shares_show_the_same.Goals as goal

pub returns-clause-share : goal.returns-clause-share
returns-clause-share c = shown-share

pub returns-clause-lowered : goal.returns-clause-lowered
returns-clause-lowered c = shown-lowered

pub returns-clause-like : goal.returns-clause-like
returns-clause-like c = shown-like

pub returns-clause-lowered_by : goal.returns-clause-lowered_by
returns-clause-lowered_by c = shown-lowered_by
