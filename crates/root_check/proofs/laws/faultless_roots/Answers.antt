use Rattle.root_check.proofs.Faultless.{own-none}
use Rattle.root_check.proofs.ChildFaults.{none-lawful}
use Rattle.root_check.proofs.laws.faultless_roots.Goals as goal

pub returns : goal.returns
returns c = record { own = own-none; children = λ kids children same e. none-lawful kids 0 children same e }
