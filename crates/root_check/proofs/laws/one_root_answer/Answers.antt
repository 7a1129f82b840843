use Rattle.root_check.proofs.RootAnswers.{own_once, kids_once}
use Rattle.root_check.proofs.laws.one_root_answer.Goals as goal

pub returns : goal.returns
returns c = record { own = own_once c.one_reading.ensures; kids = kids_once c.one_schema_answer.ensures }
