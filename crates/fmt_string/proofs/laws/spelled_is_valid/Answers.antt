use Rattle.fmt_string.proofs.ValidKinds.{format_valid}
use Rattle.fmt_string.proofs.laws.spelled_is_valid.Goals as goal

pub returns : goal.returns
returns c = format_valid
