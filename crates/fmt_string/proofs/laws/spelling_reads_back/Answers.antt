use Rattle.fmt_string.proofs.Spelled.{spelled}
use Rattle.fmt_string.proofs.OneAnswer.{one_spelling}
use Rattle.fmt_string.proofs.laws.spelling_reads_back.Goals as goal

pub returns-clause-spelled : goal.returns-clause-spelled
returns-clause-spelled c = spelled

pub returns-clause-alone : goal.returns-clause-alone
returns-clause-alone c kind other kind_ok other_ok same = one_spelling kind other kind_ok other_ok same
