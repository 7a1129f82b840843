use Rattle.std.proofs.Common.{arith}
use Rattle.layout_rules.proofs.Long.{long}
use Rattle.layout_check.proofs.views.views_pass.Goals as goal

pub all_are_placed-requires-clause-validity : goal.all_are_placed-requires-clause-validity
all_are_placed-requires-clause-validity c = grind (arith, long)

pub all_are_placed-requires-clause-long : goal.all_are_placed-requires-clause-long
all_are_placed-requires-clause-long c = grind (arith, long)

pub all_prefixes_pass-requires-clause-validity : goal.all_prefixes_pass-requires-clause-validity
all_prefixes_pass-requires-clause-validity c = grind (arith, long)

pub all_prefixes_pass-requires-clause-long : goal.all_prefixes_pass-requires-clause-long
all_prefixes_pass-requires-clause-long c = grind (arith, long)

pub all_prefixes_pass-requires-clause-named : goal.all_prefixes_pass-requires-clause-named
all_prefixes_pass-requires-clause-named c = grind (arith, long)
