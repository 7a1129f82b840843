use Rattle.std.proofs.Common.{◌≡◌, None, subst}
use Rattle.raw_array.specs.promise.Members.{members_of}
use Rattle.layout_rules.specs.promise.Rules.{views_misplaced}
use Rattle.layout_check.proofs.Readable.{views-some, views-validity, views-long, views-named}
use Rattle.layout_check.proofs.views.prefixes_wrong.Goals as goal

pub first_wrong_prefix-requires-clause-buffers : goal.first_wrong_prefix-requires-clause-buffers
first_wrong_prefix-requires-clause-buffers c = views-some (members_of c.args.node.now.array.now) c.args.node.now.layout c.in-Views.is c.args.node.now.counted c.requires.buffers

pub first_wrong_prefix-requires-clause-validity : goal.first_wrong_prefix-requires-clause-validity
first_wrong_prefix-requires-clause-validity c = views-validity (members_of c.args.node.now.array.now) c.args.node.now.layout c.in-Views.is c.args.node.now.counted c.requires.buffers

pub first_wrong_prefix-requires-clause-long : goal.first_wrong_prefix-requires-clause-long
first_wrong_prefix-requires-clause-long c = views-long (members_of c.args.node.now.array.now) c.args.node.now.layout c.in-Views.is c.args.node.now.counted c.requires.buffers

pub first_wrong_prefix-requires-clause-named : goal.first_wrong_prefix-requires-clause-named
first_wrong_prefix-requires-clause-named c = views-named (members_of c.args.node.now.array.now) c.args.node.now.layout c.in-Views.is c.args.node.now.counted c.requires.buffers

pub first_wrong_prefix-requires-clause-placed : goal.first_wrong_prefix-requires-clause-placed
first_wrong_prefix-requires-clause-placed c = subst (λ l. views_misplaced l (members_of c.args.node.now.array.now) ≡ None) c.in-Views.is c.requires.placed
