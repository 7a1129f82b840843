use Rattle.raw_array.specs.promise.Members.{members_of}
use Rattle.layout_check.proofs.Readable.{views-some, views-validity, views-long, views-lengths}
use Rattle.layout_check.proofs.views.views_misplaced.Goals as goal

pub first_misplaced-requires-clause-buffers : goal.first_misplaced-requires-clause-buffers
first_misplaced-requires-clause-buffers c = views-some (members_of c.args.node.now.array.now) c.args.node.now.layout c.in-Views.is c.args.node.now.counted c.requires.buffers

pub first_misplaced-requires-clause-validity : goal.first_misplaced-requires-clause-validity
first_misplaced-requires-clause-validity c = views-validity (members_of c.args.node.now.array.now) c.args.node.now.layout c.in-Views.is c.args.node.now.counted c.requires.buffers

pub first_misplaced-requires-clause-long : goal.first_misplaced-requires-clause-long
first_misplaced-requires-clause-long c = views-long (members_of c.args.node.now.array.now) c.args.node.now.layout c.in-Views.is c.args.node.now.counted c.requires.buffers

pub first_misplaced-requires-clause-lengths : goal.first_misplaced-requires-clause-lengths
first_misplaced-requires-clause-lengths c = views-lengths (members_of c.args.node.now.array.now) c.args.node.now.layout c.in-Views.is c.args.node.now.counted c.requires.buffers
