use Rattle.raw_array.specs.promise.Members.{members_of}
use Rattle.layout_check.proofs.TextRuns.{no-marks}
use Rattle.layout_check.proofs.view_texts.passed.Goals as goal

pub note_all-requires-clause-marks : goal.note_all-requires-clause-marks
note_all-requires-clause-marks c = no-marks (members_of c.args.node.now.array.now) 2048
