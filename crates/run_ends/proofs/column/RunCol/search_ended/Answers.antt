use Rattle.std.proofs.Common.{sym}
use Rattle.run_ends.specs.promise.Runs.{ends_in, ends_above, run_count}
use Rattle.run_ends.specs.RunCols.{kinds_in, array_in}
use Rattle.run_ends.proofs.Searching.{parted_first}
use Rattle.run_ends.proofs.column.RunCol.search_ended.Goals as goal

pub returns : goal.returns
returns c =
    let self = c.args.self.now in
    sym (parted_first (ends_above (ends_in (kinds_in self) (array_in self)) c.args.place) (run_count (array_in self)) c.args.low c.args.high
    c.requires.parted c.requires.met)
