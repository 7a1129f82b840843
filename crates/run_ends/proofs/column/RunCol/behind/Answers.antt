use Rattle.std.proofs.Common.{arith}
use Rattle.run_ends.specs.RunCols.{kinds_in, array_in}
use Rattle.run_ends.proofs.Searching.{item_holds, walks}
use Rattle.run_ends.proofs.column.RunCol.behind.Goals as goal

pub end_up_to-requires : goal.end_up_to-requires
end_up_to-requires c =
    let self = c.args.self.now in
    omega (arith, (item_holds (kinds_in self) (array_in self) c.args.i c.runs_hold.ensures c.requires.inside).inside, c.requires.at)

pub overflow_sub-result : goal.overflow_sub-result
overflow_sub-result c =
    let self = c.args.self.now in
    let up = c.end_up_to.ensures in
    let is = walks (kinds_in self) (array_in self) c.args.i c.args.run self.start self.count c.end_up_to.result c.runs_hold.ensures c.requires.inside
    c.requires.at self.starts_at self.counted up.ends up.places up.exact in
    omega (arith, is.from)

pub returns-clause-above : goal.returns-clause-above
returns-clause-above c =
    let self = c.args.self.now in
    let up = c.end_up_to.ensures in
    let is = walks (kinds_in self) (array_in self) c.args.i c.args.run self.start self.count c.end_up_to.result c.runs_hold.ensures c.requires.inside
    c.requires.at self.starts_at self.counted up.ends up.places up.exact in
    omega (arith, is.from)

pub returns-clause-same : goal.returns-clause-same
returns-clause-same c =
    let self = c.args.self.now in
    let up = c.end_up_to.ensures in
    (walks (kinds_in self) (array_in self) c.args.i c.args.run self.start self.count c.end_up_to.result c.runs_hold.ensures c.requires.inside
    c.requires.at self.starts_at self.counted up.ends up.places up.exact).same

pub returns-clause-next : goal.returns-clause-next
returns-clause-next c =
    let self = c.args.self.now in
    let up = c.end_up_to.ensures in
    (walks (kinds_in self) (array_in self) c.args.i c.args.run self.start self.count c.end_up_to.result c.runs_hold.ensures c.requires.inside
    c.requires.at self.starts_at self.counted up.ends up.places up.exact).next
