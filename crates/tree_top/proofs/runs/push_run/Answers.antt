use Rattle.std.proofs.Common.{◌∙◌, ◌++◌, ap}
use Rattle.arr_import.specs.Cols.{window_of}
use Rattle.run_ends.specs.ColumnRuns.{values_in}
use Rattle.data_types.specs.NumberedTexts.{numbered_line}
use Rattle.tree_top.proofs.Running.{inside-window, item-there}
use Rattle.tree_top.proofs.runs.push_run.Goals as goal

pub push_numbered-requires-clause-inside : goal.push_numbered-requires-clause-inside
push_numbered-requires-clause-inside c =
    inside-window (window_of c.args.items.now) (values_in c.args.runs.now) c.requires.same c.args.at c.requires.inside

pub returns-clause-line : goal.returns-clause-line
returns-clause-line c =
    c.in_ok-push_numbered.ensures
    ∙ ap (λ v. c.args.text.now ++ numbered_line (c.stop_of-stop.result, v))
    (item-there (window_of c.args.items.now) (values_in c.args.runs.now) c.requires.same c.args.at c.requires.inside)
