use Rattle.std.proofs.Common.{rules, ◌≡◌, ◌<◌, None, Some, sym}
use Rattle.arr_import.specs.Window.{item_at}
use Rattle.arr_import.specs.Cols.{window_of}
use Rattle.layout_rules.proofs.Firsts.{first_below-none, first_below-some}
use Rattle.run_ends.specs.RunRules.{end_falls}
use Rattle.run_ends.proofs.ends.first_fall.Goals as goal

pub returns-in-Some : goal.returns-in-Some
returns-in-Some c =
    let w = window_of c.args.ends.now in
    let inside : c.loop-k.k < w.count = search rules in
    let is : end_falls (item_at w) c.loop-k.k ≡ Some c.in-Some.numbers = search rules in
    sym (first_below-some (end_falls (item_at w)) w.count c.loop-k.k c.in-Some.numbers inside c.loop-k.invariant is)

pub loop-k-preserved : goal.loop-k-preserved
loop-k-preserved c =
    let w = window_of c.args.ends.now in
    let is : end_falls (item_at w) c.loop-k.k ≡ None = search rules in
    first_below-none (end_falls (item_at w)) c.loop-k.k c.loop-k.invariant is
