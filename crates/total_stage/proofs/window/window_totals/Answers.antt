use Rattle.arr_import.specs.Cols.{window_of}
use Rattle.total_stage.proofs.window.window_totals.Goals as goal

pub place_totals-requires-clause-shown : goal.place_totals-requires-clause-shown
place_totals-requires-clause-shown c =
    (window_of c.args.items.now, record { shows = c.in-Some.ensures.some; inside = c.requires.inside; small = c.requires.small })

pub place_totals-requires-in-Wholes-eq64-true-clause-shown : goal.place_totals-requires-in-Wholes-eq64-true-clause-shown
place_totals-requires-in-Wholes-eq64-true-clause-shown c =
    (window_of c.args.items.now, record { shows = c.in-Some.ensures.some; inside = c.requires.inside; small = c.requires.small })

pub place_totals-requires-in-Wholes-eq128-true-clause-shown : goal.place_totals-requires-in-Wholes-eq128-true-clause-shown
place_totals-requires-in-Wholes-eq128-true-clause-shown c =
    (window_of c.args.items.now, record { shows = c.in-Some.ensures.some; inside = c.requires.inside; small = c.requires.small })
