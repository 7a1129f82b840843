use Rattle.std.proofs.Common.{◌∙◌, sym, ap, subst}
use Rattle.std.proofs.lemmas.Result.{IfOk-weaker}
use Rattle.arr_import.specs.Cols.{window_of}
use Rattle.arr_import.specs.Window.{whole}
use Rattle.col_build.specs.Holding.{Holds}
use Rattle.data_types.specs.promise.KindTrees.{KindTree}
use Rattle.column_fill.specs.Gathered.{shown_at}
use Rattle.column_fill.proofs.Taken.{places-gather, shown-is}
use Rattle.column_fill.proofs.numbers.gathered.Goals as goal

pub gathered_places-requires : goal.gathered_places-requires
gathered_places-requires c =
    let array = c.args.array.now in
    let w = window_of c.of-items.result in
    let is = c.of-items.ensures.window ∙ ap (λ (t : KindTree). whole t array) c.requires.typed in
    record {
      items = places-gather c.args.kind.now array c.args.start c.args.kept.now c.in-Some.places w is c.requires.items c.in-Some.ensures.some c.in-Some.ensures.stored;
    }

pub returns-in-Some : goal.returns-in-Some
returns-in-Some c =
    let array = c.args.array.now in
    let kind = c.args.kind.now in
    let w = window_of c.of-items.result in
    let is = c.of-items.ensures.window ∙ ap (λ (t : KindTree). whole t array) c.requires.typed in
    IfOk-weaker c.gathered_places.result (λ builder. Holds builder kind (shown_at c.in-Some.places c.args.start c.args.kept.now)) _
    (λ builder holds. subst (Holds builder kind)
    (sym (shown-is kind array c.args.start c.args.kept.now c.in-Some.places w is c.requires.items c.in-Some.ensures.some)) holds)
    c.gathered_places.ensures
