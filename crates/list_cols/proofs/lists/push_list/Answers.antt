use Rattle.std.proofs.Common.{◌∙◌, ◌++◌, List, ap, sym, subst}
use Rattle.std.specs.Prelude.{OnOk}
use Rattle.std.proofs.lemmas.List.{append-nil}
use Rattle.col_build.specs.Holding.{Holds}
use Rattle.data_types.specs.promise.Value.{Value}
use Rattle.list_cols.specs.Listed.{AddsAll, TakesAll}
use Rattle.list_cols.proofs.lists.push_list.Goals as goal

pub push_items-requires : goal.push_items-requires
push_items-requires c = record { takes = subst (TakesAll c.args.builder.now c.args.storage) c.in-Some.ensures.some c.requires.takes }

pub returns-in-Some : goal.returns-in-Some
returns-in-Some c =
    subst (λ (vs : List Value). OnOk c.push_items.result (AddsAll vs c.args.builder.now c.push_items.new.builder)) (sym c.in-Some.ensures.some)
    c.push_items.ensures

pub returns-in-None : goal.returns-in-None
returns-in-None c = λ kind values holds.
    subst (Holds c.args.builder.now kind) (sym (ap (λ (vs : List Value). values ++ vs) c.in-None.ensures.none ∙ append-nil values)) holds
