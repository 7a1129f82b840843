use Rattle.std.proofs.Common.{◌∙◌, ◌++◌, ap, sym, get_or, List}
use Rattle.std.proofs.lemmas.List.{get_or-map}
use Rattle.data_types.specs.ColumnView.{column_of}
use Rattle.data_types.specs.promise.Parts.{member_columns}
use Rattle.data_types.specs.promise.Table.{Column}
use Rattle.stage_model.specs.promise.Typing.{no_column, struct_members}
use Rattle.stage_plan.specs.PlanWords.{columns_in}
use Rattle.stage_plan.proofs.AfterColumns.{three-parts}
use Rattle.stage_plan.proofs.after.unpacked.Goals as goal

pub returns : goal.returns
returns c =
    let columns = c.args.columns.now in
    let place = c.args.place in
    let is = get_or-map column_of columns place c.index-columns-place.result no_column c.requires.within in
    let fields = c.members.ensures.are ∙ ap (λ (x : Column). member_columns (struct_members x.kind)) (sym is) in
    three-parts columns place (columns_in c.in_ok-after.after.items) (member_columns (struct_members (get_or (columns_in columns) place no_column).kind))
    (columns_in c.add_columns.new.after.items) (columns_in c.add_columns-2.new.after.items) c.in_ok-after.ensures
    (c.in_ok-add_columns.ensures ∙ ap (λ (l : List Column). columns_in c.in_ok-after.after.items ++ l) fields) c.in_ok-add_columns-2.ensures
