use Rattle.std.proofs.Common.{◌≡◌, ◌∙◌, ◌++◌, List, ℕ, ℤ, true, false, ap, to_z, of_z, w32, rules}
use Rattle.std.specs.Prelude.{codes}
use Rattle.std.proofs.lemmas.Result.{on_ok_weaker}
use Rattle.data_types.specs.ColumnView.{column_of}
use Rattle.data_types.specs.promise.Table.{Flat}
use Rattle.data_types.specs.declared.kind.DataType.TheVariants as kinds
use Rattle.stage_model.specs.promise.Typing.{column, scale_of}
use Rattle.stage_plan.specs.PlanWords.{columns_in, with_end}
use Rattle.stage_plan.proofs.AfterColumns.{four-added, one-added}
use Rattle.stage_plan.proofs.after.add_totals.Goals as goal

pub returns : goal.returns
returns c =
    let of = column_of c.args.column.now in
    let count = column (of.name ++ codes "_count") (Flat (kinds.Int 64 true)) in
    let sum = column (of.name ++ codes "_sum") (Flat (kinds.Decimal 38 (scale_of of.kind) false)) in
    let least = with_end of (codes "_min") in
    let most = with_end of (codes "_max") in
    let scale : to_z w32 (of_z w32 c.scale_of.result) ≡ c.scale_of.result = search rules in
    let counted : column_of c.in_ok-flat_column.field-0 ≡ count =
    c.in_ok-flat_column.ensures ∙ ap (λ (name : List ℕ). column (name ++ codes "_count") count.kind) c.as_slice-name.ensures in
    let summed : column_of c.in_ok-flat_column-2.field-0 ≡ sum =
    c.in_ok-flat_column-2.ensures
    ∙ ap (λ (name : List ℕ). column (name ++ codes "_sum") (Flat (kinds.Decimal 38 (to_z w32 (of_z w32 c.scale_of.result)) false))) c.as_slice-name.ensures
    ∙ ap (λ (scale : ℤ). column (of.name ++ codes "_sum") (Flat (kinds.Decimal 38 scale false))) (scale ∙ c.scale_of.ensures) in
    on_ok_weaker c.add-4.result
    (λ last. four-added count sum least most (columns_in c.args.after.now.items) (columns_in c.add.new.after.items) (columns_in c.add-2.new.after.items)
    (columns_in c.add-3.new.after.items) (columns_in c.add-4.new.after.items)
    (one-added c.args.after.now.items c.add.new.after.items c.in_ok-flat_column.field-0 count counted c.in_ok-add.ensures)
    (one-added c.add.new.after.items c.add-2.new.after.items c.in_ok-flat_column-2.field-0 sum summed c.in_ok-add-2.ensures)
    (one-added c.add-2.new.after.items c.add-3.new.after.items c.in_ok-named.field-0 least c.in_ok-named.ensures c.in_ok-add-3.ensures)
    (one-added c.add-3.new.after.items c.add-4.new.after.items c.in_ok-named-2.field-0 most c.in_ok-named-2.ensures last))
    c.add-4.ensures
