use Rattle.std.proofs.Common.{rules, ◌≡◌, None, arith}
use Rattle.std.proofs.lemmas.Grind.{common_steps}
use Rattle.data_types.specs.declared.kind.DataType.TheVariants as kinds
use Rattle.tree_model.specs.promise.TreeData.{Live, trees, absent}
use Rattle.raw_array.specs.promise.Members.{members_of}
use Rattle.data_types.specs.promise.TypedView.{typed_of}
use Rattle.data_types.specs.TypedView.{kids_of}
use Rattle.layout_rules.specs.promise.Layout.{buffer}
use Rattle.run_ends.proofs.ValueRuns.{all-empty}
use Rattle.run_ends.proofs.column_runs.ColumnRuns.are_alike.Goals as goal

pub returns-then-is_none : goal.returns-then-is_none
returns-then-is_none c = λ yes.
    let typed = c.args.self.now.typed.now in
    let array = c.args.self.now.array.now in
    let is : typed_of typed ≡ Live (kinds.FixedBinary 0) (trees (kids_of typed)) absent = first_of (search rules, grind (arith, common_steps)) in
    let none : buffer (members_of array) 0 ≡ None = first_of (search rules, grind (arith, common_steps)) in
    all-empty (typed_of typed) (trees (kids_of typed)) array is c.lawful_root.ensures.live none
