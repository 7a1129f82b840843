use Rattle.std.proofs.Common.{◌≡◌, ◌≤◌, ◌<◌, ◌∙◌, ℕ, List, arith, get_or, length, map, refl, subst, sym}
use Rattle.std.proofs.lemmas.Bool.Decides.{nat_tests}
use Rattle.std.specs.Vec.{with_items}
use Rattle.std.proofs.lemmas.List.{with_items_is}
use Rattle.col_build.specs.Holding.{HoldsSome}
use Rattle.col_build.specs.declared.builder.Builder.{Builder}
use Rattle.data_types.specs.ColumnView.{column_of}
use Rattle.csv_read.specs.ColumnForms.{AreBegun}
use Rattle.csv_read.specs.Emptied.{AreEmptied}
use Rattle.csv_read.proofs.BodyRows.{no-rows}
use Rattle.csv_read.proofs.EmptiedBuilders.{ready-begun, ready-held}
use Rattle.csv_read.proofs.body_columns.BodyColumns.begin.Goals as goal

pub returns-then-is_empty-clause-rows : goal.returns-then-is_empty-clause-rows
returns-then-is_empty-clause-rows c = no-rows _ (map column_of c.args.columns.now) c.requires.forms c.in_ok-self.ensures refl

pub begin_all-requires-clause-held : goal.begin_all-requires-clause-held
begin_all-requires-clause-held c =
    subst (λ (bs : List Builder). (j : ℕ) (b : Builder) → j < length bs → HoldsSome (get_or bs j b)) (sym c.as_mut_slice.ensures.value)
    (ready-held c.args.self.now.builders.items (map column_of c.args.columns.now) c.requires.builders)

pub returns-clause-rows : goal.returns-clause-rows
returns-clause-rows c =
    let made = c.args.self.now in
    let columns = map column_of c.args.columns.now in
    let new = c.begin_all.new.builders in
    let some : 1 ≤ length made.builders.items = grind (arith, nat_tests, c.is_empty.ensures, c.if-is_empty.false, made.builders.ok.0) in
    let emptied : AreEmptied made.builders.items new =
    subst (λ (bs : List Builder). AreEmptied bs new) c.as_mut_slice.ensures.value c.in_ok-begin_all.ensures in
    let whole : (with_items made.builders new).items ≡ new = with_items_is made.builders new (emptied.count ∙ sym made.builders.ok.0) in
    no-rows _ columns c.requires.forms
    (subst (λ (bs : List Builder). AreBegun bs columns) (sym whole) (ready-begun made.builders.items new columns c.requires.builders some emptied)) refl
