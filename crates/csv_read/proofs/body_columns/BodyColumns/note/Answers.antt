use Rattle.std.proofs.Common.{List, ℕ, ◌<◌, get_or, length, subst, sym}
use Rattle.col_build.specs.Holding.{HoldsSome}
use Rattle.col_build.specs.declared.builder.Builder.{Builder}
use Rattle.csv_read.proofs.BodyRows.{all-held}
use Rattle.csv_read.proofs.body_columns.BodyColumns.note.Goals as goal

pub note_used-requires-clause-held : goal.note_used-requires-clause-held
note_used-requires-clause-held c =
    let made = c.args.self.now in
    subst (λ (builders : List Builder). (j : ℕ) (b : Builder) → j < length builders → HoldsSome (get_or builders j b)) (sym c.as_slice.ensures.value)
    (all-held made.forms.items made.builders.items c.requires.held.0 c.requires.held.1 c.requires.held.2.held)
