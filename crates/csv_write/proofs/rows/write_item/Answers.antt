use Rattle.std.proofs.Common.{◌++◌, ◌∷◌, [], subst}
use Rattle.csv_write.specs.Lines.{HasFields}
use Rattle.csv_write.proofs.rows.write_item.Goals as goal

pub returns : goal.returns
returns c column text fields reads has few h =
    subst (λ field. HasFields c.write_text.new.writer text (fields ++ field ∷ [])) (c.in_ok-text.ensures column reads has)
    (c.in_ok-write_text.ensures text fields few h)
