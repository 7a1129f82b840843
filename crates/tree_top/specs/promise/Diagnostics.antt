-- What is written of a fault.
use Rattle.std.specs.Prelude.{ℕ, ◌++◌, false, List, [], ◌∷◌, Option, None, Some, codes}
use Rattle.std.specs.Fmt.{digit_glyph}
use Rattle.tree_check.specs.promise.Runs.{status_by}
use Rattle.tree_top.specs.promise.Faults.{cause_of}
use Rattle.tree_top.specs.declared.fault.TreeRunFault.{TreeRunFault}

-- the line of a fault, where there is one: its status, which is a digit
abbrev pub status_line : Option TreeRunFault → List ℕ
status_line None = []
status_line (Some fault) = codes "arrowtree: status " ++ digit_glyph false (status_by (cause_of fault)) ∷ codes "\n"
