-- What a run writes of its fault and of its audit, and what of that came to the sink of diagnostics.
use Rattle.std.specs.Prelude.{ℕ, ◌≤◌, ◌++◌, List, Option, Result, Ok, Err, codes, decimal, length, map, take}
use Rattle.std.specs.List.{concat}
use Rattle.std.specs.Borrow.{Bor}
use Rattle.std.specs.Io.KnownBytes.{Appends}
use Rattle.unit_pass.specs.declared.pass.Audit.{Audit}
use Rattle.edge_io.specs.promise.Edge.{Rose}
use Rattle.edge_io.specs.declared.edge.WriteFault.{WriteFault}

-- ---- the lines

abbrev pub line_of : List ℕ → List ℕ
line_of text = codes "arrowpipe: " ++ text ++ codes "\n"

-- the line of an audit, of which nothing is left
abbrev pub audit_line : Audit → List ℕ
audit_line audit = codes "audit blocks=" ++ decimal audit.blocks ++ codes " nodes=" ++ decimal audit.nodes ++ codes " left=0\n"

-- ---- what came to the sink

-- the sink took the first bytes of a text, and then its faults rose
abbrev pub TookFirst : Option (List ℕ) → Option (List ℕ) → ℕ → ℕ → List ℕ → Type 0
TookFirst old new before now text = (taken : ℕ) × (taken ≤ length text) × Appends old new (take taken text) × Rose before now

-- a text was taken, or its first bytes, and the result says which
abbrev pub Says : Result Unit WriteFault → Option (List ℕ) → Option (List ℕ) → ℕ → ℕ → List ℕ → Type 0
Says (Ok done) old new before now text = Appends old new text × (before ≤ now)
Says (Err fault) old new before now text = TookFirst old new before now text

-- the texts one after the other
abbrev pub joined : List (Bor (List ℕ)) → List ℕ
joined pieces = concat (map (λ piece. piece.now) pieces)
