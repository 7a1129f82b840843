-- What a sink took of a line.
use Rattle.std.proofs.Common.{ℕ, ◌≤◌, List, Option, Result, Ok, Err, IfErr, OnErr, OnOk, inl, inr, length, take}
use Rattle.std.specs.Io.KnownBytes.{Appends}
use Rattle.edge_io.specs.promise.Edge.{Rose}
use Rattle.edge_io.specs.Edge.{taken_by}
use Rattle.edge_io.specs.declared.edge.WriteFault.{WriteFault}
use Rattle.tree_check.specs.promise.Runs.{Took}

pub took : (r : Result (Unit {0}) WriteFault) (old new : Option (List ℕ)) (before now : ℕ) (text : List ℕ) → OnOk r (Appends old new text)
    → OnErr r (Rose before now) → IfErr r (λ e. taken_by e ≤ length text) → IfErr r (λ e. Appends old new (take (taken_by e) text))
    → Took old new before now text
took (Ok done) old new before now text all rose within prefix = inl all
took (Err e) old new before now text all rose within prefix = inr (taken_by e, within, prefix, rose)
