use Rattle.std.proofs.Common.{arith}
use Rattle.std.proofs.KnownBytes.{Appends-trans}
use Rattle.run_model.proofs.Pieces.{first-less, first-then, says-failed}
use Rattle.run_model.proofs.diagnostics.write_diagnostics.Goals as goal

pub returns-in_err-tell_fault_if : goal.returns-in_err-tell_fault_if
returns-in_err-tell_fault_if g c =
    says-failed _ _ _ _ _ _ c.from_residual.ensures.0 (first-less _ _ _ _ _ _ c.in_err-tell_fault_if.ensures)

pub returns-in_err-tell_audit_if : goal.returns-in_err-tell_audit_if
returns-in_err-tell_audit_if g c =
    let told = c.in_ok-tell_fault_if.ensures in
    says-failed _ _ _ _ _ _ c.from_residual-in_err-tell_audit_if.ensures.0 (first-then _ _ _ _ _ _ _ _ told.0 told.1 c.in_err-tell_audit_if.ensures)

pub returns : goal.returns
returns g c =
    let told = c.in_ok-tell_fault_if.ensures in
    let more = c.in_ok-tell_audit_if.ensures in
    (Appends-trans _ _ _ _ _ told.0 more.0, omega (arith, told.1, more.1))
