use Rattle.std.proofs.Common.{Some, subst, sym}
use Rattle.std.proofs.Math.Facts.{to_z-of_z}
use Rattle.stream_face.specs.Calls.{Tells}
use Rattle.stream_face.specs.Faults.{IsWhy}
use Rattle.stream_face.proofs.raw.refuse.Goals as goal

pub returns-clause-why : goal.returns-clause-why
returns-clause-why g c = λ kinds before.
    let inner = g.S.ArrayStream.state c.args.inner.now in
    subst (λ z. Tells z inner.said → IsWhy z kinds before inner (Some c.fault_of-fault.result)) (to_z-of_z c.ranges.code)
    (λ tells. c.fault_of-fault.ensures.why kinds before inner tells (sym c.fault.ensures)) c.requires.tells
