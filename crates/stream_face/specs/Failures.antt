-- Why a checked stream refused, as the code keeps it.
use Rattle.std.specs.Prelude.{Option, Some, None}
use Rattle.stream_face.specs.declared.fault.Failure.{Failure}
use Rattle.stream_face.specs.declared.fault.StreamFault.{StreamFault}

abbrev pub why : Option Failure → Option StreamFault
why None = None
why (Some failure) = Some failure.fault
