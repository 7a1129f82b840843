-- What holds over whole runs of the machine, whatever the events.
use Rattle.std.specs.Prelude.{◌≡◌, ◌≢◌, ℕ, ◌+◌, ◌≤◌, List, [], ◌∷◌}
use Rattle.holder_core.specs.declared.Deed.TheVariants.{Home, Gone}
use Rattle.holder_core.specs.declared.Event.{Event}
use Rattle.holder_core.specs.declared.Event.TheVariants.{Read}
use Rattle.holder_core.specs.declared.Reply.{Reply}
use Rattle.holder_core.specs.declared.Reply.TheVariants.{NewHolder, Kept, Last, Bytes, Refused, NoMemory}
use Rattle.holder_core.specs.declared.Reply.TheVariants as reply
use Rattle.holder_core.specs.HolderMachine.{Holders, HolderOk, Step}

-- an event and the reply that it got
pub record Answered : Type 0 where
  pub event : Event
  pub reply : Reply

-- these events, with these replies, lead from s to t
abbrev pub Runs : Holders → List Answered → Holders → Type 0
Runs s [] t = s ≡ t
Runs s (a ∷ log) t = (m : Holders) × Step s a.event a.reply m × Runs m log t

abbrev pub deed_in : Reply → ℕ
deed_in (NewHolder n) = 0
deed_in Kept = 0
deed_in Last = 0
deed_in reply.Deed = 1
deed_in Bytes = 0
deed_in Refused = 0
deed_in NoMemory = 0

-- how often the deed was handed out
abbrev pub deeds : List Answered → ℕ
deeds [] = 0
deeds (a ∷ log) = deed_in a.reply + deeds log

abbrev pub StepKeepsOk : Type 0
StepKeepsOk = (s t : Holders) (e : Event) (r : Reply) → HolderOk s → Step s e r t → HolderOk t

abbrev pub RunKeepsOk : Type 0
RunKeepsOk = (s t : Holders) (log : List Answered) → HolderOk s → Runs s log t → HolderOk t

abbrev pub NeverHomeAgain : Type 0
NeverHomeAgain = (s t : Holders) (log : List Answered) → HolderOk s → Runs s log t → s.deed ≢ Home → t.deed ≢ Home

abbrev pub GoneStays : Type 0
GoneStays = (s t : Holders) (log : List Answered) → HolderOk s → Runs s log t → s.deed ≡ Gone → t.deed ≡ Gone

abbrev pub DeedAtMostOnce : Type 0
DeedAtMostOnce = (s t : Holders) (log : List Answered) → HolderOk s → Runs s log t → deeds log ≤ 1

abbrev pub ReadsAtHome : Type 0
ReadsAtHome = (s t : Holders) (holder : ℕ) → HolderOk s → Step s (Read holder) Bytes t → s.deed ≡ Home
