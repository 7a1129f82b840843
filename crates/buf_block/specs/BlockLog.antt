-- Whole logs of what threads do to a block: from the block as it is made, one step after another, each by some seat.
use Rattle.std.specs.Prelude.{◌≡◌, ℕ, ◌+◌, ◌≤◌, ◌↔◌, ◌⊎◌, List, [], ◌∷◌, map, length, slice_index}
use mathlib.Core.Option.{some, none}
use lib.ListN.{get_elem?}
use Rattle.atomic_table.specs.Table.{State, Act, Valid, step, stepped, carried_after}
use Rattle.holder_core.specs.HolderMachine.{Holders, HolderOk}
use Rattle.holder_core.specs.HolderRuns.{Answered, Runs}
use Rattle.holder_core.specs.declared.Deed.TheVariants.{Home}
use Rattle.holder_core.specs.declared.Event.{Event}
use Rattle.holder_core.specs.declared.Event.TheVariants.{Split, LetGo, TakeDeed, Read}
use Rattle.buf_block.specs.declared.rule.HolderView.{HolderView}
use Rattle.buf_block.specs.Block.{holding, total, SlotState, slot_with_deed, slot_without_deed, IsBlock, GivesBack}
use Rattle.buf_block.specs.BlockView.{Hands, empty_hands, hands_with, WasLast, Shows, first_state, split_at, less_by}

-- ---- a block, and the steps of its seats
-- a block between two steps: its table's state, and the slots in the hands of its seats
pub record Scene : Type 0 where
  pub table : State SlotState HolderView
  pub hands : Hands

-- the block as it is made
abbrev pub made : Scene
made = record { table = first_state; hands = empty_hands }

-- what the seat with this number does: it gives 1 of its amount to a new seat, gives all of its amount back, takes the deed out of the
-- slot in its hands, or reads the bytes
pub data BlockStep : Type 0 where
  splits_off : ℕ → BlockStep
  lets_go : ℕ → BlockStep
  takes_deed : ℕ → BlockStep
  reads : ℕ → BlockStep

-- the seat holds this amount, as a `Hold` does
abbrev pub HasAmount : Scene → ℕ → ℕ → Type 0
HasAmount s seat amount = (get_elem? s.table.views seat ≡ some (holding amount)) × (1 ≤ amount)

abbrev pub after_split_off : Scene → ℕ → ℕ → Scene
after_split_off s seat amount = record { table = split_at s.table seat amount; hands = hands_with s.hands (length s.table.views) [] }

-- the amount that the block's word has
abbrev pub found_in : Scene → ℕ
found_in s = slice_index s.table.words 0

-- the block after the subtraction, where the seat gets this view and does this to the slot
abbrev pub after_giving : Scene → ℕ → ℕ → HolderView → Act SlotState → Scene
after_giving s seat amount view act = record {
  table = stepped s.table 0 (less_by amount (found_in s)) seat [] view act;
  hands = hands_with s.hands seat (carried_after [] act);
}

-- One step. A seat with an amount may read, let go, or split where it has at least 2. Of a subtraction is known what the table promises of
-- it: the rule is kept, and the seat's new view and its slot are as `GivesBack` says. Only the last seat has the slot with the deed.
abbrev pub Does : Scene → BlockStep → Scene → Type 0
Does s (splits_off seat) t = (amount : ℕ) × HasAmount s seat amount × (2 ≤ amount) × (after_split_off s seat amount ≡ t)
Does s (lets_go seat) t =
    (amount : ℕ) × (view : HolderView) × (act : Act SlotState) × HasAmount s seat amount × Valid s.table.homes [] act
    × IsBlock (after_giving s seat amount view act).table
    × GivesBack (step 1 0 amount 0 none) (holding amount, []) (found_in s) (view, carried_after [] act)
    × (after_giving s seat amount view act ≡ t)
Does s (takes_deed seat) t =
    WasLast s.table.views seat × (s.hands seat ≡ slot_with_deed)
    × (record { table = s.table; hands = hands_with s.hands seat slot_without_deed } ≡ t)
Does s (reads seat) t = (amount : ℕ) × HasAmount s seat amount × (s ≡ t)

-- ---- logs of steps
-- these steps, one after another, lead from s to t
abbrev pub Log : Scene → List BlockStep → Scene → Type 0
Log s [] t = s ≡ t
Log s (b ∷ log) t = (m : Scene) × Does s b m × Log m log t

abbrev pub taken_by : BlockStep → ℕ
taken_by (splits_off seat) = 0
taken_by (lets_go seat) = 0
taken_by (takes_deed seat) = 1
taken_by (reads seat) = 0

-- how often the deed was taken out of its slot
abbrev pub taken : List BlockStep → ℕ
taken [] = 0
taken (b ∷ log) = taken_by b + taken log

-- the last seat has the slot without the deed
abbrev pub IsEmptied : Scene → Type 0
IsEmptied s = (seat : ℕ) × WasLast s.table.views seat × (s.hands seat ≡ slot_without_deed)

-- what the machine of holders is sent
abbrev pub event_of : BlockStep → Event
event_of (splits_off seat) = Split seat 1
event_of (lets_go seat) = LetGo seat
event_of (takes_deed seat) = TakeDeed seat
event_of (reads seat) = Read seat

-- one holder with the whole amount
abbrev pub first_holders : Holders
first_holders = record { amounts = 4294967296 ∷ []; deed = Home }

-- ---- whatever the log

-- the machine that is sent the same events runs to the state that the block shows at the end
abbrev pub RunsTheMachine : Type 0
RunsTheMachine = (log : List BlockStep) (t : Scene) → Log made log t
    → (h : Holders) × (answers : List Answered) × Runs first_holders answers h × (map (λ a. a.event) answers ≡ map event_of log) × Shows t.table t.hands h

abbrev pub KeepsTheInvariant : Type 0
KeepsTheInvariant = (log : List BlockStep) (t : Scene) → Log made log t → IsBlock t.table × (h : Holders) × Shows t.table t.hands h × HolderOk h

abbrev pub DeedTakenAtMostOnce : Type 0
DeedTakenAtMostOnce = (log : List BlockStep) (t : Scene) → Log made log t → taken log ≤ 1

-- and just once exactly where the last seat has the emptied slot; then no seat has an amount
abbrev pub DeedTakenWhereEmptied : Type 0
DeedTakenWhereEmptied = (log : List BlockStep) (t : Scene) → Log made log t → (taken log ≡ 1) ↔ IsEmptied t

abbrev pub EmptiedAtTheEnd : Type 0
EmptiedAtTheEnd = (log : List BlockStep) (t : Scene) → Log made log t → taken log ≡ 1 → total t.table.views ≡ 0

abbrev pub NoReadBehindTheDeed : Type 0
NoReadBehindTheDeed = (log : List BlockStep) (s t : Scene) (seat : ℕ) → Log made log s → Does s (reads seat) t → taken log ≡ 0

-- where no seat has an amount, the deed was taken, or the last seat can take it
abbrev pub DeedTakenOrDue : Type 0
DeedTakenOrDue = (log : List BlockStep) (s : Scene) → Log made log s → total s.table.views ≡ 0
    → (taken log ≡ 1) ⊎ ((seat : ℕ) × (t : Scene) × Does s (takes_deed seat) t)

abbrev pub HoldersCanLetGo : Type 0
HoldersCanLetGo = (log : List BlockStep) (s : Scene) (seat amount : ℕ) → Log made log s → HasAmount s seat amount → (t : Scene) × Does s (lets_go seat) t
