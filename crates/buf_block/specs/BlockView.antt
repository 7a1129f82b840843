-- What a block shows of the machine of holders, and what each atomic step on it is to the machine.
--
-- The table's state has the amounts, and whether the deed's slot is at home. That a deed which is due has gone is known to the one seat
-- that made the exchange, by the slot in its own hands. So a block is seen as its table's state beside the hands of its seats.
use Rattle.std.specs.Prelude.{◌≡◌, ℕ, ◌+◌, ◌-◌, ◌%◌, ◌^◌, ◌≤◌, ◌==◌, ◌↔◌, true, false, Some, List, [], ◌∷◌, ◌++◌, length, slice_index, slice_set, if◌then◌else◌}
use mathlib.Core.Option.{some, none}
use lib.ListN.{get_elem?}
use Rattle.atomic_table.specs.Table.{State, Act, Splits, Valid, step, stepped, opening, carried_after}
use Rattle.holder_core.specs.HolderMachine.{Holders, HolderOk, Step, after_split, after_let_go, with_deed}
use Rattle.holder_core.specs.declared.Deed.TheVariants.{Home, Due, Gone}
use Rattle.holder_core.specs.declared.Event.TheVariants.{Split, LetGo, TakeDeed, Read}
use Rattle.holder_core.specs.declared.Reply.TheVariants.{NewHolder, Kept, Last, Bytes}
use Rattle.holder_core.specs.declared.Reply.TheVariants as reply
use Rattle.buf_block.specs.declared.rule.HolderView.{HolderView}
use Rattle.buf_block.specs.Block.{holding, amounts_of, SlotState, slot_at, slot_with_deed, slot_without_deed, IsBlock, GivesBack}

-- the slots in the hands of each seat, by its number, with the values that they hold
abbrev pub Hands : Type 0
Hands = ℕ → List (ℕ × SlotState)

abbrev pub empty_hands : Hands
empty_hands seat = []

-- the hands, once one seat has these slots
abbrev pub hands_with : Hands → ℕ → List (ℕ × SlotState) → Hands
hands_with hands seat slots other = if other == seat then slots else hands other

-- the seat's view says that it was the last
abbrev pub WasLast : List HolderView → ℕ → Type 0
WasLast views seat = (g : HolderView) × (get_elem? views seat ≡ some g) × (g.last ≡ true)

-- The amounts are those of the seats, in order. The deed is at home while the slot is, due to the last seat while that has the slot with
-- the deed in it, and gone after this seat's exchange.
pub record Shows (s : State SlotState HolderView) (hands : Hands) (h : Holders) : Type 0 where
  pub amounts : h.amounts ≡ amounts_of s.views
  pub home : (h.deed ≡ Home) ↔ (s.homes ≡ slot_at false)
  pub due : (seat : ℕ) → (h.deed ≡ Due seat) ↔ (WasLast s.views seat × (hands seat ≡ slot_with_deed))
  pub gone : (h.deed ≡ Gone) ↔ ((seat : ℕ) × WasLast s.views seat × (hands seat ≡ slot_without_deed))

-- the block shows this state, and the seat holds this amount of it
pub record HoldsAt (s : State SlotState HolderView) (hands : Hands) (h : Holders) (seat amount : ℕ) : Type 0 where
  pub rule : IsBlock s
  pub shown : Shows s hands h
  pub view : get_elem? s.views seat ≡ some (holding amount)
  pub some_amount : 1 ≤ amount

-- ---- a block between two steps

abbrev pub ShowsOk : Type 0
ShowsOk = (s : State SlotState HolderView) (hands : Hands) (h : Holders) → IsBlock s → Shows s hands h → HolderOk h

abbrev pub ShowsOne : Type 0
ShowsOne = (s : State SlotState HolderView) (hands : Hands) (h k : Holders) → Shows s hands h → Shows s hands k → h ≡ k

-- ---- the four kinds of step

-- the table as it is made with its first seat
abbrev pub first_state : State SlotState HolderView
first_state = opening (4294967296 ∷ []) (Some (record {}) ∷ []) (holding 4294967296)

abbrev pub MadeWhole : Type 0
MadeWhole = IsBlock first_state × Shows first_state empty_hands (record { amounts = 4294967296 ∷ []; deed = Home })

-- the block, where one of the amount goes to a new seat
abbrev pub split_at : State SlotState HolderView → ℕ → ℕ → State SlotState HolderView
split_at s seat amount = record { words = s.words; homes = s.homes; views = slice_set s.views seat (holding (amount - 1)) ++ holding 1 ∷ [] }

-- such a split keeps the block's rule
abbrev pub SplitIsTheTables : Type 0
SplitIsTheTables = (seat amount : ℕ) → 2 ≤ amount → Splits IsBlock seat (holding amount) (holding (amount - 1)) (holding 1)
    × ((s : State SlotState HolderView) → IsBlock s → get_elem? s.views seat ≡ some (holding amount) → IsBlock (split_at s seat amount))

abbrev pub SplitIsStep : Type 0
SplitIsStep = (s : State SlotState HolderView) (hands : Hands) (h : Holders) (seat amount : ℕ) → HoldsAt s hands h seat amount → 2 ≤ amount
    → Step h (Split seat 1) (NewHolder (length h.amounts)) (after_split h seat 1)
    × Shows (split_at s seat amount) (hands_with hands (length s.views) []) (after_split h seat 1)

-- the word, once the table has subtracted this amount
abbrev pub less_by : ℕ → ℕ → ℕ
less_by amount word = (word + (2 ^ 64 - amount)) % 2 ^ 64

-- Whatever view the seat gets and whatever it does to the slot: where the rule is kept and the step tells what it promises, it is the
-- machine's.
abbrev pub LetGoIsStep : Type 0
LetGoIsStep = (s : State SlotState HolderView) (hands : Hands) (h : Holders) (seat amount : ℕ) → HoldsAt s hands h seat amount
    → (view : HolderView) (act : Act SlotState) → Valid s.homes [] act
    → let found = slice_index s.words 0 in
    let after = stepped s 0 (less_by amount found) seat [] view act in
    IsBlock after → GivesBack (step 1 0 amount 0 none) (holding amount, []) found (view, carried_after [] act)
    → Step h (LetGo seat) (if found == amount then Last else Kept) (after_let_go h seat)
    × Shows after (hands_with hands seat (carried_after [] act)) (after_let_go h seat)

-- the exchange is no step on the word, and only the last seat has the slot
abbrev pub ExchangeIsStep : Type 0
ExchangeIsStep = (s : State SlotState HolderView) (hands : Hands) (h : Holders) (seat : ℕ)
    → IsBlock s → Shows s hands h → WasLast s.views seat → hands seat ≡ slot_with_deed
    → Step h (TakeDeed seat) reply.Deed (with_deed h Gone) × Shows s (hands_with hands seat slot_without_deed) (with_deed h Gone)

abbrev pub ReadIsStep : Type 0
ReadIsStep = (s : State SlotState HolderView) (hands : Hands) (h : Holders) (seat amount : ℕ) → HoldsAt s hands h seat amount
    → Step h (Read seat) Bytes h × (h.deed ≡ Home)
