-- The receipt of a hold that let go, as contracts see it.
use Rattle.std.specs.Prelude.{◌≡◌, ℕ, ◌↔◌, true, List}
use Rattle.buf_block.specs.declared.hold.LetGo.{LetGo}
use Rattle.buf_block.specs.declared.hold.LetGo.TheVariants.{Freed}
use Rattle.buf_block.specs.declared.rule.HolderView.{HolderView}
use Rattle.buf_block.specs.Block.{SlotState, slot_without_deed}
use Rattle.buf_block.specs.Held.{BlockId}

-- the amount that was given back and the answer, as the receipt has them; of the seat that made the steps what it knows, and the slots in
-- its hands with the values that they hold; and which block it is of, and which of that block's seats
pub record Receipt : Type 0 where
  pub gave : ℕ
  pub answer : LetGo
  pub seat_view : HolderView
  pub seat_slots : List (ℕ × SlotState)
  pub block : BlockId
  pub seat : ℕ

-- What the type says of each receipt: the seat has no amount, gave back just that amount, was the last exactly where the answer is that
-- the block is freed, and has then taken the deed out of the slot.
pub record IsReceipt (r : Receipt) : Type 0 where
  pub no_amount : r.seat_view.amount ≡ 0
  pub gave : r.seat_view.gave ≡ r.gave
  pub last : (r.answer ≡ Freed) ↔ (r.seat_view.last ≡ true)
  pub deed_out : r.answer ≡ Freed → r.seat_slots ≡ slot_without_deed
