-- The machine value of a raw pointer.
use denote.RawPtr.{Ptr, block_ptr, null_ptr, ptr_val}
use lib.Dec as dec
use lib.Dec.{lit<}
use mir.Syntax.{ty_ptr}
use mir.Val.{WT, has_ty}

-- a pointer is one word, whatever it leads to
pub pointer_typed : (p : Ptr) → dec.T (has_ty ty_ptr (ptr_val p)) × WT (ptr_val p)
pointer_typed (block_ptr b o) = (tt, tt)
pointer_typed null_ptr = (tt, record { fits = lit< tt })
