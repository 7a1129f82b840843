-- What a room owns, taken apart and put together: its block, the right to free it, and the allocator's handle.
use base.Logic.{fst∗, never}
use base.Fml.{froom}
use denote.RattleType.{Valss}
use denote.RawPtr.{Ptr, RawPtr, block_ptr, in_a_block, null_ptr, ptr_val}
use denote.Steps.{nothing}
use denote.Struct.Owning.{shape}
use denote.Struct.Struct.{within}
use mathlib.Core.Path.{◌≡◌, refl, ap, ◌∙◌}
use mathlib.Core.List.{List, [], ◌∷◌, ◌++◌}
use mir.Raw.{raw as bare}
use mir.Val.{Val, of_list, vptr, vstruct}
use Prim.Native.Nat.{ℕ}
use seplogic.Ra.Ura.{Ura}
use types.Kit.{Goal, Item, Seq, Step, step, ‵, ◌$◌, drop, feq_i, feq_l, fjoin, fpack, fpick, fsplit, move}
use types.Logic.{Logic, sem}
use Rattle.raw_place.specs.Blocks.{room_owns}
use Rattle.raw_place.specs.contracts.spot.Room.{the_row, the_type}
use Rattle.std.proofs.BoxSteps.Form.{Bx, P, R, handle, word, τ}
use Rattle.std.proofs.alloc.Calls.{Fits, handle_tells, token}

module _ (E : Bx) {M : Type 1} {𝓤 : Ura M} {𝓛 : Logic 𝓤} {K : Type 0} {Γ : List (Item 𝓤)} {G : Goal 𝓤 𝓛.H} where
  pub room_out : K → (room : (the_row (R E) (P E) E.al.g).Denot) (vs : List Val)
      → ((b o : ℕ) (hv : Val) → vs ≡ word E hv b o ∷ [] → Fits E.al hv
      → Seq K 𝓛 (‵ (froom (bare (τ E)) b o) ∷ ‵ (token E.al room.heap (bare (τ E)) (block_ptr b o)) ∷ ‵ (handle E room.heap hv) ∷ Γ) G)
      → Seq K 𝓛 (‵ ((the_row (R E) (P E) E.al.g).own_val room vs) ∷ Γ) G
  room_out t room vs next =
      fsplit t $ move t (1 ∷ []) $
      in_a_block t room.at (room_owns (token E.al room.heap) (R E)) (fst∗ 𝓤 (never 𝓤) (sem 𝓛 (token E.al room.heap (bare (τ E)) null_ptr))) (λ b o at.
      move t (1 ∷ []) $
      fpick t (λ words. fsplit t $ feq_l t (λ both. fsplit t $ feq_l t (λ first. fsplit t $ handle_tells E.al t room.heap words.1.0 (λ hv second fits.
      move t (1 ∷ []) $ drop t $ move t (1 ∷ []) $ fsplit t $ next b o hv
      (both ∙ (λ i. vstruct (of_list (first i ++ (second i ++ []))) ∷ []) ∙ ap (λ (p : Ptr). vstruct (of_list (ptr_val p ∷ hv ∷ [])) ∷ []) at) fits)))))

  pub room_in : K → {hv : Val} (heap : E.al.row.Denot) (b o : ℕ)
      → Step K 𝓛 (‵ ((the_row (R E) (P E) E.al.g).own_val (record { at = block_ptr b o; heap = heap }) (word E hv b o ∷ [])) ∷ Γ) G
      (‵ (froom (bare (τ E)) b o) ∷ ‵ (token E.al heap (bare (τ E)) (block_ptr b o)) ∷ ‵ (handle E heap hv) ∷ Γ) G
  room_in t {hv} heap b o = step (λ rest.
      fjoin t $ nothing t $ move t (2 ∷ 0 ∷ []) $ fjoin t $ feq_i t (List Val) (vptr b o ∷ []) (vptr b o ∷ []) refl $ fjoin t $
      feq_i t (List Val) (word E hv b o ∷ []) (word E hv b o ∷ []) refl $ fjoin t $
      fpack t (Valss (RawPtr ∷ P E ∷ [])) (within (shape (the_type (R E) (P E) E.al.g)) (block_ptr b o, (heap, tt)) (word E hv b o ∷ []))
      (vptr b o ∷ [], (hv ∷ [], tt)) $ fjoin t $ rest)
