-- A `&` to a pointer has the fact of where it leads. The walk reads its word.
use Rattle.raw_place.proofs.Steps.{refl, List, [], ◌∷◌, ftrue, fhide, flft, id⊢, tables, yes, bounded, owns, plain, types_at, nothing, Stays}
use Rattle.raw_place.proofs.Steps.{walk_of, says, stay_dropped, ends_at, inst_fn, a_type, dnil, Val, vptr, alloc_all, free_all, look_at, pass_all}
use Rattle.raw_place.proofs.Steps.{sets, through, ‵, raw, ◌⊛◌, ◌$◌, ◌∵◌, !, qed, done, move, keep, drop, use1, split, join, fsplit, fjoin, feq_i, rewrite}
use Rattle.raw_place.proofs.Steps.{suffices, enter, fld, load, look, of_opd, returns, stop, proved, Goes-dropped}
use Prim.Native.Nat.{ℕ, ◌+◌}
use base.Fml.{Fml, Lft}
use base.Logic.{ent, sep}
use denote.Builtin.{RefOf}
use denote.Copied.{plain_Copied}
use denote.Memory.{cell_at, hidden_shr}
use denote.Opens.{hide, shr_dup, unhide}
use denote.RattleType.{RattleType, RowLaws}
use denote.RawPtr.{Ptr, RawPtr, coded_ptr, ptr_own, ptr_row_laws, ptr_val, rawptr_pure}
use denote.Ref.{shr_Tells, shr_vals}
use denote.Steps.{looks, shuts}
use denote.Struct.Laws.{RawPtr-laws}
use denote.Struct.Owning.{shape}
use denote.Struct.Struct.{Struct, Struct-row_laws}
use mir.Syntax.{named, ty_ptr}
use seplogic.Ra.Ura.{Ura}
use types.Kit.{feq_l}
use types.Logic.{Logic, sem}
use Rattle.raw_place.proofs.Pointers.{pointer_typed}
use Rattle.raw_place.specs.contracts.row.Pointer as C
use Rattle.raw_place.specs.contracts.row.Pointer.at as f
use Rattle.raw_place.proofs.row.Pointer.at.Statement.{statement}
use Rattle.raw_place.proofs.row.Pointer.at.Code as code

-- what a `&` to the fields shows of the one field
module _ (T : RattleType) {M : Type 1} {𝓤 : Ura M} (𝓛 : Logic 𝓤) (κ : Lft) (b o : ℕ) (p : Ptr) where
  abbrev Words : RattleType
  Words = Struct (shape (C.the_type T))

  abbrev Seen : Fml
  Seen = hidden_shr Words κ (p, tt) b o

  shows_at : ent 𝓤 (sem 𝓛 Seen) (sep 𝓤 (sem 𝓛 (hidden_shr RawPtr κ p b (o + 0))) (sem 𝓛 Seen))
  shows_at =
      let laws : RowLaws Words = Struct-row_laws (shape (C.the_type T)) (ptr_row_laws, tt) in
      qed 𝓛 (‵ Seen ∷ []) ∵ shr_dup ! Words laws (p, tt) b o κ $ unhide ! $ fsplit ! $ fsplit ! $ hide ! $ keep ! (0 ∷ 3 ∷ []) $ done !

pub at_spec : {M : Type 1} → statement M
at_spec 𝓤 𝓛 𝓜 𝓡 wired T of_value =
    let TR : RattleType = f.T-row T in
    let En = f.ended T in let c = f.clauses T 𝓛 𝓜.mem 𝓡.returns in let 𝓣 = tables 𝓤 𝓛.H 𝓜 𝓡 𝓡.env in
    let inst = bounded (a_type ∷ []) (T, tt) dnil in let fn = inst_fn inst code.function in
    let pointers : RattleType = C.the_row TR in let by_ref = RefOf (0 ∷ []) tt (plain (λ _. pointers)) (λ _. tt) in
    let hs : Stays En.signature.params En.kept = (stay_dropped by_ref yes, tt) in
    proved 𝓛 En hs c 𝓜 𝓡 (Goes-dropped 𝓛 2 by_ref yes (λ κs x last. refl), tt) (f.Key.name inst) fn (code.unfolded 𝓤 𝓛.H 𝓜 𝓡 wired (T, tt))
    (λ κs. (shr_vals, tt)) (λ κs. (shr_Tells (named 0) κs.0 pointers, tt)) (λ κs qs bounds a n are.
    let κ = κs.0 in let p = a.0.now in let b = a.0.ref_ptr.0 in let o = a.0.ref_ptr.1 in
    let y : (walk_of 𝓛 En hs c).Ghost = ((κs, qs, bounds, a, (vptr b o ∷ [], tt)), n) in
    qed 𝓛 (((‵ (flft κ qs.0) ⊛ (‵ (flft κs.1.0 qs.1.0) ⊛ ‵ ftrue)) ⊛ ‵ (owns (types_at En.signature.params κs) a y.0.4)) ∷ raw ((c κs a).requires n) ∷ []) ∵
    split ! $ split ! $ move ! (2 ∷ []) $ fsplit ! $ fsplit ! $ drop ! $
    use1 𝓛 (‵ (hidden_shr (Struct (shape (C.the_type TR))) κ (p.at, tt) b o) ⊛ ‵ (fhide (C.the_lent TR p p.at κ))) (id⊢ 𝓤 _) $ split ! $
    move ! (1 ∷ []) $ unhide ! $ feq_l ! (λ way. move ! (0 ∷ 2 ∷ 3 ∷ []) $
    -- [a `&` to the word; the token; the other tokens]
    enter ! _ _ _ _ _ $ alloc_all ! (λ l. pass_all ! refl ((tt, tt), tt) $
    use1 𝓛 (‵ (hidden_shr RawPtr κ p.at b (o + 0)) ⊛ ‵ (Seen TR 𝓛 κ b o p.at)) (shows_at TR 𝓛 κ b o p.at) $ split ! $ move ! (0 ∷ 2 ∷ []) $
    looks ! tt RawPtr (plain_Copied 𝓛 Ptr coded_ptr (ty_ptr ∷ []) ptr_own rawptr_pure ptr_val RawPtr-laws.tells).opens p.at b (o + 0) (λ share words.
    move ! (1 ∷ []) $ feq_l ! (λ is. rewrite ! 0 (λ (us : List Val). ‵ (cell_at share RawPtr.mir us b (o + 0))) is refl $
    sets ! (of_opd ! (load ! (through ! refl (fld ! refl (stop !))) (look ! 0 refl))) refl (pointer_typed p.at) $
    feq_i ! (List Val) (ptr_val p.at ∷ []) (ptr_val p.at ∷ []) refl $ move ! (1 ∷ 0 ∷ []) $ shuts ! tt RawPtr share p.at (ptr_val p.at ∷ []) b (o + 0) $
    returns ! (look_at ! 0 refl) $ free_all ! refl $ keep ! (0 ∷ 3 ∷ []) $
    feq_i ! (List Val) (ptr_val p.at ∷ []) (ptr_val p.at ∷ []) refl $
    suffices ! _ (ends_at 𝓛 En hs c y (ptr_val p.at) p.at (tt, tt) (tt, tt)) $ says ! way $
    nothing ! $ nothing ! $ fjoin ! $ join ! $ move ! (1 ∷ 2 ∷ 0 ∷ []) $ join ! $ join ! $ done !)))))
