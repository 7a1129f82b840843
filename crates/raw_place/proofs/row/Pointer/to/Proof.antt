-- A `&` to a vector tells where its values begin and that they lie in a block, so the place of each is reached from there.
use Rattle.raw_place.proofs.Steps.{◌≡◌, refl, sym, ap, List, [], ◌∷◌, ftrue, flft, id⊢, fact, tables, yes, bounded, owns, plain, types_at, heard, nothing}
use Rattle.raw_place.proofs.Steps.{Stays, walk_of, says, stay_dropped, ends_at, inst_fn, a_type, dcons, dnil, Val, vptr, block_ptr, alloc_all, env, free_all}
use Rattle.raw_place.proofs.Steps.{get, look_at, pass_all, sets, sets_last, ‵, raw, ◌⊛◌, at_ret, ◌$◌, ◌∵◌, !, qed, done, move, keep, drop, use1, split, join}
use Rattle.raw_place.proofs.Steps.{fsplit, fjoin, feq_i, rewrite, suffices, agg, and_then, no_more, blocks, enter, exec, first, of_opd, returns, proved, fat}
use Rattle.raw_place.proofs.Steps.{full_share, fhide, Goes-dropped}
use Prim.Native.Nat.{ℕ, ◌+◌, ◌*◌, ◌<◌, ◌^◌}
use contract.BorrowLft.{◌⊑◌}
use denote.Builtin.{RefOf, usize}
use denote.Memory.{hidden_shr}
use denote.Opens.{unhide}
use denote.Plain.{uint_Tells, uint_vals}
use denote.RattleType.{Valss}
use denote.RawPtr.{InBlock, Ptr, RawPtr, at_block, block_of, count_of, ptr_val, rawptr_vals, rawptr_Tells}
use denote.Ref.{shr_Tells, shr_vals}
use denote.Struct.Lending.{in_block_says}
use denote.Struct.Owning.{shape}
use denote.Struct.Struct.{Struct, within}
use mathlib.Core.Path.{◌∙◌}
use mir.Syntax.{named, ty_ptr, w64}
use mir.Val.{of_list, vint, vstruct}
use native.Mathlib.Omega.{arith}
use types.ByLocal.{give_at, take_at}
use types.Kit.{flt_l, fpack}
use types.Run.{bin, size_lit}
use Rattle.std.specs.Ptr.{ptr_add}
use Rattle.std.specs.contracts.vec.Vec.{the_lent}
use Rattle.std.proofs.VecSteps.El.{El, P, R, Vr, owning, sz}
use Rattle.std.proofs.VecSteps.Shapes.{after}
use Rattle.std.proofs.ptr.Rows.{one_below, times_below}
use Rattle.raw_place.proofs.Pointers.{pointer_typed}
use Rattle.raw_place.specs.contracts.row.Pointer.{the_type}
use Rattle.raw_place.specs.contracts.row.Pointer.to as f
use Rattle.raw_place.proofs.row.Pointer.to.Statement.{statement}
use Rattle.raw_place.proofs.row.Pointer.to.Code as code

pub to_spec : {M : Type 1} → statement M
to_spec 𝓤 𝓛 𝓜 𝓡 wired T A of_value of_heap g d drops allocates destroys =
    let E : El = record { row = T; laws = of_value; al = record { row = A; laws = of_heap; g = g; d = d; drops = drops } } in
    let En = f.ended T A g d drops in let c = f.clauses T A g d drops 𝓛 𝓜.mem 𝓡.returns in let 𝓣 = tables 𝓤 𝓛.H 𝓜 𝓡 𝓡.env in
    let inst = bounded (a_type ∷ a_type ∷ []) (T, (A, tt)) (dcons d (dcons drops dnil)) in let fn = inst_fn inst code.function in
    let vecs = Vr E in let by_ref = RefOf (0 ∷ []) tt (plain (λ _. vecs)) (λ _. tt) in
    let hs : Stays En.signature.params En.kept =
    (stay_dropped by_ref yes, (stay_dropped (plain (λ _. RawPtr)) yes, (stay_dropped (plain (λ _. usize)) yes, tt))) in
    proved 𝓛 En hs c 𝓜 𝓡 (
      Goes-dropped 𝓛 3 by_ref yes (λ κs x last. refl),
      (
        Goes-dropped 𝓛 3 (plain (λ _. RawPtr)) yes (λ κs x last. refl),
        (Goes-dropped 𝓛 3 (plain (λ _. usize)) yes (λ κs x last. refl), tt),
      ),
    )
    (f.Key.name inst) fn (code.unfolded 𝓤 𝓛.H 𝓜 𝓡 wired (T, (A, tt)) d drops)
    (λ κs. (shr_vals, (rawptr_vals, (uint_vals w64, tt)))) (λ κs. (shr_Tells (named 0) κs.0 vecs, (rawptr_Tells, (uint_Tells w64, tt)))) (λ κs qs bounds a n are.
    let κ = κs.0 in let q = qs.0 in let r = a.0.now in let p = a.1.0 in let i = a.1.1.0 in let b = a.0.ref_ptr.0 in let o = a.0.ref_ptr.1 in
    let y : (walk_of 𝓛 En hs c).Ghost = ((κs, qs, bounds, a, (vptr b o ∷ [], (ptr_val p ∷ [], (vint w64 i ∷ [], tt)))), n) in let Post = (walk_of 𝓛 En hs c).post y in
    let tb : ℕ = block_of r.ptr in let to : ℕ = i * sz E + count_of r.ptr in let word : Val = vstruct (of_list (vptr tb to ∷ [])) in
    qed 𝓛 (((‵ (flft κ q) ⊛ (‵ (flft κs.1.0 qs.1.0) ⊛ ‵ (flft κs.1.1.0 qs.1.1.0) ⊛ ‵ ftrue)) ⊛ ‵ (owns (types_at En.signature.params κs) a y.0.4))
    ∷ raw (fact 𝓤 (κs.1.0 ⊑ T.lives)) ∷ raw (fact 𝓤 (κs.1.1.0 ⊑ A.lives)) ∷ raw (fact 𝓤 (i < r.len)) ∷ raw (fact 𝓤 (p ≡ r.ptr)) ∷ []) ∵
    split ! $ split ! $ move ! (5 ∷ []) $ heard ! (i < r.len) (λ less. move ! (5 ∷ []) $ heard ! (p ≡ r.ptr) (λ begins.
    move ! (2 ∷ []) $ fsplit ! $ keep ! (0 ∷ 2 ∷ 3 ∷ []) $ fsplit ! $ drop ! $
    use1 𝓛 (‵ (hidden_shr (Struct (shape (owning E))) κ (r.ptr, (r.len, (r.cap, (r.alloc, tt)))) b o) ⊛ ‵ (fhide (the_lent (R E) (P E) g r r.ptr κ))) (id⊢ 𝓤 _) $
    split ! $ drop ! $ unhide ! $ fsplit ! $
    flt_l ! (λ fit. fsplit ! $ use1 𝓛 (raw (fact 𝓤 (InBlock r.ptr))) (in_block_says 𝓛 r.ptr) $ heard ! (InBlock r.ptr) (λ lies.
    fsplit ! $ drop ! $ drop ! $
    -- [the token; the other tokens]
    let within_room : i < r.cap = let fits = r.ok.1 in omega arith in let some_room : 0 < r.cap = omega arith in
    let near : i * sz E < 2 ^ 64 = let below = times_below i r.cap (sz E) (2 ^ 63) (omega arith) fit in omega arith in
    let tiny : sz E < 2 ^ 64 = let below = one_below r.cap (sz E) (2 ^ 63) some_room fit in omega arith in
    enter ! _ _ _ _ _ $ alloc_all ! (λ l. pass_all ! refl ((tt, tt), (pointer_typed p, ((tt, record { fits = are.1.1.0.1 }), tt))) $
    take_at ! 2 $ rewrite ! 0 (λ (p : Ptr). ‵ (fat full_share ty_ptr (l 2) 0 (ptr_val p))) (begins ∙ at_block r.ptr lies) refl $ give_at ! 2 $
    first ! $ blocks ! $ sets ! (of_opd ! (get ! refl)) refl (tt, tt) $ sets ! (of_opd ! (get ! refl)) refl (tt, record { fits = are.1.1.0.1 }) $
    sets ! (bin ! (get ! refl) (size_lit ! (record { fits = tiny })) (record { fits = near })) refl (tt, record { fits = near }) $
    sets_last ! (bin ! (get ! refl) (get ! refl) tt) refl (tt, tt) $
    exec ! 𝓣.C 𝓣.Λ (env fn.locals l) (after 1 fn.body) (at_ret _ Post) $ sets ! (of_opd ! (get ! refl)) refl (tt, tt) $
    sets ! (agg ! (and_then ! (get ! refl) (no_more !))) refl (tt, (tt, tt)) $
    returns ! (look_at ! 0 refl) $ free_all ! refl $ keep ! (0 ∷ 1 ∷ []) $
    nothing ! $ feq_i ! (List Val) (vptr tb to ∷ []) (vptr tb to ∷ []) refl $ fjoin ! $ feq_i ! (List Val) (word ∷ []) (word ∷ []) refl $ fjoin ! $
    fpack ! (Valss (RawPtr ∷ [])) (within (shape (the_type (R E))) (block_ptr tb to, tt) (word ∷ [])) (vptr tb to ∷ [], tt) $
    feq_i ! Ptr (block_ptr tb to) (ptr_add (R E) i r.ptr) (sym (ap (ptr_add (R E) i) (at_block r.ptr lies))) $ move ! (1 ∷ 0 ∷ []) $ fjoin ! $
    suffices ! _ (ends_at 𝓛 En hs c y word (record { at = block_ptr tb to; first = r.ptr; number = i }) (tt, (tt, (tt, tt))) (tt, (tt, (tt, tt)))) $
    says ! (refl, refl) $
    nothing ! $ nothing ! $ fjoin ! $ nothing ! $ fjoin ! $ nothing ! $ fjoin ! $ join ! $ move ! (1 ∷ 2 ∷ 0 ∷ []) $ join ! $ join ! $ done !))))))
