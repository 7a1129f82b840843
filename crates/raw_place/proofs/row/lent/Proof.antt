-- The borrow of the vector is opened, and the value that the pointer leads to goes out as a borrow.
use Rattle.raw_place.proofs.Steps.{◌≡◌, refl, ap, [], ◌∷◌, ftrue, flft, fact, tables, yes, no, bounded, owns, plain, types_at, heard}
use Rattle.raw_place.proofs.Steps.{nothing, Stays, walk_of, says, stay_dropped, ends_at, inst_fn, a_type, dcons, dnil, vptr, alloc_all, env}
use Rattle.raw_place.proofs.Steps.{free_all, get, look_at, pass_all, sets, sets_last, through, ‵, raw, ◌⊛◌, some, later, at_ret, ◌$◌, ◌∵◌, !, qed, done, move}
use Rattle.raw_place.proofs.Steps.{keep, use1, split, split3, join, group, fsplit, fjoin, pick, await, rewrite, suffices, frame, addr, blocks, enter, full_share}
use Rattle.raw_place.proofs.Steps.{exec, first, of_opd, returns, stop, proved, fat, Goes-dropped}
use Prim.Native.Nat.{◌+◌, ◌*◌, ◌<◌}
use base.Fml.{GName}
use contract.BorrowLft.{◌⊑◌}
use denote.Builtin.{RefMutOf, usize}
use denote.Follow.{follows}
use denote.Plain.{uint_Tells, uint_vals}
use denote.RawPtr.{Ptr, RawPtr, ptr_val, rawptr_vals, rawptr_Tells}
use denote.Ref.{MutRef, mut_Tells, mut_vals}
use denote.Triple.Walked.{Goes-spent_ref}
use lib.ListN.{get_or, length}
use mathlib.Core.Path.{◌∙◌}
use mir.Syntax.{named, w64, ty_ptr}
use mir.Val.{vint}
use native.Mathlib.Omega.{arith}
use types.ByLocal.{give_at, take_at}
use types.Kit.{fsplit3}
use Rattle.std.specs.Ptr.{ptr_add}
use Rattle.std.specs.Vec.{with_item}
use Rattle.std.proofs.SliceLists.{any-default, hd}
use Rattle.std.proofs.VecSteps.El.{El, R, Vr, sz}
use Rattle.std.proofs.VecSteps.Element.{lends}
use Rattle.std.proofs.VecSteps.Opens.{vec_opens}
use Rattle.std.proofs.VecSteps.Shapes.{after}
use Rattle.raw_place.proofs.Pointers.{pointer_typed}
use Rattle.raw_place.specs.contracts.row.lent as f
use Rattle.raw_place.proofs.row.lent.Statement.{statement}
use Rattle.raw_place.proofs.row.lent.Code as code

pub lent_spec : {M : Type 1} → statement M
lent_spec 𝓤 𝓛 𝓜 𝓡 wired T A of_value of_heap g d drops allocates destroys =
    let E : El = record { row = T; laws = of_value; al = record { row = A; laws = of_heap; g = g; d = d; drops = drops } } in
    let En = f.ended T A g d drops in let c = f.clauses T A g d drops 𝓛 𝓜.mem 𝓡.returns in let 𝓣 = tables 𝓤 𝓛.H 𝓜 𝓡 𝓡.env in
    let inst = bounded (a_type ∷ a_type ∷ []) (T, (A, tt)) (dcons d (dcons drops dnil)) in let fn = inst_fn inst code.function in
    let vecs = Vr E in let by_ref = RefMutOf (0 ∷ []) tt (plain (λ _. vecs)) (λ _. tt) in
    let hs : Stays En.signature.params En.kept =
    (stay_dropped by_ref no, (stay_dropped (plain (λ _. RawPtr)) yes, (stay_dropped (plain (λ _. usize)) yes, tt))) in
    proved 𝓛 En hs c 𝓜 𝓡 (
      Goes-spent_ref 𝓛 3 (0 ∷ []) tt (plain (λ _. vecs)),
      (
        Goes-dropped 𝓛 3 (plain (λ _. RawPtr)) yes (λ κs x last. refl),
        (Goes-dropped 𝓛 3 (plain (λ _. usize)) yes (λ κs x last. refl), tt),
      ),
    )
    (f.Key.name inst) fn (code.unfolded 𝓤 𝓛.H 𝓜 𝓡 wired (T, (A, tt)) d drops)
    (λ κs. (mut_vals, (rawptr_vals, (uint_vals w64, tt)))) (λ κs. (mut_Tells (named 0) κs.0 vecs, (rawptr_Tells, (uint_Tells w64, tt)))) (λ κs qs bounds a n are.
    let κ = κs.0 in let q = qs.0 in let r = a.0.now in let p = a.1.0 in let i = a.1.1.0 in let γ = a.0.ghost_name in
    let rb = a.0.ref_ptr.0 in let ro = a.0.ref_ptr.1 in
    let y : (walk_of 𝓛 En hs c).Ghost = ((κs, qs, bounds, a, (vptr rb ro ∷ [], (ptr_val p ∷ [], (vint w64 i ∷ [], tt)))), n) in let Post = (walk_of 𝓛 En hs c).post y in
    qed 𝓛 (((‵ (flft κ q) ⊛ (‵ (flft κs.1.0 qs.1.0) ⊛ ‵ (flft κs.1.1.0 qs.1.1.0) ⊛ ‵ ftrue)) ⊛ ‵ (owns (types_at En.signature.params κs) a y.0.4))
    ∷ raw (fact 𝓤 (κs.1.0 ⊑ T.lives)) ∷ raw (fact 𝓤 (κs.1.1.0 ⊑ A.lives)) ∷ raw (fact 𝓤 (i < r.len))
    ∷ raw (fact 𝓤 (p ≡ ptr_add T i r.ptr)) ∷ []) ∵
    split ! $ split ! $ move ! (5 ∷ []) $ heard ! (i < r.len) (λ less. move ! (5 ∷ []) $ heard ! (p ≡ ptr_add T i r.ptr) (λ way. move ! (2 ∷ []) $ fsplit ! $ keep ! (0 ∷ 2 ∷ 3 ∷ []) $
    let listed : i < length r.items = let same = r.ok.0 in omega arith in
    let some_room : 0 < r.cap = let fits = r.ok.1 in omega arith in
    let first_one : T.Denot = hd r.items (omega arith) in let x : T.Denot = get_or r.items i first_one in
    enter ! _ _ _ _ _ $ alloc_all ! (λ l. pass_all ! refl ((tt, tt), (pointer_typed p, ((tt, record { fits = are.1.1.0.1 }), tt))) $
    fsplit3 ! $ move ! (1 ∷ 2 ∷ 3 ∷ []) $ vec_opens E ! tt r rb ro some_room (λ b o hv at few fc fit.
    take_at ! 2 $ rewrite ! 0 (λ (p : Ptr). ‵ (fat full_share ty_ptr (l 2) 0 (ptr_val p))) (way ∙ ap (ptr_add T i) at) refl $ give_at ! 2 $
    first ! $ blocks ! $ sets_last ! (addr ! (through ! refl (stop !))) refl (tt, tt) $
    exec ! 𝓣.C 𝓣.Λ (env fn.locals l) (after 1 fn.body) (at_ret _ Post) $ sets ! (of_opd ! (get ! refl)) refl (tt, tt) $
    group ! 7 $
    use1 𝓛 (later (some (λ (γ' : GName). ‵ ((MutRef (named 0) κ (R E)).own_val (record { ref_ptr = (b, i * sz E + o); ghost_name = γ'; now = x })
    (vptr b (i * sz E + o) ∷ [])) ⊛ ‵ (flft κ q) ⊛ ‵ (follows vecs (R E) γ γ' (with_item r i)))))
    (lends E 𝓛 κ q rb ro γ r i b o at less few fc fit some_room first_one) $
    await ! tt $ pick ! (λ γ'.
    returns ! (look_at ! 0 refl) $ free_all ! refl $ split3 ! $ keep ! (0 ∷ 1 ∷ 2 ∷ 4 ∷ []) $
    suffices ! _ (ends_at 𝓛 En hs c y (vptr b (i * sz E + o)) (record { ref_ptr = (b, i * sz E + o); ghost_name = γ'; now = x })
    (tt, (tt, (tt, tt))) (tt, (tt, (tt, tt)))) $
    nothing ! $ nothing ! $ fjoin ! $ nothing ! $ fjoin ! $ nothing ! $ fjoin ! $ join ! $ move ! (1 ∷ 3 ∷ 0 ∷ []) $ join ! $ join ! $ frame ! $
    says ! (any-default r.items i first_one x listed) $ done !))))))
