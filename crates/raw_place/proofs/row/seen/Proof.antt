-- A `&` to a vector holds a `&` to each of its values, so to that which the pointer leads to.
use Rattle.raw_place.proofs.Steps.{◌≡◌, refl, ap, List, [], ◌∷◌, ftrue, flft, id⊢, fact, tables, yes, bounded, owns, plain, types_at, heard, nothing, Stays, walk_of}
use Rattle.raw_place.proofs.Steps.{says, stay_dropped, ends_at, inst_fn, a_type, dcons, dnil, Val, vptr, alloc_all, env, free_all, get, look_at, pass_all, sets}
use Rattle.raw_place.proofs.Steps.{sets_last, through, ‵, raw, ◌⊛◌, at_ret, ◌$◌, ◌∵◌, !, qed, done, move, keep, drop, use1, split, join, fsplit, fjoin, feq_i, rewrite}
use Rattle.raw_place.proofs.Steps.{suffices, addr, blocks, enter, exec, first, of_opd, returns, stop, proved, fat, full_share, fhide, Goes-dropped}
use Prim.Native.Nat.{ℕ, zero, suc, ◌+◌, ◌*◌, ◌<◌}
use base.Fml.{Lft}
use base.Logic.{ent}
use denote.Builtin.{RefOf, usize}
use denote.Index.{place, place_is}
use denote.Memory.{each_shared, hidden_shr, shared_of}
use denote.Opens.{hide, unhide}
use denote.Plain.{uint_Tells, uint_vals}
use denote.RawPtr.{InBlock, Ptr, RawPtr, at_block, block_of, count_of, ptr_val, rawptr_vals, rawptr_Tells}
use denote.Ref.{shr_Tells, shr_vals}
use denote.Struct.Lending.{in_block_says}
use denote.Struct.Owning.{shape}
use denote.Struct.Struct.{Struct}
use contract.BorrowLft.{◌⊑◌}
use lib.ListN.{get_or, length}
use mathlib.Core.Path.{◌∙◌}
use mir.Syntax.{named, ty_ptr, w64}
use mir.Val.{vint}
use native.Mathlib.Nat.{le_of_suc-le-suc, not-suc-le-zero}
use native.Mathlib.Omega.{arith}
use seplogic.Ra.Ura.{Ura}
use types.ByLocal.{give_at, take_at}
use types.Kit.{by, flt_l}
use types.Logic.{Logic, sem}
use Rattle.std.specs.Ptr.{ptr_add}
use Rattle.std.specs.contracts.vec.Vec.{the_lent}
use Rattle.std.proofs.SliceLists.{any-default, hd}
use Rattle.std.proofs.VecSteps.El.{El, P, R, Vr, owning, sz}
use Rattle.std.proofs.VecSteps.Shapes.{after}
use Rattle.raw_place.proofs.Pointers.{pointer_typed}
use Rattle.raw_place.specs.contracts.row.seen as f
use Rattle.raw_place.proofs.row.seen.Statement.{statement}
use Rattle.raw_place.proofs.row.seen.Code as code

-- what a `&` to values side by side holds of one of them
module _ (E : El) {M : Type 1} {𝓤 : Ura M} (𝓛 : Logic 𝓤) (κ : Lft) where
  one_seen : (xs : List E.row.Denot) (i : ℕ) (d : E.row.Denot) (b o : ℕ) → i < length xs
      → ent 𝓤 (sem 𝓛 (each_shared xs (shared_of (R E)) (sz E) b o κ)) (sem 𝓛 (shared_of (R E) (get_or xs i d) b (place (sz E) o i) κ))
  one_seen [] i d b o l = absurd (not-suc-le-zero l)
  one_seen (x ∷ xs) zero d b o l =
      qed 𝓛 (‵ (shared_of (R E) x b o κ) ∷ ‵ (each_shared xs (shared_of (R E)) (sz E) b (o + sz E) κ) ∷ []) ∵ keep ! (0 ∷ []) $ done !
  one_seen (x ∷ xs) (suc i) d b o l =
      qed 𝓛 (‵ (shared_of (R E) x b o κ) ∷ ‵ (each_shared xs (shared_of (R E)) (sz E) b (o + sz E) κ) ∷ []) ∵ drop ! $
      by ! (one_seen xs i d b (o + sz E) (le_of_suc-le-suc l))

pub seen_spec : {M : Type 1} → statement M
seen_spec 𝓤 𝓛 𝓜 𝓡 wired T A of_value of_heap g d drops allocates destroys =
    let E : El = record { row = T; laws = of_value; al = record { row = A; laws = of_heap; g = g; d = d; drops = drops } } in
    let En = f.ended T A g d drops in let c = f.clauses T A g d drops 𝓛 𝓜.mem 𝓡.returns in let 𝓣 = tables 𝓤 𝓛.H 𝓜 𝓡 𝓡.env in
    let inst = bounded (a_type ∷ a_type ∷ []) (T, (A, tt)) (dcons d (dcons drops dnil)) in let fn = inst_fn inst code.function in
    let vecs = Vr E in let by_ref = RefOf (0 ∷ []) tt (plain (λ _. vecs)) (λ _. tt) in
    let hs : Stays En.signature.params En.kept =
    (stay_dropped by_ref yes, (stay_dropped (plain (λ _. RawPtr)) yes, (stay_dropped (plain (λ _. usize)) yes, tt))) in
    proved 𝓛 En hs c 𝓜 𝓡 (
      Goes-dropped 𝓛 3 by_ref yes (λ κs x last. refl),
      (
        Goes-dropped 𝓛 3 (plain (λ _. RawPtr)) yes (λ κs x last. refl),
        (Goes-dropped 𝓛 3 (plain (λ _. usize)) yes (λ κs x last. refl), tt),
      ),
    )
    (f.Key.name inst) fn (code.unfolded 𝓤 𝓛.H 𝓜 𝓡 wired (T, (A, tt)) d drops)
    (λ κs. (shr_vals, (rawptr_vals, (uint_vals w64, tt)))) (λ κs. (shr_Tells (named 0) κs.0 vecs, (rawptr_Tells, (uint_Tells w64, tt)))) (λ κs qs bounds a n are.
    let κ = κs.0 in let q = qs.0 in let r = a.0.now in let p = a.1.0 in let i = a.1.1.0 in let b = a.0.ref_ptr.0 in let o = a.0.ref_ptr.1 in
    let y : (walk_of 𝓛 En hs c).Ghost = ((κs, qs, bounds, a, (vptr b o ∷ [], (ptr_val p ∷ [], (vint w64 i ∷ [], tt)))), n) in let Post = (walk_of 𝓛 En hs c).post y in
    let tb : ℕ = block_of r.ptr in let to : ℕ = i * sz E + count_of r.ptr in
    qed 𝓛 (((‵ (flft κ q) ⊛ (‵ (flft κs.1.0 qs.1.0) ⊛ ‵ (flft κs.1.1.0 qs.1.1.0) ⊛ ‵ ftrue)) ⊛ ‵ (owns (types_at En.signature.params κs) a y.0.4))
    ∷ raw (fact 𝓤 (κs.1.0 ⊑ T.lives)) ∷ raw (fact 𝓤 (κs.1.1.0 ⊑ A.lives)) ∷ raw (fact 𝓤 (i < r.len))
    ∷ raw (fact 𝓤 (p ≡ ptr_add T i r.ptr)) ∷ []) ∵
    split ! $ split ! $ move ! (5 ∷ []) $ heard ! (i < r.len) (λ less. move ! (5 ∷ []) $ heard ! (p ≡ ptr_add T i r.ptr) (λ way. move ! (2 ∷ []) $ fsplit ! $ keep ! (0 ∷ 2 ∷ 3 ∷ []) $ fsplit ! $ drop ! $
    let listed : i < length r.items = let same = r.ok.0 in omega arith in
    let first_one : T.Denot = hd r.items (omega arith) in let x : T.Denot = get_or r.items i first_one in
    use1 𝓛 (‵ (hidden_shr (Struct (shape (owning E))) κ (r.ptr, (r.len, (r.cap, (r.alloc, tt)))) b o) ⊛ ‵ (fhide (the_lent (R E) (P E) g r r.ptr κ))) (id⊢ 𝓤 _) $
    split ! $ drop ! $ unhide ! $ fsplit ! $
    flt_l ! (λ fit. fsplit ! $ use1 𝓛 (raw (fact 𝓤 (InBlock r.ptr))) (in_block_says 𝓛 r.ptr) $ heard ! (InBlock r.ptr) (λ lies.
    fsplit ! $ drop ! $ use1 𝓛 (‵ (shared_of (R E) x tb (place (sz E) (count_of r.ptr) i) κ)) (one_seen E 𝓛 κ r.items i first_one tb (count_of r.ptr) listed) $
    rewrite ! 0 (λ (k : ℕ). ‵ (shared_of (R E) x tb k κ)) (place_is (sz E) (count_of r.ptr) i) refl $ hide ! $
    -- [a `&` to the value; the token; the other tokens]
    enter ! _ _ _ _ _ $ alloc_all ! (λ l. pass_all ! refl ((tt, tt), (pointer_typed p, ((tt, record { fits = are.1.1.0.1 }), tt))) $
    take_at ! 2 $ rewrite ! 0 (λ (p : Ptr). ‵ (fat full_share ty_ptr (l 2) 0 (ptr_val p))) (way ∙ ap (ptr_add T i) (at_block r.ptr lies)) refl $ give_at ! 2 $
    first ! $ blocks ! $ sets_last ! (addr ! (through ! refl (stop !))) refl (tt, tt) $
    exec ! 𝓣.C 𝓣.Λ (env fn.locals l) (after 1 fn.body) (at_ret _ Post) $ sets ! (of_opd ! (get ! refl)) refl (tt, tt) $
    returns ! (look_at ! 0 refl) $ free_all ! refl $ keep ! (0 ∷ 1 ∷ 2 ∷ []) $
    feq_i ! (List Val) (vptr tb to ∷ []) (vptr tb to ∷ []) refl $ fjoin ! $
    suffices ! _ (ends_at 𝓛 En hs c y (vptr tb to) (record { ref_ptr = (tb, to); now = x }) (tt, (tt, (tt, tt))) (tt, (tt, (tt, tt)))) $
    says ! (any-default r.items i first_one x listed) $
    nothing ! $ nothing ! $ fjoin ! $ nothing ! $ fjoin ! $ nothing ! $ fjoin ! $ join ! $ move ! (1 ∷ 2 ∷ 0 ∷ []) $ join ! $ join ! $ done !))))))
