-- Where there is a block, the handle is lent for the call that takes it back. The handle goes out.
use Rattle.raw_place.proofs.Steps.{◌≡◌, refl, sym, ap, [], ◌∷◌, ◌++◌, froom, ftrue, flft, id⊢, fact, tables, no, bounded, owns, plain, types_at, heard, nothing}
use Rattle.raw_place.proofs.Steps.{calls_at_last, framed, Stays, walk_of, says, stay_dropped, ends_at, inst_fn, bare, a_type, dcons, dnil, Val, vptr, WpFn}
use Rattle.raw_place.proofs.Steps.{alloc_all, env, free_all, get, get_in, lands_last, look_at, pass_all, sets, ‵, raw, ◌⊛◌, given, learn, later, prop, at_ret}
use Rattle.raw_place.proofs.Steps.{◌$◌, ◌∵◌, !, qed, done, drop, move, keep, use1, use2, split, split3, join, fsplit, fjoin, await, regoal, suffices, sub}
use Rattle.raw_place.proofs.Steps.{whole, addr, and_then, blocks, enter, exec, first, fld, no_more, of_opd, returns, stop, as_raw, after, Goes-blank, proved_at}
use base.Fml.{Incl-trans, Lft}
use contract.BorrowLft.{◌⊑◌, meet_⊑_right}
use denote.Signature.{Slot}
use lib.Dec as dec
use mathlib.Core.Path.{subst, ◌∙◌}
use mir.Syntax.{Tys, tcons, tnil, ty_array, ty_int, ty_ptr, ty_unit, w64}
use mir.Val.{Vals, WT, has_ty, vcons, vint, vnil, vunit}
use native.Mathlib.Omega.{arith}
use prog.Capped.{capped_fits, capped_is}
use prog.Memory.{align, capped}
use prog.RawLaws.{align-raw, size-raw}
use Prim.Native.Nat.{ℕ, ◌+◌, ◌*◌, ◌<◌, ◌^◌}
use types.ByLocal.{give_at, take_at}
use types.Kit.{use3}
use types.Run.{align_word, bin, branches, from, lit, size_lit, skips}
use Rattle.std.proofs.VecSteps.El.{El, P, R, Vr, elτ, sz, vec_typed}
use Rattle.std.proofs.VecSteps.Opens.{blk_out, vec_had}
use Rattle.std.proofs.VecSteps.Rows.{all_room}
use Rattle.std.proofs.VecSteps.Shows.{heap_at}
use Rattle.std.proofs.alloc.Calls.{Gives, Gives-Gives, Gives-goes, at_gives, lends_field, takes_back, α}
use Rattle.std.proofs.ptr.Rows.{one_below}
use Rattle.raw_place.specs.Vectors.{as_vec}
use Rattle.raw_place.specs.contracts.row.Row.{the_row, the_type}
use Rattle.raw_place.specs.contracts.row.Row.free as f
use Rattle.raw_place.proofs.row.Row.free.Statement.{statement}
use Rattle.raw_place.proofs.row.Row.free.Code as code

pub free_spec : {M : Type 1} → statement M
free_spec 𝓤 𝓛 𝓜 𝓡 wired T A of_value of_heap g d drops allocates destroys =
    let E : El = record { row = T; laws = of_value; al = record { row = A; laws = of_heap; g = g; d = d; drops = drops } } in
    let En = f.ended T A g d drops in let c = f.clauses T A g d drops 𝓛 𝓜.mem 𝓡.returns in let 𝓣 = tables 𝓤 𝓛.H 𝓜 𝓡 𝓡.env in
    let inst = bounded (a_type ∷ a_type ∷ []) (T, (A, tt)) (dcons d (dcons drops dnil)) in let fn = inst_fn inst code.function in
    let rows : Slot 2 = plain (λ _. the_row (R E) (P E) g) in
    let hs : Stays En.signature.params En.kept = (stay_dropped rows no, tt) in
    proved_at 𝓛 En hs c 𝓜 𝓡 (Goes-blank 𝓛 2 rows no (λ κs x last. tt), tt) (f.Key.name inst) fn (code.unfolded 𝓤 𝓛.H 𝓜 𝓡 wired (T, (A, tt)) d drops) (λ y are.
    let κs = y.0.0 in let qs = y.0.1 in let ρ = κs.1.0 in let qρ = qs.1.0 in let r = y.0.3.0 in let Post = (walk_of 𝓛 En hs c).post y in
    qed 𝓛 (((‵ (flft κs.0 qs.0) ⊛ ‵ (flft ρ qρ) ⊛ ‵ ftrue) ⊛ ‵ (owns (types_at En.signature.params κs) y.0.3 y.0.4)) ∷ raw (fact 𝓤 (κs.0 ⊑ T.lives))
    ∷ raw (fact 𝓤 (ρ ⊑ A.lives)) ∷ raw (fact 𝓤 (r.items ≡ [])) ∷ []) ∵
    move ! (2 ∷ []) $ heard ! (ρ ⊑ A.lives) (λ within. split ! $ move ! (1 ∷ []) $ fsplit ! $
    use1 𝓛 (‵ ((Vr E).own_val (as_vec r) y.0.4.0)) (id⊢ 𝓤 _) $ vec_had E ! (as_vec r) y.0.4.0 (λ b o hv at ws few fc fit fits.
    move ! (3 ∷ []) $ split3 ! $ keep ! (3 ∷ 4 ∷ 1 ∷ 0 ∷ []) $
    -- [the block, if there is one; the handle; the handle's token; the value's token]
    regoal ! (λ us. prop (WpFn 𝓤 𝓛.H 𝓣.C 𝓣.Λ fn (us ++ []) Post)) ws refl $
    enter ! _ _ _ _ _ $ alloc_all ! (λ l. let typed = vec_typed E hv b o r.len r.room fits few fc in pass_all ! refl (typed, tt) $
    sets ! (of_opd ! (get ! refl)) refl typed $ sets ! (of_opd ! (get_in ! (fld ! refl (stop !)) (sub ! 2 refl (whole !)))) refl (tt, record { fits = fc }) $
    sets ! (bin ! (lit ! tt) (get ! refl) tt) refl (tt, tt) $ first ! $ branches ! (get ! refl)
    (λ yes. let some_room : 0 < r.room = dec.ltb→lt 0 r.room yes in let bytes : ℕ = r.room * sz E in let even : ℕ = capped (align (elτ E)) in
    let τs = ty_array (elτ E) r.room in
    let small : bytes < 2 ^ 64 = omega arith in let tiny : sz E < 2 ^ 64 = one_below r.room (sz E) (2 ^ 64) some_room small in
    let words : Vals = vcons (vptr b o) (vcons (vint w64 r.len) (vcons (vint w64 r.room) (vcons hv vnil))) in
    let fields : Tys = tcons ty_ptr (tcons (ty_int w64) (tcons (ty_int w64) (tcons (α E.al) tnil))) in
    let name = (the_type (R E) (P E) g).name in
    blk_out E ! r.heap b o r.len r.room r.items some_room $ use2 𝓛 (‵ (froom τs b o)) (all_room E 𝓛 b o r.len r.room r.items r.counted.1) $ as_raw ! τs b o $
    blocks ! $ sets ! (addr ! (from ! (fld ! refl (stop !)))) refl (tt, tt) $
    sets ! (of_opd ! (get_in ! (fld ! refl (stop !)) (sub ! 0 refl (whole !)))) refl (tt, tt) $ sets ! (of_opd ! (get ! refl)) refl (tt, tt) $
    sets ! (of_opd ! (get_in ! (fld ! refl (stop !)) (sub ! 2 refl (whole !)))) refl (tt, record { fits = fc }) $
    sets ! (bin ! (get ! refl) (size_lit ! (record { fits = tiny })) (record { fits = small })) refl (tt, record { fits = small }) $
    take_at ! 2 $ move ! (0 ∷ 3 ∷ 4 ∷ []) $ lends_field E.al name fields 3 (heap_at E) (l 2) 0 words r.heap ρ qρ ! tt refl within (λ m.
    let κ : Lft = m.0 ∷ ρ in let place : ℕ × ℕ = (l 2, 0 + heap_at E) in
    let given_back = at_gives E.al 𝓛 𝓜.mem 𝓡.returns κ m.1 place r.heap b o bytes even (bare τs) in
    join ! $ move ! (2 ∷ 3 ∷ 0 ∷ []) $ use3 𝓛 (raw ((Gives E.al 𝓛 𝓜.mem 𝓡.returns).pre given_back))
    (Gives-goes E.al 𝓛 𝓜.mem 𝓡.returns κ m.1 place r.heap (Incl-trans (meet_⊑_right (m.0 ∷ []) ρ) within) b o bytes even (bare τs)
    (ap capped (size-raw τs) ∙ capped_is bytes small) (ap capped (align-raw (elτ E))) small (capped_fits (align (elτ E)))) $
    calls_at_last ! (framed 𝓤 𝓛.H 𝓜 𝓣) (Gives E.al 𝓛 𝓜.mem 𝓡.returns) (allocates.deallocate drops) given_back
    (and_then ! (get ! refl) (and_then ! (get ! refl) (and_then ! (get ! refl) (and_then ! (align_word !) (no_more !))))) (λ u.
    use1 𝓛 (later (given (u ≡ vunit) (‵ (flft κ m.1)))) (Gives-Gives E.al 𝓛 𝓜.mem 𝓡.returns κ m.1 place r.heap b o bytes even (bare τs) u) $
    await ! tt $ learn ! (λ unit.
    takes_back E.al name fields 3 (heap_at E) (l 2) 0 words r.heap ρ qρ ! tt m (λ hv' fits'. give_at ! 2 $
    lands_last ! refl (subst (λ (w : Val). dec.T (has_ty ty_unit w) × WT w) (sym unit) (tt, tt)) $
    exec ! 𝓣.C 𝓣.Λ (env fn.locals l) (after 4 fn.body) (at_ret _ Post) $
    sets ! (of_opd ! (get_in ! (fld ! refl (stop !)) (sub ! 3 refl (whole !)))) refl fits' $ sets ! (of_opd ! (get ! refl)) refl fits' $
    returns ! (look_at ! 0 refl) $ free_all ! refl $ keep ! (0 ∷ 2 ∷ 1 ∷ []) $
    suffices ! _ (ends_at 𝓛 En hs c y hv' r.heap ((tt, (tt, (tt, (tt, tt)))), tt) (tt, tt)) $ says ! refl $
    nothing ! $ nothing ! $ fjoin ! $ join ! $ nothing ! $ move ! (3 ∷ 0 ∷ []) $ join ! $ move ! (2 ∷ 0 ∷ []) $ join ! $ join ! $ done !)))))
    (λ no_room. skips ! $ exec ! 𝓣.C 𝓣.Λ (env fn.locals l) (after 4 fn.body) (at_ret _ Post) $ drop ! $
    sets ! (of_opd ! (get_in ! (fld ! refl (stop !)) (sub ! 3 refl (whole !)))) refl fits $ sets ! (of_opd ! (get ! refl)) refl fits $
    returns ! (look_at ! 0 refl) $ free_all ! refl $ keep ! (0 ∷ 2 ∷ 1 ∷ []) $
    suffices ! _ (ends_at 𝓛 En hs c y hv r.heap ((tt, (tt, (tt, (tt, tt)))), tt) (tt, tt)) $ says ! refl $
    nothing ! $ nothing ! $ fjoin ! $ join ! $ nothing ! $ move ! (3 ∷ 0 ∷ []) $ join ! $ move ! (2 ∷ 0 ∷ []) $ join ! $ join ! $ done !)))))
