-- The handle is lent for the call that takes the block back, and goes out.
use Rattle.raw_place.proofs.Steps.{◌≡◌, refl, sym, ap, [], ◌∷◌, ◌++◌, ftrue, flft, fact, tables, no, bounded, owns, plain, types_at, heard, nothing}
use Rattle.raw_place.proofs.Steps.{calls_at_last, framed, Stays, walk_of, says, stay_dropped, ends_at, inst_fn, bare, a_type, dcons, dnil, Val, vptr, WpFn}
use Rattle.raw_place.proofs.Steps.{alloc_all, env, free_all, get, get_in, lands_last, look_at, pass_all, sets, ‵, raw, ◌⊛◌, given, learn, later, prop, at_ret}
use Rattle.raw_place.proofs.Steps.{◌$◌, ◌∵◌, !, qed, done, move, keep, use1, split, split3, join, fsplit, fjoin, await, regoal, suffices, sub, whole, addr}
use Rattle.raw_place.proofs.Steps.{and_then, blocks, enter, exec, first, fld, no_more, of_opd, returns, stop, Bx, P, R, box_typed, τ, after, Goes-blank}
use Rattle.raw_place.proofs.Steps.{proved_at}
use base.Fml.{Incl-trans, Lft}
use contract.BorrowLft.{◌⊑◌, meet_⊑_right}
use denote.Signature.{Slot}
use lib.Dec as dec
use mathlib.Core.Path.{subst}
use mir.Syntax.{Tys, ty_ptr, ty_unit, tcons, tnil}
use mir.Val.{Vals, WT, has_ty, vcons, vnil, vunit}
use prog.Capped.{capped_fits}
use prog.Memory.{align, capped, size, up}
use prog.RawLaws.{align-raw, size-raw}
use Prim.Native.Nat.{ℕ, ◌+◌}
use types.ByLocal.{give_at, take_at}
use types.Kit.{use3}
use types.Run.{align_word, from, size_word}
use Rattle.std.proofs.alloc.Calls.{Gives, Gives-Gives, Gives-goes, at_gives, lends_field, takes_back, α}
use Rattle.raw_place.proofs.Rooms.{room_out}
use Rattle.raw_place.specs.contracts.spot.Room.{the_row, the_type}
use Rattle.raw_place.specs.contracts.spot.Room.free as f
use Rattle.raw_place.proofs.spot.Room.free.Statement.{statement}
use Rattle.raw_place.proofs.spot.Room.free.Code as code

pub free_spec : {M : Type 1} → statement M
free_spec 𝓤 𝓛 𝓜 𝓡 wired T A of_value of_heap g d drops allocates destroys =
    let E : Bx = record { row = T; laws = of_value; al = record { row = A; laws = of_heap; g = g; d = d; drops = drops } } in
    let En = f.ended T A g d drops in let c = f.clauses T A g d drops 𝓛 𝓜.mem 𝓡.returns in let 𝓣 = tables 𝓤 𝓛.H 𝓜 𝓡 𝓡.env in
    let inst = bounded (a_type ∷ a_type ∷ []) (T, (A, tt)) (dcons d (dcons drops dnil)) in let fn = inst_fn inst code.function in
    let rooms : Slot 2 = plain (λ _. the_row (R E) (P E) g) in
    let hs : Stays En.signature.params En.kept = (stay_dropped rooms no, tt) in
    proved_at 𝓛 En hs c 𝓜 𝓡 (Goes-blank 𝓛 2 rooms no (λ κs x last. tt), tt) (f.Key.name inst) fn (code.unfolded 𝓤 𝓛.H 𝓜 𝓡 wired (T, (A, tt)) d drops) (λ y are.
    let κs = y.0.0 in let qs = y.0.1 in let ρ = κs.1.0 in let qρ = qs.1.0 in let room = y.0.3.0 in let Post = (walk_of 𝓛 En hs c).post y in
    let bytes : ℕ = capped (size (τ E)) in let even : ℕ = capped (align (τ E)) in let at : ℕ = up (align (α E.al)) 8 in
    qed 𝓛 (((‵ (flft κs.0 qs.0) ⊛ ‵ (flft ρ qρ) ⊛ ‵ ftrue) ⊛ ‵ (owns (types_at En.signature.params κs) y.0.3 y.0.4)) ∷ raw (fact 𝓤 (κs.0 ⊑ T.lives))
    ∷ raw (fact 𝓤 (ρ ⊑ A.lives)) ∷ ‵ ftrue ∷ []) ∵
    move ! (2 ∷ []) $ heard ! (ρ ⊑ A.lives) (λ within. split ! $ move ! (1 ∷ []) $ fsplit ! $ room_out E ! room y.0.4.0 (λ b o hv ws fits.
    move ! (4 ∷ []) $ split3 ! $ keep ! (3 ∷ 4 ∷ 5 ∷ 1 ∷ 0 ∷ []) $
    -- [the room; the right to free; the handle; the handle's token; the value's token]
    regoal ! (λ us. prop (WpFn 𝓤 𝓛.H 𝓣.C 𝓣.Λ fn (us ++ []) Post)) ws refl $
    enter ! _ _ _ _ _ $ alloc_all ! (λ l. pass_all ! refl (box_typed E hv b o fits, tt) $
    let words : Vals = vcons (vptr b o) (vcons hv vnil) in let fields : Tys = tcons ty_ptr (tcons (α E.al) tnil) in let name = (the_type (R E) (P E) g).name in
    sets ! (of_opd ! (get ! refl)) refl (box_typed E hv b o fits) $ first ! $ blocks ! $ sets ! (addr ! (from ! (fld ! refl (stop !)))) refl (tt, tt) $
    sets ! (of_opd ! (get_in ! (fld ! refl (stop !)) (sub ! 0 refl (whole !)))) refl (tt, tt) $ sets ! (of_opd ! (get ! refl)) refl (tt, tt) $
    take_at ! 2 $ move ! (0 ∷ 3 ∷ 4 ∷ []) $ lends_field E.al name fields 1 at (l 2) 0 words room.heap ρ qρ ! tt refl within (λ m.
    let κ : Lft = m.0 ∷ ρ in let place : ℕ × ℕ = (l 2, 0 + at) in
    let given_back = at_gives E.al 𝓛 𝓜.mem 𝓡.returns κ m.1 place room.heap b o bytes even (bare (τ E)) in
    join ! $ move ! (2 ∷ 3 ∷ 0 ∷ []) $ use3 𝓛 (raw ((Gives E.al 𝓛 𝓜.mem 𝓡.returns).pre given_back))
    (Gives-goes E.al 𝓛 𝓜.mem 𝓡.returns κ m.1 place room.heap (Incl-trans (meet_⊑_right (m.0 ∷ []) ρ) within) b o bytes even (bare (τ E))
    (ap capped (size-raw (τ E))) (ap capped (align-raw (τ E))) (capped_fits (size (τ E))) (capped_fits (align (τ E)))) $
    calls_at_last ! (framed 𝓤 𝓛.H 𝓜 𝓣) (Gives E.al 𝓛 𝓜.mem 𝓡.returns) (allocates.deallocate drops) given_back
    (and_then ! (get ! refl) (and_then ! (get ! refl) (and_then ! (size_word !) (and_then ! (align_word !) (no_more !))))) (λ u.
    use1 𝓛 (later (given (u ≡ vunit) (‵ (flft κ m.1)))) (Gives-Gives E.al 𝓛 𝓜.mem 𝓡.returns κ m.1 place room.heap b o bytes even (bare (τ E)) u) $
    await ! tt $ learn ! (λ unit.
    takes_back E.al name fields 1 at (l 2) 0 words room.heap ρ qρ ! tt m (λ hv' fits'. give_at ! 2 $
    lands_last ! refl (subst (λ (w : Val). dec.T (has_ty ty_unit w) × WT w) (sym unit) (tt, tt)) $
    exec ! 𝓣.C 𝓣.Λ (env fn.locals l) (after 2 fn.body) (at_ret _ Post) $
    sets ! (of_opd ! (get_in ! (fld ! refl (stop !)) (sub ! 1 refl (whole !)))) refl fits' $ sets ! (of_opd ! (get ! refl)) refl fits' $
    returns ! (look_at ! 0 refl) $ free_all ! refl $ keep ! (0 ∷ 2 ∷ 1 ∷ []) $
    suffices ! _ (ends_at 𝓛 En hs c y hv' room.heap ((tt, (tt, tt)), tt) (tt, tt)) $ says ! refl $
    nothing ! $ nothing ! $ fjoin ! $ join ! $ nothing ! $ move ! (3 ∷ 0 ∷ []) $ join ! $ move ! (2 ∷ 0 ∷ []) $ join ! $ join ! $ done !))))))))
