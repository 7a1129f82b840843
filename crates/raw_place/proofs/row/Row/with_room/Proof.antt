-- The handle is lent for the call that asks for a block, and goes on with the block, all of it spare, or comes back alone.
use Rattle.raw_place.proofs.Steps.{refl, ap, [], ◌∷◌, ◌++◌, Fml, fat, froom, ftrue, flft, full_share, id⊢, SProp, fact, tables, yes, no, part_at, bounded}
use Rattle.raw_place.proofs.Steps.{RattleType, owns, block_ptr, plain, types_at, heard, nothing, calls_at, framed, Stays, walk_of, says, stay_dropped, ends_at}
use Rattle.raw_place.proofs.Steps.{Goes-dropped, inst_fn, bare, a_type, dcons, dnil, Val, WpFn, alloc_all, env, free_all, get, get_in, lands_as, look_at}
use Rattle.raw_place.proofs.Steps.{pass_all, sets, sets_last, ‵, raw, ◌⊛◌, given, learn, later, prop, some, at_ret, ◌$◌, ◌∵◌, !, qed, done, drop, move, keep}
use Rattle.raw_place.proofs.Steps.{use0, use1, use2, split, split3, join, fsplit, fjoin, await, pick, regoal, suffices, agg, whole, addr, and_then, enter, exec}
use Rattle.raw_place.proofs.Steps.{first, fld, no_more, of_opd, returns, stop, as_written, after, proved_at}
use base.Fml.{Incl-trans, Lft, Share}
use base.Logic.{apply∗, sep, wand}
use borrow.Table.OneValue.{part_in, part_out}
use contract.BorrowLft.{◌⊑◌, meet_⊑_right}
use denote.Array.{Array}
use denote.Builtin.{usize}
use denote.Param.{param}
use denote.Signature.{Slot}
use lib.Dec.{lit<}
use mathlib.Core.Bool.{false, true}
use mathlib.Core.Path.{◌∙◌}
use mir.Syntax.{Body, ty_array}
use mir.Val.{vcons, vnil}
use native.Mathlib.Omega.{arith}
use prog.Capped.{capped_fits, capped_is}
use prog.Memory.{align, capped}
use prog.RawLaws.{align-raw, size-raw}
use prog.Wp.{Wp, after_seq, at_return}
use Prim.Native.Nat.{ℕ, ◌+◌, ◌-◌, ◌*◌, ◌<◌, ◌^◌}
use types.ByLocal.{get_tag, give_at, take_at}
use types.Kit.{Post as After, any_q}
use types.Logic.{sem}
use types.Match.{in_variant, live, vrt}
use types.Run.{align_word, bin, from, lit, size_lit, switches_on}
use Rattle.std.proofs.RcSteps.{first_Good, some_Good}
use Rattle.std.proofs.ResultValues.{err_of, ok_of}
use Rattle.std.proofs.VecSteps.El.{El, P, R, elτ, sz, vec_ty, vec_typed, vec_val}
use Rattle.std.proofs.VecSteps.Opens.{blk_in, vec_made}
use Rattle.std.proofs.VecSteps.Rows.{empty, room_split}
use Rattle.std.proofs.VecSteps.Shapes.{arm_body, head}
use Rattle.std.proofs.alloc.Calls.{Answer-typed, Answered, Fits, Lent, Takes, Takes-gives, Takes-goes, answers, at_takes, handle_tells, lends, seen, α}
use Rattle.std.proofs.ptr.Rows.{one_below}
use Rattle.std.specs.Vec.Ownership.{FitsInBlock}
use Rattle.std.specs.contracts.result.Result as result
use Rattle.std.specs.declared.result.Result.TheVariants.{Err, Ok}
use Rattle.raw_place.specs.Vectors.{as_vec}
use Rattle.raw_place.specs.contracts.row.Row.{the_row}
use Rattle.raw_place.specs.declared.row.Row.{Row}
use Rattle.raw_place.specs.contracts.row.Row.with_room as f
use Rattle.raw_place.proofs.row.Row.with_room.Statement.{statement}
use Rattle.raw_place.proofs.row.Row.with_room.Code as code

pub with_room_spec : {M : Type 1} → statement M
with_room_spec 𝓤 𝓛 𝓜 𝓡 wired T A of_value of_heap g d drops allocates destroys =
    let E : El = record { row = T; laws = of_value; al = record { row = A; laws = of_heap; g = g; d = d; drops = drops } } in
    let En = f.ended T A g d drops in let c = f.clauses T A g d drops 𝓛 𝓜.mem 𝓡.returns in let 𝓣 = tables 𝓤 𝓛.H 𝓜 𝓡 𝓡.env in
    let inst = bounded (a_type ∷ a_type ∷ []) (T, (A, tt)) (dcons d (dcons drops dnil)) in let fn = inst_fn inst code.function in
    let handles : Slot 2 = plain (λ _. P E) in let numbers : Slot 2 = plain (λ _. usize) in let rows : RattleType = the_row (R E) (P E) g in
    let out : RattleType = result.the_row rows (P E) in
    let hs : Stays En.signature.params En.kept = (stay_dropped handles no, (stay_dropped numbers yes, tt)) in
    proved_at 𝓛 En hs c 𝓜 𝓡 (Goes-dropped 𝓛 2 handles no (λ κs x last. refl), (Goes-dropped 𝓛 2 numbers yes (λ κs x last. refl), tt)) (f.Key.name inst) fn
    (code.unfolded 𝓤 𝓛.H 𝓜 𝓡 wired (T, (A, tt)) d drops) (λ y are.
    let κs = y.0.0 in let qs = y.0.1 in let ρ = κs.1.0 in let qρ = qs.1.0 in let heap = y.0.3.0 in let room = y.0.3.1.0 in
    let Post = (walk_of 𝓛 En hs c).post y in
    qed 𝓛 (((‵ (flft κs.0 qs.0) ⊛ ‵ (flft ρ qρ) ⊛ ‵ ftrue) ⊛ ‵ (owns (types_at En.signature.params κs) y.0.3 y.0.4))
    ∷ raw (fact 𝓤 (κs.0 ⊑ T.lives)) ∷ raw (fact 𝓤 (ρ ⊑ A.lives)) ∷ raw (fact 𝓤 (0 < room)) ∷ raw (fact 𝓤 (FitsInBlock T room)) ∷ []) ∵
    move ! (4 ∷ []) $ heard ! (FitsInBlock T room) (λ fit. move ! (3 ∷ []) $ heard ! (0 < room) (λ some_room. move ! (2 ∷ []) $ heard ! (ρ ⊑ A.lives) (λ within.
    split ! $ move ! (1 ∷ []) $ fsplit ! $ handle_tells E.al ! heap y.0.4.0 (λ hv only fits. move ! (2 ∷ []) $ split3 ! $ keep ! (3 ∷ 1 ∷ 0 ∷ []) $
    -- [the handle; the handle's token; the value's token]
    regoal ! (λ us. prop (WpFn 𝓤 𝓛.H 𝓣.C 𝓣.Λ fn (us ++ (y.0.4.1.0 ++ [])) Post)) only refl $
    regoal ! (λ us. prop (WpFn 𝓤 𝓛.H 𝓣.C 𝓣.Λ fn (hv ∷ (us ++ [])) Post)) are.1.0.0 refl $
    let bytes : ℕ = room * sz E in let even : ℕ = capped (align (elτ E)) in let τs = ty_array (elτ E) room in
    let small : bytes < 2 ^ 64 = let few = fit.0 in omega arith in let tiny : sz E < 2 ^ 64 = one_below room (sz E) (2 ^ 64) some_room small in
    let few : room < 2 ^ 64 = let few = fit.1 in omega arith in
    enter ! _ _ _ _ _ $ alloc_all ! (λ l. pass_all ! refl (fits, ((tt, record { fits = few }), tt)) $
    let place : ℕ × ℕ = (l 3, 0) in let lies : Fml = part_at (param 0 A) full_share heap (l 3) 0 in let both : Body = head (after 4 fn.body) in
    let Then : After 𝓤 𝓛.H =
    any_q (after_seq 𝓤 𝓛.H (Wp 𝓤 𝓛.H 𝓣.C 𝓣.Λ (env fn.locals l) (after 5 fn.body) (at_return 𝓤 𝓛.H (env fn.locals l) Post))
    (at_return 𝓤 𝓛.H (env fn.locals l) Post)) in
    sets ! (of_opd ! (get ! refl)) refl fits $ sets ! (addr ! (from ! (stop !))) refl (tt, tt) $
    sets ! (bin ! (get ! refl) (size_lit ! (record { fits = tiny })) (record { fits = small })) refl (tt, record { fits = small }) $ take_at ! 3 $
    use2 𝓛 (‵ lies) (part_in 𝓛 (param 0 A) refl full_share heap (l 3) 0 hv) $
    use2 𝓛 (later (some (λ (m : ℕ × Share). raw (Lent E.al 𝓛 ρ qρ place heap m)))) (lends E.al 𝓛 ρ qρ within place heap) $ await ! tt $ pick ! (λ m.
    let κ : Lft = m.0 ∷ ρ in let Home : SProp 𝓤 = 𝓛.H.⇛ (sep 𝓤 (sem 𝓛 lies) (𝓛.A.lft ρ qρ)) in
    let asked = at_takes E.al 𝓛 𝓜.mem 𝓡.returns κ m.1 place heap bytes even (bare τs) in
    use1 𝓛 (‵ (seen E.al κ place heap) ⊛ ‵ (flft κ m.1) ⊛ raw (wand 𝓤 (𝓛.A.lft κ m.1) Home)) (id⊢ 𝓤 _) $ split3 ! $
    use2 𝓛 (raw ((Takes E.al 𝓛 𝓜.mem 𝓡.returns).pre asked))
    (Takes-goes E.al 𝓛 𝓜.mem 𝓡.returns κ m.1 place heap (Incl-trans (meet_⊑_right (m.0 ∷ []) ρ) within) bytes even (bare τs)
    (ap capped (size-raw τs) ∙ capped_is bytes small) (ap capped (align-raw (elτ E))) small (capped_fits (align (elτ E)))) $
    calls_at ! (framed 𝓤 𝓛.H 𝓜 𝓣) (Takes E.al 𝓛 𝓜.mem 𝓡.returns) (allocates.allocate drops) asked
    (and_then ! (get ! refl) (and_then ! (get ! refl) (and_then ! (align_word !) (no_more !)))) (λ u.
    use1 𝓛 (later (raw (Answered E.al 𝓛 𝓜.mem 𝓡.returns heap (bare τs) u) ⊛ ‵ (flft κ m.1)))
    (Takes-gives E.al 𝓛 𝓜.mem 𝓡.returns κ m.1 place heap bytes even (bare τs) u) $ await ! tt $ split ! $ move ! (1 ∷ 2 ∷ []) $
    use2 𝓛 (later (‵ lies ⊛ ‵ (flft ρ qρ))) (apply∗ 𝓤 (𝓛.A.lft κ m.1) Home) $ await ! tt $ split ! $
    use1 𝓛 (some (λ (w : Val). ‵ (fat full_share (α E.al) (l 3) 0 w) ⊛ ‵ (A.own_val heap (w ∷ [])))) (part_out 𝓛 (param 0 A) refl full_share heap (l 3) 0) $
    pick ! (λ hv'. split ! $
    use1 𝓛 (given (Fits E.al hv') (‵ (fat full_share (α E.al) (l 3) 0 hv'))) (𝓛.laws.at_wt full_share (α E.al) (l 3) 0 hv') $
    learn ! (λ fits'. give_at ! 3 $ move ! (2 ∷ []) $
    answers E.al ! 𝓜.mem 𝓡.returns heap (bare τs) u
    (λ b o is. let words = vec_val E hv' b o 0 room in let made = vec_typed E hv' b o 0 room fits' (lit< tt) few in
    let won = first_Good (vec_ty E) words made in let value = live 0 (vcons words vnil) in
    let new : Row T.Denot A.Denot =
    record { at = block_ptr b o; len = 0; room = room; heap = heap; items = []; counted = (refl, omega arith); small = fit.1 } in
    lands_as ! is refl (Answer-typed true b o) $ first ! $ switches_on ! (get_tag ! (vrt ! refl (fld ! refl (stop !))) (whole !)) $
    exec ! 𝓣.C 𝓣.Λ (env fn.locals l) (arm_body 0 both) Then $
    sets ! (of_opd ! (get_in ! (vrt ! refl (fld ! refl (stop !))) (in_variant ! 0 0 refl refl (whole !)))) refl (tt, tt) $
    sets ! (of_opd ! (get ! refl)) refl (tt, tt) $ sets ! (of_opd ! (get ! refl)) refl fits' $
    sets ! (agg ! (and_then ! (get ! refl) (and_then ! (lit ! tt) (and_then ! (get ! refl) (and_then ! (get ! refl) (no_more !)))))) refl made $
    sets_last ! (agg ! (and_then ! (lit ! tt) (and_then ! (get ! refl) (no_more !)))) refl won $
    exec ! 𝓣.C 𝓣.Λ (env fn.locals l) (after 5 fn.body) (at_ret _ Post) $ sets ! (of_opd ! (get ! refl)) refl won $
    as_written ! τs b o $ use1 𝓛 (‵ (froom (ty_array (elτ E) 0) b o) ⊛ ‵ (froom (ty_array (elτ E) (room - 0)) b (o + 0 * sz E)))
    (room_split E 𝓛 0 room b o (omega arith)) $ split ! $ drop ! $
    use0 𝓛 (‵ (part_at (Array (R E) 0) full_share [] b o)) (empty E 𝓛 [] b o refl) $ blk_in E ! heap b o 0 room [] some_room $
    vec_made E ! (as_vec new) b o 0 room [] (refl, refl, refl, refl) (lit< tt) few fit.0 $
    use1 𝓛 (‵ (out.own_val (Ok new) (value ∷ []))) (ok_of 𝓛 rows (P E) new words) $
    returns ! (look_at ! 0 refl) $ free_all ! refl $ keep ! (0 ∷ 2 ∷ 1 ∷ []) $
    suffices ! _ (ends_at 𝓛 En hs c y value (Ok new) (tt, (tt, tt)) (tt, (tt, tt))) $ says ! (refl, refl) $
    nothing ! $ nothing ! $ fjoin ! $ nothing ! $ fjoin ! $ join ! $ nothing ! $ move ! (3 ∷ 0 ∷ []) $ join ! $ move ! (2 ∷ 0 ∷ []) $ join ! $ join ! $ done !)
    (λ is. let lost = some_Good (α E.al) hv' fits' in let value = live 1 (vcons hv' vnil) in
    lands_as ! is refl (Answer-typed false 0 0) $ first ! $ switches_on ! (get_tag ! (vrt ! refl (fld ! refl (stop !))) (whole !)) $
    exec ! 𝓣.C 𝓣.Λ (env fn.locals l) (arm_body 1 both) Then $
    sets ! (of_opd ! (get ! refl)) refl fits' $ sets_last ! (agg ! (and_then ! (lit ! tt) (and_then ! (get ! refl) (no_more !)))) refl lost $
    exec ! 𝓣.C 𝓣.Λ (env fn.locals l) (after 5 fn.body) (at_ret _ Post) $ sets ! (of_opd ! (get ! refl)) refl lost $
    use1 𝓛 (‵ (out.own_val (Err heap) (value ∷ []))) (err_of 𝓛 rows (P E) heap hv') $ returns ! (look_at ! 0 refl) $ free_all ! refl $ keep ! (0 ∷ 2 ∷ 1 ∷ []) $
    suffices ! _ (ends_at 𝓛 En hs c y value (Err heap) (tt, (tt, tt)) (tt, (tt, tt))) $ says ! refl $
    nothing ! $ nothing ! $ fjoin ! $ nothing ! $ fjoin ! $ join ! $ nothing ! $ move ! (3 ∷ 0 ∷ []) $ join ! $ move ! (2 ∷ 0 ∷ []) $ join ! $
    join ! $ done !)))))))))))
