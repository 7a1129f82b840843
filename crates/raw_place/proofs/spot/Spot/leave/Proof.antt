-- The spot is read as the box of its shape; its value is loaded, and the block is a room again.
use Rattle.raw_place.proofs.Steps.{refl, feq_i, List, [], ◌∷◌, ◌++◌, froom, fat, id⊢, tables, no, bounded, owns, full_share, plain, types_at, nothing, alive}
use Rattle.raw_place.proofs.Steps.{block_ptr, Stays, walk_of, says, stay_dropped, ends_at, inst_fn, a_type, dcons, dnil, Val, WpFn, alloc_all, env, free_all}
use Rattle.raw_place.proofs.Steps.{get, get_in, look_at, pass_all, sets, sets_last, through, ‵, raw, ◌⊛◌, given, learn, some, prop, at_ret, ◌$◌, ◌∵◌, !, qed}
use Rattle.raw_place.proofs.Steps.{done, move, keep, use1, split, join, fsplit, fjoin, pick, regoal, suffices, agg, sub, whole, and_then, blocks, enter, exec}
use Rattle.raw_place.proofs.Steps.{first, fld, load, look, no_more, of_opd, returns, stop, B, Bx, D, Good, P, R, box_typed, own, word, box_out, el_out, as_raw}
use Rattle.raw_place.proofs.Steps.{after, τ, Goes-blank, proved_at}
use denote.RattleType.{RattleType, Valss}
use denote.Signature.{Slot}
use denote.Struct.Declared.{shape}
use denote.Struct.Struct.{as_fields, within}
use denote.Struct.Tuple.{tuple_type}
use mir.Val.{of_list, vstruct}
use types.Kit.{fpack}
use Rattle.std.proofs.BoxSteps.Form.{box_ty}
use Rattle.raw_place.specs.contracts.spot.Room as room
use Rattle.raw_place.proofs.Rooms.{room_in}
use Rattle.raw_place.specs.contracts.spot.Spot.{the_row}
use Rattle.raw_place.specs.contracts.spot.Spot.leave as f
use Rattle.raw_place.proofs.spot.Spot.leave.Statement.{statement}
use Rattle.raw_place.proofs.spot.Spot.leave.Code as code

pub leave_spec : {M : Type 1} → statement M
leave_spec 𝓤 𝓛 𝓜 𝓡 wired T A of_value of_heap g d drops allocates destroys =
    let E : Bx = record { row = T; laws = of_value; al = record { row = A; laws = of_heap; g = g; d = d; drops = drops } } in
    let En = f.ended T A g d drops in let c = f.clauses T A g d drops 𝓛 𝓜.mem 𝓡.returns in let 𝓣 = tables 𝓤 𝓛.H 𝓜 𝓡 𝓡.env in
    let inst = bounded (a_type ∷ a_type ∷ []) (T, (A, tt)) (dcons d (dcons drops dnil)) in let fn = inst_fn inst code.function in
    let spots : Slot 2 = plain (λ _. the_row (R E) (P E) g) in
    let hs : Stays En.signature.params En.kept = (stay_dropped spots no, tt) in
    proved_at 𝓛 En hs c 𝓜 𝓡 (Goes-blank 𝓛 2 spots no (λ κs x last. tt), tt) (f.Key.name inst) fn (code.unfolded 𝓤 𝓛.H 𝓜 𝓡 wired (T, (A, tt)) d drops) (λ y are.
    let κs = y.0.0 in let qs = y.0.1 in let s = y.0.3.0 in let Post = (walk_of 𝓛 En hs c).post y in
    let v : D E = record { ptr = s.at; alloc = s.heap; value = s.value } in
    qed 𝓛 ((raw (alive 𝓛 En.signature κs qs) ⊛ ‵ (owns (types_at En.signature.params κs) y.0.3 y.0.4)) ∷ raw ((c κs y.0.3).requires y.1) ∷ []) ∵
    split ! $ move ! (1 ∷ []) $ fsplit ! $ use1 𝓛 (‵ ((B E).own_val v y.0.4.0)) (id⊢ 𝓤 _) $ box_out E ! v y.0.4.0 (λ b o hv at ws fits.
    use1 𝓛 (some (λ (u : Val). given (Good E u) (‵ (fat full_share (τ E) b o u) ⊛ ‵ (own E s.value (u ∷ []))))) (el_out E 𝓛 s.value b o) $
    pick ! (λ u. learn ! (λ typed. split ! $
    -- [the value's cell; the value; the right to free; the handle; nothing; the tokens; what the lifetimes outlive]
    regoal ! (λ us. prop (WpFn 𝓤 𝓛.H 𝓣.C 𝓣.Λ fn (us ++ []) Post)) ws refl $
    enter ! _ _ _ _ _ $ alloc_all ! (λ l. pass_all ! refl (box_typed E hv b o fits, tt) $
    sets ! (of_opd ! (get_in ! (fld ! refl (stop !)) (sub ! 0 refl (whole !)))) refl (tt, tt) $
    sets ! (of_opd ! (get_in ! (fld ! refl (stop !)) (sub ! 1 refl (whole !)))) refl fits $
    first ! $ blocks ! $ sets_last ! (of_opd ! (load ! (through ! refl (stop !)) (look ! 0 refl))) refl typed $
    exec ! 𝓣.C 𝓣.Λ (env fn.locals l) (after 3 fn.body) (at_ret _ Post) $
    sets ! (of_opd ! (get ! refl)) refl typed $ sets ! (of_opd ! (get ! refl)) refl typed $ sets ! (of_opd ! (get ! refl)) refl fits $
    sets ! (agg ! (and_then ! (get ! refl) (and_then ! (get ! refl) (no_more !)))) refl (box_typed E hv b o fits) $
    let two = vstruct (of_list (u ∷ word E hv b o ∷ [])) in
    sets ! (agg ! (and_then ! (get ! refl) (and_then ! (get ! refl) (no_more !)))) refl
    (as_fields (τ E ∷ box_ty E ∷ []) (u ∷ word E hv b o ∷ []) (typed, (box_typed E hv b o fits, tt))) $
    returns ! (look_at ! 0 refl) $ free_all ! refl $ use1 𝓛 (‵ (froom (τ E) b o)) (𝓛.laws.at_room (τ E) b o u) $ as_raw ! (τ E) b o $
    keep ! (0 ∷ 2 ∷ 3 ∷ 1 ∷ 5 ∷ []) $
    room_in E ! s.heap b o $ nothing ! $ move ! (1 ∷ 0 ∷ []) $ fjoin ! $ move ! (1 ∷ 0 ∷ []) $ fjoin ! $
    feq_i ! (List Val) (two ∷ []) (two ∷ []) refl $ fjoin ! $
    let room : RattleType = room.the_row (R E) (P E) g in
    fpack ! (Valss (R E ∷ room ∷ [])) (within (shape (tuple_type (R E ∷ room ∷ []))) (s.value, (record { at = block_ptr b o; heap = s.heap }, tt)) (two ∷ []))
    (u ∷ [], (word E hv b o ∷ [], tt)) $
    suffices ! _ (ends_at 𝓛 En hs c y two (s.value, record { at = block_ptr b o; heap = s.heap }) ((tt, (tt, tt)), tt) (tt, tt)) $ says ! refl $
    nothing ! $ nothing ! $ fjoin ! $ join ! $ move ! (1 ∷ 0 ∷ []) $ join ! $ done !)))))
