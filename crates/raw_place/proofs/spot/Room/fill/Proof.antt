-- The room is read as a block and a handle; once the value is in the block, both make a spot.
use Rattle.raw_place.proofs.Steps.{refl, [], ◌∷◌, ◌++◌, tables, no, bounded, owns, block_ptr, plain, types_at, nothing, alive, Stays, walk_of, says}
use Rattle.raw_place.proofs.Steps.{stay_dropped, ends_at, Goes-dropped, full_share, part_at, inst_fn, a_type, dcons, dnil, WpFn, alloc_all, env, free_all, get}
use Rattle.raw_place.proofs.Steps.{get_in, look_at, pass_all, sets, through, ‵, raw, ◌⊛◌, prop, at_ret, ◌$◌, ◌∵◌, !, qed, done, move, keep, use2, split, join}
use Rattle.raw_place.proofs.Steps.{fsplit, fjoin, regoal, suffices, agg, sub, whole, and_then, assigns_last, blocks, enter, exec, first, fld, init, no_more}
use Rattle.raw_place.proofs.Steps.{of_opd, returns, stop, Bx, D, P, R, box_typed, word, box_in, el_in, el_tells, as_written, after, τ, Goes-blank, proved_at}
use denote.Signature.{Slot}
use Rattle.raw_place.proofs.Rooms.{room_out}
use Rattle.raw_place.specs.contracts.spot.Room.{the_row}
use Rattle.raw_place.specs.contracts.spot.Room.fill as f
use Rattle.raw_place.proofs.spot.Room.fill.Statement.{statement}
use Rattle.raw_place.proofs.spot.Room.fill.Code as code

pub fill_spec : {M : Type 1} → statement M
fill_spec 𝓤 𝓛 𝓜 𝓡 wired T A of_value of_heap g d drops allocates destroys =
    let E : Bx = record { row = T; laws = of_value; al = record { row = A; laws = of_heap; g = g; d = d; drops = drops } } in
    let En = f.ended T A g d drops in let c = f.clauses T A g d drops 𝓛 𝓜.mem 𝓡.returns in let 𝓣 = tables 𝓤 𝓛.H 𝓜 𝓡 𝓡.env in
    let inst = bounded (a_type ∷ a_type ∷ []) (T, (A, tt)) (dcons d (dcons drops dnil)) in let fn = inst_fn inst code.function in
    let rooms : Slot 2 = plain (λ _. the_row (R E) (P E) g) in let values : Slot 2 = plain (λ _. R E) in
    let hs : Stays En.signature.params En.kept = (stay_dropped rooms no, (stay_dropped values no, tt)) in
    proved_at 𝓛 En hs c 𝓜 𝓡 (Goes-blank 𝓛 2 rooms no (λ κs x last. tt), (Goes-dropped 𝓛 2 values no (λ κs x last. refl), tt)) (f.Key.name inst) fn
    (code.unfolded 𝓤 𝓛.H 𝓜 𝓡 wired (T, (A, tt)) d drops) (λ y are.
    let κs = y.0.0 in let qs = y.0.1 in let room = y.0.3.0 in let x = y.0.3.1.0 in let Post = (walk_of 𝓛 En hs c).post y in
    qed 𝓛 ((raw (alive 𝓛 En.signature κs qs) ⊛ ‵ (owns (types_at En.signature.params κs) y.0.3 y.0.4)) ∷ raw ((c κs y.0.3).requires y.1) ∷ []) ∵
    split ! $ move ! (1 ∷ []) $ fsplit ! $ room_out E ! room y.0.4.0 (λ b o hv ws fits.
    as_written ! (τ E) b o $ move ! (3 ∷ []) $ fsplit ! $ el_tells E ! x y.0.4.1.0 (λ v vs typed.
    -- [the value; nothing; the room; the right to free; the handle; the tokens; what the lifetimes outlive]
    regoal ! (λ us. prop (WpFn 𝓤 𝓛.H 𝓣.C 𝓣.Λ fn (us ++ (y.0.4.1.0 ++ [])) Post)) ws refl $
    regoal ! (λ us. prop (WpFn 𝓤 𝓛.H 𝓣.C 𝓣.Λ fn (word E hv b o ∷ (us ++ [])) Post)) vs refl $
    enter ! _ _ _ _ _ $ alloc_all ! (λ l. pass_all ! refl (box_typed E hv b o fits, (typed, tt)) $
    sets ! (of_opd ! (get_in ! (fld ! refl (stop !)) (sub ! 0 refl (whole !)))) refl (tt, tt) $
    sets ! (of_opd ! (get_in ! (fld ! refl (stop !)) (sub ! 1 refl (whole !)))) refl fits $
    first ! $ blocks ! $ sets ! (of_opd ! (get ! refl)) refl typed $ assigns_last ! (of_opd ! (get ! refl)) (through ! refl (stop !)) (init ! 2 refl typed) $
    exec ! 𝓣.C 𝓣.Λ (env fn.locals l) (after 3 fn.body) (at_ret _ Post) $
    sets ! (of_opd ! (get ! refl)) refl fits $ sets ! (agg ! (and_then ! (get ! refl) (and_then ! (get ! refl) (no_more !)))) refl (box_typed E hv b o fits) $
    returns ! (look_at ! 0 refl) $ free_all ! refl $
    move ! (2 ∷ 0 ∷ []) $ use2 𝓛 (‵ (part_at (R E) full_share x b o)) (el_in E 𝓛 x b o v) $ keep ! (0 ∷ 2 ∷ 3 ∷ 4 ∷ []) $
    let made : D E = record { ptr = block_ptr b o; alloc = room.heap; value = x } in box_in E ! made b o x refl refl $
    suffices ! _ (ends_at 𝓛 En hs c y (word E hv b o) (record { at = block_ptr b o; heap = room.heap; value = x }) ((tt, (tt, tt)), (tt, tt)) (tt, (tt, tt))) $
    says ! refl $
    nothing ! $ nothing ! $ fjoin ! $ nothing ! $ fjoin ! $ join ! $ move ! (1 ∷ 0 ∷ []) $ join ! $ done !))))
