-- The pointer of an empty row is the address of a local of no size; with a room of 0 it owns nothing there.
use Rattle.raw_place.proofs.Steps.{refl, [], ◌∷◌, ◌++◌, tables, no, bounded, owns, block_ptr, plain, types_at, nothing, alive, Stays, walk_of, says}
use Rattle.raw_place.proofs.Steps.{stay_dropped, ends_at, Goes-dropped, inst_fn, a_type, dcons, dnil, WpFn, alloc_all, free_all, get, look_at, pass_all, sets}
use Rattle.raw_place.proofs.Steps.{‵, raw, ◌⊛◌, prop, ◌$◌, ◌∵◌, !, qed, done, move, keep, split, join, fsplit, fjoin, regoal, suffices, agg, addr, and_then}
use Rattle.raw_place.proofs.Steps.{enter, no_more, of_opd, returns, stop, proved_at}
use denote.RattleType.{RattleType}
use denote.Signature.{Slot}
use lib.Dec.{lit<}
use native.Mathlib.Omega.{arith}
use types.Run.{from, lit}
use Rattle.std.proofs.VecSteps.El.{El, P, R, vec_typed, vec_val}
use Rattle.std.proofs.VecSteps.Opens.{vec_made}
use Rattle.std.proofs.alloc.Calls.{handle_tells}
use Rattle.raw_place.specs.Vectors.{as_vec}
use Rattle.raw_place.specs.contracts.row.Row.{the_row}
use Rattle.raw_place.specs.declared.row.Row.{Row}
use Rattle.raw_place.specs.contracts.row.Row.empty as f
use Rattle.raw_place.proofs.row.Row.empty.Statement.{statement}
use Rattle.raw_place.proofs.row.Row.empty.Code as code

pub empty_spec : {M : Type 1} → statement M
empty_spec 𝓤 𝓛 𝓜 𝓡 wired T A of_value of_heap g d drops allocates destroys =
    let E : El = record { row = T; laws = of_value; al = record { row = A; laws = of_heap; g = g; d = d; drops = drops } } in
    let En = f.ended T A g d drops in let c = f.clauses T A g d drops 𝓛 𝓜.mem 𝓡.returns in let 𝓣 = tables 𝓤 𝓛.H 𝓜 𝓡 𝓡.env in
    let inst = bounded (a_type ∷ a_type ∷ []) (T, (A, tt)) (dcons d (dcons drops dnil)) in let fn = inst_fn inst code.function in
    let handles : Slot 2 = plain (λ _. P E) in let rows : RattleType = the_row (R E) (P E) g in
    let hs : Stays En.signature.params En.kept = (stay_dropped handles no, tt) in
    proved_at 𝓛 En hs c 𝓜 𝓡 (Goes-dropped 𝓛 2 handles no (λ κs x last. refl), tt) (f.Key.name inst) fn
    (code.unfolded 𝓤 𝓛.H 𝓜 𝓡 wired (T, (A, tt)) d drops) (λ y are.
    let κs = y.0.0 in let qs = y.0.1 in let heap = y.0.3.0 in let Post = (walk_of 𝓛 En hs c).post y in
    qed 𝓛 ((raw (alive 𝓛 En.signature κs qs) ⊛ ‵ (owns (types_at En.signature.params κs) y.0.3 y.0.4)) ∷ raw ((c κs y.0.3).requires y.1) ∷ []) ∵
    split ! $ move ! (1 ∷ []) $ fsplit ! $ handle_tells E.al ! heap y.0.4.0 (λ hv only fits. keep ! (0 ∷ 2 ∷ []) $
    -- [the handle; the tokens]
    regoal ! (λ us. prop (WpFn 𝓤 𝓛.H 𝓣.C 𝓣.Λ fn (us ++ []) Post)) only refl $
    enter ! _ _ _ _ _ $ alloc_all ! (λ l. pass_all ! refl (fits, tt) $
    sets ! (agg ! (no_more !)) refl (tt, tt) $ sets ! (addr ! (from ! (stop !))) refl (tt, tt) $ sets ! (of_opd ! (get ! refl)) refl fits $
    sets ! (agg ! (and_then ! (get ! refl) (and_then ! (lit ! tt) (and_then ! (lit ! tt) (and_then ! (get ! refl) (no_more !)))))) refl
    (vec_typed E hv (l 2) 0 0 0 fits (lit< tt) (lit< tt)) $
    returns ! (look_at ! 0 refl) $ free_all ! refl $
    let none : Row T.Denot A.Denot =
    record { at = block_ptr (l 2) 0; len = 0; room = 0; heap = heap; items = []; counted = (refl, omega arith); small = omega arith } in
    nothing ! $ vec_made E ! (as_vec none) (l 2) 0 0 0 [] (refl, refl, refl, refl) (lit< tt) (lit< tt) (omega arith) $
    suffices ! _ (ends_at 𝓛 En hs c y (vec_val E hv (l 2) 0 0 0) none (tt, tt) (tt, tt)) $ says ! refl $
    nothing ! $ nothing ! $ fjoin ! $ join ! $ move ! (1 ∷ 0 ∷ []) $ join ! $ done !)))
