-- The borrow of the row is opened, the last value is loaded, and the borrow is closed over the values before it.
use Rattle.raw_place.proofs.Steps.{◌≡◌, refl, sym, ap, List, [], ◌∷◌, ◌++◌, fat, froom, ftrue, flft, full_share, id⊢, fact, tables, part_at, bounded, owns}
use Rattle.raw_place.proofs.Steps.{plain, types_at, heard, nothing, Stays, walk_of, says, ends_at, inst_fn, a_type, dcons, dnil, Val, vptr, alloc_all, env}
use Rattle.raw_place.proofs.Steps.{free_all, get, look_at, pass_all, sets, sets_last, through, ‵, raw, ◌⊛◌, given, learn, pick, some, at_ret, ◌$◌, ◌∵◌, !, qed}
use Rattle.raw_place.proofs.Steps.{done, drop, frame, move, keep, use1, use2, split, join, fsplit, fjoin, rewrite, suffices, sub, whole, blocks, enter, exec}
use Rattle.raw_place.proofs.Steps.{first, fld, load, look, of_opd, returns, stop, after, proved}
use contract.BorrowLft.{◌⊑◌}
use denote.Array.{Array}
use denote.Memory.{cell_at}
use denote.Ref.{mut_Tells, mut_vals}
use denote.Signature.{Slot}
use denote.Steps.{closes, opens}
use denote.Triple.Walked.{Goes-ref, stay_ref}
use lib.ListN.{get_or, length, length-take, take}
use mathlib.Core.Path.{◌∙◌}
use mir.Syntax.{named, ty_array}
use native.Mathlib.Omega.{arith}
use Prim.Native.Nat.{ℕ, suc, ◌+◌, ◌-◌, ◌*◌, ◌<◌, ◌^◌}
use types.Kit.{feq_i, fjoin3, fsplit3}
use types.Part.{look_in, store_in}
use types.Run.{assigns, bin, lit, size_lit}
use Rattle.std.proofs.VecSteps.El.{El, Good, P, R, Vr, el_own, elτ, sz, vec_val}
use Rattle.std.proofs.VecSteps.Opens.{blk_in, blk_out, vec_had, vec_made}
use Rattle.std.proofs.VecSteps.Rows.{el_out, unsnoc, unspare}
use Rattle.std.proofs.ptr.Rows.{hd, one_below, take_all, take_snoc, times_below}
use Rattle.raw_place.specs.Vectors.{as_vec}
use Rattle.raw_place.specs.contracts.row.Row.{the_row}
use Rattle.raw_place.specs.declared.row.Row.{Row}
use Rattle.raw_place.specs.contracts.row.Row.take_last as f
use Rattle.raw_place.proofs.row.Row.take_last.Statement.{statement}
use Rattle.raw_place.proofs.row.Row.take_last.Code as code

-- ---- the last value, and the call that takes it
-- a list that has a value is what precedes the last one, and that one
last_split : {X : Type 0} (xs : List X) (k : ℕ) (x : X) → length xs ≡ suc k → xs ≡ take k xs ++ get_or xs k x ∷ []
last_split xs k x long = sym (take_all xs) ∙ ap (λ (n : ℕ). take n xs) long ∙ take_snoc xs k x (omega arith)

pub take_last_spec : {M : Type 1} → statement M
take_last_spec 𝓤 𝓛 𝓜 𝓡 wired T A of_value of_heap g d drops allocates destroys =
    let E : El = record { row = T; laws = of_value; al = record { row = A; laws = of_heap; g = g; d = d; drops = drops } } in
    let En = f.ended T A g d drops in let c = f.clauses T A g d drops 𝓛 𝓜.mem 𝓡.returns in let 𝓣 = tables 𝓤 𝓛.H 𝓜 𝓡 𝓡.env in
    let inst = bounded (a_type ∷ a_type ∷ []) (T, (A, tt)) (dcons d (dcons drops dnil)) in let fn = inst_fn inst code.function in
    let rows = the_row (R E) (P E) g in let row_slot : Slot 3 = plain (λ _. rows) in
    let hs : Stays En.signature.params En.kept = (stay_ref (0 ∷ []) tt row_slot, tt) in
    proved 𝓛 En hs c 𝓜 𝓡 (Goes-ref 𝓛 3 0 tt row_slot, tt) (f.Key.name inst) fn (code.unfolded 𝓤 𝓛.H 𝓜 𝓡 wired (T, (A, tt)) d drops)
    (λ κs. (mut_vals, tt)) (λ κs. (mut_Tells (named 0) κs.0 rows, tt)) (λ κs qs bounds a n are.
    let r = a.0.now in let γ = a.0.ghost_name in let rb = a.0.ref_ptr.0 in let ro = a.0.ref_ptr.1 in
    let y : (walk_of 𝓛 En hs c).Ghost = ((κs, qs, bounds, a, (vptr rb ro ∷ [], tt)), n) in let Post = (walk_of 𝓛 En hs c).post y in
    qed 𝓛 (((‵ (flft κs.0 qs.0) ⊛ (‵ (flft κs.1.0 qs.1.0) ⊛ ‵ (flft κs.1.1.0 qs.1.1.0) ⊛ ‵ ftrue)) ⊛ ‵ (owns (types_at En.signature.params κs) a y.0.4))
    ∷ raw (fact 𝓤 (κs.1.0 ⊑ T.lives)) ∷ raw (fact 𝓤 (κs.1.1.0 ⊑ A.lives)) ∷ raw (fact 𝓤 (0 < length r.items)) ∷ []) ∵
    move ! (3 ∷ []) $ heard ! (0 < length r.items) (λ listed. split ! $ split ! $ move ! (2 ∷ []) $ fsplit ! $ keep ! (0 ∷ 2 ∷ 3 ∷ []) $
    let k : ℕ = r.len - 1 in let one_less : k + 1 ≡ r.len = let same = r.counted.0 in omega arith in
    let less : k < r.room = let fits = r.counted.1 in omega arith in let some_room : 0 < r.room = omega arith in
    let x : T.Denot = get_or r.items k (hd r.items listed) in let before : List T.Denot = take k r.items in
    let split_off : r.items ≡ before ++ x ∷ [] = last_split r.items k (hd r.items listed) (let same = r.counted.0 in omega arith) in
    let short : length before ≡ k = length-take k r.items ∙ (let same = r.counted.0 in omega arith) in
    let few_left : k < 2 ^ 64 = let few = r.small in omega arith in
    enter ! _ _ _ _ _ $ alloc_all ! (λ l. pass_all ! refl ((tt, tt), tt) $
    fsplit3 ! $ drop ! $ opens ! tt rows {h = r} rb ro (λ us.
    move ! (1 ∷ []) $ use1 𝓛 (‵ ((Vr E).own_val (as_vec r) us)) (id⊢ 𝓤 _) $ vec_had E ! (as_vec r) us (λ b o hv at ws few fc fit fits.
    rewrite ! 2 (λ words. ‵ (cell_at full_share rows.mir words rb ro)) ws refl $ blk_out E ! r.heap b o r.len r.room r.items some_room $
    rewrite ! 0 (λ (xs : List T.Denot). ‵ (part_at (Array (R E) r.len) full_share xs b o)) split_off refl $
    use1 𝓛 (‵ (part_at (Array (R E) k) full_share before b o) ⊛ ‵ (part_at (R E) full_share x b (k * sz E + o))) (unsnoc E 𝓛 b o r.len k before x short) $
    split ! $ move ! (1 ∷ []) $
    use1 𝓛 (some (λ (v : Val). given (Good E v) (‵ (fat full_share (elτ E) b (k * sz E + o) v) ⊛ ‵ (el_own E x (v ∷ [])))))
    (el_out E 𝓛 full_share x b (k * sz E + o)) $ pick ! (λ v. learn ! (λ typed. split ! $
    -- [the last value's cell; the last value; the values before it; the spare room; the right to free; the handle; the row's cell; the open borrow, in three
    -- entries; the other tokens]
    let near : k * sz E < 2 ^ 64 = let below = times_below k r.room (sz E) (2 ^ 63) (omega arith) fit in omega arith in
    let tiny : sz E < 2 ^ 64 = let below = one_below r.room (sz E) (2 ^ 63) some_room fit in omega arith in
    sets ! (of_opd ! (load ! (through ! refl (fld ! refl (stop !))) (look_in ! 6 (sub ! 1 refl (whole !))))) refl (tt, record { fits = few }) $
    sets ! (bin ! (get ! refl) (lit ! tt) (omega arith)) refl (tt, record { fits = few_left }) $
    assigns ! (of_opd ! (get ! refl)) (through ! refl (fld ! refl (stop !))) (store_in ! 6 (sub ! 1 refl (whole !)) (tt, record { fits = few_left })) $
    first ! $ blocks ! $ sets ! (of_opd ! (load ! (through ! refl (fld ! refl (stop !))) (look_in ! 6 (sub ! 0 refl (whole !))))) refl (tt, tt) $
    sets ! (bin ! (get ! refl) (size_lit ! (record { fits = tiny })) (record { fits = near })) refl (tt, record { fits = near }) $
    sets ! (bin ! (get ! refl) (get ! refl) tt) refl (tt, tt) $ sets_last ! (of_opd ! (load ! (through ! refl (stop !)) (look ! 0 refl))) refl typed $
    exec ! 𝓣.C 𝓣.Λ (env fn.locals l) (after 4 fn.body) (at_ret _ Post) $ sets ! (of_opd ! (get ! refl)) refl typed $
    let next : Row T.Denot A.Denot =
    record { at = r.at; len = k; room = r.room; heap = r.heap; items = before; counted = (sym short, omega arith); small = r.small } in
    use1 𝓛 (‵ (froom (elτ E) b (k * sz E + o))) (𝓛.laws.at_room (elτ E) b (k * sz E + o) v) $
    rewrite ! 3 (λ (j : ℕ). ‵ (froom (ty_array (elτ E) (r.room - j)) b (o + j * sz E))) (sym one_less) refl $
    move ! (0 ∷ 3 ∷ []) $ use2 𝓛 (‵ (froom (ty_array (elτ E) (r.room - k)) b (o + k * sz E))) (unspare E 𝓛 b o k r.room less) $
    move ! (2 ∷ 0 ∷ 3 ∷ []) $ blk_in E ! r.heap b o k r.room before some_room $ move ! (0 ∷ 2 ∷ []) $
    vec_made E ! (as_vec next) b o k r.room before (at, refl, refl, refl) few_left fc fit $
    move ! (2 ∷ 0 ∷ 3 ∷ 4 ∷ 5 ∷ []) $ closes ! tt rows next (vec_val E hv b o k r.room ∷ []) rb ro $
    returns ! (look_at ! 0 refl) $ free_all ! refl $ move ! (2 ∷ 4 ∷ []) $ join ! $
    suffices ! _ (ends_at 𝓛 En hs c y v x (next, tt) (tt, tt)) $ says ! split_off $
    frame ! $ feq_i ! (List Val) (vptr rb ro ∷ []) (vptr rb ro ∷ []) refl $ fjoin3 ! $ nothing ! $ move ! (1 ∷ 0 ∷ []) $ fjoin ! $ done !)))))))
