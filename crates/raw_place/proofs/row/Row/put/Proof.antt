-- The borrow of the row is opened, the value is written behind the last one, and the borrow is closed over one value more.
use Rattle.raw_place.proofs.Steps.{refl, sym, ap, List, [], ◌∷◌, ◌++◌, froom, ftrue, flft, full_share, id⊢, fact, tables, no, part_at, bounded, owns, plain}
use Rattle.raw_place.proofs.Steps.{types_at, heard, nothing, Stays, walk_of, stay_dropped, ends_at, Goes-dropped, inst_fn, a_type, dcons, dnil, Val, vptr, WpFn}
use Rattle.raw_place.proofs.Steps.{alloc_all, env, free_all, get, look_at, pass_all, sets, through, ‵, raw, ◌⊛◌, prop, at_ret, ◌$◌, ◌∵◌, !, qed, done, drop}
use Rattle.raw_place.proofs.Steps.{frame, move, keep, use1, use2, split, join, fsplit, fjoin, feq_i, regoal, rewrite, suffices, sub, whole, assigns_last}
use Rattle.raw_place.proofs.Steps.{blocks, enter, exec, first, fld, init, load, of_opd, returns, stop, Bx, el_tells, after, proved_at}
use contract.BorrowLft.{◌⊑◌}
use denote.Array.{Array}
use denote.Memory.{cell_at}
use denote.Signature.{Slot}
use denote.Steps.{closes, opens}
use denote.Triple.Walked.{Goes-ref, stay_ref}
use lib.ListN.{length, length-append}
use mathlib.Core.Path.{◌∙◌}
use mir.Syntax.{ty_array}
use mir.Val.{vunit}
use native.Mathlib.Omega.{arith}
use Prim.Native.Nat.{ℕ, ◌+◌, ◌-◌, ◌*◌, ◌<◌, ◌≤◌, ◌^◌}
use types.Kit.{fjoin3, fsplit3}
use types.Part.{look_in, store_in}
use types.Run.{assigns, bin, lit, size_lit, unit_lit}
use Rattle.std.proofs.VecSteps.El.{El, P, R, Vr, elτ, sz, vec_val}
use Rattle.std.proofs.VecSteps.Opens.{blk_in, blk_out, vec_had, vec_made}
use Rattle.std.proofs.VecSteps.Rows.{el_in, snoc, spare}
use Rattle.std.proofs.mem.Facts.{says_two}
use Rattle.std.proofs.ptr.Rows.{one_below, times_below}
use Rattle.raw_place.specs.Vectors.{as_vec}
use Rattle.raw_place.specs.contracts.row.Row.{the_row}
use Rattle.raw_place.specs.declared.row.Row.{Row}
use Rattle.raw_place.specs.contracts.row.Row.put as f
use Rattle.raw_place.proofs.row.Row.put.Statement.{statement}
use Rattle.raw_place.proofs.row.Row.put.Code as code

pub put_spec : {M : Type 1} → statement M
put_spec 𝓤 𝓛 𝓜 𝓡 wired T A of_value of_heap g d drops allocates destroys =
    let E : El = record { row = T; laws = of_value; al = record { row = A; laws = of_heap; g = g; d = d; drops = drops } } in
    let one : Bx = record { row = T; laws = of_value; al = E.al } in
    let En = f.ended T A g d drops in let c = f.clauses T A g d drops 𝓛 𝓜.mem 𝓡.returns in let 𝓣 = tables 𝓤 𝓛.H 𝓜 𝓡 𝓡.env in
    let inst = bounded (a_type ∷ a_type ∷ []) (T, (A, tt)) (dcons d (dcons drops dnil)) in let fn = inst_fn inst code.function in
    let rows = the_row (R E) (P E) g in let row_slot : Slot 3 = plain (λ _. rows) in let values : Slot 3 = plain (λ _. R E) in
    let hs : Stays En.signature.params En.kept = (stay_ref (0 ∷ []) tt row_slot, (stay_dropped values no, tt)) in
    proved_at 𝓛 En hs c 𝓜 𝓡 (Goes-ref 𝓛 3 0 tt row_slot, (Goes-dropped 𝓛 3 values no (λ κs x last. refl), tt)) (f.Key.name inst) fn
    (code.unfolded 𝓤 𝓛.H 𝓜 𝓡 wired (T, (A, tt)) d drops) (λ y are.
    let κs = y.0.0 in let qs = y.0.1 in let Post = (walk_of 𝓛 En hs c).post y in
    let r = y.0.3.0.now in let x = y.0.3.1.0 in let γ = y.0.3.0.ghost_name in let rb = y.0.3.0.ref_ptr.0 in let ro = y.0.3.0.ref_ptr.1 in
    qed 𝓛 (((‵ (flft κs.0 qs.0) ⊛ (‵ (flft κs.1.0 qs.1.0) ⊛ ‵ (flft κs.1.1.0 qs.1.1.0) ⊛ ‵ ftrue)) ⊛ ‵ (owns (types_at En.signature.params κs) y.0.3 y.0.4))
    ∷ raw (fact 𝓤 (κs.1.0 ⊑ T.lives)) ∷ raw (fact 𝓤 (κs.1.1.0 ⊑ A.lives)) ∷ raw (fact 𝓤 (length r.items < r.room)) ∷ []) ∵
    move ! (3 ∷ []) $ heard ! (length r.items < r.room)
    (λ roomy. split ! $ split ! $ move ! (2 ∷ []) $ fsplit ! $ move ! (1 ∷ []) $ fsplit ! $ el_tells one ! x y.0.4.1.0 (λ v vs typed.
    -- [the value; nothing; the row's borrow, in one; the borrow's token; the other tokens; what the lifetimes outlive]
    keep ! (2 ∷ 3 ∷ 0 ∷ 4 ∷ []) $
    regoal ! (λ us. prop (WpFn 𝓤 𝓛.H 𝓣.C 𝓣.Λ fn (us ++ (y.0.4.1.0 ++ [])) Post)) are.0.0 refl $
    regoal ! (λ us. prop (WpFn 𝓤 𝓛.H 𝓣.C 𝓣.Λ fn (vptr rb ro ∷ (us ++ [])) Post)) vs refl $
    let less : r.len < r.room = let same = r.counted.0 in omega arith in let some_room : 0 < r.room = omega arith in
    let fuller : r.len + 1 ≤ r.room = omega arith in let more : r.len + 1 < 2 ^ 64 = let few = r.small in omega arith in
    enter ! _ _ _ _ _ $ alloc_all ! (λ l. pass_all ! refl ((tt, tt), (typed, tt)) $
    fsplit3 ! $ drop ! $ opens ! tt rows {h = r} rb ro (λ us.
    move ! (1 ∷ []) $ use1 𝓛 (‵ ((Vr E).own_val (as_vec r) us)) (id⊢ 𝓤 _) $ vec_had E ! (as_vec r) us (λ b o hv at ws few fc fit fits.
    rewrite ! 2 (λ words. ‵ (cell_at full_share rows.mir words rb ro)) ws refl $ blk_out E ! r.heap b o r.len r.room r.items some_room $
    move ! (1 ∷ []) $ use1 𝓛 (‵ (froom (elτ E) b (r.len * sz E + o)) ⊛ ‵ (froom (ty_array (elτ E) (r.room - (r.len + 1))) b (o + (r.len + 1) * sz E)))
    (spare E 𝓛 b o r.len r.room less) $ split ! $
    -- [the place behind the last value; the room behind it; the values; the right to free; the handle; the row's cell; the open borrow, in three entries; the
    -- value; the other tokens]
    let near : r.len * sz E < 2 ^ 64 = let below = times_below r.len r.room (sz E) (2 ^ 63) r.counted.1 fit in omega arith in
    let tiny : sz E < 2 ^ 64 = let below = one_below r.room (sz E) (2 ^ 63) some_room fit in omega arith in
    sets ! (of_opd ! (load ! (through ! refl (fld ! refl (stop !))) (look_in ! 5 (sub ! 1 refl (whole !))))) refl (tt, record { fits = few }) $
    first ! $ blocks ! $ sets ! (of_opd ! (load ! (through ! refl (fld ! refl (stop !))) (look_in ! 5 (sub ! 0 refl (whole !))))) refl (tt, tt) $
    sets ! (bin ! (get ! refl) (size_lit ! (record { fits = tiny })) (record { fits = near })) refl (tt, record { fits = near }) $
    sets ! (bin ! (get ! refl) (get ! refl) tt) refl (tt, tt) $ sets ! (of_opd ! (get ! refl)) refl typed $
    assigns_last ! (of_opd ! (get ! refl)) (through ! refl (stop !)) (init ! 0 refl typed) $
    exec ! 𝓣.C 𝓣.Λ (env fn.locals l) (after 2 fn.body) (at_ret _ Post) $
    sets ! (bin ! (get ! refl) (lit ! tt) (record { fits = more })) refl (tt, record { fits = more }) $
    assigns ! (of_opd ! (get ! refl)) (through ! refl (fld ! refl (stop !))) (store_in ! 5 (sub ! 1 refl (whole !)) (tt, record { fits = more })) $
    sets ! (of_opd ! (unit_lit !)) refl (tt, tt) $
    let ys : List T.Denot = r.items ++ x ∷ [] in
    let next : Row T.Denot A.Denot =
    record {
      at = r.at;
      len = r.len + 1;
      room = r.room;
      heap = r.heap;
      items = ys;
      counted = (ap (λ (k : ℕ). k + 1) r.counted.0 ∙ sym (length-append r.items (x ∷ [])), fuller);
      small = r.small;
    } in
    move ! (0 ∷ 9 ∷ []) $ use2 𝓛 (‵ (part_at (R E) full_share x b (r.len * sz E + o))) (el_in E 𝓛 full_share x b (r.len * sz E + o) v) $
    move ! (2 ∷ 0 ∷ []) $ use2 𝓛 (‵ (part_at (Array (R E) (r.len + 1)) full_share ys b o)) (snoc E 𝓛 b o r.len r.items x) $
    move ! (0 ∷ 1 ∷ 2 ∷ []) $ blk_in E ! r.heap b o (r.len + 1) r.room ys some_room $
    vec_made E ! (as_vec next) b o (r.len + 1) r.room ys (at, refl, refl, refl) more fc fit $
    move ! (1 ∷ 0 ∷ []) $ closes ! tt rows next (vec_val E hv b o (r.len + 1) r.room ∷ []) rb ro $ returns ! (look_at ! 0 refl) $ free_all ! refl $
    move ! (2 ∷ 3 ∷ []) $ join ! $
    suffices ! _ (ends_at 𝓛 En hs c y vunit tt (next, (tt, tt)) (tt, (tt, tt))) $ says_two ! (refl, refl) $
    frame ! $ feq_i ! (List Val) y.0.4.0 (vptr rb ro ∷ []) are.0.0 $ fjoin3 ! $ nothing ! $ nothing ! $ fjoin ! $ move ! (1 ∷ 0 ∷ []) $ fjoin ! $
    feq_i ! (List Val) (vunit ∷ []) (vunit ∷ []) refl $ move ! (1 ∷ 0 ∷ []) $ done !))))))
