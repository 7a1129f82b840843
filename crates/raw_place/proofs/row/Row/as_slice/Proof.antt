-- A `&` to a row holds a `&` to its values. The walk reads where they begin and how many they are.
use Rattle.raw_place.proofs.Steps.{refl, ap, List, [], ◌∷◌, ftrue, fhide, flft, id⊢, fact, tables, yes, bounded, owns, plain, types_at, heard, nothing, Stays}
use Rattle.raw_place.proofs.Steps.{walk_of, stay_dropped, ends_at, inst_fn, a_type, dcons, dnil, Val, vptr, alloc_all, env, free_all, get, look_at, pass_all}
use Rattle.raw_place.proofs.Steps.{sets, sets_last, through, ‵, raw, ◌⊛◌, at_ret, ◌$◌, ◌∵◌, !, qed, done, move, keep, drop, use1, split, join, fsplit, fjoin}
use Rattle.raw_place.proofs.Steps.{feq_i, suffices, agg, and_then, no_more, blocks, enter, exec, first, fld, of_opd, returns, stop, proved}
use Prim.Native.Nat.{ℕ, ◌+◌, ◌*◌, ◌<◌, ◌≤◌, ◌^◌}
use denote.Builtin.{RefOf}
use denote.Memory.{hidden_shr, mem}
use denote.Opens.{hide, unhide}
use denote.RawPtr.{InBlock, block_of, count_of}
use denote.Ref.{shr_Tells, shr_vals}
use denote.Slice.{slice_val}
use denote.Struct.Lending.{in_block_says}
use denote.Struct.Owning.{shape}
use denote.Struct.Struct.{Struct}
use denote.Triple.Walked.{Goes-dropped}
use lib.ListN.{length}
use native.Mathlib.Nat.{lt_of_le_of_lt, mul-le-mul_right}
use mathlib.Core.Path.{subst}
use native.Mathlib.Omega.{arith}
use mir.Syntax.{named}
use types.Kit.{flt_i, flt_l}
use types.Run.{load, look}
use Rattle.std.proofs.VecSteps.El.{El, P, R, el_d, owning}
use Rattle.std.proofs.VecSteps.Shapes.{after}
use Rattle.std.proofs.VecSteps.Shows.{shows_len, shows_ptr}
use Rattle.std.proofs.mem.Facts.{says_two}
use Rattle.std.proofs.Words.{pointer_in, pointer_out, word_in, word_out}
use Rattle.raw_place.specs.contracts.row.Row.{the_lent, the_row}
use Rattle.raw_place.specs.contracts.row.Row.as_slice as f
use Rattle.raw_place.proofs.row.Row.as_slice.Statement.{statement}
use Rattle.raw_place.proofs.row.Row.as_slice.Code as code

pub as_slice_spec : {M : Type 1} → statement M
as_slice_spec 𝓤 𝓛 𝓜 𝓡 wired T A of_value of_heap g d drops allocates destroys =
    let E : El = record { row = T; laws = of_value; al = record { row = A; laws = of_heap; g = g; d = d; drops = drops } } in
    let En = f.ended T A g d drops in let c = f.clauses T A g d drops 𝓛 𝓜.mem 𝓡.returns in let 𝓣 = tables 𝓤 𝓛.H 𝓜 𝓡 𝓡.env in
    let inst = bounded (a_type ∷ a_type ∷ []) (T, (A, tt)) (dcons d (dcons drops dnil)) in let fn = inst_fn inst code.function in
    let rows = the_row (R E) (P E) g in let by_ref = RefOf (0 ∷ []) tt (plain (λ _. rows)) (λ _. tt) in
    let hs : Stays En.signature.params En.kept = (stay_dropped by_ref yes, tt) in
    proved 𝓛 En hs c 𝓜 𝓡 (Goes-dropped 𝓛 3 by_ref yes (λ κs x last. refl), tt) (f.Key.name inst) fn (code.unfolded 𝓤 𝓛.H 𝓜 𝓡 wired (T, (A, tt)) d drops)
    (λ κs. (shr_vals, tt)) (λ κs. (shr_Tells (named 0) κs.0 rows, tt)) (λ κs qs bounds a n are.
    let κ = κs.0 in let r = a.0.now in let b = a.0.ref_ptr.0 in let o = a.0.ref_ptr.1 in
    let y : (walk_of 𝓛 En hs c).Ghost = ((κs, qs, bounds, a, (vptr b o ∷ [], tt)), n) in let Post = (walk_of 𝓛 En hs c).post y in
    let v : el_d E = record { ptr = r.at; len = r.len; cap = r.room; alloc = r.heap; items = r.items; ok = r.counted; small = r.small } in
    let to : ℕ × ℕ = (block_of r.at, count_of r.at) in
    let short : length r.items < 2 ^ 63 = let same = r.counted.0 in let fits = r.counted.1 in let few = r.small in omega arith in
    qed 𝓛 (((‵ (flft κ qs.0) ⊛ (‵ (flft κs.1.0 qs.1.0) ⊛ ‵ (flft κs.1.1.0 qs.1.1.0) ⊛ ‵ ftrue)) ⊛ ‵ (owns (types_at En.signature.params κs) a y.0.4))
    ∷ raw ((c κs a).requires n) ∷ []) ∵
    split ! $ split ! $ move ! (2 ∷ []) $ fsplit ! $ fsplit ! $ drop ! $
    use1 𝓛 (‵ (hidden_shr (Struct (shape (owning E))) κ (r.at, (r.len, (r.room, (r.heap, tt)))) b o) ⊛ ‵ (fhide (the_lent (R E) (P E) g r r.at κ))) (id⊢ 𝓤 _) $
    split ! $
    move ! (1 ∷ []) $ unhide ! $ fsplit ! $
    flt_l ! (λ fit. fsplit ! $ use1 𝓛 (raw (fact 𝓤 (InBlock r.at))) (in_block_says 𝓛 r.at) $ heard ! (InBlock r.at) (λ lies.
    fsplit ! $ drop ! $ hide ! $ move ! (1 ∷ 3 ∷ 0 ∷ 4 ∷ []) $
    -- [a `&` to the fields; the token; a `&` to the values; the other tokens]
    enter ! _ _ _ _ _ $ alloc_all ! (λ l. pass_all ! refl ((tt, tt), tt) $
    first ! $ blocks ! $ pointer_in ! tt r.at lies b (o + 0) (shows_ptr E 𝓛 κ b o v) (λ share.
    sets ! (of_opd ! (load ! (through ! refl (fld ! refl (stop !))) (look ! 1 refl))) refl (tt, tt) $
    pointer_out ! tt r.at lies b (o + 0) $ move ! (1 ∷ 0 ∷ []) $ word_in ! tt r.len b (o + 8) (shows_len E 𝓛 κ b o v) (λ share' few.
    sets ! (of_opd ! (load ! (through ! refl (fld ! refl (stop !))) (look ! 1 refl))) refl (tt, record { fits = few }) $
    word_out ! tt r.len b (o + 8) few $
    sets_last ! (agg ! (and_then ! (get ! refl) (and_then ! (get ! refl) (no_more !)))) refl (tt, (tt, (record { fits = few }, tt))) $
    exec ! 𝓣.C 𝓣.Λ (env fn.locals l) (after 1 fn.body) (at_ret _ Post) $ sets ! (of_opd ! (get ! refl)) refl (tt, (tt, (record { fits = few }, tt))) $
    returns ! (look_at ! 0 refl) $ free_all ! refl $ keep ! (2 ∷ 0 ∷ 3 ∷ []) $
    let within : length r.items * (mem (R E)).size < 2 ^ 63 =
    lt_of_le_of_lt (mul-le-mul_right (mem (R E)).size (subst (λ (k : ℕ). k ≤ r.room) r.counted.0 r.counted.1)) fit in
    flt_i ! _ (2 ^ 63) within $ flt_i ! (length r.items) (2 ^ 64) (subst (λ (k : ℕ). k < 2 ^ 64) r.counted.0 few) $ fjoin ! $
    feq_i ! (List Val) (slice_val to r.len ∷ []) (slice_val to (length r.items) ∷ []) (ap (λ (k : ℕ). slice_val to k ∷ []) r.counted.0) $ fjoin ! $ fjoin ! $
    suffices ! _ (ends_at 𝓛 En hs c y (slice_val to r.len) (record { ref_ptr = to; now = r.items }) (tt, tt) (tt, tt)) $ says_two ! (refl, short) $
    nothing ! $ nothing ! $ fjoin ! $ join ! $ move ! (1 ∷ 2 ∷ 0 ∷ []) $ join ! $ join ! $ done !))))))
