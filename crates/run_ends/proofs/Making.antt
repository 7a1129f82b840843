-- The columns of runs take the runs one by one.
use Rattle.std.proofs.Common.{◌≡◌, ◌∙◌, ◌≤◌, ◌<◌, ◌+◌, ◌^◌, ◌++◌, ℕ, Bool, true, List, [], ◌∷◌, length, map, drop, get_or, pos, refl, sym, ap, subst, arith}
use Rattle.std.proofs.lemmas.List.{append-nil, append_assoc, drop_all, map-append}
use Rattle.data_types.specs.promise.Storage.{storage_of}
use Rattle.data_types.specs.promise.Value.{Value, Null, Whole}
use Rattle.data_types.specs.declared.kind.DataType.{DataType}
use Rattle.data_types.specs.declared.storage.Storage.{Storage}
use Rattle.data_types.specs.declared.storage.Storage.TheVariants.{Wholes}
use Rattle.arr_import.specs.Window.{Window, item_at, items_of}
use Rattle.arr_export.proofs.Each.{length-each, value-there}
use Rattle.layout_rules.specs.promise.Values.{value_at}
use Rattle.col_build.specs.Encoding.{Fits}
use Rattle.col_build.specs.Holding.{Adds, Holds, HoldsWholes}
use Rattle.col_build.specs.Holding as held
use Rattle.column_fill.specs.Takes.{Takes}
use Rattle.column_fill.proofs.Taken.{takes-one}
use Rattle.run_ends.specs.declared.encoder.Making.{Making}
use Rattle.run_ends.specs.promise.RunCoding.{Run, runs_from}
use Rattle.run_ends.specs.RunCoding.{IsRun, end_kind, end_of, value_of}
use Rattle.run_ends.specs.RunMaking.{HoldsRuns, HoldsUpTo}
use Rattle.run_ends.proofs.CodedTree.{fit_ends, fit_values}

abbrev run_at : List Value → ℕ → ℕ → Run
run_at values at stop = record { value = get_or values at Null; stop = stop }

-- the runs so far, the next one, and those behind it
pub splits : (making : Making) (kind : DataType) (values : List Value) (at stop : ℕ) (up : HoldsUpTo making kind values at) → IsRun values at stop
    → runs_from 0 values ≡ up.done ++ run_at values at stop ∷ runs_from stop (drop stop values)
splits making kind values at stop up is = up.split ∙ ap (λ (runs : List Run). up.done ++ runs) is

pub end-taken : (making : Making) (kind : DataType) (values : List Value) (at stop : ℕ) → HoldsUpTo making kind values at → IsRun values at stop
    → held.Takes making.ends (Whole (pos stop))
end-taken making kind values at stop up is =
    let split = ap (map end_of) (splits making kind values at stop up is)
    ∙ map-append end_of up.done (run_at values at stop ∷ runs_from stop (drop stop values)) in
    let takes = takes-one end_kind (map end_of up.done) (map end_of (runs_from stop (drop stop values))) (map end_of (runs_from 0 values)) (Whole (pos stop))
    making.ends (storage_of end_kind) split (fit_ends values up.few) up.holds.ends refl in
    (takes.kind, takes.values, takes.holds, takes.few, takes.taken)

-- the ends have four bytes each
pub ends-whole : (making : Making) (kind : DataType) (values : List Value) (at : ℕ) → HoldsUpTo making kind values at → HoldsWholes 4 making.ends
ends-whole making kind values at up = λ other others holds.
    let same : end_kind ≡ other = sym up.holds.ends.is_kind ∙ holds.is_kind in
    subst (λ (k : DataType). (signed : Bool) × (storage_of k ≡ Wholes 32 signed)) same (true, refl)

pub item-there : (w : Window) (values : List Value) (i : ℕ) → items_of w ≡ values → i < length values → (i < w.count) × (item_at w i ≡ get_or values i Null)
item-there w values i same inside =
    let f = value_at w.typed w.array in
    let many : length values ≡ w.count = ap length (sym same) ∙ length-each f w.start w.count in
    let below : i < w.count = omega (arith, inside, many) in
    (below, sym (value-there f w.start w.count i Null below) ∙ ap (λ (vs : List Value). get_or vs i Null) same)

pub value-taken : (making : Making) (kind : DataType) (values : List Value) (at stop : ℕ) (storage : Storage) → HoldsUpTo making kind values at
    → IsRun values at stop → storage ≡ storage_of kind → Takes making.values storage (get_or values at Null)
value-taken making kind values at stop storage up is stored =
    let split = ap (map value_of) (splits making kind values at stop up is)
    ∙ map-append value_of up.done (run_at values at stop ∷ runs_from stop (drop stop values)) in
    takes-one kind (map value_of up.done) (map value_of (runs_from stop (drop stop values))) (map value_of (runs_from 0 values)) (get_or values at Null)
    making.values storage split (fit_values kind values up.fits) up.holds.values stored

pub one-added : (old new : Making) (kind : DataType) (values : List Value) (at stop : ℕ) → HoldsUpTo old kind values at → IsRun values at stop
    → Adds (Whole (pos stop)) old.ends new.ends → Adds (get_or values at Null) old.values new.values → HoldsUpTo new kind values stop
one-added old new kind values at stop up is ends others =
    let run = run_at values at stop in
    record {
      done = up.done ++ run ∷ [];
      split = splits old kind values at stop up is ∙ sym (append_assoc up.done (run ∷ []) (runs_from stop (drop stop values)));
      holds = record {
        ends = subst (Holds new.ends end_kind) (sym (map-append end_of up.done (run ∷ []))) (ends end_kind (map end_of up.done) up.holds.ends);
        values = subst (Holds new.values kind) (sym (map-append value_of up.done (run ∷ []))) (others kind (map value_of up.done) up.holds.values);
      };
      fits = up.fits;
      few = up.few;
    }

pub none-yet : (making : Making) (kind : DataType) (values : List Value) → Holds making.ends end_kind [] → Holds making.values kind []
    → Fits kind values → length values < 2 ^ 31 → HoldsUpTo making kind values 0
none-yet making kind values ends others fits few =
    record { done = []; split = refl; holds = record { ends = ends; values = others }; fits = fits; few = few }

pub all-held : (making : Making) (kind : DataType) (values : List Value) (at : ℕ) → length values ≤ at → HoldsUpTo making kind values at
    → HoldsRuns making kind (runs_from 0 values)
all-held making kind values at le up =
    let none : runs_from at (drop at values) ≡ [] = ap (runs_from at) (drop_all at values le) in
    let all : up.done ≡ runs_from 0 values = sym (append-nil up.done) ∙ ap (λ (runs : List Run). up.done ++ runs) (sym none) ∙ sym up.split in
    subst (HoldsRuns making kind) all up.holds
