-- What chunks come to while they are drained one after another.
use Rattle.std.proofs.Common.{◌≡◌, ◌+◌, ◌∙◌, ℕ, List, [], ◌∷◌, ◌++◌, Option, None, Some, Result, Ok, Err, refl, sym, ap, subst, append_assoc}
use Rattle.std.proofs.lemmas.List.{append-nil}
use Rattle.data_types.specs.promise.Table.{Row}
use Rattle.raw_array.specs.promise.Members.{ArrayTree}
use Rattle.data_types.specs.promise.KindTrees.{KindTree}
use Rattle.layout_rules.specs.Found.{fault_of}
use Rattle.layout_rules.specs.promise.Values.{rows_of}
use Rattle.layout_rules.specs.promise.Walk.{Fault, first_chunk_fault}
use Rattle.foreign_array.specs.declared.draining.DrainFault.{DrainFault}
use Rattle.foreign_array.specs.declared.draining.DrainFault.TheVariants as faults
use Rattle.foreign_array.specs.Drained.{Drained, Refused, Shown, ShownAfter, ShownSome, first_refused, grown, refused_at, table_if, tables_before}

-- all chunks before these were seen
pub record Going (typed : KindTree) (chunks rest : List ArrayTree) (n : ℕ) (before now : Option (List (List Row))) : Type 0 where
  pub refused : first_refused typed 0 chunks ≡ first_refused typed n rest
  pub shown : List (List Row)
  pub tables : tables_before typed chunks ≡ shown ++ tables_before typed rest
  pub seen : now ≡ grown before shown

-- what came of the chunks before these
abbrev pub Coming : KindTree → List ArrayTree → List ArrayTree → ℕ → Result (Unit {0}) DrainFault → Option (List (List Row)) → Option (List (List Row)) → Type 0
Coming typed chunks rest n (Ok done) before now = Going typed chunks rest n before now
Coming typed chunks rest n (Err (faults.Layout number fault)) before now = Drained typed chunks (Err (faults.Layout number fault)) before now
Coming typed chunks rest n (Err faults.NoMemory) before now = Drained typed chunks (Err faults.NoMemory) before now

grown-grown : (before : Option (List (List Row))) (some more : List (List Row)) → grown (grown before some) more ≡ grown before (some ++ more)
grown-grown None some more = refl
grown-grown (Some before) some more = ap Some (append_assoc before some more)

grown-none : (before : Option (List (List Row))) → before ≡ grown before []
grown-none None = refl
grown-none (Some before) = ap Some (sym (append-nil before))

pub coming-first : (typed : KindTree) (chunks : List ArrayTree) (before : Option (List (List Row))) (done : Unit {0}) → Coming typed chunks chunks 0 (Ok done) before before
coming-first typed chunks before done = record { refused = refl; shown = []; tables = refl; seen = grown-none before }

coming-shown : (typed : KindTree) (chunks : List ArrayTree) (chunk : ArrayTree) (rest : List ArrayTree) (n : ℕ) (before now after : Option (List (List Row)))
    → Going typed chunks (chunk ∷ rest) n before now → (result : Result (Unit {0}) DrainFault) → Shown typed chunk n result now after
    → Coming typed chunks rest (n + 1) result before after
coming-shown typed chunks chunk rest n before now after going (Ok done) seen =
    let rows = rows_of typed chunk in
    record {
      refused = going.refused ∙ ap (λ f. refused_at n f (first_refused typed (n + 1) rest)) seen.0;
      shown = going.shown ++ rows ∷ [];
      tables = going.tables ∙ ap (λ f. going.shown ++ table_if f rows (tables_before typed rest)) seen.0
          ∙ sym (append_assoc going.shown (rows ∷ []) (tables_before typed rest));
      seen = seen.1 ∙ ap (λ s. grown s (rows ∷ [])) going.seen ∙ grown-grown before going.shown (rows ∷ []);
    }
coming-shown typed chunks chunk rest n before now after going (Err (faults.Layout number fault)) seen =
    let rows = rows_of typed chunk in
    let refused : first_refused typed 0 chunks ≡ Some (record { chunk = n; fault = fault_of fault }) =
    going.refused ∙ ap (λ f. refused_at n f (first_refused typed (n + 1) rest)) seen.1 in
    let tables = going.tables ∙ ap (λ f. going.shown ++ table_if f rows (tables_before typed rest)) seen.1 ∙ append-nil going.shown in
    (refused ∙ ap (λ m. Some (record { chunk = m; fault = fault_of fault })) (sym seen.0), seen.2 ∙ going.seen ∙ ap (grown before) (sym tables))
coming-shown typed chunks chunk rest n before now after going (Err faults.NoMemory) seen =
    let rows = rows_of typed chunk in
    record {
      shown = going.shown;
      left = rows ∷ tables_before typed rest;
      first = going.tables ∙ ap (λ f. going.shown ++ table_if f rows (tables_before typed rest)) seen.0;
      seen = seen.1 ∙ going.seen;
    }

pub coming-done : (typed : KindTree) (chunks : List ArrayTree) (n : ℕ) (result : Result (Unit {0}) DrainFault) (before after : Option (List (List Row)))
    → Coming typed chunks [] n result before after → Drained typed chunks result before after
coming-done typed chunks n (Ok done) before after going = (going.refused, going.seen ∙ ap (grown before) (sym (going.tables ∙ append-nil going.shown)))
coming-done typed chunks n (Err (faults.Layout number fault)) before after drained = drained
coming-done typed chunks n (Err faults.NoMemory) before after drained = drained

-- what came of refused chunks doesn't depend on those behind them
coming-later : (typed : KindTree) (chunks rest later : List ArrayTree) (n m : ℕ) (fault : DrainFault) (before now : Option (List (List Row)))
    → Coming typed chunks rest n (Err fault) before now → Coming typed chunks later m (Err fault) before now
coming-later typed chunks rest later n m (faults.Layout number fault) before now drained = drained
coming-later typed chunks rest later n m faults.NoMemory before now drained = drained

pub coming-next : (typed : KindTree) (chunks : List ArrayTree) (chunk : ArrayTree) (rest : List ArrayTree) (n : ℕ) (before now after : Option (List (List Row)))
    → (shown result : Result (Unit {0}) DrainFault) → Coming typed chunks (chunk ∷ rest) n shown before now → ShownAfter typed chunk n shown result now after
    → Coming typed chunks rest (n + 1) result before after
coming-next typed chunks chunk rest n before now after (Ok done) result going seen = coming-shown typed chunks chunk rest n before now after going result seen
coming-next typed chunks chunk rest n before now after (Err fault) result coming same =
    subst (λ r. Coming typed chunks rest (n + 1) r before after) (sym same.0)
    (subst (λ s. Coming typed chunks rest (n + 1) (Err fault) before s) (sym same.1) (coming-later typed chunks (chunk ∷ rest) rest n (n + 1) fault before now coming))
