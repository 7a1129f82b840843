-- What the draining of chunks comes to: the tables that were seen, and the first chunk that is refused.
use Rattle.std.specs.Prelude.{◌≡◌, ℕ, ◌+◌, List, [], ◌∷◌, ◌++◌, Option, None, Some, Result, Ok, Err}
use Rattle.data_types.specs.promise.Table.{Row}
use Rattle.raw_array.specs.promise.Members.{ArrayTree}
use Rattle.data_types.specs.promise.KindTrees.{KindTree}
use Rattle.layout_rules.specs.Found.{fault_of}
use Rattle.layout_rules.specs.promise.Values.{rows_of}
use Rattle.layout_rules.specs.promise.Walk.{Fault, first_chunk_fault}
use Rattle.foreign_array.specs.declared.draining.DrainFault.{DrainFault}
use Rattle.foreign_array.specs.declared.draining.DrainFault.TheVariants as faults

-- a chunk that breaks a rule: its number, and its first fault
pub record Refused : Type 0 where
  pub chunk : ℕ
  pub fault : Fault

abbrev pub refused_at : ℕ → Option Fault → Option Refused → Option Refused
refused_at n None later = later
refused_at n (Some fault) later = Some (record { chunk = n; fault = fault })

-- the first chunk that is no lawful table, the first of them all having this number
abbrev pub first_refused : KindTree → ℕ → List ArrayTree → Option Refused
first_refused typed n [] = None
first_refused typed n (chunk ∷ more) = refused_at n (first_chunk_fault typed chunk) (first_refused typed (n + 1) more)

abbrev pub table_if : Option Fault → List Row → List (List Row) → List (List Row)
table_if None rows later = rows ∷ later
table_if (Some fault) rows later = []

-- the rows of each chunk before the first one that is refused
abbrev pub tables_before : KindTree → List ArrayTree → List (List Row)
tables_before typed [] = []
tables_before typed (chunk ∷ more) = table_if (first_chunk_fault typed chunk) (rows_of typed chunk) (tables_before typed more)

-- what a visitor has seen, where it states it, after it was shown more
abbrev pub grown : Option (List (List Row)) → List (List Row) → Option (List (List Row))
grown None more = None
grown (Some before) more = Some (before ++ more)

-- it was shown the first ones of these
pub record ShownSome (before after : Option (List (List Row))) (tables : List (List Row)) : Type 0 where
  pub shown : List (List Row)
  pub left : List (List Row)
  pub first : tables ≡ shown ++ left
  pub seen : after ≡ grown before shown

-- One chunk was shown under its number: its rows were seen, or it is refused by its first fault, or memory ran out.
abbrev pub Shown : KindTree → ArrayTree → ℕ → Result (Unit {0}) DrainFault → Option (List (List Row)) → Option (List (List Row)) → Type 0
Shown typed chunk n (Ok done) before after = (first_chunk_fault typed chunk ≡ None) × (after ≡ grown before (rows_of typed chunk ∷ []))
Shown typed chunk n (Err (faults.Layout number fault)) before after =
    (number ≡ n) × (first_chunk_fault typed chunk ≡ Some (fault_of fault)) × (after ≡ before)
Shown typed chunk n (Err faults.NoMemory) before after = (first_chunk_fault typed chunk ≡ None) × (after ≡ before)

-- The same where this came of the chunks before it: behind a refused one none is shown.
abbrev pub ShownAfter : KindTree → ArrayTree → ℕ → Result (Unit {0}) DrainFault → Result (Unit {0}) DrainFault
    → Option (List (List Row)) → Option (List (List Row)) → Type 0
ShownAfter typed chunk n (Ok done) result before after = Shown typed chunk n result before after
ShownAfter typed chunk n (Err fault) result before after = (result ≡ Err fault) × (after ≡ before)

-- Chunks were drained: all of them are lawful and were seen; or the first that isn't is named with its first fault, and those before it
-- were seen; or memory ran out, and the first ones before it were seen.
abbrev pub Drained : KindTree → List ArrayTree → Result (Unit {0}) DrainFault → Option (List (List Row)) → Option (List (List Row)) → Type 0
Drained typed chunks (Ok done) before after = (first_refused typed 0 chunks ≡ None) × (after ≡ grown before (tables_before typed chunks))
Drained typed chunks (Err (faults.Layout number fault)) before after =
    (first_refused typed 0 chunks ≡ Some (record { chunk = number; fault = fault_of fault })) × (after ≡ grown before (tables_before typed chunks))
Drained typed chunks (Err faults.NoMemory) before after = ShownSome before after (tables_before typed chunks)
