use Rattle.std.proofs.Common.{◌≡◌, ◌∙◌, List, length, ℕ, Bool, true, None, Result, Ok, Bor, ap, refl, subst, sym}
use Rattle.std.specs.Prelude.{nat_le}
use Rattle.data_types.specs.promise.Table.{Column}
use Rattle.data_types.specs.Kinds.{KindOk}
use Rattle.csv_model.specs.promise.Header.{most_columns}
use Rattle.csv_model.specs.Header.{header_columns, names_fault}
use Rattle.csv_model.specs.promise.Reading.{Record}
use Rattle.unit_pass.specs.declared.no_memory.NoMemory.{NoMemory}
use Rattle.stage_plan.specs.PlanWords.{texts}
use Rattle.stage_plan.specs.promise.Entries.{entries_of}
use Rattle.field_codec.specs.TextColumns.{AreAllowed, AreProper, IsAllowed, NamesDiffer}
use Rattle.csv_read.proofs.HeaderColumns.{columns-differ, columns-have, header-found, no-twice}
use Rattle.csv_read.proofs.header.header_columns.Goals as goal

pub returns-clause-differ : goal.returns-clause-differ
returns-clause-differ g c =
    let entries = entries_of c.args.entries.now in
    let same = c.as_slice.ensures.value ∙ sym c.as_slice-2.ensures.value in
    let none : names_fault entries (texts c.as_slice-2.result.now) ≡ None =
    subst (λ (names : List (Bor (List ℕ))). names_fault entries (texts names) ≡ None) same c.in_ok-check_names.ensures.none in
    subst NamesDiffer (sym c.in_ok-columns.ensures)
    (columns-differ entries (texts c.as_slice-2.result.now) (no-twice entries (texts c.as_slice-2.result.now) none))

pub returns-clause-proper : goal.returns-clause-proper
returns-clause-proper g c =
    subst AreProper (sym c.in_ok-columns.ensures) (columns-have KindOk tt c.args.entries.now c.requires (texts c.as_slice-2.result.now))

pub returns-clause-allowed : goal.returns-clause-allowed
returns-clause-allowed g c =
    λ each.
    subst AreAllowed (sym c.in_ok-columns.ensures) (columns-have IsAllowed refl c.args.entries.now each (texts c.as_slice-2.result.now))

ok : (a b : Bool) → a ≡ b → ◌≡◌ {A = Result Bool NoMemory} (Ok a) (Ok b)
ok a b e = ap (λ (x : Bool). Ok x) e

pub returns-clause-found : goal.returns-clause-found
returns-clause-found g c =
    let entries = entries_of c.args.entries.now in
    let first = c.in_ok-next.ensures.more (ok c.in_ok-next.field-0 true c.if-not-branch.false) in
    let few = subst (λ (row : Record). nat_le (length row) most_columns ≡ true) c.row.ensures c.in_ok-check_count.ensures.few in
    let checked = ap texts c.as_slice.ensures.value ∙ c.in_ok-names.ensures ∙ c.row-2.ensures in
    let read = ap texts c.as_slice-2.ensures.value ∙ c.in_ok-names.ensures ∙ c.row-2.ensures in
    header-found entries c.args.records.now.records c.next.new.self.records c.next.new.self.row first few
    (ap (names_fault entries) (sym checked) ∙ c.in_ok-check_names.ensures.none)
    ∙ ap (λ (columns : List Column). Ok columns) (ap (header_columns entries) (sym read) ∙ sym c.in_ok-columns.ensures)
