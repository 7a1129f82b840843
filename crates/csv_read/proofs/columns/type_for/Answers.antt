use Rattle.std.proofs.Common.{◌≡◌, ◌∙◌, ap, sym, subst, arith, IfOk, Option, option_map}
use Rattle.std.specs.Str.{bytes_eq}
use Rattle.data_types.specs.declared.kind.DataType.{DataType}
use Rattle.stage_plan.specs.declared.types.TypeEntry.{TypeEntry}
use Rattle.csv_model.specs.promise.Header.{kind_or_text, type_for}
use Rattle.stage_plan.specs.promise.Entries.{entries_of}
use Rattle.stage_plan.specs.Entries.{entry_of}
use Rattle.csv_read.proofs.Entries.{type-is}
use Rattle.csv_read.proofs.Remaining.{find-hit, find-none}
use Rattle.csv_read.proofs.columns.type_for.Goals as goal

pub returns-then-eq : goal.returns-then-eq
returns-then-eq c =
    let entry = c.entry-item.result in
    let entries = c.args.entries.now in
    let name = c.args.name.now in
    let found = find-hit (λ e. bytes_eq e.name name) entries c.loop-entry.entry-index c.loop-entry.invariant entry (omega arith)
    (ap (λ (e : TypeEntry). bytes_eq e.name name) (sym c.entry-item.is)
    ∙ ap (λ text. bytes_eq text name) (sym c.as_slice.ensures) ∙ sym c.eq.ensures ∙ c.if-eq.true) in
    let is : entry.kind ≡ type_for (entries_of entries) name =
    ap (λ (e : TypeEntry). e.kind) c.entry-item.is
    ∙ sym (type-is entries name ∙ ap (λ (o : Option TypeEntry). kind_or_text (option_map entry_of o)) found) in
    subst (λ (k : DataType). IfOk c.clone_kind.result (λ kind. kind ≡ k)) is c.clone_kind.ensures.same

pub returns : goal.returns
returns c =
    let entries = c.args.entries.now in
    let name = c.args.name.now in
    sym (type-is entries name
    ∙ ap (λ (o : Option TypeEntry). kind_or_text (option_map entry_of o))
    (find-none (λ e. bytes_eq e.name name) entries c.loop-entry.entry-index c.loop-entry.invariant (omega arith)))
