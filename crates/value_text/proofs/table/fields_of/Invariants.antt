use Rattle.std.proofs.Common.{◌≡◌, All, map, take}
use Rattle.value_text.specs.Fields.{IsRead}
use Rattle.value_text.proofs.table.fields_of.Given as goal

-- the fields so far
abbrev pub invariant-loop-column : goal.invariant-loop-column
invariant-loop-column l = record {
  columns : map (λ f. f.items) l.fields.items ≡ take l.column-index l.columns;
  read : All IsRead l.fields.items;
}
