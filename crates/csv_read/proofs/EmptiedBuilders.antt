-- Builders out of which the columns are taken one after the other.
use Rattle.std.proofs.Common.{◌≡◌, ◌≤◌, ◌<◌, ◌+◌, ◌∙◌, ℕ, List, [], ◌∷◌, length, get_or, set, Result, Ok, Err, OnErr, OnOk, ap, arith, inl, inr, refl, subst, sym}
use Rattle.std.proofs.lemmas.Bool.{cases_eq, cases_lt}
use Rattle.std.proofs.lemmas.List.{get_or-set_other, get_or-set_same, get_or_default, length-set}
use Rattle.data_types.specs.promise.Table.{Column, Columns, Row, no_members}
use Rattle.col_build.specs.Holding.{HoldsSome, Keeps}
use Rattle.col_build.specs.declared.builder.Builder.{Builder}
use Rattle.csv_read.specs.BodyRows.{HasRows}
use Rattle.csv_read.specs.Body.{column_values}
use Rattle.csv_read.specs.ColumnForms.{AreBegun, AreKept, AreReady, IsKept}
use Rattle.csv_read.specs.Emptied.{AreEmptied, AreSpent, IsEmptied, IsSpent}
use Rattle.csv_read.specs.declared.body_columns.BodyColumns.{BodyColumns}
use Rattle.field_codec.specs.declared.form.FieldForm.TheVariants.{Truths}

-- a column, where one has to be named
abbrev no_column : Column
no_column = record { name = []; kind = Columns no_members }

-- the first builders, this many, are emptied, and the others are as they were
pub record EmptiedSoFar (j : ℕ) (old now : List Builder) : Type 0 where
  pub count : length now ≡ length old
  pub others : (k : ℕ) (b : Builder) → j ≤ k → get_or now k b ≡ get_or old k b
  pub so_far : (k : ℕ) (b : Builder) → k < j → IsEmptied (get_or old k b) (get_or now k b)

keeps : (b : Builder) → Keeps b b
keeps b kind values holds = holds

-- what became of a builder that was set
became : (Became : Builder → Builder → Type 0) (j : ℕ) (old now : List Builder) (b new d : Builder) → j < length old → length now ≡ length old
    → get_or now j b ≡ get_or old j b → Became (get_or now j b) new → Became (get_or old j d) (get_or (set now j new) j d)
became Became j old now b new d within count same own =
    let at_old : get_or now j b ≡ get_or old j d = same ∙ get_or_default old j b d within in
    let at_new : get_or (set now j new) j d ≡ new = get_or-set_same now j new d (omega (arith, within, count)) in
    subst (λ (x : Builder). Became (get_or old j d) x) (sym at_new) (subst (λ (x : Builder). Became x new) at_old own)

pub none-emptied : (old : List Builder) → EmptiedSoFar 0 old old
none-emptied old = record { count = refl; others = λ k b above. refl; so_far = λ k b below. absurd (omega (arith, below)) }

pub one-emptied : (j : ℕ) (old now : List Builder) (b new : Builder) → EmptiedSoFar j old now → j < length old → IsEmptied (get_or now j b) new
    → EmptiedSoFar (j + 1) old (set now j new)
one-emptied j old now b new before within emptied = record {
  count = length-set now j new ∙ before.count;
  others = λ k d above. get_or-set_other now j k new d (omega (arith, above)) ∙ before.others k d (omega (arith, above));
  so_far = λ k d below.
      elim (cases_eq k j) [
        | inl here ↦
            subst (λ (n : ℕ). IsEmptied (get_or old n d) (get_or (set now j new) n d)) (sym here)
            (became IsEmptied j old now b new d within before.count (before.others j b (omega arith)) emptied)
        | inr other ↦
            subst (λ (x : Builder). IsEmptied (get_or old k d) x) (sym (get_or-set_other now j k new d other))
            (before.so_far k d (omega (arith, below, other)))
      ];
}

pub all-emptied : (j : ℕ) (old now : List Builder) → EmptiedSoFar j old now → j ≡ length old → AreEmptied old now
all-emptied j old now before end = record { count = before.count; each = λ k b within. before.so_far k b (omega (arith, within, end)) }

pub emptied-spent : (old new : List Builder) → AreEmptied old new → AreSpent old new
emptied-spent old new emptied = record { count = emptied.count; each = λ k b within. inl (emptied.each k b within) }

spent-so-far : (j k : ℕ) (old now : List Builder) (d : Builder) → EmptiedSoFar j old now → IsSpent (get_or old k d) (get_or now k d)
spent-so-far j k old now d before = elim (cases_lt k j) [
  | inl below ↦ inl (before.so_far k d below)
  | inr above ↦ inr (subst (Keeps (get_or old k d)) (sym (before.others k d above)) (keeps (get_or old k d)))
]

-- whether or not memory ran out
pub spent-by : {A B : Type 0} (answer : Result A B) (old new : List Builder) → OnOk answer (AreEmptied old new) → OnErr answer (AreSpent old new)
    → AreSpent old new
spent-by (Ok made) old new emptied spent = emptied-spent old new emptied
spent-by (Err fault) old new emptied spent = spent

pub none-spent : (old : List Builder) → AreSpent old old
none-spent old = record { count = refl; each = λ k b within. inr (keeps (get_or old k b)) }

-- the first ones were emptied, and the next is spent
pub one-spent : (j : ℕ) (old now : List Builder) (b new : Builder) → EmptiedSoFar j old now → j < length old → IsSpent (get_or now j b) new
    → AreSpent old (set now j new)
one-spent j old now b new before within spent = record {
  count = length-set now j new ∙ before.count;
  each = λ k d inside.
      elim (cases_eq k j) [
        | inl here ↦
            subst (λ (n : ℕ). IsSpent (get_or old n d) (get_or (set now j new) n d)) (sym here)
            (became IsSpent j old now b new d within before.count (before.others j b (omega arith)) spent)
        | inr other ↦
            subst (λ (x : Builder). IsSpent (get_or old k d) x) (sym (get_or-set_other now j k new d other)) (spent-so-far j k old now d before)
      ];
}

-- ---- the builders of columns

pub kept-emptied : (old new : List Builder) (columns : List Column) → AreKept old columns → AreEmptied old new → AreBegun new columns
kept-emptied old new columns kept emptied = record {
  long = emptied.count ∙ kept.long;
  each = λ j b c within.
      let own = kept.each j b c within in
      record { kind = own.kind; flat = own.flat; holds = emptied.each j b (omega (arith, within, kept.long)) own.kind own.values own.holds };
}

spent-holds : (old new : Builder) (column : Column) → IsKept old column → IsSpent old new → IsKept new column
spent-holds old new column own (inl emptied) = record { kind = own.kind; flat = own.flat; values = []; holds = emptied own.kind own.values own.holds }
spent-holds old new column own (inr kept) = record { kind = own.kind; flat = own.flat; values = own.values; holds = kept own.kind own.values own.holds }

pub kept-spent : (old new : List Builder) (columns : List Column) → AreKept old columns → AreSpent old new → AreKept new columns
kept-spent old new columns kept spent = record {
  long = spent.count ∙ kept.long;
  each = λ j b c within.
      spent-holds (get_or old j b) (get_or new j b) (get_or columns j c) (kept.each j b c within) (spent.each j b (omega (arith, within, kept.long)));
}

pub rows-kept : (made : BodyColumns) (columns : List Column) (rows : List Row) → HasRows made columns rows → AreKept made.builders.items columns
rows-kept made columns rows has = record {
  long = has.held.builders_count;
  each = λ j b c within.
      let own = has.held.each j Truths b c within in
      record { kind = own.kind; flat = own.flat; values = column_values j rows; holds = own.holds };
}

-- ---- where there may be none

none-long : (builders : List Builder) → length builders ≡ 0 → builders ≡ []
none-long [] none = refl
none-long (b ∷ bs) none = absurd (omega (arith, none))

pub ready-spent : (old new : List Builder) (columns : List Column) → AreReady old columns → AreSpent old new → AreReady new columns
ready-spent old new columns (inl none) spent = inl (none-long new (spent.count ∙ ap (λ (bs : List Builder). length bs) none))
ready-spent old new columns (inr kept) spent = inr (kept-spent old new columns kept spent)

pub ready-held : (builders : List Builder) (columns : List Column) → AreReady builders columns → (j : ℕ) (b : Builder) → j < length builders
    → HoldsSome (get_or builders j b)
ready-held builders columns (inl none) j b within = absurd (omega (arith, within, ap (λ (bs : List Builder). length bs) none))
ready-held builders columns (inr kept) j b within =
    let own = kept.each j b no_column (omega (arith, within, kept.long)) in
    (own.kind, own.values, own.holds)

pub ready-begun : (old new : List Builder) (columns : List Column) → AreReady old columns → 1 ≤ length old → AreEmptied old new → AreBegun new columns
ready-begun old new columns (inl none) some emptied = absurd (omega (arith, some, ap (λ (bs : List Builder). length bs) none))
ready-begun old new columns (inr kept) some emptied = kept-emptied old new columns kept emptied

pub ready-long : (builders : List Builder) (columns : List Column) → AreReady builders columns → 1 ≤ length builders → length builders ≡ length columns
ready-long builders columns (inl none) some = absurd (omega (arith, some, ap (λ (bs : List Builder). length bs) none))
ready-long builders columns (inr kept) some = kept.long
