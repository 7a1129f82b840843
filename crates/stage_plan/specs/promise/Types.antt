-- The entries of a schema text, and its first fault.
use Rattle.std.specs.Prelude.{◌≡◌, ◌≢◌, ◌⊎◌, ◌+◌, ℕ, true, false, List, [], ◌∷◌, ◌++◌, length, if◌then◌else◌, ◌==◌, Option, Some, None, Result, Ok, Err}
use Rattle.std.specs.List.{AllByRecursion, AllZip, AllPairs, Any}
use Rattle.data_types.specs.declared.kind.DataType.{DataType}
use Rattle.fmt_string.specs.declared.fault.FormatRule.{FormatRule}
use Rattle.fmt_string.specs.promise.FormatString.{FormatIs, FormatFaultIs}
use Rattle.data_types.specs.promise.Kinds.{is_column_type}
use Rattle.stage_plan.specs.declared.types.TypeEntry.{TypeEntry}
use Rattle.stage_plan.specs.declared.fault.TypesRule.{TypesRule}
use Rattle.stage_plan.specs.declared.fault.TypesRule.TheVariants.{BadEntry, Twice}
use Rattle.stage_plan.specs.declared.fault.TypesFault.{TypesFault}
use Rattle.stage_plan.specs.declared.fault.TypesFault.TheVariants.{At, NoMemory}

-- ---- entries

abbrev pub semicolon : ℕ
semicolon = 59

abbrev pub colon : ℕ
colon = 58

abbrev pub Lacks : ℕ → List ℕ → Type 0
Lacks byte = AllByRecursion (λ b. b ≢ byte)

-- what precedes the first such byte of the text, and what follows it
pub record CutsAt (byte : ℕ) (text front behind : List ℕ) : Type 0 where
  pub first : Lacks byte front
  pub split : text ≡ front ++ byte ∷ behind

abbrev first_longer : ℕ → List (List ℕ) → List (List ℕ)
first_longer byte [] = []
first_longer byte (part ∷ parts) = (byte ∷ part) ∷ parts

-- the parts of a text between its `;`, one more than there are of these
abbrev pub parts : List ℕ → List (List ℕ)
parts [] = [] ∷ []
parts (byte ∷ bytes) = if byte == semicolon then [] ∷ parts bytes else first_longer byte (parts bytes)

-- The format spells the type of a column; or it is refused, or its type isn't one of a column.
abbrev pub TypeReads : List ℕ → Option DataType → Type 0
TypeReads format (Some kind) = FormatIs format kind × (is_column_type kind ≡ true)
TypeReads format None = ((rule : FormatRule) × (place : ℕ) × FormatFaultIs format rule place)
    ⊎ ((kind : DataType) × FormatIs format kind × (is_column_type kind ≡ false))

-- The part is an entry: a name, the first `:`, and a format.
abbrev pub EntryIs : List ℕ → TypeEntry → Type 0
EntryIs part entry = (format : List ℕ) × CutsAt colon part entry.name format × TypeReads format (Some entry.kind)

-- The part is no entry: it has no `:`, or what is behind the first is no type of a column.
abbrev pub BadEntryIs : List ℕ → Type 0
BadEntryIs part = Lacks colon part
    ⊎ ((name format : List ℕ) × CutsAt colon part name format × TypeReads format None)

-- ---- the text

-- each name differs from each later one
abbrev pub NamesDiffer : List TypeEntry → Type 0
NamesDiffer = AllPairs (λ a b. a.name ≢ b.name)

-- The text's parts are these entries.
pub record TypesIs (text : List ℕ) (entries : List TypeEntry) : Type 0 where
  pub each : AllZip EntryIs (parts text) entries
  pub differ : NamesDiffer entries

-- What is wrong with a part, behind these entries.
abbrev pub PartFails : List TypeEntry → List ℕ → TypesRule → Type 0
PartFails before part BadEntry = BadEntryIs part
PartFails before part Twice = (entry : TypeEntry) × EntryIs part entry × Any (λ e. e.name ≡ entry.name) before

-- The first part that is at fault, where entries are counted from 1.
pub record FirstFaultIs (text : List ℕ) (number : ℕ) (rule : TypesRule) : Type 0 where
  pub front : List (List ℕ)
  pub part : List ℕ
  pub behind : List (List ℕ)
  pub before : List TypeEntry
  pub split : parts text ≡ front ++ part ∷ behind
  pub each : AllZip EntryIs front before
  pub differ : NamesDiffer before
  pub counted : number ≡ length before + 1
  pub fails : PartFails before part rule

abbrev pub TypesFaultIs : List ℕ → TypesFault → Type 0
TypesFaultIs text (At number rule) = FirstFaultIs text number rule
TypesFaultIs text NoMemory = ⊥

-- ---- one answer

-- What the text is: entries, or a fault.
abbrev pub Reads : List ℕ → Result (List TypeEntry) TypesFault → Type 0
Reads text (Ok entries) = TypesIs text entries
Reads text (Err fault) = TypesFaultIs text fault
