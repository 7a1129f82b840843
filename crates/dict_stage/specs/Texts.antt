-- Distinct texts, numbered in the order in which they come.
use Rattle.std.specs.Prelude.{ℕ, ◌^◌, ◌≤◌, pos, List, [], ◌∷◌, map}
use Rattle.data_types.specs.ColumnForms.{IsColumnKind}
use Rattle.data_types.specs.promise.Value.{Value, Null, Whole, Bytes}
use Rattle.data_types.specs.declared.kind.DataType.{DataType}
use Rattle.col_build.specs.Holding.{Holds}
use Rattle.arr_import.specs.Window.{Window, items_of}
use Rattle.item_keys.specs.Distinct.{Numbers, number_of, texts_with}
use Rattle.stream_face.specs.Lawful.{AreValues, HasBytes}
use Rattle.dict_stage.specs.declared.coder.Coder.{Coder}

-- null, or bytes
abbrev pub IsText : Value → Type 0
IsText Null = Unit {0}
IsText (Bytes text) = Unit {0}
IsText _ = ⊥

-- the items of a column of texts or bytes
pub record HasTexts (type : DataType) (w : Window) : Type 0 where
  pub is : IsColumnKind type
  pub bytes : HasBytes type
  pub items : AreValues type (items_of w)
  pub few : w.count ≤ 2 ^ 30

-- ---- distinct texts

-- the texts after values
abbrev pub texts_after : List (List ℕ) → List Value → List (List ℕ)
texts_after texts [] = texts
texts_after texts (Bytes text ∷ values) = texts_after (texts_with texts text) values
texts_after texts (_ ∷ values) = texts_after texts values

-- the index of a value, and null of a null
abbrev pub index_by : List (List ℕ) → Value → Value
index_by texts (Bytes text) = Whole (pos (number_of texts text))
index_by texts _ = Null

-- ---- the making

-- the distinct texts so far, each with its number, and a builder of them
pub record Codes (coder : Coder) (type : DataType) (texts : List (List ℕ)) : Type 0 where
  pub numbers : Numbers coder.texts texts
  pub holds : Holds coder.entries type (map Bytes texts)
