-- The columns after a stage, piece by piece.
use Rattle.std.proofs.Common.{◌≡◌, ◌∙◌, ◌<◌, ◌+◌, ◌-◌, ◌++◌, ℕ, List, [], ◌∷◌, length, get_or, take, drop, refl, ap, sym, arith, append_assoc, length-drop}
use Rattle.std.proofs.lemmas.List.{drop-map, take-map, take_all, take_more, map-append}
use Rattle.data_types.specs.promise.ColumnView.{members}
use Rattle.data_types.specs.ColumnView.{column_of}
use Rattle.data_types.specs.promise.Parts.{member_columns, replaced}
use Rattle.data_types.specs.promise.Table.{Column}
use Rattle.data_types.specs.declared.kind.ColumnType.{ColumnType}
use Rattle.stage_plan.specs.PlanWords.{columns_in}

-- the columns of a struct of these
pub members-back : (columns : List Column) → member_columns (members columns) ≡ columns
members-back [] = refl
members-back (c ∷ cs) = ap (λ (l : List Column). c ∷ l) (members-back cs)

-- the columns from a place on, as a slice has them
pub rest-in : (columns : List ColumnType) (n : ℕ) → columns_in (take (length columns - n) (drop n columns)) ≡ drop n (columns_in columns)
rest-in columns n =
    ap columns_in (take_all (length columns - n) (drop n columns) (omega (arith, length-drop n columns)))
    ∙ sym (drop-map column_of n columns)

-- columns in the place of one
pub three-parts : (columns : List ColumnType) (place : ℕ) (front fields before all : List Column) → front ≡ columns_in (take place columns)
    → before ≡ front ++ fields
    → all ≡ before ++ columns_in (take (length columns - (place + 1)) (drop (place + 1) columns))
    → all ≡ take place (columns_in columns) ++ fields ++ drop (place + 1) (columns_in columns)
three-parts columns place front fields before all first second third =
    third
    ∙ ap (λ (l : List Column). before ++ l) (rest-in columns (place + 1))
    ∙ ap (λ (l : List Column). l ++ drop (place + 1) (columns_in columns))
    (second ∙ ap (λ (l : List Column). l ++ fields) (first ∙ sym (take-map column_of place columns)))

-- one column in the place of one
pub one-replaced : (columns : List ColumnType) (place : ℕ) (front before all : List Column) (item : Column) → front ≡ columns_in (take place columns)
    → before ≡ front ++ item ∷ []
    → all ≡ before ++ columns_in (take (length columns - (place + 1)) (drop (place + 1) columns))
    → all ≡ replaced place item (columns_in columns)
one-replaced columns place front before all item first second third =
    three-parts columns place front (item ∷ []) before all first second third
    ∙ append_assoc (take place (columns_in columns)) (item ∷ []) (drop (place + 1) (columns_in columns))

-- one column more
pub one-added : (columns all : List ColumnType) (made : ColumnType) (item : Column) → column_of made ≡ item → all ≡ columns ++ made ∷ []
    → columns_in all ≡ columns_in columns ++ item ∷ []
one-added columns all made item is more =
    ap columns_in more ∙ map-append column_of columns (made ∷ []) ∙ ap (λ (c : Column). columns_in columns ++ c ∷ []) is

-- four columns more, one after the other
pub four-added : (a b c d : Column) (columns one two three four : List Column) → one ≡ columns ++ a ∷ [] → two ≡ one ++ b ∷ [] → three ≡ two ++ c ∷ []
    → four ≡ three ++ d ∷ [] → four ≡ columns ++ a ∷ b ∷ c ∷ d ∷ []
four-added a b c d columns one two three four first second third fourth = rw (fourth, third, second, first) (simp append_assoc)

-- the first columns, and one more
pub one-more : (columns old after all : List ColumnType) (i : ℕ) (item made : ColumnType) → i < length columns → item ≡ get_or columns i item
    → column_of made ≡ column_of item
    → columns_in after ≡ columns_in old ++ columns_in (take i columns)
    → all ≡ after ++ made ∷ []
    → columns_in all ≡ columns_in old ++ columns_in (take (i + 1) columns)
one-more columns old after all i item made within at same far more =
    one-added after all made (column_of item) same more
    ∙ ap (λ (l : List Column). l ++ column_of item ∷ []) far
    ∙ append_assoc (columns_in old) (columns_in (take i columns)) (column_of item ∷ [])
    ∙ ap (λ (l : List Column). columns_in old ++ l)
    (sym (ap columns_in (take_more columns i item within ∙ ap (λ (x : ColumnType). take i columns ++ x ∷ []) (sym at))
    ∙ map-append column_of (take i columns) (item ∷ [])))
