-- How the logic stores rows: the value of a model needs a code.
use Rattle.std.specs.Prelude.{◌≡◌, ℕ, zero, suc, pos, negsuc, true, false, List, [], ◌∷◌, refl}
use Rattle.std.specs.Coded.{Coded, code_by, coded×, coded_list}
use Rattle.std.proofs.Common.{ap}
use base.Stored.{Gv, gnil, gnum, gcons}
use Rattle.data_types.specs.promise.Table.{Row}
use Rattle.data_types.specs.promise.Value.{Value, Values, Null, Truth, Whole, Bits, Bytes, Items, Fields, no_values, more_values}
use Rattle.data_types.specs.contracts.kind.ColumnType as kinds
use Rattle.data_types.specs.declared.kind.ColumnType.{ColumnType}

-- rows of columns
pub record HeldTable : Type 0 where
  pub columns : List ColumnType
  pub rows : List Row

abbrev code_of_bytes : List ℕ → Gv
code_of_bytes [] = gnil
code_of_bytes (b ∷ bs) = gcons (gnum b) (code_of_bytes bs)

abbrev bytes_of_code : Gv → List ℕ
bytes_of_code gnil = []
bytes_of_code (gnum n) = []
bytes_of_code (gcons gnil rest) = []
bytes_of_code (gcons (gnum b) rest) = b ∷ bytes_of_code rest
bytes_of_code (gcons (gcons x y) rest) = []

bytes-back : (bytes : List ℕ) → bytes_of_code (code_of_bytes bytes) ≡ bytes
bytes-back [] = refl
bytes-back (b ∷ bs) = ap (λ (l : List ℕ). b ∷ l) (bytes-back bs)

abbrev mutual
  code_of_value : Value → Gv
  code_of_value Null = gnil
  code_of_value (Truth false) = gnum 0
  code_of_value (Truth true) = gnum 1
  code_of_value (Whole (pos n)) = gcons (gnum 0) (gnum n)
  code_of_value (Whole (negsuc n)) = gcons (gnum 1) (gnum n)
  code_of_value (Bits n) = gcons (gnum 2) (gnum n)
  code_of_value (Bytes bytes) = gcons gnil (code_of_bytes bytes)
  code_of_value (Items vs) = gcons (gcons gnil gnil) (code_of_values vs)
  code_of_value (Fields vs) = gcons (gcons gnil (gnum 0)) (code_of_values vs)

  code_of_values : Values → Gv
  code_of_values no_values = gnil
  code_of_values (more_values v vs) = gcons (code_of_value v) (code_of_values vs)

abbrev number_coded : ℕ → Gv → Value
number_coded zero (gnum n) = Whole (pos n)
number_coded (suc zero) (gnum n) = Whole (negsuc n)
number_coded (suc (suc m)) (gnum n) = Bits n
number_coded m gnil = Null
number_coded m (gcons a b) = Null

abbrev truth_coded : ℕ → Value
truth_coded zero = Truth false
truth_coded (suc n) = Truth true

abbrev mutual
  value_coded : Gv → Value
  value_coded gnil = Null
  value_coded (gnum n) = truth_coded n
  value_coded (gcons (gnum m) body) = number_coded m body
  value_coded (gcons gnil body) = Bytes (bytes_of_code body)
  value_coded (gcons (gcons a gnil) body) = Items (values_coded body)
  value_coded (gcons (gcons a (gnum n)) body) = Fields (values_coded body)
  value_coded (gcons (gcons a (gcons b c)) body) = Null

  values_coded : Gv → Values
  values_coded gnil = no_values
  values_coded (gnum n) = no_values
  values_coded (gcons v vs) = more_values (value_coded v) (values_coded vs)

mutual
  pub value-back : (v : Value) → value_coded (code_of_value v) ≡ v
  value-back Null = refl
  value-back (Truth false) = refl
  value-back (Truth true) = refl
  value-back (Whole (pos n)) = refl
  value-back (Whole (negsuc n)) = refl
  value-back (Bits n) = refl
  value-back (Bytes bytes) = ap (λ (bs : List ℕ). Bytes bs) (bytes-back bytes)
  value-back (Items vs) = ap (λ (ws : Values). Items ws) (values-back vs)
  value-back (Fields vs) = ap (λ (ws : Values). Fields ws) (values-back vs)

  pub values-back : (vs : Values) → values_coded (code_of_values vs) ≡ vs
  values-back no_values = refl
  values-back (more_values v vs) = λ i. more_values (value-back v i) (values-back vs i)

abbrev coded_any : Coded Gv
coded_any = record { code = λ x. x; inj = λ x y e. e }

abbrev coded_value : Coded Value
coded_value = code_by Gv coded_any code_of_value value_coded value-back

abbrev pub coded_held : Coded HeldTable
coded_held =
    code_by (List ColumnType × List Row) (coded× (coded_list kinds.the_row.coded) (coded_list (coded_list coded_value)))
    (λ t. (t.columns, t.rows)) (λ p. record { columns = p.0; rows = p.1 }) (λ _. refl)
