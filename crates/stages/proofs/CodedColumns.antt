-- Columns as the logic stores them: two equations of the same columns are one.
use Rattle.std.proofs.Common.{arith, ◌≡◌, List, refl, ap, sym, subst, ℕ}
use Rattle.std.specs.Coded.{Coded, code_by, coded×, coded_list, coded_ℕ}
use base.Stored.{Gv, gnil, gnum, gcons}
use Rattle.data_types.specs.contracts.kind.DataType as types
use Rattle.data_types.specs.declared.kind.DataType.{DataType}
use Rattle.data_types.specs.promise.Table.{Column, Kind, Flat, Dict, Columns, Members, no_members, more_members}

abbrev coded_type : Coded DataType
coded_type = types.the_row.coded

abbrev coded_name : Coded (List ℕ)
coded_name = coded_list coded_ℕ

abbrev mutual
  code_of_kind : Kind → Gv
  code_of_kind (Flat type) = gcons (gnum 0) (coded_type.code type)
  code_of_kind (Dict type) = gcons (gnum 1) (coded_type.code type)
  code_of_kind (Columns members) = gcons (gnum 2) (code_of_members members)

  code_of_members : Members → Gv
  code_of_members no_members = gnil
  code_of_members (more_members name kind rest) = gcons (coded_name.code name) (gcons (code_of_kind kind) (code_of_members rest))

abbrev IsPair : Gv → Type 0
IsPair gnil = ⊥
IsPair (gnum n) = ⊥
IsPair (gcons a b) = Unit {0}

abbrev left : Gv → Gv
left gnil = gnil
left (gnum n) = gnil
left (gcons a b) = a

abbrev right : Gv → Gv
right gnil = gnil
right (gnum n) = gnil
right (gcons a b) = b

abbrev number : Gv → ℕ
number gnil = 0
number (gnum n) = n
number (gcons a b) = 0

mutual
  pub kind_told : (x y : Kind) → code_of_kind x ≡ code_of_kind y → x ≡ y
  kind_told (Flat a) (Flat b) e = ap Flat (coded_type.inj a b (ap right e))
  kind_told (Flat a) (Dict b) e = absurd (let k : 0 ≡ 1 = ap (λ g. number (left g)) e in omega (arith, k))
  kind_told (Flat a) (Columns b) e = absurd (let k : 0 ≡ 2 = ap (λ g. number (left g)) e in omega (arith, k))
  kind_told (Dict a) (Flat b) e = absurd (let k : 1 ≡ 0 = ap (λ g. number (left g)) e in omega (arith, k))
  kind_told (Dict a) (Dict b) e = ap Dict (coded_type.inj a b (ap right e))
  kind_told (Dict a) (Columns b) e = absurd (let k : 1 ≡ 2 = ap (λ g. number (left g)) e in omega (arith, k))
  kind_told (Columns a) (Flat b) e = absurd (let k : 2 ≡ 0 = ap (λ g. number (left g)) e in omega (arith, k))
  kind_told (Columns a) (Dict b) e = absurd (let k : 2 ≡ 1 = ap (λ g. number (left g)) e in omega (arith, k))
  kind_told (Columns a) (Columns b) e = ap Columns (members_told a b (ap right e))

  pub members_told : (x y : Members) → code_of_members x ≡ code_of_members y → x ≡ y
  members_told no_members no_members e = refl
  members_told no_members (more_members name kind rest) e = absurd (subst IsPair (sym e) tt)
  members_told (more_members name kind rest) no_members e = absurd (subst IsPair e tt)
  members_told (more_members name kind rest) (more_members other last more) e =
      λ i. more_members (coded_name.inj name other (ap left e) i) (kind_told kind last (ap (λ g. left (right g)) e) i)
      (members_told rest more (ap (λ g. right (right g)) e) i)

abbrev pub coded_kind : Coded Kind
coded_kind = record { code = code_of_kind; inj = kind_told }

abbrev pub coded_column : Coded Column
coded_column = code_by (List ℕ × Kind) (coded× coded_name coded_kind) (λ c. (c.name, c.kind)) (λ p. record { name = p.0; kind = p.1 }) (λ _. refl)

abbrev pub coded_columns : Coded (List Column)
coded_columns = coded_list coded_column
