use Rattle.std.proofs.Common.{◌≡◌, ◌≢◌, ◌∙◌, ◌-◌, ◌++◌, ℕ, suc, [], ◌∷◌, List, append_assoc, arith, replicate, subst, sym, ap}
use Rattle.std.proofs.lemmas.List.{length-append}
use Rattle.std.proofs.lemmas.Result.{on_err_weaker, on_ok_weaker}
use Rattle.std.specs.Prelude.{None}
use Rattle.data_types.specs.promise.Value.{Value}
use Rattle.col_build.specs.Encoding.{push_fault}
use Rattle.col_build.specs.Holding.{Adds, Holds}
use Rattle.col_build.specs.Items.{value_of}
use Rattle.col_build.specs.Times.{TakesTimes}
use Rattle.col_build.specs.declared.builder.Builder.{Builder}
use Rattle.col_build.proofs.ValidityFacts.{null-one, nulls-push}
use Rattle.col_build.proofs.builder.Builder.add_bitwise.Goals as goal

-- what is taken so often is taken once less behind the first
rest : (old new : Builder) (v : Value) (times : ℕ) → TakesTimes old v times → times ≢ 0 → Adds v old new → TakesTimes new v (times - 1)
rest old new v times takes often adds = record {
  kind = takes.kind;
  values = takes.values ++ v ∷ [];
  holds = adds takes.kind takes.values takes.holds;
  few = omega (arith, takes.few, often, length-append takes.values (v ∷ []));
  each = λ i lt.
      subst (λ (vs : List Value). push_fault takes.kind vs v ≡ None) (sym (append_assoc takes.values (v ∷ []) (replicate i v)))
      (takes.each (suc i) (omega (arith, lt)));
}

pub repeat-requires-clause-takes : goal.repeat-requires-clause-takes
repeat-requires-clause-takes c =
    let v = value_of c.args.item in (
      v,
      sym c.is_null.ensures,
      sym c.is_set.ensures,
      rest c.args.self.now c.add.new.self v c.args.times c.requires.takes c.requires.often c.in_ok-add.ensures.added,
    )

pub repeat-requires-clause-behind : goal.repeat-requires-clause-behind
repeat-requires-clause-behind c = λ null none.
    let takes = c.requires.takes in
    let v = value_of c.args.item in
    let here = c.in_ok-add.ensures.added takes.kind takes.values takes.holds in
    omega (arith, here.nulls, nulls-push takes.values v, null-one v (sym c.is_null.ensures ∙ null), none)

pub returns-clause-added : goal.returns-clause-added
returns-clause-added c =
    let v = value_of c.args.item in
    let all : suc (c.args.times - 1) ≡ c.args.times = omega (arith, c.requires.often) in
    let more = rest c.args.self.now c.add.new.self v c.args.times c.requires.takes c.requires.often c.in_ok-add.ensures.added in
    on_ok_weaker c.repeat.result
    (λ adds kind values holds.
    subst (Holds c.repeat.new.self kind)
    (append_assoc values (v ∷ []) (replicate (c.args.times - 1) v) ∙ ap (λ n. values ++ replicate n v) all)
    (adds v (sym c.is_null.ensures) (sym c.is_set.ensures) more kind (values ++ v ∷ []) (c.in_ok-add.ensures.added kind values holds)))
    c.repeat.ensures.added

pub returns-clause-some : goal.returns-clause-some
returns-clause-some c =
    let v = value_of c.args.item in
    on_err_weaker c.repeat.result
    (λ keeps kind values holds. (1, omega (arith, c.requires.often), keeps kind (values ++ v ∷ []) (c.in_ok-add.ensures.added kind values holds)))
    c.repeat.ensures.kept
