use Rattle.std.proofs.Common.{◌≡◌, ◌∙◌, ◌++◌, [], ◌∷◌, List, inl, inr, sym, ap, subst, replicate, arith}
use Rattle.std.proofs.lemmas.Bool.{cases_eq}
use Rattle.std.proofs.lemmas.List.{append_assoc, append-nil, length-append, length-replicate, replicate-append-replicate}
use Rattle.std.specs.Prelude.{None}
use Rattle.data_types.specs.promise.Value.{Value}
use Rattle.col_build.specs.Encoding.{push_fault}
use Rattle.col_build.specs.Holding.{Holds}
use Rattle.col_build.specs.Items.{value_of}
use Rattle.text_cases.proofs.times.push_each.Goals as goal

pub loop-time-init : goal.loop-time-init
loop-time-init c = (λ kind values holds. subst (Holds c.args.pushed.now kind) (sym (append-nil values)) holds, λ kind values holds i small. absurd (omega (arith, small)))

pub push_one-requires : goal.push_one-requires
push_one-requires c =
    let room = c.requires.room in
    let v = value_of c.args.item in
    record {
      few = (
        room.0,
        room.1 ++ replicate c.loop-time._time v,
        c.loop-time.invariant.0 room.0 room.1 room.2,
        omega (
          arith,
          room.3,
          c.loop-time-test.true,
          length-append room.1 (replicate c.loop-time._time v),
          length-replicate c.loop-time._time v,
        ),
      );
    }

pub loop-time-preserved : goal.loop-time-preserved
loop-time-preserved c =
    let v = value_of c.args.item in
    let t = c.loop-time._time in
    let before = c.loop-time.invariant in (
      λ kind values holds.
          subst (Holds c.push_one.new.pushed kind)
          (append_assoc values (replicate t v) (v ∷ []) ∙ ap (λ (vs : List Value). values ++ vs) (replicate-append-replicate t 1 v))
          (c.in_ok-push_one.ensures.added kind (values ++ replicate t v) (before.0 kind values holds)),
      λ kind values holds i small. elim (cases_eq i t) [
        | inl last ↦ subst (λ n. push_fault kind (values ++ replicate n v) v ≡ None) (sym last)
            (c.in_ok-push_one.ensures.taken kind (values ++ replicate t v) (before.0 kind values holds))
        | inr other ↦ before.1 kind values holds i (omega (arith, small, other))
      ],
    )
