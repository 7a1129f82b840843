use Rattle.std.proofs.Common.{◌≡◌, ◌∙◌, [], ◌∷◌, ℕ, Bool, true, false, not, List, arith, ap, sym, refl, get_or, true≢false}
use Rattle.std.proofs.lemmas.Slice.Eq.{bytes_eq-Decides}
use Rattle.tree_text.proofs.Cuts.{some_parts}
use Rattle.tree_text.proofs.node_line.six_fields.Goals as goal

is_true : (b other : Bool) → other ≡ not b → other ≡ false → b ≡ true
is_true true other is e = refl
is_true false other is e = absurd (true≢false (sym is ∙ e))

is_false : (b other : Bool) → other ≡ not b → other ≡ true → b ≡ false
is_false false other is e = refl
is_false true other is e = absurd (true≢false (sym e ∙ is))

-- one part more in front
before : (a b : List ℕ) (xs ys : List (List ℕ)) → a ≡ b → xs ≡ ys → a ∷ xs ≡ b ∷ ys
before a b xs ys e es = cc

pub returns-then-ne-clause-none : goal.returns-then-ne-clause-none
returns-then-ne-clause-none c = λ _ front.
    let same = bytes_eq-Decides c.in_ok-front.front.now c.as_slice.result.now in
    let is = sym (ap (λ (ps : List (List ℕ)). get_or ps 0 []) c.in_ok-front.ensures.parts) ∙ front ∙ sym c.as_slice.ensures in
    true≢false (sym (same.1 is) ∙ is_false _ c.ne.result c.ne.ensures c.if-ne.true)

pub returns-in-None-clause-some : goal.returns-in-None-clause-some
returns-in-None-clause-some c =
    let same = bytes_eq-Decides c.in_ok-front.front.now c.as_slice.result.now in
    let letter = same.0 (is_true _ c.ne.result c.ne.ensures c.if-ne.false) ∙ c.as_slice.ensures in
    c.in_ok-front.ensures.parts
    ∙ before _ _ _ _ letter
    (c.in_ok-first.ensures.parts
    ∙ before _ _ _ _ refl
    (c.in_ok-second.ensures.parts
    ∙ before _ _ _ _ refl
    (c.in_ok-third.ensures.parts
    ∙ before _ _ _ _ refl
    (c.in_ok-fourth.ensures.parts
    ∙ before _ _ _ _ refl (c.in_ok-fifth.ensures.parts ∙ before _ _ _ _ refl c.in-None.ensures.none)))))

pub returns-in-Some-clause-none : goal.returns-in-Some-clause-none
returns-in-Some-clause-none c = grind (arith, some_parts)
