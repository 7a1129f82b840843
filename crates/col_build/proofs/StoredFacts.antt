-- What an attempt to append some bytes leaves.
use Rattle.std.proofs.Common.{◌≡◌, ◌∙◌, ◌++◌, ℕ, true, false, List, [], ◌∷◌, length, Result, Ok, Err, refl, sym, arith}
use Rattle.std.proofs.lemmas.Bool.{false≢true}
use Rattle.std.specs.Prelude.{◌==◌, Option, OnOk}
use Rattle.col_build.specs.Shapes.{Stored}
use Rattle.col_build.specs.declared.item.PushFault.{PushFault}

-- a fact that follows where the bytes were appended
pub where-stored : (r : Result (Unit {0}) PushFault) (old new bytes : List ℕ) (fault : Option PushFault) (P : Type 0) → Stored r old new fault bytes
    → (new ≡ old ++ bytes → P) → OnOk r P
where-stored (Ok _) old new bytes fault P stored then = then stored.1
where-stored (Err e) old new bytes fault P stored then = tt

-- a vector of no elements, by its length
pub no-items : (xs : List ℕ) (len : ℕ) → len ≡ length xs → (len == 0) ≡ true → xs ≡ []
no-items [] len is none = refl
no-items (x ∷ xs) len is none =
    let more : (len == 0) ≡ false = grind arith in
    absurd (false≢true (sym more ∙ none))

-- a fact that follows from another where an attempt succeeds
pub where-ok : (r : Result (Unit {0}) PushFault) (P Q : Type 0) → OnOk r P → (P → Q) → OnOk r Q
where-ok (Ok _) P Q here then = then here
where-ok (Err e) P Q here then = tt

-- and from one more
pub where-both : (r : Result (Unit {0}) PushFault) (old new bytes : List ℕ) (fault : Option PushFault) (P Q : Type 0) → OnOk r P → Stored r old new fault bytes
    → (P → new ≡ old ++ bytes → Q) → OnOk r Q
where-both (Ok _) old new bytes fault P Q here stored then = then here stored.1
where-both (Err e) old new bytes fault P Q here stored then = tt
