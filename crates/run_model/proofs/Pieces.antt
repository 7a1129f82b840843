-- Texts that are written one after the other.
use Rattle.std.proofs.Common.{ℕ, ◌≡◌, ◌≤◌, ◌<◌, ◌+◌, ◌++◌, ◌∷◌, ◌∙◌, List, [], Option, Result, Ok, Err, Bor, ap, sym, refl, subst, append_assoc, append-nil}
use Rattle.std.proofs.Common.{arith, length, map, take, drop, get_or, take-append-drop}
use Rattle.std.proofs.lemmas.Bool.{false≢true}
use Rattle.std.proofs.lemmas.List.{map_more, take-append-le, length-append}
use Rattle.std.proofs.lemmas.List.Folds.{concat-append}
use Rattle.std.proofs.Math.Seq.{take-append-add}
use Rattle.std.proofs.KnownBytes.{Appends-trans}
use Rattle.std.specs.Io.KnownBytes.{Appends}
use Rattle.std.specs.List.{concat}
use Rattle.std.specs.Result.{IsErr}
use Rattle.edge_io.specs.declared.edge.WriteFault.{WriteFault}
use Rattle.edge_io.specs.promise.Edge.{Rose}
use Rattle.run_model.specs.Diagnostics.{Says, TookFirst, joined}

joined-append : (xs ys : List (Bor (List ℕ))) → joined (xs ++ ys) ≡ joined xs ++ joined ys
joined-append [] ys = refl
joined-append (x ∷ xs) ys = ap (λ l. x.now ++ l) (joined-append xs ys) ∙ sym (append_assoc x.now (joined xs) (joined ys))

-- one more piece
pub pieces-push : (xs : List (Bor (List ℕ))) (k : ℕ) (d : Bor (List ℕ)) (text : List ℕ) → k < length xs → text ≡ (get_or xs k d).now
    → joined (take (k + 1) xs) ≡ joined (take k xs) ++ text
pieces-push xs k d text inside is =
    ap concat (map_more (λ p. p.now) xs k d inside) ∙ concat-append (map (λ p. p.now) (take k xs)) ((get_or xs k d).now ∷ [])
    ∙ ap (λ l. joined (take k xs) ++ l) (append-nil (get_or xs k d).now ∙ sym is)

-- a piece, and those behind it
pub pieces-around : (xs : List (Bor (List ℕ))) (k : ℕ) (d : Bor (List ℕ)) (text : List ℕ) → k < length xs → text ≡ (get_or xs k d).now
    → joined xs ≡ (joined (take k xs) ++ text) ++ joined (drop (k + 1) xs)
pieces-around xs k d text inside is =
    ap joined (sym (take-append-drop (k + 1) xs)) ∙ joined-append (take (k + 1) xs) (drop (k + 1) xs)
    ∙ ap (λ l. l ++ joined (drop (k + 1) xs)) (pieces-push xs k d text inside is)

rose-before : (before middle now : ℕ) → before ≤ middle → Rose middle now → Rose before now
rose-before before middle now le rose = omega (arith, le, rose)

-- a failure, whatever it is
pub says-failed : (r : Result (Unit {0}) WriteFault) (a c : Option (List ℕ)) (before now : ℕ) (xs : List ℕ)
    → IsErr r → TookFirst a c before now xs → Says r a c before now xs
says-failed (Ok done) a c before now xs failed first = absurd (false≢true failed)
says-failed (Err fault) a c before now xs failed first = first

-- the first bytes of a text behind one that was taken
pub first-then : (a b c : Option (List ℕ)) (before middle now : ℕ) (xs ys : List ℕ)
    → Appends a b xs → before ≤ middle → TookFirst b c middle now ys → TookFirst a c before now (xs ++ ys)
first-then a b c before middle now xs ys first le rest =
    let long : length (xs ++ ys) ≡ length xs + length ys = length-append xs ys in (
      length xs + rest.0,
      omega (arith, long, rest.1),
      subst (Appends a c) (sym (take-append-add xs ys rest.0)) (Appends-trans a b c xs _ first rest.2),
      rose-before before middle now le rest.3,
    )

-- a text behind one that was taken
pub says-then : (r : Result (Unit {0}) WriteFault) (a b c : Option (List ℕ)) (before middle now : ℕ) (xs ys : List ℕ)
    → Appends a b xs → before ≤ middle → Says r b c middle now ys → Says r a c before now (xs ++ ys)
says-then (Ok done) a b c before middle now xs ys first le rest = (Appends-trans a b c xs ys first rest.0, omega (arith, le, rest.1))
says-then (Err fault) a b c before middle now xs ys first le rest = first-then a b c before middle now xs ys first le rest

-- the first bytes of a text, with more behind it
pub first-less : (a c : Option (List ℕ)) (before now : ℕ) (xs ys : List ℕ) → TookFirst a c before now xs → TookFirst a c before now (xs ++ ys)
first-less a c before now xs ys first =
    let long : length (xs ++ ys) ≡ length xs + length ys = length-append xs ys in
    (first.0, omega (arith, long, first.1), subst (Appends a c) (sym (take-append-le first.0 xs ys first.1)) first.2, first.3)

-- the first bytes of a text that has more behind them
pub says-in-part : (r : Result (Unit {0}) WriteFault) (a c : Option (List ℕ)) (before now : ℕ) (xs ys text : List ℕ)
    → IsErr r → xs ++ ys ≡ text → TookFirst a c before now xs → Says r a c before now text
says-in-part r a c before now xs ys text failed is first =
    subst (Says r a c before now) is (says-failed r a c before now (xs ++ ys) failed (first-less a c before now xs ys first))

-- two texts that are one
pub says-both : (r : Result (Unit {0}) WriteFault) (a b c : Option (List ℕ)) (before middle now : ℕ) (xs ys text : List ℕ)
    → xs ++ ys ≡ text → Appends a b xs × (before ≤ middle) → Says r b c middle now ys → Says r a c before now text
says-both r a b c before middle now xs ys text is first rest =
    subst (Says r a c before now) is (says-then r a b c before middle now xs ys first.0 first.1 rest)
