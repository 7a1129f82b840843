-- Each text reads as entries or as a fault, and as one alone.
use Rattle.std.proofs.Common.{◌≡◌, ◌∙◌, ◌⊎◌, ◌==◌, ℕ, Bool, true, false, true≢false, List, [], ◌∷◌, ◌++◌, Option, Some, None, Result, Ok, Err, ap, sym, subst}
use Rattle.std.proofs.Common.{refl, arith, inl, inr, append-nil, append_assoc}
use Rattle.std.proofs.lemmas.Bool.{eqb-true, eq-eqb}
use Rattle.std.proofs.lemmas.List.Quantifiers.{all_pairs_push}
use Rattle.data_types.specs.declared.kind.DataType.{DataType}
use Rattle.fmt_string.specs.declared.fault.FormatFault.{FormatFault}
use Rattle.fmt_string.specs.declared.fault.FormatFault.TheVariants.{At, NoMemory}
use Rattle.fmt_string.specs.Answer.{Reads as FormatReads}
use Rattle.data_types.specs.promise.Kinds.{is_column_type}
use Rattle.std.specs.Prelude.{◌≢◌}
use Rattle.stage_plan.specs.declared.types.TypeEntry.{TypeEntry}
use Rattle.stage_plan.specs.declared.fault.TypesRule.TheVariants.{BadEntry, Twice}
use Rattle.stage_plan.specs.promise.Types.{parts, colon, Lacks, CutsAt, TypeReads, NamesDiffer, Reads}
use Rattle.stage_plan.proofs.Columns.{Only, column, no_column, refused}
use Rattle.stage_plan.proofs.Cuts.{entry, no_entry, one_entry}
use Rattle.stage_plan.proofs.Loop.{has_name, named, new_name, push_settled}
use Rattle.stage_plan.proofs.Walk.{Answer, Fails, Settled, Settles, fault, fault_after, fault_only, whole, whole_only}

-- ---- a text is cut at the first such byte, or lacks it

abbrev CutOrLacks : ℕ → List ℕ → Type 0
CutOrLacks byte text = Lacks byte text ⊎ ((front behind : List ℕ) × CutsAt byte text front behind)

cut-or-lacks : (byte : ℕ) (text : List ℕ) → CutOrLacks byte text
cut-or-lacks byte [] = inl tt
cut-or-lacks byte (b ∷ bs) = go (b == byte) refl (cut-or-lacks byte bs)
  where
    go : (c : Bool) → (b == byte) ≡ c → CutOrLacks byte bs → CutOrLacks byte (b ∷ bs)
    go true is rest = inr ([], bs, record { first = tt; split = ap (λ (x : ℕ). x ∷ bs) (eqb-true b byte is) })
    go false is (inl lacks) = inl ((λ same. true≢false (sym (eq-eqb b byte same) ∙ is)), lacks)
    go false is (inr (front, behind, cut)) =
        inr (
          b ∷ front,
          behind,
          record { first = ((λ same. true≢false (sym (eq-eqb b byte same) ∙ is)), cut.first); split = ap (λ (l : List ℕ). b ∷ l) cut.split },
        )

-- ---- with the law that each format has one reading

module _ (some : (text : List ℕ) → (read : Result DataType FormatFault) × FormatReads text read)
    (alone : (text : List ℕ) (first second : Result DataType FormatFault) → FormatReads text first → FormatReads text second → first ≡ second) where
  abbrev TypeSettles : List ℕ → Option DataType → Type 0
  TypeSettles format kind = TypeReads format kind × ((other : Option DataType) → TypeReads format other → other ≡ kind)

  type-settles : (format : List ℕ) → (kind : Option DataType) × TypeSettles format kind
  type-settles format = go (some format).0 (some format).1
    where
      of-kind : (kind : DataType) → FormatReads format (Ok kind) → (b : Bool) → is_column_type kind ≡ b → (found : Option DataType) × TypeSettles format found
      of-kind kind reads true is =
          let only : Only format (Ok kind) = (λ read other. inl (alone format (Ok kind) read reads other)) in
          (Some kind, ((reads, is), column format (Ok kind) only kind refl is))
      of-kind kind reads false is =
          let only : Only format (Ok kind) = (λ read other. inl (alone format (Ok kind) read reads other)) in
          (None, (inr (kind, reads, is), no_column format (Ok kind) only kind refl is))

      go : (read : Result DataType FormatFault) → FormatReads format read → (found : Option DataType) × TypeSettles format found
      go (Ok kind) reads = of-kind kind reads (is_column_type kind) refl
      go (Err (At rule place)) reads =
          let only : Only format (Err (At rule place)) = (λ read other. inl (alone format (Err (At rule place)) read reads other)) in
          (None, (inl (rule, place, reads), refused format (Err (At rule place)) only rule place refl))
      go (Err NoMemory) reads = absurd reads

  entry-settles : (part : List ℕ) → (read : Option TypeEntry) × Settles part read
  entry-settles part = go (cut-or-lacks colon part)
    where
      cut-settles : (name format : List ℕ) → CutsAt colon part name format → (kind : Option DataType) → TypeSettles format kind
          → (read : Option TypeEntry) × Settles part read
      cut-settles name format cut None settles = (None, (inr (name, format, cut, settles.0), one_entry part name format None cut settles.1))
      cut-settles name format cut (Some kind) settles =
          (Some (entry name kind), ((format, cut, settles.0), one_entry part name format (Some kind) cut settles.1))

      go : CutOrLacks colon part → (read : Option TypeEntry) × Settles part read
      go (inl lacks) = (None, (inl lacks, no_entry part lacks))
      go (inr (name, format, cut)) = cut-settles name format cut (type-settles format).0 (type-settles format).1

  -- ---- the reading of a whole text
  -- the reading of a text, which has no other
  abbrev TextSettles : List ℕ → Answer → Type 0
  TextSettles text read = Reads text read × ((other : Answer) → Reads text other → other ≡ read)

  walk : (text : List ℕ) (front : List (List ℕ)) (before : List TypeEntry) (rest : List (List ℕ)) → Settled front before → NamesDiffer before
      → parts text ≡ front ++ rest
      → (read : Answer) × TextSettles text read
  walk text front before [] each differ split =
      let all : Settled (parts text) before = subst (λ (l : List (List ℕ)). Settled l before) (sym (split ∙ append-nil front)) each in
      (Ok before, (whole text before all differ, whole_only text before all differ))
  walk text front before (part ∷ behind) each differ split =
      go (entry-settles part).0 (entry-settles part).1
      (λ e settles new. walk text (front ++ part ∷ []) (before ++ e ∷ []) behind (push_settled part e front before each settles)
      (all_pairs_push (λ a b. a.name ≢ b.name) before e differ (new_name before e new))
      (split ∙ sym (append_assoc front (part ∷ []) behind)))
    where
      Later : Type 0
      Later = (e : TypeEntry) → Settles part (Some e) → has_name before e.name ≡ false → (answer : Answer) × TextSettles text answer

      with-entry : (e : TypeEntry) → Settles part (Some e) → (b : Bool) → has_name before e.name ≡ b → Later → (answer : Answer) × TextSettles text answer
      with-entry e settles true is later =
          let known : Fails Settles before part Twice = (e, settles, named before e is) in (
            fault_after before Twice,
            (fault text front part behind before Twice split each differ known, fault_only text front part behind before Twice split each differ known),
          )
      with-entry e settles false is later = later e settles is

      go : (read : Option TypeEntry) → Settles part read → Later → (answer : Answer) × TextSettles text answer
      go None settles later = (
        fault_after before BadEntry,
        (
          fault text front part behind before BadEntry split each differ settles,
          fault_only text front part behind before BadEntry split each differ settles,
        ),
      )
      go (Some e) settles later = with-entry e settles (has_name before e.name) refl later

  reading : (text : List ℕ) → (read : Answer) × TextSettles text read
  reading text = walk text [] [] (parts text) tt (λ i j d below within. absurd (omega (arith, below, within))) refl

  pub some-reading : (text : List ℕ) → (read : Answer) × Reads text read
  some-reading text = ((reading text).0, (reading text).1.0)

  pub one-reading : (text : List ℕ) (first second : Answer) → Reads text first → Reads text second → first ≡ second
  one-reading text first second is other = (reading text).1.1 first is ∙ sym ((reading text).1.1 second other)
