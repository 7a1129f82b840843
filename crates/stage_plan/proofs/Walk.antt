-- The parts one after another, and the one answer that they have.
use Rattle.std.proofs.Common.{◌≡◌, ◌∙◌, ◌⊎◌, ◌+◌, ℕ, List, [], ◌∷◌, ◌++◌, length, Option, Some, None, Result, Ok, Err, ap, sym, subst, refl, arith, inl, inr}
use Rattle.std.proofs.Common.{length-append, append_assoc}
use Rattle.std.specs.List.{AllZip, Any}
use Rattle.std.proofs.lemmas.List.{append-nil, get_or_append_left}
use Rattle.std.specs.Prelude.{slice_index_or}
use Rattle.stage_plan.specs.declared.types.TypeEntry.{TypeEntry}
use Rattle.stage_plan.specs.declared.fault.TypesRule.{TypesRule}
use Rattle.stage_plan.specs.declared.fault.TypesRule.TheVariants.{BadEntry, Twice}
use Rattle.stage_plan.specs.declared.fault.TypesFault.{TypesFault}
use Rattle.stage_plan.specs.declared.fault.TypesFault.TheVariants.{At, NoMemory}
use Rattle.stage_plan.specs.promise.Types.{parts, EntryIs, FirstFaultIs, NamesDiffer, PartFails, Reads, TypesIs}
use Rattle.stage_plan.specs.Types.{EntryReads}

abbrev pub Answer : Type 0
Answer = Result (List TypeEntry) TypesFault

abbrev pub Named : List TypeEntry → TypeEntry → Type 0
Named seen e = Any (λ x. x.name ≡ e.name) seen

abbrev pub fault_after : List TypeEntry → TypesRule → Answer
fault_after seen rule = Err (At (length seen + 1) rule)

-- behind entries with names of their own, a name differs from those before
not_named : (seen : List TypeEntry) (e : TypeEntry) (more : List TypeEntry) → NamesDiffer (seen ++ e ∷ more) → Named seen e → ⊥
not_named seen e more differ (k, x, within, at, same) =
    let here : slice_index_or (seen ++ e ∷ more) k x ≡ x = get_or_append_left seen (e ∷ more) x k within ∙ at in
    let there : slice_index_or (seen ++ e ∷ more) (length seen) x ≡ e = at_seam seen in
    differ k (length seen) x within (omega (arith, length-append seen (e ∷ more)))
    (ap (λ (y : TypeEntry). y.name) here ∙ same ∙ sym (ap (λ (y : TypeEntry). y.name) there))
  where
    at_seam : (s : List TypeEntry) → slice_index_or (s ++ e ∷ more) (length s) x ≡ e
    at_seam [] = refl
    at_seam (y ∷ s) = at_seam s

-- ---- the parts, one after another
module _ (E : List ℕ → Option TypeEntry → Type 0) where
  -- what the parts read as, behind the entries seen
  pub Walks : List TypeEntry → List (List ℕ) → Answer → Type 0
  Walks seen [] (Ok entries) = entries ≡ seen
  Walks seen [] (Err fault) = ⊥
  Walks seen (p ∷ ps) read =
      (E p None × (read ≡ fault_after seen BadEntry))
      ⊎ ((e : TypeEntry) × E p (Some e) × Named seen e × (read ≡ fault_after seen Twice))
      ⊎ ((e : TypeEntry) × E p (Some e) × (Named seen e → ⊥) × Walks (seen ++ e ∷ []) ps read)

  abbrev pub Fails : List TypeEntry → List ℕ → TypesRule → Type 0
  Fails before part BadEntry = E part None
  Fails before part Twice = (e : TypeEntry) × E part (Some e) × Named before e

  pub walks_whole : (ps : List (List ℕ)) (es seen : List TypeEntry) → AllZip (λ p e. E p (Some e)) ps es → NamesDiffer (seen ++ es)
      → Walks seen ps (Ok (seen ++ es))
  unfolding Walks
  walks_whole [] [] seen each differ = append-nil seen
  walks_whole [] (e ∷ es) seen each differ = absurd each
  walks_whole (p ∷ ps) [] seen each differ = absurd each
  walks_whole (p ∷ ps) (e ∷ es) seen each differ =
      let regroup : (seen ++ e ∷ []) ++ es ≡ seen ++ e ∷ es = append_assoc seen (e ∷ []) es in
      inr (inr (
        e,
        each.0,
        not_named seen e es differ,
        subst (λ (l : List TypeEntry). Walks (seen ++ e ∷ []) ps (Ok l)) regroup
            (walks_whole ps es (seen ++ e ∷ []) each.1 (subst NamesDiffer (sym regroup) differ)),
      ))

  pub walks_fault : (front : List (List ℕ)) (before seen : List TypeEntry) (part : List ℕ) (behind : List (List ℕ)) (rule : TypesRule)
      → AllZip (λ p e. E p (Some e)) front before → NamesDiffer (seen ++ before) → Fails (seen ++ before) part rule
      → Walks seen (front ++ part ∷ behind) (fault_after (seen ++ before) rule)
  unfolding Walks
  walks_fault [] [] seen part behind BadEntry each differ fails = inl (fails, ap (λ (l : List TypeEntry). fault_after l BadEntry) (append-nil seen))
  walks_fault [] [] seen part behind Twice each differ (e, is, named) =
      inr (inl (e, is, subst (λ (l : List TypeEntry). Named l e) (append-nil seen) named, ap (λ (l : List TypeEntry). fault_after l Twice) (append-nil seen)))
  walks_fault [] (e ∷ es) seen part behind rule each differ fails = absurd each
  walks_fault (p ∷ ps) [] seen part behind rule each differ fails = absurd each
  walks_fault (p ∷ ps) (e ∷ es) seen part behind rule each differ fails =
      let regroup : (seen ++ e ∷ []) ++ es ≡ seen ++ e ∷ es = append_assoc seen (e ∷ []) es in
      inr (inr (
        e,
        each.0,
        not_named seen e es differ,
        subst (λ (l : List TypeEntry). Walks (seen ++ e ∷ []) (ps ++ part ∷ behind) (fault_after l rule)) regroup
            (walks_fault ps es (seen ++ e ∷ []) part behind rule each.1 (subst NamesDiffer (sym regroup) differ)
            (subst (λ (l : List TypeEntry). Fails l part rule) (sym regroup) fails)),
      ))

-- ---- each part reads as one thing
-- the reading of a part, which has no other
abbrev pub Settles : List ℕ → Option TypeEntry → Type 0
Settles part read = EntryReads part read × ((other : Option TypeEntry) → EntryReads part other → other ≡ read)

agree : (ps : List (List ℕ)) (seen : List TypeEntry) (r s : Answer) → Walks Settles seen ps r → Walks EntryReads seen ps s → s ≡ r
unfolding Walks
agree [] seen (Ok es) (Ok fs) w v = ap (λ (l : List TypeEntry). Ok l) (v ∙ sym w)
agree [] seen (Ok es) (Err f) w v = absurd v
agree [] seen (Err f) s w v = absurd w
agree (p ∷ ps) seen r s (inl (is, at)) (inl (has, there)) = there ∙ sym at
agree (p ∷ ps) seen r s (inl (is, at)) (inr (inl (e, has, named, there))) = let no : Some e ≡ None = is.1 (Some e) has in cc
agree (p ∷ ps) seen r s (inl (is, at)) (inr (inr (e, has, new, rest))) = let no : Some e ≡ None = is.1 (Some e) has in cc
agree (p ∷ ps) seen r s (inr (inl (d, is, known, at))) (inl (has, there)) = let no : None ≡ Some d = is.1 None has in cc
agree (p ∷ ps) seen r s (inr (inl (d, is, known, at))) (inr (inl (e, has, named, there))) = there ∙ sym at
agree (p ∷ ps) seen r s (inr (inl (d, is, known, at))) (inr (inr (e, has, new, rest))) =
    let same : e ≡ d = (let some : Some e ≡ Some d = is.1 (Some e) has in cc) in
    absurd (new (subst (Named seen) (sym same) known))
agree (p ∷ ps) seen r s (inr (inr (d, is, fresh, walk))) (inl (has, there)) = let no : None ≡ Some d = is.1 None has in cc
agree (p ∷ ps) seen r s (inr (inr (d, is, fresh, walk))) (inr (inl (e, has, named, there))) =
    let same : e ≡ d = (let some : Some e ≡ Some d = is.1 (Some e) has in cc) in
    absurd (fresh (subst (Named seen) same named))
agree (p ∷ ps) seen r s (inr (inr (d, is, fresh, walk))) (inr (inr (e, has, new, rest))) =
    let same : e ≡ d = (let some : Some e ≡ Some d = is.1 (Some e) has in cc) in
    agree ps (seen ++ d ∷ []) r s walk (subst (λ (x : TypeEntry). Walks EntryReads (seen ++ x ∷ []) ps s) same rest)

reads_walk : (text : List ℕ) (read : Answer) → Reads text read → Walks EntryReads [] (parts text) read
reads_walk text (Ok es) is = walks_whole EntryReads (parts text) es [] is.each is.differ
reads_walk text (Err (At number BadEntry)) is =
    subst (λ (n : ℕ). Walks EntryReads [] (parts text) (Err (At n BadEntry))) (sym is.counted)
    (subst (λ (l : List (List ℕ)). Walks EntryReads [] l (fault_after is.before BadEntry)) (sym is.split)
    (walks_fault EntryReads is.front is.before [] is.part is.behind BadEntry is.each is.differ is.fails))
reads_walk text (Err (At number Twice)) is =
    subst (λ (n : ℕ). Walks EntryReads [] (parts text) (Err (At n Twice))) (sym is.counted)
    (subst (λ (l : List (List ℕ)). Walks EntryReads [] l (fault_after is.before Twice)) (sym is.split)
    (walks_fault EntryReads is.front is.before [] is.part is.behind Twice is.each is.differ is.fails))
reads_walk text (Err NoMemory) is = absurd is

-- ---- parts that settle

abbrev pub Settled : List (List ℕ) → List TypeEntry → Type 0
Settled = AllZip (λ p e. Settles p (Some e))

are_entries : (ps : List (List ℕ)) (es : List TypeEntry) → Settled ps es → AllZip EntryIs ps es
are_entries [] [] each = tt
are_entries [] (e ∷ es) each = absurd each
are_entries (p ∷ ps) [] each = absurd each
are_entries (p ∷ ps) (e ∷ es) each = (each.0.0, are_entries ps es each.1)

part_fails : (before : List TypeEntry) (part : List ℕ) (rule : TypesRule) → Fails Settles before part rule → PartFails before part rule
part_fails before part BadEntry fails = fails.0
part_fails before part Twice (e, is, named) = (e, is.0, named)

module _ (text : List ℕ) where
  pub whole : (es : List TypeEntry) → Settled (parts text) es → NamesDiffer es → TypesIs text es
  whole es each differ = record { each = are_entries (parts text) es each; differ = differ }

  pub whole_only : (es : List TypeEntry) → Settled (parts text) es → NamesDiffer es → (read : Answer) → Reads text read → read ≡ Ok es
  whole_only es each differ read is = agree (parts text) [] (Ok es) read (walks_whole Settles (parts text) es [] each differ) (reads_walk text read is)

  module _ (front : List (List ℕ)) (part : List ℕ) (behind : List (List ℕ)) (before : List TypeEntry) (rule : TypesRule)
      (split : parts text ≡ front ++ part ∷ behind) (each : Settled front before) (differ : NamesDiffer before) (fails : Fails Settles before part rule) where
    pub fault : FirstFaultIs text (length before + 1) rule
    fault = record {
      front = front;
      part = part;
      behind = behind;
      before = before;
      split = split;
      each = are_entries front before each;
      differ = differ;
      counted = refl;
      fails = part_fails before part rule fails;
    }

    pub fault_only : (read : Answer) → Reads text read → read ≡ fault_after before rule
    fault_only read is =
        agree (front ++ part ∷ behind) [] (fault_after before rule) read (walks_fault Settles front before [] part behind rule each differ fails)
        (subst (λ (l : List (List ℕ)). Walks EntryReads [] l read) split (reads_walk text read is))
