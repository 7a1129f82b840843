-- What the loop over the parts keeps.
use Rattle.std.proofs.Common.{◌≡◌, ◌≢◌, ◌∙◌, ◌<◌, ◌≤◌, ◌+◌, ◌||◌, ℕ, zero, suc, Bool, true, false, true≢false, List, [], ◌∷◌, ◌++◌, length, take, drop}
use Rattle.std.proofs.Common.{Option, Some, None, Ok, ap, sym, subst, refl, arith, drop-cons, option_map, not}
use Rattle.std.specs.Borrow.{Bor}
use Rattle.std.specs.List.{AllZip, list_any}
use Rattle.std.specs.List.Sorted.{IsPermutation}
use Rattle.std.specs.Prelude.{slice_index_or, All}
use Rattle.std.specs.Str.{bytes_eq}
use Rattle.std.specs.Bool.{MatchBool}
use Rattle.std.proofs.lemmas.List.{take_more, take_all, take-append-drop, map-append}
use Rattle.std.proofs.lemmas.List.Folds.{Any-from_list_any, list_any_at, list_any-append}
use Rattle.std.proofs.lemmas.List.Quantifiers.{all_pairs_push}
use Rattle.std.proofs.lemmas.List.Sorted.{list_any-IsPermutation}
use Rattle.std.proofs.lemmas.Slice.Eq.{bytes_eq-Decides}
use Rattle.stage_plan.specs.declared.types.TypeEntry.{TypeEntry}
use Rattle.stage_plan.specs.declared.fault.TypesRule.TheVariants.{BadEntry, Twice}
use Rattle.stage_plan.specs.Code.{entry_of}
use Rattle.stage_plan.specs.PlanWords.{has_text, texts}
use Rattle.stage_plan.specs.declared.types.Entry.{Entry}
use Rattle.data_types.specs.declared.kind.DataType.{DataType}
use Rattle.fmt_string.specs.promise.FormatString.{FormatIs}
use Rattle.data_types.specs.promise.Kinds.{is_column_type}
use Rattle.data_types.specs.Kinds.{KindOk}
use Rattle.stage_plan.specs.promise.Types.{parts, EntryIs, FirstFaultIs, NamesDiffer, Reads, TypesIs}
use Rattle.stage_plan.specs.Types.{EntryReads}
use Rattle.stage_plan.proofs.Walk.{Answer, Named, Settled, Settles, fault, fault_after, fault_only, whole, whole_only}

-- whether one of the names is this
abbrev pub has_name : List TypeEntry → List ℕ → Bool
has_name es name = list_any (λ e. bytes_eq name e.name) es

-- ---- what the calls say

pub settles_none : (part : List ℕ) (o : Option Entry) → EntryReads part (option_map entry_of o)
    → ((other : Option TypeEntry) → EntryReads part other → other ≡ option_map entry_of o) → o ≡ None → Settles part None
settles_none part o found only is = subst (λ (x : Option Entry). Settles part (option_map entry_of x)) is (found, only)

pub settles_some : (part : List ℕ) (o : Option Entry) (entry : Entry) → EntryReads part (option_map entry_of o)
    → ((other : Option TypeEntry) → EntryReads part other → other ≡ option_map entry_of o) → o ≡ Some entry → Settles part (Some (entry_of entry))
settles_some part o entry found only is = subst (λ (x : Option Entry). Settles part (option_map entry_of x)) is (found, only)

pub was_there : (added there : Bool) → added ≡ not there → added ≡ false → there ≡ true
was_there added true is old = refl
was_there added false is old = absurd (true≢false (sym is ∙ old))

pub was_new : (added there : Bool) → added ≡ not there → added ≡ true → there ≡ false
was_new added true is new = absurd (true≢false (sym new ∙ is))
was_new added false is new = refl

pub put_in : (A B : Type 0) (added : Bool) → MatchBool added A B → added ≡ true → A
put_in A B true put new = put
put_in A B false put new = absurd (true≢false (sym new))

-- the types of entries are of formats, which spell types that are
entries_valid : ((text : List ℕ) (kind : DataType) → FormatIs text kind → KindOk kind) → (ps : List (List ℕ)) (es : List TypeEntry)
    → AllZip EntryIs ps es → All (λ e. KindOk e.kind) es
entries_valid law [] [] each k d within = absurd (omega arith)
entries_valid law [] (e ∷ es) each k d within = absurd each
entries_valid law (p ∷ ps) [] each k d within = absurd each
entries_valid law (p ∷ ps) (e ∷ es) each zero d within = law each.0.0 e.kind each.0.2.0
entries_valid law (p ∷ ps) (e ∷ es) each (suc k) d within = entries_valid law ps es each.1 k d (omega arith)

pub kinds_valid : ((text : List ℕ) (kind : DataType) → FormatIs text kind → KindOk kind) → (text : List ℕ) (es : List TypeEntry)
    → TypesIs text es → All (λ e. KindOk e.kind) es
kinds_valid law text es is = entries_valid law (parts text) es is.each

-- and those of a column
columns_of : (ps : List (List ℕ)) (es : List TypeEntry) → AllZip EntryIs ps es → All (λ e. is_column_type e.kind ≡ true) es
columns_of [] [] each k d within = absurd (omega arith)
columns_of [] (e ∷ es) each k d within = absurd each
columns_of (p ∷ ps) [] each k d within = absurd each
columns_of (p ∷ ps) (e ∷ es) each zero d within = each.0.2.1
columns_of (p ∷ ps) (e ∷ es) each (suc k) d within = columns_of ps es each.1 k d (omega arith)

pub kinds_of_columns : (text : List ℕ) (es : List TypeEntry) → TypesIs text es → All (λ e. is_column_type e.kind ≡ true) es
kinds_of_columns text es is = columns_of (parts text) es is.each

-- ---- what is kept

pub record ReadSoFar (items : List (Bor (List ℕ))) (i : ℕ) (keys : List (Bor (List ℕ))) (es : List TypeEntry) : Type 0 where
  pub each : Settled (texts (take i items)) es
  pub differ : NamesDiffer es
  pub knows : (name : List ℕ) → has_text keys name ≡ has_name es name

pub at_start : (items keys : List (Bor (List ℕ))) (es : List TypeEntry) → keys ≡ [] → es ≡ [] → ReadSoFar items 0 keys es
at_start items keys es no_keys none =
    rw (no_keys, none) (record { each = tt; differ = λ i j d below within. absurd (omega arith); knows = λ name. refl })

pub named : (es : List TypeEntry) (e : TypeEntry) → has_name es e.name ≡ true → Named es e
named es e has =
    let (k, x, within, at, same) = Any-from_list_any (λ x. bytes_eq e.name x.name) es has in
    (k, x, within, at, sym ((bytes_eq-Decides e.name x.name).0 same))

pub new_name : (es : List TypeEntry) (e : TypeEntry) → has_name es e.name ≡ false → (k : ℕ) (d : TypeEntry) → k < length es
    → (slice_index_or es k d).name ≢ e.name
new_name es e none k d within same =
    let is : bytes_eq e.name (slice_index_or es k d).name ≡ true = (bytes_eq-Decides e.name (slice_index_or es k d).name).1 (sym same) in
    true≢false (sym (list_any_at (λ x. bytes_eq e.name x.name) es k d within is) ∙ none)

-- ---- one entry more
-- one entry more
pub push_settled : (part : List ℕ) (e : TypeEntry) (ps : List (List ℕ)) (fs : List TypeEntry) → Settled ps fs → Settles part (Some e)
    → Settled (ps ++ part ∷ []) (fs ++ e ∷ [])
push_settled part e [] [] each s = (s, tt)
push_settled part e [] (f ∷ fs) each s = absurd each
push_settled part e (p ∷ ps) [] each s = absurd each
push_settled part e (p ∷ ps) (f ∷ fs) each s = (each.0, push_settled part e ps fs each.1 s)

swap : (a b : Bool) → (a || b) ≡ (b || (a || false))
swap true true = refl
swap true false = refl
swap false true = refl
swap false false = refl

module _ (items : List (Bor (List ℕ))) (i : ℕ) (keys : List (Bor (List ℕ))) (es : List TypeEntry) (far : ReadSoFar items i keys es) where
  module _ (d : Bor (List ℕ)) (within : i < length items) where
    abbrev part : List ℕ
    part = (slice_index_or items i d).now

    pub one_more : (after : List (Bor (List ℕ))) (key : Bor (List ℕ)) (e : TypeEntry) → Settles part (Some e) → e.name ≡ key.now → has_text keys key.now ≡ false
        → IsPermutation (key ∷ keys) after → ReadSoFar items (i + 1) after (es ++ e ∷ [])
    one_more after key e settles name new puts =
        let none : has_name es e.name ≡ false = sym (far.knows e.name) ∙ ap (has_text keys) name ∙ new in
        let longer : texts (take (i + 1) items) ≡ texts (take i items) ++ part ∷ [] =
        ap texts (take_more items i d within) ∙ map-append (λ p. p.now) (take i items) (slice_index_or items i d ∷ []) in
        record {
          each = subst (λ (l : List (List ℕ)). Settled l (es ++ e ∷ [])) (sym longer) (push_settled part e (texts (take i items)) es far.each settles);
          differ = all_pairs_push (λ a b. a.name ≢ b.name) es e far.differ (new_name es e none);
          knows = λ n.
              sym (list_any-IsPermutation (λ k. bytes_eq n k.now) (key ∷ keys) after puts)
              ∙ ap (λ (b : Bool). bytes_eq n key.now || b) (far.knows n)
              ∙ ap (λ (l : List ℕ). bytes_eq n l || has_name es n) (sym name)
              ∙ swap (bytes_eq n e.name) (has_name es n)
              ∙ sym (list_any-append (λ x. bytes_eq n x.name) es (e ∷ []));
        }

    module _ (text : List ℕ) (all : texts items ≡ parts text) where
      abbrev behind : List (List ℕ)
      behind = texts (drop (suc i) items)

      split : parts text ≡ texts (take i items) ++ part ∷ behind
      split =
          sym all ∙ ap texts (sym (take-append-drop i items)) ∙ map-append (λ p. p.now) (take i items) (drop i items)
          ∙ ap (λ (l : List (Bor (List ℕ))). texts (take i items) ++ texts l) (drop-cons items i d within)

      pub bad : Settles part None → FirstFaultIs text (length es + 1) BadEntry
      bad settles = fault text (texts (take i items)) part behind es BadEntry split far.each far.differ settles

      pub bad_only : Settles part None → (read : Answer) → Reads text read → read ≡ fault_after es BadEntry
      bad_only settles = fault_only text (texts (take i items)) part behind es BadEntry split far.each far.differ settles

      module _ (key : Bor (List ℕ)) (e : TypeEntry) (settles : Settles part (Some e)) (name : e.name ≡ key.now) (old : has_text keys key.now ≡ true) where
        is_named : Named es e
        is_named = named es e (sym (far.knows e.name) ∙ ap (has_text keys) name ∙ old)

        pub twice : FirstFaultIs text (length es + 1) Twice
        twice = fault text (texts (take i items)) part behind es Twice split far.each far.differ (e, settles, is_named)

        pub twice_only : (read : Answer) → Reads text read → read ≡ fault_after es Twice
        twice_only = fault_only text (texts (take i items)) part behind es Twice split far.each far.differ (e, settles, is_named)

  module _ (long : length items ≤ i) (text : List ℕ) (all : texts items ≡ parts text) where
    each_part : Settled (parts text) es
    each_part = subst (λ (l : List (List ℕ)). Settled l es) (ap texts (take_all i items long) ∙ all) far.each

    pub done : TypesIs text es
    done = whole text es each_part far.differ

    pub done_only : (read : Answer) → Reads text read → read ≡ Ok es
    done_only = whole_only text es each_part far.differ
