-- A round, item by item, and what is known once it is joined.
use Rattle.std.proofs.Common.{◌≡◌, ℕ, ◌+◌, ◌≤◌, List, [], ◌∷◌, ◌++◌, length, length-append, append_assoc, append-nil, arith, drop, refl, sym, ap, subst, ◌∙◌}
use Rattle.std.proofs.Math.Seq.{drop-append_seam}
use Rattle.std.proofs.lemmas.List.{append_cancel_left}
use mathlib.Core.List.{IsPrefix}
use Rattle.ahead_ring.specs.Coming.{GotOf, IsRound, SentOf}
use Rattle.ahead_ring.specs.declared.round.Ending.{Ending}
use Rattle.ahead_ring.specs.declared.round.Ending.TheVariants as ending

module _ {I : Type 0} {ran : Type 0} where
  -- ---- item by item

  pub round_none : (coming sent : List I) → IsRound ran 0 ending.Full coming sent coming sent
  round_none coming sent =
      record { pushed = []; left = coming; from = refl; goes = sym (append-nil sent); few = omega arith; ends = (refl, refl) }

  -- an item more
  pub round_more : (n : ℕ) (coming sent before after sent' : List I) (x : I) → IsRound ran n ending.Full coming sent before sent' → before ≡ x ∷ after
      → (next : List I) → next ≡ sent' ++ x ∷ [] → IsRound ran (n + 1) ending.Full coming sent after next
  round_more n coming sent before after sent' x r is next pushes = record {
    pushed = r.pushed ++ x ∷ [];
    left = after;
    from = r.from ∙ ap (λ (l : List I). r.pushed ++ l) (r.ends.1 ∙ is) ∙ sym (append_assoc r.pushed (x ∷ []) after);
    goes = pushes ∙ ap (λ (l : List I). l ++ x ∷ []) r.goes ∙ append_assoc sent r.pushed (x ∷ []);
    few = omega (arith, length-append r.pushed (x ∷ []), r.few);
    ends = (omega (arith, length-append r.pushed (x ∷ []), r.ends.0), refl);
  }

  -- none was left
  pub round_done : (n most : ℕ) (coming sent before sent' after : List I) → IsRound ran n ending.Full coming sent before sent' → n ≤ most → before ≡ []
      → IsRound ran most ending.Done coming sent after sent'
  round_done n most coming sent before sent' after r less none =
      record { pushed = r.pushed; left = r.left; from = r.from; goes = r.goes; few = omega (arith, r.few, less); ends = r.ends.1 ∙ none }

  -- memory ran out
  pub round_refused : (n most : ℕ) (coming sent before sent' after : List I) → IsRound ran n ending.Full coming sent before sent' → n ≤ most → ran
      → IsRound ran most ending.NoMemory coming sent after sent'
  round_refused n most coming sent before sent' after r less refused =
      record { pushed = r.pushed; left = r.left; from = r.from; goes = r.goes; few = omega (arith, r.few, less); ends = refused }

  -- ---- joined

  -- where all that was sent before a round was received, what is known behind a full round is the round
  pub full_known : (n : ℕ) (e : Ending) (coming sent after sent' before none got known : List I) → IsRound ran n e coming sent after sent' → sent ≡ before ++ none
      → none ≡ [] → got ≡ before → sent' ≡ got ++ known → e ≡ ending.Full → length known ≡ n
  full_known n e coming sent after sent' before none got known r beside empty same fifo full =
      let all : got ≡ sent = same ∙ sym (beside ∙ ap (λ (l : List I). before ++ l) empty ∙ append-nil before) in
      let is : known ≡ r.pushed = append_cancel_left sent known r.pushed (ap (λ (l : List I). l ++ known) (sym all) ∙ sym fifo ∙ r.goes) in
      let r' : IsRound ran n ending.Full coming sent after sent' = subst (λ (w : Ending). IsRound ran n w coming sent after sent') full r in
      ap (λ (l : List I). length l) is ∙ full-length n e coming sent after sent' r full
    where
      full-length : (n : ℕ) (e : Ending) (coming sent after sent' : List I) (r : IsRound ran n e coming sent after sent') → e ≡ ending.Full → length r.pushed ≡ n
      full-length n ending.Full coming sent after sent' r full = r.ends.0
      full-length n ending.Done coming sent after sent' r full = cc
      full-length n ending.NoMemory coming sent after sent' r full = cc

  -- a round goes on with what is to come
  pub sent_on : (n : ℕ) (e : Ending) (all coming sent after sent' : List I) → IsRound ran n e coming sent after sent' → all ≡ sent ++ coming → SentOf ran e all sent' after
  sent_on n ending.Full all coming sent after sent' r whole =
      whole ∙ ap (λ (l : List I). sent ++ l) (r.from ∙ ap (λ (l : List I). r.pushed ++ l) r.ends.1) ∙ sym (append_assoc sent r.pushed after)
      ∙ ap (λ (l : List I). l ++ after) (sym r.goes)
  sent_on n ending.Done all coming sent after sent' r whole =
      whole ∙ ap (λ (l : List I). sent ++ l) (r.from ∙ ap (λ (l : List I). r.pushed ++ l) r.ends ∙ append-nil r.pushed) ∙ sym r.goes
  sent_on n ending.NoMemory all coming sent after sent' r whole = (
    r.ends,
    (r.left, ap (λ (l : List I). l ++ r.left) r.goes ∙ append_assoc sent r.pushed r.left ∙ sym (whole ∙ ap (λ (l : List I). sent ++ l) r.from)),
  )

  -- as many are known as before a round, or more
  pub knows_more : (n : ℕ) (e : Ending) (coming sent after sent' got known known' : List I) → IsRound ran n e coming sent after sent' → sent ≡ got ++ known
      → got ++ known' ≡ sent' → length known ≤ length known'
  knows_more n e coming sent after sent' got known known' r beside fifo =
      let is : known' ≡ known ++ r.pushed =
      append_cancel_left got known' (known ++ r.pushed) (fifo ∙ r.goes ∙ ap (λ (l : List I). l ++ r.pushed) beside ∙ append_assoc got known r.pushed) in
      omega (arith, ap (λ (l : List I). length l) is, length-append known r.pushed)

module _ {I : Type 0} (ran : Type 0) where
  -- what was sent begins all that there is
  pub sent_prefix : (e : Ending) (all sent coming : List I) → SentOf ran e all sent coming → IsPrefix sent all
  sent_prefix ending.Full all sent coming is = (coming, sym is)
  sent_prefix ending.Done all sent coming is = ([], append-nil sent ∙ sym is)
  sent_prefix ending.NoMemory all sent coming is = is.1

  pub got_of : (e : Ending) (all sent coming got : List I) → SentOf ran e all sent coming → sent ≡ got → GotOf ran e all got
  got_of ending.Full all sent coming got is same = tt
  got_of ending.Done all sent coming got is same = is ∙ same
  got_of ending.NoMemory all sent coming got is same = is.0

-- ---- taken

module _ {I : Type 0} where
  -- an item that is taken is the first of those that are to come, which leaves them
  pub taken : (all before got got' known known' : List I) (x : I) → IsPrefix (got ++ known) all → got ≡ before → known ≡ x ∷ known' → got' ≡ got ++ x ∷ []
      → drop (length before) all ≡ x ∷ drop (length got') all
  taken all before got got' known known' x begins same first next =
      let rest = known' ++ begins.0 in
      let here : all ≡ got ++ x ∷ rest =
      sym begins.1 ∙ ap (λ (l : List I). (got ++ l) ++ begins.0) first ∙ append_assoc got (x ∷ known') begins.0 in
      let behind : all ≡ got' ++ rest = here ∙ sym (append_assoc got (x ∷ []) rest) ∙ ap (λ (l : List I). l ++ rest) (sym next) in
      let old : drop (length got) all ≡ x ∷ rest = ap (λ (l : List I). drop (length got) l) here ∙ drop-append_seam got (x ∷ rest) in
      let new : drop (length got') all ≡ rest = ap (λ (l : List I). drop (length got') l) behind ∙ drop-append_seam got' rest in
      ap (λ (l : List I). drop (length l) all) (sym same) ∙ old ∙ ap (λ (l : List I). x ∷ l) (sym new)
