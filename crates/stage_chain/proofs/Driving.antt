-- What a whole chain gives and shows.
use Rattle.std.proofs.Common.{◌≡◌, ◌≤◌, ◌<◌, ◌+◌, ◌++◌, ◌==◌, ℕ, zero, suc, List, [], ◌∷◌, Option, None, Some, Bool, Result, Ok, Err, IfOk, OnOk, Vec}
use Rattle.std.proofs.Common.{if◌then◌else◌, refl, sym, ◌∙◌, ap, subst, arith, inl, inr}
use Rattle.std.specs.Global.{Global}
use Rattle.std.proofs.lemmas.Bool.Decides.{eqb_tells}
use Rattle.csv_model.specs.promise.Text.{table_text}
use Rattle.csv_model.specs.Text.{header_text, rows_text}
use Rattle.csv_write.specs.CsvTexts.{HasText}
use Rattle.csv_write.specs.declared.csv_text.CsvText.{CsvText}
use Rattle.data_types.specs.Parts.{joined_rows}
use Rattle.data_types.specs.promise.Table.{Column, Row}
use Rattle.stage_model.specs.promise.Links.{Link, Whole}
use Rattle.stage_model.specs.Links.{ChunksGiveTheWhole, last_columns}
use Rattle.data_types.specs.promise.Table.{Table}
use Rattle.stage_model.specs.promise.Stages.{chunks_after, table}
use Rattle.stage_model.specs.declared.stage.Step.{Step}
use Rattle.stage_model.specs.declared.stage.Step.TheVariants as steps
use Rattle.data_types.specs.declared.row_fault.RowFault.{RowFault}
use Rattle.stream_face.specs.Raw.{apart}
use Rattle.stream_face.proofs.Orders.{nil_part}
use Rattle.stage_model.specs.promise.Typing.{Stage}
use Rattle.stream_face.specs.promise.Calls.{Begins, IsMade}
use Rattle.stream_face.specs.promise.Shown.{Seen, Shown, of_link, rows_of_link, shown_tables}
use Rattle.stream_face.specs.promise.Streams.{Making}
use Rattle.stream_face.specs.Streams.{Stream}
use Rattle.stage_chain.specs.promise.Chains.{ShowsFirst, ShowsLinks, link_making, link_makings, link_shows, makings_behind}
use Rattle.stage_chain.specs.Chains.{chain_links, chunks_of, joints_with, last_rows, makings_with}
use Rattle.csv_write.specs.promise.Runs.{ShowsAll, ShowsSome}
use Rattle.csv_write.specs.declared.fault.DriveFault.{DriveFault}
use Rattle.stage_chain.proofs.Chaining.{IsStarted}

-- ---- what is shown

with-link : ℕ → (ℕ → List Shown) → Link → ℕ → List Shown
with-link n below link k = if n == k then shown_tables link.columns link.chunks else below k

-- links show nothing of the numbers below theirs
below-stays : (n : ℕ) (below : ℕ → List Shown) (links : List Link) (k : ℕ) → k < n → joints_with n below links k ≡ below k
below-stays n below [] k small = refl
below-stays n below (link ∷ links) k small =
    below-stays (n + 1) (λ j. if n == j then shown_tables link.columns link.chunks else below j) links k (omega (arith, small))
    ∙ elim (eqb_tells n k) [ inl h ↦ absurd (let e : n ≡ k = h.1 in omega (arith, e, small)) | inr h ↦ rw h.0 refl ]

pub joints-are : (n : ℕ) (below : ℕ → List Shown) (links : List Link) → ((j : ℕ) → n ≤ j → below j ≡ []) → (k : ℕ)
    → joints_with n below links (n + k) ≡ link_shows links k
joints-are n below [] none k = none (n + k) (omega arith)
joints-are n below (link ∷ links) none zero =
    below-stays (n + 1) (λ j. if n == j then shown_tables link.columns link.chunks else below j) links (n + 0) (omega arith)
    ∙ elim (eqb_tells n (n + 0)) [ inl h ↦ rw h.0 refl | inr h ↦ absurd (h.1 (omega arith)) ]
joints-are n below (link ∷ links) none (suc k) =
    let further : (j : ℕ) → n + 1 ≤ j → (if n == j then shown_tables link.columns link.chunks else below j) ≡ [] = λ j above.
    elim (eqb_tells n j) [ inl h ↦ absurd (let e : n ≡ j = h.1 in omega (arith, e, above)) | inr h ↦ rw h.0 (none j (omega (arith, above))) ] in
    let at : n + suc k ≡ (n + 1) + k = omega arith in
    ap (joints_with n below (link ∷ links)) at
    ∙ joints-are (n + 1) (λ j. if n == j then shown_tables link.columns link.chunks else below j) links further k

joints-from_0 : (below : ℕ → List Shown) (links : List Link) → ((j : ℕ) → below j ≡ []) → (k : ℕ) → joints_with 0 below links k ≡ link_shows links k
joints-from_0 below links none k = ap (joints_with 0 below links) (let e : k ≡ 0 + k = omega arith in e) ∙ joints-are 0 below links (λ j _. none j) k

-- ---- how links are made

-- of no link from this number on
abbrev IsBelow : ℕ → Option Making → Type 0
IsBelow number None = Unit {0}
IsBelow number (Some making) = making.link < number

apart-below : (number : ℕ) (x : Option Making) → IsBelow number x → apart number x ≡ x
apart-below number None below = refl
apart-below number (Some x) below =
    elim (eqb_tells number x.link) [ inl h ↦ absurd (let e : number ≡ x.link = h.1 in omega (arith, e, below)) | inr h ↦ rw h.0 refl ]

below-later : (number : ℕ) (x : Option Making) → IsBelow number x → IsBelow (number + 1) x
below-later number None below = tt
below-later number (Some x) below = omega (arith, below)

-- links change nothing of how those of the numbers below theirs are made
makings-stay : (ending : Option RowFault) (number : ℕ) (own : Option Making) (below : ℕ → Option Making) (links : List Link) (k : ℕ) → k < number
    → IsBelow number (below k) → makings_with ending number own below links k ≡ below k
makings-stay ending number own below [] k small under = refl
makings-stay ending number own below (link ∷ links) k small under =
    let here : apart number (if number == k then own else below k) ≡ below k
    = elim (eqb_tells number k) [
      | inl h ↦ absurd (let e : number ≡ k = h.1 in omega (arith, e, small))
      | inr h ↦ ap (λ (t : Bool). apart number (if t then own else below k)) h.0 ∙ apart-below number (below k) under
    ] in
    makings-stay ending (number + 1) (makings_behind ending number links 0) (λ j. apart number (if number == j then own else below j)) links k
    (omega (arith, small)) (subst (IsBelow (number + 1)) (sym here) (below-later number (below k) under)) ∙ here

making-below : (ending : Option RowFault) (before : ℕ) (maker : Option Step) → IsBelow (before + 1) (link_making ending before maker)
making-below ending before None = tt
making-below ending before (Some step) = omega arith

-- each link behind the first is made of the one before it
behind-made : (ending : Option RowFault) (number : ℕ) (own : Option Making) (below : ℕ → Option Making) (link : Link) (links : List Link) (k at : ℕ)
    (seen : List Seen) → IsMade (makings_with ending number own below (link ∷ links) (number + 1 + k)) at seen
    → IsMade (makings_behind ending number links k) at seen
behind-made ending number own below link [] k at seen made = tt
behind-made ending number own below link (next ∷ links) zero at seen made =
    let first = link_making ending number next.maker in
    let under = making-below ending number next.maker in
    let second = λ (j : ℕ). apart (number + 1) (if number + 1 == j then first else apart number (if number == j then own else below j)) in
    let here : second (number + 1 + 0) ≡ first
    = elim (eqb_tells (number + 1) (number + 1 + 0)) [
      | inl h ↦ ap (λ (t : Bool). apart (number + 1) (if t then first else apart number (if number == number + 1 + 0 then own else below (number + 1 + 0))))
          h.0 ∙ apart-below (number + 1) first under
      | inr h ↦ absurd (h.1 (omega arith))
    ] in
    subst (λ m. IsMade m at seen) (makings-stay ending (number + 1 + 1) (makings_behind ending (number + 1) links 0) second links (number + 1 + 0) (omega arith)
    (subst (IsBelow (number + 1 + 1)) (sym here) (below-later (number + 1) first under)) ∙ here) made
behind-made ending number own below link (next ∷ links) (suc k) at seen made =
    let place : number + 1 + suc k ≡ number + 1 + 1 + k = omega arith in
    behind-made ending (number + 1) (link_making ending number next.maker) (λ j. apart number (if number == j then own else below j)) next links k at seen
    (subst (λ j. IsMade (makings_with ending number own below (link ∷ next ∷ links) j) at seen) place made)

-- what totals give where a source ends well begins with what they give where it doesn't
begins-well : (step : Step) (ending : Option RowFault) (tables xs : List (List Row)) → Begins xs (chunks_after step ending tables)
    → Begins xs (chunks_after step None tables)
begins-well (steps.Select picks) ending tables xs begins = begins
begins-well (steps.Slice skip keep) ending tables xs begins = begins
begins-well (steps.Filter column test constant) ending tables xs begins = begins
begins-well (steps.Pack rest picks) ending tables xs begins = begins
begins-well (steps.Unpack place) ending tables xs begins = begins
begins-well (steps.Dict column) ending tables xs begins = begins
begins-well (steps.Plain column) ending tables xs begins = begins
begins-well (steps.Totals picks) None tables xs begins = begins
begins-well (steps.Totals picks) (Some fault) tables xs begins =
    let none : xs ≡ [] = nil_part xs begins.0 begins.1 in
    (chunks_after (steps.Totals picks) None tables, ap (λ l. l ++ chunks_after (steps.Totals picks) None tables) (sym none))

well-made : (ending : Option RowFault) (before : ℕ) (links : List Link) (k at : ℕ) (seen : List Seen)
    → IsMade (makings_behind ending before links k) at seen → IsMade (makings_behind None before links k) at seen
well-made ending before [] k at seen made = tt
well-made ending before (link ∷ links) zero at seen made = by-maker link.maker made
  where
    by-maker : (maker : Option Step) → IsMade (link_making ending before maker) at seen → IsMade (link_making None before maker) at seen
    by-maker None m = tt
    by-maker (Some step) m = begins-well step ending (rows_of_link before seen) (rows_of_link at seen) m
well-made ending before (link ∷ links) (suc k) at seen made = well-made ending (before + 1) links k at seen made

links-made : (ending : Option RowFault) (own : Option Making) (below : ℕ → Option Making) (links : List Link) (k at : ℕ) (seen : List Seen)
    → IsMade (makings_with ending 0 own below links k) at seen → IsMade (link_makings None links k) at seen
links-made ending own below [] k at seen made = tt
links-made ending own below (link ∷ links) zero at seen made = tt
links-made ending own below (link ∷ links) (suc k) at seen made =
    let place : suc k ≡ 0 + 1 + k = omega arith in
    well-made ending 0 links k at seen (behind-made ending 0 own below link links k at seen
    (subst (λ j. IsMade (makings_with ending 0 own below (link ∷ links) j) at seen) place made))

pub shows-all : (s : Stream) (stages left : List Stage) (before after : Option (List Seen)) → left ≡ stages → ((k : ℕ) → s.joints k ≡ [])
    → ShowsAll (joints_with 0 s.joints (chain_links s left)) (makings_with s.ending 0 s.making s.makings (chain_links s left)) before after → ShowsLinks (chain_links s stages) before after
shows-all s stages left before after same none shows = record {
  shown = shows.shown;
  told = shows.told;
  all = λ k. shows.all k ∙ ap (λ ss. joints_with 0 s.joints (chain_links s ss) k) same ∙ joints-from_0 s.joints (chain_links s stages) none k;
  in_order = λ first rest e k.
      links-made s.ending s.making s.makings (chain_links s stages) k k first
      (subst (λ ss. IsMade (makings_with s.ending 0 s.making s.makings (chain_links s ss) k) k first) same (shows.in_order first rest e k));
}

pub shows-some : (s : Stream) (stages left : List Stage) (before after : Option (List Seen)) → left ≡ stages → ((k : ℕ) → s.joints k ≡ [])
    → ShowsSome (joints_with 0 s.joints (chain_links s left)) (makings_with s.ending 0 s.making s.makings (chain_links s left)) before after → ShowsFirst (chain_links s stages) before after
shows-some s stages left before after same none shows = record {
  shown = shows.shown;
  told = shows.told;
  begins = λ k.
      subst (Begins (of_link k shows.shown))
      (ap (λ ss. joints_with 0 s.joints (chain_links s ss) k) same ∙ joints-from_0 s.joints (chain_links s stages) none k)
      (shows.begins k);
  in_order = λ first rest e k.
      links-made s.ending s.making s.makings (chain_links s stages) k k first
      (subst (λ ss. IsMade (makings_with s.ending 0 s.making s.makings (chain_links s ss) k) k first) same (shows.in_order first rest e k));
}

-- ---- the text

-- a text that gets these rows of these columns
abbrev GetsRows : Result (Vec ℕ Global) DriveFault → CsvText → List Column → List Row → Type 0
GetsRows r text columns rows =
    IfOk r (λ made. (m written : List ℕ) → HasText text m columns written → made.items ≡ written ++ rows_text m columns rows)

-- where no stage is left, the rows of the stream are the last ones
pub text-last : (r : Result (Vec ℕ Global) DriveFault) (stages : List Stage) (s up : Stream) (link nodes : ℕ) (text : CsvText) → stages ≡ []
    → IsStarted link nodes s up → GetsRows r text up.columns (joined_rows up.ahead)
    → GetsRows r text (last_columns s.columns stages) (last_rows s stages)
text-last r stages s up link nodes text none raw gives = rw none (subst (λ (m : Stream). GetsRows r text m.columns (joined_rows m.ahead)) raw gives)

pub text-is : (r : Result (Vec ℕ Global) DriveFault) (s : Stream) (stages left : List Stage) (text : CsvText) (mark : List ℕ)
    → left ≡ stages → ChunksGiveTheWhole
    → ((start : Table) (ss : List Stage) → (Whole start ss).columns ≡ last_columns start.columns ss)
    → HasText text mark (last_columns s.columns left) (header_text (last_columns s.columns left))
    → OnOk r (s.ending ≡ None)
    → IfOk r (λ made. (m written : List ℕ) → HasText text m (last_columns s.columns left) written
    → made.items ≡ written ++ rows_text m (last_columns s.columns left) (last_rows s left))
    → IfOk r (λ made. made.items ≡ table_text mark (Whole (table s.columns (joined_rows s.ahead)) stages))
text-is (Err e) s stages left text mark same rows columns has ends gives = tt
text-is (Ok made) s stages left text mark same rows columns has ends gives =
    let whole = Whole (table s.columns (joined_rows s.ahead)) left in
    let cols : whole.columns ≡ last_columns s.columns left = columns (table s.columns (joined_rows s.ahead)) left in
    let all : last_rows s left ≡ whole.rows = rows s.columns (chunks_of s) left ends in
    gives mark (header_text (last_columns s.columns left)) has
    ∙ ap (λ rs. header_text (last_columns s.columns left) ++ rows_text mark (last_columns s.columns left) rs) all
    ∙ ap (λ cs. header_text cs ++ rows_text mark cs whole.rows) (sym cols)
    ∙ ap (λ ss. table_text mark (Whole (table s.columns (joined_rows s.ahead)) ss)) same
