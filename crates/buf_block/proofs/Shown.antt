-- A block shows a state of the machine of holders, and its steps are the machine's.
use Rattle.std.proofs.Common.{◌≡◌, ◌≢◌, ℕ, zero, suc, ◌-◌, ◌<◌, ◌≤◌, ◌==◌, Bool, true, false, true≢false, Some, None, List, [], ◌∷◌, ◌++◌, set, get_or, length}
use Rattle.std.proofs.Common.{sum, inl, refl, sym, ap, ◌∙◌, subst, arith, rules, eq-eqb, ne_eqb}
use Rattle.std.specs.Prelude.{nat_lt, MatchBool, if◌then◌else◌, slice_index}
use mathlib.Core.Logic.{dite}
use mathlib.Core.List.{map-append}
use Rattle.std.proofs.lemmas.List.{map-set, set-append_left}
use mathlib.Core.Option.{some, some-injective, some-ne-none}
use native.Mathlib.Decide.{ℕ_discrete}
use lib.ListN.{get_elem?}
use Rattle.atomic_table.specs.Table.{State, stepped, carried_after}
use Rattle.holder_core.specs.HolderMachine.{Holders, amount_of, is_due, after_split}
use Rattle.holder_core.specs.declared.Deed.{Deed}
use Rattle.holder_core.specs.declared.Deed.TheVariants.{Home, Due, Gone}
use Rattle.holder_core.specs.declared.Reply.TheVariants.{NewHolder, Kept, Last, Bytes}
use Rattle.holder_core.specs.declared.Reply.TheVariants as reply
use Rattle.buf_block.specs.declared.rule.HolderView.{HolderView}
use Rattle.buf_block.specs.Block.{holding, done, amounts_of, total, SlotState, slot_at, slot_with_deed, slot_without_deed, IsBlock, Back}
use Rattle.buf_block.specs.BlockView.{Hands, empty_hands, hands_with, WasLast, Shows, HoldsAt, first_state, split_at, less_by, ShowsOk, ShowsOne, MadeWhole}
use Rattle.buf_block.specs.BlockView.{SplitIsTheTables, SplitIsStep, LetGoIsStep, ExchangeIsStep, ReadIsStep}
use Rattle.buf_block.proofs.Keeps.{begins, splits, total-set, amount_within, same_test}

-- ---- amounts

amount_at : (views : List HolderView) (seat : ℕ) (g : HolderView) → get_elem? views seat ≡ some g
    → (get_or (amounts_of views) seat 0 ≡ g.amount) × (seat < length (amounts_of views))
amount_at [] seat g e = absurd (some-ne-none g (sym e))
amount_at (x ∷ xs) zero g e = (ap (λ (v : HolderView). v.amount) (some-injective x g e), omega arith)
amount_at (x ∷ xs) (suc seat) g e = let r = amount_at xs seat g e in (r.0, let l = r.1 in omega arith)

there : (views : List HolderView) (seat : ℕ) (g w : HolderView) → get_elem? views seat ≡ some g → get_elem? (set views seat w) seat ≡ some w
there [] seat g w e = absurd (some-ne-none g (sym e))
there (x ∷ xs) zero g w e = refl
there (x ∷ xs) (suc seat) g w e = there xs seat g w e

-- ---- where the deed is

pub away : slot_at true ≡ slot_at false → ⊥
away e = absurd (cc)

home_is_not_due : (d : Deed) (seat : ℕ) → d ≡ Home → d ≡ Due seat → ⊥
home_is_not_due d seat home due = let e : Home ≡ Due seat = sym home ∙ due in absurd (cc)

home_is_not_gone : (d : Deed) → d ≡ Home → d ≡ Gone → ⊥
home_is_not_gone d home gone = let e : Home ≡ Gone = sym home ∙ gone in absurd (cc)

due_is_not_gone : (d : Deed) (seat : ℕ) → d ≡ Due seat → d ≡ Gone → ⊥
due_is_not_gone d seat due gone = let e : Due seat ≡ Gone = sym due ∙ gone in absurd (cc)

same_seat : (seat other : ℕ) → Due seat ≡ Due other → seat ≡ other
same_seat seat other e = cc

abbrev IsFull : SlotState → Type 0
IsFull None = ⊥
IsFull (Some deed) = Unit {0}

abbrev IsFirstFull : List (ℕ × SlotState) → Type 0
IsFirstFull [] = ⊥
IsFirstFull (slot ∷ slots) = IsFull slot.1

taken_out : slot_with_deed ≡ slot_without_deed → ⊥
taken_out e = subst IsFirstFull e tt

one_was_last : (s : State SlotState HolderView) → IsBlock s → (seat other : ℕ) → WasLast s.views seat → WasLast s.views other → other ≡ seat
one_was_last s r seat other l m = r.once other seat m.0 l.0 m.1 l.1 m.2 l.2

hands_here : (hands : Hands) (seat : ℕ) (slots : List (ℕ × SlotState)) → hands_with hands seat slots seat ≡ slots
hands_here hands seat slots = ap (λ (b : Bool). if b then slots else hands seat) (eq-eqb seat seat refl)

-- a block that has some amount
module _ (s : State SlotState HolderView) (r : IsBlock s) (more : 1 ≤ total s.views) where
  at_home : s.homes ≡ slot_at false
  at_home = r.slot ∙ ap slot_at (ne_eqb (total s.views) 0 (λ e. omega arith))

  none_was_last : (seat : ℕ) → WasLast s.views seat → ⊥
  none_was_last seat l = let none_left = r.last seat l.0 l.1 l.2 in omega arith

  -- it shows a state whose deed is at home
  shows_home : (hands : Hands) (h : Holders) → h.amounts ≡ amounts_of s.views → h.deed ≡ Home → Shows s hands h
  shows_home hands h same home = record {
    amounts = same;
    home = ((λ _. at_home), (λ _. home));
    due = λ seat. (
      (λ due. absurd (home_is_not_due h.deed seat home due)),
      (λ (l : WasLast s.views seat × (hands seat ≡ slot_with_deed)). absurd (none_was_last seat l.0)),
    );
    gone = (
      (λ gone. absurd (home_is_not_gone h.deed home gone)),
      (λ (l : (seat : ℕ) × WasLast s.views seat × (hands seat ≡ slot_without_deed)). absurd (none_was_last l.0 l.1)),
    );
  }

-- ---- a block between two steps

pub shows_ok : ShowsOk
shows_ok s hands h r sh =
    let sum_is : sum h.amounts ≡ total s.views = ap sum sh.amounts in
    let most = r.bound in
    record {
      home = (
        (λ home. dite (ℕ_discrete (total s.views) 0) (λ e. absurd (away (ap slot_at (sym (eq-eqb (total s.views) 0 e)) ∙ sym r.slot ∙ sh.home.0 home)))
            (λ (ne : total s.views ≢ 0). let more : total s.views ≢ 0 = ne in omega arith)),
        (λ more. sh.home.1 (at_home s r (omega arith))),
      );
      due = λ last is. let d = ((sh.due last).0 is).0 in subst (λ (l : List ℕ). last < length l) (sym sh.amounts) (amount_at s.views last d.0 d.1).1;
      bound = omega arith;
    }

same_deed : (s : State SlotState HolderView) (hands : Hands) (h k : Holders) → Shows s hands h → Shows s hands k → (d : Deed) → h.deed ≡ d → k.deed ≡ d
same_deed s hands h k a b Home e = b.home.1 (a.home.0 e)
same_deed s hands h k a b (Due seat) e = (b.due seat).1 ((a.due seat).0 e)
same_deed s hands h k a b Gone e = b.gone.1 (a.gone.0 e)

pub shows_one : ShowsOne
shows_one s hands h k a b =
    let amounts : h.amounts ≡ k.amounts = a.amounts ∙ sym b.amounts in
    let deeds : h.deed ≡ k.deed = sym (same_deed s hands h k a b h.deed refl) in
    λ i. record { amounts = amounts i; deed = deeds i }

pub made_whole : MadeWhole
made_whole = (begins, shows_home first_state begins (omega arith) empty_hands (record { amounts = 4294967296 ∷ []; deed = Home }) refl refl)

-- ---- a seat that holds an amount

is_true : (b : Bool) (P Q : Type 0) → b ≡ true → P → MatchBool b P Q
is_true b P Q e p = subst (λ (c : Bool). MatchBool c P Q) (sym e) p

module _ (s : State SlotState HolderView) (hands : Hands) (h : Holders) (seat amount : ℕ) (k : HoldsAt s hands h seat amount) where
  has : 1 ≤ total s.views
  has =
      let less = amount_within s.views seat (holding amount) k.view in
      let one = k.some_amount in
      omega arith

  pub home_here : h.deed ≡ Home
  home_here = k.shown.home.1 (at_home s k.rule has)

  amount_here : amount_of h seat ≡ amount
  amount_here = ap (λ (l : List ℕ). get_or l seat 0) k.shown.amounts ∙ (amount_at s.views seat (holding amount) k.view).0

  split_amounts : (after_split h seat 1).amounts ≡ amounts_of (split_at s seat amount).views
  split_amounts =
      let inside = (amount_at s.views seat (holding amount) k.view).1 in
      ap (λ (l : List ℕ). set (l ++ 1 ∷ []) seat (amount_of h seat - 1)) k.shown.amounts
      ∙ ap (λ (a : ℕ). set (amounts_of s.views ++ 1 ∷ []) seat (a - 1)) amount_here
      ∙ set-append_left (amounts_of s.views) (1 ∷ []) seat (amount - 1) inside
      ∙ ap (λ (l : List ℕ). l ++ 1 ∷ []) (sym (map-set (λ (g : HolderView). g.amount) s.views seat (holding (amount - 1))))
      ∙ sym (map-append (λ (g : HolderView). g.amount) (set s.views seat (holding (amount - 1))) (holding 1 ∷ []))

  -- the amounts after the seat gave all of its amount back
  rest_amounts : (w : HolderView) → w.amount ≡ 0 → set h.amounts seat 0 ≡ amounts_of (set s.views seat w)
  rest_amounts w none =
      ap (λ (l : List ℕ). set l seat 0) k.shown.amounts ∙ ap (λ (a : ℕ). set (amounts_of s.views) seat a) (sym none)
      ∙ sym (map-set (λ (g : HolderView). g.amount) s.views seat w)

  -- the last seat has the slot, and the deed is due to it; where it wasn't the last, the deed stays at home
  shows_given : (b : Bool) (t : State SlotState HolderView) (w : HolderView) (slots : List (ℕ × SlotState)) → IsBlock t → t.views ≡ set s.views seat w
      → (total t.views == 0) ≡ b → Back amount b (w, slots)
      → Shows t (hands_with hands seat slots) (record { amounts = set h.amounts seat 0; deed = if b then Due seat else h.deed })
  shows_given true t w slots r views none back =
      let w_is : w ≡ done amount true = ap (λ (m : HolderView × List (ℕ × SlotState)). m.0) back in
      let slots_are : slots ≡ slot_with_deed = ap (λ (m : HolderView × List (ℕ × SlotState)). m.1) back in
      let mine : WasLast t.views seat =
      (w, ap (λ (l : List HolderView). get_elem? l seat) views ∙ there s.views seat (holding amount) w k.view, ap (λ (v : HolderView). v.last) w_is) in
      let here : hands_with hands seat slots seat ≡ slot_with_deed = hands_here hands seat slots ∙ slots_are in
      record {
        amounts = rest_amounts w (ap (λ (v : HolderView). v.amount) w_is) ∙ ap amounts_of (sym views);
        home = (
          (λ e. absurd (home_is_not_due (Due seat) seat e refl)),
          (λ e. absurd (away (ap slot_at (sym none) ∙ sym r.slot ∙ e))),
        );
        due = λ other. (
          (λ e. subst (λ (j : ℕ). WasLast t.views j × (hands_with hands seat slots j ≡ slot_with_deed)) (same_seat seat other e) (mine, here)),
          (λ (l : WasLast t.views other × (hands_with hands seat slots other ≡ slot_with_deed)). ap Due (sym (one_was_last t r seat other mine l.0))),
        );
        gone = (
          (λ e. absurd (due_is_not_gone (Due seat) seat refl e)),
          (λ (l : (other : ℕ) × WasLast t.views other × (hands_with hands seat slots other ≡ slot_without_deed)). absurd
              (taken_out (sym here ∙ subst (λ (j : ℕ). hands_with hands seat slots j ≡ slot_without_deed) (one_was_last t r seat l.0 mine l.1) l.2))),
        );
      }
  shows_given false t w slots r views some_left back =
      let w_is : w ≡ done amount false = ap (λ (m : HolderView × List (ℕ × SlotState)). m.0) back in
      let left : total t.views ≢ 0 = λ e. true≢false (sym (eq-eqb (total t.views) 0 e) ∙ some_left) in
      shows_home t r (omega arith) (hands_with hands seat slots) (record { amounts = set h.amounts seat 0; deed = h.deed })
      (rest_amounts w (ap (λ (v : HolderView). v.amount) w_is) ∙ ap amounts_of (sym views)) home_here

-- ---- each step is the machine's
pub split_is_the_tables : SplitIsTheTables
split_is_the_tables seat amount more = (splits seat amount more, splits seat amount more)

pub split_is_step : SplitIsStep
split_is_step s hands h seat amount k more =
    let here = amount_here s hands h seat amount k in
    let t = split_at s seat amount in
    let kept : IsBlock t = splits seat amount more s k.rule k.view in
    let some_amount = has s hands h seat amount k in
    let same : s.words ≡ total t.views ∷ [] = kept.word in
    let whole_is : total t.views ≡ total s.views = ap (λ (l : List ℕ). get_or l 0 0) (sym same ∙ k.rule.word) in
    let enough : nat_lt 1 (amount_of h seat) ≡ true = search rules in (
      is_true _ _ _ enough (inl (refl, refl)),
      shows_home t kept (omega arith) (hands_with hands (length s.views) []) (after_split h seat 1) (split_amounts s hands h seat amount k)
          (home_here s hands h seat amount k),
    )

pub let_go_is_step : LetGoIsStep
let_go_is_step s hands h seat amount k view act valid kept told =
    let found = slice_index s.words 0 in
    let t = stepped s 0 (less_by amount found) seat [] view act in
    let found_is : found ≡ total s.views = ap (λ (l : List ℕ). get_or l 0 0) k.rule.word in
    let less = amount_within s.views seat (holding amount) k.view in
    let here = amount_here s hands h seat amount k in
    let one = k.some_amount in
    let enough : nat_lt 0 (amount_of h seat) ≡ true = search rules in
    let w0 = done amount true in
    let left = total-set s.views seat (holding amount) w0 k.view in
    let less_left : total (set s.views seat w0) ≡ total s.views - amount = omega arith in
    let sum_is : sum (set h.amounts seat 0) ≡ total s.views - amount = ap sum (rest_amounts s hands h seat amount k w0 refl) ∙ less_left in
    let spent : view.amount ≡ 0 = back_amount (found == amount) amount view (carried_after [] act) told.2 in
    let left' = total-set s.views seat (holding amount) view k.view in
    let whole_is : total t.views ≡ total s.views - amount = omega arith in
    let same : (found == amount) ≡ (sum (set h.amounts seat 0) == 0) =
    same_test found amount (sum (set h.amounts seat 0)) 0 (λ e. omega arith) (λ e. omega arith) in
    let none : (total t.views == 0) ≡ (found == amount) = same_test (total t.views) 0 found amount (λ e. omega arith) (λ e. omega arith) in (
      is_true _ _ _ enough (ap (λ (b : Bool). if b then Last else Kept) same, refl),
      subst (λ (b : Bool). Shows t (hands_with hands seat (carried_after [] act))
          (record { amounts = set h.amounts seat 0; deed = if b then Due seat else h.deed })) same
          (shows_given s hands h seat amount k (found == amount) t view (carried_after [] act) kept refl none told.2),
    )
  where
    back_amount : (b : Bool) (amount : ℕ) (w : HolderView) (slots : List (ℕ × SlotState)) → Back amount b (w, slots) → w.amount ≡ 0
    back_amount true amount w slots e = ap (λ (m : HolderView × List (ℕ × SlotState)). m.0.amount) e
    back_amount false amount w slots e = ap (λ (m : HolderView × List (ℕ × SlotState)). m.0.amount) e

pub exchange_is_step : ExchangeIsStep
exchange_is_step s hands h seat r sh mine here =
    let due : h.deed ≡ Due seat = (sh.due seat).1 (mine, here) in
    let hit : is_due h.deed seat ≡ true = ap (λ (d : Deed). is_due d seat) due ∙ eq-eqb seat seat refl in
    let out : hands_with hands seat slot_without_deed seat ≡ slot_without_deed = hands_here hands seat slot_without_deed in (
      is_true _ _ _ hit (refl, refl),
      record {
        amounts = sh.amounts;
        home = ((λ e. absurd (home_is_not_gone Gone e refl)), (λ e. absurd (home_is_not_due h.deed seat (sh.home.1 e) due)));
        due = λ other. (
          (λ e. absurd (due_is_not_gone Gone other e refl)),
          (λ (l : WasLast s.views other × (hands_with hands seat slot_without_deed other ≡ slot_with_deed)). absurd
              (taken_out (sym (subst (λ (j : ℕ). hands_with hands seat slot_without_deed j ≡ slot_with_deed) (one_was_last s r seat other mine l.0) l.1)
              ∙ out))),
        );
        gone = ((λ _. (seat, mine, out)), (λ _. refl));
      },
    )

pub read_is_step : ReadIsStep
read_is_step s hands h seat amount k =
    let here = amount_here s hands h seat amount k in
    let one = k.some_amount in
    let enough : nat_lt 0 (amount_of h seat) ≡ true = search rules in
    ((ap (λ (b : Bool). if b then Bytes else reply.Refused) (sym enough), refl), home_here s hands h seat amount k)
