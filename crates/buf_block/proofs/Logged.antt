-- Whole logs of a block's steps are runs of the machine of holders.
use Rattle.std.proofs.Common.{◌≡◌, ℕ, ◌+◌, ◌≤◌, Bool, true, false, List, [], ◌∷◌, map, refl, sym, ap, ◌∙◌, subst, inl, inr, length, get_or, ◌<◌, ◌⊎◌, arith}
use Rattle.std.specs.Prelude.{if◌then◌else◌, slice_index, ◌==◌}
use Rattle.holder_core.specs.HolderMachine.{Holders, Step, rest}
use Rattle.holder_core.specs.HolderRuns.{Answered, Runs}
use Rattle.holder_core.specs.declared.Deed.{Deed}
use Rattle.holder_core.specs.declared.Deed.TheVariants.{Home, Due, Gone}
use Rattle.holder_core.specs.declared.Reply.{Reply}
use Rattle.std.specs.Prelude.{sum}
use Rattle.buf_block.specs.Block.{total, slot_at, IsBlock}
use Rattle.buf_block.specs.BlockView.{Shows, HoldsAt}
use Rattle.buf_block.specs.BlockLog.{Scene, made, BlockStep, splits_off, lets_go, takes_deed, reads, HasAmount, Does, Log, taken_by, taken, IsEmptied, event_of}
use Rattle.buf_block.specs.BlockLog.{first_holders, after_giving}
use Rattle.buf_block.specs.BlockLog.{RunsTheMachine, KeepsTheInvariant, DeedTakenAtMostOnce, DeedTakenWhereEmptied, EmptiedAtTheEnd, NoReadBehindTheDeed}
use Rattle.buf_block.specs.BlockLog.{DeedTakenOrDue, HoldersCanLetGo}
use Rattle.buf_block.proofs.Keeps.{splits, gives_back}
use Rattle.buf_block.proofs.Shown.{made_whole, shows_ok, away, home_here, split_is_step, let_go_is_step, exchange_is_step, read_is_step}

-- ---- where the deed is gone
-- 1 once the deed is gone
abbrev gone : Deed → ℕ
gone Home = 0
gone (Due last) = 0
gone Gone = 1

gone-most : (d : Deed) → gone d ≤ 1
gone-most Home = omega arith
gone-most (Due last) = omega arith
gone-most Gone = omega arith

is_gone : (d : Deed) → gone d ≡ 1 → d ≡ Gone
is_gone Home e = absurd (omega arith)
is_gone (Due last) e = absurd (omega arith)
is_gone Gone e = refl

gone-given : (b : Bool) (d : Deed) (seat : ℕ) → d ≡ Home → gone d ≡ gone (if b then Due seat else d)
gone-given true d seat home = ap gone home
gone-given false d seat home = refl

zero_more : (n : ℕ) → 0 + n ≡ n
zero_more n = omega arith

-- ---- a step, and the machine that follows it
-- what one step of a block is to the machine
record Followed (h : Holders) (b : BlockStep) (t : Scene) : Type 0 where
  rule : IsBlock t.table
  next : Holders
  shown : Shows t.table t.hands next
  reply : Reply
  is : Step h (event_of b) reply next
  count : taken_by b + gone h.deed ≡ gone next.deed

module _ (s : Scene) (h : Holders) (rule : IsBlock s.table) (shown : Shows s.table s.hands h) where
  held : (seat amount : ℕ) → HasAmount s seat amount → HoldsAt s.table s.hands h seat amount
  held seat amount has = record { rule = rule; shown = shown; view = has.0; some_amount = has.1 }

  one : (b : BlockStep) (t : Scene) → Does s b t → Followed h b t
  one (splits_off seat) t (amount, has, more, e) =
      let r = split_is_step s.table s.hands h seat amount (held seat amount has) more in
      subst (Followed h (splits_off seat)) e
      (record { rule = splits seat amount more s.table rule has.0; next = _; shown = r.1; reply = _; is = r.0; count = zero_more _ })
  one (lets_go seat) t (amount, view, act, has, valid, kept, told, e) =
      let k = held seat amount has in
      let r = let_go_is_step s.table s.hands h seat amount k view act valid kept told in
      let home = home_here s.table s.hands h seat amount k in
      subst (Followed h (lets_go seat)) e
      (record { rule = kept; next = _; shown = r.1; reply = _; is = r.0; count = zero_more _ ∙ gone-given (sum (rest h seat) == 0) h.deed seat home })
  one (takes_deed seat) t (mine, here, e) =
      let r = exchange_is_step s.table s.hands h seat rule shown mine here in
      let due : gone h.deed ≡ 0 = ap gone ((shown.due seat).1 (mine, here)) in
      subst (Followed h (takes_deed seat)) e (record { rule = rule; next = _; shown = r.1; reply = _; is = r.0; count = omega arith })
  one (reads seat) t (amount, has, e) =
      let r = read_is_step s.table s.hands h seat amount (held seat amount has) in
      subst (Followed h (reads seat)) e (record { rule = rule; next = h; shown = shown; reply = _; is = r.0; count = zero_more _ })

record Told (h : Holders) (log : List BlockStep) (t : Scene) : Type 0 where
  rule : IsBlock t.table
  end : Holders
  shown : Shows t.table t.hands end
  answers : List Answered
  runs : Runs h answers end
  events : map (λ (a : Answered). a.event) answers ≡ map event_of log
  count : taken log + gone h.deed ≡ gone end.deed

follows : (s : Scene) (h : Holders) (log : List BlockStep) (t : Scene) → IsBlock s.table → Shows s.table s.hands h → Log s log t → Told h log t
follows s h [] t rule shown e =
    subst (Told h []) e (record { rule = rule; end = h; shown = shown; answers = []; runs = refl; events = refl; count = zero_more _ })
follows s h (b ∷ log) t rule shown (m, does, later) =
    let f = one s h rule shown b m does in
    let g = follows m f.next log t f.rule f.shown later in
    let here = f.count in
    let there = g.count in
    record {
      rule = g.rule;
      end = g.end;
      shown = g.shown;
      answers = record { event = event_of b; reply = f.reply } ∷ g.answers;
      runs = (f.next, f.is, g.runs);
      events = ap (λ l. event_of b ∷ l) g.events;
      count = omega arith;
    }

-- ---- what holds of a whole log
module _ (log : List BlockStep) (t : Scene) (run : Log made log t) where
  all : Told first_holders log t
  all = follows made first_holders log t made_whole.0 made_whole.1 run

  counted : taken log ≡ gone all.end.deed
  counted = let c = all.count in omega arith

pub runs_the_machine : RunsTheMachine
runs_the_machine log t run = let a = all log t run in (a.end, a.answers, a.runs, a.events, a.shown)

pub keeps_the_invariant : KeepsTheInvariant
keeps_the_invariant log t run = let a = all log t run in (a.rule, a.end, a.shown, shows_ok t.table t.hands a.end a.rule a.shown)

pub at_most_once : DeedTakenAtMostOnce
at_most_once log t run = let c = counted log t run in let most = gone-most (all log t run).end.deed in omega arith

pub where_emptied : DeedTakenWhereEmptied
where_emptied log t run =
    let a = all log t run in
    let c = counted log t run in (
      (λ once. a.shown.gone.0 (is_gone a.end.deed (sym c ∙ once))),
      (λ (e : IsEmptied t). c ∙ ap gone (a.shown.gone.1 e)),
    )

pub at_the_end : EmptiedAtTheEnd
at_the_end log t run once =
    let e : IsEmptied t = (where_emptied log t run).0 once in
    (all log t run).rule.last e.0 e.1.0 e.1.1 e.1.2

pub no_read_behind : NoReadBehindTheDeed
no_read_behind log s t seat run (amount, has, e) =
    let a = all log s run in
    let home = home_here s.table s.hands a.end seat amount (held s a.end a.rule a.shown seat amount has) in
    counted log s run ∙ ap gone home

pub taken_or_due : DeedTakenOrDue
taken_or_due log s run none = by_deed a.end.deed refl
  where
    a : Told first_holders log s
    a = all log s run

    by_deed : (d : Deed) → a.end.deed ≡ d → (taken log ≡ 1) ⊎ ((seat : ℕ) × (t : Scene) × Does s (takes_deed seat) t)
    by_deed Home e = absurd (away (ap (λ (n : ℕ). slot_at (n == 0)) (sym none) ∙ sym a.rule.slot ∙ a.shown.home.0 e))
    by_deed (Due seat) e = let here = (a.shown.due seat).0 e in inr (seat, _, (here.0, here.1, refl))
    by_deed Gone e = inl (counted log s run ∙ ap gone e)

one_slot : (b : Bool) → length (slot_at b) ≡ 1
one_slot true = refl
one_slot false = refl

pub can_let_go : HoldersCanLetGo
can_let_go log s seat amount run has =
    let rule = (all log s run).rule in
    let found : slice_index s.table.words 0 ≡ total s.table.views = ap (λ (l : List ℕ). get_or l 0 0) rule.word in
    let bound = rule.bound in
    let fits : slice_index s.table.words 0 < 18446744073709551616 = omega arith in
    let r = gives_back seat amount has.1 1 s.table rule (ap length rule.slot ∙ one_slot (total s.table.views == 0)) has.0 fits in
    (after_giving s seat amount r.0 r.1, (amount, r.0, r.1, has, r.2, r.3, r.4, refl))
