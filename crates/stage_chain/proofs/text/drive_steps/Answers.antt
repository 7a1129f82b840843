use Rattle.std.proofs.lemmas.Grind.{common_steps}
use Rattle.std.proofs.Common.{arith, ◌≡◌, ℕ, IfOk, List, [], length, get_or, drop, sym, ◌∙◌, ap, subst}
use Rattle.csv_model.specs.Text.{header_text}
use Rattle.csv_write.specs.CsvTexts.{HasText}
use Rattle.field_codec.specs.TextColumns.{HaveTexts}
use Rattle.stage_model.specs.Links.{last_columns}
use Rattle.csv_model.specs.promise.Text.{table_text}
use Rattle.data_types.specs.Parts.{joined_rows}
use Rattle.data_types.specs.promise.Table.{Column}
use Rattle.stage_model.specs.promise.Links.{Whole}
use Rattle.stage_model.specs.promise.Stages.{table}
use Rattle.stage_model.specs.promise.Typing.{Stage}
use Rattle.stream_face.specs.Streams.{IsFresh, Stream}
use Rattle.stage_chain.specs.Boxes.{boxed_state}
use Rattle.stage_chain.specs.promise.Chains.{ShowsFirst, ShowsLinks}
use Rattle.stage_chain.specs.Chains.{chain_links, chain_traffic, joints_with, makings_with}
use Rattle.csv_write.specs.promise.Runs.{ShowsAll}
use Rattle.csv_write.specs.Runs.{Counted}
use Rattle.csv_write.proofs.RunLemmas.{on-row}
use Rattle.stage_chain.specs.Plans.{AreStages, links_of, plan_stages, stages_in, stages_left}
use Rattle.stage_chain.proofs.Chaining.{on-err, on-ok, shows-nothing, whatever}
use Rattle.stage_chain.proofs.Driving.{shows-all, shows-some, text-is}
use Rattle.stage_chain.proofs.Planning.{few-stages, last-link-is, last-texts, plan-are-stages}
use Rattle.stage_chain.proofs.text.drive_steps.Goals as goal

-- the columns of the last link
last-of : (s b : Stream) (stages left : List Stage) (last : List Column) → b ≡ s → left ≡ stages → last ≡ last_columns s.columns stages
    → last ≡ last_columns b.columns left
last-of s b stages left last made same is =
    is ∙ ap (last_columns s.columns) (sym same) ∙ ap (λ (m : Stream). last_columns m.columns left) (sym made)

-- it is over no other checked stream
none-below : (s b : Stream) → b ≡ s → ((link : ℕ) → s.joints link ≡ []) → (link : ℕ) → b.joints link ≡ []
none-below s b made none link = ap (λ (m : Stream). m.joints link) made ∙ none link

-- ---- what the chain asks
pub prepare-requires-clause-texts : goal.prepare-requires-clause-texts
prepare-requires-clause-texts g c =
    let s = g.S.ArrayStream.state c.args.source in
    let are = plan-are-stages s.columns c.requires.plan.0 c.args.plan c.requires.plan.1 in
    subst HaveTexts (sym (last-link-is s.columns c.requires.plan.0 c.args.plan c.requires.plan.1))
    (last-texts c.stages_keep_columns.ensures.kinds s.columns (plan_stages c.args.plan) are (c.lawful_facts.ensures.columns c.requires.lawful).kinds)

pub drive_from-requires-clause-stages : goal.drive_from-requires-clause-stages
drive_from-requires-clause-stages g c =
    let s = g.S.ArrayStream.state c.args.source in
    let b = boxed_state g.S.ArrayStream.state c.in-Ok.source in
    let made : b ≡ s = c.in-Ok.ensures.made in
    let left : stages_left c.into_iter.result ≡ plan_stages c.args.plan = ap stages_in c.into_iter.ensures.rest ∙ c.in-Ok-prepare.ensures.stages in
    subst (λ (m : Stream). AreStages m.columns (stages_left c.into_iter.result)) (sym made)
    (subst (AreStages s.columns) (sym left) (plan-are-stages s.columns c.requires.plan.0 c.args.plan c.requires.plan.1))

pub drive_from-requires-clause-numbers : goal.drive_from-requires-clause-numbers
drive_from-requires-clause-numbers g c =
    let left : stages_left c.into_iter.result ≡ plan_stages c.args.plan = ap stages_in c.into_iter.ensures.rest ∙ c.in-Ok-prepare.ensures.stages in
    let few = few-stages c.args.plan.steps.items (drop 1 (links_of c.args.plan)) in
    omega (arith, few, ap length left, c.requires.few)

pub drive_from-requires-clause-few : goal.drive_from-requires-clause-few
drive_from-requires-clause-few g c =
    let left : stages_left c.into_iter.result ≡ plan_stages c.args.plan = ap stages_in c.into_iter.ensures.rest ∙ c.in-Ok-prepare.ensures.stages in
    let few = few-stages c.args.plan.steps.items (drop 1 (links_of c.args.plan)) in
    omega (arith, few, ap length left, c.requires.few)

pub drive_from-requires-clause-room : goal.drive_from-requires-clause-room
drive_from-requires-clause-room g c =
    let left : stages_left c.into_iter.result ≡ plan_stages c.args.plan = ap stages_in c.into_iter.ensures.rest ∙ c.in-Ok-prepare.ensures.stages in
    let few = few-stages c.args.plan.steps.items (drop 1 (links_of c.args.plan)) in
    omega (arith, few, ap length left, c.requires.few, c.requires.room)

pub drive_from-requires-clause-text : goal.drive_from-requires-clause-text
drive_from-requires-clause-text g c =
    let s = g.S.ArrayStream.state c.args.source in
    let b = boxed_state g.S.ArrayStream.state c.in-Ok.source in
    let made : b ≡ s = c.in-Ok.ensures.made in
    let left : stages_left c.into_iter.result ≡ plan_stages c.args.plan = ap stages_in c.into_iter.ensures.rest ∙ c.in-Ok-prepare.ensures.stages in
    let header = header_text (get_or (links_of c.args.plan) (length c.args.plan.steps.items) []) in
    let last =
    last-of s b (plan_stages c.args.plan) (stages_left c.into_iter.result) (get_or (links_of c.args.plan) (length c.args.plan.steps.items) []) made left
    (last-link-is s.columns c.requires.plan.0 c.args.plan c.requires.plan.1) in
    (c.args.mark.now, header, subst (λ cs. HasText c.in-Ok-prepare.text c.args.mark.now cs header) last c.in-Ok-prepare.ensures.text)

-- ---- the text, and what was shown
pub returns-in-Ok-prepare : goal.returns-in-Ok-prepare
returns-in-Ok-prepare g c =
    let s = g.S.ArrayStream.state c.args.source in
    let b = boxed_state g.S.ArrayStream.state c.in-Ok.source in
    let made : b ≡ s = c.in-Ok.ensures.made in
    let left : stages_left c.into_iter.result ≡ plan_stages c.args.plan = ap stages_in c.into_iter.ensures.rest ∙ c.in-Ok-prepare.ensures.stages in
    let last =
    last-of s b (plan_stages c.args.plan) (stages_left c.into_iter.result) (get_or (links_of c.args.plan) (length c.args.plan.steps.items) []) made left
    (last-link-is s.columns c.requires.plan.0 c.args.plan c.requires.plan.1) in
    let shown = λ (shows : ShowsAll (joints_with 0 b.joints (chain_links b (stages_left c.into_iter.result)))
    (makings_with b.ending 0 b.making b.makings (chain_links b (stages_left c.into_iter.result))) (g.T.Tap.seen c.args.tap.now)
    (g.T.Tap.seen c.drive_from.new.tap)).
    subst (λ (m : Stream). ShowsLinks (chain_links m (plan_stages c.args.plan)) (g.T.Tap.seen c.args.tap.now) (g.T.Tap.seen c.drive_from.new.tap)) made
    (shows-all b (plan_stages c.args.plan) (stages_left c.into_iter.result) (g.T.Tap.seen c.args.tap.now) (g.T.Tap.seen c.drive_from.new.tap) left
    (none-below s b made c.requires.no_joints) shows) in
    let counted = λ (counted : Counted (chain_traffic b (stages_left c.into_iter.result)) c.args.pass.now c.drive_from.new.pass).
    subst (λ (ss : List Stage). Counted (chain_traffic s ss) c.args.pass.now c.drive_from.new.pass) left
    (subst (λ (m : Stream). Counted (chain_traffic m (stages_left c.into_iter.result)) c.args.pass.now c.drive_from.new.pass) made counted) in
    record {
      text = subst (λ (m : Stream). IfOk c.drive_from.result (λ text. text.items
          ≡ table_text c.args.mark.now (Whole (table m.columns (joined_rows m.ahead)) (plan_stages c.args.plan)))) made
          (text-is c.drive_from.result b (plan_stages c.args.plan) (stages_left c.into_iter.result) c.in-Ok-prepare.text c.args.mark.now left
          c.chunks_give_the_whole.ensures.rows c.chunks_give_the_whole.ensures.columns
          (subst (λ cs. HasText c.in-Ok-prepare.text c.args.mark.now cs
          (header_text cs)) last c.in-Ok-prepare.ensures.text) c.drive_from.ensures.ends c.drive_from.ensures.text);
      shows = on-ok c.drive_from.result shown c.drive_from.ensures.shows;
      refused_shows = λ fresh. on-row c.drive_from.result shown (c.drive_from.ensures.refused_shows (subst IsFresh (sym made) fresh));
      shows_some = on-err c.drive_from.result
          (λ shows. subst (λ (m : Stream). ShowsFirst (chain_links m (plan_stages c.args.plan)) (g.T.Tap.seen c.args.tap.now)
          (g.T.Tap.seen c.drive_from.new.tap)) made
          (shows-some b (plan_stages c.args.plan) (stages_left c.into_iter.result) (g.T.Tap.seen c.args.tap.now) (g.T.Tap.seen c.drive_from.new.tap) left
          (none-below s b made c.requires.no_joints) shows))
          c.drive_from.ensures.shows_some;
      ends = grind (arith, common_steps);
      row = grind (arith, common_steps);
      units = grind (arith, common_steps);
      counts = on-ok c.drive_from.result counted c.drive_from.ensures.counts;
      refused_counts = λ fresh. on-row c.drive_from.result counted (c.drive_from.ensures.refused_counts (subst IsFresh (sym made) fresh));
    }

pub returns-in-Err : goal.returns-in-Err
returns-in-Err g c =
    record {
      text = grind (arith, common_steps);
      ends = grind (arith, common_steps);
      row = grind (arith, common_steps);
      units = grind (arith, common_steps);
      counts = grind (arith, common_steps);
      refused_counts = λ _. rw c.refuse.ensures.refused tt;
      shows = grind (arith, common_steps);
      refused_shows = λ _. rw c.refuse.ensures.refused tt;
      shows_some = whatever c.refuse.result (shows-nothing _ _ _);
    }

pub returns-in-Err-prepare : goal.returns-in-Err-prepare
returns-in-Err-prepare g c =
    record {
      text = grind (arith, common_steps);
      ends = grind (arith, common_steps);
      row = grind (arith, common_steps);
      units = grind (arith, common_steps);
      counts = grind (arith, common_steps);
      refused_counts = λ _. rw c.refuse-in-Err-prepare.ensures.refused tt;
      shows = grind (arith, common_steps);
      refused_shows = λ _. rw c.refuse-in-Err-prepare.ensures.refused tt;
      shows_some = whatever c.refuse-in-Err-prepare.result (shows-nothing _ _ _);
    }
