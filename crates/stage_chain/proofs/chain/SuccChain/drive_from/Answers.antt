use Rattle.std.proofs.lemmas.Grind.{common_steps}
use Rattle.std.proofs.Common.{rules, arith, ◌≡◌, ◌∷◌, [], ◌∙◌, ap, subst, sym, IfErr, Some}
use Rattle.tree_model.specs.promise.TreeCost.{Nodes}
use Rattle.stages.specs.Structs.{column_structs}
use Rattle.csv_write.specs.CsvTexts.{HasText}
use Rattle.stage_model.specs.Links.{last_columns}
use Rattle.csv_write.specs.Faults.{IfRow}
use Rattle.stream_face.specs.Meaning.{meaning, raw_schema}
use Rattle.stream_face.specs.Streams.{Stream}
use Rattle.stages.specs.Stages.{stage_state}
use Rattle.stage_chain.specs.Boxes.{boxed_state}
use Rattle.stage_chain.specs.Chains.{over_stream}
use Rattle.stage_chain.specs.Plans.{AreStages, stage_in, stages_in, stages_left}
use Rattle.csv_write.proofs.RunLemmas.{on-row}
use Rattle.stage_chain.proofs.Planning.{no_stages}
use Rattle.stage_chain.proofs.Chaining.{IsStarted, started, counted-last, counted-step, joints-above, joints-last, makings-last, makings-step, both-all, both-some}
use Rattle.stage_chain.proofs.Chaining.{fresh-above, joints-step, on-err, on-ok, shows-nothing, started-fresh, whatever}
use Rattle.stage_chain.proofs.Driving.{text-last}
use Rattle.stage_chain.proofs.chain.SuccChain.drive_from.Goals as goal

pub returns-in-Err : goal.returns-in-Err
returns-in-Err g c =
    record {
      shows_some = whatever c.refuse.result (shows-nothing _ _ _);
      text = rw c.refuse.ensures.refused tt;
      ends = rw c.refuse.ensures.refused tt;
      row = rw c.refuse.ensures.refused tt;
      units = grind (arith, common_steps);
      counts = rw c.refuse.ensures.refused tt;
      refused_counts = λ _. rw c.refuse.ensures.refused tt;
      shows = rw c.refuse.ensures.refused tt;
      refused_shows = λ _. rw c.refuse.ensures.refused tt;
    }

-- ---- what the rest of the chain asks
pub drive_from-requires-clause-links : goal.drive_from-requires-clause-links
drive_from-requires-clause-links g c =
    let s = g.S.ArrayStream.state c.args.source in
    let up = meaning g.S.ArrayStream.state c.in-Ok.up in
    let raw : IsStarted c.args.link (Nodes (raw_schema c.in-Ok.up)) s up = started _ c.args.link _ _ _ s
    c.in-Ok.ensures.link c.in-Ok.ensures.fault c.in-Ok.ensures.started in
    let stage = stage_in c.in-Some.stage in
    let node = boxed_state (stage_state g.S.ArrayStream.state g.W.ChunkStep.columns g.W.ChunkStep.ahead g.W.ChunkStep.blocks g.W.ChunkStep.nodes) c.in-Ok-new.above in
    let is : node ≡ over_stream c.args.link stage up
    = c.in-Ok-new.ensures.made ∙ c.start_stage.ensures.means ∙ ap (λ k. over_stream k stage up) c.in-Ok.ensures.link in
    let rest = stages_left c.next.new.self in
    let are : stages_left c.args.stages ≡ stage ∷ rest = ap stages_in c.in-Some.ensures.items in
    joints-above stage s up node c.args.link _ raw is c.requires.links

pub drive_from-requires-clause-structs : goal.drive_from-requires-clause-structs
drive_from-requires-clause-structs g c =
    let s = g.S.ArrayStream.state c.args.source in
    let up = meaning g.S.ArrayStream.state c.in-Ok.up in
    let raw : IsStarted c.args.link (Nodes (raw_schema c.in-Ok.up)) s up = started _ c.args.link _ _ _ s
    c.in-Ok.ensures.link c.in-Ok.ensures.fault c.in-Ok.ensures.started in
    let stage = stage_in c.in-Some.stage in
    let node = boxed_state (stage_state g.S.ArrayStream.state g.W.ChunkStep.columns g.W.ChunkStep.ahead g.W.ChunkStep.blocks g.W.ChunkStep.nodes) c.in-Ok-new.above in
    let is : node ≡ over_stream c.args.link stage up
    = c.in-Ok-new.ensures.made ∙ c.start_stage.ensures.means ∙ ap (λ k. over_stream k stage up) c.in-Ok.ensures.link in
    let rest = stages_left c.next.new.self in
    let are : stages_left c.args.stages ≡ stage ∷ rest = ap stages_in c.in-Some.ensures.items in
    let one : AreStages s.columns (stage ∷ rest) = subst (AreStages s.columns) are c.requires.stages in
    let columns = ap (λ (m : Stream). column_structs m.columns) is in
    let few = c.stages_keep_columns.ensures.structs s.columns stage one.0 in
    omega (arith, columns, few, c.requires.structs)

-- ---- no stage is left
pub write_rows-requires-clause-text : goal.write_rows-requires-clause-text
write_rows-requires-clause-text g c =
    let s = g.S.ArrayStream.state c.args.source in
    let up = meaning g.S.ArrayStream.state c.in-Ok.up in
    let raw : IsStarted c.args.link (Nodes (raw_schema c.in-Ok.up)) s up = started _ c.args.link _ _ _ s
    c.in-Ok.ensures.link c.in-Ok.ensures.fault c.in-Ok.ensures.started in
    let none : stages_left c.args.stages ≡ [] = no_stages c.args.stages.rest.items c.args.stages.rest.len c.args.stages.rest.ok.0 c.in-None.ensures.cases.0 in
    let text = c.requires.text in
    let same : last_columns s.columns (stages_left c.args.stages) ≡ up.columns = ap (last_columns s.columns) none ∙ sym (ap (λ (m : Stream). m.columns) raw) in
    let given = subst (λ columns. HasText c.args.text text.0 columns text.1) same text.2 in
    search (rules, given)

pub returns-in-None : goal.returns-in-None
returns-in-None g c =
    let s = g.S.ArrayStream.state c.args.source in
    let up = meaning g.S.ArrayStream.state c.in-Ok.up in
    let raw : IsStarted c.args.link (Nodes (raw_schema c.in-Ok.up)) s up = started _ c.args.link _ _ _ s
    c.in-Ok.ensures.link c.in-Ok.ensures.fault c.in-Ok.ensures.started in
    let none : stages_left c.args.stages ≡ [] = no_stages c.args.stages.rest.items c.args.stages.rest.len c.args.stages.rest.ok.0 c.in-None.ensures.cases.0 in
    let ending = ap (λ (m : Stream). m.ending) raw in
    let counted =
    counted-last (stages_left c.args.stages) s up c.args.link _ c.args.pass.now c.start.new.pass c.write_rows.new.pass none raw
    (c.schemas_are_small.ensures.counted s.columns) (c.in-Ok.ensures.nodes c.requires.lawful) (c.in-Ok.ensures.blocks c.requires.lawful) in
    let shown =
    both-all _ _ _ _ (g.T.Tap.seen c.args.tap.now) (g.T.Tap.seen c.write_rows.new.tap) (joints-last (stages_left c.args.stages) s up c.args.link _ none raw)
    (makings-last (stages_left c.args.stages) s up c.args.link _ none raw) in
    record {
      text = text-last c.write_rows.result (stages_left c.args.stages) s up c.args.link _ c.args.text none raw c.write_rows.ensures.text;
      counts = on-ok c.write_rows.result counted c.write_rows.ensures.counts;
      refused_counts = λ fresh. on-row c.write_rows.result counted (c.write_rows.ensures.refused_counts (started-fresh s up c.args.link _ raw fresh));
      shows_some = on-err c.write_rows.result
          (both-some _ _ _ _ _ _ (joints-last (stages_left c.args.stages) s up c.args.link _ none raw)
          (makings-last (stages_left c.args.stages) s up c.args.link _ none raw))
          c.write_rows.ensures.shows_some;
      shows = on-ok c.write_rows.result shown c.write_rows.ensures.shows;
      refused_shows = λ fresh. on-row c.write_rows.result shown (c.write_rows.ensures.refused_shows (started-fresh s up c.args.link _ raw fresh));
      ends = on-ok c.write_rows.result (λ e. sym ending ∙ e) c.write_rows.ensures.ends;
      row = subst (λ o. IfErr c.write_rows.result (λ e. IfRow e (λ fault. o ≡ Some fault))) ending c.write_rows.ensures.row;
      units = grind (arith, common_steps);
    }

-- ---- one stage more
pub returns-in-Ok-new : goal.returns-in-Ok-new
returns-in-Ok-new g c =
    let s = g.S.ArrayStream.state c.args.source in
    let up = meaning g.S.ArrayStream.state c.in-Ok.up in
    let raw : IsStarted c.args.link (Nodes (raw_schema c.in-Ok.up)) s up = started _ c.args.link _ _ _ s
    c.in-Ok.ensures.link c.in-Ok.ensures.fault c.in-Ok.ensures.started in
    let stage = stage_in c.in-Some.stage in
    let node = boxed_state (stage_state g.S.ArrayStream.state g.W.ChunkStep.columns g.W.ChunkStep.ahead g.W.ChunkStep.blocks g.W.ChunkStep.nodes) c.in-Ok-new.above in
    let is : node ≡ over_stream c.args.link stage up
    = c.in-Ok-new.ensures.made ∙ c.start_stage.ensures.means ∙ ap (λ k. over_stream k stage up) c.in-Ok.ensures.link in
    let rest = stages_left c.next.new.self in
    let are : stages_left c.args.stages ≡ stage ∷ rest = ap stages_in c.in-Some.ensures.items in
    let ending = ap (λ (m : Stream). m.ending) is ∙ ap (λ (m : Stream). m.ending) raw in
    let counted =
    counted-step stage s up node c.args.link _ raw is rest (stages_left c.args.stages) c.args.pass.now c.start.new.pass c.drive_from.new.pass are
    (c.schemas_are_small.ensures.counted s.columns) (c.in-Ok.ensures.nodes c.requires.lawful) (c.in-Ok.ensures.blocks c.requires.lawful) in
    let shown =
    both-all _ _ _ _ (g.T.Tap.seen c.args.tap.now) (g.T.Tap.seen c.drive_from.new.tap) (joints-step stage s up node c.args.link _ raw is rest (stages_left c.args.stages) are)
    (makings-step stage s up node c.args.link _ raw is rest (stages_left c.args.stages) are) in
    record {
      text = search rules;
      counts = on-ok c.drive_from.result counted c.drive_from.ensures.counts;
      refused_counts = λ fresh. on-row c.drive_from.result counted
          (c.drive_from.ensures.refused_counts (fresh-above stage s up node c.args.link _ raw is fresh));
      shows = on-ok c.drive_from.result shown c.drive_from.ensures.shows;
      refused_shows = λ fresh. on-row c.drive_from.result shown
          (c.drive_from.ensures.refused_shows (fresh-above stage s up node c.args.link _ raw is fresh));
      shows_some = on-err c.drive_from.result
          (both-some _ _ _ _ _ _ (joints-step stage s up node c.args.link _ raw is rest (stages_left c.args.stages) are)
          (makings-step stage s up node c.args.link _ raw is rest (stages_left c.args.stages) are))
          c.drive_from.ensures.shows_some;
      ends = on-ok c.drive_from.result (λ e. sym ending ∙ e) c.drive_from.ensures.ends;
      row = subst (λ o. IfErr c.drive_from.result (λ e. IfRow e (λ fault. o ≡ Some fault))) ending c.drive_from.ensures.row;
      units = grind (arith, common_steps);
    }

pub returns-in-Err-new : goal.returns-in-Err-new
returns-in-Err-new g c =
    record {
      shows_some = whatever c.refuse-in-Err-new.result (shows-nothing _ _ _);
      text = rw c.refuse-in-Err-new.ensures.refused tt;
      ends = rw c.refuse-in-Err-new.ensures.refused tt;
      row = rw c.refuse-in-Err-new.ensures.refused tt;
      units = grind (arith, common_steps);
      counts = rw c.refuse-in-Err-new.ensures.refused tt;
      refused_counts = λ _. rw c.refuse-in-Err-new.ensures.refused tt;
      shows = rw c.refuse-in-Err-new.ensures.refused tt;
      refused_shows = λ _. rw c.refuse-in-Err-new.ensures.refused tt;
    }
