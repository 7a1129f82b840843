use Rattle.std.proofs.lemmas.Grind.{common_steps}
use Rattle.std.proofs.Common.{rules, arith, ◌≡◌, ◌≤◌, ◌∷◌, List, [], length, refl, subst, sym, IfErr, Some, ap, ◌∙◌}
use Rattle.tree_model.specs.promise.TreeCost.{Nodes}
use Rattle.stage_model.specs.promise.Typing.{Stage}
use Rattle.csv_write.specs.CsvTexts.{HasText}
use Rattle.stage_model.specs.Links.{last_columns}
use Rattle.stream_face.specs.Streams.{Stream}
use Rattle.csv_write.specs.Faults.{IfRow}
use Rattle.stream_face.specs.Meaning.{meaning, raw_schema}
use Rattle.stage_chain.specs.Plans.{stages_left}
use Rattle.csv_write.proofs.RunLemmas.{on-row}
use Rattle.stage_chain.proofs.Chaining.{IsStarted, started, both-all, both-some, counted-last, joints-last, makings-last, on-err, on-ok, shows-nothing, started-fresh, whatever}
use Rattle.stage_chain.proofs.chain.ZeroChain.drive_from.Goals as goal

none_left : (stages : List Stage) → length stages ≤ 0 → stages ≡ []
none_left [] few = refl
none_left (stage ∷ stages) few = absurd (omega (arith, few))

pub returns : goal.returns
returns g c =
    record {
      shows_some = whatever c.refuse.result (shows-nothing _ _ _);
      text = rw c.refuse.ensures.refused tt;
      ends = rw c.refuse.ensures.refused tt;
      row = rw c.refuse.ensures.refused tt;
      units = grind (arith, common_steps);
      counts = rw c.refuse.ensures.refused tt;
      refused_counts = λ _. rw c.refuse.ensures.refused tt;
      shows = rw c.refuse.ensures.refused tt;
      refused_shows = λ _. rw c.refuse.ensures.refused tt;
    }

pub returns-in-Ok : goal.returns-in-Ok
returns-in-Ok g c =
    let s = g.S.ArrayStream.state c.args.source in
    let up = meaning g.S.ArrayStream.state c.in-Ok.last in
    let raw : IsStarted c.args.link (Nodes (raw_schema c.in-Ok.last)) s up = started _ c.args.link _ _ _ s
    c.in-Ok.ensures.link c.in-Ok.ensures.fault c.in-Ok.ensures.started in
    let none : stages_left c.args._stages ≡ [] = none_left (stages_left c.args._stages) c.requires.few in
    let ending = ap (λ (m : Stream). m.ending) raw in
    let counted =
    counted-last (stages_left c.args._stages) s up c.args.link _ c.args.pass.now c.start.new.pass c.write_rows.new.pass none raw
    (c.schemas_are_small.ensures.counted s.columns) (c.in-Ok.ensures.nodes c.requires.lawful) (c.in-Ok.ensures.blocks c.requires.lawful) in
    let shown =
    both-all _ _ _ _ (g.T.Tap.seen c.args.tap.now) (g.T.Tap.seen c.write_rows.new.tap) (joints-last (stages_left c.args._stages) s up c.args.link _ none raw)
    (makings-last (stages_left c.args._stages) s up c.args.link _ none raw) in
    record {
      text = search rules;
      counts = on-ok c.write_rows.result counted c.write_rows.ensures.counts;
      refused_counts = λ fresh. on-row c.write_rows.result counted (c.write_rows.ensures.refused_counts (started-fresh s up c.args.link _ raw fresh));
      shows_some = on-err c.write_rows.result
          (both-some _ _ _ _ _ _ (joints-last (stages_left c.args._stages) s up c.args.link _ none raw)
          (makings-last (stages_left c.args._stages) s up c.args.link _ none raw))
          c.write_rows.ensures.shows_some;
      shows = on-ok c.write_rows.result shown c.write_rows.ensures.shows;
      refused_shows = λ fresh. on-row c.write_rows.result shown (c.write_rows.ensures.refused_shows (started-fresh s up c.args.link _ raw fresh));
      ends = on-ok c.write_rows.result (λ e. sym ending ∙ e) c.write_rows.ensures.ends;
      row = subst (λ o. IfErr c.write_rows.result (λ e. IfRow e (λ fault. o ≡ Some fault))) ending c.write_rows.ensures.row;
      units = grind (arith, common_steps);
    }

pub write_rows-requires-clause-text : goal.write_rows-requires-clause-text
write_rows-requires-clause-text g c =
    let s = g.S.ArrayStream.state c.args.source in
    let up = meaning g.S.ArrayStream.state c.in-Ok.last in
    let raw : IsStarted c.args.link (Nodes (raw_schema c.in-Ok.last)) s up = started _ c.args.link _ _ _ s
    c.in-Ok.ensures.link c.in-Ok.ensures.fault c.in-Ok.ensures.started in
    let none = none_left (stages_left c.args._stages) c.requires.few in
    let text = c.requires.text in
    let same : last_columns s.columns (stages_left c.args._stages) ≡ up.columns = ap (last_columns s.columns) none ∙ sym (ap (λ (m : Stream). m.columns) raw) in
    let given = subst (λ columns. HasText c.args.text text.0 columns text.1) same text.2 in
    search (rules, given)
