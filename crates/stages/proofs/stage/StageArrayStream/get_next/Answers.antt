use Rattle.std.proofs.Common.{arith, ◌≡◌, ◌<◌, ◌∙◌, Option, None, Some, ℤ, pos, negsuc, w32, to_z, of_z, inl, inr, map, if◌then◌else◌, refl, sym, ap, subst, true≢false}
use Rattle.std.specs.Int.Signed.{mag}
use Rattle.std.proofs.lemmas.Int.{ints}
use Rattle.data_types.specs.ColumnView.{column_of}
use Rattle.tree_model.specs.promise.TreeParts.{IsLive}
use Rattle.raw_array.specs.promise.Members.{Cost}
use Rattle.stream_face.specs.Calls.{IsCode, IsRowFault, Tells}
use Rattle.stream_face.specs.Codes.{einval, enomem}
use Rattle.stream_face.specs.Meaning.{meaning}
use Rattle.stream_face.specs.Texts.{Refusal, wanting}
use Rattle.stream_face.proofs.Next.{repeats-never, same}
use Rattle.stages.proofs.stage.StageArrayStream.get_next.Goals as goal

-- ---- codes

same-code : (code : ℤ) → IsCode code → to_z w32 (of_z w32 code) ≡ code
same-code code is = same code (fits code is)
  where
    fits : (code : ℤ) → IsCode code → mag code < 2147483648
    fits (pos n) is = omega (arith, ints, is.1)
    fits (negsuc n) is = absurd (omega (arith, ints, is.0))

twelve : IsCode enomem
twelve = grind arith

not-zero : enomem ≡ pos 0 → ⊥
not-zero z = cc

not-bad : enomem ≡ einval → ⊥
not-bad z = cc

-- ---- a refusal

-- a stage that ran out of memory has refused for that
wanted : (o : Option Refusal) → o ≡ Some wanting → o ≡ None → ⊥
wanted o is none = let k : None ≡ Some wanting = sym none ∙ is in absurd (cc)

some : (o : Option Refusal) (refusal : Refusal) → o ≡ Some refusal → o ≡ None → ⊥
some o refusal is none = let k : None ≡ Some refusal = sym none ∙ is in absurd (cc)

abbrev code_of : Option Refusal → ℤ
code_of None = pos 0
code_of (Some refusal) = refusal.code

-- ---- the call

pub returns-then-self : goal.returns-then-self
returns-then-self g c =
    let up = meaning g.U.ArrayStream.state c.args.self.now.up in
    let failed = ap (λ t. if t then Some wanting else up.failure) c.if-self.true in
    record {
      keeps = record { columns = refl; ending = refl; lawful = refl; held = refl; live = refl; schema = refl };
      code = twelve;
      tells = (refl, not-zero);
      refuses = λ _. c.requires.empty;
      told = λ _. tt;
      gave = λ _ z. absurd (not-zero z);
      units = omega (arith, ap Cost c.requires.empty);
      failure = failed;
      row_fault = subst (λ t. IsRowFault enomem up.ending (if t then None else up.fault)) (sym c.if-self.true) tt;
      repeats = record {
        same = λ refusal e. (ap code_of (sym failed ∙ e), sym failed ∙ e, refl);
        counts = λ refusal e. refl;
        shows = λ refusal e. refl;
      };
      answers = λ fresh. absurd (wanted _ failed fresh.no_failure);
      counts = λ fresh. absurd (wanted _ failed fresh.no_failure);
      gives = λ _ z. absurd (not-zero z);
      besides = λ _ _ h. h;
      shows = λ fresh. absurd (wanted _ failed fresh.no_failure);
    }

pub pull-requires-clause-rests : goal.pull-requires-clause-rests
pull-requires-clause-rests g c = λ _ _. c.args.self.now.rests

pub pull-requires-clause-live : goal.pull-requires-clause-live
pull-requires-clause-live g c = λ _ _. c.requires.live

pub pull-requires-clause-fits : goal.pull-requires-clause-fits
pull-requires-clause-fits g c = λ _ _. c.args.self.now.fits

pub pull-requires-clause-empty : goal.pull-requires-clause-empty
pull-requires-clause-empty g c = λ _ _. c.requires.empty

pub pull-requires-clause-room : goal.pull-requires-clause-room
pull-requires-clause-room g c = λ _ _. c.requires.room

pub pull-requires-clause-shared : goal.pull-requires-clause-shared
pull-requires-clause-shared g c = λ _ _. record { shared = c.requires.shared.shared }

pub returns-in-Err : goal.returns-in-Err
returns-in-Err g c =
    let up = meaning g.U.ArrayStream.state c.args.self.now.up in
    let n = meaning g.U.ArrayStream.state c.pull.new.up in
    let call = c.in-Err.ensures in
    let kept = call.keeps in
    let works = ap (λ t. if t then Some wanting else up.failure) c.if-self.false in
    record {
      keeps = record {
        columns = ap (map column_of) call.columns;
        ending = kept.ending;
        lawful = kept.lawful;
        held = kept.held;
        live = kept.live;
        schema = refl;
      };
      code = twelve;
      tells = (refl, not-zero);
      refuses = λ _. call.released;
      told = λ _. tt;
      gave = λ _ z. absurd (not-zero z);
      units = call.units;
      failure = refl;
      row_fault = tt;
      repeats = repeats-never _ _ enomem _ _ _ _ (λ refusal q. some up.failure refusal (sym works ∙ q) call.no_failure);
      answers = λ _. record {
        chunk = λ live. absurd (subst IsLive call.released live);
        finish = λ z. absurd (not-zero z);
        bad = λ z. absurd (not-bad z);
        wants = λ _. refl;
        codes = inr (inl refl);
      };
      counts = λ _ had. absurd (had refl);
      gives = λ _ z. absurd (not-zero z);
      besides = call.besides;
      shows = λ fresh.
          let x = call.shows (record { lawful = fresh.lawful; no_failure = sym works ∙ fresh.no_failure }) in
          record { shows = x.shows; order = record { made = x.order.made; goes_on = x.order.goes_on; gives = x.order.gives } };
    }

pub returns-in-Ok : goal.returns-in-Ok
returns-in-Ok g c =
    let up = meaning g.U.ArrayStream.state c.args.self.now.up in
    let n = meaning g.U.ArrayStream.state c.pull.new.up in
    let call = c.in-Ok.ensures in
    let kept = call.keeps in
    let e = same-code c.in-Ok.code call.code in
    let works = ap (λ t. if t then Some wanting else up.failure) c.if-self.false in
    record {
      keeps = record {
        columns = ap (map column_of) call.columns;
        ending = kept.ending;
        lawful = kept.lawful;
        held = kept.held;
        live = kept.live;
        schema = refl;
      };
      code = subst IsCode (sym e) call.code;
      tells = subst (λ z. Tells z n.said) (sym e) call.tells;
      refuses = λ h. call.refuses (λ z. h (e ∙ z));
      told = λ _. tt;
      gave = λ other _. absurd (true≢false (sym (c.args.self.now.lawful c.requires.live) ∙ other));
      units = call.units;
      failure = ap (λ t. if t then Some wanting else n.failure) c.if-self.false ∙ call.failure;
      row_fault = subst (λ t. IsRowFault (to_z w32 (of_z w32 c.in-Ok.code)) n.ending (if t then None else n.fault)) (sym c.if-self.false)
          (subst (λ z. IsRowFault z n.ending n.fault) (sym e) call.row_fault);
      repeats = record {
        same = λ refusal q.
            let told = call.repeats.same refusal (sym works ∙ q) in
            (e ∙ told.0, told.1, ap (λ f. if c.args.self.now.no_memory then None else f) told.2);
        counts = λ refusal q. call.repeats.counts refusal (sym works ∙ q);
        shows = λ refusal q. call.repeats.shows refusal (sym works ∙ q);
      };
      answers = λ fresh.
          let answers = call.answers (record { lawful = fresh.lawful; no_failure = sym works ∙ fresh.no_failure }) in
          record {
            chunk = answers.chunk;
            finish = λ z. answers.finish (sym e ∙ z);
            bad = λ z.
                let bad = answers.bad (sym e ∙ z) in
                (bad.0, bad.1, bad.2, bad.3, ap (λ t. if t then None else n.fault) c.if-self.false ∙ bad.4, bad.5);
            wants = λ z. answers.wants (sym e ∙ z);
            codes = elim answers.codes [ inl a ↦ inl (e ∙ a) | inr b ↦ elim b [ inl a ↦ inr (inl (e ∙ a)) | inr a ↦ inr (inr (e ∙ a)) ] ];
          };
      counts = λ fresh had. call.counts (record { lawful = fresh.lawful; no_failure = sym works ∙ fresh.no_failure }) (λ z. had (e ∙ z));
      gives = λ fresh zero. call.gives (record { lawful = fresh.lawful; no_failure = sym works ∙ fresh.no_failure }) (sym e ∙ zero);
      besides = call.besides;
      shows = λ fresh.
          let x = call.shows (record { lawful = fresh.lawful; no_failure = sym works ∙ fresh.no_failure }) in
          record {
            shows = record {
              shown = x.shows.shown;
              told = x.shows.told;
              begins = x.shows.begins;
              leaves = λ had. x.shows.leaves (λ z. had (e ∙ z));
              ends = λ had. x.shows.ends (λ z. had (e ∙ z));
            };
            order = record {
              made = x.order.made;
              goes_on = λ had. x.order.goes_on (λ z. had (e ∙ z));
              gives = λ had. x.order.gives (λ z. had (e ∙ z));
            };
          };
    }
