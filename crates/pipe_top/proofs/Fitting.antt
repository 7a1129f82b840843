-- What a step is made for.
use Rattle.std.proofs.Common.{◌≡◌, ◌≤◌, ◌*◌, ℕ, Bool, true, false, List, [], ◌∷◌, map, length, get_or, refl, sym, ap, subst, true≢false, arith}
use Rattle.std.proofs.lemmas.List.{length-append, length-map}
use Rattle.std.specs.List.{flat_map}
use Rattle.data_types.specs.promise.Parts.{picked}
use Rattle.data_types.specs.ColumnView.{column_of}
use Rattle.data_types.specs.promise.Table.{Column}
use Rattle.data_types.specs.declared.kind.ColumnType.{ColumnType}
use Rattle.stages.specs.Distinct.{DistinctPicks}
use Rattle.dict_stage.specs.Recoded.{RecodeFits}
use Rattle.stage_filter.specs.Filters.{FilterFits}
use Rattle.stage_kernels.specs.Packs.{PackFits}
use Rattle.stage_kernels.specs.Picks.{PickFits}
use Rattle.stage_kernels.specs.Unpacks.{UnpackFits}
use Rattle.stages.specs.Structs.{column_structs, most_structs}
use Rattle.stage_model.specs.promise.Typing.{no_column, totals_columns}
use Rattle.stage_model.specs.Typing.{FitsColumns, HasColumns}
use Rattle.stage_model.specs.declared.stage.Const.{Const}
use Rattle.stage_model.specs.declared.stage.Test.{Test}
use Rattle.stage_model.specs.declared.stage.Step.{Step}
use Rattle.stage_model.specs.declared.stage.Step.TheVariants as steps
use Rattle.total_stage.specs.Fits.{TotalsFits}

length-totals : (columns : List Column) → length (flat_map totals_columns columns) ≡ 4 * length columns
length-totals [] = refl
length-totals (c ∷ cs) = let e = length-totals cs in let both = length-append (totals_columns c) (flat_map totals_columns cs) in omega (arith, e, both)

module _ (out kept : List ColumnType) (before : List Column) (step : Step) (whole : kept ≡ out) (within : FitsColumns (length before) step)
    (after : HasColumns before step (map column_of out)) where
  pub select-fits : (picks items : List ℕ) → items ≡ picks → step ≡ steps.Select picks → DistinctPicks step → PickFits items kept before
  select-fits picks items same is distinct =
      rw (same, whole) (record {
        distinct = subst DistinctPicks is distinct;
        within = subst (FitsColumns (length before)) is within;
        columns = subst (λ s. HasColumns before s (map column_of out)) is after;
      })

  pub pack-fits : (rest picks stay go : List ℕ) → stay ≡ rest → go ≡ picks → step ≡ steps.Pack rest picks → DistinctPicks step
      → column_structs before ≤ most_structs → PackFits stay go kept before
  pack-fits rest picks stay go same same_picks is distinct few =
      let both = subst (FitsColumns (length before)) is within in
      let made = subst (λ s. HasColumns before s (map column_of out)) is after in
      rw (same, same_picks, whole) (record {
        distinct = subst DistinctPicks is distinct;
        stay = both.0;
        go = both.1;
        made = made.0;
        columns = made.1;
        few = few;
      })

  pub filter-fits : (column place : ℕ) (test : Test) (constant : Const) → place ≡ column → step ≡ steps.Filter column test constant
      → column_structs before ≤ most_structs → FilterFits place kept before
  filter-fits column place test constant same is few =
      rw (same, whole) (record {
        within = subst (FitsColumns (length before)) is within;
        columns = (subst (λ s. HasColumns before s (map column_of out)) is after).0;
        few = few;
      })

  pub unpack-fits : (column place : ℕ) → place ≡ column → step ≡ steps.Unpack column → column_structs before ≤ most_structs
      → UnpackFits place kept before
  unpack-fits column place same is few =
      let made = subst (λ s. HasColumns before s (map column_of out)) is after in
      rw (same, whole) (record {
        inside = subst (FitsColumns (length before)) is within;
        fields = made.0;
        is_struct = made.1;
        columns = made.2;
        few_structs = few;
      })

  pub dict-fits : (dict : Bool) (column place : ℕ) → dict ≡ true → place ≡ column → step ≡ steps.Dict column → column_structs before ≤ most_structs
      → RecodeFits dict place kept before
  dict-fits dict column place has same is few =
      let made = subst (λ s. HasColumns before s (map column_of out)) is after in
      rw (has, same, whole) (record {
        within = subst (FitsColumns (length before)) is within;
        type = made.0;
        is_old = made.1;
        has_bytes = λ _. made.2;
        columns = made.3;
        few_structs = few;
      })

  pub plain-fits : (dict : Bool) (column place : ℕ) → dict ≡ false → place ≡ column → step ≡ steps.Plain column → column_structs before ≤ most_structs
      → RecodeFits dict place kept before
  plain-fits dict column place has same is few =
      let made = subst (λ s. HasColumns before s (map column_of out)) is after in
      rw (has, same, whole) (record {
        within = subst (FitsColumns (length before)) is within;
        type = made.0;
        is_old = made.1;
        has_bytes = λ e. absurd (true≢false (sym e));
        columns = made.2;
        few_structs = few;
      })

  pub totals-fits : (picks items : List ℕ) → items ≡ picks → step ≡ steps.Totals picks → length (map column_of out) ≤ 4096
      → TotalsFits items kept before
  totals-fits picks items same is few =
      let made = subst (λ s. HasColumns before s (map column_of out)) is after in
      let as_many = ap length made.1 in
      let four = length-totals (picked no_column picks before) in
      let picked_many = length-map picks (λ p. get_or before p no_column) in
      rw (same, whole) (record {
        can = record { within = subst (FitsColumns (length before)) is within; summed = made.0 };
        columns = made.1;
        few = omega (arith, few, as_many, four, picked_many);
      })
