-- What a chain of stages over a stream shows and counts.
use Rattle.std.specs.Prelude.{ℕ, zero, suc, ◌+◌, List, [], ◌∷◌, Option, None, Some}
use Rattle.csv_write.specs.promise.Runs.{ShowsAll, ShowsSome}
use Rattle.data_types.specs.declared.row_fault.RowFault.{RowFault}
use Rattle.stage_model.specs.promise.Links.{Link}
use Rattle.stage_model.specs.promise.Stages.{chunks_after}
use Rattle.stage_model.specs.declared.stage.Step.{Step}
use Rattle.stream_face.specs.promise.Shown.{Seen, Shown, shown_tables}
use Rattle.stream_face.specs.promise.Streams.{Making}

-- what the link of a number shows, where they are numbered from 0
abbrev pub link_shows : List Link → ℕ → List Shown
link_shows [] k = []
link_shows (link ∷ links) zero = shown_tables link.columns link.chunks
link_shows (link ∷ links) (suc k) = link_shows links k

-- how a link is made of the one before it, by its maker, where the source ends so
abbrev pub link_making : Option RowFault → ℕ → Option Step → Option Making
link_making ending before None = None
link_making ending before (Some step) = Some (record { link = before; makes = chunks_after step ending })

-- and links behind one of this number
abbrev pub makings_behind : Option RowFault → ℕ → List Link → ℕ → Option Making
makings_behind ending before [] k = None
makings_behind ending before (link ∷ links) zero = link_making ending before link.maker
makings_behind ending before (link ∷ links) (suc k) = makings_behind ending (before + 1) links k

-- how the link of a number is made, where they are numbered from 0: the first is made of none
abbrev pub link_makings : Option RowFault → List Link → ℕ → Option Making
link_makings ending [] k = None
link_makings ending (link ∷ links) zero = None
link_makings ending (link ∷ links) (suc k) = makings_behind ending 0 links k

-- a run has shown all tables of these links, or the first ones of each, each after all that it is made of
abbrev pub ShowsLinks : List Link → Option (List Seen) → Option (List Seen) → Type 0
ShowsLinks links = ShowsAll (link_shows links) (link_makings None links)

abbrev pub ShowsFirst : List Link → Option (List Seen) → Option (List Seen) → Type 0
ShowsFirst links = ShowsSome (link_shows links) (link_makings None links)
