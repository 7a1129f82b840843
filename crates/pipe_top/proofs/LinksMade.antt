-- What a chain over the batches of a text shows and counts are its links.
use Rattle.std.proofs.Common.{◌≡◌, ◌∙◌, List, None, Ok, ap, sym, subst}
use Rattle.std.proofs.lemmas.List.Sums.{sum_by-cons}
use Rattle.csv_model.specs.promise.Batches.{Chunks, batches_in}
use Rattle.csv_model.specs.promise.Header.{header_of}
use Rattle.csv_model.specs.promise.Reading.{Record, behind_header}
use Rattle.stage_plan.specs.promise.Entries.{entries_of}
use Rattle.csv_source.specs.Sources.{stream_of}
use Rattle.data_types.specs.promise.Table.{Column}
use Rattle.stage_chain.specs.Chains.{chain_links, chain_traffic}
use Rattle.csv_write.specs.Runs.{Counted}
use Rattle.stage_model.specs.promise.Links.{Link, Links, links_behind}
use Rattle.stage_model.specs.Traffic.{link_blocks, link_nodes}
use Rattle.stage_model.specs.promise.Typing.{Stage, plan_of}
use Rattle.stream_face.specs.Streams.{Stream}
use Rattle.unit_pass.specs.promise.Tally.{risen}
use Rattle.unit_pass.specs.Tally.{Tally}
use Rattle.run_model.specs.promise.Answer.{Request}
use Rattle.pipe_top.specs.promise.Traffic.{LinksTraffic, links_of}
use Rattle.pipe_top.specs.Traffic.{links_behind_header, links_planned}

module _ (request : Request) (records : List Record) (columns : List Column) (found : header_of (entries_of request.entries) records ≡ Ok columns)
    (stages : List Stage) (planned : plan_of columns request.stages ≡ Ok stages) where
  abbrev batches : Chunks
  batches = batches_in request.mark columns (behind_header records) request.batch

  links-are : links_of request records ≡ Links columns batches stages
  links-are =
      ap (λ h. links_behind_header request h (behind_header records)) found
      ∙ ap (λ p. links_planned request columns p (behind_header records)) planned

  pub chain-links-are : (s : Stream) → s ≡ stream_of columns batches → chain_links s stages ≡ links_of request records
  chain-links-are s is = rw is (sym links-are)

  abbrev source-link : Link
  source-link = record { maker = None; columns = columns; chunks = batches.chunks }

  pub chain-counts : (s : Stream) (a d : Tally) → s ≡ stream_of columns batches → Counted (chain_traffic s stages) a d
      → LinksTraffic (links_of request records) a.blocks a.nodes d.blocks d.nodes
  chain-counts s a d is counted =
      let now : Counted (chain_traffic (stream_of columns batches) stages) a d = subst (λ (m : Stream). Counted (chain_traffic m stages) a d) is counted in
      let behind = links_behind batches stages in
      subst (λ links. LinksTraffic links a.blocks a.nodes d.blocks d.nodes) (sym links-are) (record {
        blocks_are = now.blocks ∙ ap (risen a.blocks) (sym (sum_by-cons link_blocks source-link behind));
        nodes_are = now.nodes ∙ ap (risen a.nodes) (sym (sum_by-cons link_nodes source-link behind));
      })
