-- What the searches over entries find, of the entries as a header takes them.
use Rattle.std.proofs.Common.{◌≡◌, ◌∙◌, ℕ, List, not, position, option_map, ap, sym}
use Rattle.std.specs.Borrow.{Bor}
use Rattle.std.specs.List.{find}
use Rattle.std.specs.Str.{bytes_eq}
use Rattle.csv_model.specs.promise.Header.{is_among, kind_or_text, type_for}
use Rattle.csv_model.specs.Header.{first_unknown}
use Rattle.stage_plan.specs.declared.types.TypeEntry.{TypeEntry}
use Rattle.stage_plan.specs.PlanWords.{has_text}
use Rattle.stage_plan.specs.promise.Entries.{entries_of}
use Rattle.stage_plan.specs.Entries.{entry_of}
use Rattle.csv_read.proofs.Remaining.{find-of-map, position-of-map, position-same}

pub unknown-is : (entries : List TypeEntry) (keys : List (Bor (List ℕ))) (names : List (List ℕ)) → ((name : List ℕ) → has_text keys name ≡ is_among names name)
    → first_unknown (entries_of entries) names ≡ position (λ e. not (has_text keys e.name)) entries
unknown-is entries keys names knows =
    position-of-map entry_of (λ e. not (is_among names e.name)) entries
    ∙ position-same (λ e. not (is_among names e.name)) (λ e. not (has_text keys e.name)) entries (λ e. ap not (sym (knows e.name)))

pub type-is : (entries : List TypeEntry) (name : List ℕ)
    → type_for (entries_of entries) name ≡ kind_or_text (option_map entry_of (find (λ e. bytes_eq e.name name) entries))
type-is entries name = ap kind_or_text (find-of-map entry_of (λ e. bytes_eq e.name name) entries)
