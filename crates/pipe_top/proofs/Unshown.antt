-- What is shown where nothing is.
use Rattle.std.proofs.Common.{ℕ, ◌≡◌, List, Option, Result, Ok, Err, sym, subst}
use Rattle.stage_chain.proofs.Chaining.{shows-nothing}
use Rattle.stream_face.specs.promise.Shown.{Seen}
use Rattle.run_model.specs.promise.Answer.{Table, Task, Tree}
use Rattle.run_model.specs.declared.fault.RunFault.{RunFault}
use Rattle.pipe_top.specs.promise.Traffic.{ShowsAsked}

-- where nothing was shown, the first chunks of whatever links were
pub unshown : (asked : Result Task RunFault) (bytes : List ℕ) (old new : Option (List Seen)) → new ≡ old → ShowsAsked asked bytes old new
unshown (Ok (Table request)) bytes old new same =
    subst (λ n. ShowsAsked (Ok (Table request)) bytes old n) (sym same) (shows-nothing _ _ old)
unshown (Ok Tree) bytes old new same = same
unshown (Err fault) bytes old new same = same
