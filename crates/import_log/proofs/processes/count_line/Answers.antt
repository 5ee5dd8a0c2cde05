use Rattle.std.proofs.Common.{[], ◌∷◌, ◌++◌, ap, sym, ◌∙◌}
use Rattle.import_log.proofs.ProcessLemmas.{line_pushed}
use Rattle.import_log.proofs.processes.count_line.Goals as goal

pub returns-in_ok-push_process-in-None : goal.returns-in_ok-push_process-in-None
returns-in_ok-push_process-in-None c =
    let was = c.args.counted.now in
    c.in_ok-push_process-in-None.ensures ∙ (ap (λ p. was ++ p ∷ []) c.with_request-process.ensures
    ∙ line_pushed was c.args.number c.args.asks (sym c.place_of.ensures ∙ c.in-None.is))
