use Rattle.audit.proofs.Held.{slot_held}
use Rattle.audit.proofs.holding.let_go.Goals as goal

pub unlock_next-cursor-requires-clause-slot : goal.unlock_next-cursor-requires-clause-slot
unlock_next-cursor-requires-clause-slot g c =
    slot_held _ c.let_run_go-next.result c.args.end c.let_run_go-next.ensures.held c.if-next-end.true
