use Rattle.std.proofs.Common.{◌≡◌, ◌≤◌, arith}
use Rattle.slot_lock.specs.SlotRuns.{UnlocksRun}
use Rattle.audit.specs.Keeping.{HeldFrom}
use Rattle.audit.proofs.Held.{run_let_go, valid_held}
use Rattle.audit.proofs.holding.let_run_go.Goals as goal

pub unlock_run-requires-clause-valid : goal.unlock_run-requires-clause-valid
unlock_run-requires-clause-valid g c =
    valid_held _ (g.met.M.SlotMap.is_slot_map c.args.map.now) c.args.first c.args.end c.requires.held c.requires.some

-- the run, as it was let go
gone : (g : _) (c : goal.After-unlock_run g)
    → HeldFrom (g.M.SlotRead.slots c.unlock_run.new.self) c.unlock_run.result.upto c.args.end
    × ((g.M.SlotRead.slots c.unlock_run.new.self).info ≡ (g.M.SlotRead.slots c.args.map.now).info)
    × ((g.M.SlotRead.slots c.unlock_run.new.self).edge ≡ (g.M.SlotRead.slots c.args.map.now).edge)
    × (c.args.first ≤ c.unlock_run.result.upto) × (c.unlock_run.result.upto ≤ c.args.end)
gone g c =
    let some = c.requires.some in
    let run : UnlocksRun (g.M.SlotRead.slots c.args.map.now) (g.M.SlotRead.slots c.unlock_run.new.self) 0 c.args.first c.args.end c.unlock_run.result =
    rw c.only_core.ensures at c.unlock_run.ensures.unlocks in
    run_let_go _ _ c.args.first c.args.end c.unlock_run.result.slots c.unlock_run.result.upto c.requires.held (omega (arith, some)) run

pub returns-clause-held : goal.returns-clause-held
returns-clause-held g c = (gone g c).0

pub returns-clause-info : goal.returns-clause-info
returns-clause-info g c = (gone g c).1

pub returns-clause-edges : goal.returns-clause-edges
returns-clause-edges g c = (gone g c).2

pub returns-clause-low : goal.returns-clause-low
returns-clause-low g c = (gone g c).3

pub returns-clause-high : goal.returns-clause-high
returns-clause-high g c = (gone g c).4
