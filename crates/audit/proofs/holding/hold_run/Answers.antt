use Rattle.std.proofs.Common.{◌≡◌, ◌≤◌, arith}
use Rattle.slot_lock.specs.SlotRuns.{LocksRun}
use Rattle.audit.specs.Keeping.{HeldFrom}
use Rattle.audit.proofs.Held.{run_held}
use Rattle.audit.proofs.holding.hold_run.Goals as goal

-- the run, as it was locked
held : (g : _) (c : goal.After-lock_run g)
    → HeldFrom (g.M.SlotRead.slots c.lock_run.new.self) c.args.range.first c.lock_run.result.upto
    × ((g.M.SlotRead.slots c.lock_run.new.self).info ≡ (g.M.SlotRead.slots c.args.map.now).info)
    × ((g.M.SlotRead.slots c.lock_run.new.self).edge ≡ (g.M.SlotRead.slots c.args.map.now).edge)
    × (c.args.cursor ≤ c.lock_run.result.upto) × (c.lock_run.result.upto ≤ c.args.range.end)
held g c =
    let low = c.requires.some.0 in
    let high = c.requires.some.1 in
    let run : LocksRun (g.M.SlotRead.slots c.args.map.now) (g.M.SlotRead.slots c.lock_run.new.self) 0 c.args.cursor c.args.range.end c.lock_run.result =
    rw c.only_core.ensures at c.lock_run.ensures.locks in
    run_held _ _ c.args.range.first c.args.cursor c.args.range.end c.lock_run.result.slots c.lock_run.result.upto c.requires.held low (omega (arith, high)) run

pub returns-clause-held : goal.returns-clause-held
returns-clause-held g c = (held g c).0

pub returns-clause-info : goal.returns-clause-info
returns-clause-info g c = (held g c).1

pub returns-clause-edges : goal.returns-clause-edges
returns-clause-edges g c = (held g c).2

pub returns-clause-low : goal.returns-clause-low
returns-clause-low g c = (held g c).3

pub returns-clause-high : goal.returns-clause-high
returns-clause-high g c = (held g c).4
