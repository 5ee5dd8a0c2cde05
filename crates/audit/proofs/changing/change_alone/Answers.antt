use Rattle.std.proofs.Common.{ap}
use Rattle.audit.specs.Keeping.{none_cached}
use Rattle.audit.proofs.Kept.{kept_alone, kept_changed, lost_taken}
use Rattle.audit.proofs.changing.change_alone.Goals as goal
use Rattle.audit.proofs.changing.change_alone.Goals.{in-Some, in_default}

pub give-requires-clause-taken : goal.give-requires-clause-taken
give-requires-clause-taken g c =
    (lost_taken (g.M.SlotRead.slots c.args.map.now) c.args.change c.args.page.info none_cached c.args.frames.now c.in-Some.frame
    c.requires.page.info c.in-Some.ensures c.requires.kept).1

pub give-requires-clause-in_range : goal.give-requires-clause-in_range
give-requires-clause-in_range g c =
    (lost_taken (g.M.SlotRead.slots c.args.map.now) c.args.change c.args.page.info none_cached c.args.frames.now c.in-Some.frame
    c.requires.page.info c.in-Some.ensures c.requires.kept).0

pub returns-clause-kept : goal.returns-clause-kept
returns-clause-kept g c = λ cached k. elim c.match-frame_lost.branch [
  | in-Some w ↦ rw w.frames-is (kept_alone (g.M.SlotRead.slots c.args.map.now) (g.M.SlotRead.slots c.change_free.new.self) c.args.change
      c.args.page.info cached c.args.frames.now w.give.new.self w.in-Some.frame c.requires.one c.requires.page.info w.in-Some.ensures
      w.give.ensures.free w.give.ensures.count c.change_free.ensures k)
  | in_default w ↦ rw w.frames-is (kept_changed (g.M.SlotRead.slots c.args.map.now) (g.M.SlotRead.slots c.change_free.new.self) c.args.change cached
      c.args.frames.now (ap (λ x. x.info) c.change_free.ensures) k)
]
