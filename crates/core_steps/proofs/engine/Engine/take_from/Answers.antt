use Rattle.std.proofs.Common.{refl, subst}
use Rattle.core_steps.specs.OnePage.{CanTake, HasRoom}
use Rattle.core_steps.specs.State.{world}
use Rattle.core_steps.proofs.engine.Engine.take_from.Goals as goal

pub inc-requires-clause-core : goal.inc-requires-clause-core
inc-requires-clause-core g c = (subst (CanTake (world g.M.SlotRead.slots c.args.self.now) c.args.core) c.in-Cached.is c.requires.can).here

pub inc-requires-clause-object : goal.inc-requires-clause-object
inc-requires-clause-object g c = (subst (CanTake (world g.M.SlotRead.slots c.args.self.now) c.args.core) c.in-Cached.is c.requires.can).object

pub inc-requires-clause-used : goal.inc-requires-clause-used
inc-requires-clause-used g c = (subst (CanTake (world g.M.SlotRead.slots c.args.self.now) c.args.core) c.in-Cached.is c.requires.can).used

pub inc-requires-clause-few : goal.inc-requires-clause-few
inc-requires-clause-few g c = (subst (CanTake (world g.M.SlotRead.slots c.args.self.now) c.args.core) c.in-Cached.is c.requires.can).few

pub read_page-requires : goal.read_page-requires
read_page-requires g c = subst (CanTake (world g.M.SlotRead.slots c.args.self.now) c.args.core) c.in-Read.is c.requires.can

pub copy_page-requires-clause-can : goal.copy_page-requires-clause-can
copy_page-requires-clause-can g c = subst (CanTake (world g.M.SlotRead.slots c.args.self.now) c.args.core) c.in-First.is c.requires.can

pub copy_page-requires-clause-room : goal.copy_page-requires-clause-room
copy_page-requires-clause-room g c =
    subst (λ s. HasRoom s (g.L.Ledger.limit c.args.self.now.calls.ledger) (g.L.Ledger.fits c.args.self.now.calls.ledger)) c.in-First.is c.requires.room

pub copy_shown-requires-clause-can : goal.copy_shown-requires-clause-can
copy_shown-requires-clause-can g c = subst (CanTake (world g.M.SlotRead.slots c.args.self.now) c.args.core) c.in-Shown.is c.requires.can

pub copy_shown-requires-clause-room : goal.copy_shown-requires-clause-room
copy_shown-requires-clause-room g c =
    subst (λ s. HasRoom s (g.L.Ledger.limit c.args.self.now.calls.ledger) (g.L.Ledger.fits c.args.self.now.calls.ledger)) c.in-Shown.is c.requires.room

pub returns-in-Own : goal.returns-in-Own
returns-in-Own g c = rw c.in-Own.is (_, refl, refl)

pub returns-in-Cached : goal.returns-in-Cached
returns-in-Cached g c = rw c.in-Cached.is (_, (_, c.inc.ensures.step, refl), refl)

pub returns-in-Free : goal.returns-in-Free
returns-in-Free g c =
    rw c.in-Free.is (
      _,
      (_, c.begin.ensures.step, refl),
      rw (c.fill_zero.ensures.bytes, c.fill_zero.ensures.free, c.fill_zero.ensures.count, c.take.ensures.bytes, c.take.ensures.free, c.take.ensures.count) refl,
    )

pub returns-in-Read : goal.returns-in-Read
returns-in-Read g c = rw c.in-Read.is (_, (c.read_page.ensures.0, c.read_page.ensures.1, refl), c.read_page.ensures.2)

pub returns-in-First : goal.returns-in-First
returns-in-First g c = rw c.in-First.is (_, (c.copy_page.ensures.0, c.copy_page.ensures.1, refl), c.copy_page.ensures.2)

pub returns-in-Shown : goal.returns-in-Shown
returns-in-Shown g c = rw c.in-Shown.is (_, (c.copy_shown.ensures.0, c.copy_shown.ensures.1, refl), c.copy_shown.ensures.2)
