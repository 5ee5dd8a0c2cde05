use Rattle.std.proofs.Common.{sym, ◌∙◌}
use Rattle.core_steps.specs.State.{world}
use Rattle.core_steps.proofs.rows.Framing.{fill_shown, of_file_frame}
use Rattle.core_steps.proofs.engine.Engine.show_file.Goals as goal

pub share-requires-clause-cached : goal.share-requires-clause-cached
share-requires-clause-cached g c =
    of_file_frame (world g.M.SlotRead.slots c.args.self.now).memory.cached _ c.args.file c.args.page c.requires.backed ∙ (sym c.cached.ensures ∙ c.in-Some.is)

pub returns-in-Some : goal.returns-in-Some
returns-in-Some g c = rw (← c.cached.ensures, c.in-Some.is) c.share.ensures

pub returns-in_default-own : goal.returns-in_default-own
returns-in_default-own g c =
    let w = world g.M.SlotRead.slots c.args.self.now in
    absurd (fill_shown w c.args.core c.args.touch (rw c.in_default-own.is at c.requires.at)
    (of_file_frame w.memory.cached _ c.args.file c.args.page c.requires.backed ∙ (sym c.cached.ensures ∙ c.in_default.is)))

pub cache-requires-clause-at : goal.cache-requires-clause-at
cache-requires-clause-at g c = rw c.in-Some-own.is at c.requires.at

pub cache-requires-clause-none : goal.cache-requires-clause-none
cache-requires-clause-none g c = sym c.cached.ensures ∙ c.in_default.is

pub returns : goal.returns
returns g c = rw (← c.cached.ensures, c.in_default.is, c.in-Some-own.is) c.cache.ensures
