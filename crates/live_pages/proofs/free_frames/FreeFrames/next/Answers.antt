use Rattle.std.proofs.Common.{ap, sym, ◌∙◌}
use Rattle.frames.specs.Bits.{bit_in}
use Rattle.live_pages.proofs.FreeFrames.{none_counted}
use Rattle.live_pages.proofs.free_frames.FreeFrames.next.Goals as goal

pub returns-then-self-eq0-clause-none : goal.returns-then-self-eq0-clause-none
returns-then-self-eq0-clause-none g c k =
    sym (ap (λ v. bit_in v.words k) c.self.view_is)
    ∙ none_counted c.self.inside.words.items c.self.inside.frames c.self.inside.count c.self.invariant c.if-self-eq0.true k
