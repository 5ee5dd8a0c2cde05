use Rattle.std.proofs.Common.{ap, ◌∙◌, arith, get_or}
use Rattle.std.proofs.lemmas.List.{get_or_default}
use Rattle.vm_base.specs.Cores.{members}
use Rattle.mmu.specs.Inboxes.{inbox, awaited}
use Rattle.mmu.proofs.inboxes.Inboxes.waiting.Goals as goal

pub returns : goal.returns
returns g c =
    ap (λ i. members (get_or c.self.inside.awaited i c.index-self-place.result)) c.index-place.ensures.value
    ∙ ap members (get_or_default c.self.inside.awaited c.args.from c.index-self-place.result 0 (omega arith))
    ∙ c.self.invariant.0.kept c.args.from c.index-place.ensures.in_range
    ∙ ap (λ v. awaited (inbox v) c.args.from) c.self.view_is
