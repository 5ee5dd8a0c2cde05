use Rattle.std.proofs.Common.{rules, arith, ◌≡◌, ap, ◌∙◌, subst, get_or, length}
use Rattle.std.proofs.lemmas.List.{take_at}
use Rattle.vm_base.specs.Functions.{put}
use Rattle.vm_base.specs.Cores.{members}
use Rattle.mmu.specs.Messages.{remaining, waiter, AreFromOthers}
use Rattle.mmu.specs.Inboxes.{inbox, owner, acknowledged}
use Rattle.mmu.proofs.Waits.{index_taken}
use Rattle.mmu.proofs.inboxes.Inboxes.take.Goals as goal

pub invariant_of-self : goal.invariant_of-self
invariant_of-self g c =
    let boxes = c.self.inside.inboxes.items in
    let core = c.args.core in
    let s : c.deref.result.now ≡ boxes = c.deref.ensures.value in
    let t : c.deref_mut.result.now ≡ boxes = c.deref_mut.ensures.value in
    let len : length c.take_at.new.inboxes ≡ length boxes = c.take_at.auto.inboxes ∙ ap length t in
    let full : length boxes ≡ c.self.inside.inboxes.len = search rules in
    rw (take_at c.take_at.new.inboxes _ _ (len ∙ full)) (
      index_taken boxes c.take_at.new.inboxes c.self.inside.awaited c.acknowledge.new.awaited core
          (owner c.deref.result.now core) c.self.invariant.0 len
          (c.take_at.ensures.owners ∙ ap owner t)
          (c.take_at.ensures.messages ∙ ap (λ b. put (inbox b) core (remaining (inbox b core))) t)
          (subst (λ b. AreFromOthers (owner c.deref.result.now core) (inbox b core)) s c.waiter-waiter.ensures.others)
          (λ k h. c.acknowledge.ensures k h ∙ ap (λ w. acknowledged (members (get_or c.self.inside.awaited k 0)) w core k)
          (c.waiter-waiter.ensures.value ∙ ap (λ b. waiter (inbox b core)) s)),
      omega (arith, len, c.self.invariant.1),
    )
