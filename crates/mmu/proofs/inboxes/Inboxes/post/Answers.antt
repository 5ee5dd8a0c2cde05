use Rattle.std.proofs.Common.{rules, ◌≡◌, ap, ◌∙◌, arith, length}
use Rattle.std.proofs.lemmas.List.{take_at}
use Rattle.mmu.specs.Inboxes.{inbox, owner, sent, awaited}
use Rattle.mmu.proofs.Waits.{index_sent}
use Rattle.mmu.proofs.inboxes.Inboxes.post.Goals as goal

pub invariant_of-self : goal.invariant_of-self
invariant_of-self g c =
    let boxes = c.self.inside.inboxes.items in
    let t : c.deref_mut.result.now ≡ boxes = c.deref_mut.ensures.value in
    let len : length c.deliver.new.inboxes ≡ length boxes = c.deliver.auto.inboxes ∙ ap length t in
    let full : length boxes ≡ c.self.inside.inboxes.len = search rules in
    rw (take_at c.deliver.new.inboxes _ _ (len ∙ full), c.index.ensures.value) (
      index_sent boxes c.deliver.new.inboxes c.self.inside.awaited c.args.from c.args.to c.args.range c.self.invariant.0
          (omega arith) c.index.ensures.in_range len
          (c.deliver.ensures.owners ∙ ap owner t)
          (c.deliver.ensures.messages ∙ ap (λ b. sent c.args.from c.args.to c.args.range (inbox b)) t)
          (λ d. ap (λ v. awaited (inbox v) c.args.from d) c.self.view_is ∙ c.requires.idle d),
      omega (arith, len, c.self.invariant.1),
    )
