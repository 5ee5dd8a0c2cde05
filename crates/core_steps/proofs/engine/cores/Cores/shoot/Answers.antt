use Rattle.machine_model.proofs.Words.{◌≡◌, ◌<◌, true, false, ap, sym, subst, ◌∙◌, members, put_all, put_same, awaited}
use Rattle.core_steps.specs.Parts.{parts}
use Rattle.core_steps.proofs.engine.Each.{shot_set}
use Rattle.core_steps.proofs.engine.cores.Cores.shoot.Goals as goal

pub post-requires-clause-idle : goal.post-requires-clause-idle
post-requires-clause-idle g c = λ d. ap (λ h. awaited h.inbox c.args.core d) c.drop_own.ensures.after ∙ c.requires.idle d

pub post-requires-clause-others : goal.post-requires-clause-others
post-requires-clause-others g c = ap (λ f. f c.args.core) c.without.ensures ∙ put_same (members c.args.set) c.args.core false

pub post-requires-clause-within : goal.post-requires-clause-within
post-requires-clause-within g c = λ d h.
    let member : members c.args.set d ≡ true =
    put_all (λ e b. b ≡ true → members c.args.set e ≡ true) (members c.args.set) c.args.core false (λ e. absurd cc) (λ e ne k. k) d
    (sym (ap (λ f. f d) c.without.ensures) ∙ h) in
    subst (λ n. d < n) (sym (c.drop_own.new.self.whole ∙ c.drop_own.ensures.count)) (c.requires.within d member)

pub returns-clause-after : goal.returns-clause-after
returns-clause-after g c =
    shot_set (parts c.args.self.now).hardware (parts c.drop_own.new.self).hardware c.args.core c.args.set c.without.result c.args.range _
    c.drop_own.ensures.after c.without.ensures c.post.ensures.messages
