use Rattle.std.proofs.Common.{ap, ◌∙◌, false}
use Rattle.vm_base.specs.Cores.{members}
use Rattle.vm_base.specs.Functions.{put}
use Rattle.state_seen.specs.Held.{held, told_by}
use Rattle.state_seen.proofs.Doing.{evicted, shot, took, translated, walked}
use Rattle.state_seen.proofs.watching.do_deed.Goals as goal

pub returns-in-Translate-clause-done : goal.returns-in-Translate-clause-done
returns-in-Translate-clause-done g c = λ e d lt. ap (λ f. f d) c.act_at.ensures.held
    ∙ translated c.args.deed.now c.in-Translate.core c.in-Translate.touch c.in-Translate.entry (held c.args.all.now.items) d c.in-Translate.is

pub returns-in-Take-clause-done : goal.returns-in-Take-clause-done
returns-in-Take-clause-done g c = λ e d lt. ap (λ f. f d) c.act_at-in-Take.ensures.held
    ∙ took c.args.deed.now c.in-Take.core (held c.args.all.now.items) d c.in-Take.is

pub returns-in-Walk-clause-done : goal.returns-in-Walk-clause-done
returns-in-Walk-clause-done g c = λ e d lt. ap (λ f. f d) c.act_at-in-Walk.ensures.held
    ∙ walked c.args.deed.now c.in-Walk.core c.in-Walk.page c.in-Walk.entry (held c.args.all.now.items) d c.in-Walk.is

pub returns-in-Evict-clause-done : goal.returns-in-Evict-clause-done
returns-in-Evict-clause-done g c = λ e d lt. ap (λ f. f d) c.act_at-in-Evict.ensures.held
    ∙ evicted c.args.deed.now c.in-Evict.core c.in-Evict.page (held c.args.all.now.items) d c.in-Evict.is

pub returns-in-Shoot-clause-done : goal.returns-in-Shoot-clause-done
returns-in-Shoot-clause-done g c = λ e d lt. c.tell_all.ensures.held e d lt
    ∙ ap (λ s. told_by c.in-Shoot.core s c.in-Shoot.range (held c.act_at-in-Shoot.new.all.items) d) c.without.ensures
    ∙ ap (λ h. told_by c.in-Shoot.core (put (members c.in-Shoot.set) c.in-Shoot.core false) c.in-Shoot.range h d) c.act_at-in-Shoot.ensures.held
    ∙ shot c.args.deed.now c.in-Shoot.core c.in-Shoot.set c.in-Shoot.range (held c.args.all.now.items) d c.in-Shoot.is
