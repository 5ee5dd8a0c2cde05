use Rattle.machine_model.proofs.Words.{◌≡◌, ◌∙◌, refl, sym, ap, subst, true, false, rules, Step}
use Rattle.std.specs.Prelude.{◌≢◌}
use Rattle.machine_model.specs.declared.event.Event.TheVariants.{Evict}
use Rattle.machine_model.specs.declared.event.Outcome.TheVariants.{Full}
use Rattle.machine_model.specs.declared.phase.Phase.TheVariants.{Free}
use Rattle.vm_base.specs.Pages.{is_page, page_of}
use Rattle.core_steps.specs.State.{world}
use Rattle.driven.specs.Telling.{CallsTelling}
use Rattle.driven.specs.Served.{HasEntryFor}
use Rattle.driven.specs.Gotten.{may_copy, IsUncopiedAt}
use Rattle.driven.proofs.Served.{evicted, phase_kept, is_served}
use Rattle.driven.proofs.Gotten.{is_uncopied}
use Rattle.driven.proofs.touching.touch_telling.Goals as goal

pub call_at_once-requires : goal.call_at_once-requires
call_at_once-requires g c =
    let w = world g.M.SlotRead.slots c.args.machine.now.engine in
    let m = world g.M.SlotRead.slots c.step.new.self.engine in
    let page = c.page_of-page.ensures.value in
    let step = subst (λ p. Step w (Evict c.args.core p) c.in-Ok.evicted m) page c.in-Ok.ensures.step in
    let other : c.in-Ok.evicted ≢ Full = search rules in
    let free : m.calls.phase c.args.core ≡ Free =
    ap (λ f. f c.args.core) (phase_kept w m c.args.core (page_of c.args.at) c.in-Ok.evicted step) ∙ c.requires.free in
    let valid : is_page (page_of c.args.at) ≡ true = subst (λ p. is_page p ≡ true) page (c.if-is_permitted.ensures.valid refl) in
    let entry : HasEntryFor m c.args.core (page_of c.args.at) c.args.request =
    subst (λ p. HasEntryFor m c.args.core p c.args.request) page (c.if-is_permitted.ensures.entry refl) in
    is_served m c.args.core c.args.at c.args.request entry.0 c.requires.access free valid
    (evicted w m c.args.core (page_of c.args.at) c.in-Ok.evicted c.requires.here other step) entry.1 entry.2

pub returns-then-is_permitted : goal.returns-then-is_permitted
returns-then-is_permitted g c =
    let w = world g.M.SlotRead.slots c.args.machine.now.engine in
    let m = world g.M.SlotRead.slots c.step.new.self.engine in
    let v = world g.M.SlotRead.slots c.call_at_once.new.machine.engine in (
      c.in-Ok.evicted,
      m,
      subst (λ p. Step w (Evict c.args.core p) c.in-Ok.evicted m) c.page_of-page.ensures.value c.in-Ok.ensures.step,
      subst (λ t. CallsTelling g.L.Ledger.keeps m c.args.core c.args.request t c.call_at_once.result v) (sym c.requires.nothing)
          c.call_at_once.ensures,
    )

pub returns : goal.returns
returns g c =
    let w = world g.M.SlotRead.slots c.args.machine.now.engine in
    let m = world g.M.SlotRead.slots c.step.new.self.engine in (
      c.in-Ok.evicted,
      m,
      subst (λ p. Step w (Evict c.args.core p) c.in-Ok.evicted m) c.page_of-page.ensures.value c.in-Ok.ensures.step,
      c.call_telling.ensures.calls,
    )

pub call_uncopied-requires-clause-access : goal.call_uncopied-requires-clause-access
call_uncopied-requires-clause-access g c =
    let w = world g.M.SlotRead.slots c.args.machine.now.engine in
    let m = world g.M.SlotRead.slots c.step.new.self.engine in
    let page = c.page_of-page.ensures.value in
    let step = subst (λ p. Step w (Evict c.args.core p) c.in-Ok.evicted m) page c.in-Ok.ensures.step in
    let free : m.calls.phase c.args.core ≡ Free =
    ap (λ f. f c.args.core) (phase_kept w m c.args.core (page_of c.args.at) c.in-Ok.evicted step) ∙ c.requires.free in
    let valid : is_page (page_of c.args.at) ≡ true = subst (λ p. is_page p ≡ true) page (c.if-is_uncopied.ensures.valid refl) in
    let kept : may_copy (m.slots.info (page_of c.args.at)) c.args.request ≡ false =
    subst (λ p. may_copy (m.slots.info p) c.args.request ≡ false) page (c.if-is_uncopied.ensures.kept refl) in
    subst (λ p. IsUncopiedAt m c.args.core p c.args.request) (sym page)
    (is_uncopied m c.args.core c.args.at c.args.request c.requires.access free valid kept)

pub returns-then-is_uncopied : goal.returns-then-is_uncopied
returns-then-is_uncopied g c =
    let w = world g.M.SlotRead.slots c.args.machine.now.engine in
    let m = world g.M.SlotRead.slots c.step.new.self.engine in (
      c.in-Ok.evicted,
      m,
      subst (λ p. Step w (Evict c.args.core p) c.in-Ok.evicted m) c.page_of-page.ensures.value c.in-Ok.ensures.step,
      c.call_uncopied.ensures,
    )
