use Rattle.machine_model.proofs.Words.{inl, refl, subst, ap, ◌∙◌, to, PageRange}
use Rattle.slot_lock.specs.declared.slot_map.Got.{Got}
use Rattle.slot_lock.specs.declared.slot_map.Got.TheVariants as GotOf
use Rattle.slot_lock.specs.Slots.{DividesAs, IfSplit, Locks, Steps, between, crossed_edge}
use Rattle.core_steps.specs.Dividing.{LocksExactly}
use Rattle.core_steps.specs.State.{world}
use Rattle.core_steps.proofs.rows.Left.{left_valid}
use Rattle.core_steps.proofs.engine.Engine.go_lock.Goals as goal

pub range-end-requires : goal.range-end-requires
range-end-requires g c = c.requires.goal

pub lock_next-requires-clause-ordered : goal.lock_next-requires-clause-ordered
lock_next-requires-clause-ordered g c =
    (left_valid (world g.M.SlotRead.slots c.args.self.now) c.args.core c.args.goal c.args.cursor c.range-end.result c.requires c.range-end.ensures.value
    c.range-end.ensures.sound).0

pub lock_next-requires-clause-valid : goal.lock_next-requires-clause-valid
lock_next-requires-clause-valid g c =
    (left_valid (world g.M.SlotRead.slots c.args.self.now) c.args.core c.args.goal c.args.cursor c.range-end.result c.requires c.range-end.ensures.value
    c.range-end.ensures.sound).1

pub lock_next-requires-clause-not_held : goal.lock_next-requires-clause-not_held
lock_next-requires-clause-not_held g c = c.requires.ahead

pub locked_to-requires : goal.locked_to-requires
locked_to-requires g c = c.requires.goal

pub go_to-requires : goal.go_to-requires
go_to-requires g c = c.requires.here

pub returns-in-Split-clause-row : goal.returns-in-Split-clause-row
returns-in-Split-clause-row g c =
    let s = g.M.SlotRead.slots c.args.self.now.map in
    let t = g.M.SlotRead.slots c.lock_next.new.self in (
      GotOf.Split,
      (
        t,
        subst (λ (r : PageRange). Steps s t c.args.core c.args.cursor r.end GotOf.Split) c.range-end.ensures.value
            (subst (λ (got : Got). Steps s t c.args.core c.args.cursor c.range-end.result.end got) c.in-Split.is c.in_ok-lock_next.ensures.step),
        (refl, refl),
      ),
    )

pub returns-in-Held-clause-row : goal.returns-in-Held-clause-row
returns-in-Held-clause-row g c =
    let w = world g.M.SlotRead.slots c.args.self.now in
    let s = g.M.SlotRead.slots c.args.self.now.map in
    let t = g.M.SlotRead.slots c.lock_next.new.self in
    let step = subst (λ (r : PageRange). Steps s t c.args.core c.args.cursor r.end (GotOf.Held c.in-Held.by)) c.range-end.ensures.value
    (subst (λ (got : Got). Steps s t c.args.core c.args.cursor c.range-end.result.end got) c.in-Held.is c.in_ok-lock_next.ensures.step) in
    (GotOf.Held c.in-Held.by, (t, step, (refl, ap (λ x. record w { slots = x }) step.2)))

pub returns-in-Held-clause-divides : goal.returns-in-Held-clause-divides
returns-in-Held-clause-divides g c = λ stepped. absurd (cc)

pub returns-in-Split-clause-divides : goal.returns-in-Split-clause-divides
returns-in-Split-clause-divides g c = λ _.
    let s = g.M.SlotRead.slots c.args.self.now.map in
    let t = g.M.SlotRead.slots c.lock_next.new.self in
    subst (λ (r : PageRange). LocksExactly g.M.SlotMap.parts s c.args.core c.args.cursor r.end t) c.range-end.ensures.value (inl (
      (subst (λ (got : Got). Steps s t c.args.core c.args.cursor c.range-end.result.end got) c.in-Split.is c.in_ok-lock_next.ensures.step).crosses,
      subst (λ (got : Got). IfSplit got (DividesAs g.M.SlotMap.parts s t (crossed_edge s (between c.args.cursor c.range-end.result.end)))) c.in-Split.is
          c.in_ok-lock_next.ensures.exact,
    ))

pub returns-in-Locked-clause-row : goal.returns-in-Locked-clause-row
returns-in-Locked-clause-row g c =
    let w = world g.M.SlotRead.slots c.args.self.now in
    let s = g.M.SlotRead.slots c.args.self.now.map in
    let t = g.M.SlotRead.slots c.lock_next.new.self in (
      GotOf.Locked c.in-Locked.upto,
      (
        t,
        subst (λ (r : PageRange). Locks s t c.args.core c.args.cursor r.end c.in-Locked.upto) c.range-end.ensures.value
            (subst (λ (got : Got). Steps s t c.args.core c.args.cursor c.range-end.result.end got) c.in-Locked.is c.in_ok-lock_next.ensures.step),
        (refl, c.go_to.ensures ∙ ap (λ p. to c.args.core p (record w { slots = t })) c.locked_to.ensures),
      ),
    )
