-- What a core does beside calls
use Rattle.machine_model.proofs.Words.{◌≡◌, ℕ, Bool, ap, subst, World, Step, List, Request, Entry}
use Rattle.machine_model.specs.declared.event.Event.{Event}
use Rattle.machine_model.specs.declared.event.Outcome.{Outcome}
use Rattle.machine_model.specs.Alone.{IsBeside, IsCalm}
use Rattle.core_steps.specs.Moving.{MayWant}
use Rattle.core_steps.specs.Machine.{IsLegal}
use Rattle.shared.specs.declared.asides.Aside.{Aside}
use Rattle.shared.specs.declared.asides.Aside.TheVariants as Does
use Rattle.shared.specs.Histories.{StepsAside, event_of}
use Rattle.shared.proofs.Limits.{aside_calm}

aside_beside : (w : World) (core : ℕ) (aside : Aside) → IsBeside w (event_of core aside)
aside_beside w core (Does.Walk page) = tt
aside_beside w core (Does.Evict page) = tt
aside_beside w core Does.Flush = tt
aside_beside w core Does.Review = tt
aside_beside w core (Does.Fold page) = tt

-- it takes no memory
wants_none : (keeps : Bool) (w : World) (core : ℕ) (aside : Aside) → MayWant keeps w (event_of core aside) → ⊥
wants_none keeps w core (Does.Walk page) m = m
wants_none keeps w core (Does.Evict page) m = m
wants_none keeps w core Does.Flush m = m
wants_none keeps w core Does.Review m = m
wants_none keeps w core (Does.Fold page) m = m

pub never_wants : (keeps : Bool) (w : World) (core : ℕ) (aside : Aside) (e : Event) → e ≡ event_of core aside → MayWant keeps w e → ⊥
never_wants keeps w core aside e is m = wants_none keeps w core aside (subst (MayWant keeps w) is m)

pub aside_steps : (w : World) (core : ℕ) (aside : Aside) (e : Event) (o : Outcome) (v : World) → IsLegal w → IsCalm w → e ≡ event_of core aside → Step w e o v
    → StepsAside w (event_of core aside) o v × IsCalm v
aside_steps w core aside e o v legal calm is s =
    let step = subst (λ e. Step w e o v) is s in
    let k = aside_calm w core (event_of core aside) o v legal calm (aside_beside w core aside) step in
    ((step, ap (λ (p : List Request × List Entry). record { requests = p.0; entries = p.1 }) (λ i. (k.requests i, k.log i))), k.calm)
