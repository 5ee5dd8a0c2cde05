-- What a deed does to all, by its kind
use Rattle.std.proofs.Common.{◌≡◌, ℕ, false, Option, refl, sym, subst}
use Rattle.vm_base.specs.Cores.{members}
use Rattle.vm_base.specs.Functions.{put}
use Rattle.vm_base.specs.declared.page.PageRange.{PageRange}
use Rattle.slot_lock.specs.declared.plan.Touch.{Touch}
use Rattle.mmu.specs.declared.entry.Translation.{Translation}
use Rattle.state_seen.specs.declared.deed.HardwareStep.{HardwareStep}
use Rattle.state_seen.specs.declared.deed.HardwareStep.TheVariants.{Translate, Shoot, Take, Walk, Evict}
use Rattle.state_seen.specs.Held.{Holds, done, own_part, told_by}

abbrev Does : ℕ → (ℕ → Holds) → ℕ → HardwareStep → Type 0
Does c h d deed = put h c (own_part deed (h c)) d ≡ done deed h d

pub translated : (deed : HardwareStep) (c : ℕ) (touch : Touch) (entry : Option Translation) (h : ℕ → Holds) (d : ℕ)
    → deed ≡ Translate c touch entry → Does c h d deed
translated deed c touch entry h d e = subst (Does c h d) (sym e) refl

pub took : (deed : HardwareStep) (c : ℕ) (h : ℕ → Holds) (d : ℕ) → deed ≡ Take c → Does c h d deed
took deed c h d e = subst (Does c h d) (sym e) refl

pub walked : (deed : HardwareStep) (c page : ℕ) (entry : Option Translation) (h : ℕ → Holds) (d : ℕ) → deed ≡ Walk c page entry → Does c h d deed
walked deed c page entry h d e = subst (Does c h d) (sym e) refl

pub evicted : (deed : HardwareStep) (c page : ℕ) (h : ℕ → Holds) (d : ℕ) → deed ≡ Evict c page → Does c h d deed
evicted deed c page h d e = subst (Does c h d) (sym e) refl

pub shot : (deed : HardwareStep) (c set : ℕ) (range : PageRange) (h : ℕ → Holds) (d : ℕ) → deed ≡ Shoot c set range
    → told_by c (put (members set) c false) range (put h c (own_part deed (h c))) d ≡ done deed h d
shot deed c set range h d e = subst (λ x. told_by c (put (members set) c false) range (put h c (own_part x (h c))) d ≡ done x h d) (sym e) refl
