-- What is read of a machine's pages
use Rattle.machine_model.proofs.Words.{◌≡◌, ◌≢◌, ℕ, ◌+◌, ◌<◌, ◌≤◌, ◌==◌, ◌&&◌, Bool, true, false, refl, sym, ap, ◌∙◌, arith, nat_lt, nat_le, nat_tests}
use Rattle.machine_model.proofs.Words.{Some, None, Option, if◌then◌else◌, is_page, IsPage, is_some, PageInfo, PageRange, World, ∥∥₁_elim, props}
use Rattle.machine_model.proofs.Words.{Slots, IsSlotMap, has}
use Rattle.vm_base.specs.Info.{is_leaf}
use Rattle.slot_lock.specs.Slots.{IsSlot}
use Rattle.machine_model.specs.Invariant.{IsWellFormed}
use Rattle.machine_model.proofs.SoundKept.{reached_fine}
use Rattle.machine_model.specs.Sound.{IsReached}
use Rattle.state_seen.specs.declared.used.Used.{Used}
use Rattle.state_seen.specs.Used.{used_in, used_of}

-- a number that is no page's
invalid : (p : ℕ) → IsPage p → is_page p ≡ false → ⊥
invalid p h e = let low = h.0 in let high = h.1 in let other : is_page p ≡ true = grind (arith, nat_tests) in cc

off_page : (w : World) → IsWellFormed w → (p : ℕ) → is_page p ≡ false → used_in w p ≡ None
off_page w f p out = go (w.slots.info p) refl
  where
    go : (o : Option PageInfo) → w.slots.info p ≡ o → used_in w p ≡ None
    go None e = ap used_of e
    go (Some info) e = absurd (invalid p ((f.order.pages p).valid (ap is_some e)) out)

pub unused_off_page : (w : World) → ∥ IsReached w ∥₁ → (p : ℕ) → is_page p ≡ false → None ≡ used_in w p
unused_off_page w l p out = ∥∥₁_elim l (hlevel props) (λ r. sym (off_page w (reached_fine w r) p out))

-- ---- within a slot

unused_of : (info : Option PageInfo) → is_leaf info ≡ false → used_of info ≡ None
unused_of None e = refl
unused_of (Some info) e = ap (λ b. if b then Some (record { frame = info.frame; cores = info.cores }) else None) e

-- no page but the first of a slot was used
pub unused_within : (s : Slots) → IsSlotMap s → (r : PageRange) → IsSlot s r.first r.end → (p q : ℕ) → has r p ≡ true → p < q → q < r.end
    → used_of (s.info q) ≡ None
unused_within s m r slot p q inside above below = unused_of (s.info q) (go (is_leaf (s.info q)) refl)
  where
    low : r.first ≤ p
    low = front (nat_le r.first p) refl inside
      where
        front : (b : Bool) → nat_le r.first p ≡ b → b && nat_lt p r.end ≡ true → r.first ≤ p
        front true i h = grind (arith, nat_tests, i)
        front false i h = absurd cc

    go : (b : Bool) → is_leaf (s.info q) ≡ b → is_leaf (s.info q) ≡ false
    go false i = i
    go true i = absurd (let edge = (m.alone q i).0 in let none = slot.inside q (omega (arith, low, above)) below in cc)

pub below_end : (r : PageRange) (p : ℕ) → has r p ≡ true → p < r.end
below_end r p inside = go (nat_le r.first p) (nat_lt p r.end) refl inside
  where
    go : (a b : Bool) → nat_lt p r.end ≡ b → a && b ≡ true → p < r.end
    go true true i h = grind (arith, nat_tests, i)
    go true false i h = absurd cc
    go false b i h = absurd cc

-- between a page and the next one there is none
pub nothing_between : (p q : ℕ) (A : Type 0) → p < q → q < p + 1 → A
nothing_between p q A above below = absurd (omega (arith, above, below))
