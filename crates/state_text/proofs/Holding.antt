-- The pages that are shown as held are those that a call holds, and these its core owns.
use Rattle.machine_model.proofs.Words.{◌≡◌, ◌≢◌, ℕ, ◌+◌, ◌<◌, ◌≤◌, ◌==◌, ◌&&◌, Bool, true, false, refl, sym, ap, ◌∙◌, arith, nat_le, nat_lt, nat_tests}
use Rattle.machine_model.proofs.Words.{Some, has, PageRange, Touch, Goal, World, page_of_touch}
use Rattle.machine_model.specs.declared.phase.Phase.{Phase}
use Rattle.std.specs.Prelude.{if◌then◌else◌, ◌↔◌}
use Rattle.slot_lock.specs.declared.plan.Goal.TheVariants as To
use Rattle.slot_lock.specs.Plan.{goal_range}
use Rattle.machine_model.specs.Holding.{holds}
use Rattle.machine_model.specs.declared.phase.Phase.TheVariants as At
use Rattle.machine_model.specs.Sound.{IsReached}
use Rattle.machine_model.proofs.SoundKept.{reached_fine}
use Rattle.state_text.specs.declared.words.WorkPages.TheVariants.{Nowhere, Pages}
use Rattle.state_text.specs.Words.{goal_spot, held_spot, pages_if, spot_has}

some_pages : (r : PageRange) (p : ℕ) → spot_has (pages_if r) p ≡ has r p
some_pages r p = go (r.first == r.end) refl (nat_le r.first p) refl (nat_lt p r.end) refl
  where
    go : (b : Bool) → (r.first == r.end) ≡ b → (l : Bool) → nat_le r.first p ≡ l → (m : Bool) → nat_lt p r.end ≡ m
        → spot_has (if b then Nowhere else Pages r) p ≡ nat_le r.first p && nat_lt p r.end
    go false i l j m k = refl
    go true i true j true k = absurd (let same : r.first ≡ r.end = grind (arith, nat_tests, i) in let low : r.first ≤ p = grind (arith, nat_tests, j) in
        let high : p < r.end = grind (arith, nat_tests, k) in omega (arith, same, low, high))
    go true i false j m k = sym (ap (λ b. b && nat_lt p r.end) j)
    go true i true j false k = sym (ap (λ b. nat_le r.first p && b) k ∙ ap (λ b. b && false) j)

one_page : (touch : Touch) (p : ℕ) → (p == touch.page) ≡ has (page_of_touch touch) p
one_page touch p = go (p == touch.page) refl (nat_le touch.page p) refl (nat_lt p (touch.page + 1)) refl
  where
    both : (l m : Bool) → nat_le touch.page p ≡ l → nat_lt p (touch.page + 1) ≡ m → l && m ≡ has (page_of_touch touch) p
    both l m j k = sym (ap (λ b. b && nat_lt p (touch.page + 1)) j ∙ ap (λ b. l && b) k)

    go : (b : Bool) → (p == touch.page) ≡ b → (l : Bool) → nat_le touch.page p ≡ l → (m : Bool) → nat_lt p (touch.page + 1) ≡ m
        → (p == touch.page) ≡ has (page_of_touch touch) p
    go true i true j true k = i ∙ both true true j k
    go true i true j false k = absurd (let same : p ≡ touch.page = grind (arith, nat_tests, i) in
        let out : touch.page + 1 ≤ p = grind (arith, nat_tests, k) in omega (arith, same, out))
    go true i false j m k = absurd (let same : p ≡ touch.page = grind (arith, nat_tests, i) in
        let out : p < touch.page = grind (arith, nat_tests, j) in omega (arith, same, out))
    go false i true j true k = absurd (let other : p ≢ touch.page = grind (arith, nat_tests, i) in
        let low : touch.page ≤ p = grind (arith, nat_tests, j) in let high : p < touch.page + 1 = grind (arith, nat_tests, k) in
        omega (arith, other, low, high))
    go false i true j false k = i ∙ both true false j k
    go false i false j m k = i ∙ both false m j k

of_goal : (goal : Goal) (p : ℕ) → spot_has (goal_spot goal) p ≡ has (goal_range goal) p
of_goal (To.Place place target) p = refl
of_goal (To.Change change) p = refl
of_goal (To.Access touch) p = one_page touch p

pub shown_held : (phase : Phase) (p : ℕ) → spot_has (held_spot phase) p ≡ holds phase p
shown_held At.Free p = refl
shown_held (At.Check request) p = refl
shown_held (At.Lock goal cursor) p = some_pages (record { first = (goal_range goal).first; end = cursor }) p
shown_held (At.Guess place) p = refl
shown_held (At.Find place target) p = refl
shown_held (At.Back place target held) p = some_pages held p
shown_held (At.Cut place target range) p = refl
shown_held (At.Decide change) p = refl
shown_held (At.Post change shoot) p = refl
shown_held (At.Acks goal change) p = of_goal goal p
shown_held (At.Unlock held reply) p = some_pages held p
shown_held (At.Answer reply) p = refl
shown_held (At.Try touch) p = refl
shown_held (At.Settle touch) p = one_page touch p
shown_held (At.Want touch old) p = one_page touch p
shown_held (At.Fill touch frame) p = one_page touch p
shown_held (At.CopyPost touch frame) p = one_page touch p
shown_held (At.CopyAcks touch frame) p = one_page touch p
shown_held (At.Install touch) p = one_page touch p
shown_held (At.Release touch) p = one_page touch p

pub held_owned : (w : World) → IsReached w → (c p : ℕ) → (w.slots.owner p ≡ Some c) ↔ (spot_has (held_spot (w.calls.phase c)) p ≡ true)
held_owned w r c p = (
  λ own. shown_held (w.calls.phase c) p ∙ (reached_fine w r).order.only c p own,
  λ is. (reached_fine w r).order.owned c p (sym (shown_held (w.calls.phase c) p) ∙ is),
)
