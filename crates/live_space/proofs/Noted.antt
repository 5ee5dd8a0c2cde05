-- What the steps of a call make of its seat's notes, and of how many slots it holds
use Rattle.std.proofs.Common.{◌≡◌, ◌≤◌, ◌+◌, ◌&&◌, ℕ, Bool, true, false, length, arith, refl, sym, ap, subst, ◌∙◌}
use Rattle.std.proofs.lemmas.Bool.Decides.{nat_tests}
use Rattle.std.specs.Borrow.{MutBor}
use Rattle.machine_model.specs.declared.event.Event.TheVariants.{Guess, Whole}
use Rattle.machine_model.specs.declared.event.Outcome.TheVariants.{Stepped}
use Rattle.live_levels.specs.declared.act.Act.{Act}
use Rattle.live_tree.specs.Held.{HeldView}
use Rattle.live_tree.specs.Cutting.{CutsNext}
use Rattle.live_tree.specs.Steps.{Acquires}
use Rattle.live_tree.specs.declared.held.cut.Cutting.{Cutting}
use Rattle.live_tree.specs.declared.held.cut.Cutting.TheVariants as CuttingOf
use Rattle.live_tree.specs.declared.held.cut.Cutting.TheVariants.{Cut, Fits}
use Rattle.vm_base.specs.declared.page.PageRange.{PageRange}
use Rattle.live_tree.specs.declared.held.HoldStep.{HoldStep}
use Rattle.live_tree.specs.declared.held.HoldStep.TheVariants as GotOf
use Rattle.live_tree.specs.declared.held.HoldStep.TheVariants.{Locked, Split, Unseen, Owned}
use Rattle.seats.specs.Growing.{Grew, Steps}
use Rattle.seats.specs.Notes.{SeatView, noted, with_note}
use Rattle.seats.proofs.Growing.{grew_note, grew_steps, own_core, grew_none, grew_room, grew_next_page, grew_trans}
use Rattle.live_pages.specs.Steps.{StepsOnce, StepsWith, Stays, Tries, Wants}
use Rattle.live_pages.specs.declared.touching.Tried.{Tried}
use Rattle.live_pages.specs.declared.touching.Tried.TheVariants as TriedOf
use Rattle.live_pages.specs.declared.touching.Tried.TheVariants.{Served, Fault}
use Rattle.slot_lock.specs.declared.plan.Place.{Place}
use Rattle.slot_lock.specs.declared.plan.Touch.{Touch}
use Rattle.slot_lock.specs.Plan.{IsSoundPlace}
use Rattle.vm_base.specs.Pages.{is_page}
use Rattle.live_space.specs.Placing.{IsInWindow}
use Rattle.live_pages.specs.declared.frame.FrameSearch.{FrameSearch}
use Rattle.live_pages.specs.declared.frame.FrameSearch.TheVariants as WantedOf
use Rattle.live_pages.specs.declared.frame.FrameSearch.TheVariants.{Taken, NoFrame}
use Rattle.live_pages.proofs.Noting.{grew_takes, same_count}
use Rattle.live_space.specs.InFlight.{GoesOn, HasStepsLeft}

pub grew_once : (s t : SeatView) → StepsOnce s t → Grew s t
grew_once s t h = grew_steps s t h.0 h.1

-- ---- a guess at a page of the window, or none

window_page : (place : Place) (first : ℕ) → IsSoundPlace place → IsInWindow place first → is_page first ≡ true
window_page place first sound inside =
    let low = sound.window.low in
    let high = sound.window.high in
    let some = sound.some in
    let from = inside.0 in
    let upto = inside.1 in
    grind (arith, nat_tests)

pub grew_guess : (s t : SeatView) (place : Place) (core page ticket : ℕ) → IsSoundPlace place → IsInWindow place page → core ≡ s.core
    → t ≡ with_note s (noted ticket (Guess core page) Stepped) → Grew s t
grew_guess s t place core page ticket sound inside e n =
    let own = own_core core s.core e in
    let valid = window_page place page sound inside in
    grew_note s t (noted ticket (Guess core page) Stepped) n (λ i. own i && valid i)

pub grew_whole : (s t : SeatView) (core ticket : ℕ) → core ≡ s.core → t ≡ with_note s (noted ticket (Whole core) Stepped) → Grew s t
grew_whole s t core ticket e n = grew_note s t (noted ticket (Whole core) Stepped) n (own_core core s.core e)

-- a step was noted at most, and as many slots are held
pub record AtMostOne (s : SeatView) (h : HeldView) (t : SeatView) (k : HeldView) : Type 0 where
  pub grew : Grew s t
  pub room : s.room ≤ t.room + 1
  pub count : length k.slots ≡ length h.slots

pub one_once : (s t : SeatView) (h : HeldView) → StepsOnce s t → AtMostOne s h t h
one_once s t h e = record {
  grew = grew_once s t e;
  room = (let room = ap (λ (v : SeatView). v.room) e.1 in omega (arith, room));
  count = refl;
}

pub one_with : (act : Act) (s t : SeatView) (h k : HeldView) → StepsWith act s h t k → AtMostOne s h t k
one_with act s t h k w = record {
  grew = grew_steps s t w.ticket w.step;
  room = (let room = ap (λ (v : SeatView). v.room) w.step in omega (arith, room));
  count = same_count act s t h k w;
}

pub one_stays : (s t : SeatView) (h k : HeldView) → Stays s h t k → AtMostOne s h t k
one_stays s t h k e = record {
  grew = grew_none s t e.0;
  room = (let room = ap (λ (v : SeatView). v.room) e.0 in omega (arith, room));
  count = ap (λ (v : HeldView). length v.slots) e.1;
}

pub one_if : (act : Act) (s t : SeatView) (h k : HeldView) (done : Bool) → (done ≡ true → StepsWith act s h t k)
    → (done ≡ false → Stays s h t k) → AtMostOne s h t k
one_if act s t h k true steps stays = one_with act s t h k (steps refl)
one_if act s t h k false steps stays = one_stays s t h k (stays refl)

pub one_wants : (s t : SeatView) (h : HeldView) (wanted : FrameSearch) → Wants s t wanted → AtMostOne s h t h
one_wants s t h (Taken frame) e = record {
  grew = grew_takes s t frame e;
  room = (let room = ap (λ (v : SeatView). v.room) e.1 in omega (arith, room));
  count = refl;
}
one_wants s t h NoFrame e = one_once s t h e
one_wants s t h WantedOf.Lost e = one_stays s t h h (e, refl)

-- the try of an access notes two steps at most
pub room_tried : (touch : Touch) (s t : SeatView) (tried : Tried) → Tries touch s t tried → s.room ≤ t.room + 2
room_tried touch s t (Served reply) e =
    let step = ap (λ (v : SeatView). v.room) e.0.steps.1 in
    let answer = ap (λ (v : SeatView). v.room) e.0.answers.1 in
    omega (arith, step, answer)
room_tried touch s t Fault e = let step = ap (λ (v : SeatView). v.room) e.1 in omega (arith, step)
room_tried touch s t TriedOf.Lost e = let same = ap (λ (v : SeatView). v.room) e in omega (arith, same)

-- with room for one step more, so many are left after it
pub left_after : (n : ℕ) (s t : SeatView) (h k : HeldView) → HasStepsLeft (n + 1) h s → AtMostOne s h t k → HasStepsLeft n k t
left_after n s t h k left one =
    let room = one.room in
    let count = one.count in
    omega (arith, left, room, count)

-- ---- what a step towards holding pages notes, and what it leaves

pub grew_acquires : (s t : SeatView) (h k : HeldView) (core end room : ℕ) (got : HoldStep) → Acquires Steps s t h k core end room got → Grew s t
grew_acquires s t h k core end room Locked e = grew_steps s t e.0.0 e.0.1
grew_acquires s t h k core end room Split e = grew_steps s t e.0.0 e.0.1
grew_acquires s t h k core end room Unseen e = grew_steps s t e.0.0 e.0.1
grew_acquires s t h k core end room (Owned other) e = grew_none s t e.0
grew_acquires s t h k core end room GotOf.NoMemory e = grew_none s t e.0
grew_acquires s t h k core end room GotOf.Lost e = grew_none s t e.0

pub first_acquired : (s t : SeatView) (h k : HeldView) (core end room : ℕ) (got : HoldStep) → Acquires Steps s t h k core end room got → k.first ≡ h.first
first_acquired s t h k core end room Locked e = ap (λ (v : HeldView). v.first) e.1.now
first_acquired s t h k core end room Split e = ap (λ (v : HeldView). v.first) e.1
first_acquired s t h k core end room Unseen e = ap (λ (v : HeldView). v.first) e.1
first_acquired s t h k core end room (Owned other) e = ap (λ (v : HeldView). v.first) e.1
first_acquired s t h k core end room GotOf.NoMemory e = ap (λ (v : HeldView). v.first) e.1
first_acquired s t h k core end room GotOf.Lost e = ap (λ (v : HeldView). v.first) e.1

-- nothing behind the end is locked
pub end_acquired : (s t : SeatView) (h k : HeldView) (core end room : ℕ) (got : HoldStep) → Acquires Steps s t h k core end room got → h.end ≤ end → k.end ≤ end
end_acquired s t h k core end room Locked e le = subst (λ (v : HeldView). v.end ≤ end) (sym e.1.now) e.1.whole.ends
end_acquired s t h k core end room Split e le = subst (λ (v : HeldView). v.end ≤ end) (sym e.1) le
end_acquired s t h k core end room Unseen e le = subst (λ (v : HeldView). v.end ≤ end) (sym e.1) le
end_acquired s t h k core end room (Owned other) e le = subst (λ (v : HeldView). v.end ≤ end) (sym e.1) le
end_acquired s t h k core end room GotOf.NoMemory e le = subst (λ (v : HeldView). v.end ≤ end) (sym e.1) le
end_acquired s t h k core end room GotOf.Lost e le = subst (λ (v : HeldView). v.end ≤ end) (sym e.1) le

-- ---- what a cut notes, and what it leaves

pub grew_cuts : (s t : SeatView) (h k : HeldView) (core : ℕ) (range : PageRange) (cutting : Cutting) → CutsNext Steps s t h k core range cutting → Grew s t
grew_cuts s t h k core range Cut e = grew_steps s t e.0.0 e.0.1
grew_cuts s t h k core range CuttingOf.Unseen e = grew_steps s t e.0.0 e.0.1
grew_cuts s t h k core range Fits e = grew_none s t e.0
grew_cuts s t h k core range CuttingOf.NoMemory e = grew_none s t e.0
grew_cuts s t h k core range CuttingOf.Lost e = grew_none s t e.0

pub first_cut : (s t : SeatView) (h k : HeldView) (core : ℕ) (range : PageRange) (cutting : Cutting) → CutsNext Steps s t h k core range cutting
    → k.first ≡ h.first
first_cut s t h k core range Cut e = ap (λ (v : HeldView). v.first) e.1.after
first_cut s t h k core range CuttingOf.Unseen e = ap (λ (v : HeldView). v.first) e.1
first_cut s t h k core range Fits e = ap (λ (v : HeldView). v.first) e.1
first_cut s t h k core range CuttingOf.NoMemory e = ap (λ (v : HeldView). v.first) e.1
first_cut s t h k core range CuttingOf.Lost e = ap (λ (v : HeldView). v.first) e.1

pub end_cut : (s t : SeatView) (h k : HeldView) (core : ℕ) (range : PageRange) (cutting : Cutting) → CutsNext Steps s t h k core range cutting
    → k.end ≡ h.end
end_cut s t h k core range Cut e = ap (λ (v : HeldView). v.end) e.1.after
end_cut s t h k core range CuttingOf.Unseen e = ap (λ (v : HeldView). v.end) e.1
end_cut s t h k core range Fits e = ap (λ (v : HeldView). v.end) e.1
end_cut s t h k core range CuttingOf.NoMemory e = ap (λ (v : HeldView). v.end) e.1
end_cut s t h k core range CuttingOf.Lost e = ap (λ (v : HeldView). v.end) e.1

-- ---- a seat on which steps are noted

-- steps go on after others
pub goes_trans : (s t u : MutBor SeatView) → GoesOn s t → GoesOn t u → GoesOn s u
goes_trans s t u g h = record {
  same_reference = h.same_reference ∙ g.same_reference;
  grew = grew_trans s.now t.now u.now g.grew h.grew;
}

pub goes_then : (s t u : MutBor SeatView) → GoesOn s t → u.ghost_name ≡ t.ghost_name → Grew t.now u.now → GoesOn s u
goes_then s t u g e h = goes_trans s t u g (record { same_reference = e; grew = h })

-- before it they were noted in the same seat
pub goes_before : (s t u : MutBor SeatView) → GoesOn t u → t.ghost_name ≡ s.ghost_name → Grew s.now t.now → GoesOn s u
goes_before s t u h e g = goes_trans s t u (record { same_reference = e; grew = g }) h

pub grew_set_page : (s t : SeatView) (page : ℕ) → t ≡ record s { next_page = page } → Grew s t
grew_set_page s t page e = grew_next_page s t (e ∙ ap (λ p. record s { next_page = p }) (sym (ap (λ (v : SeatView). v.next_page) e)))

-- what steps and room make of the notes
pub ruleset steps = (grew_trans, grew_steps, grew_room, grew_none, grew_next_page, grew_once)
