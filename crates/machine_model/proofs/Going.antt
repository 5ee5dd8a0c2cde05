-- A call that goes on and changes nothing else leaves an orderly state.
use Rattle.machine_model.proofs.Words.{◌≡◌, ◌≢◌, ℕ, ◌<◌, ◌≤◌, ⊎_elim, true, false, refl, sym, ap, subst, arith, Some, None, ◌∙◌, cases_lt, nat_tests}
use Rattle.machine_model.proofs.Words.{PageRange, has, IsPageRange, mode_of, is_mapped, Change, Touch, Put, Goal, Place, Target, Hint, Window, range_of}
use Rattle.machine_model.proofs.Words.{target_range, goal_range, goal_plan, IsTarget, HasTarget, IsSoundTouch, IsSoundGoal, Slots, between, Act, Again}
use Rattle.machine_model.proofs.Words.{Decides, DecidesPlace, entries, Phase, Free, Check, Guess, Find, Cut, Decide, Post, Acks, Try, Settle, Want, Fill}
use Rattle.machine_model.proofs.Words.{Install, after_frame, to, after_post, page_of_touch, range_held, awaits_in, holds, some_has, taken_in, is_open, locking}
use Rattle.machine_model.proofs.Words.{trying, guess_of, after_cuts, World, sound_pages}
use Rattle.slot_lock.specs.declared.plan.Plan.TheVariants as PlanOf
use Rattle.slot_lock.specs.declared.plan.Goal.TheVariants as To
use Rattle.slot_lock.specs.Slots.{IsCut}
use Rattle.machine_model.specs.declared.phase.Phase.TheVariants.{Back as Leaving}
use Rattle.machine_model.specs.Orderly.{IsOrderly, IsAsked, Serves, IsCutFor, IsReady, IsPassed, IsRest}
use Rattle.machine_model.proofs.Deciding.{change_sound, touch_sound, goal_sound, goal_valid, acts_own, acts_valid, window_stays}
use Rattle.machine_model.proofs.Moves.{IsCallOf, call_at, untouched, goes_on, same_pages}
use Rattle.machine_model.proofs.Shapes.{Moves, locks, tries, hints, seeks, guesses, turns, chooses, acts, finds, lacks, shows, guess_is_target}

-- ---- the call goes on, and nothing else changes

pub steps : (w : World) (c : ℕ) (old new : Phase) → w.calls.phase c ≡ old → IsOrderly w → c < w.made.cores → is_open new ≡ is_open old
    → range_held new ≡ range_held old → IsCutFor w.slots.edge (awaits_in new)
    → IsAsked w.made w.calls.requests c (w.calls.number c) new → IsReady w.made w.slots w.memory.cached new
    → ((f : ℕ) → taken_in new ≡ Some f → f < w.made.frames) → IsOrderly (to c new w)
steps w c old new e g lt opened same out asked ready after_frame =
    goes_on w c new w.slots w.memory g lt (opened ∙ sym (ap is_open e)) (untouched w.slots c) (λ n k f h. h)
    (same_pages w c old new (call_at w c old e g) same out asked ready after_frame) g.pages g.memory

-- of a range that is to be locked nothing is held at first
pub none_yet : (a p : ℕ) → has (between a a) p ≡ true → ⊥
none_yet a p h = grind (arith, nat_tests)

starts : (w : World) (c : ℕ) (old : Phase) (goal : Goal) → w.calls.phase c ≡ old → IsOrderly w → c < w.made.cores → is_open old ≡ true → range_held old ≡ None
    → IsAsked w.made w.calls.requests c (w.calls.number c) (locking goal) → HasTarget goal → IsPageRange (goal_range goal)
    → IsOrderly (to c (locking goal) w)
starts w c old goal e g lt opened none asked target range =
    goes_on w c (locking goal) w.slots w.memory g lt (sym (ap is_open e ∙ opened)) (untouched w.slots c) (λ n k f h. h)
    (record {
      asked = asked;
      owned = λ p h. absurd (none_yet (goal_range goal).first p h);
      only = λ p h. absurd (let i : holds old p ≡ true = k.only p h in let j : holds old p ≡ false = ap (λ r. some_has r p) none in cc (i, j));
      cut = λ some. absurd (omega (arith, some));
      cut_out = tt;
      ready = (omega arith, range.some, target);
      taken = λ f h. absurd cc;
    })
    g.pages g.memory
  where
    k : IsCallOf w c old
    k = call_at w c old e g

-- ---- pages and touches

pub page_range : (touch : Touch) → IsSoundTouch touch → IsPageRange (page_of_touch touch)
page_range touch h = let a = h.page.0 in let b = h.page.1 in record { some = omega arith; low = a; high = omega (arith, b) }

-- ---- placed mappings

-- the call has a plan that its arguments don't refuse: what it locks for it are valid pages
pub call_sound : (w : World) (c : ℕ) (goal : Goal) → IsOrderly w → c < w.made.cores
    → Serves w.made w.calls.requests c (w.calls.number c) (goal_plan goal) → HasTarget goal → IsSoundGoal goal
call_sound w c goal g lt s target =
    let few = g.few in goal_sound (λ k. mode_of (w.made.file k)) c s.request goal (omega (arith, lt, few)) s.passed target

pub place_valid : (w : World) (c : ℕ) (place : Place) (target : Target) → IsOrderly w → c < w.made.cores
    → Serves w.made w.calls.requests c (w.calls.number c) (PlanOf.Place place) → IsTarget place target → IsPageRange (target_range place target)
place_valid w c place target g lt s i = goal_valid (To.Place place target) (call_sound w c (To.Place place target) g lt s i)

-- a call that holds nothing begins to lock the pages of a target
places : (w : World) (c : ℕ) (old : Phase) (place : Place) (target : Target) → w.calls.phase c ≡ old → IsOrderly w → c < w.made.cores
    → is_open old ≡ true → range_held old ≡ None → Serves w.made w.calls.requests c (w.calls.number c) (PlanOf.Place place)
    → IsTarget place target → IsOrderly (to c (trying place target) w)
places w c old place target e g lt opened none s i =
    starts w c old (To.Place place target) e g lt opened none s i (place_valid w c place target g lt s i)

-- a mapping that looks for a place gets this target
pub aims_kept : (w : World) (c : ℕ) (place : Place) (target : Target) → IsOrderly w → c < w.made.cores → w.calls.phase c ≡ Guess place
    → IsTarget place target → IsOrderly (to c (trying place target) w)
aims_kept w c place target g lt e i = places w c (Guess place) place target e g lt refl refl (call_at w c (Guess place) e g).asked i

-- only a hint or a run is passed
pub passed_on : (s : Slots) (place : Place) (target : Target) → DecidesPlace s place target Again → IsPassed target
passed_on s place Window d = window_stays s place d
passed_on s place _ d = tt

whole_rest : (target : PageRange) → IsPageRange target → IsRest target target
whole_rest target range = record { pages = range; low = omega arith; same_end = refl }

pub moves_kept : (w : World) (c : ℕ) (new : Phase) → IsOrderly w → c < w.made.cores → Moves w c new → IsOrderly (to c new w)
moves_kept w c new g lt (locks request change e n passed) =
    subst (λ x. IsOrderly (to c x w)) (sym n)
    (starts w c (Check request) (To.Change change) e g lt refl refl
    (record { request = request; number = (call_at w c (Check request) e g).asked; passed = passed })
    tt (sound_pages change (change_sound (λ k. mode_of (w.made.file k)) c request change passed)))
moves_kept w c new g lt (tries request touch e n passed) =
    subst (λ x. IsOrderly (to c x w)) (sym n)
    (steps w c (Check request) (Try touch) e g lt refl refl tt
    (record { request = request; number = (call_at w c (Check request) e g).asked; passed = passed }) tt (λ f h. absurd cc))
moves_kept w c new g lt (hints request place range e n i passed) =
    subst (λ x. IsOrderly (to c x w)) (sym n)
    (places w c (Check request) place (Hint range) e g lt refl refl
    (record { request = request; number = (call_at w c (Check request) e g).asked; passed = passed }) i)
moves_kept w c new g lt (seeks request place e n passed) =
    subst (λ x. IsOrderly (to c x w)) (sym n)
    (steps w c (Check request) (Guess place) e g lt refl refl tt
    (record { request = request; number = (call_at w c (Check request) e g).asked; passed = passed }) tt (λ f h. absurd cc))
moves_kept w c new g lt (guesses place found e n least) =
    subst (λ x. IsOrderly (to c x w)) (sym n)
    (aims_kept w c place (guess_of place found) g lt e (guess_is_target (is_mapped (entries w.slots)) place found least))
moves_kept w c new g lt (turns place target e n d) =
    let k : IsCallOf w c (Find place target) = call_at w c (Find place target) e g in
    subst (λ x. IsOrderly (to c x w)) (sym n)
    (steps w c (Find place target) (Leaving place target (target_range place target)) e g lt refl refl tt k.asked
    (passed_on w.slots place target d, whole_rest (target_range place target) (place_valid w c place target g lt k.asked k.ready)) (λ f h. absurd cc))
moves_kept w c new g lt (chooses place target range shoot e n d) =
    let k : IsCallOf w c (Find place target) = call_at w c (Find place target) e g in
    subst (λ x. IsOrderly (to c x w)) (sym n)
    (steps w c (Find place target) (Cut place target range) e g lt refl refl tt k.asked (k.ready, (shoot, d)) (λ f h. absurd cc))
moves_kept w c new g lt (acts change range shoot e n d) =
    subst (λ x. IsOrderly (to c x w)) (sym n)
    (steps w c (Decide change) (Post change shoot) e g lt refl refl tt (call_at w c (Decide change) e g).asked
    (subst (λ r. Decides w.made.file w.slots (To.Change change) (Act r shoot)) (acts_own w.made.file w.slots change range shoot d) d) (λ f h. absurd cc))
moves_kept w c new g lt (finds touch f e n u) =
    subst (λ x. IsOrderly (to c x w)) (sym n)
    (steps w c (Settle touch) (Install touch) e g lt refl refl tt (call_at w c (Settle touch) e g).asked (f, u) (λ f h. absurd cc))
moves_kept w c new g lt (lacks touch old e n u d) =
    subst (λ x. IsOrderly (to c x w)) (sym n)
    (steps w c (Settle touch) (Want touch old) e g lt refl refl tt (call_at w c (Settle touch) e g).asked (u, d) (λ f h. absurd cc))
moves_kept w c new g lt (shows touch e n u d) =
    subst (λ x. IsOrderly (to c x w)) (sym n)
    (steps w c (Settle touch) (Fill touch None) e g lt refl refl tt (call_at w c (Settle touch) e g).asked (u, d) (λ f h. absurd cc))

-- a call is of one of the machine's cores
pub has_core : (w : World) (c : ℕ) → IsOrderly w → w.calls.phase c ≢ Free → c < w.made.cores
has_core w c g busy = ⊎_elim (λ (l : c < w.made.cores). l) (λ (l : w.made.cores ≤ c). absurd (busy (g.outside c l))) (cases_lt c w.made.cores)

-- what a call that awaits other cores is to change are valid pages
pub acks_valid : (w : World) (c : ℕ) (goal : Goal) (change : Change) → IsOrderly w → w.calls.phase c ≡ Acks goal change
    → IsPageRange (range_of change)
acks_valid w c goal change g e =
    let k : IsCallOf w c (Acks goal change) = call_at w c (Acks goal change) e g in
    acts_valid w.made.file w.slots goal (range_of change) k.ready.2.0
    (call_sound w c goal g (has_core w c g (λ f. let a = sym e ∙ f in cc)) k.asked k.ready.0) k.ready.2.1

-- the slots are cut: the mapping may be made
pub fits_kept : (w : World) (c : ℕ) (place : Place) (target : Target) (range : PageRange) → IsOrderly w → c < w.made.cores
    → w.calls.phase c ≡ Cut place target range → IsCut w.slots range → IsOrderly (after_cuts c place target range w)
fits_kept w c place target range g lt e cut =
    let k : IsCallOf w c (Cut place target range) = call_at w c (Cut place target range) e g in
    steps w c (Cut place target range) (Acks (To.Place place target) (Put range place.meta)) e g lt refl refl (λ some. (cut.begins, cut.ends))
    k.asked (k.ready.0, refl, k.ready.1) (λ f h. absurd cc)

pub posts_kept : (w : World) (c : ℕ) (change : Change) (shoot : ℕ) → IsOrderly w → c < w.made.cores → w.calls.phase c ≡ Post change shoot
    → IsOrderly (after_post c change shoot w)
posts_kept w c change shoot g lt e =
    let k : IsCallOf w c (Post change shoot) = call_at w c (Post change shoot) e g in
    steps w c (Post change shoot) (Acks (To.Change change) change) e g lt refl refl k.cut k.asked (tt, refl, (shoot, k.ready)) (λ f h. absurd cc)

pub faults_kept : (w : World) (c : ℕ) (touch : Touch) → IsOrderly w → c < w.made.cores → w.calls.phase c ≡ Try touch
    → IsOrderly (to c (locking (To.Access touch)) w)
faults_kept w c touch g lt e =
    let k : IsCallOf w c (Try touch) = call_at w c (Try touch) e g in
    starts w c (Try touch) (To.Access touch) e g lt refl refl k.asked tt
    (page_range touch (touch_sound (λ k. mode_of (w.made.file k)) c k.asked.request touch k.asked.passed))
