-- A call that locks a slot, or lets one go, leaves an orderly state.
use Rattle.machine_model.proofs.Words.{◌≡◌, ℕ, ◌≤◌, ◌<◌, ◌+◌, Bool, true, false, refl, sym, ap, subst, arith, Some, None, Option, ◌∙◌, ⊎_elim, ◌==◌, nat_le}
use Rattle.machine_model.proofs.Words.{cases_lt, nat_tests, PageRange, Reply, has, IsPageRange, by_test, has_in, eq_false, Touch, Goal, Place, Target, Hint}
use Rattle.machine_model.proofs.Words.{Window, target_range, goal_range, HasTarget, Slots, Locks, Unlocks, between, with_owner, Phase, Lock, Guess, Unlock}
use Rattle.machine_model.proofs.Words.{Answer, Try, Release, to, let_go, range_held, awaits_in, holds, some_has, taken_in, is_open, locked_to, all_locked}
use Rattle.machine_model.proofs.Words.{held_after, back_to, World, Made}
use Rattle.slot_lock.specs.declared.plan.Plan.TheVariants as PlanOf
use Rattle.slot_lock.specs.declared.plan.Goal.TheVariants as To
use Rattle.slot_lock.specs.declared.plan.Target.TheVariants.{Run}
use Rattle.machine_model.specs.declared.phase.Phase.TheVariants.{Back as Leaving}
use Rattle.machine_model.specs.Placing.{elsewhere}
use Rattle.machine_model.specs.Orderly.{IsOrderly, IsAsked, Serves, IsCutFor, IsReady, IsPassed, IsRest}
use Rattle.machine_model.proofs.Moves.{IsCallOf, call_at, goes_on, none_taken, asked_gone}
use Rattle.machine_model.proofs.Shapes.{LetsGo, unlocks, returns, releases}
use Rattle.machine_model.proofs.Slots.{touches_owner, gains, loses}
use Rattle.machine_model.proofs.Going.{none_yet, place_valid}

-- ---- a slot is locked

past : (end b : ℕ) → nat_le end b ≡ true → b ≤ end → b ≡ end
past end b h n = grind (arith, nat_tests)

not_past : (end b : ℕ) → nat_le end b ≡ false → b < end
not_past end b h = grind (arith, nat_tests)

between_more : (a cursor b p : ℕ) → cursor < b → has (between a cursor) p ≡ true → has (between a b) p ≡ true
between_more a cursor b p l h = grind (arith, nat_tests)

between_new : (a cursor b p : ℕ) → a ≤ cursor → has (between cursor b) p ≡ true → has (between a b) p ≡ true
between_new a cursor b p l h = grind (arith, nat_tests)

between_back : (a cursor b p : ℕ) → has (between cursor b) p ≡ false → has (between a b) p ≡ true → has (between a cursor) p ≡ true
between_back a cursor b p i h = grind (arith, nat_tests)

whole : (r : PageRange) (b : ℕ) → b ≡ r.end → between r.first b ≡ r
whole r b e = rw e refl

-- the phase after a goal's last slot was locked
locked_range : (goal : Goal) → range_held (all_locked goal) ≡ Some (goal_range goal)
locked_range (To.Place place target) = refl
locked_range _ = refl

locked_open : (goal : Goal) → is_open (all_locked goal) ≡ true
locked_open (To.Place place target) = refl
locked_open _ = refl

locked_asked : (w : World) (c : ℕ) (goal : Goal) (cursor : ℕ) → IsAsked w.made w.calls.requests c (w.calls.number c) (Lock goal cursor)
    → IsAsked w.made w.calls.requests c (w.calls.number c) (all_locked goal)
locked_asked w c (To.Place place target) cursor h = h
locked_asked w c _ cursor h = h

locked_ready : (w : World) (goal : Goal) → HasTarget goal → IsReady w.made w.slots w.memory.cached (all_locked goal)
locked_ready w (To.Place place target) h = h
locked_ready w _ h = tt

locked_out : (edge : ℕ → Bool) (goal : Goal) → IsCutFor edge (awaits_in (all_locked goal))
locked_out edge (To.Place place target) = tt
locked_out edge _ = tt

locked_taken : (goal : Goal) (f : ℕ) → taken_in (all_locked goal) ≡ Some f → ⊥
locked_taken (To.Place place target) f h = cc
locked_taken _ f h = cc

-- the slot from the cursor up to b is core c's, which holds the pages up to b in the new phase
owned_to : (w : World) (c : ℕ) (goal : Goal) (cursor b : ℕ) (t : Slots) (new : Phase) → w.calls.phase c ≡ Lock goal cursor → IsOrderly w → c < w.made.cores
    → Locks w.slots t c cursor (goal_range goal).end b → is_open new ≡ true → range_held new ≡ Some (between (goal_range goal).first b)
    → IsCutFor w.slots.edge (awaits_in new) → IsAsked w.made w.calls.requests c (w.calls.number c) new → IsReady w.made w.slots w.memory.cached new
    → ((f : ℕ) → taken_in new ≡ Some f → ⊥)
    → IsOrderly (to c new (record w { slots = t }))
owned_to w c goal cursor b t new e g lt l opened held out asked ready none =
    subst (λ s. IsOrderly (to c new (record w { slots = s }))) (sym l.now)
    (goes_on w c new (with_owner w.slots cursor b (Some c)) w.memory g lt (opened ∙ sym (ap is_open e))
    (touches_owner w.slots c (has (between cursor b)) (Some c)
    (λ d p ne i h. let z = has_in (between cursor b) p i in let f = l.was_free p z.0 z.1 in absurd cc)
    (λ d ne h. ne (cc))) (λ n k f h. h)
    (gains w c (Lock goal cursor) new (has (between cursor b)) k asked
    (λ p h. now p (between_new first cursor b p k.ready.0 h))
    (λ p h. now p (between_more first cursor b p l.slot.ordered h))
    (λ p i h. between_back first cursor b p i (sym (ap (λ r. some_has r p) held) ∙ h))
    (subst (IsCutFor w.slots.edge) (sym held) (λ some. (begun l.slot.begins, l.slot.ends))) out ready (λ f h. absurd (none f h)))
    g.pages g.memory)
  where
    first : ℕ
    first = (goal_range goal).first

    k : IsCallOf w c (Lock goal cursor)
    k = call_at w c (Lock goal cursor) e g

    now : (p : ℕ) → has (between first b) p ≡ true → holds new p ≡ true
    now p h = ap (λ r. some_has r p) held ∙ h

    begun : w.slots.edge cursor ≡ true → w.slots.edge first ≡ true
    begun h = ⊎_elim (λ (l : first < cursor). (k.cut l).0)
        (λ (l : cursor ≤ first). let m : first ≤ cursor = k.ready.0 in let n : cursor ≡ first = omega (arith, l, m) in subst (λ p. w.slots.edge p ≡ true) n h)
        (cases_lt first cursor)

pub owns_kept : (w : World) (c : ℕ) (goal : Goal) (cursor b : ℕ) (t : Slots) → IsOrderly w → c < w.made.cores → w.calls.phase c ≡ Lock goal cursor
    → Locks w.slots t c cursor (goal_range goal).end b → IsOrderly (to c (locked_to goal b) (record w { slots = t }))
owns_kept w c goal cursor b t g lt e l =
    by_test (λ phase. IsOrderly (to c phase (record w { slots = t }))) (nat_le (goal_range goal).end b) (all_locked goal) (Lock goal b)
    (λ i. owned_to w c goal cursor b t (all_locked goal) e g lt l (locked_open goal)
    (locked_range goal ∙ ap Some (sym (whole (goal_range goal) b (past (goal_range goal).end b i l.by_end))))
    (locked_out w.slots.edge goal) (locked_asked w c goal cursor k.asked) (locked_ready w goal k.ready.2) (locked_taken goal))
    (λ i. owned_to w c goal cursor b t (Lock goal b) e g lt l refl refl tt k.asked (
      let x : (goal_range goal).first ≤ cursor = k.ready.0 in let y : cursor < b = l.slot.ordered in
          omega (arith, x, y),
      not_past (goal_range goal).end b i,
      k.ready.2,
    ) (λ f h. cc))
  where
    k : IsCallOf w c (Lock goal cursor)
    k = call_at w c (Lock goal cursor) e g

-- ---- a slot is let go

-- what is left of the pages held
record Remains (made : Made) (s : Slots) (cached : ℕ → ℕ → Option ℕ) (held : PageRange) (b : ℕ) (new : Phase) : Type 0 where
  gone : (p : ℕ) → has (between held.first b) p ≡ true → holds new p ≡ true → ⊥
  less : (p : ℕ) → holds new p ≡ true → has held p ≡ true
  rest : (p : ℕ) → has (between held.first b) p ≡ false → has held p ≡ true → holds new p ≡ true
  cut : IsCutFor s.edge (range_held new)
  out : IsCutFor s.edge (awaits_in new)
  ready : IsReady made s cached new

-- all of them were let go, and the call awaits nothing
none_remains : (made : Made) (s : Slots) (cached : ℕ → ℕ → Option ℕ) (held : PageRange) (b : ℕ) (new : Phase) → range_held new ≡ None
    → IsCutFor s.edge (awaits_in new) → (b == held.end) ≡ true → IsReady made s cached new → Remains made s cached held b new
none_remains made s cached held b new none out whole ready = record {
  gone = λ p x y. nothing p y;
  less = λ p x. absurd (nothing p x);
  rest = λ p x y. absurd (past p x y);
  cut = subst (IsCutFor s.edge) (sym none) tt;
  out = out;
  ready = ready;
}
  where
    nothing : (p : ℕ) → holds new p ≡ true → ⊥
    nothing p h = absurd (let i : holds new p ≡ false = ap (λ r. some_has r p) none in cc (h, i))

    past : (p : ℕ) → has (between held.first b) p ≡ false → has held p ≡ true → ⊥
    past p x y = grind (arith, nat_tests)

remains : (made : Made) (s : Slots) (cached : ℕ → ℕ → Option ℕ) (held : PageRange) (b : ℕ) (reply : Reply) → IsPageRange held → s.edge b ≡ true
    → s.edge held.end ≡ true → held.first < b → b ≤ held.end
    → Remains made s cached held b (let_go (held_after held b) reply)
remains made s cached held b reply range eb ee lt by =
    by_test (λ o. Remains made s cached held b (let_go o reply)) (b == held.end) None (Some (between b held.end))
    (λ i. none_remains made s cached held b (Answer reply) refl tt i tt)
    (λ i. record {
      gone = λ p x y. grind (arith, nat_tests);
      less = λ p x. grind (arith, nat_tests);
      rest = λ p x y. grind (arith, nat_tests);
      cut = λ some. (eb, ee);
      out = tt;
      ready = record { some = let z = eq_false b held.end i in omega arith; low = let z = range.low in omega arith; high = range.high };
    })

shut : (held : Option PageRange) (reply : Reply) → is_open (let_go held reply) ≡ false
shut None reply = refl
shut (Some held) reply = refl

-- over slots in which nobody owns the pages up to b
let_go_to : (w : World) (c : ℕ) (old new : Phase) (held : PageRange) (b : ℕ) (t : Slots) → w.calls.phase c ≡ old → IsOrderly w → c < w.made.cores
    → range_held old ≡ Some held → is_open new ≡ is_open old → Unlocks w.slots t c held.first held.end b → Remains w.made w.slots w.memory.cached held b new
    → IsAsked w.made w.calls.requests c (w.calls.number c) new
    → ((f : ℕ) → taken_in new ≡ Some f → ⊥) → IsOrderly (to c new (record w { slots = t }))
let_go_to w c old new held b t e g lt was opened u m asked none =
    subst (λ s. IsOrderly (to c new (record w { slots = s }))) (sym u.now)
    (goes_on w c new (with_owner w.slots held.first b None) w.memory g lt (opened ∙ sym (ap is_open e))
    (touches_owner w.slots c (has (between held.first b)) None
    (λ d p ne i x. let z = has_in (between held.first b) p i in let y = u.was_held p z.0 z.1 in ne (cc))
    (λ d ne x. cc)) (λ n k f h. h)
    (loses w c old new (has (between held.first b)) (call_at w c old e g) asked m.gone (λ p x. ap (λ r. some_has r p) was ∙ m.less p x)
    (λ p i x. m.rest p i (sym (ap (λ r. some_has r p) was) ∙ x)) m.cut m.out m.ready (λ f x. absurd (none f x)))
    g.pages g.memory)

-- ---- a mapping looks elsewhere

-- after its hint or run it holds nothing
back_open : (place : Place) (target : Target) (held : Option PageRange) → is_open (back_to place target held) ≡ true
back_open place target (Some held) = refl
back_open place (Hint range) None = refl
back_open place (Run range) None = refl
back_open place Window None = refl

back_taken : (place : Place) (target : Target) (held : Option PageRange) (f : ℕ) → taken_in (back_to place target held) ≡ Some f → ⊥
back_taken place target (Some held) f h = cc
back_taken place (Hint range) None f h = cc
back_taken place (Run range) None f h = cc
back_taken place Window None f h = cc

back_asked : (w : World) (c : ℕ) (place : Place) (target : Target) (held : Option PageRange)
    → Serves w.made w.calls.requests c (w.calls.number c) (PlanOf.Place place)
    → IsAsked w.made w.calls.requests c (w.calls.number c) (back_to place target held)
back_asked w c place target (Some held) s = s
back_asked w c place (Hint range) None s = s
back_asked w c place (Run range) None s = s
back_asked w c place Window None s = s

-- it has let all go
back_empty : (w : World) (c : ℕ) (place : Place) (target : Target) (held : PageRange) (b : ℕ) → IsOrderly w → c < w.made.cores
    → Serves w.made w.calls.requests c (w.calls.number c) (PlanOf.Place place) → IsPassed target → (b == held.end) ≡ true
    → Remains w.made w.slots w.memory.cached held b (elsewhere place target)
back_empty w c place (Hint range) held b g lt s passed i =
    none_remains w.made w.slots w.memory.cached held b (Guess place) refl tt i tt
back_empty w c place (Run range) held b g lt s passed i =
    let window : IsPageRange place.window = place_valid w c place Window g lt s tt in record {
      gone = λ p x y. none_yet place.window.first p y;
      less = λ p x. absurd (none_yet place.window.first p x);
      rest = λ p x y. absurd (past_all held b p i x y);
      cut = λ some. absurd (omega (arith, some));
      out = tt;
      ready = (omega arith, window.some, tt);
    }
  where
    past_all : (held : PageRange) (b p : ℕ) → (b == held.end) ≡ true → has (between held.first b) p ≡ false → has held p ≡ true → ⊥
    past_all held b p i x y = grind (arith, nat_tests)
back_empty w c place Window held b g lt s passed i = absurd passed

back_remains : (w : World) (c : ℕ) (place : Place) (target : Target) (held : PageRange) (b : ℕ) → IsOrderly w → c < w.made.cores
    → Serves w.made w.calls.requests c (w.calls.number c) (PlanOf.Place place)
    → IsPassed target × IsRest (target_range place target) held → w.slots.edge b ≡ true → w.slots.edge held.end ≡ true
    → held.first < b → b ≤ held.end → Remains w.made w.slots w.memory.cached held b (back_to place target (held_after held b))
back_remains w c place target held b g lt s r eb ee more by =
    by_test (λ o. Remains w.made w.slots w.memory.cached held b (back_to place target o)) (b == held.end) None (Some (between b held.end))
    (λ i. back_empty w c place target held b g lt s r.0 i)
    (λ i. record {
      gone = λ p x y. grind (arith, nat_tests);
      less = λ p x. grind (arith, nat_tests);
      rest = λ p x y. grind (arith, nat_tests);
      cut = λ some. (eb, ee);
      out = tt;
      ready = (
        r.0,
        record {
          pages = record {
            some = let z = eq_false b held.end i in omega arith;
            low = let z = r.1.pages.low in omega (arith, z, more);
            high = r.1.pages.high;
          };
          low = let z = r.1.low in omega (arith, z, more);
          same_end = r.1.same_end;
        },
      );
    })

one_page : (touch : Touch) (b : ℕ) → touch.page < b → b ≤ touch.page + 1 → b ≡ touch.page + 1
one_page touch b l m = omega (arith, l, m)

pub lets_go_kept : (w : World) (c : ℕ) (held : PageRange) (b : ℕ) (t : Slots) (new : Phase) → IsOrderly w → c < w.made.cores
    → LetsGo (w.calls.phase c) held b new
    → Unlocks w.slots t c held.first held.end b → IsOrderly (to c new (record w { slots = t }))
lets_go_kept w c held b t new g lt (unlocks reply e n) u =
    subst (λ x. IsOrderly (to c x (record w { slots = t }))) (sym n)
    (let_go_to w c (Unlock held reply) (let_go (held_after held b) reply) held b t e g lt refl (shut (held_after held b) reply) u
    (remains w.made w.slots w.memory.cached held b reply k.ready u.slot.ends (k.cut k.ready.some).1 u.slot.ordered u.by_end)
    (asked_gone w.made w.calls.requests c (w.calls.number c) (held_after held b) reply) (none_taken (held_after held b) reply))
  where
    k : IsCallOf w c (Unlock held reply)
    k = call_at w c (Unlock held reply) e g
lets_go_kept w c held b t new g lt (returns place target e n) u =
    subst (λ x. IsOrderly (to c x (record w { slots = t }))) (sym n)
    (let_go_to w c (Leaving place target held) (back_to place target (held_after held b)) held b t e g lt refl (back_open place target (held_after held b)) u
    (back_remains w c place target held b g lt k.asked k.ready u.slot.ends (k.cut k.ready.1.pages.some).1 u.slot.ordered u.by_end)
    (back_asked w c place target (held_after held b) k.asked) (back_taken place target (held_after held b)))
  where
    k : IsCallOf w c (Leaving place target held)
    k = call_at w c (Leaving place target held) e g
lets_go_kept w c held b t new g lt (releases touch e h n) u =
    subst (λ x. IsOrderly (to c x (record w { slots = t }))) (sym n)
    (let_go_to w c (Release touch) (Try touch) held b t e g lt (ap Some (sym h)) refl u
    (record {
      gone = λ p x y. cc;
      less = λ p x. absurd cc;
      rest = λ p x y. absurd (all p x y);
      cut = tt;
      out = tt;
      ready = tt;
    })
    (call_at w c (Release touch) e g).asked (λ f x. cc))
  where
    all : (p : ℕ) → has (between held.first b) p ≡ false → has held p ≡ true → ⊥
    all p x y = let first : held.first ≡ touch.page = ap (λ r. r.first) h in let end : held.end ≡ touch.page + 1 = ap (λ r. r.end) h in
        let l = u.slot.ordered in let m = u.by_end in
        let same : b ≡ held.end = omega (arith, first, end, l, m) in outside held b p same x y
      where
        outside : (r : PageRange) (b p : ℕ) → b ≡ r.end → has (between r.first b) p ≡ false → has r p ≡ true → ⊥
        outside r b p e x y = grind (arith, nat_tests)
