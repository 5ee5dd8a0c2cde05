-- What the code learns of the core that is to make a step: it knows only that the state is one that runs reach
use Rattle.machine_model.proofs.Words.{◌≡◌, ◌≢◌, ℕ, ◌+◌, ◌<◌, Bool, true, false, List, [], ◌∷◌, Option, Some, None, refl, sym, subst, ap, arith, cond, ◌∙◌}
use Rattle.machine_model.proofs.Words.{if◌then◌else◌, IfSome, ◌↔◌, ∥∥₁_elim, ∥∥₁_map, props, or_right, nat_tests, PageInfo, PageRange, Access, Prot, members}
use Rattle.machine_model.proofs.Words.{IsPage, IsPageRange, are_pages, is_page, frame_of, File, is_allowed, has_in, in_has, Change, Put, Clear, Protect, Plan}
use Rattle.machine_model.proofs.Words.{Touch, Goal, goal_plan, goal_range, range_of, HasTarget, IsSoundGoal, IsSoundTouch, Slots, IsUser, between, Act}
use Rattle.machine_model.proofs.Words.{no_page, no_write, Translation, has_right, Message, Took, asked, Counts, Takes, Reviewing, IsUnused, reached_is_orderly}
use Rattle.machine_model.proofs.Words.{World, AwaitsNobody, is_private, shows_some, prot_shown, prot_installed, awaits_in, is_open, page_of_touch}
use Rattle.machine_model.proofs.Words.{range_held, some_has, taken_in, translated_by, frame_reached, sound_pages}
use Rattle.machine_model.specs.declared.phase.Phase.{Phase}
use Rattle.machine_model.specs.declared.phase.Phase.TheVariants.{Free, Check, Lock, Guess, Find, Cut, Acks, Unlock, Answer, Try, Settle, Want, Fill}
use Rattle.machine_model.specs.declared.phase.Phase.TheVariants.{CopyPost, CopyAcks, Install, Release}
use Rattle.std.proofs.Common.{is_some, ◌&&◌, nat_lt}
use Rattle.std.proofs.lemmas.Bool.{or_left}
use Rattle.vm_base.specs.declared.rights.Access.TheVariants.{Load, Store, Fetch}
use Rattle.slot_lock.specs.declared.plan.Plan.TheVariants as PlanOf
use Rattle.slot_lock.specs.declared.plan.Goal.TheVariants as To
use Rattle.slot_lock.specs.Plan.{IsSoundPlan}
use Rattle.slot_lock.specs.Slots.{IsHeld}
use Rattle.slot_lock.proofs.Divisions.{slot_by}
use Rattle.vm_calls.specs.Decisions.{DecidesChange}
use Rattle.vm_calls.specs.Decisions.DecidesProtect.{acts}
use Rattle.vm_calls.proofs.Passed.{checked_is_sound}
use Rattle.mmu.specs.declared.message.Took.TheVariants as TookOf
use Rattle.refcache.specs.declared.reports.Review.TheVariants as review
use Rattle.refcache.specs.Sound.{AreReached}
use Rattle.machine_model.specs.declared.phase.Phase.TheVariants.{Back}
use Rattle.machine_model.proofs.CountsKept.{counted_positive}
use Rattle.machine_model.specs.Orderly.{IsOrderly, IsAsked, IsCutFor, IsUsable, Serves, answer_count}
use Rattle.machine_model.proofs.Deciding.{acts_in, acts_valid}
use Rattle.machine_model.proofs.Going.{call_sound, page_range}
use Rattle.machine_model.proofs.Moves.{call_at, IsCallOf}
use Rattle.machine_model.proofs.OpenCalls.{one, open_put}
use Rattle.machine_model.specs.Coherent.{AreAsked}
use Rattle.machine_model.proofs.Lists.{none_sent}
use Rattle.machine_model.specs.Invariant.{IsWellFormed}
use Rattle.machine_model.proofs.Reaching.{backs, reaches}
use Rattle.core_steps.specs.Filling.{IsAloneAt}
use Rattle.core_steps.specs.Moving.{IsAt, IsTaken, CanUnlock, CanCut, CanChange}
use Rattle.core_steps.specs.Moving.{goal_in, page_in, plan_in, cursor_in, left_in, cut_in, change_in, framed_in}
use Rattle.core_steps.specs.Taking.{IsCounted}
use Rattle.core_steps.proofs.rows.Changing.{act_sound, act_mapped}
use Rattle.core_steps.proofs.rows.Sounding.{goal_if, sound_if}

-- what holds of the value that there is, if there is one
pub if_some : {A : Type 0} (o : Option A) (P : A → Type 0) → ((x : A) → o ≡ Some x → P x) → IfSome o P
if_some None P h = tt
if_some (Some x) P h = h x refl

-- ---- what is known of a call in its phase

-- a call's plan passed the check of the arguments, and so is sound
served : (w : World) (c : ℕ) (plan : Plan) → IsOrderly w → c < w.made.cores
    → Serves w.made w.calls.requests c (w.calls.number c) plan → IsSoundPlan plan
served w c plan g here s = let few = g.few in checked_is_sound _ c s.request plan (omega (arith, few, here)) s.passed

pub core_counted : (w : World) (c : ℕ) → ∥ IsWellFormed w ∥₁ → c < w.made.cores → c < w.memory.counts.cores
core_counted w c t h = ∥∥₁_elim t (hlevel props) (λ g. subst (λ n. c < n) (sym g.order.memory.cores) h)

pub frame_counted : (w : World) (f : ℕ) → ∥ IsWellFormed w ∥₁ → f < w.made.frames → f < w.memory.counts.objects
frame_counted w f t h = ∥∥₁_elim t (hlevel props) (λ g. subst (λ n. f < n) (sym g.order.memory.objects) h)

pub free_below : (w : World) → ∥ IsWellFormed w ∥₁ → (f : ℕ) → w.memory.is_free f ≡ true → f < w.made.frames
free_below w t f e = ∥∥₁_elim t (hlevel props) (λ g. g.order.memory.free f e)

-- the frame of a page is counted
pub page_counted : (w : World) (p f : ℕ) → ∥ IsWellFormed w ∥₁ → frame_of (w.slots.info p) ≡ Some f → IsCounted w.memory.counts f
page_counted w p f t h =
    ∥∥₁_elim t (hlevel props) (λ g. record {
      object = subst (λ n. f < n) (sym g.order.memory.objects) ((g.order.pages p).frame f h);
      used = counted_positive w g.order g.counted f p h;
    })

usable_framed : (file : ℕ → Option File) (o : Option PageInfo) (access : Access) (f : ℕ) → IsUsable file o access (Some f) → is_some (frame_of o) ≡ true
usable_framed file None access f u = absurd u
usable_framed file (Some info) access f u = ap is_some u.2

module _ (w : World) (c : ℕ) (here : c < w.made.cores) (fine : ∥ IsWellFormed w ∥₁) where
  -- room for a reply
  room : (phase : Phase) → w.calls.phase c ≡ phase → is_open phase ≡ true → answer_count w.calls.log < w.made.calls
  room phase e o =
      ∥∥₁_elim fine (hlevel props) (λ g.
      let was : one (w.calls.phase c) ≡ 1 = ap one e ∙ ap (λ b. cond b 1 0) o in
      let put = open_put w.calls.phase c Free w.made.cores here in
      let room = g.order.room in let limit = g.order.limit in omega (arith, was, put, room, limit))

  sound : (phase : Phase) (plan : Plan) → w.calls.phase c ≡ phase
      → (IsAsked w.made w.calls.requests c (w.calls.number c) phase → Serves w.made w.calls.requests c (w.calls.number c) plan) → IsSoundPlan plan
  sound phase plan e serves = sound_if plan (∥∥₁_map fine (λ g. served w c plan g.order here (serves (call_at w c phase e g.order).asked)))

  -- and so is its goal, where its target is of its mapping
  aims : (phase : Phase) (goal : Goal) → w.calls.phase c ≡ phase
      → (IsAsked w.made w.calls.requests c (w.calls.number c) phase → Serves w.made w.calls.requests c (w.calls.number c) (goal_plan goal))
      → (IsCallOf w c phase → HasTarget goal) → IsSoundGoal goal
  aims phase goal e serves has_target =
      goal_if goal (∥∥₁_map fine (λ g.
      let call = call_at w c phase e g.order in call_sound w c goal g.order here (serves call.asked) (has_target call)))

  goals : (phase : Phase) → w.calls.phase c ≡ phase → IfSome (goal_in phase) IsSoundGoal
  goals (Lock goal cursor) e = aims (Lock goal cursor) goal e (λ h. h) (λ call. call.ready.2)
  goals (Find place target) e = aims (Find place target) _ e (λ h. h) (λ call. call.ready)
  goals (Cut place target range) e = aims (Cut place target range) _ e (λ h. h) (λ call. call.ready.0)
  goals (Acks goal change) e = aims (Acks goal change) goal e (λ h. h) (λ call. call.ready.0)
  goals Free e = tt
  goals (Check request) e = tt
  goals (Guess place) e = tt
  goals (Back place target held) e = tt
  goals (Unlock held reply) e = tt
  goals (Answer reply) e = tt
  goals (Try touch) e = tt
  goals phase e = aims phase _ e (λ h. h) (λ call. tt)

  plans : (phase : Phase) → w.calls.phase c ≡ phase → IfSome (plan_in phase) IsSoundPlan
  plans (Guess place) e = sound (Guess place) _ e (λ h. h)
  plans (Back place target held) e = sound (Back place target held) _ e (λ h. h)
  plans (Try touch) e = sound (Try touch) _ e (λ h. h)
  plans phase e = tt

  -- what it holds
  held : (phase : Phase) (range : PageRange) → w.calls.phase c ≡ phase → range_held phase ≡ Some range → (IsCallOf w c phase → IsPageRange range)
      → IsHeld w.slots c range
  held phase range e some pages =
      ∥∥₁_elim fine (hlevel props) (λ g.
      let call = call_at w c phase e g.order in
      let cut = subst (IsCutFor w.slots.edge) some call.cut (pages call).some in
      record {
        pages = pages call;
        cut = record { begins = cut.0; ends = cut.1 };
        held = λ p a b. call.owned p (ap (λ r. some_has r p) some ∙ in_has range p a b);
      })

  -- the page of an access is a slot of its own
  alone : (phase : Phase) (touch : Touch) → w.calls.phase c ≡ phase → range_held phase ≡ Some (page_of_touch touch) → IsSoundTouch touch
      → IsAloneAt w.slots c touch.page
  alone phase touch e some s =
      let h = held phase (page_of_touch touch) e some (λ call. page_range touch s) in
      record {
        valid = s.page;
        held = h.held touch.page (omega arith) (omega arith);
        alone = record { ordered = omega arith; begins = h.cut.begins; ends = h.cut.ends; inside = λ p a b. absurd (omega (arith, a, b)) };
      }

  pages : (phase : Phase) → w.calls.phase c ≡ phase → IfSome (page_in phase) (IsAloneAt w.slots c)
  pages (Settle touch) e = alone (Settle touch) touch e refl (goals (Settle touch) e).plan
  pages (Want touch old) e = alone (Want touch old) touch e refl (goals (Want touch old) e).plan
  pages (Fill touch frame) e = alone (Fill touch frame) touch e refl (goals (Fill touch frame) e).plan
  pages (CopyPost touch frame) e = alone (CopyPost touch frame) touch e refl (goals (CopyPost touch frame) e).plan
  pages (CopyAcks touch frame) e = alone (CopyAcks touch frame) touch e refl (goals (CopyAcks touch frame) e).plan
  pages (Install touch) e = alone (Install touch) touch e refl (goals (Install touch) e).plan
  pages (Release touch) e = alone (Release touch) touch e refl (goals (Release touch) e).plan
  pages phase e = tt

  takes : (phase : Phase) → w.calls.phase c ≡ phase → IfSome (taken_in phase) (IsTaken w)
  takes phase e =
      if_some (taken_in phase) (IsTaken w) (λ f t. ∥∥₁_elim fine (hlevel props) (λ g.
      let below = (call_at w c phase e g.order).taken f t in
      record {
        here = below;
        busy = g.counted.busy c f (ap taken_in e ∙ t);
        object = frame_counted w f fine below;
        unused = g.counted.taken c f (ap taken_in e ∙ t);
      }))

  -- a call that awaits no pages awaits nobody
  idle : (phase : Phase) → w.calls.phase c ≡ phase → awaits_in phase ≡ None → AwaitsNobody w.hardware c
  idle phase e none d =
      ∥∥₁_elim fine (hlevel props) (λ g. ap is_some (none_sent w.calls.phase c d (w.hardware.inbox d) (ap awaits_in e ∙ none) (g.coherent.asked d)))

  -- the cursor's page isn't held yet
  ahead : (phase : Phase) → w.calls.phase c ≡ phase → IfSome (cursor_in phase) (λ p. w.slots.owner p ≢ Some c)
  ahead (Lock goal cursor) e =
      ∥∥₁_elim fine (hlevel props) (λ g own.
      let inside = has_in (between (goal_range goal).first cursor) cursor ((call_at w c (Lock goal cursor) e g.order).only cursor own) in
      let below = inside.1 in absurd (omega (arith, below)))
  ahead phase e = tt

  unlocks : (pages : PageRange) → IsHeld w.slots c pages → CanUnlock w.slots c pages
  unlocks pages h = record {
    held = h.held pages.first (omega arith) h.pages.some;
    slot = slot_by w.slots pages.first pages.end h.pages.some h.cut.begins h.cut.ends;
  }

  left : (phase : Phase) → w.calls.phase c ≡ phase → IfSome (left_in phase) (CanUnlock w.slots c)
  left (Back place target pages) e = unlocks pages (held (Back place target pages) pages e refl (λ call. call.ready.1.pages))
  left (Unlock pages reply) e = unlocks pages (held (Unlock pages reply) pages e refl (λ call. call.ready))
  left phase e = tt

  cuts : (phase : Phase) → w.calls.phase c ≡ phase → IfSome (cut_in phase) (CanCut w.slots c)
  cuts (Cut place target range) e =
      ∥∥₁_elim fine (hlevel props) (λ g.
      let call = call_at w c (Cut place target range) e g.order in
      let chosen = call.ready.1 in
      record {
        valid = acts_valid w.made.file w.slots (To.Place place target) range chosen.0 (goals (Cut place target range) e) chosen.1;
        held = record {
          held = λ p a b. call.owned p (acts_in w.made.file w.slots (To.Place place target) range chosen.0 p chosen.1 (in_has range p a b));
        };
      })
  cuts phase e = tt

  -- the change that is to be made is one that the pages held let the call make
  makes : (goal : Goal) (change : Change) → w.calls.phase c ≡ Acks goal change → IsWellFormed w → CanChange w.slots c change
  makes goal change e g =
      let call = call_at w c (Acks goal change) e g.order in
      let acts = call.ready.2 in
      let sound = act_sound w goal change (goals (Acks goal change) e) call.ready.1 acts in
      let pages = sound_pages change sound in
      let cut = call.cut_out pages.some in
      record {
        sound = sound;
        held = record {
          pages = pages;
          cut = record { begins = cut.0; ends = cut.1 };
          held = λ p a b. call.owned p (acts_in w.made.file w.slots goal (range_of change) acts.0 p acts.1 (in_has (range_of change) p a b));
        };
        mapped = act_mapped w goal change call.ready.1 acts;
      }

  changes : (phase : Phase) → w.calls.phase c ≡ phase → IfSome (change_in phase) (CanChange w.slots c)
  changes (Acks goal (Put range meta)) e = ∥∥₁_elim fine (hlevel props) (makes goal (Put range meta) e)
  changes (Acks goal (Clear range)) e = ∥∥₁_elim fine (hlevel props) (makes goal (Clear range) e)
  changes (Acks goal (Protect range prot)) e = ∥∥₁_elim fine (hlevel props) (makes goal (Protect range prot) e)
  changes phase e = tt

  framed : (phase : Phase) → w.calls.phase c ≡ phase → IfSome (framed_in phase) (λ p. is_some (frame_of (w.slots.info p)) ≡ true)
  framed (CopyAcks touch frame) e =
      ∥∥₁_elim fine (hlevel props) (λ g.
      let u = (call_at w c (CopyAcks touch frame) e g.order).ready in usable_framed w.made.file (w.slots.info touch.page) touch.access u.0 u.1)
  framed (Install touch) e =
      ∥∥₁_elim fine (hlevel props) (λ g.
      let u = (call_at w c (Install touch) e g.order).ready in usable_framed w.made.file (w.slots.info touch.page) touch.access u.0 u.1)
  framed phase e = tt

  pub is_at : (phase : Phase) → w.calls.phase c ≡ phase → IsAt w c phase
  is_at phase e = record {
    here = here;
    phase = e;
    well = fine;
    room = room phase e;
    goal = goals phase e;
    plan = plans phase e;
    page = pages phase e;
    taken = takes phase e;
    counted = core_counted w c fine here;
    objects = λ f. frame_counted w f fine;
    idle = idle phase e;
    ahead = ahead phase e;
    left = left phase e;
    cut = cuts phase e;
    change = changes phase e;
    framed = framed phase e;
    users = record { rest = w; well = fine };
  }

-- ---- the order

pub order : {w : World} {c : ℕ} {phase : Phase} → IsAt w c phase → ∥ IsOrderly w ∥₁
order i = ∥∥₁_map i.well (λ g. g.order)

-- ---- cores and frames

pub free_unused : (w : World) (f : ℕ) → ∥ IsWellFormed w ∥₁ → w.memory.is_free f ≡ true → IsUnused w.memory.counts f
free_unused w f t h = ∥∥₁_elim t (hlevel props) (λ g. g.counted.free f h)

-- a frame that a review frees isn't free yet: it was queued
pub freed_frame : (w v : Counts) (c f : ℕ) → AreReached w → Takes w (Reviewing c (review.Freed f)) v → (f < w.objects) × (w.queued f ≡ true)
freed_frame w v c f r h = (reached_is_orderly w r).fronts c f h.1.1.since h.1.0 h.1.1.front

pub freed_below : (w : World) (c f : ℕ) (v : Counts) → ∥ IsWellFormed w ∥₁ → Takes w.memory.counts (Reviewing c (review.Freed f)) v → f < w.made.frames
freed_below w c f v t h =
    ∥∥₁_elim t (hlevel props) (λ g. subst (λ n. f < n) g.order.memory.objects (freed_frame w.memory.counts v c f g.order.memory.reached h).0)

pub freed_busy : (w : World) (c f : ℕ) (v : Counts) → ∥ IsWellFormed w ∥₁ → Takes w.memory.counts (Reviewing c (review.Freed f)) v → w.memory.is_free f ≡ false
freed_busy w c f v t h = go (w.memory.is_free f) refl
  where
    go : (b : Bool) → w.memory.is_free f ≡ b → b ≡ false
    go false e = refl
    go true e =
        ∥∥₁_elim t (hlevel props) (λ g.
        let queued = (freed_frame w.memory.counts v c f g.order.memory.reached h).1 in
        let unqueued = (g.counted.free f e).unqueued in
        absurd cc)

-- ---- translations

pub frame_below : (w : World) (c : ℕ) (touch : Touch) (f : ℕ) → ∥ IsWellFormed w ∥₁ → frame_reached (translated_by w.hardware c touch) ≡ Some f
    → f < w.made.frames
frame_below w c touch f t h =
    ∥∥₁_elim t (hlevel props) (λ g.
    let at = reaches w.memory.cached w.slots.info w.calls.phase w.hardware c touch f g.coherent h in
    (g.order.pages touch.page).frame f (ap frame_of at.mapped ∙ at.frame))

-- ---- the pages that are to be locked

pub is_left : (w : World) (c : ℕ) (goal : Goal) (cursor : ℕ) → IsAt w c (Lock goal cursor) → cursor < (goal_range goal).end
is_left w c goal cursor i = ∥∥₁_elim (order i) (hlevel props) (λ g. (call_at w c (Lock goal cursor) i.phase g).ready.1)

-- of one page it is left to be locked itself
pub only_page : (w : World) (c : ℕ) (goal : Goal) (cursor : ℕ) → IsAt w c (Lock goal cursor) → (goal_range goal).end ≡ (goal_range goal).first + 1
    → cursor ≡ (goal_range goal).first
only_page w c goal cursor i one =
    ∥∥₁_elim (order i) (hlevel props) (λ g.
    let ready = (call_at w c (Lock goal cursor) i.phase g).ready in
    let from = ready.0 in let upto = ready.1 in omega (arith, from, upto, one))

-- ---- shootdowns

-- a change shoots just the cores that are recorded on a page of its range
pub shot_just : (files : ℕ → Option File) (s : Slots) (change : Change) (shoot : ℕ) → DecidesChange files s change (Act (range_of change) shoot)
    → (d : ℕ) → (members shoot d ≡ true) ↔ IsUser s (range_of change) d
shot_just files s (Put range meta) shoot h d = h.1 d
shot_just files s (Clear range) shoot h d = h.1 d
shot_just files s (Protect range prot) shoot (no_page a e) d = absurd cc
shot_just files s (Protect range prot) shoot (no_write a x r e) d = absurd cc
shot_just files s (Protect range prot) shoot (acts a r k) d = k.1 d

pub valid_range : (range : PageRange) → IsPageRange range → are_pages range ≡ true
valid_range range h = let low = h.low in let high = h.high in grind (arith, nat_tests, low, high)

pub change_pages : (change : Change) → IsSoundGoal (To.Change change) → are_pages (range_of change) ≡ true
change_pages change sound = valid_range (range_of change) (sound_pages change sound.plan)

-- the oldest message is of valid pages
abbrev pub IsValidAsked : Took → Type 0
IsValidAsked (TookOf.Clear range) = are_pages range ≡ true
IsValidAsked (TookOf.Invalidate range) = are_pages range ≡ true
IsValidAsked TookOf.Idle = Unit {0}

awaited_pages : (w : World) (c : ℕ) (range : PageRange) (phase : Phase) → IsOrderly w → w.calls.phase c ≡ phase → c < w.made.cores
    → awaits_in phase ≡ Some range → are_pages range ≡ true
awaited_pages w c range (Acks goal change) g e here h =
    let call = call_at w c (Acks goal change) e g in
    let sound : IsSoundGoal goal = record { plan = served w c (goal_plan goal) g here call.asked; target = call.ready.0 } in
    let same : range_of change ≡ range = cc in
    subst (λ r. are_pages r ≡ true) same
    (valid_range (range_of change) (acts_valid _ w.slots goal (range_of change) call.ready.2.0 sound call.ready.2.1))
awaited_pages w c range (CopyAcks touch frame) g e here h =
    let call = call_at w c (CopyAcks touch frame) e g in
    let same : page_of_touch touch ≡ range = cc in
    subst (λ r. are_pages r ≡ true) same (valid_range (page_of_touch touch) (page_range touch (served w c (PlanOf.Touch touch) g here call.asked)))
awaited_pages w c range phase g e here h = absurd cc

-- a call that awaits pages is of one of the machine's cores
awaits_here : (w : World) (c : ℕ) (range : PageRange) → IsOrderly w → awaits_in (w.calls.phase c) ≡ Some range → c < w.made.cores
awaits_here w c range g h = go (nat_lt c w.made.cores) refl
  where
    go : (b : Bool) → nat_lt c w.made.cores ≡ b → c < w.made.cores
    go true e = grind (arith, nat_tests)
    go false e = let outside : w.calls.phase c ≡ Free = g.outside c (grind (arith, nat_tests, e)) in absurd cc

pub message_pages : (w : World) (d : ℕ) → ∥ IsWellFormed w ∥₁ → (took : Took) → took ≡ asked (w.hardware.inbox d) → IsValidAsked took
message_pages w d t took e = subst IsValidAsked (sym e) (go (w.hardware.inbox d) refl)
  where
    by : (m : Message) (b : Bool) → are_pages m.range ≡ true → IsValidAsked (if b then TookOf.Invalidate m.range else TookOf.Clear m.range)
    by m true h = h
    by m false h = h

    go : (ms : List Message) → w.hardware.inbox d ≡ ms → IsValidAsked (asked ms)
    go [] same = tt
    go (m ∷ ms) same =
        by m m.is_cleared (∥∥₁_elim t (hlevel props) (λ g.
        let awaited_one = (subst (AreAsked w.calls.phase d) same (g.coherent.asked d)).1 in
        awaited_pages w m.from m.range (w.calls.phase m.from) g.order refl (awaits_here w m.from m.range g.order awaited_one) awaited_one))

valid_page : (p : ℕ) → IsPage p → is_page p ≡ true
valid_page p h = let low = h.0 in let high = h.1 in grind (arith, nat_tests, low, high)

-- what is no page has no entry
pub no_page_entry : (w : World) (c p : ℕ) → ∥ IsWellFormed w ∥₁ → is_page p ≡ false → w.hardware.table c p ≡ None
no_page_entry w c p t not_page = go (w.hardware.table c p) refl
  where
    go : (o : Option Translation) → w.hardware.table c p ≡ o → o ≡ None
    go None e = refl
    go (Some x) e =
        ∥∥₁_elim t (hlevel props) (λ g.
        let mapped = (backs w.memory.cached (w.slots.info p) c x (g.coherent.tables c p x e)).mapped in
        absurd (let yes = valid_page p ((g.order.pages p).valid (ap is_some mapped)) in cc))

-- ---- a page that is to be installed

right_allowed : (prot : Prot) (access : Access) → is_allowed prot access ≡ true → has_right prot ≡ true
right_allowed prot Load h = h
right_allowed prot Store h = or_left _ prot.exec (or_right prot.read prot.write h)
right_allowed prot Fetch h = or_right _ prot.exec h

-- what shows its file's page may be read
right_shown : (shown : Bool) (prot : Prot) → has_right prot ≡ true → has_right (prot_shown shown prot) ≡ true
right_shown true prot h = refl
right_shown false prot h = h

-- the page of an access that is to install it is mapped, allows some access, and has a frame
pub install_right : (w : World) (c : ℕ) (touch : Touch) (info : PageInfo) → IsAt w c (Install touch) → w.slots.info touch.page ≡ Some info
    → has_right (prot_installed w.memory.cached info) ≡ true
install_right w c touch info i e =
    ∥∥₁_elim (order i) (hlevel props) (λ g.
    let usable = (call_at w c (Install touch) i.phase g).ready in
    right_shown (is_private info.meta.back && shows_some w.memory.cached info.meta.back info.frame) info.meta.prot
    (right_allowed info.meta.prot touch.access (subst (λ o. IsUsable w.made.file o touch.access (Some usable.0)) e usable.1).0))
