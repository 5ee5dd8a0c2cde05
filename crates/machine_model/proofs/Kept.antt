-- Every step from an orderly state leaves an orderly one.
use Rattle.machine_model.proofs.Words.{◌≡◌, ◌≢◌, ℕ, suc, ◌≤◌, ◌<◌, ◌+◌, Bool, true, false, cond, refl, sym, ap, subst, arith, Some, None, Option, List, []}
use Rattle.machine_model.proofs.Words.{◌∷◌, ◌++◌, ◌∙◌, length, length-append, ◌==◌, nat_tests, PageRange, Reply, NoMemory, Request, has, IsPageRange, mode_of}
use Rattle.machine_model.proofs.Words.{put_all, put_both, in_has, Change, Touch, Goal, range_of, target_range, goal_range, IsSoundGoal, Slots, between, Event}
use Rattle.machine_model.proofs.Words.{Outcome, Phase, Free, Check, Lock, Guess, Find, Cut, Decide, Post, Acks, Answer, Try, Settle, Want, Fill}
use Rattle.machine_model.proofs.Words.{CopyPost, CopyAcks, Install, Release, after_access, memory_after, reply_of, after_reply, let_go, Counts, Flushing}
use Rattle.machine_model.proofs.Words.{Reviewing, slots_after, after_commit, reply_to, CountsLost, frame_lost, with_counts, with_free, given_back}
use Rattle.machine_model.proofs.Words.{after_give_up, page_of_touch, range_held, awaits_in, holds, some_has, taken_in, is_open, can_give_up, still_held, World}
use Rattle.machine_model.proofs.Words.{Memory, after_call, with_event, Step, sound_pages}
use Rattle.std.specs.Prelude.{◌-◌}
use Rattle.slot_lock.specs.declared.plan.Plan.TheVariants as PlanOf
use Rattle.slot_lock.specs.Slots.{Joins}
use Rattle.machine_model.specs.declared.phase.Phase.TheVariants.{Back as Leaving}
use Rattle.machine_model.specs.Holding.{if_some_page}
use Rattle.machine_model.specs.Orderly.{IsOrderly, IsAsked, Serves, IsCutFor, IsReady, BelongsTo, IsMemory}
use Rattle.machine_model.proofs.Asked.{asked_more}
use Rattle.machine_model.proofs.Counted.{frees, written, counted, counts_down, freed}
use Rattle.machine_model.proofs.Changed.{changed_owner, changed_edge, same_outside}
use Rattle.machine_model.proofs.Deciding.{change_sound, touch_sound, goal_valid, acts_in, acts_valid}
use Rattle.machine_model.proofs.Moves.{IsCallOf, call_at, Touches, untouched, KeepsCached, tells, none_taken, asked_gone}
use Rattle.machine_model.proofs.Moves.{held_gone, out_gone, IsHeldRange, ready_gone, awaits_held}
use Rattle.machine_model.proofs.Numbered.{at_new}
use Rattle.machine_model.proofs.OpenCalls.{one, open_put}
use Rattle.machine_model.proofs.Owned.{changed_belongs}
use Rattle.machine_model.proofs.Shapes.{Replies, refuses, no_place, declines, fails, no_frame, GoesBy, moves, divides, cuts, fits, owns, lets_go, answers}
use Rattle.machine_model.proofs.Shapes.{posts, commits, takes, zeroes, first_copies, caches, shares, posts_copy, copies, installs, accesses, faults, Works}
use Rattle.machine_model.proofs.Shapes.{clears, invalidates, walks, evicts, flushes, reviews, frees as frees_frame, Shape, rests, begins, ends, goes, aims}
use Rattle.machine_model.proofs.Shapes.{aimed, gives_up, works, joins, Comes, stopped, acts as happens, comes}
use Rattle.machine_model.proofs.Slots.{divided, other_edges}
use Rattle.machine_model.proofs.Going.{steps, page_range, call_sound, place_valid, moves_kept, aims_kept, fits_kept, posts_kept, faults_kept}
use Rattle.machine_model.proofs.Locking.{owns_kept, lets_go_kept}
use Rattle.machine_model.proofs.Paging.{given_below, takes_kept, zeroes_kept, first_copies_kept, caches_kept}
use Rattle.machine_model.proofs.Paging.{shares_kept, posts_copy_kept, copies_kept, installs_kept}

-- ---- the call has its reply, and nothing else changes

-- the call was opened, and holds just this, which are valid pages
record Ends (phase : Phase) (held : Option PageRange) : Type 0 where
  opened : is_open phase ≡ true
  same : (p : ℕ) → some_has held p ≡ holds phase p
  cut : (edge : ℕ → Bool) → IsCutFor edge (range_held phase) → IsCutFor edge held
  valid : IsHeldRange held

ends_by : (phase old : Phase) (held : Option PageRange) → phase ≡ old → Ends old held → Ends phase held
ends_by phase old held e h = subst (λ x. Ends x held) (sym e) h

reply_ends : (w : World) (c : ℕ) (held : Option PageRange) (reply : Reply) → IsOrderly w → c < w.made.cores → Replies w c held reply
    → Ends (w.calls.phase c) held
reply_ends w c held reply g lt (refuses request e h k) =
    ends_by _ (Check request) held e (subst (Ends (Check request)) (sym h) (record { opened = refl; same = λ p. refl; cut = λ edge k. k; valid = tt }))
reply_ends w c held reply g lt (no_place place target errno e h r d) =
    let k : IsCallOf w c (Find place target) = call_at w c (Find place target) e g in
    ends_by _ (Find place target) held e (subst (Ends (Find place target)) (sym h)
    (record { opened = refl; same = λ p. refl; cut = λ edge k. k; valid = place_valid w c place target g lt k.asked k.ready }))
reply_ends w c held reply g lt (declines change errno e h r d) =
    let k : IsCallOf w c (Decide change) = call_at w c (Decide change) e g in
    ends_by _ (Decide change) held e (subst (Ends (Decide change)) (sym h)
    (record {
      opened = refl;
      same = λ p. refl;
      cut = λ edge k. k;
      valid = sound_pages change (change_sound (λ k. mode_of (w.made.file k)) c k.asked.request change k.asked.passed);
    }))
reply_ends w c held reply g lt (fails touch e h f) =
    let k : IsCallOf w c (Settle touch) = call_at w c (Settle touch) e g in
    ends_by _ (Settle touch) held e (subst (Ends (Settle touch)) (sym h)
    (record {
      opened = refl;
      same = λ p. refl;
      cut = λ edge k. k;
      valid = page_range touch (touch_sound (λ k. mode_of (w.made.file k)) c k.asked.request touch k.asked.passed);
    }))
reply_ends w c held reply g lt (no_frame touch old e h r f) =
    let k : IsCallOf w c (Want touch old) = call_at w c (Want touch old) e g in
    ends_by _ (Want touch old) held e (subst (Ends (Want touch old)) (sym h)
    (record {
      opened = refl;
      same = λ p. refl;
      cut = λ edge k. k;
      valid = page_range touch (touch_sound (λ k. mode_of (w.made.file k)) c k.asked.request touch k.asked.passed);
    }))

-- over these slots, which it owns as before, and this memory
replied : (w : World) (c : ℕ) (held : Option PageRange) (reply : Reply) (t : Slots) (m : Memory) → IsOrderly w → c < w.made.cores → Ends (w.calls.phase c) held
    → Touches w.slots t c → t.owner ≡ w.slots.owner → t.edge ≡ w.slots.edge → KeepsCached w.memory.cached m.cached
    → ((p : ℕ) → BelongsTo w.made p (t.info p)) → IsMemory w.made m
    → IsOrderly (after_reply c held reply (record w { slots = t; memory = m }))
replied w c held reply t m g lt end touches owner edge keeps pages memory =
    tells w c held reply t m w.calls.events (w.calls.number c) c g lt end.opened touches keeps
    (record {
      asked = asked_gone w.made w.calls.requests c (w.calls.number c) held reply;
      owned = λ p h. ap (λ f. f p) owner ∙ k.owned p (sym (same p) ∙ h);
      only = λ p h. same p ∙ k.only p (sym (ap (λ f. f p) owner) ∙ h);
      cut = subst (λ e. IsCutFor e (range_held (let_go held reply))) (sym edge)
          (subst (IsCutFor w.slots.edge) (sym (held_gone held reply)) (end.cut w.slots.edge k.cut));
      cut_out = out_gone t.edge held reply;
      ready = ready_gone w.made t m.cached held reply end.valid;
      taken = λ f h. absurd (none_taken held reply f h);
    })
    pages memory
  where
    k : IsCallOf w c (w.calls.phase c)
    k = call_at w c (w.calls.phase c) refl g

    same : (p : ℕ) → holds (let_go held reply) p ≡ holds (w.calls.phase c) p
    same p = ap (λ r. some_has r p) (held_gone held reply) ∙ end.same p

-- ---- Acks

-- only pages of the change are mapped otherwise
changed_touches : (s : Slots) (c : ℕ) (change : Change) → ((p : ℕ) → has (range_of change) p ≡ true → s.owner p ≡ Some c) → Touches s (slots_after change s) c
changed_touches s c change mine = record {
  info = λ p ne. out p ne (has (range_of change) p) refl;
  now = λ d p ne h. sym (ap (λ f. f p) (changed_owner s change)) ∙ h;
  still = λ d p ne h. ap (λ f. f p) (changed_owner s change) ∙ h;
  edge = λ p h. ap (λ f. f p) (changed_edge s change) ∙ h;
}
  where
    out : (p : ℕ) → s.owner p ≢ Some c → (b : Bool) → has (range_of change) p ≡ b → (slots_after change s).info p ≡ s.info p
    out p ne true i = absurd (ne (mine p i))
    out p ne false i = same_outside s change p i

commits_kept : (w : World) (c : ℕ) (goal : Goal) (change : Change) (counts : Counts) → IsOrderly w → c < w.made.cores
    → w.calls.phase c ≡ Acks goal change → CountsLost c change w counts → IsOrderly (after_commit c change (goal_range goal) counts w)
commits_kept w c goal change counts g lt e l =
    replied w c (Some (goal_range goal)) (reply_to change) (slots_after change w.slots) (with_counts counts w).memory g lt
    (ends_by _ (Acks goal change) (Some (goal_range goal)) e (record {
      opened = refl;
      same = λ p. refl;
      cut = λ edge k. k;
      valid = goal_valid goal sound;
    }))
    (changed_touches w.slots c change (λ p i. k.owned p (acts_in w.made.file w.slots goal (range_of change) k.ready.2.0 p k.ready.2.1 i)))
    (changed_owner w.slots change) (changed_edge w.slots change) (λ n k f h. h)
    (changed_belongs w.made w.slots change (acts_valid w.made.file w.slots goal (range_of change) k.ready.2.0 sound k.ready.2.1) g.pages)
    (counts_down w.made w.memory c (frame_lost change w.slots.info) _ _ counts g.memory l)
  where
    k : IsCallOf w c (Acks goal change)
    k = call_at w c (Acks goal change) e g

    sound : IsSoundGoal goal
    sound = call_sound w c goal g lt k.asked k.ready.0

-- ---- Try

accesses_kept : (w : World) (c : ℕ) (touch : Touch) (f : ℕ) → IsOrderly w → c < w.made.cores → w.calls.phase c ≡ Try touch
    → IsOrderly (after_access c touch f w)
accesses_kept w c touch f g lt e =
    replied w c None (reply_of touch f w.memory) w.slots (memory_after touch f w.memory) g lt
    (ends_by _ (Try touch) None e (record { opened = refl; same = λ p. refl; cut = λ edge k. k; valid = tt }))
    (untouched w.slots c) refl refl (λ n k f h. h) g.pages (written w.made w.memory _ g.memory)

-- ---- a call is given up

-- a range with pages, all of them valid, is still held as a whole
whole_ends : (phase : Phase) (r : PageRange) → is_open phase ≡ true → range_held phase ≡ Some r → IsPageRange r → Ends phase (still_held phase)
whole_ends phase r opened held range =
    record {
      opened = opened;
      same = λ p. ap (λ o. some_has o p) same ∙ sym (ap (λ o. some_has o p) held);
      cut = λ edge k. subst (IsCutFor edge) (sym same) (subst (IsCutFor edge) held k);
      valid = subst IsHeldRange (sym same) range;
    }
  where
    some : (r.first == r.end) ≡ false
    some = grind (arith, nat_tests, range.some)

    same : still_held phase ≡ Some r
    same = ap if_some_page held ∙ ap (λ b. cond b None (Some r)) some

change_ends : (w : World) (c : ℕ) (phase : Phase) (change : Change) → is_open phase ≡ true → range_held phase ≡ Some (range_of change)
    → Serves w.made w.calls.requests c (w.calls.number c) (PlanOf.Change change) → Ends phase (still_held phase)
change_ends w c phase change opened held s =
    whole_ends phase (range_of change) opened held (sound_pages change (change_sound (λ k. mode_of (w.made.file k)) c s.request change s.passed))

page_ends : (w : World) (c : ℕ) (phase : Phase) (touch : Touch) → is_open phase ≡ true → range_held phase ≡ Some (page_of_touch touch)
    → Serves w.made w.calls.requests c (w.calls.number c) (PlanOf.Touch touch) → Ends phase (still_held phase)
page_ends w c phase touch opened held s =
    whole_ends phase (page_of_touch touch) opened held (page_range touch (touch_sound (λ k. mode_of (w.made.file k)) c s.request touch s.passed))

-- while pages are being locked, those below the cursor are held, if there are any
locked_ends : (w : World) (c : ℕ) (goal : Goal) (cursor : ℕ) → IsOrderly w → c < w.made.cores → w.calls.phase c ≡ Lock goal cursor
    → Ends (Lock goal cursor) (still_held (Lock goal cursor))
locked_ends w c goal cursor g lt e = go ((goal_range goal).first == cursor) refl
  where
    k : IsCallOf w c (Lock goal cursor)
    k = call_at w c (Lock goal cursor) e g

    range : IsPageRange (goal_range goal)
    range = goal_valid goal (call_sound w c goal g lt k.asked k.ready.2)

    empty : (a b p : ℕ) → (a == b) ≡ true → has (between a b) p ≡ false
    empty a b p h = grind (arith, nat_tests)

    go : (b : Bool) → ((goal_range goal).first == cursor) ≡ b
        → Ends (Lock goal cursor) (cond b None (Some (between (goal_range goal).first cursor)))
    go true i = record {
      opened = refl;
      same = λ p. sym (empty (goal_range goal).first cursor p i);
      cut = λ edge h. tt;
      valid = tt;
    }
    go false i = record {
      opened = refl;
      same = λ p. refl;
      cut = λ edge h. h;
      valid = record { some = grind (arith, nat_tests, i, k.ready.0); low = range.low; high = let x = range.high in let y = k.ready.1 in omega (arith, x, y) };
    }

-- what a call that may be given up still holds
gives_up_ends : (w : World) (c : ℕ) (phase : Phase) → IsOrderly w → c < w.made.cores → w.calls.phase c ≡ phase → can_give_up phase ≡ true
    → Ends phase (still_held phase)
gives_up_ends w c (Check request) g lt e can = record { opened = refl; same = λ p. refl; cut = λ edge k. k; valid = tt }
gives_up_ends w c (Try touch) g lt e can = record { opened = refl; same = λ p. refl; cut = λ edge k. k; valid = tt }
gives_up_ends w c (Lock goal cursor) g lt e can = locked_ends w c goal cursor g lt e
gives_up_ends w c (Guess place) g lt e can = record { opened = refl; same = λ p. refl; cut = λ edge k. k; valid = tt }
gives_up_ends w c (Find place target) g lt e can =
    let k : IsCallOf w c (Find place target) = call_at w c (Find place target) e g in
    whole_ends (Find place target) (target_range place target) refl refl (place_valid w c place target g lt k.asked k.ready)
gives_up_ends w c (Leaving place target held) g lt e can =
    let k : IsCallOf w c (Leaving place target held) = call_at w c (Leaving place target held) e g in
    whole_ends (Leaving place target held) held refl refl k.ready.1.pages
gives_up_ends w c (Cut place target range) g lt e can =
    let k : IsCallOf w c (Cut place target range) = call_at w c (Cut place target range) e g in
    whole_ends (Cut place target range) (target_range place target) refl refl (place_valid w c place target g lt k.asked k.ready.0)
gives_up_ends w c (Decide change) g lt e can = change_ends w c (Decide change) change refl refl (call_at w c (Decide change) e g).asked
gives_up_ends w c (Post change shoot) g lt e can = change_ends w c (Post change shoot) change refl refl (call_at w c (Post change shoot) e g).asked
gives_up_ends w c (Settle touch) g lt e can = page_ends w c (Settle touch) touch refl refl (call_at w c (Settle touch) e g).asked
gives_up_ends w c (Want touch old) g lt e can = page_ends w c (Want touch old) touch refl refl (call_at w c (Want touch old) e g).asked
gives_up_ends w c (CopyPost touch f) g lt e can = page_ends w c (CopyPost touch f) touch refl refl (call_at w c (CopyPost touch f) e g).asked
gives_up_ends w c (CopyAcks touch f) g lt e can = page_ends w c (CopyAcks touch f) touch refl refl (call_at w c (CopyAcks touch f) e g).asked
gives_up_ends w c (Fill touch frame) g lt e can = page_ends w c (Fill touch frame) touch refl refl (call_at w c (Fill touch frame) e g).asked
gives_up_ends w c (Install touch) g lt e can = page_ends w c (Install touch) touch refl refl (call_at w c (Install touch) e g).asked
gives_up_ends w c (Release touch) g lt e can = page_ends w c (Release touch) touch refl refl (call_at w c (Release touch) e g).asked
gives_up_ends w c _ g lt e can = absurd cc

gives_up_kept : (w : World) (c : ℕ) → IsOrderly w → c < w.made.cores → can_give_up (w.calls.phase c) ≡ true
    → IsOrderly (after_give_up c (w.calls.phase c) w)
gives_up_kept w c g lt can =
    replied w c (still_held (w.calls.phase c)) NoMemory w.slots (record w.memory { is_free = given_back (taken_in (w.calls.phase c)) w.memory.is_free }) g lt
    (gives_up_ends w c (w.calls.phase c) g lt refl can) (untouched w.slots c) refl refl (λ n k f h. h) g.pages
    (frees w.made w.memory _ g.memory (given_below w (taken_in (w.calls.phase c)) g (g.taken c)))

-- ---- a call begins

begins_kept : (w : World) (c : ℕ) (request : Request) → IsOrderly w → c < w.made.cores → w.calls.phase c ≡ Free
    → length w.calls.requests < w.made.calls → IsOrderly (after_call c request w)
begins_kept w c request g lt e below = record {
  asked = put_both (λ d n x. IsAsked w.made more d n x) w.calls.number w.calls.phase c (suc (length w.calls.requests)) (Check request)
      (at_new w.calls.requests request) (λ d ne. asked_more w.made w.calls.requests request d (w.calls.number d) (w.calls.phase d) (g.asked d));
  owned = λ d p. put_all (λ d x. holds x p ≡ true → w.slots.owner p ≡ Some d) w.calls.phase c (Check request) (λ h. absurd cc) (λ d ne. g.owned d p) d;
  only = λ d p. put_all (λ d x. w.slots.owner p ≡ Some d → holds x p ≡ true) w.calls.phase c (Check request) (k.only p) (λ d ne. g.only d p) d;
  cut = put_all (λ d x. IsCutFor w.slots.edge (range_held x)) w.calls.phase c (Check request) tt (λ d ne. g.cut d);
  cut_out = put_all (λ d x. IsCutFor w.slots.edge (awaits_in x)) w.calls.phase c (Check request) tt (λ d ne. g.cut_out d);
  ready = put_all (λ d x. IsReady w.made w.slots w.memory.cached x) w.calls.phase c (Check request) tt (λ d ne. g.ready d);
  pages = g.pages;
  taken = λ d f. put_all (λ d x. taken_in x ≡ Some f → f < w.made.frames) w.calls.phase c (Check request) (λ h. absurd cc) (λ d ne. g.taken d f) d;
  memory = g.memory;
  outside = put_all (λ d x. w.made.cores ≤ d → x ≡ Free) w.calls.phase c (Check request) (λ h. absurd (omega (arith, h, lt))) (λ d ne. g.outside d);
  few = g.few;
  room =
      let a = open_put w.calls.phase c (Check request) w.made.cores lt in
      let b : one (w.calls.phase c) ≡ 0 = ap one e in
      let f = g.room in
      omega (arith, a, b, longer, f);
  limit = omega (arith, longer, below);
}
  where
    more : List Request
    more = w.calls.requests ++ request ∷ []

    longer : length more ≡ length w.calls.requests + 1
    longer = length-append w.calls.requests (request ∷ [])

    k : IsCallOf w c Free
    k = call_at w c Free e g

-- ---- slots are joined, or memory changes, beside the calls

other_memory : (w : World) (m : Memory) → IsOrderly w → m.cached ≡ w.memory.cached → IsMemory w.made m → IsOrderly (record w { memory = m })
other_memory w m g same memory = record {
  asked = g.asked;
  owned = g.owned;
  only = g.only;
  cut = g.cut;
  cut_out = g.cut_out;
  ready = λ c. subst (λ cached. IsReady w.made w.slots cached (w.calls.phase c)) (sym same) (g.ready c);
  pages = g.pages;
  taken = g.taken;
  memory = memory;
  outside = g.outside;
  few = g.few;
  room = g.room;
  limit = g.limit;
}

-- a page that a call holds begins a slot as before, and so does the page after it
edge_stays : (s t : Slots) (c p : ℕ) → Joins s t → s.owner p ≡ Some c → s.edge p ≡ true → t.edge p ≡ true
edge_stays s t c p j mine at = j.elsewhere p (λ none. cc) ∙ at

end_stays : (s t : Slots) (c e : ℕ) → Joins s t → s.owner e ≡ Some c → s.edge (e + 1) ≡ true → t.edge (e + 1) ≡ true
end_stays s t c e j mine at = go (t.edge (e + 1)) refl
  where
    go : (b : Bool) → t.edge (e + 1) ≡ b → b ≡ true
    go true h = refl
    go false h = absurd (let free = (j.could (e + 1) at h).free in let same : e + 1 - 1 ≡ e = omega arith in
        let none : s.owner e ≡ None = subst (λ p. s.owner p ≡ None) same free in cc)

joined : (w : World) (t : Slots) → Joins w.slots t → IsOrderly w → IsOrderly (record w { slots = t })
joined w t j g =
    other_edges w t j.owners j.info (λ c. cut (range_held (w.calls.phase c)) c (λ p i. g.owned c p i) (g.cut c))
    (λ c. cut (awaits_in (w.calls.phase c)) c
    (λ p i. g.owned c p (awaits_held w.made w.slots w.memory.cached (w.calls.phase c) p (g.ready c) i)) (g.cut_out c)) g
  where
    cut : (held : Option PageRange) (c : ℕ) → ((p : ℕ) → some_has held p ≡ true → w.slots.owner p ≡ Some c) → IsCutFor w.slots.edge held → IsCutFor t.edge held
    cut None c mine h = tt
    cut (Some r) c mine h = λ some.
        let k = h some in
        let last : suc (r.end - 1) ≡ r.end = omega (arith, some) in
        let at : r.end - 1 + 1 ≡ r.end = omega (arith, some) in (
          edge_stays w.slots t c r.first j (mine r.first (in_has r r.first (omega arith) some)) k.0,
          subst (λ e. t.edge e ≡ true) at
              (end_stays w.slots t c (r.end - 1) j (mine (r.end - 1) (in_has r (r.end - 1) (omega (arith, some)) (omega (arith, some))))
              (subst (λ e. w.slots.edge e ≡ true) (sym at) k.1)),
        )

-- ---- every shape

goes_kept : (w : World) (c : ℕ) (v : World) → IsOrderly w → c < w.made.cores → GoesBy w c v → IsOrderly v
goes_kept w c v g lt (moves new m h) = subst IsOrderly (sym h) (moves_kept w c new g lt m)
goes_kept w c v g lt (divides goal cursor t e s h) = subst IsOrderly (sym h) (divided w t None s.divides.0 s.divides.2 g)
goes_kept w c v g lt (cuts place target range t e s h) = subst IsOrderly (sym h) (divided w t (Some c) s.divides.0 s.divides.2 g)
goes_kept w c v g lt (fits place target range e cut h) = subst IsOrderly (sym h) (fits_kept w c place target range g lt e cut)
goes_kept w c v g lt (owns goal cursor b t e l h) = subst IsOrderly (sym h) (owns_kept w c goal cursor b t g lt e l)
goes_kept w c v g lt (lets_go held b t new l u h) = subst IsOrderly (sym h) (lets_go_kept w c held b t new g lt l u)
goes_kept w c v g lt (answers held reply r h) =
    subst IsOrderly (sym h)
    (replied w c held reply w.slots w.memory g lt (reply_ends w c held reply g lt r) (untouched w.slots c) refl refl (λ n k f h. h) g.pages g.memory)
goes_kept w c v g lt (posts change shoot e h) = subst IsOrderly (sym h) (posts_kept w c change shoot g lt e)
goes_kept w c v g lt (commits goal change counts e n l h) = subst IsOrderly (sym h) (commits_kept w c goal change counts g lt e l)
goes_kept w c v g lt (takes touch old f e l h) = subst IsOrderly (sym h) (takes_kept w c touch old f g lt e l)
goes_kept w c v g lt (zeroes touch f counts e b t h) = subst IsOrderly (sym h) (zeroes_kept w c touch f counts g lt e t)
goes_kept w c v g lt (first_copies touch f counts e b t h) = subst IsOrderly (sym h) (first_copies_kept w c touch f counts g lt e t)
goes_kept w c v g lt (caches touch f counts e s n t h) = subst IsOrderly (sym h) (caches_kept w c touch f counts g lt e n t)
goes_kept w c v g lt (shares touch own x counts e s n t h) = subst IsOrderly (sym h) (shares_kept w c touch own x counts g lt e n t)
goes_kept w c v g lt (posts_copy touch f e h) = subst IsOrderly (sym h) (posts_copy_kept w c touch f g lt e)
goes_kept w c v g lt (copies touch f x counts e n at t h) = subst IsOrderly (sym h) (copies_kept w c touch f x counts g lt e t)
goes_kept w c v g lt (installs touch e h) = subst IsOrderly (sym h) (installs_kept w c touch g lt e)
goes_kept w c v g lt (accesses touch f e i h) = subst IsOrderly (sym h) (accesses_kept w c touch f g lt e)
goes_kept w c v g lt (faults touch e i h) = subst IsOrderly (sym h) (faults_kept w c touch g lt e)

works_kept : (w : World) (c : ℕ) (e : Event) (v : World) → IsOrderly w → Works w c e v → IsOrderly v
works_kept w c e v g (clears i range k h) = subst IsOrderly (sym h) g
works_kept w c e v g (invalidates i range k h) = subst IsOrderly (sym h) g
works_kept w c e v g (walks p i k h) = subst IsOrderly (sym h) g
works_kept w c e v g (evicts p i k h) = subst IsOrderly (sym h) g
works_kept w c e v g (flushes i report counts t h) =
    subst IsOrderly (sym h) (other_memory w (with_counts counts w).memory g refl (counted w.made w.memory (Flushing c report) counts g.memory t))
works_kept w c e v g (reviews i report counts t h) =
    subst IsOrderly (sym h) (other_memory w (with_counts counts w).memory g refl (counted w.made w.memory (Reviewing c report) counts g.memory t))
works_kept w c e v g (frees_frame i f counts t h) =
    subst IsOrderly (sym h) (other_memory w (with_free f (with_counts counts w)).memory g refl (freed w.made w.memory c f counts g.memory t))

shape_kept : (w : World) (e : Event) (o : Outcome) (v : World) → IsOrderly w → Shape w e o v → IsOrderly v
shape_kept w e o v g (rests i h) = subst IsOrderly (sym h) g
shape_kept w e o v g (begins c request i s lt p below h) = subst IsOrderly (sym h) (begins_kept w c request g lt p below)
shape_kept w e o v g (ends c reply i s lt p h) = subst IsOrderly (sym h) (steps w c (Answer reply) Free p g lt refl refl tt tt tt (λ f x. absurd cc))
shape_kept w e o v g (goes c i s lt k) = goes_kept w c v g lt k
shape_kept w e o v g (aims c place target a s lt p h) = subst IsOrderly (sym h) (aims_kept w c place target g lt p (aimed c place e target a))
shape_kept w e o v g (gives_up c i s lt can u h) = subst IsOrderly (sym h) (gives_up_kept w c g lt can)
shape_kept w e o v g (works c s lt k) = works_kept w c e v g k
shape_kept w e o v g (joins p t i s page j m h) = subst IsOrderly (sym h) (joined w t j g)

-- the order doesn't look at the number of events
pub kept : (w v : World) (e : Event) (o : Outcome) → IsOrderly w → Step w e o v → IsOrderly v
kept w v e o g s = go (comes w e o v s)
  where
    go : Comes w e o v → IsOrderly v
    go (stopped n i h) = subst IsOrderly (sym h) g
    go (happens n h) = shape_kept (with_event w) e o v g h
