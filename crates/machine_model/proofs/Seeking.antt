-- A lone mapping that leaves its place open goes to the first place: nothing changes between its guess and its decision.
use Rattle.machine_model.proofs.Words.{◌≡◌, ℕ, ◌<◌, not, Bool, true, false, cond, inl, inr, refl, sym, ap, subst, Some, None, Option, Ok, Err, ◌∙◌, is_some}
use Rattle.machine_model.proofs.Words.{nat_le, fun_ext, PageInfo, PageRange, Errno, Reply, Refused, Request, Mmap, Mode}
use Rattle.machine_model.proofs.Words.{IsFree, IsLeastRoom, pages_from, Plain, is_mapped, mode_of, refusal, put_same, Change, Put, Goal, Place, Plan, Target}
use Rattle.machine_model.proofs.Words.{Hint, Window, Touch, IsTarget, goal_range, range_of, Slots, Act, Again, Refuse, plan_of, unless_refused, DecidesPlace}
use Rattle.machine_model.proofs.Words.{entries, entry_of, free, taken, passed, Stepped, Phase, Check, Lock, Guess, Find, Cut, Decide, Acks, Unlock, Answer}
use Rattle.machine_model.proofs.Words.{Try, Settle, Want, CopyAcks, Install, reply_of, taken_for, let_go, to, after_plan, checked_by, reply_to, all_locked}
use Rattle.machine_model.proofs.Words.{held_after, locked_to, locking, guess_of, placing, Goes, Memory, World, nth, is_placed, Users}
use Rattle.vm_base.specs.Plain.{PageEntry}
use Rattle.slot_lock.specs.declared.plan.Goal.TheVariants as To
use Rattle.slot_lock.specs.declared.plan.Plan.TheVariants as PlanOf
use Rattle.slot_lock.specs.declared.plan.Target.TheVariants.{Run}
use Rattle.machine_model.specs.declared.phase.Phase.TheVariants.{Back as Leaving}
use Rattle.machine_model.specs.Orderly.{Serves}
use Rattle.machine_model.proofs.Effects.{Asked, status}
use Rattle.machine_model.proofs.Moves.{IsCallOf, call_at}
use Rattle.machine_model.proofs.Shapes.{Moves, locks, tries, hints, seeks, guesses, turns, chooses, acts, finds, lacks, shows, Replies, refuses, no_place}
use Rattle.machine_model.proofs.Shapes.{declines, fails, no_frame, LetsGo, unlocks, returns, releases, GoesBy, moves, divides, cuts, fits, owns, lets_go}
use Rattle.machine_model.proofs.Shapes.{answers, posts, commits, takes, zeroes, first_copies, caches, shares, posts_copy, copies, installs, accesses, faults}
use Rattle.machine_model.specs.Invariant.{IsWellFormed, ShowsPlain, ShowsPage}
use Rattle.machine_model.proofs.Replies.{has_modes}
use Rattle.machine_model.proofs.Aiming.{IsPlaceOf, place_asked}
use Rattle.machine_model.proofs.First.{IsFirst, IsFirstReply, IsHintTaken, named_first, placed_first, refused_first, reply_at}
use Rattle.machine_model.proofs.Rank.{back_all}
use Rattle.machine_model.proofs.Used.{IsUsed, its_touch, same_request, used_at}
use Rattle.machine_model.proofs.Using.{IsTouchOf, loads, stores, fetches, either_plan}

-- ---- what a mapping knows that looks for its place, where these pages are mapped

-- Of its target. A run is the least room.
abbrev pub IsNext : (ℕ → Bool) → Place → Target → Type 0
IsNext mapped place (Hint range) = Unit {0}
IsNext mapped place (Run range) = IsHintTaken mapped place.hint × IsLeastRoom mapped place.window place.count (Some range.first)
IsNext mapped place Window = IsHintTaken mapped place.hint

abbrev pub IsNextGoal : (ℕ → Bool) → Goal → Type 0
IsNextGoal mapped (To.Place place target) = IsNext mapped place target
IsNextGoal mapped goal = Unit {0}

-- the range to which it goes has the first place
abbrev pub IsFirstGoal : (ℕ → Bool) → Goal → PageRange → Type 0
IsFirstGoal mapped (To.Place place target) range = IsFirst mapped place (Some range.first)
IsFirstGoal mapped goal range = Unit {0}

-- Of core c's call, which was asked for the request and began in the map t. Its reply is the first.
abbrev pub Seeks : Plain → ℕ → Request → Phase → Type 0
Seeks t c request (Lock goal cursor) = IsNextGoal (is_mapped t.entry) goal
Seeks t c request (Guess place) = IsHintTaken (is_mapped t.entry) place.hint
Seeks t c request (Find place target) = IsNext (is_mapped t.entry) place target
Seeks t c request (Leaving place target held) = IsHintTaken (is_mapped t.entry) place.hint
Seeks t c request (Cut place target range) = IsFirst (is_mapped t.entry) place (Some range.first)
Seeks t c request (Acks goal change) = IsFirstGoal (is_mapped t.entry) goal (range_of change)
Seeks t c request (Unlock held reply) = IsFirstReply t c request reply
Seeks t c request (Answer reply) = IsFirstReply t c request reply
Seeks t c request _ = Unit {0}

abbrev pub IsSeeking : Plain → ℕ → Request → World → Type 0
IsSeeking t c request w = Seeks t c request (w.calls.phase c)

-- ---- the plain page map that the slots show

mapped_same : (m : Memory) (o : Option PageInfo) (z : Option PageEntry) → ShowsPage m o z → is_some (entry_of o) ≡ is_some z
mapped_same m None (Some page) h = absurd h
mapped_same m (Some info) None h = absurd h
mapped_same m _ _ h = refl

-- the same pages are mapped
shown_mapped : (w : World) (t : Plain) → ShowsPlain w t → is_mapped (entries w.slots) ≡ is_mapped t.entry
shown_mapped w t g = fun_ext (λ p. mapped_same w.memory (w.slots.info p) (t.entry p) (g.pages p))

-- and the files are open for the same
shown_modes : (w : World) (t : Plain) → ShowsPlain w t → ◌≡◌ {A = ℕ → Option Mode} (λ n. mode_of (t.file n)) (λ n. mode_of (w.made.file n))
shown_modes w t g = fun_ext (has_modes w t g)

-- ---- requests that don't leave their place open

touch_named : (request : Request) (touch : Touch) → IsTouchOf request touch → is_placed request ≡ false
touch_named request touch (loads addr r e) = ap is_placed r
touch_named request touch (stores addr byte r e) = ap is_placed r
touch_named request touch (fetches addr r e) = ap is_placed r

-- a call at an access
pub touch_is_named : (w : World) (c : ℕ) (touch : Touch) (request : Request) → nth w.calls.requests (w.calls.number c) ≡ Some request
    → Serves w.made w.calls.requests c (w.calls.number c) (PlanOf.Touch touch) → is_placed request ≡ false
touch_is_named w c touch request number z = touch_named request touch (its_touch w c touch request number z)

change_planned : (c : ℕ) (request : Request) (change : Change) → plan_of c request ≡ Ok (PlanOf.Change change) → is_placed request ≡ false
change_planned c (Mmap addr len prot flags file off) change e = go flags.fixed _ _ e
  where
    go : (b : Bool) (x : Plan) (place : Place) → either_plan b x (PlanOf.Place place) ≡ Ok (PlanOf.Change change) → not b ≡ false
    go true x place e = refl
    go false x place e = absurd cc
change_planned c _ change e = refl

-- a call that makes a change of its request's own
pub change_is_named : (w : World) (c : ℕ) (change : Change) (request : Request) → nth w.calls.requests (w.calls.number c) ≡ Some request
    → Serves w.made w.calls.requests c (w.calls.number c) (PlanOf.Change change) → is_placed request ≡ false
change_is_named w c change request number z =
    subst (λ r. is_placed r ≡ false) (same_request w c z.request request z.number number)
    (change_planned c z.request change
    (passed (refusal (λ n. mode_of (w.made.file n)) z.request) (plan_of c z.request) (PlanOf.Change change) z.passed).1)

-- a call that places a mapping
its_place : (w : World) (c : ℕ) (place : Place) (request : Request) → nth w.calls.requests (w.calls.number c) ≡ Some request
    → Serves w.made w.calls.requests c (w.calls.number c) (PlanOf.Place place) → IsPlaceOf c request place
its_place w c place request number z =
    subst (λ r. IsPlaceOf c r place) (same_request w c z.request request z.number number)
    (place_asked (λ n. mode_of (w.made.file n)) c z.request place z.passed)

-- ---- what its arguments refuse

unplanned : (c : ℕ) (request : Request) (reply : Reply) → plan_of c request ≡ Err reply → is_placed request ≡ false
unplanned c (Mmap addr len prot flags file off) reply e = absurd (go flags.fixed _ _ e)
  where
    go : (b : Bool) (x y : Plan) → either_plan b x y ≡ Err reply → ⊥
    go true x y e = cc
    go false x y e = cc
unplanned c _ reply e = refl

check_first : (w : World) (t : Plain) (c : ℕ) (request : Request) (reply : Reply) → ShowsPlain w t → checked_by w.made c request ≡ Err reply
    → IsFirstReply t c request reply
check_first w t c request reply g = go (refusal (λ n. mode_of (w.made.file n)) request) refl
  where
    go : (o : Option Reply) → refusal (λ n. mode_of (w.made.file n)) request ≡ o → unless_refused o (plan_of c request) ≡ Err reply
        → IsFirstReply t c request reply
    go None e k = named_first t c request reply (unplanned c request reply k)
    go (Some answer) e k =
        refused_first t c request reply answer (ap (λ (modes : ℕ → Option Mode). refusal modes request) (shown_modes w t g) ∙ e)

-- ---- decisions

-- a hint that is given up is taken
turned : (mapped : ℕ → Bool) (s : Slots) (place : Place) (target : Target) → is_mapped (entries s) ≡ mapped → IsTarget place target
    → DecidesPlace s place target Again → IsNext mapped place target → IsHintTaken mapped place.hint
turned mapped s place (Hint range) same aim (free f e) k = absurd cc
turned mapped s place (Hint range) same aim (taken h e) k =
    subst (IsHintTaken mapped) (sym aim)
    (λ unmapped. let a = unmapped h.0 h.1 in let b : mapped h.0 ≡ true = ap (λ (f : ℕ → Bool). f h.0) (sym same) ∙ h.2 in cc)
turned mapped s place (Run range) same aim d k = k.0
turned mapped s place Window same aim d k = k

-- what is decided is the first place
chosen : (mapped : ℕ → Bool) (s : Slots) (place : Place) (target : Target) (range : PageRange) (shoot : ℕ) → is_mapped (entries s) ≡ mapped
    → IsTarget place target → DecidesPlace s place target (Act range shoot) → IsNext mapped place target
    → IsFirst mapped place (Some range.first)
chosen mapped s place (Hint run) range shoot same aim (free f e) k =
    let whole : run ≡ range = cc in
    inl (run, aim, subst (λ (m : ℕ → Bool). IsFree m run) same f, ap (λ (r : PageRange). Some r.first) (sym whole))
chosen mapped s place (Hint run) range shoot same aim (taken h e) k = absurd cc
chosen mapped s place (Run run) range shoot same aim (free f e) k =
    let whole : run ≡ range = cc in
    inr (k.0, subst (λ (r : PageRange). IsLeastRoom mapped place.window place.count (Some r.first)) whole k.1)
chosen mapped s place (Run run) range shoot same aim (taken h e) k = absurd cc
chosen mapped s place Window range shoot same aim (None, none, e) k = absurd cc
chosen mapped s place Window range shoot same aim (Some first, least, e) k =
    let whole : pages_from first place.count ≡ range = cc in
    inr (
      k,
      subst (λ (r : PageRange). IsLeastRoom mapped place.window place.count (Some r.first)) whole
          (subst (λ (m : ℕ → Bool). IsLeastRoom m place.window place.count (Some first)) same least),
    )

-- a refusal too
unplaced : (mapped : ℕ → Bool) (s : Slots) (place : Place) (target : Target) (errno : Errno) → is_mapped (entries s) ≡ mapped
    → DecidesPlace s place target (Refuse errno) → IsNext mapped place target → IsFirst mapped place None × (Refused errno ≡ reply_at None)
unplaced mapped s place (Hint run) errno same (free f e) k = absurd cc
unplaced mapped s place (Hint run) errno same (taken h e) k = absurd cc
unplaced mapped s place (Run run) errno same (free f e) k = absurd cc
unplaced mapped s place (Run run) errno same (taken h e) k = absurd cc
unplaced mapped s place Window errno same (None, none, e) k =
    (inr (k, subst (λ (m : ℕ → Bool). IsLeastRoom m place.window place.count None) same none), cc)
unplaced mapped s place Window errno same (Some first, least, e) k = absurd cc

-- what is guessed is the least room
guessed : (mapped : ℕ → Bool) (place : Place) (found : Option ℕ) → IsHintTaken mapped place.hint
    → IsLeastRoom mapped place.window place.count found
    → IsNext mapped place (guess_of place found)
guessed mapped place None k least = k
guessed mapped place (Some first) k least = (k, least)

-- ---- steps

-- until the call has its reply, or its page a copy, the slots show the map in which it began
abbrev pub IsBefore : Plain → ℕ → Option ℕ → World → Type 0
IsBefore t c copy w = (status (w.calls.phase c) ≡ Asked) × (copy ≡ None) → ShowsPlain w t

seeks_at : (t : Plain) (c : ℕ) (request : Request) (w : World) (old : Phase) → w.calls.phase c ≡ old → IsSeeking t c request w
    → Seeks t c request old
seeks_at t c request w old e k = subst (Seeks t c request) e k

seeks_to : (t : Plain) (c : ℕ) (request : Request) (new : Phase) (x v : World) → v ≡ to c new x → Seeks t c request new
    → IsSeeking t c request v
seeks_to t c request new x v h k = subst (IsSeeking t c request) (sym h) (subst (Seeks t c request) (sym (put_same x.calls.phase c new)) k)

seeks_gone : (t : Plain) (c : ℕ) (request : Request) (held : Option PageRange) (reply : Reply) → IsFirstReply t c request reply
    → Seeks t c request (let_go held reply)
seeks_gone t c request None reply k = k
seeks_gone t c request (Some held) reply k = k

-- its reply, whatever the log has
seeks_replied : (t : Plain) (c : ℕ) (request : Request) (held : Option PageRange) (reply : Reply) (v : World)
    → v.calls.phase c ≡ let_go held reply
    → IsFirstReply t c request reply → IsSeeking t c request v
seeks_replied t c request held reply v e k = subst (Seeks t c request) (sym e) (seeks_gone t c request held reply k)

-- a mapping without a hint begins to guess
no_hint : (place : Place) (o : Option PageRange) → Guess place ≡ placing place o → o ≡ None
no_hint place None e = refl
no_hint place (Some range) e = absurd cc

unhinted : (w : World) (c : ℕ) (request : Request) (place : Place) (new : Phase) (v : World) → Goes w c (w.calls.phase c) Stepped v
    → w.calls.phase c ≡ Check request → new ≡ Guess place → checked_by w.made c request ≡ Ok (PlanOf.Place place) → v ≡ to c new w
    → place.hint ≡ None
unhinted w c request place new v g e n k h =
    let b = subst (λ phase. Goes w c phase Stepped v) e g in
    let after : v ≡ to c (placing place place.hint) w = b.1 ∙ ap (λ r. after_plan c r w) k in
    no_hint place place.hint
    (sym n ∙ (sym (put_same w.calls.phase c new)
    ∙ (ap (λ (v : World). v.calls.phase c) (sym h ∙ after) ∙ put_same w.calls.phase c (placing place place.hint))))

-- while the call finds whether its target is free
finding : (t : Plain) (users : Users) (c : ℕ) (request : Request) (copy : Option ℕ) (w : World) (place : Place) (target : Target)
    → w.calls.phase c ≡ Find place target → IsBefore t c copy w → IsUsed t users c request copy w
    → is_mapped (entries w.slots) ≡ is_mapped t.entry
finding t users c request copy w place target e good u =
    shown_mapped w t (good (ap status e, (used_at t users c request copy w (Find place target) e u).0))

moves_seek : (t : Plain) (users : Users) (c : ℕ) (request : Request) (copy : Option ℕ) (w : World) (new : Phase) (v : World) (f : IsWellFormed w)
    → IsBefore t c copy w → IsUsed t users c request copy w → Goes w c (w.calls.phase c) Stepped v → IsSeeking t c request w
    → Moves w c new → v ≡ to c new w
    → Seeks t c request new
moves_seek t users c request copy w new v f good u g k (locks r change e n i) h = subst (Seeks t c request) (sym n) tt
moves_seek t users c request copy w new v f good u g k (tries r touch e n i) h = subst (Seeks t c request) (sym n) tt
moves_seek t users c request copy w new v f good u g k (hints r place range e n i j) h = subst (Seeks t c request) (sym n) tt
moves_seek t users c request copy w new v f good u g k (seeks r place e n i) h =
    subst (Seeks t c request) (sym n) (subst (IsHintTaken (is_mapped t.entry)) (sym (unhinted w c r place new v g e n i h)) tt)
moves_seek t users c request copy w new v f good u g k (guesses place found e n least) h =
    subst (Seeks t c request) (sym n)
    (guessed (is_mapped t.entry) place found (seeks_at t c request w (Guess place) e k)
    (subst (λ (m : ℕ → Bool). IsLeastRoom m place.window place.count found)
    (shown_mapped w t (good (ap status e, (used_at t users c request copy w (Guess place) e u).0))) least))
moves_seek t users c request copy w new v f good u g k (turns place target e n d) h =
    let its : IsCallOf w c (Find place target) = call_at w c (Find place target) e f.order in
    subst (Seeks t c request) (sym n)
    (turned (is_mapped t.entry) w.slots place target (finding t users c request copy w place target e good u) its.ready d
    (seeks_at t c request w (Find place target) e k))
moves_seek t users c request copy w new v f good u g k (chooses place target range shoot e n d) h =
    let its : IsCallOf w c (Find place target) = call_at w c (Find place target) e f.order in
    subst (Seeks t c request) (sym n)
    (chosen (is_mapped t.entry) w.slots place target range shoot (finding t users c request copy w place target e good u) its.ready d
    (seeks_at t c request w (Find place target) e k))
moves_seek t users c request copy w new v f good u g k (acts change range shoot e n d) h = subst (Seeks t c request) (sym n) tt
moves_seek t users c request copy w new v f good u g k (finds touch x e n i) h = subst (Seeks t c request) (sym n) tt
moves_seek t users c request copy w new v f good u g k (lacks touch old e n i j) h = subst (Seeks t c request) (sym n) tt
moves_seek t users c request copy w new v f good u g k (shows touch e n i j) h = subst (Seeks t c request) (sym n) tt

replies_seek : (t : Plain) (users : Users) (c : ℕ) (request : Request) (copy : Option ℕ) (w : World) (held : Option PageRange) (reply : Reply)
    (f : IsWellFormed w) → c < 64
    → nth w.calls.requests (w.calls.number c) ≡ Some request → IsBefore t c copy w → IsUsed t users c request copy w
    → IsSeeking t c request w
    → Replies w c held reply → IsFirstReply t c request reply
replies_seek t users c request copy w held reply f few number good u k (refuses r e h j) =
    subst (λ r. IsFirstReply t c r reply) (same_request w c r request (call_at w c (Check r) e f.order).asked number)
    (check_first w t c r reply (good (ap status e, (used_at t users c request copy w (Check r) e u).0)) j)
replies_seek t users c request copy w held reply f few number good u k (no_place place target errno e h i d) =
    let its : IsCallOf w c (Find place target) = call_at w c (Find place target) e f.order in
    let z =
    unplaced (is_mapped t.entry) w.slots place target errno (finding t users c request copy w place target e good u) d
    (seeks_at t c request w (Find place target) e k) in
    placed_first t c request place None reply (its_place w c place request number its.asked) few z.0 (i ∙ z.1)
replies_seek t users c request copy w held reply f few number good u k (declines change errno e h i d) =
    named_first t c request reply (change_is_named w c change request number (call_at w c (Decide change) e f.order).asked)
replies_seek t users c request copy w held reply f few number good u k (fails touch e h x) =
    named_first t c request reply (touch_is_named w c touch request number (call_at w c (Settle touch) e f.order).asked)
replies_seek t users c request copy w held reply f few number good u k (no_frame touch old e h i none) =
    named_first t c request reply (touch_is_named w c touch request number (call_at w c (Want touch old) e f.order).asked)

-- a change that is made
commits_seek : (t : Plain) (c : ℕ) (request : Request) (w : World) (goal : Goal) (change : Change) (f : IsWellFormed w) → c < 64
    → nth w.calls.requests (w.calls.number c) ≡ Some request → w.calls.phase c ≡ Acks goal change → IsSeeking t c request w
    → IsFirstReply t c request (reply_to change)
commits_seek t c request w (To.Place place target) change f few number e k =
    let its : IsCallOf w c (Acks (To.Place place target) change) = call_at w c (Acks (To.Place place target) change) e f.order in
    placed_first t c request place (Some (range_of change).first) (reply_to change) (its_place w c place request number its.asked) few
    (seeks_at t c request w (Acks (To.Place place target) change) e k)
    (ap reply_to its.ready.1)
commits_seek t c request w (To.Change planned) change f few number e k =
    named_first t c request (reply_to change)
    (change_is_named w c planned request number (call_at w c (Acks (To.Change planned) change) e f.order).asked)
commits_seek t c request w (To.Access touch) change f few number e k =
    named_first t c request (reply_to change)
    (touch_is_named w c touch request number (call_at w c (Acks (To.Access touch) change) e f.order).asked)

locked_seek : (t : Plain) (c : ℕ) (request : Request) (goal : Goal) (b : ℕ) → IsNextGoal (is_mapped t.entry) goal
    → Seeks t c request (locked_to goal b)
locked_seek t c request goal b k = go goal (nat_le (goal_range goal).end b) k
  where
    go : (goal : Goal) (p : Bool) → IsNextGoal (is_mapped t.entry) goal → Seeks t c request (cond p (all_locked goal) (Lock goal b))
    go (To.Place place target) true k = k
    go (To.Change change) true k = tt
    go (To.Access touch) true k = tt
    go goal false k = k

lets_go_seek : (t : Plain) (c : ℕ) (request : Request) (w : World) (held : PageRange) (b : ℕ) (new : Phase) → IsSeeking t c request w
    → LetsGo (w.calls.phase c) held b new → Seeks t c request new
lets_go_seek t c request w held b new k (unlocks reply e n) =
    subst (Seeks t c request) (sym n) (seeks_gone t c request (held_after held b) reply (seeks_at t c request w (Unlock held reply) e k))
lets_go_seek t c request w held b new k (returns place target e n) =
    let z : IsHintTaken (is_mapped t.entry) place.hint = seeks_at t c request w (Leaving place target held) e k in
    subst (Seeks t c request) (sym n) (back_all (Seeks t c request) place target (held_after held b) z z (λ held. z))
lets_go_seek t c request w held b new k (releases touch e i n) = subst (Seeks t c request) (sym n) tt

taken_seek : (t : Plain) (c : ℕ) (request : Request) (touch : Touch) (old : Option ℕ) (x : ℕ) → Seeks t c request (taken_for touch old x)
taken_seek t c request touch None x = tt
taken_seek t c request touch (Some g) x = tt

-- ---- every plain step

pub seeks_on : (t : Plain) (users : Users) (c : ℕ) (request : Request) (copy : Option ℕ) (w v : World) (f : IsWellFormed w) → c < 64
    → nth w.calls.requests (w.calls.number c) ≡ Some request → IsBefore t c copy w → IsUsed t users c request copy w
    → Goes w c (w.calls.phase c) Stepped v → IsSeeking t c request w → GoesBy w c v
    → IsSeeking t c request v
seeks_on t users c request copy w v f few number good u g k (moves new m h) =
    seeks_to t c request new w v h (moves_seek t users c request copy w new v f good u g k m h)
seeks_on t users c request copy w v f few number good u g k (divides goal cursor s e i h) = subst (IsSeeking t c request) (sym h) k
seeks_on t users c request copy w v f few number good u g k (cuts place target range s e i h) = subst (IsSeeking t c request) (sym h) k
seeks_on t users c request copy w v f few number good u g k (fits place target range e i h) =
    seeks_to t c request (Acks (To.Place place target) (Put range place.meta)) w v h (seeks_at t c request w (Cut place target range) e k)
seeks_on t users c request copy w v f few number good u g k (owns goal cursor b s e l h) =
    seeks_to t c request (locked_to goal b) (record w { slots = s }) v h
    (locked_seek t c request goal b (seeks_at t c request w (Lock goal cursor) e k))
seeks_on t users c request copy w v f few number good u g k (lets_go held b s new l i h) =
    seeks_to t c request new (record w { slots = s }) v h (lets_go_seek t c request w held b new k l)
seeks_on t users c request copy w v f few number good u g k (answers held reply r h) =
    seeks_replied t c request held reply v (ap (λ (v : World). v.calls.phase c) h ∙ put_same w.calls.phase c (let_go held reply))
    (replies_seek t users c request copy w held reply f few number good u k r)
seeks_on t users c request copy w v f few number good u g k (posts change shoot e h) =
    seeks_to t c request (Acks (To.Change change) change) _ v h tt
seeks_on t users c request copy w v f few number good u g k (commits goal change counts e n l h) =
    seeks_replied t c request (Some (goal_range goal)) (reply_to change) v
    (ap (λ (v : World). v.calls.phase c) h ∙ put_same w.calls.phase c (let_go (Some (goal_range goal)) (reply_to change)))
    (commits_seek t c request w goal change f few number e k)
seeks_on t users c request copy w v f few number good u g k (takes touch old x e l h) =
    seeks_to t c request (taken_for touch old x) _ v h (taken_seek t c request touch old x)
seeks_on t users c request copy w v f few number good u g k (zeroes touch x counts e b i h) = seeks_to t c request (Install touch) _ v h tt
seeks_on t users c request copy w v f few number good u g k (first_copies touch x counts e b i h) =
    seeks_to t c request (Install touch) _ v h tt
seeks_on t users c request copy w v f few number good u g k (caches touch x counts e s n i h) =
    seeks_to t c request (Install touch) _ v h tt
seeks_on t users c request copy w v f few number good u g k (shares touch own x counts e s n i h) =
    seeks_to t c request (Install touch) _ v h tt
seeks_on t users c request copy w v f few number good u g k (posts_copy touch x e h) = seeks_to t c request (CopyAcks touch x) _ v h tt
seeks_on t users c request copy w v f few number good u g k (copies touch x y counts e n a i h) =
    seeks_to t c request (Install touch) _ v h tt
seeks_on t users c request copy w v f few number good u g k (installs touch e h) = seeks_to t c request _ _ v h tt
seeks_on t users c request copy w v f few number good u g k (accesses touch x e i h) =
    seeks_replied t c request None (reply_of touch x w.memory) v
    (ap (λ (v : World). v.calls.phase c) h ∙ put_same w.calls.phase c (Answer (reply_of touch x w.memory)))
    (named_first t c request (reply_of touch x w.memory)
    (touch_is_named w c touch request number (call_at w c (Try touch) e f.order).asked))
seeks_on t users c request copy w v f few number good u g k (faults touch e i h) = seeks_to t c request (locking (To.Access touch)) _ v h tt
