-- All calls together, beside hardware, are a driven run
use Rattle.machine_model.proofs.Words.{◌≡◌, ℕ, ◌+◌, ◌*◌, ◌^◌, ◌<◌, ◌≤◌, ◌&&◌, ◌||◌, ◌==◌, refl, sym, ap, subst, ◌∙◌, inl, inr, Bool, true, false, cond, arith}
use Rattle.machine_model.proofs.Words.{if◌then◌else◌, Some, None, Option, List, [], ◌∷◌, ◌++◌, IfSome, Result, Ok, Err, PageRange}
use Rattle.machine_model.proofs.Words.{has, some_has, put, put_all, put_both, eq_true, nat_lt, frame_of, is_page, page_of, pages_from, Bytes}
use Rattle.machine_model.proofs.Words.{World, Made, Run, Slots, new_world, Took, asked, with_event, event_limit, is_here}
use Rattle.machine_model.proofs.Words.{Translation, TakesMessage}
use Rattle.std.specs.Option.{unwrap_or}
use Rattle.vm_base.specs.declared.memory.NoMemory.{NoMemory as MemoryFault}
use Rattle.vm_base.specs.declared.requests.Request.{Request}
use Rattle.vm_base.specs.Plain.{File}
use Rattle.mmu.specs.declared.message.Took.TheVariants as TookOf
use Rattle.mmu.specs.Entry.{entry_word}
use Rattle.mmu.specs.Tables.{word_of}
use Rattle.machine_model.specs.declared.event.Event.{Event}
use Rattle.machine_model.specs.declared.event.Event.TheVariants.{Evict, Flush, Review, Fold, Take}
use Rattle.machine_model.specs.declared.event.Outcome.{Outcome}
use Rattle.machine_model.specs.declared.event.Outcome.TheVariants.{Stepped, Idle, Full}
use Rattle.vm_base.specs.declared.rights.Access.TheVariants.{Store}
use Rattle.machine_model.specs.Accesses.{bytes_after}
use Rattle.machine_model.specs.Holding.{plan_in}
use Rattle.machine_model.specs.Sound.{IsReached}
use Rattle.machine_model.proofs.Reaching.{HasPage, backs}
use Rattle.machine_model.proofs.SoundKept.{reached_fine, reached_opening, reached_step}
use Rattle.core_steps.specs.Telling.{TakesTold, told_at}
use Rattle.core_steps.proofs.Keeping.{step_made}
use Rattle.coded.specs.declared.codes.RawEvent.{RawEvent}
use Rattle.coded.specs.declared.codes.RawOutcome.{RawOutcome}
use Rattle.coded.specs.declared.batch.BatchStop.{BatchStop}
use Rattle.coded.specs.declared.batch.BatchStop.TheVariants as Stop
use Rattle.coded.specs.declared.opening.RawSetup.{RawSetup}
use Rattle.coded.specs.declared.opening.RawFile.{RawFile}
use Rattle.coded.specs.Batches.{Takes}
use Rattle.coded.specs.Codes.{core_of, event_of}
use Rattle.coded.specs.Holding.{HeldState, GoesOn}
use Rattle.real_mmu.specs.Remembered.{taken_range, drops}
use Rattle.real_mmu.specs.Driven.{Driven, Act, library, installs, clears, settles, walks, loses, reads, stores, drains, Does, IsFlushed, Stage, Drives as Runs}
use Rattle.real_mmu.specs.Driven.{is_owed, with_range, acknowledges, opening}
use Rattle.real_mmu.proofs.Driven.{driven_runs_plain}
use Rattle.driven.specs.declared.telling.Origin.{Origin}
use Rattle.driven.specs.declared.telling.Origin.TheVariants as From
use Rattle.driven.specs.declared.telling.FrameFill.{FrameFill}
use Rattle.driven.specs.declared.telling.Told.{Told}
use Rattle.driven.specs.declared.driving.DriveStop.{DriveStop}
use Rattle.driven.specs.declared.driving.DriveStop.TheVariants as Why
use Rattle.driven.specs.declared.driving.RawFilled.{RawFilled}
use Rattle.driven.specs.declared.driving.RawDrop.{RawDrop}
use Rattle.driven.specs.Driving.{core_in, touch_request, change_request, no_filled, shown_at, with_fill, with_origin, filled_of, own_code}
use Rattle.driven.specs.Driving.{drive_code, both, Both, Touches, TouchesOn, Changes, ChangesOn, Resumes, ResumesOn, TellsDrop, TakesDrop, page_touched}
use Rattle.driven.specs.Reclaiming.{AreCountings, CountingsLead, Reclaims}
use Rattle.driven.specs.Duties.{Ask, touches, changes, goes_on, takes, steps, reclaims, Vars, IsAside, Returns, Call, is_made, filled_in, own_in, owed_in}
use Rattle.driven.specs.Duties.{core_in_ask, with_fill_made, IsTold, with_word, IsClearFor, IsReadyFor, Deed, calls, acts, held_in}
use Rattle.driven.specs.Duties.{DeedLeads, Moment, Handles, installed_by, done_by, done_in, unless_step, beside_steps, end_of, handled, IsAsIn, IsRunOf, IsOpened}
use Rattle.driven.proofs.Leading.{Led, same, stay, then_led, by_act, by_still, by_quiet, IsQuiet, origin_bytes, made_by, empty_seen, IsWithin, Went, went_after}
use Rattle.driven.proofs.Leading.{calls_went, goes_went}
use Rattle.driven.proofs.Owning.{IsOwnAt, touch_owns, change_fills}

-- ---- words

-- the parts of a word
split_exec : (a c : ℕ) (e d : Bool) → a < 2 ^ 63 → c < 2 ^ 63 → a + (if e then 0 else 2 ^ 63) ≡ c + (if d then 0 else 2 ^ 63) → (a ≡ c) × (e ≡ d)
split_exec a c true true low high h = (omega (arith, h), refl)
split_exec a c false false low high h = (omega (arith, h), refl)
split_exec a c true false low high h = absurd (omega (arith, h, low, high))
split_exec a c false true low high h = absurd (omega (arith, h, low, high))

split_write : (f g : ℕ) (w v : Bool) → f * 4096 + 1 + (if w then 2 else 0) + 4 ≡ g * 4096 + 1 + (if v then 2 else 0) + 4 → (f ≡ g) × (w ≡ v)
split_write f g true true h = (omega (arith, h), refl)
split_write f g false false h = (omega (arith, h), refl)
split_write f g true false h = absurd (omega (arith, h))
split_write f g false true h = absurd (omega (arith, h))

below_exec : (f : ℕ) (w : Bool) → f < 2 ^ 32 → f * 4096 + 1 + (if w then 2 else 0) + 4 < 2 ^ 63
below_exec f true low = omega (arith, low)
below_exec f false low = omega (arith, low)

abbrev of_parts : ℕ → Bool → Bool → Translation
of_parts f w e = record { frame = f; write = w; exec = e }

-- two entries with one word are one, where frame numbers have 32 bits
same_word : (x y : Translation) → x.frame < 2 ^ 32 → y.frame < 2 ^ 32 → entry_word x ≡ entry_word y → x ≡ y
same_word x y low high h =
    let a = split_exec (x.frame * 4096 + 1 + (if x.write then 2 else 0) + 4) (y.frame * 4096 + 1 + (if y.write then 2 else 0) + 4) x.exec y.exec
    (below_exec x.frame x.write low) (below_exec y.frame y.write high) h in
    let b = split_write x.frame y.frame x.write y.write a.0 in
    ap (λ f. of_parts f x.write x.exec) b.0 ∙ (ap (λ w. of_parts y.frame w x.exec) b.1 ∙ ap (λ e. of_parts y.frame y.write e) a.1)

some_word : (x : Translation) → 0 ≡ entry_word x → ⊥
some_word x h = omega (arith, h)

-- a word of the tables is of one of the machine's frames
table_frame : (v : World) (c p : ℕ) (y : Translation) → IsReached v → v.hardware.table c p ≡ Some y → y.frame < v.made.frames
table_frame v c p y r h =
    let fine = reached_fine v r in
    let k : HasPage v.memory.cached (v.slots.info p) y = backs v.memory.cached (v.slots.info p) c y (fine.coherent.tables c p y h) in
    (fine.order.pages p).frame y.frame (ap frame_of k.mapped ∙ k.frame)

-- what has the word that is told of the page, is the core's entry of it
word_is : (v : World) (c p : ℕ) (x : Translation) → IsReached v → v.made.frames ≤ 65536 → x.frame < 2 ^ 32
    → unwrap_or (word_of (v.hardware.table c p)) 0 ≡ entry_word x → v.hardware.table c p ≡ Some x
word_is v c p x r small low h = by (v.hardware.table c p) refl h
  where
    by : (e : Option Translation) → v.hardware.table c p ≡ e → unwrap_or (word_of e) 0 ≡ entry_word x → e ≡ Some x
    by None e h = absurd (some_word x h)
    by (Some y) e h =
        let bound = table_frame v c p y r e in
        let high : y.frame < 2 ^ 32 = omega (arith, bound, small) in ap Some (same_word y x high low h)

abbrev IsWordOf : World → ℕ → RawFilled → Type 0
IsWordOf v c filled = (x : Translation) → x.frame < 2 ^ 32 → filled.word ≡ entry_word x → v.hardware.table c filled.page ≡ Some x

no_word : (v : World) (c : ℕ) → IsWordOf v c no_filled
no_word v c x low h = absurd (some_word x h)

with_origin_word : (v : World) (c : ℕ) (shown : RawFilled) (from : Origin) → IsWordOf v c shown → IsWordOf v c (with_origin shown from)
with_origin_word v c shown From.Zero h = h
with_origin_word v c shown (From.Frame g) h = h
with_origin_word v c shown (From.File n k) h = h

filled_word : (v : World) (c : ℕ) (p : Option ℕ) (fill : Option FrameFill) → IsReached v → v.made.frames ≤ 65536 → IsWordOf v c (filled_of v c p fill)
filled_word v c p fill r small = at p fill
  where
    shown : (q : ℕ) (fill : Option FrameFill) → IsWordOf v c (with_fill (shown_at v c q) fill)
    shown q None = λ x low h. word_is v c q x r small low h
    shown q (Some y) = with_origin_word v c (record (shown_at v c q) { frame = y.frame }) y.from (λ x low h. word_is v c q x r small low h)

    by : (b : Bool) (q : ℕ) (fill : Option FrameFill) → IsWordOf v c (if b then with_fill (shown_at v c q) fill else no_filled)
    by true q fill = shown q fill
    by false q fill = no_word v c

    at : (p : Option ℕ) (fill : Option FrameFill) → IsWordOf v c (filled_of v c p fill)
    at None None = no_word v c
    at (Some q) None = by (is_page q) q None
    at p (Some y) = by (is_page y.page) y.page (Some y)

-- ---- fills

origin_made : (files : ℕ → Option File) (bytes : ℕ → Bytes) (shown : RawFilled) (from : Origin)
    → with_fill_made files bytes (with_origin shown from) ≡ put bytes shown.frame (origin_bytes files bytes from)
origin_made files bytes shown From.Zero = refl
origin_made files bytes shown (From.Frame g) = refl
origin_made files bytes shown (From.File n k) = refl

fill_made : (files : ℕ → Option File) (bytes : ℕ → Bytes) (v : World) (c : ℕ) (p : Option ℕ) (fill : Option FrameFill)
    → IfSome fill (λ x. is_page x.page ≡ true) → with_fill_made files bytes (filled_of v c p fill) ≡ made_by files fill bytes
fill_made files bytes v c p None h = at p
  where
    by : (b : Bool) (q : ℕ) → with_fill_made files bytes (if b then shown_at v c q else no_filled) ≡ bytes
    by true q = refl
    by false q = refl

    at : (p : Option ℕ) → with_fill_made files bytes (filled_of v c p None) ≡ bytes
    at None = refl
    at (Some q) = by (is_page q) q
fill_made files bytes v c p (Some x) h =
    subst (λ b. with_fill_made files bytes (if b then with_fill (shown_at v c x.page) (Some x) else no_filled) ≡ made_by files (Some x) bytes) (sym h)
    (origin_made files bytes (record (shown_at v c x.page) { frame = x.frame }) x.from)

-- ---- one call

abbrev with_owed : Driven → (ℕ → List PageRange) → Driven
with_owed u o = record u { owed = o }

-- where a caller of u is after a call that told this fill, but for what is owed and new words
abbrev filled_as : Driven → World → RawFilled → (ℕ → List PageRange) → Driven
filled_as u v filled owes = record u { inside = v; bytes = with_fill_made u.inside.made.file u.bytes filled; owed = owes }

record Base (u : Driven) (o : ℕ → List PageRange) (v : World) (filled : RawFilled) (core : ℕ) (range : Option PageRange) : Type 0 where
  owes : ℕ → List PageRange
  led : Led (with_owed u o) (filled_as u v filled owes) same
  within : IsWithin owes o core range
  reached : IsReached v
  made : v.made ≡ u.inside.made
  word : IsWordOf v core filled

abbrev IsSmall : Driven → Type 0
IsSmall u = u.inside.made.frames ≤ 65536

base_same : (u : Driven) (o : ℕ → List PageRange) (v : World) (core : ℕ) (range : Option PageRange) → IsReached u.inside → v ≡ u.inside
    → Base u o v no_filled core range
base_same u o v core range r at = subst (λ v. Base u o v no_filled core range) (sym at) (record {
  owes = o;
  led = stay (with_owed u o);
  within = λ c p h. inl h;
  reached = r;
  made = refl;
  word = no_word u.inside core;
})

-- by what the steps told
base_went : (u : Driven) (o : ℕ → List PageRange) (v : World) (core : ℕ) (told : Told) (p : Option ℕ) (filled : RawFilled) → IsSmall u
    → filled ≡ filled_of v core p told.fill → Went (with_owed u o) core told v → Base u o v filled core told.own
base_went u o v core told p filled small is a = subst (λ f. Base u o v f core told.own) (sym is) (record {
  owes = a.owed;
  led = subst (λ bytes. Led (with_owed u o) (record u { inside = v; bytes = bytes; owed = a.owed }) same)
      (sym (fill_made u.inside.made.file u.bytes v core p told.fill a.page)) a.led;
  within = a.within;
  reached = a.reached;
  made = a.made;
  word = filled_word v core p told.fill a.reached (subst (λ (m : Made). m.frames ≤ 65536) (sym a.made) small);
})

-- with the word of nothing, where no fill is told
base_unfilled : (u : Driven) (o : ℕ → List PageRange) (v : World) (core : ℕ) (told : Told) → told.fill ≡ None → Went (with_owed u o) core told v
    → Base u o v no_filled core told.own
base_unfilled u o v core told none a = record {
  owes = a.owed;
  led = subst (λ f. Led (with_owed u o) (record u { inside = v; bytes = made_by u.inside.made.file f u.bytes; owed = a.owed }) same) none a.led;
  within = a.within;
  reached = a.reached;
  made = a.made;
  word = no_word v core;
}

-- where what is owed is within this, it is within that
base_wider : (u : Driven) (o : ℕ → List PageRange) (v : World) (filled : RawFilled) (core : ℕ) (range wider : Option PageRange)
    → ((p : ℕ) → some_has range p ≡ true → some_has wider p ≡ true) → Base u o v filled core range → Base u o v filled core wider
base_wider u o v filled core range wider more b = record {
  owes = b.owes;
  led = b.led;
  within = λ c p h. elim (b.within c p h) [ inl old ↦ inl old | inr own ↦ inr (own.0, more p own.1) ];
  reached = b.reached;
  made = b.made;
  word = b.word;
}

core_is : (w : World) (core c : ℕ) → core_in w core ≡ Some c → c ≡ core
core_is w core c h = by (nat_lt core w.made.cores) (nat_lt core 64) h
  where
    by : (a b : Bool) → (if a then (if b then Some core else None) else None) ≡ Some c → c ≡ core
    by true true h = cc
    by true false h = absurd cc
    by false b h = absurd cc

own_drop : (core : ℕ) (own : Option PageRange) → own_in (own_code core own) ≡ own
own_drop core None = refl
own_drop core (Some r) = refl

-- ---- a touch

own_page : (at : ℕ) (own : Option PageRange) → IsOwnAt at own → (p : ℕ) → some_has own p ≡ true → some_has (Some (pages_from (page_of at) 1)) p ≡ true
own_page at None is p h = absurd cc
own_page at (Some r) is p h = subst (λ r. has r p ≡ true) is h

touches_base : (keeps : Bool) (u : Driven) (o : ℕ → List PageRange) (v : World) (core at kind : ℕ) (request : Request) (ended : Result Outcome MemoryFault)
    (filled : RawFilled) → IsSmall u → IsReached u.inside → u.waiting core ≡ [] → touch_request kind at ≡ Some request
    → Touches keeps u.inside at core request ended filled v → Base u o v filled core (Some (pages_from (page_of at) 1))
touches_base keeps u o v core at kind request ended filled small r empty is (x, m, told, s, t, f) =
    let w : Driven = with_owed u o in
    let quiet = by_quiet w (Evict core (page_of at)) x m tt r s in
    let reached = reached_step u.inside m (Evict core (page_of at)) x r s in
    base_wider u o v filled core told.own (Some (pages_from (page_of at) 1))
    (own_page at told.own (touch_owns keeps kind at m core request told ended v reached is t))
    (base_went u o v core told (Some (page_of at)) filled small f
    (went_after w core told m v quiet (step_made u.inside (Evict core (page_of at)) x m s)
    (calls_went keeps (record w { inside = m }) core request told ended v reached empty t)))

touched_base : (keeps : Bool) (u : Driven) (o : ℕ → List PageRange) (v : World) (core at kind : ℕ) (was : Vars) (now : Vars) (d : Result Unit DriveStop)
    → IsSmall u → IsReached u.inside → u.waiting core ≡ []
    → TouchesOn keeps u.inside core at kind was.outcome was.filled d now.outcome now.filled v
    → Base u o v (filled_in (touches core at kind) (drive_code d) now) core (owed_in (touches core at kind) (drive_code d) now)
touched_base keeps u o v core at kind was now (Ok x) small r empty (c, request, out, ready, t, told) =
    let same = core_is u.inside core c ready.here in
    touches_base keeps u o v core at kind request (Ok out) now.filled small r empty ready.wants
    (subst (λ c. Touches keeps u.inside at c request (Ok out) now.filled v) same t)
touched_base keeps u o v core at kind was now (Err Why.NoMemory) small r empty (c, request, e, ready, t, told) =
    let same = core_is u.inside core c ready.here in
    touches_base keeps u o v core at kind request (Err e) now.filled small r empty ready.wants
    (subst (λ c. Touches keeps u.inside at c request (Err e) now.filled v) same t)
touched_base keeps u o v core at kind was now (Err Why.Absent) small r empty h = base_same u o v core None r h.1
touched_base keeps u o v core at kind was now (Err Why.BadEvent) small r empty h = base_same u o v core None r h.1
touched_base keeps u o v core at kind was now (Err Why.InFlight) small r empty h = base_same u o v core None r h.1
touched_base keeps u o v core at kind was now (Err Why.Limit) small r empty h = absurd h.0

-- ---- a change

changes_base : (keeps : Bool) (u : Driven) (o : ℕ → List PageRange) (v : World) (raw : RawEvent) (request : Request) (ended : Result Outcome MemoryFault)
    (own : RawDrop) → IsReached u.inside → u.waiting raw.core ≡ [] → change_request raw ≡ Some request
    → Changes keeps u.inside raw.core request ended own v → Base u o v no_filled raw.core (own_in own)
changes_base keeps u o v raw request ended own r empty is (told, t, d) =
    subst (Base u o v no_filled raw.core) (sym (ap own_in d ∙ own_drop raw.core told.own))
    (base_unfilled u o v raw.core told (change_fills keeps raw u.inside raw.core request told ended v r is t)
    (calls_went keeps (with_owed u o) raw.core request told ended v r empty t))

changed_base : (keeps : Bool) (u : Driven) (o : ℕ → List PageRange) (v : World) (raw : RawEvent) (was : Vars) (now : Vars) (d : Result Unit DriveStop)
    → IsReached u.inside → u.waiting raw.core ≡ []
    → ChangesOn keeps u.inside raw was.outcome was.drop d now.outcome now.drop v
    → Base u o v no_filled raw.core (owed_in (changes raw) (drive_code d) now)
changed_base keeps u o v raw was now (Ok x) r empty (c, request, out, ready, t, told) =
    let same = core_is u.inside raw.core c ready.here in
    changes_base keeps u o v raw request (Ok out) now.drop r empty ready.wants
    (subst (λ c. Changes keeps u.inside c request (Ok out) now.drop v) same t)
changed_base keeps u o v raw was now (Err Why.NoMemory) r empty (c, request, e, ready, t, told) =
    let same = core_is u.inside raw.core c ready.here in
    changes_base keeps u o v raw request (Err e) now.drop r empty ready.wants
    (subst (λ c. Changes keeps u.inside c request (Err e) now.drop v) same t)
changed_base keeps u o v raw was now (Err Why.Absent) r empty h = base_same u o v raw.core None r h.1
changed_base keeps u o v raw was now (Err Why.BadEvent) r empty h = base_same u o v raw.core None r h.1
changed_base keeps u o v raw was now (Err Why.InFlight) r empty h = base_same u o v raw.core None r h.1
changed_base keeps u o v raw was now (Err Why.Limit) r empty h = absurd h.0

-- ---- a call that goes on

resumes_base : (keeps : Bool) (u : Driven) (o : ℕ → List PageRange) (v : World) (core : ℕ) (ended : Result Outcome MemoryFault) (all : Both)
    → IsSmall u → IsReached u.inside → u.waiting core ≡ [] → Resumes keeps u.inside core ended all v → Base u o v all.filled core (own_in all.own)
resumes_base keeps u o v core ended all small r empty (told, t, f, d) =
    subst (Base u o v all.filled core) (sym (ap own_in d ∙ own_drop core told.own))
    (base_went u o v core told (page_touched (plan_in (u.inside.calls.phase core))) all.filled small f (goes_went keeps
    (with_owed u o) core told ended v r empty t))

resumed_base : (keeps : Bool) (u : Driven) (o : ℕ → List PageRange) (v : World) (core : ℕ) (was : Vars) (now : Vars) (d : Result Unit DriveStop)
    → IsSmall u → IsReached u.inside → u.waiting core ≡ []
    → ResumesOn keeps u.inside core was.outcome (both was.filled was.drop) d now.outcome (both now.filled now.drop) v
    → Base u o v (filled_in (goes_on core) (drive_code d) now) core (owed_in (goes_on core) (drive_code d) now)
resumed_base keeps u o v core was now (Ok x) small r empty (c, out, here, t, told) =
    resumes_base keeps u o v core (Ok out) (both now.filled now.drop) small r empty
    (subst (λ c. Resumes keeps u.inside c (Ok out) (both now.filled now.drop) v) (core_is u.inside core c here) t)
resumed_base keeps u o v core was now (Err Why.NoMemory) small r empty (c, e, here, t, told) =
    resumes_base keeps u o v core (Err e) (both now.filled now.drop) small r empty
    (subst (λ c. Resumes keeps u.inside c (Err e) (both now.filled now.drop) v) (core_is u.inside core c here) t)
resumed_base keeps u o v core was now (Err Why.Absent) small r empty h = base_same u o v core None r h.1
resumed_base keeps u o v core was now (Err Why.BadEvent) small r empty h = absurd h
resumed_base keeps u o v core was now (Err Why.InFlight) small r empty h = absurd h
resumed_base keeps u o v core was now (Err Why.Limit) small r empty h = absurd h

-- ---- steps that change nothing of what hardware owes

base_quiet : (u : Driven) (o : ℕ → List PageRange) (v : World) (core : ℕ) (range : Option PageRange)
    → Led (with_owed u o) (record u { inside = v; owed = o }) same
    → IsReached v → v.made ≡ u.inside.made → Base u o v no_filled core range
base_quiet u o v core range l r made = record {
  owes = o;
  led = l;
  within = λ c p h. inl h;
  reached = r;
  made = made;
  word = no_word v core;
}

-- ---- a take

here_by : (w : World) (core c : ℕ) → core_in w core ≡ Some c → nat_lt core w.made.cores ≡ true
here_by w core c h = by (nat_lt core w.made.cores) refl h
  where
    by : (a : Bool) → nat_lt core w.made.cores ≡ a → (if a then core_of core else None) ≡ Some c → a ≡ true
    by true e h = refl
    by false e h = absurd cc

-- the core acknowledges only what it has flushed
take_clear : (u : Driven) (core : ℕ) (v : World) (out : Outcome) (took : Took) (drop : RawDrop) (status : ℕ) → status ≡ 0 → IsClearFor u core status drop
    → took ≡ told_at out (asked (u.inside.hardware.inbox core)) → TellsDrop v took drop → out ≡ Stepped
    → (c p : ℕ) → acknowledges u.inside (Take core) c p ≡ true → IsFlushed u c p
take_clear u core v out took drop status done clear is tells stepped c p h =
    subst (λ c. IsFlushed u c p) (sym (eq_true c core (left (c == core) (some_has (taken_range (asked (u.inside.hardware.inbox core))) p) h)))
    (by (asked (u.inside.hardware.inbox core)) (is ∙ ap (λ o. told_at o (asked (u.inside.hardware.inbox core))) stepped)
    (right (c == core) (some_has (taken_range (asked (u.inside.hardware.inbox core))) p) h))
  where
    left : (a b : Bool) → (a && b) ≡ true → a ≡ true
    left true b h = refl
    left false b h = absurd cc

    right : (a b : Bool) → (a && b) ≡ true → b ≡ true
    right true b h = h
    right false b h = absurd cc

    by : (a : Took) → took ≡ a → some_has (taken_range a) p ≡ true → IsFlushed u core p
    by (TookOf.Clear range) e h = absurd cc
    by TookOf.Idle e h = absurd cc
    by (TookOf.Invalidate range) e h =
        let t : TellsDrop v (TookOf.Invalidate range) drop = subst (λ k. TellsDrop v k drop) e tells in
        clear done (ap (λ (d : RawDrop). d.what) t.2) p (subst (λ (d : RawDrop). has (record { first = d.first; end = d.end }) p ≡ true) (sym t.2) h)

take_stepped : (w : World) (c : ℕ) (out : Outcome) (v : World) (a : Took) → TakesMessage w c a out v → (range : PageRange) → a ≡ TookOf.Invalidate range
    → out ≡ Stepped
take_stepped w c out v (TookOf.Invalidate r) t range e = t.0
take_stepped w c out v (TookOf.Clear r) t range e = absurd cc
take_stepped w c out v TookOf.Idle t range e = absurd cc

takes_base : (u : Driven) (o : ℕ → List PageRange) (v : World) (core : ℕ) (took : Took) (drop : RawDrop) (status : ℕ) → IsReached u.inside
    → u.waiting core ≡ [] → nat_lt core u.inside.made.cores ≡ true → status ≡ 0 → IsClearFor u core status drop → TakesTold u.inside core took v
    → TellsDrop v took drop → Base u o v no_filled core None
takes_base u o v core took drop status r empty here done clear (out, s, is) tells =
    by (nat_lt u.inside.calls.events event_limit) (is_here u.inside.made (Some core)) refl here s
  where
    seen : (c p : ℕ) → drops u.inside (Take core) c p ≡ true → c ≡ core
    seen c p h = eq_true c core (left (c == core) (some_has (taken_range (asked (u.inside.hardware.inbox core))) p) h)
      where
        left : (a b : Bool) → (a && b) ≡ true → a ≡ true
        left true b h = refl
        left false b h = absurd cc

    -- a take that was made
    made : ((range : PageRange) → asked (u.inside.hardware.inbox core) ≡ TookOf.Invalidate range → out ≡ Stepped) → Base u o v no_filled core None
    made stepped = base_quiet u o v core None
        (by_still (with_owed u o) (Take core) out v r s refl refl (flushed stepped) (empty_seen u.inside (Take core) core u.waiting empty seen))
        (reached_step u.inside v (Take core) out r s) (step_made u.inside (Take core) out v s)
      where
        flushed : ((range : PageRange) → asked (u.inside.hardware.inbox core) ≡ TookOf.Invalidate range → out ≡ Stepped) → (c p : ℕ)
            → acknowledges u.inside (Take core) c p ≡ true → IsFlushed u c p
        flushed stepped c p h = at (asked (u.inside.hardware.inbox core)) refl
          where
            none : (b : Bool) → some_has (taken_range (asked (u.inside.hardware.inbox core))) p ≡ false
                → (b && some_has (taken_range (asked (u.inside.hardware.inbox core))) p) ≡ true → ⊥
            none true e h = let z = sym e ∙ h in cc
            none false e h = cc

            at : (a : Took) → asked (u.inside.hardware.inbox core) ≡ a → IsFlushed u c p
            at (TookOf.Invalidate range) e = take_clear u core v out took drop status done clear is tells (stepped range e) c p h
            at (TookOf.Clear range) e = absurd (none (c == core) (ap (λ a. some_has (taken_range a) p) e) h)
            at TookOf.Idle e = absurd (none (c == core) (ap (λ a. some_has (taken_range a) p) e) h)

    by : (a b : Bool) → is_here u.inside.made (Some core) ≡ b → b ≡ true
        → cond a (cond b (TakesMessage (with_event u.inside) core (asked (u.inside.hardware.inbox core)) out v)
        ((out ≡ Idle) × (v ≡ with_event u.inside))) ((out ≡ Full) × (v ≡ u.inside)) → Base u o v no_filled core None
    by true true e t h = made (λ range k. take_stepped (with_event u.inside) core out v (asked (u.inside.hardware.inbox core)) h range k)
    by true false e t h = absurd cc
    by false b e t h = base_same u o v core None r h.1

taken_base : (u : Driven) (o : ℕ → List PageRange) (v : World) (core : ℕ) (was : Vars) (now : Vars) (d : Result Unit DriveStop) → IsReached u.inside
    → u.waiting core ≡ [] → IsClearFor u core (drive_code d) now.drop → TakesDrop u.inside core was.drop d now.drop v → Base u o v no_filled core None
taken_base u o v core was now (Ok x) r empty clear (c, took, here, t, tells) =
    takes_base u o v core took now.drop 0 r empty (here_by u.inside core c here) refl clear
    (subst (λ c. TakesTold u.inside c took v) (core_is u.inside core c here) t) tells
taken_base u o v core was now (Err Why.Absent) r empty clear h = base_same u o v core None r h.1
taken_base u o v core was now (Err Why.NoMemory) r empty clear h = absurd h
taken_base u o v core was now (Err Why.BadEvent) r empty clear h = absurd h
taken_base u o v core was now (Err Why.InFlight) r empty clear h = absurd h
taken_base u o v core was now (Err Why.Limit) r empty clear h = absurd h

-- ---- flushes, reviews and folds

aside_quiet : (e : Event) → IsAside (Some e) → IsQuiet e
aside_quiet (Flush c) a = tt
aside_quiet (Review c) a = tt
aside_quiet (Fold p) a = tt
aside_quiet _ a = absurd a

stepped_base : (keeps : Bool) (u : Driven) (o : ℕ → List PageRange) (v : World) (raw : RawEvent) (was now : RawOutcome) (d : Result Unit BatchStop)
    → IsReached u.inside → IsAside (event_of raw) → Takes keeps u.inside raw was d now v → Base u o v no_filled raw.core None
stepped_base keeps u o v raw was now (Ok x) r aside (e, out, is, s, told) =
    base_quiet u o v raw.core None (by_quiet (with_owed u o) e out v (aside_quiet e (subst IsAside is aside)) r s) (reached_step u.inside v e out r s)
    (step_made u.inside e out v s)
stepped_base keeps u o v raw was now (Err Stop.BadEvent) r aside h = base_same u o v raw.core None r h.1
stepped_base keeps u o v raw was now (Err Stop.NoMemory) r aside (e, is, may, at, told) = base_same u o v raw.core None r at

-- ---- frames that come back

record Counted (w : Driven) (v : World) : Type 0 where
  led : Led w (record w { inside = v }) same
  reached : IsReached v
  made : v.made ≡ w.inside.made

quiet_counting : (e : Event) (es : List Event) → AreCountings (e ∷ es) → IsQuiet e × AreCountings es
quiet_counting (Flush c) es a = (tt, a)
quiet_counting (Review c) es a = (tt, a)
quiet_counting _ es a = absurd a

counts_led : (w : Driven) (es : List Event) (os : List Outcome) (v : World) → IsReached w.inside → AreCountings es → Run w.inside es os v → Counted w v
counts_led w [] [] v r c h = subst (Counted w) (sym h) (record { led = stay w; reached = r; made = refl })
counts_led w (e ∷ es) (out ∷ os) v r c (m, s, h) =
    let q = quiet_counting e es c in
    let next = counts_led (record w { inside = m }) es os v (reached_step w.inside m e out r s) q.1 h in
    record {
      led = then_led w (record w { inside = m }) (record w { inside = v }) same same (by_quiet w e out m q.0 r s) next.led;
      reached = next.reached;
      made = next.made ∙ step_made w.inside e out m s;
    }
counts_led w [] (out ∷ os) v r c h = absurd h
counts_led w (e ∷ es) [] v r c h = absurd h

counted_base : (u : Driven) (o : ℕ → List PageRange) (v : World) (core : ℕ) (es : List Event) → IsReached u.inside → CountingsLead u.inside es v
    → Base u o v no_filled core None
counted_base u o v core es r c =
    let a = counts_led (with_owed u o) es c.outcomes v r c.all c.run in base_quiet u o v core None a.led a.reached a.made

reclaimed_base : (u : Driven) (o : ℕ → List PageRange) (v : World) (core : ℕ) (d : Result Unit DriveStop) (told : ℕ) → IsReached u.inside
    → Reclaims u.inside d told v → Base u o v no_filled core None
reclaimed_base u o v core (Ok x) told r h = counted_base u o v core h.0.0 r h.0.1
reclaimed_base u o v core (Err Why.Limit) told r h = counted_base u o v core h.0.0 r h.0.1
reclaimed_base u o v core (Err Why.NoMemory) told r h = absurd h.0
reclaimed_base u o v core (Err Why.Absent) told r h = absurd h.0
reclaimed_base u o v core (Err Why.BadEvent) told r h = absurd h.0
reclaimed_base u o v core (Err Why.InFlight) told r h = absurd h.0

-- ---- any call

-- a handle that goes on has a machine of which P holds
gone_on : (keeps : Bool) (u v : Driven) (next : HeldState) (P : World → Type 0) → Some (held_in keeps v) ≡ Some next → GoesOn (held_in keeps u) P next
    → P v.inside
gone_on keeps u v next P same (x, is, h) =
    let held : held_in keeps v ≡ next = cc in
    subst P (sym (ap (λ (k : HeldState). k.world) (held ∙ is))) h

returned_base : (keeps : Bool) (u : Driven) (o : ℕ → List PageRange) (v : Driven) (ask : Ask) (was : Vars) (status : ℕ) (now : Vars) → IsSmall u
    → IsReached u.inside → IsReadyFor u ask status now → Returns (held_in keeps u) ask was status now (held_in keeps v)
    → Base u o v.inside (filled_in ask status now) (core_in_ask ask) (owed_in ask status now)
returned_base keeps u o v (touches core at kind) was status now small r ready (d, next, is, eq, g) =
    subst (λ status. Base u o v.inside (filled_in (touches core at kind) status now) core (owed_in (touches core at kind) status now)) (sym is)
    (touched_base keeps u o v.inside core at kind was now d small r ready
    (gone_on keeps u v next (TouchesOn keeps u.inside core at kind was.outcome was.filled d now.outcome now.filled) eq g))
returned_base keeps u o v (changes raw) was status now small r ready (d, next, is, eq, g) =
    subst (λ status. Base u o v.inside no_filled raw.core (owed_in (changes raw) status now)) (sym is)
    (changed_base keeps u o v.inside raw was now d r ready
    (gone_on keeps u v next (ChangesOn keeps u.inside raw was.outcome was.drop d now.outcome now.drop) eq g))
returned_base keeps u o v (goes_on core) was status now small r ready (d, next, is, eq, g) =
    subst (λ status. Base u o v.inside (filled_in (goes_on core) status now) core (owed_in (goes_on core) status now)) (sym is)
    (resumed_base keeps u o v.inside core was now d small r ready
    (gone_on keeps u v next (ResumesOn keeps u.inside core was.outcome (both was.filled was.drop) d now.outcome (both now.filled now.drop)) eq g))
returned_base keeps u o v (takes core) was status now small r ready (d, next, is, eq, g) =
    taken_base u o v.inside core was now d r ready.0 (subst (λ status. IsClearFor u core status now.drop) is ready.1)
    (gone_on keeps u v next (TakesDrop u.inside core was.drop d now.drop) eq g)
returned_base keeps u o v (steps raw) was status now small r ready (aside, (d, next, is, eq, g)) =
    stepped_base keeps u o v.inside raw was.outcome now.outcome d r aside
    (gone_on keeps u v next (λ x. Takes keeps u.inside raw was.outcome d now.outcome x) eq g)
returned_base keeps u o v reclaims was status now small r ready (d, next, is, eq, g) =
    reclaimed_base u o v.inside 0 d now.frames r (gone_on keeps u v next (Reclaims u.inside d now.frames) eq g)

-- ---- one moment

-- what is owed here is owed there
abbrev IsLess : (ℕ → List PageRange) → (ℕ → List PageRange) → Type 0
IsLess o owed = (c p : ℕ) → is_owed (o c) p ≡ true → is_owed (owed c) p ≡ true

record Covers (u : Driven) (o : ℕ → List PageRange) (d : Deed) (v : Driven) : Type 0 where
  owes : ℕ → List PageRange
  led : Led (with_owed u o) (with_owed v owes) (λ l. done_by d ++ l)
  less : IsLess owes v.owed
  reached : IsReached v.inside
  small : IsSmall v

or_right : (a b : Bool) → b ≡ true → (a || b) ≡ true
or_right true b h = refl
or_right false b h = h

owed_more : (range : Option PageRange) (rs : List PageRange) (p : ℕ) → is_owed rs p ≡ true → is_owed (with_range range rs) p ≡ true
owed_more None rs p h = h
owed_more (Some r) rs p h = or_right (has r p) (is_owed rs p) h

owed_new : (range : Option PageRange) (rs : List PageRange) (p : ℕ) → some_has range p ≡ true → is_owed (with_range range rs) p ≡ true
owed_new None rs p h = absurd cc
owed_new (Some r) rs p h = ap (λ b. b || is_owed rs p) h

less_after : (u : Driven) (o owes : ℕ → List PageRange) (core : ℕ) (range : Option PageRange) → IsLess o u.owed → IsWithin owes o core range
    → IsLess owes (put u.owed core (with_range range (u.owed core)))
less_after u o owes core range less within c p h = elim (within c p h) [
  | inl old ↦ put_all (λ c rs. is_owed (o c) p ≡ true → is_owed rs p ≡ true) u.owed core (with_range range (u.owed core))
      (λ x. owed_more range (u.owed core) p (less core p x)) (λ c ne x. less c p x) c old
  | inr own ↦ put_all (λ c rs. c ≡ core → is_owed rs p ≡ true) u.owed core (with_range range (u.owed core))
      (λ x. owed_new range (u.owed core) p own.1) (λ c ne x. absurd (ne x)) c own.0
]

-- a new word is that of the core's entry
installed_led : (w : Driven) (core : ℕ) (filled : RawFilled) (x : Option Translation) → IsWordOf w.inside core filled → IsTold filled x
    → Led w (record w { words = with_word core filled.page x w.words }) (λ l. installed_by core filled.page x ++ l)
installed_led w core filled None word told = stay w
installed_led w core filled (Some x) word told =
    by_act w (record w { words = with_word core filled.page (Some x) w.words }) (installs core filled.page) refl (x, word x told.1 told.0, refl)

call_covers : (keeps : Bool) (u : Driven) (o : ℕ → List PageRange) (k : Call) (v : Driven) → IsLess o u.owed → IsReached u.inside → IsSmall u
    → DeedLeads keeps u (calls k) v → Covers u o (calls k) v
call_covers keeps u o k v less r small (h, ready, told, is) =
    let filled = filled_in k.ask k.status k.now in
    let core = core_in_ask k.ask in
    let range = owed_in k.ask k.status k.now in
    let b = returned_base keeps u o v k.ask k.was k.status k.now small r ready h in
    let x : Driven = filled_as u v.inside filled b.owes in
    record {
      owes = b.owes;
      led = subst (λ y. Led (with_owed u o) y (λ l. installed_by core filled.page k.installed ++ l)) (sym (ap (λ y. with_owed y b.owes) is))
          (then_led (with_owed u o) x (record x { words = with_word core filled.page k.installed x.words }) same
          (λ l. installed_by core filled.page k.installed ++ l) b.led (installed_led x core filled k.installed b.word told));
      less = subst (IsLess b.owes) (sym (ap (λ (y : Driven). y.owed) is)) (less_after u o b.owes core range less b.within);
      reached = b.reached;
      small = subst (λ (m : Made). m.frames ≤ 65536) (sym b.made) small;
    }

not_owed : (o owed : ℕ → List PageRange) → IsLess o owed → (c p : ℕ) → is_owed (owed c) p ≡ false → is_owed (o c) p ≡ false
not_owed o owed less c p h = by (is_owed (o c) p) refl
  where
    by : (b : Bool) → is_owed (o c) p ≡ b → b ≡ false
    by true e = let z = sym h ∙ less c p e in absurd cc
    by false e = refl

-- what changes nothing of the machine, and nothing that is owed
covers_so : (u : Driven) (o : ℕ → List PageRange) (a : Act) (v x : Driven) → IsLess o u.owed → IsReached u.inside → IsSmall u
    → unless_step a ≡ a ∷ [] → Does (with_owed u o) a (with_owed x o) → v ≡ x → x.inside ≡ u.inside → x.owed ≡ u.owed → Covers u o (acts a) v
covers_so u o a v x less r small step does is inside owed = subst (Covers u o (acts a)) (sym is) (record {
  owes = o;
  led = by_act (with_owed u o) (with_owed x o) a step does;
  less = subst (IsLess o) (sym owed) less;
  reached = subst IsReached (sym inside) r;
  small = subst (λ (i : World). i.made.frames ≤ 65536) (sym inside) small;
})

act_covers : (keeps : Bool) (u : Driven) (o : ℕ → List PageRange) (a : Act) (v : Driven) → IsLess o u.owed → IsReached u.inside → IsSmall u
    → DeedLeads keeps u (acts a) v → Covers u o (acts a) v
act_covers keeps u o (library e out) v less r small (b, h) = absurd b
act_covers keeps u o (installs c p) v less r small (b, h) = absurd b
act_covers keeps u o (clears c p) v less r small (b, h) =
    covers_so u o (clears c p) v (record u { words = put u.words c (put (u.words c) p None) }) less r small refl refl h refl refl
act_covers keeps u o (settles c) v less r small (b, (done, is)) = subst (Covers u o (acts (settles c))) (sym is) (record {
  owes = put o c [];
  led = by_act (with_owed u o) (record u { owed = put o c [] }) (settles c) refl ((λ p h. done p (less c p h)), refl);
  less = λ d p. put_both (λ d rs ss. is_owed rs p ≡ true → is_owed ss p ≡ true) o u.owed c [] [] (λ h. h) (λ d ne. less d p) d;
  reached = r;
  small = small;
})
act_covers keeps u o (walks c p) v less r small (b, (x, at, is)) =
    covers_so u o (walks c p) v (record u { tlb = put u.tlb c (u.tlb c ++ record { page = p; translation = x } ∷ []) }) less r small refl (x, at, refl)
    is refl refl
act_covers keeps u o (loses c left) v less r small (b, (old, is)) =
    covers_so u o (loses c left) v (record u { tlb = put u.tlb c left }) less r small refl (old, refl) is refl refl
act_covers keeps u o (reads c touch reply) v less r small (b, (x, by, may, read, told, is)) =
    covers_so u o (reads c touch reply) v u less r small refl (x, (by.0, not_owed o u.owed less c touch.page by.1), may, read, told, refl) is refl refl
act_covers keeps u o (stores c s) v less r small (b, (by, may, is)) =
    covers_so u o (stores c s) v (record u { waiting = put u.waiting c (u.waiting c ++ s ∷ []) }) less r small refl
    ((by.0, not_owed o u.owed less c s.page by.1), may, refl) is refl refl
act_covers keeps u o (drains c s) v less r small (b, (older, younger, at, is)) =
    covers_so u o (drains c s) v (record u {
      bytes = bytes_after Store s.by.frame s.offset s.byte u.bytes;
      waiting = put u.waiting c (older ++ younger);
    }) less r small refl (older, younger, at, refl) is refl refl

covers : (keeps : Bool) (u : Driven) (o : ℕ → List PageRange) (d : Deed) (v : Driven) → IsLess o u.owed → IsReached u.inside → IsSmall u
    → DeedLeads keeps u d v → Covers u o d v
covers keeps u o (calls k) v less r small h = call_covers keeps u o k v less r small h
covers keeps u o (acts a) v less r small h = act_covers keeps u o a v less r small h

-- ---- all moments

record Covered (u : Driven) (o : ℕ → List PageRange) (ms : List Moment) : Type 0 where
  run : List Stage
  runs : Runs (with_owed u o) run
  done : beside_steps run ≡ done_in ms
  ends : IsAsIn (handled u ms) (end_of (with_owed u o) run)

covered : (keeps : Bool) (u : Driven) (o : ℕ → List PageRange) (ms : List Moment) → IsLess o u.owed → IsReached u.inside → IsSmall u
    → Handles keeps u ms → Covered u o ms
covered keeps u o [] less r small h = record { run = []; runs = tt; done = refl; ends = refl }
covered keeps u o (m ∷ ms) less r small (h, rest) =
    let a = covers keeps u o m.what m.after less r small h in
    let b = covered keeps m.after a.owes ms a.less a.reached a.small rest in
    record {
      run = a.led.grow b.run;
      runs = a.led.runs b.run b.runs;
      done = a.led.acts b.run ∙ ap (λ l. done_by m.what ++ l) b.done;
      ends = subst (IsAsIn (handled m.after ms)) (sym (a.led.ends b.run)) b.ends;
    }

pub calls_driven : (setup : RawSetup) (files : List RawFile) (buffer : List ℕ) (keeps : Bool) (w : Driven) (ms : List Moment)
    → IsOpened setup files buffer keeps w → Handles keeps w ms
    → (made : Made) × (slots : Slots) × (w.inside ≡ new_world made slots) × IsRunOf made slots w ms
calls_driven setup files buffer keeps w ms (few, ((made, slots, is_made, new, at), log), bare) h =
    let owes : ℕ → List PageRange = λ c. [] in
    let first : with_owed w owes ≡ opening made slots w.bytes =
    ap (λ x. with_owed x owes) bare ∙ ap (λ (i : World). with_inside i) at in
    let reached : IsReached w.inside = subst IsReached (sym at) (reached_opening made slots is_made.few new) in
    let frames = is_made.frames in
    let bound : made.frames ≤ 65536 = omega (arith, few, frames) in
    let small : IsSmall w = subst (λ (i : World). i.made.frames ≤ 65536) (sym at) bound in
    let c = covered keeps w owes ms (λ c p h. absurd cc) reached small h in
    let runs : Runs (opening made slots w.bytes) c.run = subst (λ x. Runs x c.run) first c.runs in (
      made,
      slots,
      at,
      record {
        run = c.run;
        runs = runs;
        done = c.done;
        ends = subst (λ x. IsAsIn (handled w ms) (end_of x c.run)) first c.ends;
        shown = driven_runs_plain made slots w.bytes c.run is_made.few new runs;
      },
    )
  where
    with_inside : World → Driven
    with_inside i = record { inside = i; bytes = w.bytes; words = λ c p. None; tlb = λ c. []; owed = λ c. []; waiting = λ c. [] }
