-- The state of a machine between two lines of a trace in which no call runs beside another
use Rattle.machine_model.proofs.Words.{◌≡◌, ◌≢◌, ℕ, zero, suc, ◌+◌, ◌≤◌, ◌<◌, ◌^◌, ◌⊎◌, inl, inr, Bool, true, false, cond, List, [], ◌∷◌, ◌++◌, Option, None}
use Rattle.machine_model.proofs.Words.{Some, refl, sym, ap, subst, ◌∙◌, arith, fun_ext, nat_lt, pred, if◌then◌else◌, PageRange, Reply, NoFrame, Request}
use Rattle.machine_model.proofs.Words.{members, has, put, Plain, nothing_mapped, put_all, put_both, put_other, IsUser}
use Rattle.machine_model.proofs.Words.{awaits_in, World, Made, Goes, Acts, with_event, event_limit, Step, StepsTo, nth, Replays, Stands, RepliesBy}
use Rattle.machine_model.proofs.Words.{NoneFree, page_copied, with_copy, is_placed, is_access, Users, Same, users_after, with_user, without, IsPlace}
use Rattle.machine_model.proofs.Words.{IsFirstPlace}
use Rattle.machine_model.specs.declared.event.Event.{Event}
use Rattle.machine_model.specs.declared.event.Outcome.{Outcome}
use Rattle.machine_model.specs.declared.event.Outcome.TheVariants.{Stepped, Idle, Full}
use Rattle.machine_model.specs.declared.phase.Phase.TheVariants.{Free}
use Rattle.machine_model.specs.declared.event.Event.TheVariants as Ev
use Rattle.vm_base.specs.declared.log.Entry.TheVariants.{Answer}
use Rattle.machine_model.specs.Sound.{IsDue, IsReached}
use Rattle.machine_model.proofs.SoundKept.{reached_fine, reached_step}
use Rattle.machine_model.specs.Alone.{ComesBeside, IsAwaiting, IsBeside, IsBesideCalls, IsCalm, IsResting, IsServed, IsServedAlone}
use Rattle.machine_model.specs.Alone.{IsServedAtLast, IsWaiting, KeepsOthers, KeepsTakes, left_to, takes_left, users_dropped}
use Rattle.machine_model.specs.Log.{LeadsTo}
use Rattle.machine_model.specs.Taken.{frames_for, frames_taken}
use Rattle.machine_model.proofs.Taking.{all_taken, no_frame_access}
use Rattle.machine_model.specs.Users.{recorded}
use Rattle.machine_model.proofs.Beside.{rests_beside}
use Rattle.machine_model.proofs.Ending.{served_at_last}
use Rattle.machine_model.proofs.Serving.{served_alone}
use Rattle.machine_model.proofs.Telling.{no_message}
use Rattle.core_steps.specs.declared.machine.Finished.{Finished}
use Rattle.core_steps.specs.declared.machine.Finished.TheVariants.{Last, Stuck}
use Rattle.core_steps.specs.Finishing.{EndsIn}
use Rattle.trace_words.specs.OutcomeText.{outcome_text}
use Rattle.trace.specs.FinishedText.{finished_text}
use Rattle.trace.specs.PlainText.{Open, Reached, IsAnswered, IsDropped, AnswersAtOnce, IsHeldUp, OpenAnswers, one_more, replies_in}
use Rattle.core_steps.proofs.Keeping.{step_made, step_grows, go_requests}
use Rattle.trace.proofs.Replying.{noted_replies, untold_along, waiting_untold}

-- ---- the state

pub record IsOpen (w : World) (s : Reached) (o : Open) : Type 0 where
  pub waiting : IsWaiting w s.plain o.core o.request
  pub named : is_placed o.request ≡ false
  pub takes : (d : ℕ) → left_to w d ≡ o.takes d
  pub there : (d : ℕ) → 0 < o.takes d → nat_lt d w.made.cores ≡ true

abbrev pub MeetsOpen : World → Reached → Option Open → Type 0
MeetsOpen w s None = IsCalm w
MeetsOpen w s (Some o) = IsOpen w s o

pub record Meets (w : World) (s : Reached) : Type 0 where
  pub reached : IsReached w
  pub cores : s.cores ≡ w.made.cores
  pub calls : s.calls ≡ w.made.calls
  pub files : s.files ≡ w.made.file
  pub requests : s.requests ≡ w.calls.requests
  pub replies : replies_in w.calls.log ≡ s.replies
  pub log : LeadsTo w s.plain
  pub frames : s.frames ≡ w.made.frames
  pub taken : frames_taken w ≤ s.accesses
  pub users : recorded w.slots ≡ s.users
  pub waiting : MeetsOpen w s s.waiting

-- what a line gives, and that the machine's state meets it
pub record IsNext (v : World) (Answers : Reached → Type 0) : Type 0 where
  pub next : Reached
  pub answers : Answers next
  pub meets : Meets v next

least : (n : ℕ) → n ≤ n
least n = omega arith

users_same : (a b : Users) → Same a b → a ≡ b
users_same a b h = fun_ext (λ p. fun_ext (λ c. h p c))

-- ---- events beside the calls

resting : (w : World) (s : Reached) → Meets w s → (core : ℕ) × IsResting w core
resting w s m = go s.waiting m.waiting
  where
    go : (o : Option Open) → MeetsOpen w s o → (core : ℕ) × IsResting w core
    go None calm = (0, record { reached = m.reached; others = λ d ne. calm d; own = inl (calm 0) })
    go (Some o) k =
        (o.core, record { reached = m.reached; others = k.waiting.others; own = inr (k.waiting.range, k.waiting.at_wait) })

leads_on : (w v : World) (t : Plain) → IsBesideCalls w v → LeadsTo w t → LeadsTo v t
leads_on w v t b h =
    subst (λ log. Replays v.calls.requests (nothing_mapped v.made.file) log t) (sym b.log)
    (subst (λ rs. Replays rs (nothing_mapped v.made.file) w.calls.log t) (sym b.requests)
    (subst (λ (m : Made). Replays w.calls.requests (nothing_mapped m.file) w.calls.log t) (sym b.made) h))

still_waiting : (w v : World) (t : Plain) (core : ℕ) (request : Request) → IsWaiting w t core request → IsReached v → IsBesideCalls w v
    → IsWaiting v t core request
still_waiting w v t core request k r b = record {
  range = k.range;
  at_wait = ap (λ f. awaits_in (f core)) b.phases ∙ k.at_wait;
  others = λ d ne. ap (λ f. f d) b.phases ∙ k.others d ne;
  inside = ap (λ (m : Made). nat_lt core m.cores) b.made ∙ k.inside;
  reached = r;
  leads = leads_on w v t b k.leads;
  number = subst (λ rs. nth rs (v.calls.number core) ≡ Some request) (sym b.requests)
      (subst (λ (n : ℕ → ℕ). nth w.calls.requests (n core) ≡ Some request) (sym b.numbers) k.number);
}

-- the state of what came before, with this call open or none
meets_with : (w v : World) (s : Reached) (o : Option Open) → Meets w s → IsReached v → IsBesideCalls w v → MeetsOpen v (record s { waiting = o }) o
    → Meets v (record s { waiting = o })
meets_with w v s o m r b k = record {
  reached = r;
  cores = m.cores ∙ ap (λ (d : Made). d.cores) (sym b.made);
  calls = m.calls ∙ ap (λ (d : Made). d.calls) (sym b.made);
  files = m.files ∙ ap (λ (d : Made). d.file) (sym b.made);
  requests = m.requests ∙ sym b.requests;
  replies = ap replies_in b.log ∙ m.replies;
  log = leads_on w v s.plain b m.log;
  frames = m.frames ∙ ap (λ (d : Made). d.frames) (sym b.made);
  taken = let a = b.frames in let c = m.taken in omega (arith, a, c);
  users = users_same (recorded v.slots) (recorded w.slots) b.users ∙ m.users;
  waiting = k;
}

pub meets_beside : (w v : World) (s : Reached) → Meets w s → IsReached v → IsBesideCalls w v → KeepsTakes w v → Meets v s
meets_beside w v s m r b k = meets_with w v s s.waiting m r b (go s.waiting m.waiting)
  where
    go : (o : Option Open) → MeetsOpen w s o → MeetsOpen v (record s { waiting = s.waiting }) o
    go None calm = λ c. ap (λ f. f c) b.phases ∙ calm c
    go (Some o) z = record {
      waiting = still_waiting w v s.plain o.core o.request z.waiting r b;
      named = z.named;
      takes = λ d. k d ∙ z.takes d;
      there = λ d l. ap (λ (m : Made). nat_lt d m.cores) b.made ∙ z.there d l;
    }

pub meets_event : (w : World) (s : Reached) → Meets w s → IsReached (with_event w) → Meets (with_event w) s
meets_event w s m r =
    meets_beside w (with_event w) s m r (record {
      made = refl;
      phases = refl;
      numbers = refl;
      requests = refl;
      log = refl;
      users = λ p d. refl;
      frames = least (frames_taken w);
    }) (λ d. refl)

-- ---- takes

above_pred : (n : ℕ) → 0 < pred n → 0 < n
above_pred zero l = absurd (omega (arith, l))
above_pred (suc n) l = omega arith

-- a take of a core that had one before it
pub meets_taken : (w v : World) (s : Reached) (o : Open) (c : ℕ) → Meets w s → IsOpen w s o → IsReached v → IsBesideCalls w v
    → ((d : ℕ) → left_to v d ≡ put (left_to w) c (pred (left_to w c)) d)
    → Meets v (record s { waiting = Some (record o { takes = put o.takes c (pred (o.takes c)) }) })
meets_taken w v s o c m z r b k =
    meets_with w v s (Some (record o { takes = put o.takes c (pred (o.takes c)) })) m r b (record {
      waiting = still_waiting w v s.plain o.core o.request z.waiting r b;
      named = z.named;
      takes = λ d. k d ∙ put_both (λ d x y. x ≡ y) (left_to w) o.takes c (pred (left_to w c)) (pred (o.takes c)) (ap pred (z.takes c)) (λ j ne. z.takes j) d;
      there = λ d l. ap (λ (m : Made). nat_lt d m.cores) b.made ∙
          put_all (λ d n. 0 < n → nat_lt d w.made.cores ≡ true) o.takes c (pred (o.takes c)) (λ l. z.there c (above_pred (o.takes c) l))
          (λ j ne l. z.there j l) d l;
    })

pub calm_left : (w : World) → IsReached w → IsCalm w → (d : ℕ) → left_to w d ≡ 0
calm_left w r calm d =
    ap takes_left (no_message w.calls.phase d (w.hardware.inbox d) (λ b. ap awaits_in (calm b)) ((reached_fine w r).coherent.asked d))

-- an event beside the calls
pub beside : (w v : World) (s : Reached) (e : Event) (o : Outcome) → Meets w s → IsBeside w e → w.calls.events < event_limit → Step w e o v
    → IsReached v × IsBesideCalls w v × ComesBeside w e o v
beside w v s e o m b below k =
    let r = resting w s m in
    let z = rests_beside w v r.0 e o r.1 b below k in
    (reached_step w v e o m.reached k, z.0, z.1)

-- ---- steps

pub steps_kept : (n core : ℕ) (w v : World) → StepsTo w core n v → (v.made ≡ w.made) × (v.calls.requests ≡ w.calls.requests) × (w.calls.events ≤ v.calls.events)
steps_kept zero core w v s = (
  ap (λ (v : World). v.made) s,
  ap (λ (v : World). v.calls.requests) s,
  let h : v.calls.events ≡ w.calls.events = ap
      (λ (v : World). v.calls.events) s in omega (arith, h),
)
steps_kept (suc n) core w v s =
    let k = steps_kept n core w s.0 s.1 in (
      step_made s.0 (Ev.Go core) Stepped v s.2 ∙ k.0,
      go_requests s.0 core Stepped v s.2 ∙ k.1,
      let a = k.2 in let b = step_grows s.0 (Ev.Go core) Stepped v s.2 in omega (arith, a, b),
    )

no_step : (w : World) (core : ℕ) (v : World) → w.calls.phase core ≡ Free → Step w (Ev.Go core) Stepped v → ⊥
no_step w core v free s = go (nat_lt w.calls.events event_limit) (nat_lt core w.made.cores) s
  where
    go : (a b : Bool) → cond a (cond b (Acts (with_event w) (Ev.Go core) Stepped v) ((Stepped ≡ Idle) × (v ≡ with_event w))) ((Stepped ≡ Full) × (v ≡ w)) → ⊥
    go true true k = let e : Stepped ≡ Idle = (subst (λ phase. Goes (with_event w) core phase Stepped v) free k).0 in cc
    go true false k = let e = k.0 in cc
    go false b k = let e = k.0 in cc

no_steps : (n core : ℕ) (w v : World) → w.calls.phase core ≡ Free → StepsTo w core (suc n) v → ⊥
no_steps zero core w v free s = no_step w core v free (subst (λ m. Step m (Ev.Go core) Stepped v) s.1 s.2)
no_steps (suc n) core w v free s = no_steps n core w s.0 free s.1

-- a line that finishes a call where the core has none
pub finish_free : (w : World) (core n : ℕ) (f : Finished) (v : World) (s : Reached) (text : List ℕ) → Meets w s → w.calls.phase core ≡ Free
    → w.calls.events < event_limit → EndsIn w core n f v → text ≡ finished_text f → (text ≡ outcome_text Idle) × Meets v s
finish_free w core zero (Last o) v s text m free below h t =
    let z = beside w v s (Ev.Go core) o m free below (subst (λ x. Step x (Ev.Go core) o v) h.2.1 h.2.2) in
    (t ∙ ap outcome_text z.2.0, meets_beside w v s m z.0 z.1 z.2.1)
finish_free w core (suc n) (Last o) v s text m free below h t = absurd (no_steps n core w h.2.0 free h.2.1)
finish_free w core zero Stuck v s text m free below h t = let z : 0 ≡ 2 ^ 40 = h.0 in absurd (omega (arith, z))
finish_free w core (suc n) Stuck v s text m free below h t = absurd (no_steps n core w v free h.1)

-- ---- a call that is answered

no_give_up : (core : ℕ) → Ev.Go core ≡ Ev.GiveUp core → ⊥
no_give_up core e = absurd cc

-- what a served call leaves; s is what was reached before, with the call among those begun
served : (w v : World) (s : Reached) (core : ℕ) (request : Request) (o : Outcome) (text : List ℕ) → s.cores ≡ w.made.cores → s.calls ≡ w.made.calls
    → s.files ≡ w.made.file → replies_in w.calls.log ≡ s.replies
    → recorded w.slots ≡ s.users → v.made ≡ w.made → s.requests ≡ v.calls.requests → s.frames ≡ w.made.frames → frames_taken v ≤ s.accesses
    → (k : IsServed w s.plain core request o v) → RepliesBy IsFirstPlace s.plain core request k.reply k.after → (k.reply ≡ NoFrame → s.frames < s.accesses)
    → text ≡ outcome_text o
    → IsNext v (λ r. IsAnswered s core request k.reply r text)
served w v s core request o text cores calls files replies users made requests frames most k first framed t =
    let due = k.due 0 0 in
    record {
      next = record s {
        replies = s.replies ++ k.reply ∷ [];
        plain = k.after;
        users = users_after s.plain core request k.reply s.users;
        waiting = None;
      };
      answers = record {
        after = k.after;
        replies = first;
        given = λ e. no_give_up core (subst (λ r. IsDue (Ev.Go core) w.memory.is_free (Answer 0 0 core r)) e due);
        framed = framed;
        next = refl;
        tells = t ∙ ap outcome_text k.answered;
      };
      meets = record {
        reached = k.reached;
        cores = cores ∙ ap (λ (d : Made). d.cores) (sym made);
        calls = calls ∙ ap (λ (d : Made). d.calls) (sym made);
        files = files ∙ ap (λ (d : Made). d.file) (sym made);
        requests = requests;
        replies = noted_replies w.calls.log (page_copied s.plain request k.reply) (v.calls.number core) core k.reply v.calls.log k.noted
            ∙ ap (λ rs. rs ++ k.reply ∷ []) replies;
        log = k.leads;
        frames = frames ∙ ap (λ (d : Made). d.frames) (sym made);
        taken = most;
        users = users_same (recorded v.slots) (users_after s.plain core request k.reply (recorded w.slots)) k.users
            ∙ ap (users_after s.plain core request k.reply) users;
        waiting = k.calm;
      };
    }

-- ---- a call that begins

-- no user but the core's own is dropped
none_dropped : (s : Reached) (core : ℕ) (request : Request) (reply : Reply) → KeepsOthers s.plain s.users core request reply → (d : ℕ)
    → IsDropped s core request reply d → ⊥
none_dropped s core request reply k d h = let a = k d h.1.0 h.0 h.1.1 in let b = h.1.2 in cc

-- of the others the pages of the range have no users
others_dropped : (core : ℕ) (request : Request) (range : PageRange) (users : Users) (p d : ℕ) → d ≢ core
    → users_dropped core request range users p d ≡ cond (has range p) false (users p d)
others_dropped core request range users p d ne = go (is_access request)
  where
    go : (b : Bool) → (if b then with_user range.first core (without range users) else without range users) p d ≡ without range users p d
    go false = refl
    go true = put_all (λ j (f : ℕ → Bool). f d ≡ without range users j d) (without range users) range.first (put (without range users range.first) core true)
        (put_other (without range users range.first) core true d ne) (λ j other. refl) p

-- of a call that waits: whom it waits for
held_up : (w x v : World) (s : Reached) (core : ℕ) (request : Request) (o : Outcome) (text : List ℕ) → s.cores ≡ w.made.cores → s.calls ≡ w.made.calls
    → s.files ≡ w.made.file → replies_in x.calls.log ≡ s.replies
    → recorded w.slots ≡ s.users → x.made ≡ w.made → s.requests ≡ x.calls.requests → s.frames ≡ w.made.frames
    → frames_taken w + frames_for request ≤ s.accesses → IsReached v → IsAwaiting w x s.plain core request o v
    → text ≡ outcome_text o → IsNext v (λ r. IsHeldUp s core request r text)
held_up w x v s core request o text cores calls files replies users made requests frames most reached a t =
    record {
      next = record s { waiting = Some call };
      answers = record {
        reply = a.reply;
        after = a.after;
        replies = a.first;
        set = a.set;
        some = a.some;
        exact = λ d. (λ m. dropped d ((a.exact d).0 m), λ h. (a.exact d).1 (uses d h));
        next = refl;
        tells = t ∙ ap outcome_text a.waits;
      };
      meets = subst (λ v. Meets v (record s { waiting = Some call })) (sym a.stays) (record {
        reached = subst IsReached a.stays reached;
        cores = cores ∙ ap (λ (d : Made). d.cores) (sym made);
        calls = calls ∙ ap (λ (d : Made). d.calls) (sym made);
        files = files ∙ ap (λ (d : Made). d.file) (sym made);
        requests = requests;
        replies = replies;
        log = a.waiting.leads;
        frames = frames ∙ ap (λ (d : Made). d.frames) (sym made);
        taken = let b = a.frames in omega (arith, b, most);
        users = now;
        waiting = record {
          waiting = still_waiting x (with_event x) s.plain core request a.waiting (subst IsReached a.stays reached)
              (record { made = refl; phases = refl; numbers = refl; requests = refl; log = refl; users = λ p d. refl; frames = least (frames_taken x) });
          named = a.named;
          takes = a.takes;
          there = λ d l. ap (λ (m : Made). nat_lt d m.cores) made ∙ a.there d ((a.exact d).0 (member d l)).1;
        };
      });
    }
  where
    call : Open
    call = record { core = core; request = request; takes = λ d. if members a.set d then 2 else 0 }

    now : recorded x.slots ≡ s.users
    now = users_same (recorded x.slots) (recorded w.slots) a.users ∙ users

    member : (d : ℕ) → 0 < (if members a.set d then 2 else 0) → members a.set d ≡ true
    member d = go (members a.set d)
      where
        go : (b : Bool) → 0 < (if b then 2 else 0) → b ≡ true
        go true l = refl
        go false l = absurd (omega (arith, l))

    left : (p d : ℕ) → d ≢ core → users_after s.plain core request a.reply s.users p d ≡ cond (has a.waiting.range p) false (s.users p d)
    left p d ne = a.drops s.users p d ∙ others_dropped core request a.waiting.range s.users p d ne

    dropped : (d : ℕ) → (d ≢ core) × IsUser x.slots a.waiting.range d → IsDropped s core request a.reply d
    dropped d u = (
      u.0,
      (
        u.1.0,
        ap (λ (f : Users). f u.1.0 d) (sym now) ∙ u.1.2,
        left u.1.0 d u.0 ∙ ap (λ b. cond b false (s.users u.1.0 d)) u.1.1,
      ),
    )

    uses : (d : ℕ) → IsDropped s core request a.reply d → (d ≢ core) × IsUser x.slots a.waiting.range d
    uses d h = (h.0, (h.1.0, inside (has a.waiting.range h.1.0) refl, ap (λ (f : Users). f h.1.0 d) now ∙ h.1.1))
      where
        inside : (b : Bool) → has a.waiting.range h.1.0 ≡ b → has a.waiting.range h.1.0 ≡ true
        inside true e = e
        inside false e = absurd (
            let z = sym (left h.1.0 d h.0) ∙ h.1.2 in
            let k = ap (λ b. cond b false (s.users h.1.0 d)) e in
            let u = h.1.1 in
            cc)

-- what a call that began comes to
pub call_ends : (w begun : World) (core n : ℕ) (request : Request) (f : Finished) (v : World) (s : Reached) (text : List ℕ) → Meets w s → IsCalm w
    → Step w (Ev.Call core request) Stepped begun → begun.made ≡ w.made → begun.calls.requests ≡ w.calls.requests ++ request ∷ []
    → begun.calls.log ≡ w.calls.log
    → v.calls.events < event_limit → EndsIn begun core n f v → text ≡ finished_text f
    → IsNext v (λ r. AnswersAtOnce (one_more s request) core request r text ⊎ IsHeldUp (one_more s request) core request r text)
call_ends w begun core n request (Last o) v s text m calm call made asked same below h t =
    let x = h.2.0 in
    let k = steps_kept n core begun x h.2.1 in
    let up = step_grows x (Ev.Go core) o v h.2.2 in
    let alone : IsServedAlone w s.plain core request begun = served_alone w begun s.plain core request m.reached m.log calm call in
    elim (alone.ends n x v o h.2.1 h.2.2 h.1 (omega (arith, up, below))) [
      | inl d ↦
          let most = d.0.frames in
          let before = m.taken in
          let z = served w v (one_more s request) core request o text m.cores m.calls m.files m.replies m.users
          (step_made x (Ev.Go core) o v h.2.2 ∙ (k.0 ∙ made))
          (counted v.calls.requests (go_requests x core o v h.2.2 ∙ (k.1 ∙ asked))) m.frames (omega (arith, most, before)) d.0 d.2
          (λ e. framed o d.0 e) t in
          record {
            next = z.next;
            answers = inl (
              d.0.reply,
              z.answers,
              none_dropped (one_more s request) core request d.0.reply
                  (subst (λ u. KeepsOthers s.plain u core request d.0.reply) m.users d.1),
            );
            meets = z.meets;
          }
      | inr a ↦
          let before = m.taken in
          let z = held_up w x v (one_more s request) core request o text m.cores m.calls m.files (unanswered x a.waiting h.2.1 ∙ m.replies) m.users
          (k.0 ∙ made) (counted x.calls.requests (k.1 ∙ asked))
          m.frames (omega (arith, before)) (reached_step x v (Ev.Go core) o a.waiting.reached h.2.2) a t in
          record { next = z.next; answers = inr z.answers; meets = z.meets }
    ]
  where
    -- no frame was free, so as many accesses came before as there are frames
    framed : (o : Outcome) (d : IsServed w s.plain core request o v) → d.reply ≡ NoFrame → s.frames < s.accesses + (if is_access request then 1 else 0)
    framed o d e =
        let none : NoneFree w.memory.is_free = subst (λ r. IsDue (Ev.Go core) w.memory.is_free (Answer 0 0 core r)) e (d.due 0 0) in
        let all : frames_taken w ≡ w.made.frames = all_taken w.memory.is_free w.made.frames none in
        let access : is_access request ≡ true = no_frame_access s.plain d.after core request
        (subst (λ r. Stands IsPlace (with_copy s.plain (page_copied s.plain request r)) core request r d.after) e d.stands) in
        let one : frames_for request ≡ 1 = ap (λ (b : Bool). if b then 1 else 0) access in
        let frames = m.frames in
        let before = m.taken in
        omega (arith, all, one, frames, before)

    counted : (rs : List Request) → rs ≡ w.calls.requests ++ request ∷ [] → s.requests ++ request ∷ [] ≡ rs
    counted rs e = ap (λ qs. qs ++ request ∷ []) m.requests ∙ sym e

    -- where the call waits, it has no reply yet
    unanswered : (x : World) → IsWaiting x s.plain core request → StepsTo begun core n x → replies_in x.calls.log ≡ replies_in w.calls.log
    unanswered x waiting steps =
        (untold_along (replies_in w.calls.log) core n begun x (reached_step w begun (Ev.Call core request) Stepped m.reached call)
        (λ none. ap replies_in same) steps).1 (waiting_untold x s.plain core request waiting)
call_ends w begun core n request Stuck v s text m calm call made asked same below h t =
    let alone : IsServedAlone w s.plain core request begun = served_alone w begun s.plain core request m.reached m.log calm call in
    let few = alone.short n v h.1 in
    let all : n ≡ 2 ^ 40 = h.0 in
    absurd (omega (arith, few, all))

-- ---- a call that waited

pub open_ends : (w : World) (n : ℕ) (f : Finished) (v : World) (s : Reached) (o : Open) (text : List ℕ) → Meets w s → IsOpen w s o
    → v.calls.events < event_limit
    → EndsIn w o.core n f v → text ≡ finished_text f → IsNext v (λ r. OpenAnswers s o r text)
open_ends w n (Last outcome) v s o text m z below h t =
    let x = h.2.0 in
    let k = steps_kept n o.core w x h.2.1 in
    let up = step_grows x (Ev.Go o.core) outcome v h.2.2 in
    let last : IsServedAtLast w s.plain o.core o.request = served_at_last w s.plain o.core o.request z.waiting in
    elim (last.ends n x v outcome h.2.1 h.2.2 h.1 (omega (arith, up, below))) [
      | inl d ↦
          let most = d.frames in
          let before = m.taken in
          let y = served w v s o.core o.request outcome text m.cores m.calls m.files m.replies m.users (step_made x (Ev.Go o.core) outcome v h.2.2 ∙ k.0)
          (m.requests ∙ sym (go_requests x o.core outcome v h.2.2 ∙ k.1)) m.frames (omega (arith, most, before)) d.served
          (d.first z.named) (λ e. absurd (d.framed e)) t in
          record { next = y.next; answers = inl (d.served.reply, y.answers, d.framed, λ e. sym (z.takes e) ∙ d.nobody e); meets = y.meets }
      | inr a ↦ record {
        next = s;
        answers = inr (record {
          set = a.set;
          some = a.some;
          exact = λ d. (
            λ e. subst (λ n. 0 < n) (z.takes d) ((a.exact d).0 e),
            λ l. (a.exact d).1 (subst (λ n. 0 < n) (sym (z.takes d)) l),
          );
          next = refl;
          tells = t ∙ ap outcome_text a.waits;
        });
        meets = subst (λ v. Meets v s) (sym a.stays) (meets_event w s m (subst IsReached a.stays (ends_reached n x outcome h.2.1 h.2.2)));
      }
    ]
  where
    steps_reached : (n : ℕ) (x : World) → StepsTo w o.core n x → IsReached x
    steps_reached zero x s = subst IsReached (sym s) m.reached
    steps_reached (suc n) x s = reached_step s.0 x (Ev.Go o.core) Stepped (steps_reached n s.0 s.1) s.2

    ends_reached : (n : ℕ) (x : World) (outcome : Outcome) → StepsTo w o.core n x → Step x (Ev.Go o.core) outcome v → IsReached v
    ends_reached n x outcome s e = reached_step x v (Ev.Go o.core) outcome (steps_reached n x s) e
open_ends w n Stuck v s o text m z below h t =
    let last : IsServedAtLast w s.plain o.core o.request = served_at_last w s.plain o.core o.request z.waiting in
    let few = last.short n v h.1 in
    let all : n ≡ 2 ^ 40 = h.0 in
    absurd (omega (arith, few, all))
