-- The text of a trace in which no call runs beside another, and what comes behind it, are those of the plain page map and the users of its pages.
use Rattle.machine_model.proofs.Words.{◌≡◌, ◌≢◌, ℕ, ◌≤◌, ◌<◌, ◌==◌, ◌⊎◌, inl, inr, Bool, true, false, cond, List, [], ◌∷◌, ◌++◌, Option, None, Some, refl, sym}
use Rattle.machine_model.proofs.Words.{ap, subst, ◌∙◌, arith, length, nat_lt, pred, IsSomeAnd, fun_ext, put, is_recorded, nat_tests, Request, file_with}
use Rattle.machine_model.proofs.Words.{nothing_mapped, eq_true, eq_false, Slots, IsNew, MapLine, IsMapList, plain_metas}
use Rattle.machine_model.proofs.Words.{Becomes, World, new_world, core_of, after_call, Acts, is_here, with_event, event_limit, Step}
use Rattle.machine_model.proofs.Words.{Replays}
use Rattle.machine_model.specs.declared.event.Event.{Event}
use Rattle.machine_model.specs.declared.event.Outcome.{Outcome}
use Rattle.machine_model.specs.declared.event.Outcome.TheVariants.{Stepped, Wait, Idle, Answered, Full}
use Rattle.machine_model.specs.declared.phase.Phase.TheVariants.{Free}
use Rattle.std.specs.Prelude.{◌^◌}
use Rattle.radix_range.specs.Tree.{new_tree}
use Rattle.radix_range.proofs.New.{new_tree_new}
use Rattle.machine_model.specs.declared.event.Event.TheVariants as Ev
use Rattle.machine_model.specs.Step.{Begins as BeginsBy}
use Rattle.machine_model.specs.Sound.{IsReached}
use Rattle.machine_model.proofs.SoundKept.{reached_opening, reached_step}
use Rattle.machine_model.proofs.Taking.{none_taken}
use Rattle.machine_model.specs.Alone.{IsBesideCalls, IsCalm, left_to}
use Rattle.core_steps.specs.declared.machine.Finished.{Finished}
use Rattle.core_steps.specs.declared.machine.Finished.TheVariants.{Last, Stuck}
use Rattle.core_steps.specs.Finishing.{EndsIn}
use Rattle.trace_text.proofs.LineLemmas.{line_is_said}
use Rattle.trace_text.specs.Line.{line_of, seeded}
use Rattle.trace_text.specs.declared.action.Action.{Action}
use Rattle.trace_text.specs.declared.action.Action.TheVariants as By
use Rattle.trace_text.specs.declared.line.Line.{Line}
use Rattle.trace_text.specs.declared.line.Line.TheVariants.{Blank, Space, File, Act, Fold, Finish, Now}
use Rattle.trace_words.specs.declared.declaration.FileLine.{FileLine}
use Rattle.trace_words.specs.declared.show.Show.{Show}
use Rattle.trace_words.specs.declared.show.Show.TheVariants.{Outcomes, OutcomesAndLog, Maps}
use Rattle.machine_model.specs.declared.setup.CallLimit.{CallLimit}
use Rattle.trace_words.specs.Declarations.{DeclarationView, asked_fault_within, made_by}
use Rattle.trace_words.specs.Events.{event_of}
use Rattle.trace_words.specs.OutcomeText.{outcome_text}
use Rattle.trace.specs.FinishedText.{finished_text}
use Rattle.radix_range.specs.Folds.{CanFold, FoldsNode}
use Rattle.trace.specs.Gives.{Gives, TellsFinish, TellsCall}
use Rattle.trace.specs.Stage.{Stage, Start, Declared, Running, CanOpen, Opens, LineActs, EventActs}
use Rattle.trace.specs.Runs.{Runs}
use Rattle.trace.specs.Shown.{log_at, ListsUpTo, IsBehind}
use Rattle.trace.specs.PlainText.{Open, Reached, nothing_reached, one_more, AnswersAtOnce, IsHeldUp, NowAnswers, FinishAnswers, OpenAnswers}
use Rattle.trace.specs.PlainText.{Idles, TakeAnswers, ActAnswers, MayStep, CoreMayStep, LineAnswers, Disturbs, AllAnswer, IsLogOf}
use Rattle.trace.specs.PlainText.{IsPlainBehind, with_opened}
use Rattle.trace.specs.PlainLaw.{events_at, GivesPlainText}
use Rattle.trace.proofs.Disturbing.{gives_up}
use Rattle.core_steps.proofs.Keeping.{step_grows}
use Rattle.trace.proofs.Opening.{IsDeclared, declared_so, declares_file, declares_space, few_cores, few_files}
use Rattle.trace.proofs.PlainCalls.{Meets, MeetsOpen, IsNext, beside, calm_left, call_ends, finish_free}
use Rattle.trace.proofs.PlainCalls.{meets_beside, meets_event, meets_taken, open_ends, steps_kept}

-- ---- a line of one event

-- the core takes
abbrev TakeSteps : Reached → Open → ℕ → Reached → List ℕ → Type 0
TakeSteps s o core r text =
    (r ≡ record s { waiting = Some (record o { takes = put o.takes core (pred (o.takes core)) }) }) × (text ≡ outcome_text Stepped)

may_step : (w v : World) (s : Reached) (o : Outcome) (text : List ℕ) → Meets w s → IsReached v → (o ≡ Stepped) ⊎ (o ≡ Idle) → text ≡ outcome_text o → Meets v s
    → IsNext v (λ r. MayStep s r text)
may_step w v s o text m r (inl e) t k = record { next = s; answers = (refl, inl (t ∙ ap outcome_text e)); meets = k }
may_step w v s o text m r (inr e) t k = record { next = s; answers = (refl, inr (t ∙ ap outcome_text e)); meets = k }

idle : (v : World) (s : Reached) (o : Outcome) (text : List ℕ) → o ≡ Idle → text ≡ outcome_text o → Meets v s → IsNext v (λ r. Idles s r text)
idle v s o text e t k = record { next = s; answers = (refl, t ∙ ap outcome_text e); meets = k }

-- what a core that isn't there is to do is idle
lacking : (w v : World) (core : ℕ) (e : Event) (o : Outcome) → core_of e ≡ Some core → nat_lt core w.made.cores ≡ false → w.calls.events < event_limit
    → Step w e o v → o ≡ Idle
lacking w v core e o its lacks below k =
    go (nat_lt w.calls.events event_limit) (is_here w.made (core_of e)) (grind (arith, nat_tests)) (ap (is_here w.made) its ∙ lacks) k
  where
    go : (a b : Bool) → a ≡ true → b ≡ false
        → cond a (cond b (Acts (with_event w) e o v) ((o ≡ Idle) × (v ≡ with_event w))) ((o ≡ Full) × (v ≡ w)) → o ≡ Idle
    go true false i j k = k.0
    go true true i j k = absurd cc
    go false b i j k = absurd cc

core_may_step : (w v : World) (s : Reached) (core : ℕ) (e : Event) (o : Outcome) (text : List ℕ) → core_of e ≡ Some core → Meets w s
    → w.calls.events < event_limit → Step w e o v → (o ≡ Stepped) ⊎ (o ≡ Idle) → IsReached v → text ≡ outcome_text o → Meets v s
    → IsNext v (λ r. CoreMayStep s core r text)
core_may_step w v s core e o text its m below k came r t after = go (nat_lt core w.made.cores) refl
  where
    here : (b : Bool) → nat_lt core w.made.cores ≡ b → (r : Reached) → cond b (MayStep s r text) (Idles s r text) → CoreMayStep s core r text
    here b i r h = subst (λ b. cond b (MayStep s r text) (Idles s r text)) (sym (ap (nat_lt core) m.cores ∙ i)) h

    go : (b : Bool) → nat_lt core w.made.cores ≡ b → IsNext v (λ r. CoreMayStep s core r text)
    go true i =
        let z : IsNext v (λ r. MayStep s r text) = may_step w v s o text m r came t after in
        record { next = z.next; answers = here true i z.next z.answers; meets = z.meets }
    go false i =
        let z : IsNext v (λ r. Idles s r text) = idle v s o text (lacking w v core e o its i below k) t after in
        record { next = z.next; answers = here false i z.next z.answers; meets = z.meets }

some_left : (n : ℕ) → 0 < n → nat_lt 0 n ≡ true
some_left n l = grind (arith, nat_tests)

none_left : (n : ℕ) → n ≡ 0 → nat_lt 0 n ≡ false
none_left n e = grind (arith, nat_tests)

takes : (w v : World) (s : Reached) (core : ℕ) (o : Outcome) (text : List ℕ) → Meets w s → w.calls.events < event_limit
    → Step w (Ev.Take core) o v → text ≡ outcome_text o
    → IsNext v (λ r. TakeAnswers s s.waiting core r text)
takes w v s core o text m below k t =
    let z = beside w v s (Ev.Take core) o m tt below k in
    elim z.2 [
      | inl h ↦ stepped s.waiting m.waiting z.0 z.1 h.0 h.1 h.2
      | inr h ↦ rests s.waiting m.waiting h.0 h.1 (meets_beside w v s m z.0 z.1 h.2)
    ]
  where
    stepped : (op : Option Open) → MeetsOpen w s op → IsReached v → IsBesideCalls w v → o ≡ Stepped → 0 < left_to w core
        → ((d : ℕ) → left_to v d ≡ put (left_to w) core (pred (left_to w core)) d) → IsNext v (λ r. TakeAnswers s op core r text)
    stepped None calm r b e l k = absurd (let n = calm_left w m.reached calm core in omega (arith, l, n))
    stepped (Some op) z r b e l k = record {
      next = record s { waiting = Some (record op { takes = put op.takes core (pred (op.takes core)) }) };
      answers = subst (λ b. cond b (TakeSteps s op core (record s { waiting = Some (record op { takes = put op.takes core (pred (op.takes core)) }) }) text)
          (Idles s (record s { waiting = Some (record op { takes = put op.takes core (pred (op.takes core)) }) }) text))
          (sym (some_left (op.takes core) (subst (λ n. 0 < n) (z.takes core) l))) (refl, t ∙ ap outcome_text e);
      meets = meets_taken w v s op core m z r b k;
    }

    rests : (op : Option Open) → MeetsOpen w s op → o ≡ Idle → (left_to w core ≡ 0) ⊎ (nat_lt core w.made.cores ≡ false) → Meets v s
        → IsNext v (λ r. TakeAnswers s op core r text)
    rests None calm e n k = idle v s o text e t k
    rests (Some op) z e n k = record {
      next = s;
      answers = subst (λ b. cond b (TakeSteps s op core s text) (Idles s s text)) (sym (none n)) (refl, t ∙ ap outcome_text e);
      meets = k;
    }
      where
        none : (left_to w core ≡ 0) ⊎ (nat_lt core w.made.cores ≡ false) → nat_lt 0 (op.takes core) ≡ false
        none (inl l) = none_left (op.takes core) (sym (z.takes core) ∙ l)
        none (inr a) = go (nat_lt 0 (op.takes core)) refl
          where
            go : (b : Bool) → nat_lt 0 (op.takes core) ≡ b → nat_lt 0 (op.takes core) ≡ false
            go true i = absurd (let y = z.there core (grind (arith, nat_tests)) in cc)
            go false i = i

acts : (w v : World) (s : Reached) (core : ℕ) (action : Action) (o : Outcome) (text : List ℕ) → Meets w s
    → w.calls.events < event_limit → Step w (event_of core action) o v → text ≡ outcome_text o
    → Disturbs s.waiting (Act core action) ⊎ IsNext v (λ r. ActAnswers s core action r text)
acts w v s core (By.Call request) o text m below k t = inl tt
acts w v s core By.Go o text m below k t = inl tt
acts w v s core By.Take o text m below k t = inr (takes w v s core o text m below k t)
acts w v s core (By.Frame f) o text m below k t =
    let z = beside w v s (Ev.Frame core f) o m tt below k in inr (idle v s o text z.2.0 t (meets_beside w v s m z.0 z.1 z.2.1))
acts w v s core By.GiveUp o text m below k t = elim (gives_up w s core m) [
  | inl d ↦ inl d
  | inr b ↦ let z = beside w v s (Ev.GiveUp core) o m b below k in inr (idle v s o text z.2.0 t (meets_beside w v s m z.0 z.1 z.2.1))
]
acts w v s core By.Flush o text m below k t =
    let z = beside w v s (Ev.Flush core) o m tt below k in
    inr (core_may_step w v s core (Ev.Flush core) o text refl m below k z.2.0 z.0 t (meets_beside w v s m z.0 z.1 z.2.1))
acts w v s core By.Review o text m below k t =
    let z = beside w v s (Ev.Review core) o m tt below k in
    inr (core_may_step w v s core (Ev.Review core) o text refl m below k z.2.0 z.0 t (meets_beside w v s m z.0 z.1 z.2.1))
acts w v s core (By.Guess p) o text m below k t =
    let z = beside w v s (Ev.Guess core p) o m tt below k in inr (idle v s o text z.2.0 t (meets_beside w v s m z.0 z.1 z.2.1))
acts w v s core By.Whole o text m below k t =
    let z = beside w v s (Ev.Whole core) o m tt below k in inr (idle v s o text z.2.0 t (meets_beside w v s m z.0 z.1 z.2.1))
acts w v s core (By.Walk p) o text m below k t =
    let z = beside w v s (Ev.Walk core p) o m tt below k in
    inr (core_may_step w v s core (Ev.Walk core p) o text refl m below k z.2.0 z.0 t (meets_beside w v s m z.0 z.1 z.2.1))
acts w v s core (By.Evict p) o text m below k t =
    let z = beside w v s (Ev.Evict core p) o m tt below k in
    inr (core_may_step w v s core (Ev.Evict core p) o text refl m below k z.2.0 z.0 t (meets_beside w v s m z.0 z.1 z.2.1))

folds : (w v : World) (s : Reached) (p : ℕ) (o : Outcome) (text : List ℕ) → Meets w s → w.calls.events < event_limit
    → Step w (Ev.Fold p) o v → text ≡ outcome_text o
    → IsNext v (λ r. MayStep s r text)
folds w v s p o text m below k t =
    let z = beside w v s (Ev.Fold p) o m tt below k in may_step w v s o text m z.0 z.2.0 t (meets_beside w v s m z.0 z.1 z.2.1)

-- ---- a line that finishes a call

finishes : (w : World) (core n : ℕ) (f : Finished) (v : World) (s : Reached) (text : List ℕ) → Meets w s → w.calls.events < event_limit
    → v.calls.events < event_limit
    → EndsIn w core n f v → text ≡ finished_text f → IsNext v (λ r. FinishAnswers s s.waiting core r text)
finishes w core n f v s text m low below h t = go s.waiting m.waiting
  where
    free : w.calls.phase core ≡ Free → IsNext v (λ r. Idles s r text)
    free e = let z = finish_free w core n f v s text m e low h t in record { next = s; answers = (refl, z.0); meets = z.1 }

    go : (op : Option Open) → MeetsOpen w s op → IsNext v (λ r. FinishAnswers s op core r text)
    go None calm = free (calm core)
    go (Some op) z = its (core == op.core) refl
      where
        its : (b : Bool) → (core == op.core) ≡ b → IsNext v (λ r. cond b (OpenAnswers s op r text) (Idles s r text))
        its true e = open_ends w n f v s op text m z below (subst (λ c. EndsIn w c n f v) (eq_true core op.core e) h) t
        its false e = free (z.waiting.others core (eq_false core op.core e))

-- ---- a line with a call

-- what a Call comes to where no core has a call
pub data Begins (w : World) (core : ℕ) (request : Request) (o : Outcome) (m : World) : Type 0 where
  lacks : nat_lt core w.made.cores ≡ false → o ≡ Idle → m ≡ with_event w → Begins w core request o m
  fills : nat_lt core w.made.cores ≡ true → nat_lt (length w.calls.requests) w.made.calls ≡ false → o ≡ Full → m ≡ with_event w → Begins w core request o m
  starts : nat_lt core w.made.cores ≡ true → nat_lt (length w.calls.requests) w.made.calls ≡ true → o ≡ Stepped
      → m ≡ after_call core request (with_event w) → Begins w core request o m

begins : (w : World) (core : ℕ) (request : Request) (o : Outcome) (m : World) → w.calls.phase core ≡ Free → w.calls.events < event_limit
    → Step w (Ev.Call core request) o m → Begins w core request o m
begins w core request o m free below s = go (nat_lt w.calls.events event_limit) (nat_lt core w.made.cores) (grind (arith, nat_tests)) refl s
  where
    may : (b : Bool) → nat_lt (length w.calls.requests) w.made.calls ≡ b → nat_lt core w.made.cores ≡ true
        → cond b (Becomes (after_call core request (with_event w)) o m) ((o ≡ Full) × (m ≡ with_event w)) → Begins w core request o m
    may true e inside k = starts inside e k.0 k.1
    may false e inside k = fills inside e k.0 k.1

    go : (a b : Bool) → a ≡ true → nat_lt core w.made.cores ≡ b
        → cond a (cond b (Acts (with_event w) (Ev.Call core request) o m) ((o ≡ Idle) × (m ≡ with_event w))) ((o ≡ Full) × (m ≡ w))
        → Begins w core request o m
    go true true e i k = may (nat_lt (length w.calls.requests) w.made.calls) refl i (subst (λ phase. BeginsBy (with_event w) core request phase o m) free k)
    go true false e i k = lacks i k.0 k.1
    go false b e i k = absurd cc

-- a test of two numbers that are others by another name
by_name : (a b c d : ℕ) (x : Bool) → a ≡ b → c ≡ d → nat_lt b d ≡ x → nat_lt a c ≡ x
by_name a b c d x e f h = ap (λ n. nat_lt n c) e ∙ ap (nat_lt b) f ∙ h

-- what the line gives where the core is there, and a call may begin
abbrev CallGives : Reached → ℕ → Request → Reached → List ℕ → Type 0
CallGives s core request r text = AnswersAtOnce (one_more s request) core request r text ⊎ IsHeldUp (one_more s request) core request r text

by_tests : (w : World) (s : Reached) (core : ℕ) (request : Request) (r : Reached) (text : List ℕ) (x y : Bool) → Meets w s → nat_lt core w.made.cores ≡ x
    → nat_lt (length w.calls.requests) w.made.calls ≡ y
    → cond x (cond y (CallGives s core request r text) ((r ≡ s) × (text ≡ outcome_text Full))) ((r ≡ s) × (text ≡ outcome_text Idle))
    → NowAnswers s core request r text
by_tests w s core request r text x y m i j h =
    subst (λ x. cond x (cond (nat_lt (length s.requests) s.calls) (CallGives s core request r text) ((r ≡ s) × (text ≡ outcome_text Full))) ((r ≡ s)
    × (text ≡ outcome_text Idle)))
    (sym (by_name core core s.cores w.made.cores x refl m.cores i))
    (subst (λ y. cond x (cond y (CallGives s core request r text) ((r ≡ s) × (text ≡ outcome_text Full))) ((r ≡ s) × (text ≡ outcome_text Idle)))
    (sym (by_name (length s.requests) (length w.calls.requests) s.calls w.made.calls y (ap length m.requests) m.calls j)) h)

stands_still : (w x v : World) (s : Reached) (core : ℕ) (request : Request) (o : Outcome) → Meets w s → Step w (Ev.Call core request) o x
    → x ≡ with_event w → v ≡ x
    → Meets v s
stands_still w x v s core request o m step e same =
    let f : IsReached x = reached_step w x (Ev.Call core request) o m.reached step in
    subst (λ v. Meets v s) (sym (same ∙ e)) (meets_event w s m (subst IsReached e f))

-- no call began: only an event was counted
told_one : (w x v : World) (s : Reached) (core : ℕ) (request : Request) (o : Outcome) (text : List ℕ) → Meets w s → Step w (Ev.Call core request) o x
    → o ≢ Stepped → Begins w core request o x → v ≡ x → text ≡ outcome_text o → IsNext v (λ r. NowAnswers s core request r text)
told_one w x v s core request o text m step not b same t = elim b [
  | lacks i e is ↦ record {
    next = s;
    answers = by_tests w s core request s text false (nat_lt (length w.calls.requests) w.made.calls) m i refl (refl, t ∙ ap outcome_text e);
    meets = stands_still w x v s core request o m step is same;
  }
  | fills i j e is ↦ record {
    next = s;
    answers = by_tests w s core request s text true false m i j (refl, t ∙ ap outcome_text e);
    meets = stands_still w x v s core request o m step is same;
  }
  | starts i j e is ↦ absurd (not e)
]

told_call : (w x v : World) (s : Reached) (core : ℕ) (request : Request) (text : List ℕ) → Meets w s → IsCalm w → Step w (Ev.Call core request) Stepped x
    → Begins w core request Stepped x → v.calls.events < event_limit → TellsFinish x core v text → IsNext v (λ r. NowAnswers s core request r text)
told_call w x v s core request text m calm step b below h = elim b [
  | lacks i e is ↦ absurd cc
  | fills i j e is ↦ absurd cc
  | starts i j e is ↦
      let d = call_ends w x core h.1.0 request h.0 v s text m calm step (ap (λ (v : World). v.made) is)
      (ap (λ (v : World). v.calls.requests) is) (ap (λ (v : World). v.calls.log) is) below h.1.1 h.2 in
      record { next = d.next; answers = by_tests w s core request d.next text true true m i j d.answers; meets = d.meets }
]

told : (w x v : World) (s : Reached) (core : ℕ) (request : Request) (o : Outcome) (text : List ℕ) → Meets w s → IsCalm w → w.calls.events < event_limit
    → v.calls.events < event_limit → Step w (Ev.Call core request) o x → TellsCall x core o v text → IsNext v (λ r. NowAnswers s core request r text)
told w x v s core request Stepped text m calm low below step h = told_call w x v s core request text m calm step
    (begins w core request Stepped x (calm core) low step) below h
told w x v s core request (Wait b) text m calm low below step h = told_one w x v s core request (Wait b) text m step (λ e. cc)
    (begins w core request (Wait b) x (calm core) low step) h.0 h.1
told w x v s core request Idle text m calm low below step h = told_one w x v s core request Idle text m step (λ e. cc)
    (begins w core request Idle x (calm core) low step) h.0 h.1
told w x v s core request (Answered r) text m calm low below step h = told_one w x v s core request (Answered r) text m step (λ e. cc)
    (begins w core request (Answered r) x (calm core) low step) h.0 h.1
told w x v s core request Full text m calm low below step h = told_one w x v s core request Full text m step (λ e. cc)
    (begins w core request Full x (calm core) low step) h.0 h.1

-- ---- events only rise

finish_grows : (m : World) (core n : ℕ) (f : Finished) (v : World) → EndsIn m core n f v → m.calls.events ≤ v.calls.events
finish_grows m core n (Last o) v h = let a = (steps_kept n core m h.2.0 h.2.1).2 in let b = step_grows h.2.0 (Ev.Go core) o v h.2.2 in omega (arith, a, b)
finish_grows m core n Stuck v h = (steps_kept n core m v h.1).2

same_events : (m v : World) → v ≡ m → m.calls.events ≤ v.calls.events
same_events m v e = let h : v.calls.events ≡ m.calls.events = ap (λ (v : World). v.calls.events) e in omega (arith, h)

goes_grows : (m : World) (core : ℕ) (o : Outcome) (v : World) (text : List ℕ) → TellsCall m core o v text → m.calls.events ≤ v.calls.events
goes_grows m core Stepped v text h = finish_grows m core h.1.0 h.0 v h.1.1
goes_grows m core (Wait b) v text h = same_events m v h.0
goes_grows m core Idle v text h = same_events m v h.0
goes_grows m core (Answered r) v text h = same_events m v h.0
goes_grows m core Full v text h = same_events m v h.0

gives_grows : (w : World) (line : Line) (v : World) (text : List ℕ) → Gives CanFold FoldsNode w line v text → w.calls.events ≤ v.calls.events
gives_grows w Blank v text h = absurd h
gives_grows w (Space cores frames calls) v text h = absurd h
gives_grows w (File n mode len seed) v text h = absurd h
gives_grows w (Act core action) v text h = step_grows w (event_of core action) h.0 v h.1
gives_grows w (Fold page) v text h = step_grows w (Ev.Fold page) h.0 v h.1
gives_grows w (Finish core) v text h = finish_grows w core h.1.0 h.0 v h.1.1
gives_grows w (Now core request) v text h =
    let a = step_grows w (Ev.Call core request) h.0 h.1 h.2 in let b = goes_grows h.1 core h.0 v text h.3 in omega (arith, a, b)

opens_grows : (s : Stage) (w : World) → Opens s w → events_at s ≤ w.calls.events
opens_grows (Start limit) w o = absurd o
opens_grows (Declared limit s) w o = omega arith
opens_grows (Running m) w o = let h : w.calls.events ≡ m.calls.events = ap (λ (w : World). w.calls.events) o in omega (arith, h)

event_grows : (line : Line) (old new : Stage) (text : List ℕ) → EventActs old line new text → events_at old ≤ events_at new
event_grows line old new text (w, v, opens, gives, is) =
    let a = opens_grows old w opens in
    let b = gives_grows w line v text gives in
    let c : events_at new ≡ v.calls.events = ap events_at is in
    omega (arith, a, b, c)

line_grows : (line : Line) (old new : Stage) (text : List ℕ) → LineActs old line new text → events_at old ≤ events_at new
line_grows Blank old new text a = let h : events_at new ≡ events_at old = ap events_at a.0 in omega (arith, h)
line_grows (Space cores frames calls) old new text a = let h : events_at old ≡ 0 = ap events_at a.1 in omega (arith, h)
line_grows (File n mode len seed) old new text a = let h : events_at old ≡ 0 = ap events_at a.2 in omega (arith, h)
line_grows (Act core action) old new text a = event_grows (Act core action) old new text a
line_grows (Fold page) old new text a = event_grows (Fold page) old new text a
line_grows (Finish core) old new text a = event_grows (Finish core) old new text a
line_grows (Now core request) old new text a = event_grows (Now core request) old new text a

some_grows : (line : Option Line) (old new : Stage) (text : List ℕ) → IsSomeAnd line (λ l. LineActs old l new text) → events_at old ≤ events_at new
some_grows None old new text a = absurd a
some_grows (Some line) old new text a = line_grows line old new text a

lines_grow : (lines : List (List ℕ)) (old new : Stage) (text : List ℕ) → Runs old lines new text → events_at old ≤ events_at new
lines_grow [] old new text r = let h : events_at new ≡ events_at old = ap events_at r.0 in omega (arith, h)
lines_grow (l ∷ ls) old new text (mid, front, rest, short, acts, more, is) =
    let a = some_grows (line_of l) old mid front acts.acts in let b = lines_grow ls mid new rest more in omega (arith, a, b)

-- ---- stages

abbrev pub ReachedAt : Stage → Reached → Type 0
ReachedAt (Start limit) s = s ≡ nothing_reached
ReachedAt (Declared limit a) s = IsDeclared a s
ReachedAt (Running w) s = Meets w s

meets_opening : (a : DeclarationView) (slots : Slots) (s : Reached) → a.cores ≤ 64 → IsNew slots → s ≡ declared_so a → Meets (new_world (made_by a) slots) s
meets_opening a slots s few new e = subst (Meets (new_world (made_by a) slots)) (sym e) (record {
  reached = reached_opening (made_by a) slots few new;
  cores = refl;
  calls = refl;
  files = refl;
  requests = refl;
  replies = refl;
  log = refl;
  frames = refl;
  taken = let z = none_taken (λ f. nat_lt f a.frames) a.frames (λ j l. grind (arith, nat_tests)) in omega (arith, z);
  users = fun_ext (λ p. fun_ext (λ c. ap (λ o. is_recorded o c) (new.unmapped p)));
  waiting = λ c. refl;
})

opened : (old : Stage) (w : World) (s : Reached) → ReachedAt old s → Opens old w → Meets w s
opened (Start limit) w s r o = absurd o
opened (Declared limit a) w s r o =
    subst (λ w. Meets w s) (sym o.1) (meets_opening a new_tree s (few_cores limit a o.0) new_tree_new (r (few_files limit a o.0)).1)
opened (Running m) w s r o = subst (λ w. Meets w s) (sym o) r

-- ---- a line

pub record IsPlain (line : Line) (new : Stage) (s : Reached) (text : List ℕ) : Type 0 where
  pub next : Reached
  pub answers : LineAnswers s line next text
  pub reached : ReachedAt new next

is_running : (new : Stage) (v : World) (s : Reached) → new ≡ Running v → Meets v s → ReachedAt new s
is_running new v s e m = subst (λ x. ReachedAt x s) (sym e) m

plain_next : (line : Line) (new : Stage) (v : World) (s : Reached) (text : List ℕ) → new ≡ Running v
    → IsNext v (λ r. LineAnswers s line r text) → IsPlain line new s text
plain_next line new v s text e k = record { next = k.next; answers = k.answers; reached = is_running new v k.next e k.meets }

line_plain : (line : Line) (old new : Stage) (s : Reached) (text : List ℕ) → events_at new < event_limit → ReachedAt old s
    → LineActs old line new text → Disturbs s.waiting line ⊎ IsPlain line new s text
line_plain Blank old new s text below r a = inr (record { next = s; answers = (refl, a.1); reached = subst (λ x. ReachedAt x s) (sym a.0) r })
line_plain (Space cores frames calls) old new s text below r a =
    let first : s ≡ nothing_reached = subst (λ x. ReachedAt x s) a.1 r in
    inr (record {
      next = record s { cores = cores; frames = frames; calls = calls };
      answers = (refl, a.3);
      reached = subst (λ x. ReachedAt x (record s { cores = cores; frames = frames; calls = calls })) (sym a.2)
          (declares_space cores frames calls s first);
    })
line_plain (File n mode len seed) old new s text below r (limit, a, is, next, now, t) =
    let file : FileLine = record { mode = mode; len = len; seed = seed } in
    inr (record {
      next = with_opened s n (file_with mode (seeded len seed));
      answers = (refl, t);
      reached = subst (λ x. ReachedAt x (with_opened s n (file_with mode (seeded len seed)))) (sym now)
          (declares_file a n file s next (subst (λ x. ReachedAt x s) is r));
    })
line_plain (Act core action) old new s text below r (w, v, opens, gives, is) =
    let top : events_at new ≡ v.calls.events = ap events_at is in
    let up = gives_grows w (Act core action) v text gives in
    elim (acts w v s core action gives.0 text (opened old w s r opens) (omega (arith, top, up, below)) gives.1 gives.2) [
      | inl d ↦ inl d
      | inr k ↦ inr (plain_next (Act core action) new v s text is k)
    ]
line_plain (Fold page) old new s text below r (w, v, opens, gives, is) =
    let top : events_at new ≡ v.calls.events = ap events_at is in
    let up = gives_grows w (Fold page) v text gives in
    inr (plain_next (Fold page) new v s text is (folds w v s page gives.0 text (opened old w s r opens) (omega (arith, top, up, below)) gives.1 gives.2))
line_plain (Finish core) old new s text below r (w, v, opens, gives, is) =
    let top : events_at new ≡ v.calls.events = ap events_at is in
    let up = gives_grows w (Finish core) v text gives in
    inr (plain_next (Finish core) new v s text is
    (finishes w core gives.1.0 gives.0 v s text (opened old w s r opens) (omega (arith, top, up, below)) (omega (arith, top, below)) gives.1.1 gives.2))
line_plain (Now core request) old new s text below r (w, v, opens, gives, is) = go s.waiting refl (opened old w s r opens).waiting
  where
    go : (op : Option Open) → s.waiting ≡ op → MeetsOpen w s op → Disturbs op (Now core request) ⊎ IsPlain (Now core request) new s text
    go (Some op) e k = inl tt
    go None e calm =
        let top : events_at new ≡ v.calls.events = ap events_at is in
        let up = gives_grows w (Now core request) v text gives in
        inr (plain_next (Now core request) new v s text is
        (told w gives.1 v s core request gives.0 text (opened old w s r opens) calm (omega (arith, top, up, below))
        (omega (arith, top, below)) gives.2 gives.3))

-- ---- lines

all_plain : (End : Reached → Type 0) (lines : List (List ℕ)) (old new : Stage) (s : Reached) (text : List ℕ)
    → events_at new < event_limit → ((r : Reached) → ReachedAt new r → End r) → ReachedAt old s
    → Runs old lines new text → AllAnswer End s lines text
all_plain End [] old new s text below ends r h = (h.1, ends s (subst (λ x. ReachedAt x s) (sym h.0) r))
all_plain End (l ∷ ls) old new s text below ends r (mid, front, rest, short, acts, more, is) =
    said (λ next reached. all_plain End ls mid new next rest below ends reached more) (line_of l) refl acts.acts
  where
    said : ((next : Reached) → ReachedAt mid next → AllAnswer End next ls rest) → (o : Option Line) → line_of l ≡ o
        → IsSomeAnd o (λ line. LineActs old line mid front) → AllAnswer End s (l ∷ ls) text
    said later None e a = absurd a
    said later (Some line) e a =
        let up = lines_grow ls mid new rest more in
        (line, line_is_said l line e, go (line_plain line old mid s front (omega (arith, up, below)) r a))
      where
        go : Disturbs s.waiting line ⊎ IsPlain line mid s front → Disturbs s.waiting line
            ⊎ ((r : Reached) × (front : List ℕ) × (rest : List ℕ) × (text ≡ front ++ rest) × LineAnswers s line r front × AllAnswer End r ls rest)
        go (inl over) = inl over
        go (inr k) = inr (k.next, front, rest, is, k.answers, later k.next k.reached)

-- ---- behind the lines

declared_at : (limit : CallLimit) (a : DeclarationView) (r : Reached) → asked_fault_within limit a ≡ None → IsDeclared a r → r ≡ declared_so a
declared_at limit a r none at = (at (few_files limit a none)).1

log_of : (stage : Stage) (r : Reached) → CanOpen stage → ReachedAt stage r → IsLogOf r (log_at stage)
log_of (Start limit) r o at = absurd o
log_of (Declared limit a) r o at = subst (λ r. IsLogOf r []) (sym (declared_at limit a r o at)) (record { replies = refl; legal = refl })
log_of (Running w) r o m = record {
  replies = m.replies;
  legal = subst (λ qs. Replays qs (nothing_mapped r.files) w.calls.log r.plain) (sym m.requests)
      (subst (λ f. Replays w.calls.requests (nothing_mapped f) w.calls.log r.plain) (sym m.files) m.log);
}

maps_of : (stage : Stage) (r : Reached) (lines : List MapLine) → CanOpen stage → ReachedAt stage r → ListsUpTo stage (2 ^ 35) lines
    → IsMapList (plain_metas r.plain) lines
maps_of (Start limit) r lines o at k = absurd o
maps_of (Declared limit a) r lines o at k = subst (λ ls. IsMapList (plain_metas r.plain) ls) (sym k)
    (subst (λ (r : Reached). IsMapList (plain_metas r.plain) []) (sym (declared_at limit a r o at)) (λ p low high. refl))
maps_of (Running w) r lines o m k = k r.plain m.log

plain_behind : (show : Show) (stage : Stage) (behind : List ℕ) (r : Reached) → CanOpen stage → IsBehind show stage behind → ReachedAt stage r
    → IsPlainBehind show (log_at stage) behind r
plain_behind Outcomes stage behind r o is at = is
plain_behind OutcomesAndLog stage behind r o is at = (is, log_of stage r o at)
plain_behind Maps stage behind r o is at = (is.0, maps_of stage r is.0 o at is.1, is.2)

pub traces_plain : (limit : CallLimit) (show : Show) (lines : List (List ℕ)) (stage : Stage) (text behind : List ℕ)
    → Runs (Start limit) lines stage text → CanOpen stage
    → IsBehind show stage behind → GivesPlainText show lines stage text behind
traces_plain limit show lines stage text behind runs opens is below =
    all_plain (IsPlainBehind show (log_at stage) behind) lines (Start limit) stage nothing_reached text below
    (λ r at. plain_behind show stage behind r opens is at) refl runs
