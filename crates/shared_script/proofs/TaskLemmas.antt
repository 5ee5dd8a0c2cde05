-- What a core does of a script, task by task
use Rattle.std.proofs.Common.{◌≡◌, ◌≢◌, inl, inr, ⊎_elim, ℕ, ◌+◌, ◌<◌, List, [], ◌∷◌, ◌++◌, take, drop, length, map, get_or, refl, sym, ap, ◌∙◌, subst}
use Rattle.std.proofs.Common.{append-nil}
use Rattle.std.proofs.lemmas.List.{append_assoc, map-append, take_more, take-append-drop}
use Rattle.vm_base.specs.declared.requests.Request.{Request}
use Rattle.vm_base.specs.declared.replies.Reply.{Reply}
use Rattle.machine_model.specs.World.{World}
use Rattle.trace_words.specs.declared.script.Task.{Task}
use Rattle.trace_words.specs.declared.script.Task.TheVariants.{Call, Flush, Review}
use Rattle.machine_model.specs.declared.event.Outcome.{Outcome}
use Rattle.machine_model.specs.declared.event.Outcome.TheVariants.{Full}
use Rattle.shared.specs.declared.asides.Aside.{Aside}
use Rattle.shared.specs.declared.asides.Aside.TheVariants as Does
use Rattle.shared.specs.declared.history.Turn.{Turn}
use Rattle.shared.specs.declared.history.Replied.{Replied}
use Rattle.machine_model.specs.Alone.{IsCalm}
use Rattle.shared.specs.Turns.{AreInOrder, Leads, NoneOf, left_by, turn}
use Rattle.std.proofs.Math.Logic.{∥∥₁_elim}
use Rattle.std.proofs.Props.{props}
use Rattle.machine_model.proofs.SoundKept.{steps_sound}
use Rattle.machine_model.specs.Possible.{IsFull as IsFullAt}
use Rattle.shared.specs.declared.space.Answer.TheVariants as Answer
use Rattle.shared.specs.Cores.{Answers, CoreView, FindsOver, HasTurn, MadeAside}
use Rattle.shared.specs.Histories.{IsFull, IsOver, StepsAside, event_of, logged, replied}
use Rattle.shared_script.specs.declared.fault.SharedFault.{SharedFault}
use Rattle.shared_script.specs.declared.fault.SharedFault.TheVariants as Stopped
use Rattle.trace_words.specs.declared.fault.TraceFault.TheVariants.{NoMemory}
use Rattle.shared_script.specs.declared.fault.SharedFault.TheVariants.{Text}
use Rattle.shared_script.specs.Tasks.{DidTasks, DoesTasks, FindsFull, HasDone, IsMade, IsTask, IsTooFull, StopsAt, calls_of}

calls_append : (ts us : List Task) → calls_of (ts ++ us) ≡ calls_of ts ++ calls_of us
calls_append [] us = refl
calls_append (Call request ∷ ts) us = ap (λ l. request ∷ l) (calls_append ts us)
calls_append (Flush ∷ ts) us = calls_append ts us
calls_append (Review ∷ ts) us = calls_append ts us

-- an aside is full at the limit of events alone
over : (x : World) (core : ℕ) (aside : Aside) → IsFullAt x (event_of core aside) → IsOver x
over x core (Does.Walk page) f = ⊎_elim (λ o. o) absurd f
over x core (Does.Evict page) f = ⊎_elim (λ o. o) absurd f
over x core Does.Flush f = ⊎_elim (λ o. o) absurd f
over x core Does.Review f = ⊎_elim (λ o. o) absurd f
over x core (Does.Fold page) f = ⊎_elim (λ o. o) absurd f

-- a machine at its limit of events can do no task
over_full : (x : World) (core : ℕ) (task : Task) → IsOver x → IsTooFull x core task
over_full x core (Call request) o = inl o
over_full x core Flush o = o
over_full x core Review o = o

-- ---- turns

module _ {S : Type 0} (state : S → World) (core : ℕ) where
  -- the turns of others did nothing of the core's
  others_none : (first : List S) (ts : List (Turn S)) → AreInOrder state first ts → NoneOf core ts → DidTasks state core first ts []
  others_none first [] o n = refl
  others_none [] (t ∷ ts) o n = absurd o
  others_none (x ∷ xs) (t ∷ ts) o n = inr (n.0, others_none (t.machine ∷ []) ts o.1 n.1)

  pub did_still : (first : List S) (ts rest : List (Turn S)) (tasks : List Task) → AreInOrder state first (ts ++ rest) → NoneOf core rest
      → DidTasks state core first ts tasks → DidTasks state core first (ts ++ rest) tasks
  did_still first [] rest tasks o n d = subst (DidTasks state core first rest) (sym d) (others_none first rest o n)
  did_still [] (t ∷ ts) rest tasks o n d = absurd o
  did_still (x ∷ xs) (t ∷ ts) rest tasks o n (inl d) =
      inl (d.0, d.1, d.2, d.3, d.4, did_still (t.machine ∷ []) ts rest d.2 o.1 n d.5)
  did_still (x ∷ xs) (t ∷ ts) rest tasks o n (inr d) = inr (d.0, did_still (t.machine ∷ []) ts rest tasks o.1 n d.1)

  -- and the next turn of the core did the next task
  did_more : (first : List S) (ts : List (Turn S)) (tasks : List Task) (task : Task) (x y : S) → left_by first ts ≡ x ∷ []
      → IsTask (state x) core task (state y) → DidTasks state core first ts tasks → DidTasks state core first (ts ++ turn core y ∷ []) (tasks ++ task ∷ [])
  did_more [] [] tasks task x y e k d = absurd cc
  did_more (z ∷ zs) [] tasks task x y e k d =
      let same : x ≡ z = cc in
      inl (refl, task, [], ap (λ l. l ++ task ∷ []) d, subst (λ (z : S). IsTask (state z) core task (state y)) same k, refl)
  did_more [] (t ∷ ts) tasks task x y e k d = absurd d
  did_more (z ∷ zs) (t ∷ ts) tasks task x y e k (inl d) =
      inl (d.0, d.1, d.2 ++ task ∷ [], ap (λ l. l ++ task ∷ []) d.3, d.4, did_more (t.machine ∷ []) ts d.2 task x y e k d.5)
  did_more (z ∷ zs) (t ∷ ts) tasks task x y e k (inr d) = inr (d.0, did_more (t.machine ∷ []) ts tasks task x y e k d.1)

-- the same turns of a machine's states
module _ {S : Type 0} (state : S → World) where
  abbrev pub as_worlds : List (Turn S) → List (Turn World)
  as_worlds [] = []
  as_worlds (t ∷ ts) = turn t.core (state t.machine) ∷ as_worlds ts

  pub did_worlds : (core : ℕ) (first : List S) (ts : List (Turn S)) (tasks : List Task) → DidTasks state core first ts tasks
      → DidTasks (λ w. w) core (map state first) (as_worlds ts) tasks
  did_worlds core first [] tasks d = d
  did_worlds core [] (t ∷ ts) tasks d = absurd d
  did_worlds core (x ∷ xs) (t ∷ ts) tasks (inl d) = inl (d.0, d.1, d.2, d.3, d.4, did_worlds core (t.machine ∷ []) ts d.2 d.5)
  did_worlds core (x ∷ xs) (t ∷ ts) tasks (inr d) = inr (d.0, did_worlds core (t.machine ∷ []) ts tasks d.1)

  pub order_worlds : (first : List S) (ts : List (Turn S)) → AreInOrder state first ts → AreInOrder (λ w. w) (map state first) (as_worlds ts)
  order_worlds first [] o = tt
  order_worlds [] (t ∷ ts) o = absurd o
  order_worlds (x ∷ xs) (t ∷ ts) o =
      (record { legal = o.0.legal; made = o.0.made; adds = o.0.adds }, order_worlds (t.machine ∷ []) ts o.1)

  pub done_worlds : (core : ℕ) (first : List S) (ts : List (Turn S)) (tasks : List Task) → HasDone state core first ts tasks
      → HasDone (λ w. w) core (map state first) (as_worlds ts) tasks
  done_worlds core first ts tasks h = record { order = order_worlds first ts h.order; did = did_worlds core first ts tasks h.did }

  pub left_worlds : (first : List S) (ts : List (Turn S)) (x : S) → left_by first ts ≡ x ∷ [] → left_by (map state first) (as_worlds ts) ≡ state x ∷ []
  left_worlds first [] x e = ap (map state) e
  left_worlds first (t ∷ ts) x e = left_worlds (t.machine ∷ []) ts x e

  pub full_worlds : (core : ℕ) (first : List S) (tasks : List Task) → FindsFull state core first tasks → FindsFull (λ w. w) core (map state first) tasks
  full_worlds core first tasks s = record {
    done = s.done;
    next = s.next;
    rest = s.rest;
    are = s.are;
    turns = as_worlds s.turns;
    does = done_worlds core first s.turns s.done s.does;
    machine = state s.machine;
    left = left_worlds first s.turns s.machine s.left;
    full = s.full;
  }

module _ {S : Type 0} where
  pub none_made : (v : CoreView S) (kept : List Replied) → IsMade v kept [] v kept
  none_made v kept = record { told = []; asked = refl; kept = sym (append-nil kept); mine = sym (append-nil v.mine); same = refl }

  pub none_did : (state : S → World) (v : CoreView S) → DoesTasks state v [] v
  none_did state v done d = subst (HasDone state v.core v.first v.turns) (sym (append-nil done)) d

  -- the turns before the last
  front : (state : S → World) (first : List S) (ts : List (Turn S)) (t : Turn S) → AreInOrder state first (ts ++ t ∷ []) → AreInOrder state first ts
  front state first [] t o = tt
  front state [] (s ∷ ts) t o = absurd o
  front state (x ∷ xs) (s ∷ ts) t o = (o.0, front state (s.machine ∷ []) ts t o.1)

  -- before a turn of the core others had theirs
  waited_did : (state : S → World) (v w : CoreView S) (added : List Replied) (Do : World → World → Type 0) (h : HasTurn state v added Do w)
      (done : List Task) → HasDone state v.core v.first v.turns done → HasDone state v.core v.first (v.turns ++ h.between) done
  waited_did state v w added Do h done d =
      let order = front state v.first (v.turns ++ h.between) (turn v.core h.after) (subst (AreInOrder state v.first) h.turns h.order) in
      record { order = order; did = did_still state v.core v.first v.turns h.between done order h.others d.did }

  -- a turn did a task
  turn_did : (state : S → World) (v w : CoreView S) (added : List Replied) (Do : World → World → Type 0) (task : Task) (h : HasTurn state v added Do w)
      → IsTask (state h.before) v.core task (state h.after) → DoesTasks state v (task ∷ []) w
  turn_did state v w added Do task h is done d = record {
    order = h.order;
    did = subst (λ ts. DidTasks state v.core v.first ts (done ++ task ∷ [])) (sym h.turns)
        (did_more state v.core v.first (v.turns ++ h.between) done task h.before h.after h.begun is (waited_did state v w added Do h done d).did);
  }

  pub one_made : (state : S → World) (v w : CoreView S) (before after : List Replied) (request : Request) (reply : Reply)
      → HasTurn state v (replied request reply ∷ []) (λ x y. Unit {0}) w → after ≡ before ++ replied request reply ∷ [] → IsMade v before (request ∷ []) w after
  one_made state v w before after request reply x e =
      record { told = replied request reply ∷ []; asked = refl; kept = e; mine = x.mine; same = x.same }

  pub one_did : (state : S → World) (v w : CoreView S) (request : Request) (reply : Reply)
      → HasTurn state v (replied request reply ∷ []) (λ x y. Unit {0}) w → DoesTasks state v (Call request ∷ []) w
  one_did state v w request reply h = turn_did state v w (replied request reply ∷ []) (λ x y. Unit {0}) (Call request) h (reply, h.adds)

  -- an aside is no call
  pub aside_made : (state : S → World) (v w : CoreView S) (kept : List Replied) (aside : Aside) (outcome : Outcome) → outcome ≢ Full
      → MadeAside state v aside outcome w → IsMade v kept [] w kept
  aside_made state v w kept aside outcome ne (inl h) = record { told = []; asked = refl; kept = sym (append-nil kept); mine = h.mine; same = h.same }
  aside_made state v w kept aside outcome ne (inr h) = absurd (ne h.0)

  pub flush_did : (state : S → World) (v w : CoreView S) → (outcome : Outcome) × (outcome ≢ Full) × MadeAside state v Does.Flush outcome w
      → DoesTasks state v (Flush ∷ []) w
  flush_did state v w (outcome, ne, inl h) = turn_did state v w [] _ Flush h (outcome, ne, h.does.0)
  flush_did state v w (outcome, ne, inr h) = absurd (ne h.0)

  pub review_did : (state : S → World) (v w : CoreView S) → (outcome : Outcome) × (outcome ≢ Full) × MadeAside state v Does.Review outcome w
      → DoesTasks state v (Review ∷ []) w
  review_did state v w (outcome, ne, inl h) = turn_did state v w [] _ Review h (outcome, ne, h.does.0)
  review_did state v w (outcome, ne, inr h) = absurd (ne h.0)

  -- ---- limits

  -- the last of some turns leads on from where the one before left the machine
  last_leads : (state : S → World) (first : List S) (ts : List (Turn S)) (t : Turn S) (x : S) → AreInOrder state first (ts ++ t ∷ [])
      → left_by first ts ≡ x ∷ [] → Leads (λ w. w) (state x) t.core (state t.machine)
  last_leads state [] [] t x o e = absurd o
  last_leads state (y ∷ ys) [] t x o e =
      let same : y ≡ x = cc in
      subst (λ (z : S). Leads (λ w. w) (state z) t.core (state t.machine)) same
      (record { legal = o.0.legal; made = o.0.made; adds = o.0.adds })
  last_leads state [] (s ∷ ts) t x o e = absurd o
  last_leads state (y ∷ ys) (s ∷ ts) t x o e = last_leads state (s.machine ∷ []) ts t x o.1 e

  over_stops : (state : S → World) (v w : CoreView S) (task : Task) → FindsOver state v w → StopsAt state v (task ∷ []) Stopped.Full
  over_stops state v w task h done d = record {
    done = done;
    next = task;
    rest = [];
    are = refl;
    turns = v.turns ++ h.between;
    does = record { order = h.order; did = did_still state v.core v.first v.turns h.between done h.order h.others d.did };
    machine = h.machine;
    left = h.here;
    full = over_full (state h.machine) v.core task h.over;
  }

  turn_stops : (state : S → World) (v w : CoreView S) (added : List Replied) (Do : World → World → Type 0) (task : Task) (h : HasTurn state v added Do w)
      → IsTooFull (state h.before) v.core task → StopsAt state v (task ∷ []) Stopped.Full
  turn_stops state v w added Do task h full done d = record {
    done = done;
    next = task;
    rest = [];
    are = refl;
    turns = v.turns ++ h.between;
    does = waited_did state v w added Do h done d;
    machine = h.before;
    left = h.begun;
    full = full;
  }

  pub call_stops : (state : S → World) (v w : CoreView S) (request : Request) → Answers state v request Answer.Full w
      → StopsAt state v (Call request ∷ []) Stopped.Full
  call_stops state v w request (inl h) = turn_stops state v w (logged request h.0) (λ x y. IsFull y) (Call request) h.1 (inr (
    state h.1.after,
    last_leads state v.first (v.turns ++ h.1.between) (turn v.core h.1.after) h.1.before (subst (AreInOrder state v.first) h.1.turns h.1.order) h.1.begun,
    (h.0, h.1.adds),
    h.1.does,
  ))
  call_stops state v w request (inr h) = over_stops state v w (Call request) h

  -- an aside is full just at the limit of events, and stops the core
  aside_stops : (state : S → World) (v w : CoreView S) (aside : Aside) (task : Task) → MadeAside state v aside Full w
      → StopsAt state v (task ∷ []) Stopped.Full
  aside_stops state v w aside task (inl h) =
      turn_stops state v w [] (λ x y. StepsAside x (event_of v.core aside) Full y × IsCalm y) task h (over_full (state h.before) v.core task
      (∥∥₁_elim h.legal.reached (hlevel props) (λ r. over (state h.before) v.core aside
      (steps_sound (state h.before) (state h.after) (event_of v.core aside) Full r h.does.0.0).full)))
  aside_stops state v w aside task (inr h) = over_stops state v w task h.1

  pub fault_stops : (state : S → World) (v w : CoreView S) (aside : Aside) (task : Task) (fault : SharedFault)
      → (fault ≡ Stopped.Full) × MadeAside state v aside Full w → StopsAt state v (task ∷ []) fault
  fault_stops state v w aside task fault (e, m) = subst (StopsAt state v (task ∷ [])) (sym e) (aside_stops state v w aside task m)

  more_made : (v w x : CoreView S) (a b c : List Replied) (rs ss : List Request) → IsMade v a rs w b → IsMade w b ss x c → IsMade v a (rs ++ ss) x c
  more_made v w x a b c rs ss m n = record {
    told = m.told ++ n.told;
    asked = map-append (λ call. call.request) m.told n.told ∙ ap (λ (p : List Request × List Request). p.0 ++ p.1) (λ i. (m.asked i, n.asked i));
    kept = n.kept ∙ ap (λ l. l ++ n.told) m.kept ∙ append_assoc a m.told n.told;
    mine = n.mine ∙ ap (λ l. l ++ n.told) m.mine ∙ append_assoc v.mine m.told n.told;
    same = n.same ∙ ap (λ (y : CoreView S). record y { turns = x.turns; mine = x.mine }) m.same;
  }

  -- the task at n was done next
  pub next_made : (v w x : CoreView S) (a b c : List Replied) (tasks : List Task) (n : ℕ) (d : Task) → n < length tasks
      → IsMade v a (calls_of (take n tasks)) w b → IsMade w b (calls_of (get_or tasks n d ∷ [])) x c → IsMade v a (calls_of (take (n + 1) tasks)) x c
  next_made v w x a b c tasks n d lt m k =
      subst (λ rs. IsMade v a rs x c) (sym (ap calls_of (take_more tasks n d lt) ∙ calls_append (take n tasks) (get_or tasks n d ∷ [])))
      (more_made v w x a b c (calls_of (take n tasks)) (calls_of (get_or tasks n d ∷ [])) m k)

  -- what was done by then
  so_far : (state : S → World) (v w : CoreView S) (a b : List Replied) (rs : List Request) (tasks done : List Task) → IsMade v a rs w b
      → DoesTasks state v tasks w → HasDone state v.core v.first v.turns done → HasDone state w.core w.first w.turns (done ++ tasks)
  so_far state v w a b rs tasks done m p did =
      subst (λ (y : CoreView S). HasDone state y.core y.first w.turns (done ++ tasks)) (sym m.same) (p done did)

  -- a core that did some tasks is the same
  same_core : (state : S → World) (v w : CoreView S) (a b : List Replied) (rs : List Request) (P : ℕ → List S → Type 0) → IsMade v a rs w b
      → P w.core w.first → P v.core v.first
  same_core state v w a b rs P m p = subst (λ (y : CoreView S). P y.core y.first) m.same p

  pub next_did : (state : S → World) (v w x : CoreView S) (a b : List Replied) (tasks : List Task) (n : ℕ) (d : Task) → n < length tasks
      → IsMade v a (calls_of (take n tasks)) w b → DoesTasks state v (take n tasks) w → DoesTasks state w (get_or tasks n d ∷ []) x
      → DoesTasks state v (take (n + 1) tasks) x
  next_did state v w x a b tasks n d lt m p q done did =
      subst (λ ts. HasDone state v.core v.first x.turns ts) (append_assoc done (take n tasks) (get_or tasks n d ∷ [])
      ∙ ap (λ l. done ++ l) (sym (take_more tasks n d lt)))
      (same_core state v w a b (calls_of (take n tasks)) (λ c f. HasDone state c f x.turns ((done ++ take n tasks) ++ get_or tasks n d ∷ [])) m
      (q (done ++ take n tasks) (so_far state v w a b (calls_of (take n tasks)) (take n tasks) done m p did)))

  -- a core stops where there are more tasks, too
  stops_longer : (state : S → World) (core : ℕ) (first : List S) (tasks more : List Task) → FindsFull state core first tasks
      → FindsFull state core first (tasks ++ more)
  stops_longer state core first tasks more s = record {
    done = s.done;
    next = s.next;
    rest = s.rest ++ more;
    are = ap (λ l. l ++ more) s.are ∙ append_assoc s.done (s.next ∷ s.rest) more;
    turns = s.turns;
    does = s.does;
    machine = s.machine;
    left = s.left;
    full = s.full;
  }

  -- the core stopped at the task at n
  pub next_stops : (state : S → World) (v w : CoreView S) (a b : List Replied) (tasks : List Task) (n : ℕ) (d : Task) (fault : SharedFault) → n < length tasks
      → IsMade v a (calls_of (take n tasks)) w b → DoesTasks state v (take n tasks) w → StopsAt state w (get_or tasks n d ∷ []) fault
      → StopsAt state v tasks fault
  next_stops state v w a b tasks n d (Text NoMemory) lt m p q = tt
  next_stops state v w a b tasks n d Stopped.Full lt m p q = λ done did.
      subst (FindsFull state v.core v.first) (ap (λ l. l ++ drop (n + 1) tasks) (append_assoc done (take n tasks) (get_or tasks n d ∷ [])
      ∙ ap (λ l. done ++ l) (sym (take_more tasks n d lt)))
      ∙ append_assoc done (take (n + 1) tasks) (drop (n + 1) tasks) ∙ ap (λ l. done ++ l) (take-append-drop (n + 1) tasks))
      (stops_longer state v.core v.first ((done ++ take n tasks) ++ get_or tasks n d ∷ []) (drop (n + 1) tasks)
      (same_core state v w a b (calls_of (take n tasks)) (λ c f. FindsFull state c f ((done ++ take n tasks) ++ get_or tasks n d ∷ [])) m
      (q (done ++ take n tasks) (so_far state v w a b (calls_of (take n tasks)) (take n tasks) done m p did))))
  next_stops state v w a b tasks n d _ lt m p q = absurd q
