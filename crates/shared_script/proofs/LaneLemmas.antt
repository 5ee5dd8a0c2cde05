-- The cores while a script is run, from the last to the first
use Rattle.std.proofs.Common.{◌≡◌, ◌⊎◌, inl, inr, ⊎_elim, ℕ, zero, suc, ◌+◌, ◌-◌, ◌<◌, ◌≤◌, List, [], ◌∷◌, ◌++◌, length, map, get_or, take, drop, arith, refl, sym, ap}
use Rattle.std.proofs.Common.{subst, ◌∙◌, append-nil, length-append, Vec, Global}
use Rattle.std.proofs.lemmas.List.{drop_all, get_or-map, length-map, map-append, take_all, take_more}
use Rattle.std.proofs.lemmas.Option.{slice_get-get_or}
use Rattle.std.specs.Prelude.{Option, None, Some, IfNone, IfSome, Bool}
use Rattle.atomic_table.specs.Seated.{TableId}
use Rattle.machine_model.specs.World.{World}
use Rattle.machine_model.specs.Setups.{first_fault_within}
use Rattle.machine_model.specs.declared.setup.CallLimit.{CallLimit}
use Rattle.machine_model.specs.declared.setup.CallLimit.TheVariants.{Usual}
use Rattle.trace_words.specs.Declarations.{DeclarationView, asked_fault, has_long, made_by}
use Rattle.trace_words.specs.Scripts.{Scripted}
use Rattle.trace_words.specs.declared.script.Task.{Task}
use Rattle.shared.specs.Turns.{AreInOrder, IsTold, NoneOf, left_by, log_in}
use Rattle.shared.specs.Cores.{Agrees, CoreView, made_of, new_core, split_core, told_of}
use Rattle.shared.specs.Histories.{replied_by, replied_in}
use Rattle.shared.specs.declared.history.Replied.{Replied}
use Rattle.shared.specs.declared.history.JoinedCore.{JoinedCore}
use Rattle.shared_script.specs.Lanes.{AreCores, AreOfSpace, EndEach, EndsAs, IsDone, IsFresh, last_stop}
use Rattle.shared_script.specs.Runs.{Fails, IsRun}
use Rattle.shared_script.specs.Tasks.{DidTasks, DoesTasks, HasDone, IsMade, StopsAt, asked_in, calls_of}
use Rattle.shared_script.specs.declared.fault.SharedFault.{SharedFault}
use Rattle.shared_script.specs.declared.fault.SharedFault.TheVariants.{Text, Full}
use Rattle.trace_words.specs.declared.fault.TraceFault.TheVariants.{NoMemory}
use Rattle.shared_script.specs.declared.lane.Lane.{Lane}
use Rattle.shared.specs.declared.history.Turn.{Turn}
use Rattle.shared_script.proofs.TaskLemmas.{as_worlds, did_still, did_worlds, done_worlds, full_worlds, left_worlds, order_worlds}
use Rattle.shared_script.proofs.EachLemmas.{Each, each_front, each_last, each_snoc}

-- ---- a space is declared with some core

some_core : (limit : CallLimit) (c f n : ℕ) (b : Bool) (k : ℕ) → first_fault_within limit c f n b k ≡ None → 0 < c
some_core limit zero f n b k e = absurd (cc)
some_core limit (suc c) f n b k e = omega arith

pub cores_asked : (asked : DeclarationView) → asked_fault asked ≡ None → 0 < asked.cores
cores_asked asked e = some_core Usual asked.cores asked.frames (length asked.files) (has_long asked.files) asked.calls e

-- ---- the beginning

-- what is so of a lane that was just made
pub record IsLane {S : Type 0} (number : ℕ) (core : CoreView S) (lane : Lane S) : Type 0 where
  pub number_is : lane.number ≡ number
  pub core_is : lane.core ≡ core
  pub told : lane.told.items ≡ []

module _ {S : Type 0} (state : S → World) (space : TableId) (first : List S) (spare : ℕ) where
  -- the last cores have their lanes, and so many are left
  pub record Splits (lanes : List (Lane S)) (number : ℕ) (now : CoreView S) : Type 0 where
    pub count : length lanes + now.spare ≡ spare
    pub core_is : now ≡ new_core state space 0 now.spare first
    pub number_is : number ≡ now.spare
    pub each : Each (λ at lane. IsFresh state space first (spare - at) lane) lanes

  pub splits_first : (now : CoreView S) (number : ℕ) → now ≡ new_core state space 0 spare first → number ≡ spare → Splits [] number now
  splits_first now number e n = record {
    count = omega (arith, ap (λ (v : CoreView S). v.spare) e);
    core_is = e ∙ ap (λ k. new_core state space 0 k first) (sym (ap (λ (v : CoreView S). v.spare) e));
    number_is = n ∙ sym (ap (λ (v : CoreView S). v.spare) e);
    each = λ at d lt. absurd (omega (arith, lt));
  }

  module _ (lanes all : List (Lane S)) (number : ℕ) (now : CoreView S) (lane : Lane S) (s : Splits lanes number now) (is : all ≡ lanes ++ lane ∷ []) where
    space_now : now.space ≡ space
    space_now = ap (λ (v : CoreView S). v.space) s.core_is

    first_now : now.first ≡ first
    first_now = ap (λ (v : CoreView S). v.first) s.core_is

    with_lane : IsFresh state space first (spare - length lanes) lane → Each (λ at lane. IsFresh state space first (spare - at) lane) all
    with_lane fresh =
        subst (λ l. Each (λ at lane. IsFresh state space first (spare - at) lane) l) (sym is)
        (each_snoc (λ at lane. IsFresh state space first (spare - at) lane) lanes lane s.each fresh)

    -- one more has one
    pub splits_more : (new c : CoreView S) → 0 < now.spare → new ≡ record now { spare = now.spare - 1 } → c ≡ split_core state now
        → IsLane number c lane → Splits all (number - 1) new
    splits_more new c pos e cs l =
        let less : new.spare ≡ now.spare - 1 = ap (λ (v : CoreView S). v.spare) e in
        let here : now.spare ≡ spare - length lanes = omega (arith, s.count) in
        record {
          count = omega (arith, ap length is, length-append lanes (lane ∷ []), less, s.count, pos);
          core_is = e ∙ ap (λ (v : CoreView S). record v { spare = now.spare - 1 }) s.core_is ∙ ap (λ k. new_core state space 0 k first) (sym less);
          number_is = ap (λ k. k - 1) s.number_is ∙ sym less;
          each = with_lane (record {
            number = l.number_is ∙ s.number_is ∙ here;
            core_is = l.core_is ∙ cs ∙ ap (split_core state) s.core_is ∙ ap (λ k. new_core state space k 0 first) here;
            told = l.told;
          });
        }

    -- all have one
    pub splits_all : (new : CoreView S) → now.spare ≡ 0 → new ≡ now → IsLane 0 new lane → AreCores spare (IsFresh state space first) all
    splits_all new none e l =
        let whole : length all ≡ suc spare = omega (arith, ap length is, length-append lanes (lane ∷ []), s.count, none) in
        let here : 0 ≡ spare - length lanes = omega (arith, s.count, none) in
        let each = with_lane (record {
          number = l.number_is ∙ here;
          core_is = l.core_is ∙ e ∙ s.core_is ∙ (λ i. new_core state space (here i) (none i) first);
          told = l.told;
        }) in
        record { count = whole; each = λ at d le. each at d (omega (arith, le, whole)) }

  -- all are cores of the space
  pub fresh_of : (lanes : List (Lane S)) → AreCores spare (IsFresh state space first) lanes → AreOfSpace space lanes
  fresh_of lanes a at d lt = ap (λ (v : CoreView S). v.space) (a.each at d (omega (arith, lt, a.count))).core_is

-- ---- stops

last_none : (last : Option SharedFault) (stops : List (Option SharedFault)) → last_stop last stops ≡ None
    → (last ≡ None) × ((k : ℕ) → get_or stops k None ≡ None)
last_none last [] e = (e, λ k. refl)
last_none last (None ∷ stops) e = let r = last_none last stops e in (r.0, none r.1)
  where
    none : ((k : ℕ) → get_or stops k None ≡ None) → (k : ℕ) → get_or (None ∷ stops) k None ≡ None
    none f zero = refl
    none f (suc k) = f k
last_none last (Some stop ∷ stops) e = let r = last_none (Some stop) stops e in let clash = r.0 in absurd (cc)

-- the last one stands at some place, and none behind it; or none does, and it is the one before them
last_found : (last : Option SharedFault) (stops : List (Option SharedFault)) (fault : SharedFault) → last_stop last stops ≡ Some fault
    → ((at : ℕ) × (at < length stops) × (get_or stops at None ≡ Some fault) × ((k : ℕ) → at < k → get_or stops k None ≡ None))
    ⊎ ((last ≡ Some fault) × ((k : ℕ) → get_or stops k None ≡ None))
last_found last [] fault e = inr (e, λ k. refl)
last_found last (None ∷ stops) fault e =
    ⊎_elim (λ f. inl (suc f.0, omega (arith, f.1), f.2, later f.0 f.3)) (λ f. inr (f.0, none f.1)) (last_found last stops fault e)
  where
    later : (at : ℕ) → ((k : ℕ) → at < k → get_or stops k None ≡ None) → (k : ℕ) → suc at < k → get_or (None ∷ stops) k None ≡ None
    later at f zero lt = absurd (omega (arith, lt))
    later at f (suc k) lt = f k (omega (arith, lt))

    none : ((k : ℕ) → get_or stops k None ≡ None) → (k : ℕ) → get_or (None ∷ stops) k None ≡ None
    none f zero = refl
    none f (suc k) = f k
last_found last (Some stop ∷ stops) fault e =
    ⊎_elim (λ f. inl (suc f.0, omega (arith, f.1), f.2, later f.0 f.3)) (λ f. inl (0, omega arith, f.0, behind f.1)) (last_found (Some stop) stops fault e)
  where
    later : (at : ℕ) → ((k : ℕ) → at < k → get_or stops k None ≡ None) → (k : ℕ) → suc at < k → get_or (Some stop ∷ stops) k None ≡ None
    later at f zero lt = absurd (omega (arith, lt))
    later at f (suc k) lt = f k (omega (arith, lt))

    behind : ((k : ℕ) → get_or stops k None ≡ None) → (k : ℕ) → 0 < k → get_or (Some stop ∷ stops) k None ≡ None
    behind f zero lt = absurd (omega (arith, lt))
    behind f (suc k) lt = f k

-- one stop more is looked at
pub last_more : (last : Option SharedFault) (stops : List (Option SharedFault)) (stop : Option SharedFault)
    → last_stop last (stops ++ stop ∷ []) ≡ last_stop (last_stop last stops) (stop ∷ [])
last_more last [] stop = refl
last_more last (None ∷ stops) stop = last_more last stops stop
last_more last (Some found ∷ stops) stop = last_more (Some found) stops stop

-- ---- the end

-- a core that did not stop did all its tasks
did_of : {S : Type 0} (state : S → World) (space : TableId) (first : List S) (tasks : List (List Task)) (core : ℕ) (before after : Lane S)
    → IsFresh state space first core before → EndsAs state tasks before after → after.stop ≡ None
    → HasDone state core first after.core.turns (get_or tasks core [])
did_of {S = S} state space first tasks core before after fresh ends none =
    subst (λ (z : CoreView S × ℕ). HasDone state z.0.core z.0.first after.core.turns (get_or tasks z.1 []))
    (λ i. (fresh.core_is i, fresh.number i))
    (subst (λ o. IfNone o (DoesTasks state before.core (get_or tasks before.number []) after.core)) none ends.did []
    (subst (λ (v : CoreView S). HasDone state v.core v.first v.turns []) (sym fresh.core_is) (record { order = tt; did = refl })))

module _ {S : Type 0} (state : S → World) (space : TableId) (first : List S) (tasks : List (List Task)) (new : (log_in state first).entries ≡ []) where
  done_of : (core : ℕ) (before after : Lane S) → IsFresh state space first core before → EndsAs state tasks before after
      → after.stop ≡ None → IsDone state tasks space first core after
  done_of core before after fresh ends none =
      let m = subst (λ o. IfNone o (IsMade before.core before.told.items (calls_of (get_or tasks before.number [])) after.core after.told.items)) none
      ends.made in
      let kept = m.kept ∙ ap (λ l. l ++ m.told) fresh.told in
      let first_of : before.core.first ≡ first = ap (λ (v : CoreView S). v.first) fresh.core_is in
      let core_of : before.core.core ≡ core = ap (λ (v : CoreView S). v.core) fresh.core_is in
      let empty : before.core.mine ≡ [] = ap (λ (v : CoreView S). v.mine) fresh.core_is ∙ ap (replied_in core (log_in state first).requests) new in
      record {
        core_is = ap (λ (v : CoreView S). v.core) m.same ∙ core_of;
        space_is = ap (λ (v : CoreView S). v.space) m.same ∙ ap (λ (v : CoreView S). v.space) fresh.core_is;
        first_is = ap (λ (v : CoreView S). v.first) m.same ∙ first_of;
        others = ap (λ (v : CoreView S). v.others) m.same ∙ ap (λ (v : CoreView S). v.others) fresh.core_is;
        asked = ap asked_in kept ∙ m.asked ∙ ap (λ n. calls_of (get_or tasks n [])) fresh.number;
        mine = m.mine ∙ ap (λ l. l ++ m.told) empty ∙ sym kept;
        did = did_of state space first tasks core before after fresh ends none;
      }

  -- where none did
  pub all_done : (left : ℕ) (before after : List (Lane S)) → AreCores left (IsFresh state space first) before → EndEach state tasks before after
      → last_stop None (map (λ lane. lane.stop) after) ≡ None → AreCores left (IsDone state tasks space first) after
  all_done left before after fresh ends none = record {
    count = ends.count ∙ fresh.count;
    each = λ at d le.
        let within : at < length before = omega (arith, le, fresh.count) in
        let long : at < length after = omega (arith, within, ends.count) in
        done_of (left - at) (get_or before at d) (get_or after at d) (fresh.each at d le) (ends.each at d d within)
        (sym (get_or-map (λ (lane : Lane S). lane.stop) after at d None long) ∙ (last_none None (map (λ lane. lane.stop) after) none).1 at);
  }

-- a core stopped by this fault, and no core before it did
pub record LeastStop {S : Type 0} (state : S → World) (space : TableId) (first : List S) (tasks : List (List Task)) (left : ℕ) (fault : SharedFault) : Type 0 where
  pub core : ℕ
  pub within : core ≤ left
  pub stops : StopsAt state (new_core state space core 0 first) (get_or tasks core []) fault
  pub below : (k : ℕ) → k < core → (turns : List (Turn S)) × HasDone state k first turns (get_or tasks k [])

-- the last lane that stopped is that of the least core
pub least_stop : {S : Type 0} (state : S → World) (space : TableId) (first : List S) (tasks : List (List Task)) (left : ℕ) (before after : List (Lane S))
    (fault : SharedFault) → AreCores left (IsFresh state space first) before → EndEach state tasks before after
    → last_stop None (map (λ lane. lane.stop) after) ≡ Some fault → LeastStop state space first tasks left fault
least_stop state space first tasks left before [] fault fresh ends e = absurd (omega (arith, ends.count, fresh.count))
least_stop {S = S} state space first tasks left before (lane ∷ lanes) fault fresh ends e =
    ⊎_elim found (λ f. let clash = f.0 in absurd (cc)) (last_found None (map (λ (l : Lane S). l.stop) (lane ∷ lanes)) fault e)
  where
    count : length (lane ∷ lanes) ≡ suc left
    count = ends.count ∙ fresh.count

    stop_at : (at : ℕ) → at ≤ left → get_or (map (λ (l : Lane S). l.stop) (lane ∷ lanes)) at None ≡ (get_or (lane ∷ lanes) at lane).stop
    stop_at at le = get_or-map (λ (l : Lane S). l.stop) (lane ∷ lanes) at lane None (omega (arith, le, count))

    ends_at : (at : ℕ) → at ≤ left → EndsAs state tasks (get_or before at lane) (get_or (lane ∷ lanes) at lane)
    ends_at at le = ends.each at lane lane (omega (arith, le, fresh.count))

    Found : Type 0
    Found = (at : ℕ) × (at < length (map (λ (l : Lane S). l.stop) (lane ∷ lanes))) × (get_or (map (λ (l : Lane S). l.stop) (lane ∷ lanes)) at None ≡ Some fault)
        × ((k : ℕ) → at < k → get_or (map (λ (l : Lane S). l.stop) (lane ∷ lanes)) k None ≡ None)

    found : Found → LeastStop state space first tasks left fault
    found (at, lt, is, none) =
        let le : at ≤ left = omega (arith, lt, count, length-map (lane ∷ lanes) (λ (l : Lane S). l.stop)) in
        let new = fresh.each at lane le in
        record {
          core = left - at;
          within = omega arith;
          stops = subst (λ (z : CoreView S × ℕ). StopsAt state z.0 (get_or tasks z.1 []) fault) (λ i. (new.core_is i, new.number i))
              (subst (λ o. IfSome o (StopsAt state (get_or before at lane).core (get_or tasks (get_or before at lane).number []))) (sym (stop_at at le) ∙ is)
              (ends_at at le).stops);
          below = λ k less.
              let there : left - k ≤ left = omega arith in
              let core_is : left - (left - k) ≡ k = omega (arith, less) in (
                (get_or (lane ∷ lanes) (left - k) lane).core.turns,
                subst (λ c. HasDone state c first (get_or (lane ∷ lanes) (left - k) lane).core.turns (get_or tasks c [])) core_is
                    (did_of state space first tasks (left - (left - k)) (get_or before (left - k) lane) (get_or (lane ∷ lanes) (left - k) lane)
                    (fresh.each (left - k) lane there) (ends_at (left - k) there) (sym (stop_at (left - k) there) ∙ none (left - k) (omega (arith, less, le)))),
              );
        }

-- and a script fails so that declares this machine
pub least_fails : {S : Type 0} (state : S → World) (script : Scripted) (space : TableId) (machine : S) (left : ℕ) → (state machine).made ≡ made_by script.asked
    → (state machine).calls.log ≡ [] → left ≡ script.asked.cores - 1 → 0 < script.asked.cores → (fault : SharedFault)
    → LeastStop state space (machine ∷ []) script.tasks left fault → Fails script fault
least_fails state script space machine left made new is pos (Text NoMemory) s = tt
least_fails state script space machine left made new is pos Full s = record {
  first = state machine;
  made = made;
  new = new;
  core = s.core;
  within = omega (arith, s.within, is, pos);
  stopped = full_worlds state s.core (machine ∷ []) (get_or script.tasks s.core []) (s.stops [] (record { order = tt; did = refl }));
  below = λ k less. let h = s.below k less in (as_worlds state h.0, done_worlds state k (machine ∷ []) h.0 (get_or script.tasks k []) h.1);
}
least_fails state script space machine left made new is pos _ s = absurd s.stops

-- one lane more is looked at
pub stop_next : {S : Type 0} (lanes : List (Lane S)) (n : ℕ) (d : Lane S) (last now : Option SharedFault) → n < length lanes
    → last ≡ last_stop None (map (λ lane. lane.stop) (take n lanes)) → now ≡ last_stop last ((get_or lanes n d).stop ∷ [])
    → now ≡ last_stop None (map (λ lane. lane.stop) (take (n + 1) lanes))
stop_next {S = S} lanes n d last now lt inv e =
    e ∙ ap (λ l. last_stop l ((get_or lanes n d).stop ∷ [])) inv
    ∙ sym (ap (last_stop None) (ap (map (λ (lane : Lane S). lane.stop)) (take_more lanes n d lt)
    ∙ map-append (λ (lane : Lane S). lane.stop) (take n lanes) (get_or lanes n d ∷ []))
    ∙ last_more None (map (λ lane. lane.stop) (take n lanes)) (get_or lanes n d).stop)

pub stop_found : (last now stop : Option SharedFault) (fault : SharedFault) → now ≡ Some fault → stop ≡ Some fault → now ≡ last_stop last (stop ∷ [])
stop_found last now stop fault e is = e ∙ sym (ap (λ o. last_stop last (o ∷ [])) is)

pub stop_none : (last now stop : Option SharedFault) → now ≡ last → stop ≡ None → now ≡ last_stop last (stop ∷ [])
stop_none last now stop e is = e ∙ sym (ap (λ o. last_stop last (o ∷ [])) is)

-- the lanes that were lent, once they are a vector's again
module _ {S : Type 0} (state : S → World) (items lent last seen : List (Lane S)) (n : ℕ) (tasks : List (List Task)) (same : lent ≡ items)
    (len : length lent ≡ n) (ends : EndEach state tasks lent last) (are : seen ≡ take n (last ++ drop (length last) items)) where
  none_left : drop (length last) items ≡ []
  none_left = drop_all (length last) items (let e = ap length same in omega (arith, ends.count, e))

  pub are_last : take n (last ++ drop (length last) items) ≡ last
  are_last = ap (λ l. take n (last ++ l)) none_left ∙ ap (take n) (append-nil last) ∙ take_all n last (omega (arith, ends.count, len))

  pub seen_least : (space : TableId) (first : List S) (left : ℕ) (o : Option SharedFault) (fault : SharedFault)
      → AreCores left (IsFresh state space first) items → o ≡ last_stop None (map (λ lane. lane.stop) seen) → o ≡ Some fault
      → LeastStop state space first tasks left fault
  seen_least space first left o fault fresh e f =
      let same_stop : last_stop None (map (λ lane. lane.stop) last) ≡ o = ap (λ l. last_stop None (map (λ (lane : Lane S). lane.stop) l))
      (sym (are ∙ are_last)) ∙ sym e in
      least_stop state space first tasks left lent last fault (subst (λ l. AreCores left (IsFresh state space first) l) (sym same) fresh) ends
      (same_stop ∙ f)

  pub seen_done : (space : TableId) (first : List S) (left : ℕ) (o : Option SharedFault) → (log_in state first).entries ≡ []
      → AreCores left (IsFresh state space first) items → o ≡ last_stop None (map (λ lane. lane.stop) seen) → o ≡ None
      → AreCores left (IsDone state tasks space first) (take n (last ++ drop (length last) items))
  seen_done space first left o new fresh e none =
      let stops : last_stop None (map (λ lane. lane.stop) last) ≡ None = ap (λ l. last_stop None (map (λ (lane : Lane S). lane.stop) l))
      (sym (are ∙ are_last)) ∙ sym e ∙ none in
      subst (λ l. AreCores left (IsDone state tasks space first) l) (sym are_last)
      (all_done state space first tasks new left lent last (subst (λ l. AreCores left (IsFresh state space first) l) (sym same) fresh) ends stops)

-- lanes that were made for a core as it was then
pub fresh_at : {S : Type 0} (state : S → World) (now : CoreView S) (space : TableId) (first : List S) (k left : ℕ) (lanes : List (Lane S))
    → now ≡ new_core state space 0 k first → k ≡ left → AreCores now.spare (IsFresh state now.space now.first) lanes
    → AreCores left (IsFresh state space first) lanes
fresh_at {S = S} state now space first k left lanes e is a =
    subst (λ n. AreCores n (IsFresh state space first) lanes) is (subst (λ (v : CoreView S). AreCores v.spare (IsFresh state v.space v.first) lanes) e a)

-- ---- cores that are taken in

-- what is known of all cores that were taken in, and of the one that knows it
abbrev known_by : {S : Type 0} → CoreView S → List (JoinedCore S)
known_by v = told_of v ∷ v.others

module _ {S : Type 0} (state : S → World) (tasks : List (List Task)) (space : TableId) (first : List S) (left : ℕ) where
  pub record Gathers (lanes : List (Lane S)) (now : CoreView S) (told : List (List Replied)) : Type 0 where
    pub count : length lanes + length told ≡ suc left
    pub each : Each (λ at lane. IsDone state tasks space first (left - at) lane) lanes
    pub space_is : now.space ≡ space
    pub first_is : now.first ≡ first
    pub cores : Each (λ k (t : JoinedCore S). t.core ≡ k) (known_by now)
    pub mine : map (λ (t : JoinedCore S). t.mine) (known_by now) ≡ told
    pub asked : Each (λ k (l : List Replied). asked_in l ≡ calls_of (get_or tasks k [])) told
    pub did : Each (λ k (t : JoinedCore S). DidTasks state k first t.turns (get_or tasks k [])) (known_by now)

  -- core 0 is the last lane's
  pub gathers_first : (all lanes : List (Lane S)) (lane : Lane S) → AreCores left (IsDone state tasks space first) all → all ≡ lanes ++ lane ∷ []
      → Gathers lanes lane.core (lane.told.items ∷ [])
  gathers_first all lanes lane a is =
      let count : length lanes ≡ left = omega (arith, a.count, ap length is, length-append lanes (lane ∷ [])) in
      let P : ℕ → Lane S → Type 0 = λ at lane. IsDone state tasks space first (left - at) lane in
      let each : Each P (lanes ++ lane ∷ []) = subst (Each P) is (λ at d lt. a.each at d (omega (arith, lt, a.count))) in
      let done : IsDone state tasks space first 0 lane = subst (λ n. IsDone state tasks space first n lane) (omega (arith, count)) (each_last P lanes lane each) in
      record {
        count = omega (arith, count);
        each = each_front P lanes (lane ∷ []) each;
        space_is = done.space_is;
        first_is = done.first_is;
        cores = subst (λ l. Each (λ k (t : JoinedCore S). t.core ≡ k) (told_of lane.core ∷ l)) (sym done.others)
            (each_snoc (λ k (t : JoinedCore S). t.core ≡ k) [] (told_of lane.core) (λ at d lt. absurd (omega (arith, lt))) done.core_is);
        mine = (λ i. lane.core.mine ∷ map (λ (t : JoinedCore S). t.mine) (done.others i)) ∙ ap (λ l. l ∷ []) done.mine;
        asked = each_snoc (λ k (l : List Replied). asked_in l ≡ calls_of (get_or tasks k [])) [] lane.told.items
            (λ at d lt. absurd (omega (arith, lt))) done.asked;
        did = subst (λ l. Each (λ k (t : JoinedCore S). DidTasks state k first t.turns (get_or tasks k [])) (told_of lane.core ∷ l)) (sym done.others)
            (each_snoc (λ k (t : JoinedCore S). DidTasks state k first t.turns (get_or tasks k [])) [] (told_of lane.core)
            (λ at d lt. absurd (omega (arith, lt))) done.did.did);
      }

  -- one more is taken in
  pub gathers_more : (all lanes : List (Lane S)) (lane : Lane S) (now new : CoreView S) (told more : List (List Replied)) → Gathers all now told
      → all ≡ lanes ++ lane ∷ [] → new ≡ record now { others = now.others ++ told_of lane.core ∷ lane.core.others } → more ≡ told ++ lane.told.items ∷ []
      → Gathers lanes new more
  gathers_more all lanes lane now new told more g is e m =
      let size : length all ≡ length lanes + 1 = omega (arith, ap length is, length-append lanes (lane ∷ [])) in
      let P : ℕ → Lane S → Type 0 = λ at lane. IsDone state tasks space first (left - at) lane in
      let each : Each P (lanes ++ lane ∷ []) = subst (Each P) is g.each in
      let here : left - length lanes ≡ length told = omega (arith, g.count, size) in
      let done : IsDone state tasks space first (length told) lane = subst (λ n. IsDone state tasks space first n lane) here (each_last P lanes lane each) in
      let knows : known_by new ≡ known_by now ++ told_of lane.core ∷ [] =
      ap known_by e ∙ ap (λ l. known_by now ++ told_of lane.core ∷ l) done.others in
      let long : length (known_by now) ≡ length told = sym (length-map (known_by now) (λ (t : JoinedCore S). t.mine)) ∙ ap length g.mine in
      record {
        count = omega (arith, g.count, size, ap length m, length-append told (lane.told.items ∷ []));
        each = each_front P lanes (lane ∷ []) each;
        space_is = ap (λ (v : CoreView S). v.space) e ∙ g.space_is;
        first_is = ap (λ (v : CoreView S). v.first) e ∙ g.first_is;
        cores = subst (Each (λ k (t : JoinedCore S). t.core ≡ k)) (sym knows)
            (each_snoc (λ k (t : JoinedCore S). t.core ≡ k) (known_by now) (told_of lane.core) g.cores (done.core_is ∙ sym long));
        mine = ap (map (λ (t : JoinedCore S). t.mine)) knows ∙ map-append (λ (t : JoinedCore S). t.mine) (known_by now) (told_of lane.core ∷ [])
            ∙ (λ i. g.mine i ++ done.mine i ∷ []) ∙ sym m;
        asked = subst (Each (λ k (l : List Replied). asked_in l ≡ calls_of (get_or tasks k []))) (sym m)
            (each_snoc (λ k (l : List Replied). asked_in l ≡ calls_of (get_or tasks k [])) told lane.told.items g.asked done.asked);
        did = subst (Each (λ k (t : JoinedCore S). DidTasks state k first t.turns (get_or tasks k []))) (sym knows)
            (each_snoc (λ k (t : JoinedCore S). DidTasks state k first t.turns (get_or tasks k [])) (known_by now) (told_of lane.core) g.did
            (subst (λ k. DidTasks state k first lane.core.turns (get_or tasks k [])) (sym long) done.did.did));
      }

-- all were, and the machine agrees with what is known
pub gathered : {S : Type 0} (state : S → World) (script : Scripted) (space : TableId) (first : List S) (left : ℕ) (lanes : List (Lane S)) (now : CoreView S)
    (told : List (List Replied)) (machine : S) → Gathers state script.tasks space first left lanes now told → length lanes ≡ 0 → suc left ≡ script.asked.cores
    → made_of state first ≡ made_by script.asked → Agrees state machine now → IsRun script told (state machine)
gathered {S = S} state script space first left lanes now told machine g none cores made a = record {
  legal = a.legal;
  made = a.made ∙ ap (made_of state) g.first_is ∙ made;
  count = count;
  asked = λ core lt. g.asked core [] (omega (arith, lt, count));
  logged = λ core lt.
      let t = get_or (known_by now) core (told_of now) in
      ap (λ l. replied_by core (log_in state l)) (sym last)
      ∙ ap (λ c. replied_by c (log_in state (left_by first a.turns))) (sym (g.cores core (told_of now) (within core lt)))
      ∙ (knows core (within core lt)).mine
      ∙ sym (get_or-map (λ (t : JoinedCore S). t.mine) (known_by now) core (told_of now) [] (within core lt)) ∙ ap (λ l. get_or l core []) g.mine;
  first = map state first;
  turns = as_worlds state a.turns;
  order = order_worlds state first a.turns order;
  last = left_worlds state first a.turns machine last;
  did = λ core lt.
      let t = get_or (known_by now) core (told_of now) in
      let sees = (knows core (within core lt)).seen in
      did_worlds state core first a.turns (get_or script.tasks core [])
      (subst (λ ts. DidTasks state core first ts (get_or script.tasks core [])) (sym sees.goes)
      (did_still state core first t.turns sees.rest (get_or script.tasks core []) (subst (AreInOrder state first) sees.goes order)
      (subst (λ c. NoneOf c sees.rest) (g.cores core (told_of now) (within core lt)) sees.others) (g.did core (told_of now) (within core lt))));
}
  where
    count : length told ≡ script.asked.cores
    count = omega (arith, g.count, none, cores)

    long : length (known_by now) ≡ length told
    long = sym (length-map (known_by now) (λ (t : JoinedCore S). t.mine)) ∙ ap length g.mine

    within : (core : ℕ) → core < script.asked.cores → core < length (known_by now)
    within core lt = omega (arith, lt, count, long)

    order : AreInOrder state first a.turns
    order = subst (λ l. AreInOrder state l a.turns) g.first_is a.order

    last : left_by first a.turns ≡ machine ∷ []
    last = ap (λ l. left_by l a.turns) (sym g.first_is) ∙ a.last

    knows : (k : ℕ) → k < length (known_by now) → IsTold state first a.turns (get_or (known_by now) k (told_of now))
    knows zero lt = subst (λ l. IsTold state l a.turns (told_of now)) g.first_is a.own
    knows (suc k) lt = subst (λ l. IsTold state l a.turns (get_or now.others k (told_of now))) g.first_is
        (a.others k (get_or now.others k (told_of now)) (slice_get-get_or now.others k (told_of now) (omega (arith, lt))))

-- the same of a machine that is as the script declares it
pub record GathersSome {S : Type 0} (state : S → World) (script : Scripted) (space : TableId) (lanes : List (Lane S)) (now : CoreView S)
    (told : List (List Replied)) : Type 0 where
  pub first : List S
  pub made : made_of state first ≡ made_by script.asked
  pub gathers : Gathers state script.tasks space first (script.asked.cores - 1) lanes now told

module _ {S : Type 0} (state : S → World) (script : Scripted) (space : TableId) where
  pub some_first : (all lanes : List (Lane S)) (lane : Lane S) → (first : List S) × (made_of state first ≡ made_by script.asked)
      × AreCores (script.asked.cores - 1) (IsDone state script.tasks space first) all → all ≡ lanes ++ lane ∷ []
      → GathersSome state script space lanes lane.core (lane.told.items ∷ [])
  some_first all lanes lane (first, made, are) is =
      record { first = first; made = made; gathers = gathers_first state script.tasks space first (script.asked.cores - 1) all lanes lane are is }

  pub some_more : (all lanes : List (Lane S)) (lane : Lane S) (now new : CoreView S) (told more : List (List Replied))
      → GathersSome state script space all now told → all ≡ lanes ++ lane ∷ [] → new ≡ record now { others = now.others ++ told_of lane.core ∷ lane.core.others }
      → more ≡ told ++ lane.told.items ∷ [] → GathersSome state script space lanes new more
  some_more all lanes lane now new told more g is e m = record {
    first = g.first;
    made = g.made;
    gathers = gathers_more state script.tasks space g.first (script.asked.cores - 1) all lanes lane now new told more g.gathers is e m;
  }

  pub some_run : (lanes : List (Lane S)) (now : CoreView S) (told : List (List Replied)) (machine : S) → GathersSome state script space lanes now told
      → 0 < script.asked.cores → length lanes ≡ 0 → Agrees state machine now → IsRun script told (state machine)
  some_run lanes now told machine g pos none a =
      gathered state script space g.first (script.asked.cores - 1) lanes now told machine g.gathers none (omega (arith, pos)) g.made a

  -- a lane that is taken off is one of the space
  pub last_space : (all lanes : List (Lane S)) (lane : Lane S) (now : CoreView S) (told : List (List Replied)) → GathersSome state script space all now told
      → all ≡ lanes ++ lane ∷ [] → lane.core.space ≡ space
  last_space all lanes lane now told g is =
      let P : ℕ → Lane S → Type 0 = λ at lane. IsDone state script.tasks space g.first ((script.asked.cores - 1) - at) lane in
      (each_last P lanes lane (subst (Each P) is g.gathers.each)).space_is

-- ---- what is kept of what cores were told

abbrev all_told : List (Vec Replied Global) → List (List Replied)
all_told told = map (λ (v : Vec Replied Global). v.items) told

pub told_first : (told pushed : List (Vec Replied Global)) (one : Vec Replied Global) → pushed ≡ told ++ one ∷ [] → told ≡ []
    → one.items ∷ [] ≡ all_told pushed
told_first told pushed one p e = sym (ap all_told (p ∙ ap (λ l. l ++ one ∷ []) e))

pub told_next : (told pushed : List (Vec Replied Global)) (one : Vec Replied Global) → pushed ≡ told ++ one ∷ []
    → all_told pushed ≡ all_told told ++ one.items ∷ []
told_next told pushed one p = ap all_told p ∙ map-append (λ (v : Vec Replied Global). v.items) told (one ∷ [])
