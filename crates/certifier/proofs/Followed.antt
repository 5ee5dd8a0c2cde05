-- A run that is followed note by note, and the slots beside it
use Rattle.machine_model.proofs.Words.{◌≡◌, ◌≢◌, ℕ, ◌+◌, ◌<◌, ◌≤◌, Bool, true, false, List, [], ◌∷◌, refl, sym, subst, ap, ◌∙◌, ⊎_elim, arith, length, get_or}
use Rattle.machine_model.proofs.Words.{Option, cases_lt, PageInfo, PageRange, put, put_other, put_same, Slots, some_has, World, new_world, Run}
use Rattle.machine_model.specs.declared.event.Outcome.{Outcome}
use Rattle.std.specs.Prelude.{count_by}
use Rattle.live_levels.specs.declared.close.SlotHistory.{SlotHistory}
use Rattle.machine_model.proofs.Bracketed.{bracketed}
use Rattle.machine_model.proofs.SoundKept.{runs_sound}
use Rattle.machine_model.specs.declared.setup.Setup.{Setup}
use Rattle.core_steps.specs.Changing.{may_change}
use Rattle.core_steps.specs.Running.{RunsAsMap}
use Rattle.machine_model.specs.Setups.{made_of}
use Rattle.core_steps.proofs.Keeping.{keeps}
use Rattle.core_steps.proofs.Reached.{few_cores}
use Rattle.core_steps.proofs.Runs.{plainly}
use Rattle.seats.specs.declared.noted.Noted.{Noted}
use Rattle.certifier.specs.declared.looks.Look.{Look}
use Rattle.certifier.specs.declared.result.CertifyFault.{CertifyFault}
use Rattle.certifier.specs.declared.result.CertifyFault.TheVariants as By
use Rattle.certifier.specs.Following.{events_of, outcomes_of, answers_call, maps_of, one_if, AreStates, Fails}
use Rattle.certifier.specs.Following.{IsCertified, IsOpening, Leads, NoteLeads, Refuses}
use Rattle.certifier.specs.Histories.{AllGoAlong, IsFirstAstray, IsPageOf}
use Rattle.certifier.specs.Looks.{AreLooked, IsCaughtUp}
use Rattle.certifier.specs.Order.{AreNumbered, in_order, with_ticket}
use Rattle.certifier.proofs.Looked.{step_looked}
use Rattle.certifier.proofs.Notes.{counted, differs, next_joined, next_note}

pub one_at_most : (b : Bool) → one_if b ≤ 1
one_at_most true = omega arith
one_at_most false = omega arith

-- the states up to t stay where one more is added
state_stays : (states : ℕ → World) (t u : ℕ) (v : World) → u ≤ t → put states (t + 1) v u ≡ states u
state_stays states t u v le = put_other states (t + 1) v u (λ e. omega (arith, e, le))

module _ {A : Type 0} (P : PageRange → ℕ → ℕ → Bool) (C : Slots → ℕ → Type 0) (F : Slots → Slots → ℕ → Type 0) (new : World) (notes : List Noted) (n : ℕ)
    (histories : List (SlotHistory A)) where
  -- what is known once the notes with tickets below t were followed
  pub record Followed (t : ℕ) (w : World) (looks : List Look) (answered : ℕ) : Type 0 where
    pub run : Run new (events_of (in_order t notes)) (outcomes_of (in_order t notes)) w
    pub as_map : RunsAsMap P C F new (events_of (in_order t notes)) (outcomes_of (in_order t notes)) w
    pub calls : answered ≡ count_by answers_call (in_order t notes)
    pub few : answered ≤ t
    pub states : ℕ → World
    pub are_states : AreStates P C F new notes t states
    pub now : states t ≡ w
    pub looked : AreLooked n (maps_of states) w.slots.info t histories looks

  pub followed_first : (looks : List Look) → ((maps : ℕ → ℕ → Option PageInfo) (now : ℕ → Option PageInfo) → AreLooked n maps now 0 histories looks)
      → Followed 0 new looks 0
  followed_first looks h = record {
    run = refl;
    as_map = refl;
    calls = refl;
    few = omega arith;
    states = λ t. new;
    are_states = record { first = refl; each = λ t less. absurd (omega (arith, less)) };
    now = refl;
    looked = h (maps_of (λ t. new)) new.slots.info;
  }

  -- after looks, which keep what is known
  pub followed_looked : (t : ℕ) (w : World) (looks new_looks : List Look) (calls : ℕ)
      → ((maps : ℕ → ℕ → Option PageInfo) → AreLooked n maps w.slots.info t histories looks → AreLooked n maps w.slots.info t histories new_looks)
      → Followed t w looks calls → Followed t w new_looks calls
  followed_looked t w looks new_looks calls kept h = record {
    run = h.run;
    as_map = h.as_map;
    calls = h.calls;
    few = h.few;
    states = h.states;
    are_states = h.are_states;
    now = h.now;
    looked = kept (maps_of h.states) h.looked;
  }

  states_more : (t : ℕ) (w v : World) (states : ℕ → World) (x : Noted) → with_ticket t notes ≡ x ∷ [] → states t ≡ w → Leads P C F w x.event x.outcome v
      → AreStates P C F new notes t states → AreStates P C F new notes (t + 1) (put states (t + 1) v)
  states_more t w v states x is now leads h = record {
    first = state_stays states t 0 v (omega arith) ∙ h.first;
    each = λ u less. ⊎_elim
        (λ (l : u < t). rw (state_stays states t u v (omega (arith, l)), state_stays states t (u + 1) v (omega (arith, l))) (h.each u l))
        (λ (l : t ≤ u).
        let e : u ≡ t = omega (arith, l, less) in
        subst (λ k. NoteLeads P C F notes k (put states (t + 1) v k) (put states (t + 1) v (k + 1))) (sym e)
        (rw (state_stays states t t v (omega arith), put_same states (t + 1) v) (record {
          note = x;
          ticket = is;
          leads = subst (λ (m : World). Leads P C F m x.event x.outcome v) (sym now) leads;
        })))
        (cases_lt u t);
  }

  -- one note more
  pub followed_next : (t : ℕ) (w v : World) (looks : List Look) (calls more : ℕ) (x : Noted) → with_ticket t notes ≡ x ∷ [] → Leads P C F w x.event x.outcome v
      → more ≡ one_if (answers_call x)
      → ((k : ℕ) (d : SlotHistory A) (l : Look) (page : ℕ) → k < length histories → some_has (may_change w x.event) page ≡ true
      → IsPageOf (get_or histories k d) page → IsCaughtUp t (get_or looks k l))
      → Followed t w looks calls → Followed (t + 1) v looks (calls + more)
  followed_next t w v looks calls more x is leads count caught h = record {
    run = next_note new notes t x w v x.outcome is refl h.run leads.step;
    as_map = next_joined P C F new notes t x w v x.outcome is refl h.as_map leads.step leads.joins leads.divides;
    calls = ap (λ k. calls + k) count ∙ counted notes t x calls is h.calls;
    few = let f = h.few in let o = one_at_most (answers_call x) in omega (arith, f, o, count);
    states = put h.states (t + 1) v;
    are_states = states_more t w v h.states x is h.now leads h.are_states;
    now = put_same h.states (t + 1) v;
    looked = step_looked n (maps_of h.states) (maps_of (put h.states (t + 1) v)) w.slots.info v.slots.info t (may_change w x.event) histories looks
        (λ u page less. ap (λ (m : World). m.slots.info page) (state_stays h.states t (u + 1) v (omega (arith, less))))
        (λ page. ap (λ (m : World). m.slots.info page) (put_same h.states (t + 1) v))
        (λ page none. keeps w v x.event x.outcome leads.step page none)
        caught h.looked;
  }

-- ---- what it comes to

module _ {A : Type 0} (P : PageRange → ℕ → ℕ → Bool) (C : Slots → ℕ → Type 0) (F : Slots → Slots → ℕ → Type 0) (setup : Setup A) (first : World)
    (notes : List Noted) (histories : List (SlotHistory A)) where
  -- up to this ticket, from a new machine of the setup
  opened : (n t k : ℕ) (w : World) (looks : List Look) (calls : ℕ) → (o : IsOpening setup first) → t ≡ k → Followed P C F first notes n histories t w looks calls
      → Followed P C F (new_world (made_of setup) o.slots) notes n histories k w looks calls
  opened n t k w looks calls o e h =
      subst (λ (v : World). Followed P C F v notes n histories k w looks calls) o.is
      (subst (λ u. Followed P C F first notes n histories u w looks calls) e h)

  -- a note that the machine refuses
  pub refused : (n t : ℕ) (w : World) (looks : List Look) (calls : ℕ) (x : Noted) (fault : CertifyFault) → IsOpening setup first → AreNumbered notes
      → with_ticket t notes ≡ x ∷ [] → Followed P C F first notes n histories t w looks calls
      → Refuses P C F w x t fault → Fails P C F setup notes histories fault
  refused n t w looks calls x (By.Differs ticket noted expected) o numbered is h r =
      rw (r.0, r.1) (
        o.sound,
        numbered,
        differs P C F setup o.slots notes t x w r.3.0 expected o.new is
            (subst (λ (u : Outcome). expected ≢ u) r.1 r.2) (opened n t t w looks calls o refl h).as_map r.3.1.step r.3.1.joins r.3.1.divides,
      )
  refused n t w looks calls x By.NoMemory o numbered is h r = o.sound
  refused n t w looks calls x (By.Setup fault) o numbered is h r = absurd r
  refused n t w looks calls x (By.Ticket ticket) o numbered is h r = absurd r
  refused n t w looks calls x (By.Slot page) o numbered is h r = absurd r

  pub astray : (n t : ℕ) (w : World) (looks : List Look) (calls page : ℕ) → IsOpening setup first → AreNumbered notes → n ≡ length notes → t ≡ n
      → Followed P C F first notes n histories t w looks calls
      → ((maps : ℕ → ℕ → Option PageInfo) → AreLooked n maps w.slots.info n histories looks → IsFirstAstray n maps histories page)
      → Fails P C F setup notes histories (By.Slot page)
  astray n t w looks calls page o numbered e end h strays =
      let all = opened n t n w looks calls o end h in (
        o.sound,
        numbered,
        record {
          slots = o.slots;
          new = o.new;
          states = all.states;
          are_states = subst (λ k. AreStates P C F (new_world (made_of setup) o.slots) notes k all.states) e all.are_states;
          first = subst (λ k. IsFirstAstray k (maps_of all.states) histories page) e (strays (maps_of all.states) all.looked);
        },
      )

  pub certified : (n t : ℕ) (w : World) (looks : List Look) (calls : ℕ) → IsOpening setup first → AreNumbered notes → n ≡ length notes → t ≡ n
      → Followed P C F first notes n histories t w looks calls
      → ((maps : ℕ → ℕ → Option PageInfo) → AreLooked n maps w.slots.info n histories looks → AllGoAlong n maps histories)
      → IsCertified P C F setup notes histories calls
  certified n t w looks calls o numbered e end h along =
      let opening = new_world (made_of setup) o.slots in
      let few = few_cores setup o.sound in
      let all = subst (λ k. Followed P C F opening notes k histories k w looks calls) e (opened n t n w looks calls o end h) in
      let each = subst (λ k. (maps : ℕ → ℕ → Option PageInfo) → AreLooked k maps w.slots.info k histories looks → AllGoAlong k maps histories) e along in
      let es = events_of (in_order (length notes) notes) in
      let os = outcomes_of (in_order (length notes) notes) in
      record {
        plain = record {
          numbered = numbered;
          requests = w.calls.requests;
          log = w.calls.log;
          plain = plainly (made_of setup) o.slots es os w few o.new.new all.run;
          brackets = bracketed (made_of setup) o.slots es os w few o.new.new all.run;
          calls = all.calls;
        };
        slots = o.slots;
        new = o.new;
        run = record {
          end = w;
          run = all.run;
          as_map = all.as_map;
          sound = runs_sound (made_of setup) o.slots es os w few o.new.new all.run;
        };
        requests = refl;
        log = refl;
        states = all.states;
        are_states = all.are_states;
        end = all.now;
        along = each (maps_of all.states) all.looked;
      }
