-- What lanes come to, all together
use Rattle.std.proofs.Common.{◌≡◌, ℕ, zero, suc, ◌/◌, ◌<◌, List, [], ◌∷◌, ◌++◌, length, map, take, drop, get_or, append-nil}
use Rattle.std.proofs.Common.{arith, refl, sym, ap, ◌∙◌, subst}
use Rattle.std.proofs.lemmas.List.{drop_all, get_or-map, length-map, map-append, take_all}
use Rattle.std.proofs.lemmas.List.Elements.{All-append}
use Rattle.std.specs.Prelude.{All, Option, None, Some}
use Rattle.machine_model.specs.declared.setup.Setup.{Setup}
use Rattle.machine_model.specs.Setups.{made_of}
use Rattle.machine_model.specs.World.{Made}
use Rattle.seats.specs.Notes.{SeatView}
use Rattle.seats.specs.declared.noted.Noted.{Noted}
use Rattle.live_space.proofs.Own.{fresh_own}
use Rattle.live_space.specs.Space.{AreFresh, IsFresh, IsMade, IsOf, LiveView}
use Rattle.live_space.specs.declared.fault.LiveFault.{LiveFault}
use Rattle.trace_words.specs.Declarations.{DeclarationView, asked_fault, made_by}
use Rattle.trace_words.specs.Scripts.{Scripted}
use Rattle.live_script.specs.declared.lane.Lane.{Lane}
use Rattle.live_script.specs.Certified.{AreRising}
use Rattle.live_script.specs.Tasks.{EndsAs}
use Rattle.live_script.specs.Runs.{EndEach, HasDone, HasStopped, IsBegun, IsLeastStop, RanView, RunsAll, first_fault}

-- ---- the first fault

-- there is none
none_first : (fs : List (Option LiveFault)) (k : ℕ) → first_fault fs ≡ None → k < length fs → get_or fs k None ≡ None
none_first [] k e lt = absurd (omega arith)
none_first (None ∷ fs) zero e lt = refl
none_first (None ∷ fs) (suc k) e lt = none_first fs k e (omega arith)
none_first (Some f ∷ fs) k e lt = absurd (cc)

-- it is that of a place, before which there is none
record IsFirstAt (fs : List (Option LiveFault)) (fault : LiveFault) : Type 0 where
  at : ℕ
  within : at < length fs
  is : get_or fs at None ≡ Some fault
  below : (k : ℕ) → k < at → get_or fs k None ≡ None

some_first : (fs : List (Option LiveFault)) (fault : LiveFault) → first_fault fs ≡ Some fault → IsFirstAt fs fault
some_first [] fault e = absurd (cc)
some_first (None ∷ fs) fault e = let r = some_first fs fault e in record {
  at = suc r.at;
  within = omega (arith, r.within);
  is = r.is;
  below = below r.at r.below;
}
  where
    below : (n : ℕ) → ((k : ℕ) → k < n → get_or fs k None ≡ None) → (k : ℕ) → k < suc n → get_or (None ∷ fs) k None ≡ None
    below n h zero lt = refl
    below n h (suc k) lt = h k (omega arith)
some_first (Some f ∷ fs) fault e = record { at = zero; within = omega arith; is = e; below = λ k lt. absurd (omega arith) }

-- ---- lanes

abbrev pub seat_of : {A : Type 0} → Lane A → SeatView
seat_of lane = lane.seat

abbrev fault_of : {A : Type 0} → Lane A → Option LiveFault
fault_of lane = lane.fault

pub some_lane : {A : Type 0} (lanes : List (Lane A)) (k : ℕ) → k < length lanes → Lane A
some_lane [] k lt = absurd (omega arith)
some_lane (lane ∷ lanes) k lt = lane

-- a core's seat began with nothing noted, and ended so
record EndsAt (l : LiveView) (script : Scripted) (core : ℕ) (t : SeatView) (fault : Option LiveFault) : Type 0 where
  first : SeatView
  fresh : IsFresh l.word core first
  ends : EndsAs l first (get_or script.tasks core []) t fault

ends_at : {A : Type 0} (script : Scripted) (l : LiveView) (before after : List (Lane A)) → IsBegun script.asked l (map (λ lane. lane.seat) before)
    → EndEach l script.tasks before after → (k : ℕ) (d : SeatView) → k < script.asked.cores
    → EndsAt l script k (get_or (map (λ lane. lane.seat) after) k d) (get_or (map (λ lane. lane.fault) after) k None)
ends_at script l before after begun ends k d lt =
    let few : k < length before = omega (arith, lt, begun.fresh.count, length-map before seat_of) in
    let b = some_lane before k few in
    let long : k < length after = omega (arith, few, ends.count) in
    record {
      first = (get_or before k b).seat;
      fresh = subst (λ s. IsFresh l.word k s) (get_or-map seat_of before k b b.seat few) (begun.fresh.each k b.seat lt);
      ends = subst (λ s. EndsAs l (get_or before k b).seat (get_or script.tasks k []) s (get_or (map fault_of after) k None))
          (sym (get_or-map seat_of after k b d long))
          (subst (λ f. EndsAs l (get_or before k b).seat (get_or script.tasks k []) (get_or after k b).seat f)
          (sym (get_or-map fault_of after k b None long)) (ends.each k b b few));
    }

done_by : (l : LiveView) (script : Scripted) (core : ℕ) (t : SeatView) (fault : Option LiveFault) → EndsAt l script core t fault → fault ≡ None
    → HasDone l script core t
done_by l script core t fault h e = record {
  first = h.first;
  fresh = h.fresh;
  does = subst (λ f. EndsAs l h.first (get_or script.tasks core []) t f) e h.ends;
}

stopped_by : (l : LiveView) (script : Scripted) (core : ℕ) (t : SeatView) (fault : Option LiveFault) (f : LiveFault) → EndsAt l script core t fault
    → fault ≡ Some f → HasStopped l script core f
stopped_by l script core t fault f h e = record {
  first = h.first;
  fresh = h.fresh;
  last = t;
  stops = subst (λ g. EndsAs l h.first (get_or script.tasks core []) t g) e h.ends;
}

module _ {A : Type 0} (script : Scripted) (l : LiveView) (before after : List (Lane A))
    (begun : IsBegun script.asked l (map (λ lane. lane.seat) before)) (ends : EndEach l script.tasks before after) where
  faults_long : length (map fault_of after) ≡ script.asked.cores
  faults_long = omega (arith, length-map after fault_of, ends.count, begun.fresh.count, length-map before seat_of)

  all_done : first_fault (map (λ lane. lane.fault) after) ≡ None → RunsAll script l (map (λ lane. lane.seat) after)
  all_done e = record {
    declared = begun.declared;
    count = omega (arith, length-map after seat_of, ends.count, begun.fresh.count, length-map before seat_of);
    each = λ core d lt. done_by l script core _ _ (ends_at script l before after begun ends core d lt)
        (none_first (map fault_of after) core e (omega (arith, lt, faults_long)));
  }

  least_stop : (fault : LiveFault) → first_fault (map (λ lane. lane.fault) after) ≡ Some fault → IsLeastStop script fault
  least_stop fault e =
      let r = some_first (map fault_of after) fault e in
      let within : r.at < script.asked.cores = omega (arith, r.within, faults_long) in
      let any = (some_lane after r.at (omega (arith, r.within, length-map after fault_of))).seat in
      record {
        live = l;
        declared = begun.declared;
        core = r.at;
        within = within;
        stopped = stopped_by l script r.at _ _ fault (ends_at script l before after begun ends r.at any within) r.is;
        below = λ k lt. (
          get_or (map seat_of after) k any,
          done_by l script k _ _ (ends_at script l before after begun ends k any (omega (arith, lt, within))) (r.below k lt),
        );
      }

-- ---- the beginning

-- the seats of a space that was just made are its own
lanes_own : {A : Type 0} (asked : DeclarationView) (l : LiveView) (lanes : List (Lane A)) → IsBegun asked l (map (λ lane. lane.seat) lanes)
    → All (λ lane. IsOf l lane.seat) lanes
lanes_own asked l lanes begun k d lt =
    subst (λ s. IsOf l s) (get_or-map seat_of lanes k d d.seat lt)
    (fresh_own l asked.cores (map seat_of lanes) begun.declared.cores begun.fresh k d.seat (omega (arith, lt, length-map lanes seat_of)))

-- a space that was made of what is declared
begun_by : {A : Type 0} (asked : DeclarationView) (setup : Setup A) (l : LiveView) (seats : List SeatView) → asked_fault asked ≡ None
    → made_of setup ≡ made_by asked → IsMade setup l seats → IsBegun asked l seats
begun_by asked setup l seats sound made h = record {
  declared = record {
    sound = sound;
    cores = h.cores ∙ ap (λ (m : Made). m.cores) made;
    frames = h.frames ∙ ap (λ (m : Made). m.frames) made;
    file = h.file ∙ ap (λ (m : Made). m.file) made;
    share = h.share ∙ ap (λ (m : Made). m.calls / m.cores) made;
  };
  fresh = subst (λ n. AreFresh l.word n seats) (ap (λ (m : Made). m.cores) made) h.seats;
}

-- with a lane for each seat, where the declaration was read
pub begun_lanes : {A : Type 0} (asked declared : DeclarationView) (setup : Setup A) (l : LiveView) (seats : List SeatView) (lanes : List (Lane A))
    → declared ≡ asked → asked_fault declared ≡ None → made_of setup ≡ made_by declared → IsMade setup l seats
    → map (λ lane. lane.seat) lanes ≡ seats → IsBegun asked l (map (λ lane. lane.seat) lanes)
begun_lanes asked declared setup l seats lanes read sound made h same =
    subst (λ ss. IsBegun asked l ss) (sym same)
    (begun_by asked setup l seats (subst (λ a. asked_fault a ≡ None) read sound) (made ∙ ap made_by read) h)

-- ---- a space with its seats

-- as it is seen with these lanes
abbrev pub ran_of : {A : Type 0} → LiveView → List (Lane A) → RanView
ran_of live lanes = record { live = live; seats = map (λ lane. lane.seat) lanes }

pub own_in : {A : Type 0} (asked : DeclarationView) (ran : RanView) (l : LiveView) (items first : List (Lane A)) → ran_of l items ≡ ran
    → IsBegun asked ran.live ran.seats → first ≡ items → All (λ lane. IsOf l lane.seat) first
own_in asked ran l items first view begun same =
    subst (λ lanes. All (λ lane. IsOf l lane.seat) lanes) (sym same)
    (lanes_own asked l items (subst (λ (r : RanView). IsBegun asked r.live r.seats) (sym view) begun))

-- the first lanes are those of the space, which then has the last
module _ {A : Type 0} (script : Scripted) (ran : RanView) (l : LiveView) (items first last : List (Lane A)) (n : ℕ) (view : ran_of l items ≡ ran)
    (begun : IsBegun script.asked ran.live ran.seats) (same : first ≡ items) (len : length first ≡ n)
    (ends : EndEach l script.tasks first last) where
  begun_in : IsBegun script.asked l (map (λ lane. lane.seat) items)
  begun_in = subst (λ (r : RanView). IsBegun script.asked r.live r.seats) (sym view) begun

  ends_in : EndEach l script.tasks items last
  ends_in = subst (λ b. EndEach l script.tasks b last) same ends

  none_left : drop (length last) items ≡ []
  none_left = drop_all (length last) items (let e = ap length same in omega (arith, ends.count, e))

  pub are_last : take n (last ++ drop (length last) items) ≡ last
  are_last = ap (λ l. take n (last ++ l)) none_left ∙ ap (take n) (append-nil last) ∙ take_all n last (omega (arith, ends.count, len))

  module _ (seen : List (Lane A)) (fault : Option LiveFault) (are : seen ≡ take n (last ++ drop (length last) items))
      (is : fault ≡ first_fault (map (λ lane. lane.fault) seen)) where
    is_first : first_fault (map (λ lane. lane.fault) last) ≡ fault
    is_first = ap (λ ls. first_fault (map (λ lane. lane.fault) ls)) (sym (are ∙ are_last)) ∙ sym is

    pub ran_whole : fault ≡ None → RunsAll script l (map (λ lane. lane.seat) (take n (last ++ drop (length last) items)))
    ran_whole e =
        subst (λ ls. RunsAll script l (map (λ lane. lane.seat) ls)) (sym are_last)
        (all_done script l items last begun_in ends_in (is_first ∙ e))

    pub ran_least : (of : LiveFault) → fault ≡ Some of → IsLeastStop script of
    ran_least of e = least_stop script l items last begun_in ends_in of (is_first ∙ e)

-- ---- the notes

notes_of_seats : {A : Type 0} (lanes : List (Lane A)) → map (λ lane. lane.seat.notes) lanes ≡ map (λ s. s.notes) (map (λ lane. lane.seat) lanes)
notes_of_seats [] = refl
notes_of_seats (lane ∷ lanes) = ap (λ l. lane.seat.notes ∷ l) (notes_of_seats lanes)

pub notes_in_ran : {A X : Type 0} (f : X → List Noted) (ran : RanView) (l : LiveView) (items lanes : List (Lane A)) (given all : List X)
    → ran_of l items ≡ ran → lanes ≡ items → given ≡ all → map f all ≡ map (λ lane. lane.seat.notes) lanes → map f given ≡ map (λ s. s.notes) ran.seats
notes_in_ran f ran l items lanes given all view same are e =
    ap (map f) are ∙ e ∙ ap (λ ls. map (λ lane. lane.seat.notes) ls) same ∙ notes_of_seats items ∙ ap (λ (r : RanView). map (λ s. s.notes) r.seats) view

-- with the notes of one seat more
pub all_more : {X : Type 0} (P : List Noted → Type 0) (f : X → List Noted) (new all : List X) (x : X) → new ≡ all ++ x ∷ [] → All P (map f all) → P (f x)
    → All P (map f new)
all_more P f new all x is before one =
    subst (λ ls. All P ls) (sym (ap (map f) is ∙ map-append f all (x ∷ []))) (All-append P (map f all) (f x ∷ []) before last)
  where
    last : All P (f x ∷ [])
    last zero d lt = one
    last (suc k) d lt = absurd (omega arith)
