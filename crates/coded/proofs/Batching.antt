-- Batches that grow by one event
use Rattle.machine_model.proofs.Words.{◌≡◌, ℕ, Bool, false, ◌+◌, ◌<◌, ◌≤◌, List, [], ◌∷◌, ◌++◌, refl, sym, subst, ap, ◌∙◌, take, drop, map, length, get_or}
use Rattle.machine_model.proofs.Words.{set, arith, Ok, Err, length-map, slice_get-get_or, World, Made, new_world, Slots, IsNew}
use Rattle.std.specs.Prelude.{Option, Some}
use Rattle.std.proofs.lemmas.List.{drop_more, set_at, set-get_or, length-append, map_push, map_more}
use Rattle.core_steps.specs.Moving.{MayWant}
use Rattle.shared.proofs.Places.{one_longer, said_more, same_place, told_more}
use Rattle.coded.specs.declared.batch.BatchStop.{BatchStop}
use Rattle.coded.specs.declared.batch.BatchStop.TheVariants.{BadEvent, NoMemory}
use Rattle.machine_model.proofs.Bracketed.{bracketed}
use Rattle.machine_model.proofs.SoundKept.{run_more, runs_sound, reached_opening}
use Rattle.core_steps.specs.Machine.{IsLegal}
use Rattle.core_steps.proofs.Reached.{legal}
use Rattle.core_steps.proofs.Runs.{plainly}
use Rattle.coded.specs.declared.batch.BatchEnd.{BatchEnd}
use Rattle.coded.specs.declared.opening.RawSetup.{RawSetup}
use Rattle.coded.specs.declared.opening.RawFile.{RawFile}
use Rattle.coded.specs.Opening.{IsMade, OpensAs}
use Rattle.core_steps.specs.declared.machine.Finished.{Finished}
use Rattle.coded.specs.declared.codes.BatchItem.{BatchItem}
use Rattle.coded.specs.declared.codes.RawEvent.{RawEvent}
use Rattle.coded.specs.declared.codes.RawOutcome.{RawOutcome}
use Rattle.coded.specs.Codes.{event_of, item_of, outcome_code, finished_code}
use Rattle.coded.specs.Batches.{RunsFirst, Takes, TakesItem, MakesFirst, Makes, MakesAll, MakesUntil, StopsAt, RanOnNew, MadeOnNew}

-- ---- events

pub runs_none : (w : World) (raws : List RawEvent) (was : List RawOutcome) → RunsFirst w raws 0 was was w
runs_none w raws was = record { events = []; outcomes = []; said = refl; run = refl; count = refl; told = refl }

pub runs_more : (keeps : Bool) (w : World) (raws : List RawEvent) (n : ℕ) (was now : List RawOutcome) (m : World) (d : RawEvent) (put : RawOutcome)
    (u : Unit {0}) (v : World) → n < length raws → length raws ≤ length was → Takes keeps m (get_or raws n d) put (Ok u) put v → RunsFirst w raws n was now m
    → RunsFirst w raws (n + 1) was (set now n put) v
runs_more keeps w raws n was now m d put u v low room takes h = record {
  events = h.events ++ takes.0 ∷ [];
  outcomes = h.outcomes ++ takes.1 ∷ [];
  said = said_more event_of raws n d h.events takes.0 low takes.2 h.said;
  run = run_more h.events h.outcomes w m v takes.0 takes.1 h.run takes.3;
  count = one_longer h.outcomes takes.1 n h.count;
  told = let inside : n < length was = omega (arith, low, room) in
      ap (λ x. set now n x) takes.4 ∙ told_more outcome_code h.outcomes takes.1 n was now h.count inside h.told;
}

-- an event that isn't taken leaves what is told, and the machine
pub runs_still : (keeps : Bool) (w : World) (raws : List RawEvent) (n : ℕ) (was now : List RawOutcome) (m : World) (d : RawEvent) (c put : RawOutcome)
    (stop : BatchStop) (v : World) → Takes keeps m (get_or raws n d) (get_or now n c) (Err stop) put v → RunsFirst w raws n was now m
    → RunsFirst w raws n was (set now n put) v
runs_still keeps w raws n was now m d c put BadEvent v takes h =
    subst (λ x. RunsFirst w raws n was (set now n put) x) (sym takes.1)
    (subst (λ xs. RunsFirst w raws n was xs m) (sym (same_place now n c put takes.2)) h)
runs_still keeps w raws n was now m d c put NoMemory v takes h =
    subst (λ x. RunsFirst w raws n was (set now n put) x) (sym takes.3)
    (subst (λ xs. RunsFirst w raws n was xs m) (sym (same_place now n c put takes.4)) h)

pub stops_at : (keeps : Bool) (raws : List RawEvent) (n : ℕ) (m : World) (d : RawEvent) (c put : RawOutcome) (stop : BatchStop) (v : World) → n < length raws
    → Takes keeps m (get_or raws n d) c (Err stop) put v → StopsAt keeps raws (Some stop) n v
stops_at keeps raws n m d c put BadEvent v low takes = (get_or raws n d, slice_get-get_or raws n d low, takes.0)
stops_at keeps raws n m d c put NoMemory v low takes = (
  get_or raws n d,
  slice_get-get_or raws n d low,
  (takes.0, takes.1, subst (λ x. MayWant keeps x takes.0) (sym takes.3) takes.2),
)

-- ---- items

all_more : (is : List BatchItem) (fs : List Finished) (w m v : World) (i : BatchItem) (f : Finished) → MakesAll w is fs m → Makes m i f v
    → MakesAll w (is ++ i ∷ []) (fs ++ f ∷ []) v
all_more [] [] w m v i f r s = (v, subst (λ w. Makes w i f v) r s, refl)
all_more [] (g ∷ fs) w m v i f r s = absurd r
all_more (j ∷ is) [] w m v i f r s = absurd r
all_more (j ∷ is) (g ∷ fs) w m v i f r s = (r.0, r.1, all_more is fs r.0 m v i f r.2 s)

pub makes_none : (w : World) (raws : List RawEvent) (was : List RawOutcome) → MakesFirst w raws 0 was was w
makes_none w raws was = record { items = []; finished = []; said = refl; made = refl; count = refl; told = refl }

pub makes_more : (keeps : Bool) (w : World) (raws : List RawEvent) (n : ℕ) (was now : List RawOutcome) (m : World) (d : RawEvent) (put : RawOutcome)
    (u : Unit {0}) (v : World) → n < length raws → length raws ≤ length was → TakesItem keeps m (get_or raws n d) put (Ok u) put v
    → MakesFirst w raws n was now m → MakesFirst w raws (n + 1) was (set now n put) v
makes_more keeps w raws n was now m d put u v low room takes h = record {
  items = h.items ++ takes.0 ∷ [];
  finished = h.finished ++ takes.1 ∷ [];
  said = said_more item_of raws n d h.items takes.0 low takes.2 h.said;
  made = all_more h.items h.finished w m v takes.0 takes.1 h.made takes.3;
  count = one_longer h.finished takes.1 n h.count;
  told = let inside : n < length was = omega (arith, low, room) in
      ap (λ x. set now n x) takes.4 ∙ told_more finished_code h.finished takes.1 n was now h.count inside h.told;
}

pub makes_still : (keeps : Bool) (w : World) (raws : List RawEvent) (n : ℕ) (was now : List RawOutcome) (m : World) (d : RawEvent) (c put : RawOutcome)
    (stop : BatchStop) (v : World) → n < length raws → TakesItem keeps m (get_or raws n d) (get_or now n c) (Err stop) put v → MakesFirst w raws n was now m
    → MakesUntil keeps w raws (record { stop = Some stop; count = n }) was (set now n put) v
makes_still keeps w raws n was now m d c put BadEvent v low takes h = (
  m,
  subst (λ xs. MakesFirst w raws n was xs m) (sym (same_place now n c put takes.2)) h,
  (get_or raws n d, slice_get-get_or raws n d low, takes.0, takes.1),
)
makes_still keeps w raws n was now m d c put NoMemory v low takes h = (
  m,
  subst (λ xs. MakesFirst w raws n was xs m) (sym (same_place now n c put takes.3)) h,
  (get_or raws n d, slice_get-get_or raws n d low, (takes.0, takes.1, takes.2)),
)

-- ---- on a new machine

ran_new : (setup : RawSetup) (files : List RawFile) (buffer : List ℕ) (raws : List RawEvent) (was : List RawOutcome) (ended : BatchEnd) (told : List RawOutcome)
    (made : Made) (slots : Slots) (v : World) → IsMade setup files buffer made → IsNew slots → RunsFirst (new_world made slots) raws ended.count was told v
    → StopsAt false raws ended.stop ended.count v → RanOnNew setup files buffer raws was ended told
ran_new setup files buffer raws was ended told made slots v is new h stops = record {
  made = made;
  is_made = is;
  slots = slots;
  new = new;
  last = v;
  runs = h;
  stops = stops;
  plain = plainly made slots h.events h.outcomes v is.few new h.run;
  brackets = bracketed made slots h.events h.outcomes v is.few new h.run;
  sound = runs_sound made slots h.events h.outcomes v is.few new h.run;
}

pub ran : (setup : RawSetup) (files : List RawFile) (buffer : List ℕ) (raws : List RawEvent) (was : List RawOutcome) (ended : BatchEnd) (told : List RawOutcome)
    (w v : World) → OpensAs setup files buffer w → RunsFirst w raws ended.count was told v → StopsAt false raws ended.stop ended.count v
    → RanOnNew setup files buffer raws was ended told
ran setup files buffer raws was ended told w v opens h stops =
    ran_new setup files buffer raws was ended told opens.0 opens.1 v opens.2 opens.3
    (subst (λ u. RunsFirst u raws ended.count was told v) opens.4 h) stops

pub made_on : (setup : RawSetup) (files : List RawFile) (buffer : List ℕ) (raws : List RawEvent) (was : List RawOutcome) (ended : BatchEnd)
    (told : List RawOutcome) (w v : World) → OpensAs setup files buffer w → MakesUntil false w raws ended was told v → (IsLegal w → IsLegal v)
    → MadeOnNew setup files buffer raws was ended told
made_on setup files buffer raws was ended told w v opens makes keeps =
    let first : IsLegal (new_world opens.0 opens.1) = legal _ ∣ reached_opening opens.0 opens.1 opens.2.few opens.3 ∣₁ in
    record {
      made = opens.0;
      is_made = opens.2;
      slots = opens.1;
      new = opens.3;
      last = v;
      makes = subst (λ u. MakesUntil false u raws ended was told v) opens.4 makes;
      legal = keeps (subst IsLegal (sym opens.4) first);
    }
