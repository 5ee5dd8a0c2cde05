-- What is known of opened machines, and how outcomes come together
use Rattle.machine_model.proofs.Words.{◌≡◌, ℕ, ◌<◌, ◌≤◌, Bool, true, false, List, [], ◌∷◌, length, slice_get, None, Some, refl, sym, ◌∙◌, ap, subst}
use Rattle.machine_model.proofs.Words.{arith, nat_tests}
use Rattle.machine_model.proofs.Words.{World, Made, Run, new_world, Replays, Plain, nothing_mapped, Slots, IsNew, Reply}
use Rattle.machine_model.specs.declared.event.Event.{Event}
use Rattle.machine_model.specs.declared.event.Outcome.{Outcome}
use Rattle.machine_model.specs.declared.phase.Phase.TheVariants.{Free}
use Rattle.std.proofs.Common.{nat_lt, ◌^◌, ◌++◌, ◌⊎◌, inl, inr, IfSome}
use Rattle.slot_lock.specs.declared.map_list.MapLine.{MapLine}
use Rattle.slot_lock.specs.MapList.{plain_metas}
use Rattle.slot_lock.proofs.OneMapList.{one_list}
use Rattle.machine_model.specs.Log.{LeadsTo}
use Rattle.machine_model.specs.Sound.{IsReached, IsSoundState, SoundRun}
use Rattle.machine_model.proofs.SoundKept.{reached_fine}
use Rattle.machine_model.specs.declared.setup.Setup.{Setup}
use Rattle.machine_model.specs.Setups.{fault_of, made_of}
use Rattle.core_steps.proofs.Keeping.{step_made}
use Rattle.core_steps.proofs.Reached.{few_cores}
use Rattle.frames.specs.Files.{FileParts, files_of}
use Rattle.litmus_merges.specs.declared.asked.Asked.{Asked}
use Rattle.litmus_merges.specs.declared.change.MapChange.{MapChange}
use Rattle.litmus_merges.specs.declared.ending.End.{End}
use Rattle.litmus_merges.specs.Mappings.{AreMaps, IsSight}
use Rattle.litmus_merges.specs.Nodes.{AreAll, AreOnce, HasEnd, HasEndOf}
use Rattle.litmus_merges.specs.Steps.{map_of}
use Rattle.litmus_merges.proofs.Lists.{get_one, get_some, get_within, old_or_new, told_one}
use Rattle.litmus_outcomes.specs.Performed.{ArePlain, FinalsAreShown}
use Rattle.litmus_merges.specs.Finals.{loads_by}
use Rattle.litmus_outcomes.specs.declared.outcome.LitmusOutcome.{LitmusOutcome}
use Rattle.litmus_outcomes.specs.declared.outcome.Outcomes.{Outcomes}
use Rattle.trace_words.specs.Declarations.{DeclarationView}
use Rattle.litmus_outcomes.specs.declared.fault.Late.{Late}
use Rattle.litmus_outcomes.specs.declared.fault.Late.TheVariants as LateOf
use Rattle.litmus_outcomes.specs.Faults.{Faults, fault_by}
use Rattle.litmus_outcomes.specs.Leading.{AreOfLog}
use Rattle.litmus_outcomes.specs.Listing.{AreListed, AreSeen, IsOf, IsSeen}
use Rattle.litmus_outcomes.specs.Opening.{AreAlike, IsCalm, IsRun}
use Rattle.litmus_outcomes.specs.Outcomes.{AreOutcomes, Has, HasMaps, IsOpened, IsWitness, Performs}

-- ---- runs

-- the last state of a sound run is sound
sound_end : (w : World) (es : List Event) (os : List Outcome) (v : World) → SoundRun w es os v → IsSoundState v
sound_end w [] [] v s = subst IsSoundState (sym s.1) s.0
sound_end w (e ∷ es) (o ∷ os) v s = sound_end s.1.0 es os v s.1.3
sound_end w [] (o ∷ os) v s = absurd s
sound_end w (e ∷ es) [] v s = absurd s

run_made : (w : World) (es : List Event) (os : List Outcome) (v : World) → Run w es os v → v.made ≡ w.made
run_made w [] [] v r = ap (λ (u : World). u.made) r
run_made w (e ∷ es) (o ∷ os) v r = run_made r.0 es os v r.2 ∙ step_made w e o r.0 r.1
run_made w [] (o ∷ os) v r = absurd r
run_made w (e ∷ es) [] v r = absurd r

pub is_run : {A : Type 0} (s : Setup A) (slots : Slots) (es : List Event) (os : List Outcome) (w : World) → fault_of s ≡ None → IsNew slots
    → Run (new_world (made_of s) slots) es os w → SoundRun (new_world (made_of s) slots) es os w → IsRun (made_of s) es w
is_run s slots es os w fine new run sound = record {
  few = few_cores s fine;
  slots = slots;
  new = new;
  results = os;
  run = run;
  made_is = run_made (new_world (made_of s) slots) es os w run;
  sound = sound_end (new_world (made_of s) slots) es os w sound;
}

is_reached : (made : Made) (es : List Event) (w : World) → IsRun made es w → IsReached w
is_reached made es w r = record { made = made; few = r.few; slots = r.slots; events = es; outcomes = r.results; new = r.new; run = r.run }

pub is_calm : (made : Made) (es : List Event) (w : World) → IsRun made es w → ((c : ℕ) → c < 64 → c < w.made.cores → w.calls.phase c ≡ Free) → IsCalm made es w
is_calm made es w r free = record { by = r; free = λ c. at c (nat_lt c w.made.cores) refl }
  where
    few : w.made.cores ≤ 64
    few = subst (λ (m : Made). m.cores ≤ 64) (sym r.made_is) r.few

    at : (c : ℕ) (b : Bool) → nat_lt c w.made.cores ≡ b → w.calls.phase c ≡ Free
    at c true e = let lt : c < w.made.cores = grind (arith, nat_tests, e) in free c (omega (arith, lt, few)) lt
    at c false e = let le : w.made.cores ≤ c = grind (arith, nat_tests, e) in (reached_fine w (is_reached made es w r)).order.outside c le

-- with the map to which its log leads
pub is_opened : (made : Made) (es : List Event) (t : Plain) (w : World) → IsCalm made es w → LeadsTo w t → IsOpened made es t w
is_opened made es t w calm leads = record {
  slots = calm.by.slots;
  new = calm.by.new;
  results = calm.by.results;
  run = calm.by.run;
  free = calm.free;
  log = leads;
}

-- ---- witnesses

leads_alike : (w v : World) (t : Plain) → w.made ≡ v.made → AreAlike w v → LeadsTo w t → LeadsTo v t
leads_alike w v t made alike h =
    subst (λ rs. Replays rs (nothing_mapped v.made.file) v.calls.log t) alike.requests
    (subst (λ l. Replays w.calls.requests (nothing_mapped v.made.file) l t) alike.log
    (subst (λ (m : Made). Replays w.calls.requests (nothing_mapped m.file) w.calls.log t) made h))

pub witnessed : (made : Made) (es : List Event) (w v u : World) (calls loads : List Asked) (maps : Bool) (replies finals : List Reply)
    (lines : List MapLine) (first later : List Event) → IsCalm made es w → IsCalm made es v → AreAlike w v
    → (m : World) × Performs calls replies v first m × Performs loads finals m later u × HasMaps maps u lines
    → (t : Plain) → LeadsTo w t → IsWitness made es t calls loads maps replies finals lines (first ++ later)
witnessed made es w v u calls loads maps replies finals lines first later calm other alike performs t leads = record {
  before = v;
  mid = performs.0;
  after = u;
  first = first;
  later = later;
  are = refl;
  opened = is_opened made es t v other (leads_alike w v t (calm.by.made_is ∙ sym other.by.made_is) alike leads);
  performs = performs.1;
  shows = performs.2;
  mapped = performs.3;
}

-- ---- what is explored

pub all_from : {A : Type 0} (objects : List FileParts) (steps : List MapChange) (w : World) (calls : List Asked) (addrs : List ℕ) (maps : Bool) (ends : List (End A))
    → files_of objects ≡ w.made.file → AreOfLog objects w.calls.requests w.calls.log steps → AreAll calls addrs maps (map_of objects steps) ends
    → (t : Plain) → LeadsTo w t → AreAll calls addrs maps t ends
all_from objects steps w calls addrs maps ends files of all t leads =
    let same : t ≡ map_of objects steps = of.one t (subst (λ f. Replays w.calls.requests (nothing_mapped f) w.calls.log t) (sym files) leads) in
    subst (λ (m : Plain). AreAll calls addrs maps m ends) (sym same) all

-- ---- the list

pub has_listed : {A : Type 0} (ends : List (End A)) (list : List (LitmusOutcome A)) (replies finals : List Reply) (lines : List MapLine) → AreListed ends list
    → HasEnd ends replies finals lines → Has list replies finals lines
has_listed ends list replies finals lines listed has =
    let within = get_within ends has.0 has.1 has.2 in
    let long = listed.0 in
    let one = get_some list has.0 (omega (arith, within, long)) in
    let of = listed.1 has.0 has.1 one.0 has.2 one.1 in
    (has.0, one.0, one.1, of.replies ∙ has.3, of.finals ∙ has.4, of.maps ∙ has.5)

pub once_listed : {A : Type 0} (ends : List (End A)) (list : List (LitmusOutcome A)) → AreListed ends list → AreOnce ends → (j k : ℕ) (one other : LitmusOutcome A)
    → slice_get list j ≡ Some one → slice_get list k ≡ Some other → one.replies.items ≡ other.replies.items
    → one.finals.items ≡ other.finals.items → one.maps.items ≡ other.maps.items → j ≡ k
once_listed ends list listed once j k one other e f same alike mapped =
    let long = listed.0 in
    let in-j = get_within list j one e in
    let in-k = get_within list k other f in
    let first = get_some ends j (omega (arith, in-j, long)) in
    let second = get_some ends k (omega (arith, in-k, long)) in
    let a = listed.1 j first.0 one first.1 e in
    let b = listed.1 k second.0 other second.1 f in
    once j k first.0 second.0 first.1 second.1 (sym a.replies ∙ (same ∙ b.replies)) (sym a.finals ∙ (alike ∙ b.finals))
    (sym a.maps ∙ (mapped ∙ b.maps))

-- a map has one list of mappings
maps_one : (maps : Bool) (u : Plain) (xs ys : List MapLine) → AreMaps maps u xs → AreMaps maps u ys → xs ≡ ys
maps_one true u xs ys h k = one_list (plain_metas u) 1 (2 ^ 35) xs ys h k
maps_one false u xs ys h k = h ∙ sym k

-- what is seen of a map is one
sight_one : {A : Type 0} (ends : List (End A)) (replies finals : List Reply) (lines : List MapLine) (addrs : List ℕ) (maps : Bool) (u : Plain)
    → IsSight u addrs maps finals lines → HasEndOf ends replies addrs maps u → HasEnd ends replies finals lines
sight_one ends replies finals lines addrs maps u seen has =
    let its = has.2 in
    let shown : has.0 ≡ finals = told_one has.0 finals (sym its.0 ∙ seen.0) in
    let mapped : has.1 ≡ lines = maps_one maps u has.1 lines its.1 seen.1 in
    subst (λ ys. HasEnd ends replies ys lines) shown (subst (HasEnd ends replies has.0) mapped has.3)

pub are_outcomes : {A : Type 0} (made : Made) (calls loads : List Asked) (addrs : List ℕ) (maps : Bool) (it : Outcomes A) (ends : List (End A)) (w : World)
    → FinalsAreShown → loads ≡ loads_by 0 addrs → IsCalm made it.opening.items w → AreListed ends it.list.items → AreOnce ends
    → (it.whole ≡ true → (t : Plain) → LeadsTo w t → AreAll calls addrs maps t ends)
    → ((t : Plain) → LeadsTo w t → AreSeen made it.opening.items t calls loads maps it.list.items)
    → AreOutcomes made calls addrs maps it
are_outcomes {A} made calls loads addrs maps it ends w law are calm listed once all seen = record {
  map = t;
  state = w;
  opened = is_opened made it.opening.items t w calm leads;
  reached = λ k one events is witness. subst (λ (ls : List Asked). IsWitness made it.opening.items t calls ls maps one.replies.items one.finals.items
      one.maps.items events.items)
      are (seen t leads k one is events witness);
  all = every;
  once = once_listed ends it.list.items listed once;
}
  where
    t : Plain
    t = calm.by.sound.0

    leads : LeadsTo w t
    leads = calm.by.sound.1.log

    every : it.whole ≡ true → (v m x : World) (events later : List Event) (replies finals : List Reply) (lines : List MapLine) (core : ℕ)
        → IsOpened made it.opening.items t v → Performs calls replies v events m → ArePlain replies
        → Performs (loads_by core addrs) finals m later x → ArePlain finals → HasMaps maps x lines
        → Has it.list.items replies finals lines
    every whole v m x events later replies finals lines core o p plain q bare mapped =
        let end = law v m x t events later p.results q.results calls replies finals core addrs
        (record { made = made; few = calm.by.few; slots = o.slots; events = it.opening.items; outcomes = o.results; new = o.new; run = o.run })
        (record { free = o.free; leads = o.log }) p.run p.says plain q.run q.says bare in
        has_listed ends it.list.items replies finals lines listed
        (sight_one ends replies finals lines addrs maps end.0 (end.2, mapped end.0 end.3.leads) (all whole t leads replies end.0 end.1))

-- ---- one outcome more

-- the outcome at a place is that of the end there
abbrev pub EachListed : {A : Type 0} → List (End A) → List (LitmusOutcome A) → Type 0
EachListed {A} ends list = (k : ℕ) (end : End A) (one : LitmusOutcome A) → slice_get ends k ≡ Some end → slice_get list k ≡ Some one → IsOf end one

pub listed_none : {A : Type 0} (ends : List (End A)) (list : List (LitmusOutcome A)) → list ≡ [] → EachListed ends list
listed_none ends list none = subst (EachListed ends) (sym none) (λ k end one e f. absurd cc)

pub listed_more : {A : Type 0} (ends : List (End A)) (list new : List (LitmusOutcome A)) (end : End A) (one : LitmusOutcome A) → new ≡ list ++ one ∷ [] → EachListed ends list
    → slice_get ends (length list) ≡ Some end → IsOf end one → EachListed ends new
listed_more {A} ends list new end one more each is of = subst (EachListed ends) (sym more) (λ k other x e f. by k other x e (old_or_new list one x k f))
  where
    by : (k : ℕ) (other : End A) (x : LitmusOutcome A) → slice_get ends k ≡ Some other → (slice_get list k ≡ Some x) ⊎ ((k ≡ length list) × (one ≡ x)) → IsOf other x
    by k other x e (inl old) = each k other x e old
    by k other x e (inr here) =
        let same : end ≡ other = get_one ends (length list) end other is (subst (λ (n : ℕ). slice_get ends n ≡ Some other) here.0 e) in
        subst (λ (y : End A). IsOf y x) same (subst (IsOf end) here.1 of)

pub seen_none : {A : Type 0} (made : Made) (es : List Event) (t : Plain) (calls loads : List Asked) (maps : Bool) (list : List (LitmusOutcome A)) → list ≡ []
    → AreSeen made es t calls loads maps list
seen_none made es t calls loads maps list none = subst (AreSeen made es t calls loads maps) (sym none) (λ k one e. absurd cc)

pub seen_more : {A : Type 0} (made : Made) (es : List Event) (t : Plain) (calls loads : List Asked) (maps : Bool) (list new : List (LitmusOutcome A)) (one : LitmusOutcome A)
    → new ≡ list ++ one ∷ [] → AreSeen made es t calls loads maps list → IsSeen made es t calls loads maps one → AreSeen made es t calls loads maps new
seen_more {A} made es t calls loads maps list new one more seen h =
    subst (AreSeen made es t calls loads maps) (sym more) (λ k x e. by k x (old_or_new list one x k e))
  where
    by : (k : ℕ) (x : LitmusOutcome A) → (slice_get list k ≡ Some x) ⊎ ((k ≡ length list) × (one ≡ x)) → IsSeen made es t calls loads maps x
    by k x (inl old) = seen k x old
    by k x (inr here) = subst (IsSeen made es t calls loads maps) here.1 h

-- a witness, if one was found
pub seen_by : {A : Type 0} (made : Made) (es : List Event) (w : World) (calls loads : List Asked) (maps : Bool) (end : End A) (one : LitmusOutcome A) → IsOf end one
    → IfSome one.witness (λ events. (t : Plain) → LeadsTo w t → IsWitness made es t calls loads maps end.replies.items end.finals.items
    end.maps.items events.items) → (t : Plain) → LeadsTo w t → IsSeen made es t calls loads maps one
seen_by made es w calls loads maps end one of found t leads events is =
    subst (λ (rs : List Reply). IsWitness made es t calls loads maps rs one.finals.items one.maps.items events.items) (sym of.replies)
    (subst (λ (rs : List Reply). IsWitness made es t calls loads maps end.replies.items rs one.maps.items events.items) (sym of.finals)
    (subst (λ (ls : List MapLine). IsWitness made es t calls loads maps end.replies.items end.finals.items ls events.items) (sym of.maps)
    (subst (λ o. IfSome o (λ events. (t : Plain) → LeadsTo w t
    → IsWitness made es t calls loads maps end.replies.items end.finals.items end.maps.items events.items)) is found t leads)))

-- ---- faults

pub late_faults : (declared : DeclarationView) (calls : List Asked) (late : Late) → Faults declared calls (fault_by late)
late_faults declared calls (LateOf.Open core) = tt
late_faults declared calls LateOf.NotLed = tt
late_faults declared calls LateOf.NoMemory = tt
