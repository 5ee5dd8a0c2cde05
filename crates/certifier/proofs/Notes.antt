-- Runs that grow by the note with the next ticket
use Rattle.machine_model.proofs.Words.{◌≡◌, ◌≢◌, ℕ, ◌+◌, ◌<◌, ◌≤◌, Bool, true, false, List, [], ◌∷◌, ◌++◌, refl, sym, subst, ap, ◌∙◌, arith, length, get_or}
use Rattle.machine_model.proofs.Words.{map, Some, None, Option, add-one, get_or_default, filter-append, Slots, World, new_world, Step, Run}
use Rattle.machine_model.proofs.Words.{PageRange}
use Rattle.machine_model.specs.declared.event.Event.{Event}
use Rattle.machine_model.specs.declared.event.Outcome.{Outcome}
use Rattle.std.proofs.Common.{filter}
use Rattle.std.specs.Prelude.{count_by, IfErr, IfNone, Result, Ok, Err}
use Rattle.std.proofs.lemmas.List.{map-append, length-append}
use Rattle.std.proofs.lemmas.List.Sums.{length-filter}
use Rattle.machine_model.proofs.SoundKept.{run_more}
use Rattle.machine_model.specs.declared.setup.Setup.{Setup}
use Rattle.core_steps.specs.Dividing.{DividesAsMap}
use Rattle.core_steps.specs.Moving.{JoinsAsMap}
use Rattle.core_steps.specs.Running.{RunsAsMap}
use Rattle.machine_model.specs.Setups.{fault_of, made_of}
use Rattle.core_steps.proofs.Runs.{as_map_more}
use Rattle.seats.specs.declared.noted.Noted.{Noted}
use Rattle.certifier.specs.declared.order.NotePlace.{NotePlace}
use Rattle.certifier.specs.declared.order.Standing.{Standing}
use Rattle.certifier.specs.declared.order.Standing.TheVariants.{No, Once}
use Rattle.certifier.specs.declared.result.CertifyFault.{CertifyFault}
use Rattle.certifier.specs.declared.result.CertifyFault.TheVariants.{Setup as OfSetup, Ticket, Differs, Slot, NoMemory}
use Rattle.certifier.specs.Following.{ComesNumbered, events_of, outcomes_of, event_of, outcome_of, answers_call, one_if, DiffersAt, IsNewTree}
use Rattle.certifier.specs.Order.{AreNumbered, IsFirstAmiss, all_notes, in_order, note_at, with_ticket}
use Rattle.certifier.specs.Standings.{AreStandings, IsPlace, Stands, is_once}
use Rattle.certifier.proofs.Standing.{no_more, not_once, once, place_within}

-- ---- the standings

-- how a ticket stands whose standing was read as one that stands once
read : (seats : List (List Noted)) (ss : List Standing) (t : ℕ) (d : Standing) (place : NotePlace) → AreStandings seats ss → t < length ss
    → get_or ss t d ≡ Once place → Stands seats (Once place) (with_ticket t (all_notes seats))
read seats ss t d place h lt e =
    subst (λ s. Stands seats s (with_ticket t (all_notes seats))) (get_or_default ss t No d lt ∙ e) (h.each t lt)

-- it has a place
pub place_there : (seats : List (List Noted)) (ss : List Standing) (t : ℕ) (d : Standing) (place : NotePlace) → AreStandings seats ss → t < length ss
    → get_or ss t d ≡ Once place → IsPlace seats place
place_there seats ss t d place h lt e =
    let one = read seats ss t d place h lt e in place_within seats place one.0 one.1

abbrev from : Option Noted → Noted → Noted
from None x = x
from (Some y) x = y

-- where its only note is
pub only : (seats : List (List Noted)) (ss : List Standing) (t : ℕ) (d : Standing) (place : NotePlace) (x : Noted) → AreStandings seats ss → t < length ss
    → get_or ss t d ≡ Once place → note_at seats place ≡ Some x → with_ticket t (all_notes seats) ≡ x ∷ []
only seats ss t d place x h lt e at =
    let one = read seats ss t d place h lt e in
    let same : x ≡ one.0 = ap (λ o. from o x) (sym at ∙ one.1) in
    one.2 ∙ ap (λ y. y ∷ []) (sym same)

-- every ticket stands once
pub numbered : (seats : List (List Noted)) (ss : List Standing) → AreStandings seats ss
    → ((t : ℕ) → t < length ss → is_once (get_or ss t No) ≡ true) → AreNumbered (all_notes seats)
numbered seats ss h all t lt =
    let count = h.count in
    let within : t < length ss = omega (arith, count, lt) in
    once seats (get_or ss t No) (with_ticket t (all_notes seats)) (all t within) (h.each t within)

-- since none doesn't
pub all_numbered : (seats : List (List Noted)) (ss : List Standing) (first : Option ℕ) → AreStandings seats ss
    → IfNone first ((t : ℕ) → t < length ss → is_once (get_or ss t No) ≡ true) → first ≡ None → AreNumbered (all_notes seats)
all_numbered seats ss None h all e = numbered seats ss h all
all_numbered seats ss (Some t) h all e = absurd (cc)

-- so that any fault may come
comes : (notes : List Noted) → AreNumbered notes → (fault : CertifyFault) → ComesNumbered notes fault
comes notes all (OfSetup f) = all
comes notes all (Ticket t) = tt
comes notes all (Differs t noted expected) = all
comes notes all (Slot page) = all
comes notes all NoMemory = all

pub any_numbered : {U : Type 0} (r : Result U CertifyFault) (notes : List Noted) → AreNumbered notes → IfErr r (ComesNumbered notes)
any_numbered (Ok u) notes all = tt
any_numbered (Err fault) notes all = comes notes all fault

-- the first that doesn't
pub amiss : (seats : List (List Noted)) (ss : List Standing) (t : ℕ) → AreStandings seats ss → t < length ss → is_once (get_or ss t No) ≡ false
    → ((u : ℕ) → u < t → is_once (get_or ss u No) ≡ true) → IsFirstAmiss (all_notes seats) t
amiss seats ss t h lt not_so below = record {
  within = let count = h.count in omega (arith, count, lt);
  amiss = not_once seats (get_or ss t No) (with_ticket t (all_notes seats)) not_so (h.each t lt);
  below = λ u less.
      let within : u < length ss = omega (arith, less, lt) in
      once seats (get_or ss u No) (with_ticket u (all_notes seats)) (below u less) (h.each u within);
}

-- ---- one note more

order_more : (notes : List Noted) (t : ℕ) (x : Noted) → with_ticket t notes ≡ x ∷ [] → in_order (t + 1) notes ≡ in_order t notes ++ x ∷ []
order_more notes t x is = ap (λ k. in_order k notes) (add-one t) ∙ ap (λ ys. in_order t notes ++ ys) is

pub next_note : (w : World) (notes : List Noted) (t : ℕ) (x : Noted) (m v : World) (o : Outcome) → with_ticket t notes ≡ x ∷ [] → o ≡ x.outcome
    → Run w (events_of (in_order t notes)) (outcomes_of (in_order t notes)) m → Step m x.event o v
    → Run w (events_of (in_order (t + 1) notes)) (outcomes_of (in_order (t + 1) notes)) v
next_note w notes t x m v o is same r s =
    let es = ap events_of (order_more notes t x is) ∙ map-append event_of (in_order t notes) (x ∷ []) in
    let os = ap outcomes_of (order_more notes t x is) ∙ map-append outcome_of (in_order t notes) (x ∷ []) in
    let step : Step m x.event x.outcome v = subst (λ (p : Outcome). Step m x.event p v) same s in
    subst (λ (es : List Event). Run w es (outcomes_of (in_order (t + 1) notes)) v) (sym es)
    (subst (λ (os : List Outcome). Run w (events_of (in_order t notes) ++ x.event ∷ []) os v) (sym os)
    (run_more (events_of (in_order t notes)) (outcomes_of (in_order t notes)) w m v x.event x.outcome r step))

pub next_joined : (P : PageRange → ℕ → ℕ → Bool) (C : Slots → ℕ → Type 0) (F : Slots → Slots → ℕ → Type 0) (w : World) (notes : List Noted) (t : ℕ) (x : Noted)
    (m v : World) (o : Outcome) → with_ticket t notes ≡ x ∷ [] → o ≡ x.outcome
    → RunsAsMap P C F w (events_of (in_order t notes)) (outcomes_of (in_order t notes)) m
    → Step m x.event o v → JoinsAsMap C F m x.event o v → DividesAsMap P m x.event o v
    → RunsAsMap P C F w (events_of (in_order (t + 1) notes)) (outcomes_of (in_order (t + 1) notes)) v
next_joined P C F w notes t x m v o is same r s j k =
    let es = ap events_of (order_more notes t x is) ∙ map-append event_of (in_order t notes) (x ∷ []) in
    let os = ap outcomes_of (order_more notes t x is) ∙ map-append outcome_of (in_order t notes) (x ∷ []) in
    let step : Step m x.event x.outcome v = subst (λ (p : Outcome). Step m x.event p v) same s in
    let join : JoinsAsMap C F m x.event x.outcome v = subst (λ (p : Outcome). JoinsAsMap C F m x.event p v) same j in
    let parts : DividesAsMap P m x.event x.outcome v = subst (λ (p : Outcome). DividesAsMap P m x.event p v) same k in
    subst (λ (es : List Event). RunsAsMap P C F w es (outcomes_of (in_order (t + 1) notes)) v) (sym es)
    (subst (λ (os : List Outcome). RunsAsMap P C F w (events_of (in_order t notes) ++ x.event ∷ []) os v) (sym os)
    (as_map_more P C F (events_of (in_order t notes)) (outcomes_of (in_order t notes)) w m v x.event x.outcome r step join parts))

count_more : (p : Noted → Bool) (xs ys : List Noted) → count_by p (xs ++ ys) ≡ count_by p xs + count_by p ys
count_more p xs ys =
    let all = length-filter p (xs ++ ys) in
    let parts = ap length (filter-append p xs ys) ∙ length-append (filter p xs) (filter p ys) in
    let a = length-filter p xs in
    let b = length-filter p ys in
    omega (arith, all, parts, a, b)

one_of : (b : Bool) (x : Noted) → answers_call x ≡ b → count_by answers_call (x ∷ []) ≡ one_if (answers_call x)
one_of true x e = rw e refl
one_of false x e = rw e refl

-- how many calls the notes up to t answer
pub counted : (notes : List Noted) (t : ℕ) (x : Noted) (calls : ℕ) → with_ticket t notes ≡ x ∷ [] → calls ≡ count_by answers_call (in_order t notes)
    → calls + one_if (answers_call x) ≡ count_by answers_call (in_order (t + 1) notes)
counted notes t x calls is c =
    let more = ap (count_by answers_call) (order_more notes t x is) ∙ count_more answers_call (in_order t notes) (x ∷ []) in
    let one = one_of (answers_call x) x refl in
    omega (arith, c, more, one)

-- ---- what it comes to

-- the machine comes to another outcome
pub differs : {A : Type 0} (P : PageRange → ℕ → ℕ → Bool) (C : Slots → ℕ → Type 0) (F : Slots → Slots → ℕ → Type 0) (setup : Setup A) (slots : Slots)
    (notes : List Noted) (t : ℕ) (x : Noted) (m v : World) (o : Outcome) → IsNewTree slots → with_ticket t notes ≡ x ∷ [] → o ≢ x.outcome
    → RunsAsMap P C F (new_world (made_of setup) slots) (events_of (in_order t notes)) (outcomes_of (in_order t notes)) m
    → Step m x.event o v → JoinsAsMap C F m x.event o v → DividesAsMap P m x.event o v → DiffersAt P C F setup notes t x.outcome o
differs P C F setup slots notes t x m v o new is other r s j k = record {
  slots = slots;
  new = new;
  note = x;
  ticket = is;
  noted_so = refl;
  differs = other;
  before = m;
  after = v;
  run = r;
  step = s;
  joins = j;
  divides = k;
}
