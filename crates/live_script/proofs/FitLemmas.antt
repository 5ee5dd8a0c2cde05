-- Notes of seats that do tasks are such as a line can have.
use Rattle.std.proofs.Common.{◌≡◌, ◌⊎◌, inl, inr, ℕ, ◌^◌, ◌<◌, ◌==◌, ◌&&◌, Bool, true, false, cond, List, [], ◌∷◌, ◌++◌, length, map}
use Rattle.std.proofs.Common.{get_or, arith, refl, sym, ap, ◌∙◌, subst}
use Rattle.std.specs.Prelude.{All, filter, flat_map}
use Rattle.std.specs.List.{AllByRecursion}
use Rattle.std.proofs.lemmas.Bool.{eq-eqb}
use Rattle.std.proofs.lemmas.Bool.Decides.{nat_tests}
use Rattle.std.proofs.lemmas.List.Elements.{recursion_from_All}
use Rattle.vm_base.specs.declared.replies.Reply.{Reply}
use Rattle.vm_base.specs.declared.replies.Reply.TheVariants.{NoMemory}
use Rattle.vm_base.specs.Pages.{is_page}
use Rattle.machine_model.specs.declared.event.Blocker.{Blocker}
use Rattle.machine_model.specs.declared.event.Event.{Event}
use Rattle.machine_model.specs.declared.event.Event.TheVariants as Ev
use Rattle.machine_model.specs.declared.event.Event.TheVariants.{Go, Frame, Guess, Whole, Take}
use Rattle.machine_model.specs.declared.event.Outcome.{Outcome}
use Rattle.machine_model.specs.declared.event.Outcome.TheVariants.{Stepped, Answered, Wait}
use Rattle.seats.specs.Fitting.{FitsAnswer, FitsBelow, FitsTypes}
use Rattle.seats.specs.Growing.{GivenUp, NotesIf, OneCall, are_steps, is_step}
use Rattle.seats.specs.Notes.{SeatView, noted}
use Rattle.seats.specs.declared.noted.Noted.{Noted}
use Rattle.certifier.specs.Order.{all_notes, with_ticket}
use Rattle.live_space.specs.Space.{LiveView}
use Rattle.notes_text.specs.Ordered.{AreInOrder}
use Rattle.trace_words.specs.Scripts.{ReadWhole, Scripted}
use Rattle.notes_text.specs.TextLaws.{FitsLine, SaysNotes, WaitsGoing}
use Rattle.notes_text.specs.WrittenLaws.{FitsEvent, FitsOutcome}
use Rattle.notes_text.specs.NotesWritten.{notes_text}
use Rattle.trace_words.specs.declared.script.Task.{Task}
use Rattle.trace_words.specs.declared.script.Task.TheVariants.{Call, Flush, Review}
use Rattle.notes_text.proofs.FitsLemmas.{scripts_declare}
use Rattle.notes_text.proofs.ShortLines.{lines_are_short}
use Rattle.notes_text.proofs.TextWritten.{written_is_said}
use Rattle.live_script.specs.Certified.{notes_in}
use Rattle.live_script.specs.ReadBack.{TextsAreReadBack}
use Rattle.live_script.specs.Runs.{RunsAll}
use Rattle.live_script.specs.Tasks.{Does, DoesAll}

-- ---- lists

all_append : {X : Type 0} (P : X → Type 0) (xs ys : List X) → AllByRecursion P xs → AllByRecursion P ys → AllByRecursion P (xs ++ ys)
all_append P [] ys h k = k
all_append P (x ∷ xs) ys h k = (h.0, all_append P xs ys h.1 k)

all_split : {X : Type 0} (P : X → Type 0) (xs ys : List X) → AllByRecursion P (xs ++ ys) → AllByRecursion P xs × AllByRecursion P ys
all_split P [] ys h = (tt, h)
all_split P (x ∷ xs) ys h = let rest = all_split P xs ys h.1 in ((h.0, rest.0), rest.1)

left_of : (a b : Bool) → (a && b) ≡ true → a ≡ true
left_of true b e = refl
left_of false b e = absurd cc

right_of : (a b : Bool) → (a && b) ≡ true → b ≡ true
right_of true b e = e
right_of false b e = absurd cc

-- ---- one note

-- what its types don't say of a note: its page is one that a line can have, and it is a step or an answer
record IsPlain (n : Noted) : Type 0 where
  page : FitsBelow (2 ^ 64) n.event → FitsEvent n.event
  outcome : (n.outcome ≡ Stepped) ⊎ ((reply : Reply) × (n.outcome ≡ Answered reply))

fits_outcome : (outcome : Outcome) → FitsAnswer outcome → (outcome ≡ Stepped) ⊎ ((reply : Reply) × (outcome ≡ Answered reply)) → FitsOutcome outcome
fits_outcome Stepped h is = tt
fits_outcome (Answered reply) h is = h
fits_outcome outcome h (inl is) = absurd cc
fits_outcome outcome h (inr (reply, is)) = absurd cc

never_waits : (n : Noted) → (n.outcome ≡ Stepped) ⊎ ((reply : Reply) × (n.outcome ≡ Answered reply)) → WaitsGoing n
never_waits n (inl is) blocker waits = absurd (let clash : Stepped ≡ Wait blocker = sym is ∙ waits in cc)
never_waits n (inr (reply, is)) blocker waits = absurd (let clash : Answered reply ≡ Wait blocker = sym is ∙ waits in cc)

fits_line : (n : Noted) → FitsTypes n → IsPlain n → FitsLine n
fits_line n typed plain = lines_are_short n (record {
  ticket = typed.ticket;
  event = plain.page typed.event;
  outcome = fits_outcome n.outcome typed.answer plain.outcome;
}) (never_waits n plain.outcome)

lines_fit : (ns : List Noted) → AllByRecursion FitsTypes ns → AllByRecursion IsPlain ns → AllByRecursion FitsLine ns
lines_fit [] h k = tt
lines_fit (n ∷ ns) h k = (fits_line n h.0 k.0, lines_fit ns h.1 k.1)

-- ---- what a seat notes

page_small : (page : ℕ) → is_page page ≡ true → page < 2 ^ 52
page_small page is = grind (arith, nat_tests)

step_plain : (core ticket : ℕ) (event : Event) (outcome : Outcome) → is_step core event outcome ≡ true → IsPlain (noted ticket event outcome)
step_plain core ticket (Go c) Stepped e = record { page = λ h. h; outcome = inl refl }
step_plain core ticket (Frame c frame) Stepped e = record { page = λ h. h; outcome = inl refl }
step_plain core ticket (Guess c page) Stepped e = record {
  page = λ h. (h.0, page_small page (right_of (c == core) (is_page page) e));
  outcome = inl refl;
}
step_plain core ticket (Whole c) Stepped e = record { page = λ h. h; outcome = inl refl }
step_plain core ticket (Take c) Stepped e = record { page = λ h. h; outcome = inl refl }
step_plain core ticket event outcome e = absurd cc

steps_plain : (core : ℕ) (ns : List Noted) → are_steps core ns ≡ true → AllByRecursion IsPlain ns
steps_plain core [] e = tt
steps_plain core (n ∷ ns) e = (
  step_plain core n.ticket n.event n.outcome (left_of (is_step core n.event n.outcome) (are_steps core ns) e),
  steps_plain core ns (right_of (is_step core n.event n.outcome) (are_steps core ns) e),
)

given_plain : (core : ℕ) (reply : Reply) (ns : List Noted) → GivenUp core reply ns → AllByRecursion IsPlain ns
given_plain core NoMemory ns h = subst (AllByRecursion IsPlain) (sym h.1) (record { page = λ f. f; outcome = inl refl }, tt)
given_plain core reply ns h = subst (AllByRecursion IsPlain) (sym h) tt

-- all notes of the seat are such
abbrev IsPlainSeat : SeatView → Type 0
IsPlainSeat s = AllByRecursion IsPlain s.notes

call_plain : (s t : SeatView) (request : _) (reply : Reply) → OneCall s request reply t → IsPlainSeat s → IsPlainSeat t
call_plain s t request reply one h =
    let steps = all_split IsPlain one.before one.after (steps_plain s.core (one.before ++ one.after) one.steps) in
    let between = all_append IsPlain (one.before ++ one.given) one.after
    (all_append IsPlain one.before one.given steps.0 (given_plain s.core reply one.given one.given_up)) steps.1 in
    let begun = all_append IsPlain s.notes (noted one.first (Ev.Call s.core request) Stepped ∷ (one.before ++ one.given ++ one.after)) h
    (record { page = λ f. f; outcome = inl refl }, between) in
    subst (AllByRecursion IsPlain) (sym one.are)
    (all_append IsPlain (s.notes ++ noted one.first (Ev.Call s.core request) Stepped ∷ (one.before ++ one.given ++ one.after))
    (noted one.last (Go s.core) (Answered reply) ∷ []) begun (record { page = λ f. f; outcome = inr (reply, refl) }, tt))

one_plain : (s t : SeatView) (room : ℕ) (event : Event) (is_noted : Bool) → (FitsBelow (2 ^ 64) event → FitsEvent event)
    → NotesIf (record s { room = room }) event is_noted t → IsPlainSeat s → IsPlainSeat t
one_plain s t room event true page (ticket, e) h = subst (AllByRecursion IsPlain) (sym (ap (λ (v : SeatView). v.notes) e))
    (all_append IsPlain s.notes (noted ticket event Stepped ∷ []) h (record { page = page; outcome = inl refl }, tt))
one_plain s t room event false page e h = subst (AllByRecursion IsPlain) (sym (ap (λ (v : SeatView). v.notes) e)) h

task_plain : (live : LiveView) (s t : SeatView) (task : Task) → Does live s task t → IsPlainSeat s → IsPlainSeat t
task_plain live s t (Call request) (may, begun, (reply, one, answers)) h = call_plain s t request reply one h
task_plain live s t Flush (is_noted, n) h = one_plain s t n.room (Ev.Flush s.core) is_noted (λ f. f) n.noted h
task_plain live s t Review (is_noted, n) h = one_plain s t n.room (Ev.Review s.core) is_noted (λ f. f) n.noted h

tasks_plain : (live : LiveView) (s t : SeatView) (tasks : List Task) → DoesAll live s tasks t → IsPlainSeat s → IsPlainSeat t
tasks_plain live s t [] e h = subst IsPlainSeat (sym e) h
tasks_plain live s t (task ∷ tasks) (m, does, rest) h = tasks_plain live m t tasks rest (task_plain live s m task does h)

-- ---- all seats

seats_plain : (script : Scripted) (live : LiveView) (seats : List SeatView) → RunsAll script live seats → All IsPlainSeat seats
seats_plain script live seats runs k d lt =
    let done = runs.each k d (omega (arith, lt, runs.count)) in
    tasks_plain live done.first (get_or seats k d) (get_or script.tasks k []) done.does (subst (AllByRecursion IsPlain) (sym done.fresh.notes) tt)

seats_fit : (seats : List SeatView) → AllByRecursion (λ (s : SeatView). All FitsTypes s.notes) seats → AllByRecursion IsPlainSeat seats
    → AllByRecursion FitsLine (notes_in seats)
seats_fit [] h k = tt
seats_fit (s ∷ seats) h k =
    all_append FitsLine s.notes (notes_in seats) (lines_fit s.notes (recursion_from_All FitsTypes s.notes h.0) k.0) (seats_fit seats h.1 k.1)

typed_seats : (seats : List SeatView) → All (All FitsTypes) (map (λ s. s.notes) seats) → AllByRecursion (λ (s : SeatView). All FitsTypes s.notes) seats
typed_seats seats h = go seats (recursion_from_All (All FitsTypes) (map (λ s. s.notes) seats) h)
  where
    go : (seats : List SeatView) → AllByRecursion (All FitsTypes) (map (λ (s : SeatView). s.notes) seats)
        → AllByRecursion (λ (s : SeatView). All FitsTypes s.notes) seats
    go [] h = tt
    go (s ∷ seats) h = (h.0, go seats h.1)

-- ---- in order

some_kept : (P : Noted → Type 0) (b : Bool) (n : Noted) (ns : List Noted) → b ≡ true → AllByRecursion P (cond b (n ∷ ns) ns) → P n
some_kept P true n ns e h = h.0
some_kept P false n ns e h = absurd cc

rest_kept : (P : Noted → Type 0) (b : Bool) (n : Noted) (ns : List Noted) → AllByRecursion P (cond b (n ∷ ns) ns) → AllByRecursion P ns
rest_kept P true n ns h = h.1
rest_kept P false n ns h = h

all_kept : (P : Noted → Type 0) (ns : List Noted) → ((t : ℕ) → AllByRecursion P (with_ticket t ns)) → AllByRecursion P ns
all_kept P [] h = tt
all_kept P (n ∷ ns) h = (
  some_kept P (n.ticket == n.ticket) n (with_ticket n.ticket ns) (eq-eqb n.ticket n.ticket refl) (h n.ticket),
  all_kept P ns (λ t. rest_kept P (n.ticket == t) n (with_ticket t ns) (h t)),
)

still : (P : Noted → Type 0) (b : Bool) (n : Noted) (ns : List Noted) → P n → AllByRecursion P ns → AllByRecursion P (cond b (n ∷ ns) ns)
still P true n ns one h = (one, h)
still P false n ns one h = h

kept_all : (P : Noted → Type 0) (t : ℕ) (ns : List Noted) → AllByRecursion P ns → AllByRecursion P (with_ticket t ns)
kept_all P t [] h = tt
kept_all P t (n ∷ ns) h = still P (n.ticket == t) n (with_ticket t ns) h.0 (kept_all P t ns h.1)

-- what all seats of a script that was run noted is such as lines can have, in whatever order
pub order_fits : (script : Scripted) (live : LiveView) (seats : List SeatView) (order : List Noted) → RunsAll script live seats
    → All (All FitsTypes) (map (λ s. s.notes) seats) → AreInOrder (notes_in seats) order → AllByRecursion FitsLine order
order_fits script live seats order runs typed are =
    all_kept FitsLine order (λ t. subst (AllByRecursion FitsLine) (sym (are.same t)) (kept_all FitsLine t (notes_in seats) all))
  where
    all : AllByRecursion FitsLine (notes_in seats)
    all = seats_fit seats (typed_seats seats typed) (recursion_from_All IsPlainSeat seats (seats_plain script live seats runs))

-- ---- the law

pub read_back : TextsAreReadBack
read_back input text script whole written = subst (λ (l : List ℕ). SaysNotes l script.asked written.order) (sym written.says)
    (written_is_said script.asked written.order (scripts_declare input script.asked whole.lines whole.collects) written.fits)
