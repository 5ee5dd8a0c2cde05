-- Each call is answered after it begins.
use Rattle.std.proofs.Common.{◌≡◌, ℕ, ◌<◌, List, [], ◌∷◌, ◌++◌, map, Option, Some, None, refl, sym, ap, ◌∙◌, arith, inl, inr}
use Rattle.std.specs.Prelude.{is_some}
use Rattle.std.specs.List.{AllByRecursion}
use Rattle.machine_model.specs.declared.event.Outcome.{Outcome}
use Rattle.machine_model.specs.declared.event.Outcome.TheVariants.{Answered}
use Rattle.seats.specs.Notes.{ticket_of}
use Rattle.seats.specs.Tickets.{Rises}
use Rattle.seats.specs.declared.noted.Noted.{Noted}
use Rattle.trace_text.proofs.Choices.{chosen}
use Rattle.live_script.specs.Certified.{AreRising}
use Rattle.orders.specs.declared.history.Timed.{Timed}
use Rattle.live_script.specs.History.{EndsLater, begun_at, calls_of, ended_at, first_answer, first_of, history_of, timed}
use Rattle.live_script.specs.declared.calls.Invocation.{Invocation}
use Rattle.live_script.specs.declared.calls.Response.{Response}

all_append : (P : Timed → Type 0) (xs ys : List Timed) → AllByRecursion P xs → AllByRecursion P ys → AllByRecursion P (xs ++ ys)
all_append P [] ys h k = k
all_append P (x ∷ xs) ys h k = (h.0, all_append P xs ys h.1 k)

ended_ticket : (t : ℕ) (o : Outcome) (e : Response) → ended_at t o ≡ Some e → e.ticket ≡ t
ended_ticket t (Answered reply) e is = let same : record { ticket = t; reply = reply } ≡ e = cc in sym (ap (λ (x : Response). x.ticket) same)
ended_ticket t o e is = absurd (cc)

rises_down : (t u : ℕ) (ts : List ℕ) → t < u → Rises (u ∷ ts) → Rises (t ∷ ts)
rises_down t u [] low h = tt
rises_down t u (v ∷ ts) low h = (omega (arith, low, h.0), h.1)

-- an answer behind a ticket has a later one
answer_after : (t : ℕ) (ns : List Noted) (e : Response) → Rises (t ∷ map ticket_of ns) → first_answer ns ≡ Some e → t < e.ticket
answer_after t [] e h is = absurd (cc)
answer_after t (n ∷ ns) e h is =
    elim (chosen (is_some (begun_at n)) None (first_of (ended_at n.ticket n.outcome) (first_answer ns)) (Some e) is) [
      | inl k ↦ let bad = k.1 in absurd (cc)
      | inr k ↦ go (ended_at n.ticket n.outcome) refl k.1 (λ j. answer_after t ns e (rises_down t n.ticket (map ticket_of ns) h.0 h.1) j)
    ]
  where
    go : (o : Option Response) → ended_at n.ticket n.outcome ≡ o → first_of o (first_answer ns) ≡ Some e → (first_answer ns ≡ Some e → t < e.ticket)
        → t < e.ticket
    go None at k behind = behind k
    go (Some x) at k behind =
        let same : x ≡ e = cc in
        let ticket = ended_ticket n.ticket n.outcome e (at ∙ ap Some same) in
        omega (arith, ticket, h.0)

timed_later : (t : ℕ) (b : Option Invocation) (o : Option Response) → ((e : Response) → o ≡ Some e → t < e.ticket) → AllByRecursion EndsLater (timed t b o)
timed_later t None o h = tt
timed_later t (Some b) None h = tt
timed_later t (Some b) (Some e) h = (h e refl, tt)

rises_rest : (t : ℕ) (ts : List ℕ) → Rises (t ∷ ts) → Rises ts
rises_rest t [] h = tt
rises_rest t (u ∷ ts) h = h.1

calls_later : (ns : List Noted) → AreRising ns → AllByRecursion EndsLater (calls_of ns)
calls_later [] h = tt
calls_later (n ∷ ns) h =
    all_append EndsLater (timed n.ticket (begun_at n) (first_answer ns)) (calls_of ns)
    (timed_later n.ticket (begun_at n) (first_answer ns) (λ e is. answer_after n.ticket ns e h is))
    (calls_later ns (rises_rest n.ticket (map ticket_of ns) h))

pub history_later : (seats : List (List Noted)) → AllByRecursion AreRising seats → AllByRecursion EndsLater (history_of seats)
history_later [] h = tt
history_later (ns ∷ seats) h = all_append EndsLater (calls_of ns) (history_of seats) (calls_later ns h.0) (history_later seats h.1)
