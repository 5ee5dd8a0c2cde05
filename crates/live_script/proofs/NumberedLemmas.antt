-- Where the tickets are dealt, each stands once among all notes.
use Rattle.std.proofs.Common.{◌≡◌, ℕ, ◌+◌, ◌<◌, ◌==◌, Bool, cond, List, [], ◌∷◌, length, map, arith, refl, sym, ap, ◌∙◌}
use Rattle.std.specs.Prelude.{count_by, sum_by}
use Rattle.std.proofs.lemmas.Bool.Decides.{nat_tests}
use Rattle.std.proofs.lemmas.List.{length-append, length-map}
use Rattle.std.proofs.lemmas.List.Elements.{filter-append}
use Rattle.std.proofs.lemmas.List.Sums.{length-filter, sum_by-cons}
use Rattle.vm_base.specs.declared.page.PageRange.{PageRange}
use Rattle.slot_lock.specs.Slots.{Slots}
use Rattle.live_levels.specs.declared.close.SlotHistory.{SlotHistory}
use Rattle.machine_model.specs.declared.setup.Setup.{Setup}
use Rattle.seats.specs.Gathered.{AreWhole, tickets_in}
use Rattle.seats.specs.Notes.{ticket_of}
use Rattle.seats.specs.Tickets.{count_in, once_below, times, times_in}
use Rattle.seats.specs.declared.noted.Noted.{Noted}
use Rattle.certifier.specs.Following.{Fails}
use Rattle.certifier.specs.Order.{AreNumbered, all_notes, with_ticket}
use Rattle.certifier.specs.declared.result.CertifyFault.{CertifyFault}
use Rattle.certifier.specs.declared.result.CertifyFault.TheVariants.{Setup as OfSetup, Ticket, Differs, Slot, NoMemory}
use Rattle.live_script.specs.Certified.{IsNoTicket}

counted : (t : ℕ) (notes : List Noted) → count_by (λ (note : Noted). note.ticket == t) notes ≡ times t (map ticket_of notes)
counted t [] = refl
counted t (note ∷ notes) =
    sum_by-cons (λ (n : Noted). cond (n.ticket == t) 1 0) note notes ∙ ap (λ k. cond (note.ticket == t) 1 0 + k) (counted t notes)
    ∙ sym (sum_by-cons (λ n. cond (n == t) 1 0) note.ticket (map ticket_of notes))

-- a ticket stands among the notes as often as among the lists of tickets
found_in : (t : ℕ) (lists : List (List Noted)) → length (with_ticket t (all_notes lists)) ≡ times_in t (tickets_in lists)
found_in t [] = refl
found_in t (notes ∷ lists) =
    let p = ap length (filter-append (λ (note : Noted). note.ticket == t) notes (all_notes lists)) in
    let q = length-append (with_ticket t notes) (with_ticket t (all_notes lists)) in
    let r = length-filter (λ (note : Noted). note.ticket == t) notes ∙ counted t notes in
    let s = found_in t lists in
    let u = sum_by-cons (λ l. times t l) (map ticket_of notes) (tickets_in lists) in
    omega (arith, p, q, r, s, u)

as_many : (lists : List (List Noted)) → length (all_notes lists) ≡ count_in (tickets_in lists)
as_many [] = refl
as_many (notes ∷ lists) =
    let p = length-append notes (all_notes lists) in
    let q = length-map notes ticket_of in
    let r = as_many lists in
    let s = sum_by-cons (λ (l : List ℕ). length l) (map ticket_of notes) (tickets_in lists) in
    omega (arith, p, q, r, s)

once : (t n : ℕ) → t < n → once_below t n ≡ 1
once t n lt = grind (arith, nat_tests)

pub numbered : (lists : List (List Noted)) → AreWhole lists → AreNumbered (all_notes lists)
numbered lists h t lt = found_in t lists ∙ h.dealt.each_once t ∙ once t (count_in (tickets_in lists)) (omega (arith, lt, as_many lists))

-- so no ticket is told
pub no_ticket : {A : Type 0} (parts : PageRange → ℕ → ℕ → Bool) (CanFold : Slots → ℕ → Type 0) (Folds : Slots → Slots → ℕ → Type 0) (setup : Setup A)
    (notes : List Noted) (slots : List (SlotHistory A)) (fault : CertifyFault) → Fails parts CanFold Folds setup notes slots fault → AreNumbered notes
    → IsNoTicket fault
no_ticket parts CanFold Folds setup notes slots (OfSetup f) h all = tt
no_ticket parts CanFold Folds setup notes slots (Ticket t) h all = absurd (h.1.amiss (all t h.1.within))
no_ticket parts CanFold Folds setup notes slots (Differs t noted expected) h all = tt
no_ticket parts CanFold Folds setup notes slots (Slot page) h all = tt
no_ticket parts CanFold Folds setup notes slots NoMemory h all = tt
