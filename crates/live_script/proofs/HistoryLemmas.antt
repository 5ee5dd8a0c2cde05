-- What is written of a script's calls
use Rattle.std.proofs.Common.{◌≡◌, inr, ℕ, List, Option, Ok, Err, Result, sym, ap, ◌∙◌, subst, map, All}
use Rattle.std.proofs.lemmas.List.Elements.{recursion_from_All}
use Rattle.seats.specs.Notes.{SeatView}
use Rattle.seats.specs.Packing.{shown}
use Rattle.seats.specs.declared.noted.Noted.{Noted}
use Rattle.seats.specs.declared.note_list.Notes.{Notes}
use Rattle.certifier.specs.Order.{all_notes}
use Rattle.trace_words.specs.Declarations.{DeclarationView}
use Rattle.trace_words.specs.declared.fault.TraceFault.{TraceFault}
use Rattle.trace_words.specs.declared.fault.TraceFault.TheVariants as Of
use Rattle.live_space.specs.Space.{LiveView}
use Rattle.trace_words.specs.Scripts.{ReadWhole, Scripted, Unread, unmade, unread_text, wanting}
use Rattle.trace_words.proofs.CollectLemmas.{stops_own}
use Rattle.live_script.specs.Certified.{AreRising}
use Rattle.live_script.specs.Runs.{RunsAll}
use Rattle.live_script.specs.Sums.{sums_of}
use Rattle.live_script.specs.Texts.{EndsText, Yields}
use Rattle.live_script.specs.declared.sums.Sums.{Sums}
use Rattle.live_script.specs.declared.texts.TextFault.{TextFault}
use Rattle.orders.specs.declared.history.Timed.{Timed}
use Rattle.live_script.specs.Ends.{IsSummedHistory, calls_in}
use Rattle.live_script.specs.History.{history_of}
use Rattle.live_script.specs.Text.{history_text}
use Rattle.live_script.proofs.LaterLemmas.{history_later}

-- no fault of reading a script is one of writing
pub unread_own : {X : Type 0} (input unread : List ℕ) (f : TraceFault) → Unread input unread f → f ≡ Of.WriteFailed → X
unread_own input unread f (unread_text s) w = stops_own _ _ input unread f s w
unread_own input unread f (unmade e u) w = let clash : Of.NoMemory ≡ Of.WriteFailed = sym e ∙ w in absurd (cc)
unread_own input unread f (wanting e a n c) w = let clash : Of.NoMemory ≡ Of.WriteFailed = sym e ∙ w in absurd (cc)

-- what is written of a script that was read is so of its text
module _ {T : Type 0} (Gives : Scripted → T → List ℕ → Type 0) (script : Scripted) (old new : Option (List ℕ)) where
  pub ends_as_yields : (input unread : List ℕ) (r : Result T TextFault) → ReadWhole input script → Yields Gives script old new r
      → EndsText Gives input unread old new r
  ends_as_yields input unread (Ok x) whole y = (script, whole, y)
  ends_as_yields input unread (Err f) whole y = inr (script, whole, y)

-- what is lent is what the seats noted
pub calls_are : (slice : List Notes) (all : List Notes) (calls lent : List Timed) (seats : List SeatView) → slice ≡ all
    → map shown all ≡ map (λ s. s.notes) seats → calls ≡ history_of (map shown slice) → lent ≡ calls → lent ≡ calls_in seats
calls_are slice all calls lent seats same are is lends = lends ∙ is ∙ ap (λ l. history_of (map shown l)) same ∙ ap history_of are

-- the numbers of what is lent
pub sums_are : (slice all : List Notes) (sums : Sums) (seats : List SeatView) → slice ≡ all → map shown all ≡ map (λ s. s.notes) seats
    → sums ≡ sums_of (all_notes (map shown slice)) → sums ≡ sums_of (all_notes (map (λ s. s.notes) seats))
sums_are slice all sums seats same are is =
    is ∙ ap (λ (l : List Notes). sums_of (all_notes (map shown l))) same ∙ ap (λ (l : List (List Noted)). sums_of (all_notes l)) are

-- the text of the calls, with the numbers of the notes
pub history_given : (script : Scripted) (live : LiveView) (seats : List SeatView) (calls : List Timed) (all : List (List Noted)) (asked : DeclarationView) (sums : Sums)
    → RunsAll script live seats → All AreRising all → all ≡ map (λ s. s.notes) seats → calls ≡ calls_in seats → asked ≡ script.asked
    → sums ≡ sums_of (all_notes (map (λ s. s.notes) seats)) → IsSummedHistory script sums (history_text asked calls)
history_given script live seats calls all asked sums runs rising are is declared counted = record {
  history = record {
    live = live;
    seats = seats;
    runs = runs;
    later = history_later (map (λ s. s.notes) seats) (recursion_from_All AreRising _ (subst (All AreRising) are rising));
    says = ap (λ a. history_text a calls) declared ∙ ap (history_text script.asked) is;
  };
  sums = counted;
}
