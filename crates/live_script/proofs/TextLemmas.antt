-- What is written of a script's text
use Rattle.std.proofs.Common.{◌≡◌, ◌⊎◌, inl, inr, ℕ, Bool, List, Option, Some, None, Result, Ok, Err, refl, sym, ap, ◌∙◌, subst, map}
use Rattle.std.specs.Prelude.{All}
use Rattle.std.specs.Io.KnownBytes.{Keeps, Appends}
use Rattle.trace_io.specs.Sink.{AppendsFront}
use Rattle.vm_base.specs.declared.page.PageRange.{PageRange}
use Rattle.slot_lock.specs.Slots.{Slots}
use Rattle.seats.specs.Gathered.{AreWhole}
use Rattle.seats.specs.Notes.{SeatView}
use Rattle.seats.specs.declared.noted.Noted.{Noted}
use Rattle.certifier.specs.Order.{all_notes}
use Rattle.live_space.specs.Space.{LiveView}
use Rattle.trace_words.specs.Declarations.{DeclarationView, asked_fault}
use Rattle.trace_words.specs.declared.fault.TraceFault.{TraceFault}
use Rattle.trace_words.specs.declared.fault.TraceFault.TheVariants as Of
use Rattle.seats.specs.Fitting.{FitsTypes}
use Rattle.seats.specs.Packing.{shown}
use Rattle.seats.specs.declared.note_list.Notes.{Notes}
use Rattle.notes_text.specs.Ordered.{AreInOrder}
use Rattle.trace_words.specs.Scripts.{ReadWhole, Scripted, Unread, unread_text, unmade, wanting}
use Rattle.notes_text.specs.Verdicts.{verdict_text}
use Rattle.notes_text.specs.WriteEnds.{Writes}
use Rattle.notes_text.specs.NotesWritten.{notes_text}
use Rattle.trace_words.proofs.CollectLemmas.{stops_own}
use Rattle.live_script.specs.Certified.{notes_in}
use Rattle.live_script.specs.Runs.{Fails, RunsAll}
use Rattle.live_script.specs.Sums.{sums_of}
use Rattle.live_script.specs.Texts.{Ceases, unrun, unwritten, EndsText, IsSummedText, IsVerdictText, JudgedNotes, Yields, fault_of_run}
use Rattle.live_script.specs.declared.sums.Sums.{Sums}
use Rattle.live_script.specs.declared.texts.RunVerdict.{RunVerdict}
use Rattle.live_script.specs.declared.fault.ScriptFault.{ScriptFault}
use Rattle.live_script.specs.declared.fault.ScriptFault.TheVariants.{Setup, Live, NoMemory}
use Rattle.live_script.specs.declared.texts.TextFault.{TextFault}
use Rattle.live_script.specs.declared.texts.TextFault.TheVariants.{Text}
use Rattle.live_script.proofs.FitLemmas.{order_fits}

-- ---- faults

-- no fault of reading a script is one of writing
pub unread_own : {X : Type 0} (input unread : List ℕ) (f : TraceFault) → Unread input unread f → f ≡ Of.WriteFailed → X
unread_own input unread f (unread_text s) w = stops_own _ _ input unread f s w
unread_own input unread f (unmade e u) w = let clash : Of.NoMemory ≡ Of.WriteFailed = sym e ∙ w in absurd (cc)
unread_own input unread f (wanting e a n c) w = let clash : Of.NoMemory ≡ Of.WriteFailed = sym e ∙ w in absurd (cc)

-- what is written of a script that was read is so of its text
module _ {T : Type 0} (Gives : Scripted → T → List ℕ → Type 0) (script : Scripted) (old new : Option (List ℕ)) where
  pub ends_as_yields : (input unread : List ℕ) (r : Result T TextFault) → ReadWhole input script → Yields Gives script old new r
      → EndsText Gives input unread old new r
  ends_as_yields input unread (Ok x) whole y = (script, whole, y)
  ends_as_yields input unread (Err f) whole y = inr (script, whole, y)

-- ---- notes

-- what is lent of them is what the seats noted
pub lent_notes : {V : Type 0} (f : V → List Noted) (lent all : List Notes) (slice notes : List V) (seats : List SeatView) → lent ≡ all
    → map shown all ≡ map f slice → slice ≡ notes → map f notes ≡ map (λ s. s.notes) seats → map shown lent ≡ map (λ s. s.notes) seats
lent_notes f lent all slice notes seats is of same are = ap (map shown) is ∙ of ∙ ap (map f) same ∙ are

-- it has numbers as its types have them
pub lent_typed : (lent all : List Notes) → lent ≡ all → All (All FitsTypes) (map shown all) → All (All FitsTypes) (map shown lent)
lent_typed lent all is typed = subst (λ (l : List Notes). All (All FitsTypes) (map shown l)) (sym is) typed

-- the numbers of what is lent
pub lent_sums : (slice lent : List Notes) (sums : Sums) → slice ≡ lent → sums ≡ sums_of (all_notes (map shown slice))
    → sums ≡ sums_of (all_notes (map shown lent))
lent_sums slice lent sums same is = is ∙ ap (λ (l : List Notes). sums_of (all_notes (map shown l))) same

module _ (script : Scripted) (live : LiveView) (seats : List SeatView) (slices : List (List Noted)) (old new : Option (List ℕ)) (sums : Sums)
    (runs : RunsAll script live seats) (same : slices ≡ map (λ s. s.notes) seats) (typed : All (All FitsTypes) slices)
    (whole : AreWhole (map (λ s. s.notes) seats)) (are : sums ≡ sums_of (all_notes slices)) where
  -- the text of the notes in this order, with their numbers
  text_of_notes : (order : List Noted) → AreInOrder (all_notes slices) order → IsSummedText script sums (notes_text script.asked order)
  text_of_notes order stands = record {
    notes = record {
      live = live;
      seats = seats;
      runs = runs;
      whole = whole;
      order = order;
      in_order = subst (λ l. AreInOrder (all_notes l) order) same stands;
      fits = order_fits script live seats order runs (subst (All (All FitsTypes)) same typed) (subst (λ l. AreInOrder (all_notes l) order) same stands);
      says = refl;
    };
    sums = are ∙ ap (λ l. sums_of (all_notes l)) same;
  }

  -- what was written of the notes is their text
  pub notes_written : (order : List Noted) × AreInOrder (all_notes slices) order × Appends old new (notes_text script.asked order)
      → Yields IsSummedText script old new (Ok sums)
  notes_written (order, stands, app) = (notes_text script.asked order, text_of_notes order stands, app)

  -- notes that weren't written whole
  pub notes_unwritten : (f : TraceFault) → ((f ≡ Of.NoMemory) × Keeps old new)
      ⊎ ((f ≡ Of.WriteFailed) × ((order : List Noted) × AreInOrder (all_notes slices) order × AppendsFront old new (notes_text script.asked order)))
      → Ceases IsSummedText script old new (Text f)
  notes_unwritten f (inl (is, keeps)) = unrun NoMemory runs.declared.sound (ap Text is) keeps
  notes_unwritten f (inr (is, (order, stands, front))) =
      unwritten (ap Text is) sums (notes_text script.asked order) (text_of_notes order stands) front

-- ---- verdicts

-- the line of a verdict
pub verdict_given : {A : Type 0} (parts : PageRange → ℕ → ℕ → Bool) (CanFold : Slots → ℕ → Type 0) (Folds : Slots → Slots → ℕ → Type 0)
    (script : Scripted) (told : RunVerdict) → JudgedNotes A parts CanFold Folds script told
    → IsVerdictText A parts CanFold Folds script told (verdict_text told.verdict)
verdict_given parts CanFold Folds script told judged = record { judged = judged; says = refl }
