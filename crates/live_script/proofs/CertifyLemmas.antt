-- What certifying a script's notes comes to
use Rattle.std.proofs.Common.{◌≡◌, ℕ, Bool, List, map, ap, ◌∙◌, sym, subst, Result, Ok, Err}
use Rattle.std.specs.Prelude.{IfErr, IfOk, None}
use Rattle.vm_base.specs.declared.page.PageRange.{PageRange}
use Rattle.slot_lock.specs.Slots.{Slots}
use Rattle.live_levels.specs.declared.close.SlotHistory.{SlotHistory}
use Rattle.machine_model.specs.declared.setup.Setup.{Setup}
use Rattle.machine_model.specs.Setups.{fault_of, made_of}
use Rattle.seats.specs.declared.noted.Noted.{Noted}
use Rattle.certifier.specs.declared.result.Certified.{Certified}
use Rattle.certifier.specs.declared.result.CertifyFault.{CertifyFault}
use Rattle.certifier.specs.declared.result.CertifyFault.TheVariants.{Setup as OfSetup, Ticket, Differs, Slot, NoMemory}
use Rattle.certifier.specs.Following.{IsCertified, Fails}
use Rattle.trace_words.specs.Declarations.{DeclarationView, asked_fault, made_by}
use Rattle.notes_text.specs.Verdicts.{Made}
use Rattle.trace_words.specs.Scripts.{Scripted}
use Rattle.notes_text.specs.declared.verdict.NotesVerdict.{NotesVerdict}
use Rattle.live_tree.specs.Named.{BearWord}
use Rattle.live_tree.specs.declared.histories.Histories.{Histories}
use Rattle.live_space.specs.Space.{LiveView}
use Rattle.seats.specs.Gathered.{AreWhole}
use Rattle.seats.specs.Notes.{SeatView}
use Rattle.certifier.specs.Order.{AreNumbered, all_notes}
use Rattle.live_script.specs.Certified.{IsCertifiedRun, IsNoTicket, FailsRun}
use Rattle.live_script.specs.Runs.{RunsAll}
use Rattle.live_script.specs.Sums.{sums_of}
use Rattle.live_script.specs.Texts.{IsVerdictOf, JudgedNotes, JudgesRun}
use Rattle.live_script.specs.declared.texts.RunVerdict.{RunVerdict}

module _ {A : Type 0} (parts : PageRange → ℕ → ℕ → Bool) (CanFold : Slots → ℕ → Type 0) (Folds : Slots → Slots → ℕ → Type 0)
    (asked declared : DeclarationView) (setup : Setup A) (notes : List Noted) (slots : List (SlotHistory A))
    (read : declared ≡ asked) (made : made_of setup ≡ made_by declared) where
  is_made : Made A asked
  is_made = record { setup = setup; made = made ∙ ap made_by read }

  pub certified_run : (calls : ℕ) → IsCertified parts CanFold Folds setup notes slots calls
      → IsCertifiedRun A parts CanFold Folds asked notes slots calls
  unfolding is_made
  certified_run calls h = record { made = is_made; certified = h }

  -- the setup has no fault
  pub failed_run : asked_fault declared ≡ None → fault_of setup ≡ None → (fault : CertifyFault)
      → Fails parts CanFold Folds setup notes slots fault → FailsRun A parts CanFold Folds asked notes slots fault
  unfolding is_made
  failed_run sound none (OfSetup f) h = absurd (cc)
  failed_run sound none (Ticket t) h = (is_made, h)
  failed_run sound none (Differs t noted expected) h = (is_made, h)
  failed_run sound none (Slot page) h = (is_made, h)
  failed_run sound none NoMemory h = subst (λ a. asked_fault a ≡ None) read sound

-- the verdict that certifying comes to tells that
pub judges_by : {A : Type 0} (parts : PageRange → ℕ → ℕ → Bool) (CanFold : Slots → ℕ → Type 0) (Folds : Slots → Slots → ℕ → Type 0)
    (asked : DeclarationView) (notes : List Noted) (slots : List (SlotHistory A)) (done : Result Certified CertifyFault) (verdict : NotesVerdict)
    → IsVerdictOf done verdict → IfOk done (λ d. IsCertifiedRun A parts CanFold Folds asked notes slots d.calls)
    → IfErr done (λ fault. FailsRun A parts CanFold Folds asked notes slots fault) → JudgesRun A parts CanFold Folds asked notes slots verdict
judges_by {A} parts CanFold Folds asked notes slots (Ok d) verdict is ok err = subst (JudgesRun A parts CanFold Folds asked notes slots) (sym is) ok
judges_by parts CanFold Folds asked notes slots (Err (OfSetup f)) verdict is ok err = absurd is
judges_by parts CanFold Folds asked notes slots (Err (Ticket t)) verdict is ok err = absurd is
judges_by {A} parts CanFold Folds asked notes slots (Err (Differs t noted expected)) verdict is ok err =
    subst (JudgesRun A parts CanFold Folds asked notes slots) (sym is) err
judges_by {A} parts CanFold Folds asked notes slots (Err (Slot page)) verdict is ok err =
    subst (JudgesRun A parts CanFold Folds asked notes slots) (sym is) err
judges_by parts CanFold Folds asked notes slots (Err NoMemory) verdict is ok err = absurd is

-- the notes of all seats have the tickets below their number, each once
pub no_ticket : (numbered : List Noted) (done : Result Certified CertifyFault) → IfErr done (λ fault. AreNumbered numbered → IsNoTicket fault)
    → AreNumbered numbered → IfErr done IsNoTicket
no_ticket notes (Ok d) h are = tt
no_ticket notes (Err fault) h are = h are

-- what certifying what a script's seats noted beside the histories of its space comes to
pub judged_run : {A : Type 0} (parts : PageRange → ℕ → ℕ → Bool) (CanFold : Slots → ℕ → Type 0) (Folds : Slots → Slots → ℕ → Type 0) (script : Scripted)
    (live : LiveView) (seats : List SeatView) (histories : Histories A) (left all : List (List Noted)) (judgement : RunVerdict) → RunsAll script live seats
    → BearWord live.word histories → left ≡ map (λ s. s.notes) seats → AreWhole left → all ≡ left
    → judgement.sums ≡ sums_of (all_notes all)
    → JudgesRun A parts CanFold Folds script.asked (all_notes all) histories.slots.items judgement.verdict
    → JudgedNotes A parts CanFold Folds script judgement
judged_run {A} parts CanFold Folds script live seats histories left all judgement runs own are whole same sums h = record {
  run = record {
    live = live;
    seats = seats;
    runs = runs;
    whole = subst AreWhole are whole;
    histories = histories;
    own = own;
    judges = subst (λ ls. JudgesRun A parts CanFold Folds script.asked (all_notes ls) histories.slots.items judgement.verdict) (same ∙ are) h;
  };
  sums = sums ∙ ap (λ ls. sums_of (all_notes ls)) (same ∙ are);
}
