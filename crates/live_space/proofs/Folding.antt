-- A fold that is noted as a plain step, between two settings of what a plain step notes
use Rattle.std.proofs.Common.{◌≡◌, ℕ, Bool, true, false, sym, ap, ◌∙◌}
use Rattle.machine_model.specs.declared.event.Event.TheVariants.{Fold, Go}
use Rattle.machine_model.specs.declared.event.Outcome.TheVariants.{Stepped}
use Rattle.seats.specs.Growing.{NotesIf}
use Rattle.seats.specs.Notes.{SeatView, noted, with_note}

pub fold_noted : (s t u v w : SeatView) (page : ℕ) (b : Bool) → s.plain ≡ Go s.core → t ≡ record s { room = t.room }
    → u ≡ record t { plain = Fold page } → NotesIf u (Fold page) b v → w ≡ record v { plain = Go v.core }
    → NotesIf (record s { room = t.room }) (Fold page) b w
fold_noted s t u v w page true go et eu (ticket, ev) ew = (
  ticket,
  (ew ∙ ap (λ (x : SeatView). record x { plain = Go x.core })
      (ev ∙ ap (λ (x : SeatView). with_note x (noted ticket (Fold page) Stepped)) (eu ∙ ap (λ (x : SeatView). record x { plain = Fold page }) et))) ∙ back,
)
  where
    back : record (with_note (record s { room = t.room }) (noted ticket (Fold page) Stepped)) { plain = Go s.core }
        ≡ with_note (record s { room = t.room }) (noted ticket (Fold page) Stepped)
    back = ap (λ p. record (with_note (record s { room = t.room }) (noted ticket (Fold page) Stepped)) { plain = p }) (sym go)
fold_noted s t u v w page false go et eu ev ew = (ew ∙ ap (λ (x : SeatView). record x { plain = Go x.core })
    (ev ∙ (eu ∙ ap (λ (x : SeatView). record x { plain = Fold page }) et))) ∙ ap (λ p. record s { room = t.room; plain = p }) (sym go)
