-- What the steps of an access leave as it was
use Rattle.std.proofs.Common.{◌≡◌, ℕ, ◌+◌, suc, List, [], ◌∷◌, ◌&&◌, true, length, length-append, map, refl, ap, ◌∙◌}
use Rattle.machine_model.specs.declared.event.Event.TheVariants.{Frame}
use Rattle.machine_model.specs.declared.event.Outcome.TheVariants.{Stepped}
use Rattle.live_levels.specs.declared.act.Act.{Act}
use Rattle.live_levels.specs.Replay.{dated}
use Rattle.live_levels.specs.Slots.{SlotView, changed}
use Rattle.live_tree.specs.Held.{HeldView}
use Rattle.seats.specs.Growing.{Grew}
use Rattle.seats.proofs.Growing.{own_core}
use Rattle.seats.specs.Notes.{SeatView, noted, with_note}
use Rattle.seats.specs.declared.noted.Noted.{Noted}
use Rattle.live_pages.specs.Steps.{StepsWith, Takes}

-- a frame is taken in a step of the core's
pub grew_takes : (s t : SeatView) (frame : ℕ) → Takes s frame t → Grew s t
grew_takes s t frame h = record {
  same = record {
    word = ap (λ (v : SeatView). v.word) h.1;
    spare = ap (λ (v : SeatView). v.spare) h.1;
    core = ap (λ (v : SeatView). v.core) h.1;
    plain = ap (λ (v : SeatView). v.plain) h.1;
  };
  begun = ap (λ (v : SeatView). v.begun) h.1;
  more = noted h.0 (Frame s.core frame) Stepped ∷ [];
  are = ap (λ (v : SeatView). v.notes) h.1;
  steps = λ own. (λ i. own_core s.core s.core refl i && true);
}

length_map : {X Y : Type 0} (f : X → Y) (xs : List X) → length (map f xs) ≡ length xs
length_map f [] = refl
length_map f (x ∷ xs) = ap suc (length_map f xs)

-- a change of each held slot leaves as many
pub same_count : (act : Act) (s t : SeatView) (h k : HeldView) → StepsWith act s h t k → length k.slots ≡ length h.slots
same_count act s t h k w = ap (λ (v : HeldView). length v.slots) w.slots ∙ length_map (λ (x : SlotView). changed x (dated w.ticket act)) h.slots

-- a note more is counted
pub one_more : (s t : SeatView) (n : Noted) → t ≡ with_note s n → length t.notes ≡ length s.notes + 1
one_more s t n e = ap (λ (v : SeatView). length v.notes) e ∙ length-append s.notes (n ∷ [])
