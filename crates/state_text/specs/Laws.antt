-- What one who watches each step knows
use Rattle.std.specs.Prelude.{◌≡◌, ◌↔◌, ℕ, Some, true, List}
use Rattle.machine_model.specs.World.{World, Made, new_world}
use Rattle.machine_model.specs.declared.event.Event.{Event}
use Rattle.machine_model.specs.declared.event.Outcome.{Outcome}
use Rattle.slot_lock.specs.Slots.{IsNew, Slots}
use Rattle.machine_model.specs.Sound.{IsReached}
use Rattle.watched.specs.Watching.{Watches}
use Rattle.state_seen.specs.Shown.{Follows, IsNothing, IsShown, Seen}
use Rattle.state_text.specs.declared.form.Form.{Form}
use Rattle.state_text.specs.Texts.{seen_text, state_text}
use Rattle.state_text.specs.Words.{held_spot, spot_has}

-- where all was taken in, that is what the state has
abbrev pub Knows : Seen → World → Type 0
Knows r w = r.whole ≡ true → IsShown r w

abbrev pub AllWatchersKnow : Type 0
AllWatchersKnow =
    (one : Seen) (w : World) (es : List Event) (os : List Outcome) (v : World) (other : Seen)
    → Watches Follows one w es os v other → Knows one w → Knows other v

abbrev pub AllOpeningsAreKnown : Type 0
AllOpeningsAreKnown = (r : Seen) (made : Made) (slots : Slots) → IsNew slots → IsNothing r → Knows r (new_world made slots)

abbrev pub AllTextsAreTheStates : Type 0
AllTextsAreTheStates = (form : Form) (maps : List ℕ) (r : Seen) (w : World) → IsShown r w → seen_text form maps r ≡ state_text form maps w

-- in a reached state a core owns just the pages that are shown of its call
abbrev pub AllHeldAreOwned : Type 0
AllHeldAreOwned =
    (w : World) → IsReached w → (c p : ℕ) → (w.slots.owner p ≡ Some c) ↔ (spot_has (held_spot (w.calls.phase c)) p ≡ true)
