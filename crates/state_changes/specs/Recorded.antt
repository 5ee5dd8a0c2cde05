-- What is recorded of a machine's steps
use Rattle.std.specs.Prelude.{◌≡◌, ℕ, Bool, true, false, List, [], ◌∷◌, ◌++◌}
use Rattle.std.specs.Option.{is_some}
use Rattle.core_steps.specs.Changing.{may_change}
use Rattle.machine_model.specs.Sound.{IsReached}
use Rattle.machine_model.specs.World.{World}
use Rattle.machine_model.specs.declared.event.Event.{Event}
use Rattle.machine_model.specs.declared.event.Outcome.{Outcome}
use Rattle.machine_model.specs.declared.event.Outcome.TheVariants.{Stepped}
use Rattle.state_changes.specs.Applied.{Differs, applied}
use Rattle.slot_lock.specs.declared.map_list.MapLine.{MapLine}
use Rattle.core_steps.specs.MapLines.{ListsMaps}
use Rattle.state_text.specs.declared.form.Form.TheVariants.{Text}
use Rattle.state_text.specs.Counts.{counts_text}
use Rattle.state_seen.specs.Shown.{Follows, IsNothing, Seen}
use Rattle.state_text.specs.Texts.{seen_text}
use Rattle.trace_text.specs.Listing.{maps_text}

-- only a plain step lets a call go on
abbrev pub goes_on : Outcome → Bool
goes_on Stepped = true
goes_on _ = false

-- a step: whether its call may go on, and what it changed in the text of the state
pub record MomentOf : Type 0 where
  pub goes_on : Bool
  pub change : Differs

-- whether there was memory for all, what is seen of the state, the text of the first state, those of the mappings and of the
-- state now, and the steps so far
pub record Recorded : Type 0 where
  pub whole : Bool
  pub seen : Seen
  pub first : List ℕ
  pub maps : List ℕ
  pub text : List ℕ
  pub moments : List MomentOf

-- no step was seen yet, and nothing was mapped
pub record IsFresh (r : Recorded) : Type 0 where
  pub whole : r.whole ≡ true
  pub seen : IsNothing r.seen
  pub first : r.first ≡ seen_text Text [] r.seen
  pub maps : r.maps ≡ []
  pub text : r.text ≡ seen_text Text [] r.seen
  pub moments : r.moments ≡ []

-- the text that this step makes of it
abbrev pub changed : List ℕ → MomentOf → List ℕ
changed text m = applied m.change.parts m.change.added text

-- the text of the mappings after a step: that of the state's, or the one before where the step changes no page
abbrev pub KeepsMaps : Bool → World → List ℕ → List ℕ → Type 0
KeepsMaps true v before after = (maps : List MapLine) × ListsMaps v maps × (after ≡ maps_text maps)
KeepsMaps false v before after = after ≡ before

-- a step more, which led to this state: its change makes of the text so far that of what is seen now, of the mappings and of the
-- state's counts
pub record HasAdded (goes changes : Bool) (v : World) (one other : Recorded) : Type 0 where
  pub moment : MomentOf
  pub moments : other.moments ≡ one.moments ++ moment ∷ []
  pub goes_on : moment.goes_on ≡ goes
  pub changes_to : changed one.text moment ≡ other.text
  pub maps : KeepsMaps changes v one.maps other.maps
  pub shows : other.text ≡ seen_text Text other.maps other.seen ++ counts_text Text v
  pub reached : ∥ IsReached v ∥₁

-- what is recorded after the step, where there was memory
pub record Records (one : Recorded) (w : World) (e : Event) (o : Outcome) (v : World) (other : Recorded) : Type 0 where
  pub follows : Follows one.seen w e o v other.seen
  pub whole : other.whole ≡ true → one.whole ≡ true
  pub first : other.first ≡ one.first
  pub added : other.whole ≡ true → HasAdded (goes_on o) (is_some (may_change w e)) v one other
