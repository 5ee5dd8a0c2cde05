-- A state with its mappings, and the text of both
use Rattle.std.specs.Prelude.{ℕ, List, ◌++◌}
use Rattle.slot_lock.specs.declared.map_list.MapLine.{MapLine}
use Rattle.machine_model.specs.World.{World}
use Rattle.trace_text.specs.Listing.{maps_text}
use Rattle.state_text.specs.declared.form.Form.{Form}
use Rattle.state_text.specs.Counts.{counts_text}
use Rattle.state_text.specs.Texts.{state_text}

-- a state, and mappings
pub record Told : Type 0 where
  pub world : World
  pub maps : List MapLine

-- the text of both, with the counts of the state behind it
abbrev pub told_text : Form → Told → List ℕ
told_text form t = state_text form (maps_text t.maps) t.world ++ counts_text form t.world
