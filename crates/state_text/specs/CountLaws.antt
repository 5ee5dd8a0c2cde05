-- What is told of the counts of a new machine
use Rattle.std.specs.Prelude.{◌≡◌, []}
use Rattle.machine_model.specs.World.{Made, new_world}
use Rattle.slot_lock.specs.Slots.{Slots}
use Rattle.state_text.specs.declared.form.Form.{Form}
use Rattle.state_text.specs.Counts.{counts_text}

abbrev pub NoneAtFirst : Type 0
NoneAtFirst = (form : Form) (made : Made) (slots : Slots) → counts_text form (new_world made slots) ≡ []
