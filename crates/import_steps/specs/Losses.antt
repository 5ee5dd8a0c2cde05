-- How many calls change the address space in a way that no trace has, by their names.
use Rattle.std.specs.Prelude.{ℕ, ◌+◌}
use Rattle.import_forms.specs.declared.said.Lost.{Lost}
use Rattle.import_forms.specs.declared.said.Lost.TheVariants.{Attach, Detach, Drops, Remaps, Grows, Huge, Faults, Others}
use Rattle.import_steps.specs.declared.losses.Losses.{Losses}

abbrev pub no_losses : Losses
no_losses = record { attach = 0; detach = 0; drops = 0; remaps = 0; grows = 0; huge = 0; faults = 0; others = 0 }

-- how many there are, whatever the call
abbrev pub lost_lines : Losses → ℕ
lost_lines l = l.attach + l.detach + l.drops + l.remaps + l.grows + l.huge + l.faults + l.others

-- one call more
abbrev pub with_lost : Losses → Lost → Losses
with_lost l Attach = record l { attach = l.attach + 1 }
with_lost l Detach = record l { detach = l.detach + 1 }
with_lost l Drops = record l { drops = l.drops + 1 }
with_lost l Remaps = record l { remaps = l.remaps + 1 }
with_lost l Grows = record l { grows = l.grows + 1 }
with_lost l Huge = record l { huge = l.huge + 1 }
with_lost l Faults = record l { faults = l.faults + 1 }
with_lost l Others = record l { others = l.others + 1 }
