-- How many lines of a list became what.
use Rattle.std.specs.Prelude.{ℕ, ◌+◌}
use Rattle.import_log.specs.declared.entries.Entries.{Entries}
use Rattle.import_log.specs.declared.entries.Entered.{Entered}
use Rattle.import_log.specs.declared.entries.Entered.TheVariants.{Kept, Changed, Kernel, Outside, Unread}

abbrev pub no_entries : Entries
no_entries = record { kept = 0; changed = 0; kernel = 0; outside = 0; unread = 0 }

-- how many lines of the list are left out, whatever the reason
abbrev pub left_entries : Entries → ℕ
left_entries e = e.kernel + e.outside + e.unread

-- kept, changed and left out
abbrev pub total : Entries → ℕ
total e = e.kept + e.changed + left_entries e

-- one line more, of which this became
abbrev pub counted : Entries → Entered → Entries
counted e Kept = record e { kept = e.kept + 1 }
counted e Changed = record e { changed = e.changed + 1 }
counted e Kernel = record e { kernel = e.kernel + 1 }
counted e Outside = record e { outside = e.outside + 1 }
counted e Unread = record e { unread = e.unread + 1 }
