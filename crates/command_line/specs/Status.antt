-- The status of words that can't be read.
use Rattle.std.specs.Prelude.{ℕ}
use Rattle.command_line.specs.declared.telling.WordsFault.{WordsFault}
use Rattle.command_line.specs.declared.telling.WordsFault.TheVariants as OutOf
use Rattle.command_line.specs.declared.telling.WordsFault.TheVariants.{NotUtf8}

abbrev pub words_status : WordsFault → ℕ
words_status NotUtf8 = 2
words_status OutOf.NoMemory = 3
