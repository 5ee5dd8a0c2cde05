-- What the next line is.
use Rattle.std.specs.Prelude.{◌≡◌, ℕ, ◌<◌, List, [], length}
use Rattle.trace_io.specs.Lines.{IsTooLong, TakesLine}
use Rattle.trace_io.specs.Window.{Window}
use Rattle.trace_io.specs.declared.lines.NextLine.{NextLine}
use Rattle.trace_io.specs.declared.lines.NextLine.TheVariants.{Line, TooLong, End}

-- all that is held is the last line, or nothing is held
abbrev pub TakesLast : Window → Window → NextLine → Type 0
TakesLast old new Line = (new.line ≡ old.held) × (new.held ≡ []) × (0 < length old.held)
TakesLast old new TooLong = ⊥
TakesLast old new End = (new ≡ old) × (old.held ≡ [])

-- what is still to come, before and after
abbrev pub Finds : List ℕ → List ℕ → Window → NextLine → Type 0
Finds old new w Line = TakesLine old w.line new
Finds old new w TooLong = IsTooLong old × (new ≡ old)
Finds old new w End = (old ≡ []) × (new ≡ old)
