-- The line that tells a ruling on calls that overlap, and what failed of reading and writing.
use Rattle.std.specs.Prelude.{ℕ, List, ◌++◌, Result, codes, decimal}
use Rattle.trace_io.specs.Io.{ReadFrom, TellsSent, WrittenTo}
use Rattle.trace_text.specs.Printing.{text_of}
use Rattle.orders_text.specs.declared.faults.HistoryFault.{HistoryFault}
use Rattle.orders_text.specs.declared.faults.HistoryFault.TheVariants.{Io}
use Rattle.overlapping.specs.declared.judging.Ruling.{Ruling}
use Rattle.overlapping.specs.declared.judging.Ruling.TheVariants.{Legal, NoOrder, Undecided}

-- the line that tells it
abbrev pub ruling_text : Ruling → List ℕ
ruling_text (Legal calls) = codes "legal " ++ decimal calls ++ codes "\n"
ruling_text (NoOrder line reply) = codes "no order " ++ decimal line ++ codes ": replied " ++ text_of reply ++ codes "\n"
ruling_text (Undecided line) = codes "undecided " ++ decimal line ++ codes "\n"

abbrev pub TellsJudgement : {T : Type 0} → Result T HistoryFault → ReadFrom → WrittenTo → Type 0
TellsJudgement r text sink = TellsSent Io r text sink
