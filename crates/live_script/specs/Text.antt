-- What a history is written as
use Rattle.std.specs.Prelude.{ℕ, List, ◌++◌, codes, decimal}
use Rattle.std.specs.List.{flat_map}
use Rattle.trace_words.specs.Declarations.{DeclarationView}
use Rattle.trace_text.specs.Printing.{text_of}
use Rattle.orders.specs.declared.history.Timed.{Timed}
use Rattle.trace_words.specs.Written.{declared_text, request_words, spaced}

-- `BEGIN END cC! REQ = REPLY`
abbrev pub call_text : Timed → List ℕ
call_text c = decimal c.begin ++ codes " " ++ decimal c.end ++ codes " c" ++ decimal c.call.core ++ codes "!"
    ++ spaced (request_words c.call.request) ++ codes " = " ++ text_of c.call.reply ++ codes "\n"

-- what is declared, and a line of each call
abbrev pub history_text : DeclarationView → List Timed → List ℕ
history_text asked calls = declared_text asked ++ flat_map call_text calls
