-- A reply that is a number.
use Rattle.std.specs.Prelude.{◌&&◌, Bool, false, [], ◌∷◌, Option, None, Some, if◌then◌else◌, ◌==◌, nat_lt, codes}
use Rattle.vm_base.specs.declared.replies.Reply.{Reply}
use Rattle.vm_base.specs.declared.replies.Reply.TheVariants.{Mapped, Byte}
use Rattle.trace_text.specs.Words.{Word, byte}
use Rattle.trace_text.specs.Number.{number_of}
use Rattle.trace_text.specs.Request.{◌>>=◌}

-- the word begins as an address does
abbrev pub is_hexadecimal : Word → Bool
is_hexadecimal [] = false
is_hexadecimal (c ∷ []) = false
is_hexadecimal (c ∷ d ∷ ds) = (c == byte (codes "0")) && (d == byte (codes "x"))

-- an address in hexadecimal digits, a byte in decimal ones
unfoldable pub value_of : Word → Option Reply
value_of word = do
  n ← number_of word
  if is_hexadecimal word then Some (Mapped n) else if nat_lt 255 n then None else Some (Byte n)
