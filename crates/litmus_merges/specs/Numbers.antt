-- Numbers by which ends are told apart
use Rattle.std.specs.Prelude.{◌≡◌, ℕ, zero, ◌+◌, ◌*◌, ◌%◌, ◌^◌, List, [], ◌∷◌, Some, length, slice_get}
use Rattle.vm_base.specs.declared.replies.Reply.{Reply}
use Rattle.vm_base.specs.declared.replies.Reply.TheVariants.{Mapped, Done, Byte, Refused, Segv, Bus, NoFrame, NoMemory}
use Rattle.vm_base.specs.declared.replies.SegvCode.TheVariants.{AccErr, MapErr}
use Rattle.litmus_merges.specs.declared.ending.End.{End}

-- a number for a reply
abbrev pub reply_number : Reply → ℕ
reply_number (Byte byte) = byte
reply_number Done = 256
reply_number (Segv MapErr) = 257
reply_number (Segv AccErr) = 258
reply_number Bus = 259
reply_number (Refused errno) = 260
reply_number (Mapped addr) = 261
reply_number NoFrame = 262
reply_number NoMemory = 263

-- a number and that of a reply
abbrev pub mixed : ℕ → Reply → ℕ
mixed number reply = (number * 33 + reply_number reply) % 2 ^ 32

-- and those of all replies of a list
abbrev pub mixed_all : ℕ → List Reply → ℕ
mixed_all number [] = number
mixed_all number (reply ∷ replies) = mixed_all (mixed number reply) replies

-- a number for replies and finals
abbrev pub number_of : List Reply → List Reply → ℕ
number_of replies finals = mixed_all (mixed_all zero replies) finals

-- the ends' numbers
pub record AreNumbered {A : Type 0} (ends : List (End A)) (numbers : List ℕ) : Type 0 where
  pub count : length numbers ≡ length ends
  pub each : (k : ℕ) (end : End A) → slice_get ends k ≡ Some end
      → slice_get numbers k ≡ Some (number_of end.replies.items end.finals.items)
