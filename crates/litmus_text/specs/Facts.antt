-- What the words of a clause say: facts, joined by `and` and `or`.
use Rattle.std.specs.Prelude.{ℕ, suc, zero, List, [], ◌∷◌, Option, None, Some, option_map, if◌then◌else◌, codes}
use Rattle.std.specs.Str.{bytes_eq}
use Rattle.vm_base.specs.declared.replies.SegvCode.TheVariants.{MapErr, AccErr}
use Rattle.vm_base.specs.declared.replies.Reply.{Reply}
use Rattle.vm_base.specs.declared.replies.Reply.TheVariants.{Byte, Segv}
use Rattle.trace_text.specs.Line.{core_of}
use Rattle.trace_text.specs.Number.{number_of}
use Rattle.trace_text.specs.Request.{◌>>=◌}
use Rattle.trace_text.specs.Words.{Word, byte, front_word}
use Rattle.audit_text.specs.Replies.{reply_of}
use Rattle.import_forms.specs.Tokens.{split_at_last}
use Rattle.litmus_text.specs.declared.facts.Fact.{Fact}
use Rattle.litmus_text.specs.declared.facts.Fact.TheVariants.{Has, Lacks, Shows}
use Rattle.litmus_text.specs.declared.facts.Connective.{Connective}
use Rattle.litmus_text.specs.declared.facts.Connective.TheVariants.{And, Or}
use Rattle.litmus_text.specs.declared.facts.Term.{Term}

-- `cC.N`: a core, and the number of one of its calls
unfoldable pub call_named : Word → Option (ℕ × ℕ)
call_named word = do
  parts ← split_at_last (byte (codes ".")) word
  core ← core_of parts.0
  number ← number_of parts.1
  Some (core, number)

-- what a load shows that is answered by a byte
abbrev pub shows : Option ℕ → Reply → Option Fact
shows (Some addr) (Byte b) = Some (Shows addr b)
shows addr reply = None

-- what a place has: a call its reply, an address its byte
abbrev pub place_has : Word → Option (ℕ × ℕ) → Reply → Option Fact
place_has place (Some call) reply = Some (Has call.0 call.1 reply)
place_has place None reply = shows (number_of place) reply

-- a call has another reply
abbrev pub place_lacks : Option (ℕ × ℕ) → Reply → Option Fact
place_lacks (Some call) reply = Some (Lacks call.0 call.1 reply)
place_lacks None reply = None

-- `cC.N = REPLY`, `cC.N != REPLY` or `ADDR = BYTE`
abbrev pub fact_of : Word → Word → Reply → Option Fact
fact_of place sign reply = if bytes_eq sign (codes "=") then place_has place (call_named place) reply
    else if bytes_eq sign (codes "!=") then place_lacks (call_named place) reply else None

-- what follows the word `segv`
abbrev pub segv_of : Word → Option Reply
segv_of code = if bytes_eq code (codes "maperr") then Some (Segv MapErr)
    else if bytes_eq code (codes "accerr") then Some (Segv AccErr) else None

-- the reply of two words, the first of which is `segv`, and the words behind
unfoldable pub front_segv : List Word → Option (Reply × List Word)
front_segv words = do
  code ← front_word words
  reply ← segv_of code.0
  Some (reply, code.1)

-- the reply of one word, and the words behind
unfoldable pub single_reply : Word → List Word → Option (Reply × List Word)
single_reply name rest = do
  reply ← reply_of name
  Some (reply, rest)

-- the reply that the words begin with, and the words behind
unfoldable pub front_reply : List Word → Option (Reply × List Word)
front_reply words = do
  name ← front_word words
  if bytes_eq name.0 (codes "segv") then front_segv name.1 else single_reply name.0 name.1

-- the fact that the words begin with, and the words behind
unfoldable pub front_fact : List Word → Option (Fact × List Word)
front_fact words = do
  place ← front_word words
  sign ← front_word place.1
  value ← front_reply sign.1
  fact ← fact_of place.0 sign.0 value.0
  Some (fact, value.1)

abbrev pub joint_of : Word → Option Connective
joint_of word = if bytes_eq word (codes "and") then Some And else if bytes_eq word (codes "or") then Some Or else None

-- A fact is the last, or `and` or `or` stands behind it, and then more.
abbrev pub joined : (Connective → List Word → Option (List Term)) → Term → List Word → Option (List Term)
joined more term [] = Some (term ∷ [])
joined more term (w ∷ ws) = joint_of w >>= λ joint. option_map (λ terms. term ∷ terms) (more joint ws)

-- a fact behind its joint
abbrev pub term : Connective → Fact → Term
term joint fact = record { joint = joint; fact = fact }

-- facts, so many at most, the first of them behind this joint
abbrev pub terms_from : ℕ → Connective → List Word → Option (List Term)
terms_from zero joint words = None
terms_from (suc n) joint words = front_fact words >>= λ first. joined (terms_from n) (term joint first.0) first.1

-- The facts of a clause: 32 at most, for which a line has room. The first stands as if `or` were in front of it.
abbrev pub terms_of : List Word → Option (List Term)
terms_of words = terms_from 32 Or words
