-- What the words of a request say.
use Rattle.std.specs.Prelude.{ℕ, Bool, true, false, not, ◌&&◌, List, [], ◌∷◌, Option, None, Some}
use Rattle.std.specs.Prelude.{if◌then◌else◌, ◌==◌, nat_lt, codes, option_and_then}
use Rattle.std.specs.Str.{bytes_eq}
use Rattle.vm_base.specs.declared.rights.Prot.{Prot}
use Rattle.vm_base.specs.declared.requests.Flags.{Flags}
use Rattle.vm_base.specs.declared.requests.Request.{Request}
use Rattle.vm_base.specs.declared.requests.Request.TheVariants.{Mmap, Munmap, Mprotect, Load, Store}
use Rattle.vm_base.specs.declared.requests.Request.TheVariants.{Fetch}
use Rattle.trace_text.specs.Words.{Word, byte, front_word}
use Rattle.trace_text.specs.Number.{number_of}

infixl 10 ◌>>=◌
abbrev pub ◌>>=◌ : {A B : Type 0} → Option A → (A → Option B) → Option B
None >>= f = None
(Some x) >>= f = f x

-- no word is left
abbrev pub ended : {A : Type 0} → List Word → A → Option A
ended [] x = Some x
ended (w ∷ ws) x = None

-- the number that the first word spells, and the words after it
unfoldable pub front_number : List Word → Option (ℕ × List Word)
front_number words = do
  first ← front_word words
  n ← number_of first.0
  Some (n, first.1)

-- a right's letter, or a dash where it isn't given
abbrev pub mark_of : ℕ → ℕ → Option Bool
mark_of letter c =
    if c == letter then Some true else if c == byte (codes "-") then Some false else None

-- three marks: of read, write and execute
unfoldable pub prot_of : Word → Option Prot
prot_of [] = None
prot_of (r ∷ []) = None
prot_of (r ∷ w ∷ []) = None
prot_of (r ∷ w ∷ x ∷ []) = do
  read ← mark_of (byte (codes "r")) r
  write ← mark_of (byte (codes "w")) w
  exec ← mark_of (byte (codes "x")) x
  Some (record { read = read; write = write; exec = exec })
prot_of (r ∷ w ∷ x ∷ y ∷ ys) = None

-- a number up to 255, and the words after it
unfoldable pub front_byte : List Word → Option (ℕ × List Word)
front_byte words = do
  number ← front_number words
  if nat_lt 255 number.0 then None else Some number

unfoldable pub munmap_of : List Word → Option Request
munmap_of words = do
  addr ← front_number words
  len ← front_number addr.1
  ended len.1 (Munmap addr.0 len.0)

-- the protection, as the last word
unfoldable pub protected_of : ℕ → ℕ → List Word → Option Request
protected_of addr len words = do
  third ← front_word words
  prot ← prot_of third.0
  ended third.1 (Mprotect addr len prot)

unfoldable pub mprotect_of : List Word → Option Request
mprotect_of words = do
  addr ← front_number words
  len ← front_number addr.1
  protected_of addr.0 len.0 len.1

unfoldable pub load_of : List Word → Option Request
load_of words = do
  addr ← front_number words
  ended addr.1 (Load addr.0)

unfoldable pub store_of : List Word → Option Request
store_of words = do
  addr ← front_number words
  value ← front_byte addr.1
  ended value.1 (Store addr.0 value.0)

unfoldable pub fetch_of : List Word → Option Request
fetch_of words = do
  addr ← front_number words
  ended addr.1 (Fetch addr.0)

-- no letter of flags so far
abbrev pub no_flags : Flags
no_flags = record { private = false; shared = false; fixed = false; anon = false }

-- one letter more, which was not there
abbrev pub flag_more : Flags → ℕ → Option Flags
flag_more f c = if (c == byte (codes "p")) && not f.private then Some (record f { private = true })
    else if (c == byte (codes "s")) && not f.shared then Some (record f { shared = true })
    else if (c == byte (codes "f")) && not f.fixed then Some (record f { fixed = true })
    else if (c == byte (codes "a")) && not f.anon then Some (record f { anon = true }) else None

-- each letter at most once
abbrev pub flags_from : Flags → List ℕ → Option Flags
flags_from f [] = Some f
flags_from f (c ∷ cs) = option_and_then (λ g. flags_from g cs) (flag_more f c)

-- the letters, or a dash for none
abbrev pub flags_of : Word → Option Flags
flags_of w = if bytes_eq w (codes "-") then Some no_flags else flags_from no_flags w

-- FILE and OFF, which only a request for anonymous pages may leave out
unfoldable pub backed_of : ℕ → ℕ → Prot → Flags → List Word → Option Request
backed_of addr len prot flags [] = if flags.anon then Some (Mmap addr len prot flags 0 0) else None
backed_of addr len prot flags (w ∷ ws) = do
  file ← front_number (w ∷ ws)
  off ← front_number file.1
  ended off.1 (Mmap addr len prot flags file.0 off.0)

unfoldable pub mmap_of : List Word → Option Request
mmap_of words = do
  addr ← front_number words
  len ← front_number addr.1
  third ← front_word len.1
  prot ← prot_of third.0
  fourth ← front_word third.1
  flags ← flags_of fourth.0
  backed_of addr.0 len.0 prot flags fourth.1

unfoldable pub request_of : List Word → Option Request
request_of words = do
  name ← front_word words
  if bytes_eq name.0 (codes "mmap") then mmap_of name.1
      else if bytes_eq name.0 (codes "munmap") then munmap_of name.1
      else if bytes_eq name.0 (codes "mprotect") then mprotect_of name.1
      else if bytes_eq name.0 (codes "load") then load_of name.1
      else if bytes_eq name.0 (codes "store") then store_of name.1
      else if bytes_eq name.0 (codes "fetch") then fetch_of name.1 else None
