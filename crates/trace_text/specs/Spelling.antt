-- What a word spells: a number, a page, rights, flags or a core.
use Rattle.std.specs.Prelude.{◌≡◌, ℕ, ◌+◌, ◌^◌, ◌<◌, ◌⊎◌, Bool, true, false, List, [], ◌∷◌, ◌++◌, Some}
use Rattle.std.specs.Prelude.{if◌then◌else◌, ◌==◌, codes, decimal, length, slice_get}
use Rattle.std.specs.Int.Digits.{number_from_digits}
use Rattle.std.specs.List.{AllZip}
use Rattle.vm_base.specs.Pages.{page_of}
use Rattle.vm_base.specs.declared.rights.Mode.{Mode}
use Rattle.vm_base.specs.declared.rights.Mode.TheVariants.{R, W, RW}
use Rattle.vm_base.specs.declared.rights.Prot.{Prot}
use Rattle.vm_base.specs.declared.requests.Flags.{Flags}
use Rattle.trace_text.specs.Words.{Word, byte}
use Rattle.trace_text.specs.Request.{no_flags}

-- the byte is a digit of the base, in either case, and stands for d
abbrev pub IsDigit : ℕ → ℕ → ℕ → Type 0
IsDigit base byte d = (d < base) × ((slice_get (codes "0123456789abcdef") d ≡ Some byte)
    ⊎ (slice_get (codes "0123456789ABCDEF") d ≡ Some byte))

-- digits of the base, at least one, that write n
pub record SpellsIn (base : ℕ) (word : Word) (n : ℕ) : Type 0 where
  pub digits : List ℕ
  pub each : AllZip (IsDigit base) word digits
  pub some : 0 < length word
  pub value : n ≡ number_from_digits base digits

-- a number below 2^64: decimal, or hexadecimal after 0x
abbrev pub SpellsNumber : Word → ℕ → Type 0
SpellsNumber word n = (n < 2 ^ 64)
    × (SpellsIn 10 word n ⊎ ((digits : Word) × (word ≡ codes "0x" ++ digits) × SpellsIn 16 digits n))

-- an address below 2^64, which lies in the page
abbrev pub SpellsPage : Word → ℕ → Type 0
SpellsPage word page = (addr : ℕ) × SpellsNumber word addr × (page ≡ page_of addr)

-- a right's letter, or a dash where it isn't given
abbrev pub mark : Bool → List ℕ → List ℕ
mark true letter = letter
mark false letter = codes "-"

-- a flag's letter, where it is set
abbrev pub letter : Bool → List ℕ → List ℕ
letter true text = text
letter false text = []

abbrev pub rights_text : Prot → Word
rights_text prot =
    mark prot.read (codes "r") ++ mark prot.write (codes "w") ++ mark prot.exec (codes "x")

abbrev pub mode_text : Mode → Word
mode_text R = codes "r"
mode_text W = codes "w"
mode_text RW = codes "rw"

-- how often a byte stands in the word
abbrev pub occurrences : ℕ → Word → ℕ
occurrences letter [] = 0
occurrences letter (c ∷ cs) = (if c == letter then 1 else 0) + occurrences letter cs

-- 1 where it holds, so that sums count
abbrev pub times : Bool → ℕ
times true = 1
times false = 0

-- each flag's letter, once where it is set, and no other byte, in any order
pub record SpellsLetters (word : Word) (flags : Flags) : Type 0 where
  pub private : occurrences (byte (codes "p")) word ≡ times flags.private
  pub shared : occurrences (byte (codes "s")) word ≡ times flags.shared
  pub fixed : occurrences (byte (codes "f")) word ≡ times flags.fixed
  pub anon : occurrences (byte (codes "a")) word ≡ times flags.anon
  pub others : length word
      ≡ times flags.private + times flags.shared + times flags.fixed + times flags.anon

-- or a dash for none
abbrev pub SpellsFlags : Word → Flags → Type 0
SpellsFlags word flags = SpellsLetters word flags ⊎ ((word ≡ codes "-") × (flags ≡ no_flags))

-- the letter c and a number from 0 to 63 in decimal, without leading zeros
abbrev pub SpellsCore : Word → ℕ → Type 0
SpellsCore word core = (core < 64) × (word ≡ codes "c" ++ decimal core)
