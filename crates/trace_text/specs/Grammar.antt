-- The grammar of lines, actions and requests, by what is said.
use Rattle.std.specs.Prelude.{◌≡◌, ℕ, ◌^◌, ◌<◌, ◌≤◌, decimal, true, List, [], ◌∷◌, ◌++◌, ◌⊎◌, Some}
use Rattle.std.specs.Prelude.{codes, cond}
use Rattle.vm_base.specs.declared.requests.Flags.{Flags}
use Rattle.vm_base.specs.declared.requests.Request.{Request}
use Rattle.vm_base.specs.declared.requests.Request.TheVariants.{Mmap, Munmap, Mprotect, Load, Store}
use Rattle.vm_base.specs.declared.requests.Request.TheVariants.{Fetch}
use Rattle.trace_text.specs.Words.{Word, words_of}
use Rattle.trace_text.specs.Number.{number_of}
use Rattle.trace_text.specs.Printing.{address_of}
use Rattle.trace_text.specs.Spelling.{SpellsNumber, SpellsPage, SpellsFlags, SpellsCore, mode_text}
use Rattle.trace_text.specs.Spelling.{rights_text}
use Rattle.trace_text.specs.Line.{are_printable, is_comment, line_of_words}
use Rattle.trace_text.specs.declared.action.Action.{Action}
use Rattle.trace_text.specs.declared.action.Action.TheVariants.{Call, Go, Take, Flush, Review, GiveUp}
use Rattle.trace_text.specs.declared.action.Action.TheVariants.{Frame, Guess, Whole, Walk, Evict}
use Rattle.trace_text.specs.declared.line.Line.{Line}
use Rattle.trace_text.specs.declared.line.Line.TheVariants.{Blank, Space, File, Act, Fold, Finish, Now}

-- the words after the flags: a file and an offset, both 0 where an anonymous mapping leaves them
-- out
abbrev pub Backs : Flags → ℕ → ℕ → List Word → Type 0
Backs flags file off words = ((words ≡ []) × (flags.anon ≡ true) × (file ≡ 0) × (off ≡ 0))
    ⊎ ((f : Word) × (o : Word) × (words ≡ f ∷ o ∷ []) × SpellsNumber f file × SpellsNumber o off)

-- the words say this request
abbrev pub Asks : Request → List Word → Type 0
Asks (Mmap addr len prot flags file off) words =
    (a : Word) × (l : Word) × (p : Word) × (f : Word) × (more : List Word)
    × (words ≡ codes "mmap" ∷ a ∷ l ∷ p ∷ f ∷ more) × SpellsNumber a addr × SpellsNumber l len
    × (p ≡ rights_text prot) × SpellsFlags f flags
    × Backs flags file off more
Asks (Munmap addr len) words = (a : Word) × (l : Word) × (words ≡ codes "munmap" ∷ a ∷ l ∷ [])
    × SpellsNumber a addr × SpellsNumber l len
Asks (Mprotect addr len prot) words = (a : Word) × (l : Word) × (p : Word)
    × (words ≡ codes "mprotect" ∷ a ∷ l ∷ p ∷ []) × SpellsNumber a addr × SpellsNumber l len
    × (p ≡ rights_text prot)
Asks (Load addr) words = (a : Word) × (words ≡ codes "load" ∷ a ∷ []) × SpellsNumber a addr
Asks (Store addr byte) words = (a : Word) × (b : Word) × (words ≡ codes "store" ∷ a ∷ b ∷ [])
    × SpellsNumber a addr × SpellsNumber b byte × (byte ≤ 255)
Asks (Fetch addr) words = (a : Word) × (words ≡ codes "fetch" ∷ a ∷ []) × SpellsNumber a addr

-- the words behind a core's name say this action
abbrev pub Does : Action → List Word → Type 0
Does (Call request) words = (args : List Word) × (words ≡ codes "call" ∷ args) × Asks request args
Does Go words = words ≡ codes "go" ∷ []
Does Take words = words ≡ codes "take" ∷ []
Does Flush words = words ≡ codes "flush" ∷ []
Does Review words = words ≡ codes "review" ∷ []
Does GiveUp words = words ≡ codes "giveup" ∷ []
Does (Frame frame) words = (f : Word) × (words ≡ codes "frame" ∷ f ∷ []) × SpellsNumber f frame
Does (Guess page) words = (a : Word) × (words ≡ codes "guess" ∷ a ∷ []) × SpellsPage a page
Does Whole words = words ≡ codes "whole" ∷ []
Does (Walk page) words = (a : Word) × (words ≡ codes "walk" ∷ a ∷ []) × SpellsPage a page
Does (Evict page) words = (a : Word) × (words ≡ codes "evict" ∷ a ∷ []) × SpellsPage a page

-- the words after CORES and FRAMES: CALLS, which is 4096 where left out
abbrev pub Limits : ℕ → List Word → Type 0
Limits calls words =
    ((words ≡ []) × (calls ≡ 4096)) ⊎ ((w : Word) × (words ≡ w ∷ []) × SpellsNumber w calls)

-- the words of a line say this
abbrev pub Says : Line → List Word → Type 0
Says Blank words = words ≡ []
Says (Space cores frames calls) words = (c : Word) × (f : Word) × (more : List Word)
    × (words ≡ codes "vm" ∷ c ∷ f ∷ more) × SpellsNumber c cores × SpellsNumber f frames
    × Limits calls more
Says (File number mode len seed) words =
    (n : Word) × (l : Word) × (s : Word) × (words ≡ codes "file" ∷ n ∷ mode_text mode ∷ l ∷ s ∷ [])
    × SpellsNumber n number × SpellsNumber l len × SpellsNumber s seed × (seed ≤ 255)
Says (Act core action) words =
    (c : Word) × (args : List Word) × (words ≡ c ∷ args) × SpellsCore c core × Does action args
Says (Fold page) words = (a : Word) × (words ≡ codes "fold" ∷ a ∷ []) × SpellsPage a page
Says (Finish core) words = (c : Word) × (words ≡ c ∷ codes "finish" ∷ []) × SpellsCore c core
Says (Now core request) words = (c : Word) × (args : List Word) × (words ≡ (c ++ codes "!") ∷ args)
    × SpellsCore c core × Asks request args

-- the bytes of a line say this: nothing where the first is a #, else what their words say
abbrev pub BytesSay : Line → List ℕ → Type 0
BytesSay line bytes = cond (is_comment bytes) (line ≡ Blank) (Says line (words_of bytes))

-- what is said is read
abbrev pub ReadsAll : Type 0
ReadsAll = (line : Line) (words : List Word) → Says line words → line_of_words words ≡ Some line

-- what is read is said
abbrev pub ReadsOnly : Type 0
ReadsOnly = (line : Line) (words : List Word) → line_of_words words ≡ Some line → Says line words

-- and has no bytes but printable ones
abbrev pub ReadsPrintable : Type 0
ReadsPrintable = (line : Line) (bytes : List ℕ) → line_of_words (words_of bytes) ≡ Some line
    → are_printable bytes ≡ true

-- numbers and addresses that are printed are read back as themselves
abbrev pub ReadsPrinted : Type 0
ReadsPrinted =
    (n : ℕ) → n < 2 ^ 64 → (number_of (decimal n) ≡ Some n) × (number_of (address_of n) ≡ Some n)
