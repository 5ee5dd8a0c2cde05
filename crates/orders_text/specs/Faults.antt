-- Why a text is that of no history.
use Rattle.std.specs.Prelude.{◌≡◌, ℕ, suc, ◌<◌, ◌≤◌, ◌⊎◌, Bool, true, false, List, [], ◌∷◌, ◌++◌, length, slice_get, Option, None, Some, ⊤}
use Rattle.trace_io.specs.declared.fault.IoFault.TheVariants.{NoMemory}
use Rattle.orders.specs.declared.history.Timed.{Timed}
use Rattle.orders_text.specs.Apart.{DoOverlap}
use Rattle.orders_text.specs.History.{Leads, Read, read_after, unread}
use Rattle.orders_text.specs.Lines.{Tells, needs_space}
use Rattle.orders_text.specs.declared.lines.HistoryLine.{HistoryLine}
use Rattle.orders_text.specs.declared.lines.HistoryLine.TheVariants.{Timed as TimedCall}
use Rattle.orders_text.specs.declared.faults.HistoryFault.{HistoryFault}
use Rattle.orders_text.specs.declared.faults.HistoryFault.TheVariants.{BadLine, TooLong, NoVmLine, Backwards, Overlap, Io}

-- so many lines lead here, and these are left
pub record IsPlace (lines : List (List ℕ)) (count : ℕ) (more : List (List ℕ)) (r : Read) : Type 0 where
  pub done : List (List ℕ)
  pub is : lines ≡ done ++ more
  pub count_is : length done ≡ count
  pub leads : Leads 1 unread done r

-- the line with this number is this, and those before it lead here
pub record IsAt (lines : List (List ℕ)) (number : ℕ) (line : List ℕ) (r : Read) : Type 0 where
  pub before : ℕ
  pub more : List (List ℕ)
  pub number_is : number ≡ suc before
  pub place : IsPlace lines before (line ∷ more) r

-- it is a call that doesn't begin below its end
abbrev pub IsBackward : HistoryLine → Type 0
IsBackward (TimedCall c) = c.end ≤ c.begin
IsBackward told = ⊥

-- what the line with this number says may not stand here, and that isn't for want of a space, nor a call that begins too late
pub record IsOutOfPlace (number : ℕ) (r : Read) (told : HistoryLine) : Type 0 where
  pub refused : read_after number r told ≡ None
  pub space : needs_space told ≡ true → r.declared.has_space ≡ true
  pub forward : ¬ IsBackward told

-- the line says nothing, or what it says is out of place
abbrev pub IsMisplaced : ℕ → Read → List ℕ → Type 0
IsMisplaced number r line = ((told : HistoryLine) → Tells told line → ⊥) ⊎ ((told : HistoryLine) × Tells told line × IsOutOfPlace number r told)

pub record IsBad (lines : List (List ℕ)) (number : ℕ) : Type 0 where
  pub read : Read
  pub line : List ℕ
  pub at : IsAt lines number line read
  pub short : length line ≤ 512
  pub misplaced : IsMisplaced number read line

pub record IsOverlong (lines : List (List ℕ)) (number : ℕ) : Type 0 where
  pub read : Read
  pub line : List ℕ
  pub at : IsAt lines number line read
  pub long : 512 < length line

-- it tells a call that doesn't begin below its end, behind the line of a space
pub record IsBackwards (lines : List (List ℕ)) (number : ℕ) : Type 0 where
  pub read : Read
  pub line : List ℕ
  pub at : IsAt lines number line read
  pub space : read.declared.has_space ≡ true
  pub short : length line ≤ 512
  pub call : Timed
  pub tells : Tells (TimedCall call) line
  pub backwards : call.end ≤ call.begin

-- the text ends, or its next line would have to stand behind that of a space
abbrev pub IsStuck : List (List ℕ) → Type 0
IsStuck [] = ⊤
IsStuck (line ∷ more) = (told : HistoryLine) × (length line ≤ 512) × Tells told line × (needs_space told ≡ true)

pub record LacksSpace (lines : List (List ℕ)) : Type 0 where
  pub read : Read
  pub count : ℕ
  pub more : List (List ℕ)
  pub place : IsPlace lines count more read
  pub no_space : read.declared.has_space ≡ false
  pub stuck : IsStuck more

-- all lines are read, and these two tell calls of one core that overlap
pub record HasOverlap (lines : List (List ℕ)) (number other : ℕ) : Type 0 where
  pub read : Read
  pub leads : Leads 1 unread lines read
  pub one : ℕ
  pub two : ℕ
  pub overlap : DoOverlap read.calls one two
  pub first : slice_get read.lines one ≡ Some number
  pub second : slice_get read.lines two ≡ Some other

-- why it is none, but for want of memory
abbrev pub IsAtFault : List (List ℕ) → HistoryFault → Type 0
IsAtFault lines (BadLine number) = IsBad lines number
IsAtFault lines (TooLong number) = IsOverlong lines number
IsAtFault lines NoVmLine = LacksSpace lines
IsAtFault lines (Backwards number) = IsBackwards lines number
IsAtFault lines (Overlap number other) = HasOverlap lines number other
IsAtFault lines (Io NoMemory) = ⊤
IsAtFault lines (Io _) = ⊥
