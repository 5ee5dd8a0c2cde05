-- What bytes begin with.
use Rattle.std.specs.Prelude.{◌≡◌, ℕ, ◌^◌, ◌<◌, ◌≤◌, List, ◌∷◌, ◌++◌, Some, length, take, drop}
use Rattle.std.specs.Prelude.{slice_index, codes, decimal, if◌then◌else◌, []}
use Rattle.vm_base.specs.declared.requests.Request.{Request}
use Rattle.vm_base.specs.declared.requests.Request.TheVariants.{Load, Store}
use Rattle.trace_text.specs.Words.{byte}
use Rattle.trace_text.specs.Number.{value_from}
use Rattle.trace_text.specs.declared.access_line.AskedAccess.{AskedAccess}
use Rattle.trace_text.specs.declared.action.Action.{Action}
use Rattle.trace_text.specs.declared.action.Action.TheVariants as Action
use Rattle.trace_text.specs.declared.step_line.AskedStep.{AskedStep}
use Rattle.trace_text.specs.declared.step_line.AskedStep.TheVariants.{Take, Flush, Review}

-- the value of the digits before the first space, which are some, and the bytes from there on
pub record EndsValue (base : ℕ) (digits : List ℕ) (number : ℕ) (others : List ℕ) : Type 0 where
  pub count : ℕ
  pub some : 0 < count
  pub within : count ≤ length digits
  pub fits : number < 2 ^ 64
  pub value : value_from base 0 (take count digits) ≡ Some number
  pub rest : others ≡ drop count digits
  pub ends : count < length digits → slice_index digits count ≡ byte (codes " ")

-- the bytes begin with the name of a core, and the sign that its call is finished
pub record BeginsNow (bytes : List ℕ) (core : ℕ) (args : List ℕ) : Type 0 where
  pub low : core < 64
  pub is : bytes ≡ codes "c" ++ (decimal core ++ (codes "! " ++ args))

-- the bytes begin with the name of a core that is told one thing
pub record BeginsCore (bytes : List ℕ) (core : ℕ) (args : List ℕ) : Type 0 where
  pub low : core < 64
  pub is : bytes ≡ codes "c" ++ (decimal core ++ (codes " " ++ args))

-- this is the one digit of the core's name
abbrev pub NamesByOne : ℕ → ℕ → Type 0
NamesByOne digit core = (core < 64) × (decimal core ≡ digit ∷ [])

-- these are the two digits of the core's name
abbrev pub NamesByTwo : ℕ → ℕ → ℕ → Type 0
NamesByTwo tens ones core = (core < 64) × (decimal core ≡ tens ∷ ones ∷ [])

-- the request for such an access
abbrev pub access_asked : AskedAccess → Request
access_asked access = if access.is_store then Store access.addr access.byte else Load access.addr

-- the action that such a step is
abbrev pub step_asked : AskedStep → Action
step_asked Take = Action.Take
step_asked Flush = Action.Flush
step_asked Review = Action.Review
