-- What a core that was found shows
use Rattle.std.specs.Prelude.{◌≡◌, ◌⊎◌, ℕ, Bool, true, List, [], ◌∷◌, Option}
use Rattle.vm_base.specs.Plain.{File, Plain, nothing_mapped}
use Rattle.audit.specs.Placing.{rule_of}
use Rattle.orders.specs.declared.history.Timed.{Timed}
use Rattle.orders.specs.Orders.{HasOrder}
use Rattle.cores.specs.declared.finding.Core.{Core}
use Rattle.cores.specs.Byteless.{AreByteless}
use Rattle.cores.specs.Cores.{HasNone, IsCore}
use Rattle.cores.specs.Effects.{AreTold, IsMade, took}

-- It is a core of these calls, some of which may not have taken effect: its first call did, and each other one of these is open. Alone it has
-- no order that begins with nothing mapped; and so the calls have none, whatever it begins with.
pub record IsShownOf {A : Type 0} (any_place : Bool) (h : List Timed) (effects : List Bool) (core : Core A) : Type 0 where
  pub is : IsCore h core.pages core.number core.first core.start core.built core.cut core.kept.items
  pub first : took effects core.number ≡ true
  pub told : AreTold effects core.kept.items
  pub files : ℕ → Option File
  pub alone : HasNone (rule_of any_place) (nothing_mapped files) (core.start ∷ []) core.kept.items
  pub none : (t : Plain) (made : List Timed) → IsMade h effects made → ¬ HasOrder (rule_of any_place) t made

-- It is one of the calls of the history, or of them without their bytes.
abbrev pub IsSeen : List Timed → List Timed → Type 0
IsSeen h seen = (seen ≡ h) ⊎ AreByteless h seen

pub record IsShownBut {A : Type 0} (any_place : Bool) (h : List Timed) (effects : List Bool) (core : Core A) : Type 0 where
  pub seen : List Timed
  pub sees : IsSeen h seen
  pub shown : IsShownOf any_place seen effects core
  pub none : (t : Plain) (made : List Timed) → IsMade h effects made → ¬ HasOrder (rule_of any_place) t made

-- So it is where all calls took effect.
pub record IsShown {A : Type 0} (any_place : Bool) (h : List Timed) (core : Core A) : Type 0 where
  pub seen : List Timed
  pub sees : IsSeen h seen
  pub shown : IsShownOf any_place seen [] core
  pub none : (t : Plain) → ¬ HasOrder (rule_of any_place) t h
