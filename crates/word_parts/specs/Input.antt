-- What a trace is read from, by the name that the words give.
use Rattle.std.specs.Prelude.{◌≡◌, ◌⊎◌, ℕ, List, Option, None, Some, codes, ⊤}
use Rattle.either.specs.declared.Either.{Either}
use Rattle.either.specs.declared.Either.TheVariants.{Left, Right}

-- standard input: no name, or `-`
abbrev pub NamesStandard : Option (List ℕ) → Type 0
NamesStandard None = ⊤
NamesStandard (Some name) = name ≡ codes "-"

-- the input with this name: the standard one, or a file that was opened
abbrev pub IsInput : {I O : Type 0} → I → (List ℕ → O → Type 0) → Option (List ℕ) → Either I O → Type 0
IsInput {I} {O} standard Opens name i = (NamesStandard name × (i ≡ Left standard))
    ⊎ ((path : List ℕ) × (file : O) × (name ≡ Some path) × (NamesStandard name → ⊥) × (i ≡ Right file) × Opens path file)

-- the list with this name: an empty one where there is none, or a file that was opened
abbrev pub IsList : {E O : Type 0} → (List ℕ → O → Type 0) → Option (List ℕ) → Either E O → Type 0
IsList {E} {O} Opens name i = ((empty : E) × (name ≡ None) × (i ≡ Left empty))
    ⊎ ((path : List ℕ) × (file : O) × (name ≡ Some path) × (i ≡ Right file) × Opens path file)
