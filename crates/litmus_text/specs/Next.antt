-- What follows a fact, as it is found.
use Rattle.std.specs.Prelude.{◌≡◌, ℕ, List, [], ◌∷◌, Option, None, Some}
use Rattle.trace_text.specs.Words.{Word, words_of}
use Rattle.litmus_text.specs.Facts.{joint_of}
use Rattle.litmus_text.specs.declared.facts.Next.{Next}
use Rattle.litmus_text.specs.declared.facts.Next.TheVariants.{End, Joined, Other}

-- nothing, a joint with the words behind it, or another word
abbrev pub Follows : Next → List Word → Type 0
Follows End words = words ≡ []
Follows (Joined joint rest) words = (w : Word) × (words ≡ w ∷ words_of rest.now) × (joint_of w ≡ Some joint)
Follows Other words = (w : Word) × (ws : List Word) × (words ≡ w ∷ ws) × (joint_of w ≡ None)
