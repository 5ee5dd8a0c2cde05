-- How the line of a copy is read: `cC copy ADDR`.
use Rattle.std.specs.Prelude.{◌≡◌, ℕ, List, [], ◌∷◌, Option, None, Some, if◌then◌else◌, codes}
use Rattle.std.specs.Str.{bytes_eq}
use Rattle.vm_base.specs.Pages.{page_of}
use Rattle.trace_text.specs.Line.{core_of}
use Rattle.trace_text.specs.Request.{◌>>=◌, ended, front_number}
use Rattle.trace_text.specs.Spelling.{SpellsCore, SpellsPage}
use Rattle.trace_text.specs.Words.{Word, front_word}

-- the words say that the page with this number gets its copy, for a store of some core
abbrev pub CopiesPage : ℕ → List Word → Type 0
CopiesPage page words = (c : Word) × (core : ℕ) × (a : Word) × (words ≡ c ∷ codes "copy" ∷ a ∷ [])
    × SpellsCore c core × SpellsPage a page

-- ---- how it is read

-- the page of the address that is the last word
unfoldable pub page_of_words : List Word → Option ℕ
page_of_words words = do
  addr ← front_number words
  ended addr.1 (page_of addr.0)

-- the page behind the word `copy`
unfoldable pub copied_of : List Word → Option ℕ
copied_of words = do
  name ← front_word words
  if bytes_eq name.0 (codes "copy") then page_of_words name.1 else None

unfoldable pub copy_of : List Word → Option ℕ
copy_of words = do
  name ← front_word words
  core ← core_of name.0
  copied_of name.1
