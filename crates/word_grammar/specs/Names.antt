-- The names of the program's words.
use Rattle.std.specs.Prelude.{ℕ, List, [], ◌∷◌, codes}
use Rattle.word_grammar.specs.declared.commands.Word.{Word}
use Rattle.word_grammar.specs.declared.commands.Word.TheVariants.{Run, Maps, State, Html, Page, Certify, Live, Import, Audit, Picture, Litmus, Help}

abbrev pub name_of_word : Word → List ℕ
name_of_word Run = codes "run"
name_of_word Maps = codes "maps"
name_of_word State = codes "state"
name_of_word Html = codes "html"
name_of_word Page = codes "page"
name_of_word Certify = codes "certify"
name_of_word Live = codes "live"
name_of_word Import = codes "import"
name_of_word Audit = codes "audit"
name_of_word Picture = codes "picture"
name_of_word Litmus = codes "litmus"
name_of_word Help = codes "help"

-- All of them, in the order of the help.
abbrev pub program_words : List (List ℕ)
program_words = codes "run" ∷ codes "maps" ∷ codes "state" ∷ codes "html" ∷ codes "page" ∷ codes "certify" ∷ codes "live"
    ∷ codes "import" ∷ codes "audit" ∷ codes "picture" ∷ codes "litmus" ∷ codes "help" ∷ []
