use Rattle.std.proofs.Common.{◌≡◌, map, take}
use Rattle.clap.specs.Words.{subcommand_names}
use Rattle.word_grammar.specs.Names.{name_of_word}
use Rattle.word_grammar.specs.declared.commands.TheConstants as Constant
use Rattle.word_grammar.proofs.commands.grammar.Given as goal

-- the program has the words so far
abbrev pub invariant-words : goal.invariant-words
invariant-words l = subcommand_names l.program ≡ map name_of_word (take l.at Constant.WORDS)
