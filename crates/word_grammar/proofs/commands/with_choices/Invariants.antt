use Rattle.std.proofs.Common.{◌≡◌}
use Rattle.clap.specs.Words.{app_of}
use Rattle.word_grammar.proofs.commands.with_choices.Given as goal

-- the word has its name
abbrev pub invariant-choices : goal.invariant-choices
invariant-choices l = (app_of l.command).top.name ≡ (app_of l.fn.word).top.name
