use Rattle.word_grammar.specs.declared.commands.TheConstants as Constant
use Rattle.word_grammar.specs.declared.commands.Word.TheVariants.{Run}
use Rattle.word_grammar.proofs.Naming.{one_more}
use Rattle.word_grammar.proofs.commands.grammar.Goals as goal

pub words-preserved : goal.words-preserved
words-preserved c = one_more Constant.WORDS c.words.at Run c.words.program c.in_ok-command.field-0 c.in_ok-program.program
    c.words-test.true c.in_ok-program.ensures c.in_ok-command.ensures c.words.invariant
