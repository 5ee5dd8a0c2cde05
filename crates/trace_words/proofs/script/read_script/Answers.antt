use Rattle.trace_io.proofs.LineLemmas.{reads_map}
use Rattle.trace_words.specs.Scripts.{unread_text}
use Rattle.trace_words.proofs.ScriptLemmas.{found_script}
use Rattle.trace_words.proofs.script.read_script.Goals as goal

pub returns-in-Err-clause-reads : goal.returns-in-Err-clause-reads
returns-in-Err-clause-reads g c = reads_map _ _ _ _ c.in-Err.ensures.err (λ xs ys k p. unread_text p)

pub returns-clause-reads : goal.returns-clause-reads
returns-clause-reads g c =
    reads_map _ _ _ _ c.in-Ok-collect.ensures.ok (λ xs ys k p. found_script xs ys _ _ p c.script_of-script.ensures.ok c.script_of-script.ensures.err)
