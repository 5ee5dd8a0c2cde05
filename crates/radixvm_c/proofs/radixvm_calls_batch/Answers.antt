use Rattle.radixvm_c.proofs.radixvm_calls_batch.Goals as goal

pub returns : goal.returns
returns c = (c.calls_batch.result, c.done_of.ensures, c.calls_batch.ensures)
