use Rattle.std.proofs.Common.{◌∙◌}
use Rattle.core_steps.specs.Machine.{state}
use Rattle.trace_words.specs.Declarations.{made_by}
use Rattle.litmus_outcomes.proofs.Assembled.{seen_by}
use Rattle.litmus_outcomes.proofs.listing.outcome_of.Goals as goal

pub returns-clause-is : goal.returns-clause-is
returns-clause-is g c = record {
  replies = c.in-Ok-copy_of.ensures ∙ c.as_slice.ensures.value;
  finals = c.in-Ok-copy_of-2.ensures ∙ c.as_slice-2.ensures.value;
  maps = c.in-Ok-lines_of.ensures ∙ c.as_slice-3.ensures.value;
}

pub returns-clause-reached : goal.returns-clause-reached
returns-clause-reached g c = λ t leads. seen_by (made_by c.args.declared.now) c.args.opening.now (state c.args.first.now) c.args.calls.now c.args.loads.now
    c.args.maps c.args.end.now
    (record { replies = c.in-Ok-copy_of.replies; finals = c.in-Ok-copy_of-2.finals; maps = c.in-Ok-lines_of.lines; witness = c.in-Ok.witness })
    (record {
      replies = c.in-Ok-copy_of.ensures ∙ c.as_slice.ensures.value;
      finals = c.in-Ok-copy_of-2.ensures ∙ c.as_slice-2.ensures.value;
      maps = c.in-Ok-lines_of.ensures ∙ c.as_slice-3.ensures.value;
    })
    c.in-Ok.ensures t leads
