use Rattle.std.proofs.Common.{arith, ◌+◌, sym, append-nil}
use Rattle.trace_words.proofs.TextLemmas.{pushed_more, pushed_all}
use Rattle.trace_words.proofs.outcome_text.push_cores.Goals as goal

pub cores-init : goal.cores-init
cores-init c = record { bytes = sym (append-nil _); short = omega (arith, c.requires) }

pub cores-preserved : goal.cores-preserved
cores-preserved c = record {
  bytes =
      pushed_more c.cores.index c.args.cores c.new.result (c.cores.index + 1) _ _ _ (omega arith) c.new.ensures
      c.cores.invariant.bytes c.push_member.ensures.bytes;
  short = omega (arith, c.cores.invariant.short, c.push_member.ensures.short);
}

pub returns-clause-bytes : goal.returns-clause-bytes
returns-clause-bytes c = pushed_all _ _ _ _ (omega arith) c.cores.invariant.bytes

pub push_member-requires : goal.push_member-requires
push_member-requires c = omega (arith, c.cores.invariant.short, c.cores-test.true)

pub returns-clause-short : goal.returns-clause-short
returns-clause-short c = omega (arith, c.cores.invariant.short, c.cores.auto.index-end)
