use Rattle.std.proofs.Common.{◌≡◌, ◌+◌, ◌^◌, ◌%◌, ap, ◌∙◌}
use Rattle.coded.proofs.Codings.{bits_more}
use Rattle.coded.proofs.bits.bits_of.Goals as goal

pub cores-preserved : goal.cores-preserved
cores-preserved c =
    let below : c.cores.bits ≡ c.args.cores % 2 ^ c.cores.index = c.cores.invariant in
    let all : c.cores.bits + c.bit_of-bits.result ≡ c.args.cores % 2 ^ (c.cores.index + 1) =
    ap (λ b. b + c.bit_of-bits.result) below ∙ ap (λ r. c.args.cores % 2 ^ c.cores.index + r) c.bit_of-bits.ensures
    ∙ bits_more c.args.cores c.cores.index in
    all
