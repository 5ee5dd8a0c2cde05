use Rattle.std.proofs.Common.{◌≡◌, ℕ, length, get_or, replicate, arith, rules, ap, ◌∙◌}
use Rattle.frames.proofs.BitSets.{bit_in-empty, zero_words}
use Rattle.live_pages.proofs.FreeFrames.{none_free}
use Rattle.live_pages.proofs.free_frames.FreeFrames.none.Goals as goal

pub invariant_of-result : goal.invariant_of-result
invariant_of-result g c =
    let zero : c.in_ok-words.words.items ≡ replicate {A = ℕ} c.div_ceil.result 0 = search rules in
    let len : length c.in_ok-words.words.items ≡ c.div_ceil.result = search rules in
    none_free c.in_ok-words.words.items c.args.frames c.requires (omega (arith, len, c.div_ceil.ensures, c.requires))
    (omega (arith, len, c.div_ceil.ensures)) (bit_in-empty c.in_ok-words.words.items (λ w. ap (λ s. get_or s w 0) zero ∙ zero_words c.div_ceil.result w))

pub returns-clause-free : goal.returns-clause-free
returns-clause-free g c =
    let zero : c.in_ok-words.words.items ≡ replicate {A = ℕ} c.div_ceil.result 0 = search rules in
    bit_in-empty c.in_ok-words.words.items (λ w. ap (λ s. get_or s w 0) zero ∙ zero_words c.div_ceil.result w)
