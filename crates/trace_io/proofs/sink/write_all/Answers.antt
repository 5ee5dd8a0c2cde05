use Rattle.std.proofs.Common.{rules, sym, subst, ap, ◌≡◌, ◌+◌, ◌-◌, ◌++◌, ℕ, List, length, take, drop, ◌∙◌}
use Rattle.std.proofs.KnownBytes.{Appends-trans}
use Rattle.std.proofs.Math.Seq.{take-add}
use Rattle.std.proofs.lemmas.List.{take_rest}
use Rattle.std.specs.Io.KnownBytes.{Appends}
use Rattle.trace_io.proofs.sink.write_all.Goals as goal

-- a front, and a front of what follows it
joined : (n m : ℕ) (xs : List ℕ) → take n xs ++ take m (take (length xs - n) (drop n xs)) ≡ take (n + m) xs
joined n m xs = ap (λ l. take n xs ++ take m l) (take_rest xs n) ∙ sym (take-add n m xs)

pub loop-done-preserved : goal.loop-done-preserved
loop-done-preserved g c =
    let kept = c.loop-done.invariant in
    let both = Appends-trans _ _ _ _ _ kept.written c.in_ok-done.ensures.bytes in
    record {
      within = search rules;
      written = subst (Appends _ _) (joined c.loop-done.done c.in_ok-done.field-0 c.args.bytes.now) both;
      kept = c.in_ok-done.ensures.ok ∙ kept.kept;
    }
