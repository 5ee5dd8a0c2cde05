use Rattle.std.proofs.Common.{refl, ◌≡◌, ℕ, zero, suc, ◌-◌, ◌<◌, [], ◌∷◌, ◌++◌, arith, sym, ap, ◌∙◌, subst}
use Rattle.atomic_table.specs.Table.{opening}
use Rattle.shared.specs.Cores.{made_of}
use Rattle.shared.specs.Rules.{Kept, first_known, padded}
use Rattle.shared.proofs.Keeping.{few_cores, opened}
use Rattle.shared.proofs.space.SharedMachine.new.Goals as goal

pub overflow_cast-left : goal.overflow_cast-left
overflow_cast-left g c =
    let few = few_cores _ c.core_count-cores.ensures.legal in let is = c.core_count-cores.ensures.cores in record { fits = omega (arith, few, is) }

pub new-requires-2 : goal.new-requires-2
new-requires-2 g c =
    let key = c.and-first.ensures ∙ ap (λ l. l ++ c.args.machine ∷ []) c.new.ensures in
    let slots = c.push_reserved.ensures.items ∙ ap (λ l. l ++ c.args.machine ∷ []) c.in-Ok.ensures.items in
    let cores = c.core_count-cores.ensures.cores in
    let some = c.if-cores-eq0.false in
    subst (λ l. Kept g.S.Whole.state c.and-first.result.items (opening (padded 1) l (first_known g.S.Whole.state c.and-first.result.items))) (sym slots)
    (opened g.S.Whole.state _ c.args.machine key c.core_count-cores.ensures.legal (c.if-not-is_calm.ensures.calm refl) (positive _ _ cores some))
  where
    positive : (a b : ℕ) → a ≡ b → (a ≡ 0 → ⊥) → 0 < b
    positive a zero e n = absurd (n e)
    positive a (suc b) e n = omega arith

pub invariant_of-result : goal.invariant_of-result
invariant_of-result g c =
    let me = c.in-Ok-new.ensures.ok.4 in
    let key = c.and-first.ensures ∙ ap (λ l. l ++ c.args.machine ∷ []) c.new.ensures in
    let few = few_cores _ c.core_count-cores.ensures.legal in
    let is = c.core_count-cores.ensures.cores in (
      ap (λ m. m.1) me,
      ap (λ m. m.0.holds) me,
      ap (λ m. m.0.live) me,
      c.new-in-Ok-new.ensures ∙ sym (ap (λ m. m.0.core) me),
      ap (λ n. n - 1) (is ∙ sym (ap (λ l. (made_of g.S.Whole.state l).cores) key)) ∙ sym (ap (λ m. m.0.spare) me),
      omega (arith, few, is),
    )
