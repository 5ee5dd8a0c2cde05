use Rattle.std.proofs.Common.{◌≡◌, ◌∙◌, ◌<◌, ◌⊎◌, inl, inr, ℕ, Some, ap, arith, false, refl, slice_get, subst, sym, true}
use Rattle.vm_base.specs.Requests.{is_placed}
use Rattle.litmus_merges.specs.declared.asked.Asked.{Asked}
use Rattle.litmus_merges.proofs.Lists.{below, get_one, get_read, get_within}
use Rattle.litmus_merges.proofs.opening.are_named.Goals as goal

pub calls-init : goal.calls-init
calls-init c = λ k call l e. absurd (omega (arith, l))

pub calls-preserved : goal.calls-preserved
calls-preserved c = λ k call l e. by k call e (below k c.calls.k l)
  where
    by : (k : ℕ) (call : Asked) → slice_get c.args.calls.now k ≡ Some call → (k < c.calls.k) ⊎ (k ≡ c.calls.k) → is_placed call.request ≡ false
    by k call e (inl lt) = c.calls.invariant k call lt e
    by k call e (inr eq) =
        let is = get_one c.args.calls.now c.calls.k c.index-calls-k.result call (get_read c.args.calls.now c.calls.k c.index-calls-k.result c.calls-test.true c.index-calls-k.is)
        (subst (λ (n : ℕ). slice_get c.args.calls.now n ≡ Some call) eq e) in
        ap (λ (x : Asked). is_placed x.request) (sym is) ∙ (sym c.is_placed.ensures ∙ c.if-is_placed.false)

pub returns-then-is_placed : goal.returns-then-is_placed
returns-then-is_placed c = (
  (λ h. let wrong : false ≡ true = h in absurd cc),
  (λ h.
      let wrong : true ≡ false = sym c.if-is_placed.true ∙ (c.is_placed.ensures ∙ h c.calls.k c.index-calls-k.result (get_read c.args.calls.now c.calls.k c.index-calls-k.result c.calls-test.true c.index-calls-k.is)) in absurd cc),
)

pub returns : goal.returns
returns c =
    let end = c.calls-test.false in
    ((λ h. λ k call e. let within = get_within c.args.calls.now k call e in c.calls.invariant k call (omega (arith, end, within)) e), (λ h. refl))
