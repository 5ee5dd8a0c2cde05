use Rattle.machine_model.proofs.Words.{◌≡◌, ℕ, true, IsPage, inl, inr, refl, sym, ◌∙◌, arith, is_page, nat_tests}
use Rattle.core_steps.proofs.engine.Engine.fold.Goals as goal

valid_page : (p : ℕ) → is_page p ≡ true → IsPage p
valid_page p e = (grind (arith, nat_tests, e), grind (arith, nat_tests, e))

pub fold-requires : goal.fold-requires
fold-requires g c = valid_page c.args.page (sym c.is_valid.ensures ∙ c.if-is_valid.true)

pub returns-then-fold-clause-row : goal.returns-then-fold-clause-row
returns-then-fold-clause-row g c =
    inr (
      valid_page c.args.page (sym c.is_valid.ensures ∙ c.if-is_valid.true),
      (
        g.M.SlotRead.slots c.fold.new.self,
        c.fold.ensures.joined c.if-fold.true,
        g.met.M.SlotMap.is_slot_map c.fold.new.self,
        (refl, refl),
      ),
    )

pub returns-then-fold-clause-exact : goal.returns-then-fold-clause-exact
returns-then-fold-clause-exact g c =
    inl (refl, valid_page c.args.page (sym c.is_valid.ensures ∙ c.if-is_valid.true), c.fold.ensures.can.0 c.if-fold.true, c.fold.ensures.exact c.if-fold.true)
