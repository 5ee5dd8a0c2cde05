-- A new machine has no frame in use, and its cores have nothing to add or to review.
use Rattle.std.proofs.Common.{◌≡◌, ℕ, ◌<◌, Bool, true, false, cond, List, [], ◌++◌, refl, ap, ◌∙◌, nat_lt, arith}
use Rattle.std.proofs.lemmas.Bool.Decides.{nat_tests}
use Rattle.machine_model.specs.World.{Made, World, new_world}
use Rattle.slot_lock.specs.Slots.{Slots}
use Rattle.state_seen.proofs.PageTexts.{empty_below}
use Rattle.state_text.specs.declared.form.Form.{Form}
use Rattle.state_text.specs.Counts.{core_counts, counts_text, delta_text, frame_counts, used_text}

abbrev new : Made → Slots → World
new made slots = new_world made slots

none_used : (made : Made) (slots : Slots) (text : ℕ → List ℕ) → used_text (new made slots) text ≡ []
none_used made slots text = empty_below (λ f. cond (nat_lt f made.frames) [] (text f)) made.frames (λ f lt. go f (nat_lt f made.frames) refl lt)
  where
    go : (f : ℕ) (b : Bool) → nat_lt f made.frames ≡ b → f < made.frames → cond b [] (text f) ≡ []
    go f true is lt = refl
    go f false is lt = absurd (grind (arith, nat_tests, is, lt))

pub none_at_first : (form : Form) (made : Made) (slots : Slots) → counts_text form (new_world made slots) ≡ []
none_at_first form made slots =
    ap (λ l. l ++ used_text (new made slots) (frame_counts form (new made slots)))
    (empty_below (core_counts form (new made slots)) made.cores
    (λ c lt. ap (λ l. l ++ [] ++ []) (none_used made slots (λ f. delta_text form c f ((new made slots).memory.counts.delta c f)))))
    ∙ none_used made slots (frame_counts form (new made slots))
