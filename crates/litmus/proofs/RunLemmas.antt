-- Runs that are certified, one after another
use Rattle.std.proofs.Common.{◌≡◌, ℕ, zero, suc, ◌+◌, List, [], ◌∷◌, ◌++◌, map, arith, refl, sym, ap, ◌∙◌, subst}
use Rattle.std.proofs.lemmas.List.{length-append, map-append}
use Rattle.std.proofs.lemmas.List.Elements.{All-append}
use Rattle.std.specs.Prelude.{All, Vec}
use Rattle.std.specs.declared.alloc.Global.{Global}
use Rattle.slot_lock.specs.Slots.{Slots}
use Rattle.vm_base.specs.declared.page.PageRange.{PageRange}
use Rattle.std.specs.Prelude.{Bool}
use Rattle.machine_model.specs.World.{Made as MadeOf, new_world}
use Rattle.machine_model.specs.Step.{Run}
use Rattle.machine_model.specs.declared.setup.Setup.{Setup}
use Rattle.machine_model.specs.Setups.{made_of}
use Rattle.seats.specs.declared.noted.Noted.{Noted}
use Rattle.live_levels.specs.declared.close.SlotHistory.{SlotHistory}
use Rattle.certifier.specs.Following.{IsCertified, events_in_order, outcomes_in_order}
use Rattle.litmus_merges.specs.declared.asked.Asked.{Asked}
use Rattle.trace_words.specs.Declarations.{DeclarationView, made_by}
use Rattle.litmus_report.specs.Counts.{bytes_of}
use Rattle.litmus.specs.Runs.{ComeTo, ComesOut, IsRunOf, Shown, text_of}

-- what is certified is a run of a machine as it is declared
pub is_run : (parts : PageRange → ℕ → ℕ → Bool) (CanFold : Slots → ℕ → Type 0) (Folds : Slots → Slots → ℕ → Type 0) (declared : DeclarationView)
    (setup : Setup Global) (notes : List Noted) (slots : List (SlotHistory Global)) (answered : ℕ) → made_of setup ≡ made_by declared
    → IsCertified parts CanFold Folds setup notes slots answered → IsRunOf declared notes
is_run parts CanFold Folds declared setup notes slots answered made c = record {
  numbered = c.plain.numbered;
  slots = c.slots;
  new = c.new;
  end = c.run.end;
  run = subst (λ (m : MadeOf). Run (new_world m c.slots) (events_in_order notes) (outcomes_in_order notes) c.run.end) made c.run.run;
}

module _ (declared : DeclarationView) (before calls loads : List Asked) (addrs : List ℕ) where
  -- no run came to no text
  pub none_come : (texts : List (List ℕ)) → texts ≡ [] → ComeTo declared before calls loads addrs 0 texts
  none_come texts is = record { came = []; count = refl; each = λ k d lt. absurd (omega (arith, lt)); are = is }

  -- one run more
  pub one_more : (n : ℕ) (texts new : List (List ℕ)) (s : Shown) → ComeTo declared before calls loads addrs n texts
      → ComesOut declared before calls loads s.replies s.finals → new ≡ texts ++ text_of calls addrs s ∷ []
      → ComeTo declared before calls loads addrs (n + 1) new
  one_more n texts new s h out is = record {
    came = h.came ++ s ∷ [];
    count = omega (arith, length-append h.came (s ∷ []), h.count);
    each = All-append (λ x. ComesOut declared before calls loads x.replies x.finals) h.came (s ∷ []) h.each last;
    are = is ∙ ap (λ ts. ts ++ text_of calls addrs s ∷ []) h.are ∙ sym (map-append (text_of calls addrs) h.came (s ∷ []));
  }
    where
      last : All (λ (x : Shown). ComesOut declared before calls loads x.replies x.finals) (s ∷ [])
      last zero d lt = out
      last (suc k) d lt = absurd (omega (arith, lt))

-- one text more
pub text_more : {A : Type 0} (texts new : List (Vec ℕ A)) (text : Vec ℕ A) (is : List ℕ) → new ≡ texts ++ text ∷ [] → text.items ≡ is
    → map bytes_of new ≡ map bytes_of texts ++ is ∷ []
text_more texts new text is more same =
    ap (map bytes_of) more ∙ map-append bytes_of texts (text ∷ []) ∙ ap (λ t. map bytes_of texts ++ t ∷ []) same
