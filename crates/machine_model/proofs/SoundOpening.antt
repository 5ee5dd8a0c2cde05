-- A machine over new slots begins well.
use Rattle.machine_model.proofs.Words.{◌≡◌, ℕ, ◌≤◌, refl, sym, subst, ap, Some, None, Option, frame_of, File, zeros, nothing_mapped, Slots, IsNew, Made}
use Rattle.machine_model.proofs.Words.{new_world}
use Rattle.machine_model.specs.World.{new_memory}
use Rattle.machine_model.proofs.Opening.{opening_is_orderly}
use Rattle.machine_model.proofs.CoherenceKept.{opening as opening_is_coherent}
use Rattle.machine_model.proofs.CountsKept.{opening_is_counted}
use Rattle.machine_model.specs.Invariant.{IsWellFormed, ShowsPage, ShowsFile}

shows_itself : (o : Option File) → ShowsFile (λ f. zeros) (λ k. None) o o
shows_itself None = tt
shows_itself (Some f) = (refl, refl, λ k. refl)

pub fine_opening : (made : Made) (slots : Slots) → made.cores ≤ 64 → IsNew slots → IsWellFormed (new_world made slots)
fine_opening made slots few new = record {
  order = opening_is_orderly made slots few new;
  coherent = opening_is_coherent made slots;
  counted = opening_is_counted made slots new;
  plain = nothing_mapped made.file;
  log = refl;
  good = record {
    pages = λ p. subst (λ o. ShowsPage (new_memory made) o None) (sym (new.unmapped p)) tt;
    files = λ n. shows_itself (made.file n);
    apart = λ p q f h k. absurd (bare q f k);
    unfiled = λ p n k f h i. absurd cc;
    whole = λ p f h. absurd (bare p f h);
  };
}
  where
    bare : (p f : ℕ) → frame_of (slots.info p) ≡ Some f → ⊥
    bare p f h = let e : frame_of (slots.info p) ≡ None = ap frame_of (new.unmapped p) in cc
