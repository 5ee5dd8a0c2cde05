-- A machine over new slots begins orderly.
use Rattle.machine_model.proofs.Words.{◌≤◌, refl, subst, sym, arith, nat_tests, Slots, IsNew, no_counts, Made, new_world}
use Rattle.refcache.proofs.Sound.{reached_open}
use Rattle.machine_model.specs.Orderly.{IsOrderly, BelongsTo}
use Rattle.machine_model.proofs.OpenCalls.{open_none}
use Rattle.machine_model.proofs.Owned.{unmapped_belongs}

pub opening_is_orderly : (made : Made) (slots : Slots) → made.cores ≤ 64 → IsNew slots → IsOrderly (new_world made slots)
opening_is_orderly made slots few new = record {
  asked = λ c. tt;
  owned = λ c p h. absurd cc;
  only = λ c p h. absurd (let e = new.free p in cc);
  cut = λ c. tt;
  cut_out = λ c. tt;
  ready = λ c. tt;
  pages = λ p. subst (BelongsTo made p) (sym (new.unmapped p)) (unmapped_belongs made p);
  taken = λ c f h. absurd cc;
  memory = record {
    free = λ f h. grind (arith, nat_tests);
    cached = λ n k f h. absurd cc;
    reached = reached_open (no_counts made.cores made.frames) made.cores made.frames refl;
    cores = refl;
    objects = refl;
  };
  outside = λ c h. refl;
  few = few;
  room = let e = open_none made.cores in omega (arith, e);
  limit = omega arith;
}
