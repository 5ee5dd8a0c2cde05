-- What a setup without fault has, within its limit of calls
use Rattle.machine_model.proofs.Words.{◌≡◌, ℕ, ◌≤◌, Bool, true, false, length, Option, None, Some, refl, arith, if◌then◌else◌, nat_tests}
use Rattle.std.proofs.Common.{◌||◌, nat_lt}
use Rattle.machine_model.specs.declared.setup.CallLimit.{CallLimit}
use Rattle.machine_model.specs.declared.setup.CallLimit.TheVariants.{Usual, Long}
use Rattle.machine_model.specs.declared.setup.Setup.{Setup}
use Rattle.machine_model.specs.declared.setup.SetupFault.{SetupFault}
use Rattle.machine_model.specs.Setups.{fault_within, first_fault_within, has_long, most_calls, Fits}

-- of a choice that is none the first case didn't come
no_first : (b : Bool) (fault : SetupFault) (rest : Option SetupFault) → (if b then Some fault else rest) ≡ None → (b ≡ false) × (rest ≡ None)
no_first true fault rest h = absurd cc
no_first false fault rest h = (refl, h)

-- what holds of cores, frames, files and calls without fault
record IsSound (limit : CallLimit) (cores frames files : ℕ) (long : Bool) (calls : ℕ) : Type 0 where
  pub some_cores : (nat_lt cores 1 || nat_lt 64 cores) ≡ false
  pub few_frames : nat_lt 65536 frames ≡ false
  pub few_files : nat_lt 16 files ≡ false
  pub none_long : long ≡ false
  pub calls_within : nat_lt (most_calls limit) calls ≡ false

sound : (limit : CallLimit) (c f n : ℕ) (b : Bool) (k : ℕ) → first_fault_within limit c f n b k ≡ None → IsSound limit c f n b k
sound limit c f n b k h =
    let r = no_first _ _ _ h in
    let s = no_first _ _ _ r.1 in
    let t = no_first _ _ _ s.1 in
    let u = no_first _ _ _ t.1 in
    let v = no_first _ _ _ u.1 in
    record { some_cores = r.0; few_frames = s.0; few_files = t.0; none_long = u.0; calls_within = v.0 }

few_within : (limit : CallLimit) (k : ℕ) → nat_lt (most_calls limit) k ≡ false → k ≤ most_calls limit
few_within limit k h = grind (arith, nat_tests, h)

below_long : (limit : CallLimit) (k : ℕ) → nat_lt (most_calls limit) k ≡ false → nat_lt (most_calls Long) k ≡ false
below_long Usual k h = grind (arith, nat_tests, h)
below_long Long k h = h

pub few_cores_within : {A : Type 0} (limit : CallLimit) (s : Setup A) → fault_within limit s ≡ None → s.cores ≤ 64
few_cores_within limit s e =
    let few = (sound limit s.cores s.frames (length s.files.items) (has_long s.files.items) s.calls e).some_cores in
    grind (arith, nat_tests, few)

-- it asks for no more calls than the limit
pub few_calls_within : {A : Type 0} (limit : CallLimit) (s : Setup A) → fault_within limit s ≡ None → s.calls ≤ most_calls limit
few_calls_within limit s e =
    few_within limit s.calls (sound limit s.cores s.frames (length s.files.items) (has_long s.files.items) s.calls e).calls_within

-- a setup without fault has none within the longer limit
pub sound_long : {A : Type 0} (limit : CallLimit) (s : Setup A) → fault_within limit s ≡ None → fault_within Long s ≡ None
sound_long limit s e =
    let h = sound limit s.cores s.frames (length s.files.items) (has_long s.files.items) s.calls e in
    rw (h.some_cores, h.few_frames, h.few_files, h.none_long, below_long limit s.calls h.calls_within) refl

-- any ledger fits the usual limit
pub fits_usual : (keeps : Bool) → Fits keeps Usual
fits_usual keeps e = absurd (cc)

-- where the ledger keeps its entries, the limit is the usual one
pub few_calls : {A : Type 0} (limit : CallLimit) (keeps : Bool) (s : Setup A) → fault_within limit s ≡ None → Fits keeps limit → keeps ≡ true
    → s.calls ≤ most_calls Usual
few_calls Usual keeps s e fits kept = few_calls_within Usual s e
few_calls Long true s e fits kept = let no : true ≡ false = fits refl in absurd (cc)
few_calls Long false s e fits kept = absurd cc
