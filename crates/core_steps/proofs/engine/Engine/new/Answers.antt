use Rattle.std.proofs.Common.{◌||◌, nat_lt}
use Rattle.machine_model.proofs.Words.{◌≡◌, ℕ, ◌≤◌, ◌^◌, Bool, true, false, None, Option, Some, arith, length, nat_tests, refl, if◌then◌else◌}
use Rattle.machine_model.specs.declared.setup.CallLimit.TheVariants.{Long}
use Rattle.machine_model.specs.declared.setup.Setup.{Setup}
use Rattle.machine_model.specs.declared.setup.SetupFault.{SetupFault}
use Rattle.machine_model.specs.Setups.{fault_within, first_fault_within, has_long}
use Rattle.machine_model.proofs.Setups.{few_calls_within, few_cores_within}
use Rattle.core_steps.proofs.engine.Opened.{opened}
use Rattle.core_steps.proofs.engine.Engine.new.Goals as goal

-- a test that finds no fault, and those after it
passes : (b : Bool) (fault : SetupFault) (rest : Option SetupFault) → (if b then Some fault else rest) ≡ None → (b ≡ false) × (rest ≡ None)
passes true fault rest e = absurd cc
passes false fault rest e = (refl, e)

-- how much a setup without fault has
record Bounded (c f n : ℕ) : Type 0 where
  pub cores : (1 ≤ c) × (c ≤ 64)
  pub frames : f ≤ 2 ^ 16
  pub files : n ≤ 16

bounded : (c f n k : ℕ) (long : Bool) → first_fault_within Long c f n long k ≡ None → Bounded c f n
bounded c f n k long e =
    let r = passes (nat_lt c 1 || nat_lt 64 c) _ _ e in
    let s = passes (nat_lt 65536 f) _ _ r.1 in
    let t = passes (nat_lt 16 n) _ _ s.1 in
    let some = r.0 in
    let framed = s.0 in
    let filed = t.0 in
    record {
      cores = (grind (arith, nat_tests, some), grind (arith, nat_tests, some));
      frames = grind (arith, nat_tests, framed);
      files = grind (arith, nat_tests, filed);
    }

fits : {A : Type 0} (s : Setup A) → fault_within Long s ≡ None → Bounded s.cores s.frames (length s.files.items)
fits s e = bounded s.cores s.frames (length s.files.items) s.calls (has_long s.files.items) e

pub new_stores-requires-clause-files : goal.new_stores-requires-clause-files
new_stores-requires-clause-files g c = (fits c.args.setup c.requires.sound).files

pub new_stores-requires-clause-cores : goal.new_stores-requires-clause-cores
new_stores-requires-clause-cores g c = (fits c.args.setup c.requires.sound).cores

pub new_stores-requires-clause-frames : goal.new_stores-requires-clause-frames
new_stores-requires-clause-frames g c = (fits c.args.setup c.requires.sound).frames

pub new_calls-requires-clause-cores : goal.new_calls-requires-clause-cores
new_calls-requires-clause-cores g c = few_cores_within Long c.args.setup c.requires.sound

pub new_calls-requires-clause-kept : goal.new_calls-requires-clause-kept
new_calls-requires-clause-kept g c = c.requires.kept

pub new_calls-requires-clause-few : goal.new_calls-requires-clause-few
new_calls-requires-clause-few g c = few_calls_within Long c.args.setup c.requires.sound

pub returns : goal.returns
returns g c =
    let made = c.in-Ok-new_stores.ensures in
    let stores = c.in-Ok-new_stores.stores in
    let calling = c.in-Ok-new_calls.ensures in
    opened _ _ stores.frames _ stores.objects c.in-Ok-new_calls.calling.0 c.args.setup calling.empty made.count
    made.bytes made.free made.counts made.files made.cached calling.calls calling.number calling.limit
