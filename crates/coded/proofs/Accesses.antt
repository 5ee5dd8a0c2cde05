-- What C asks for by an access's code
use Rattle.machine_model.proofs.Words.{◌≡◌, ℕ, refl, sym, subst}
use Rattle.std.specs.Prelude.{◌-◌, nat_lt, if◌then◌else◌, Option, Some}
use Rattle.vm_base.specs.declared.requests.Request.{Request}
use Rattle.vm_base.specs.declared.requests.Request.TheVariants as Asks
use Rattle.coded.specs.declared.codes.EventCode.TheVariants as Is
use Rattle.coded.specs.declared.codes.RawEvent.{RawEvent}
use Rattle.coded.specs.declared.codes.BatchItem.{BatchItem}
use Rattle.coded.specs.declared.codes.BatchItem.TheVariants as To
use Rattle.coded.specs.Codes.{call_of, core_of, event_with, item_from, item_of, item_with, kind_of, request_at, step_from}

-- a code below 64 asks for an item of its kind
item_of_code : (r : RawEvent) (code core : ℕ) (i : BatchItem) → r.kind ≡ code → core_of r.core ≡ Some core
    → (if nat_lt code 64 then item_with r (kind_of code) (Some core) else step_from (event_with r (kind_of (code - 64)) (Some core))) ≡ Some i
    → item_of r ≡ Some i
item_of_code r code core i k c e =
    subst (λ (n : ℕ). (if nat_lt n 64 then item_with r (kind_of n) (core_of r.core) else step_from (event_with r (kind_of (n - 64)) (core_of r.core))) ≡ Some i) (sym k)
    (subst (λ (o : Option ℕ). (if nat_lt code 64 then item_with r (kind_of code) o else step_from (event_with r (kind_of (code - 64)) o)) ≡ Some i) (sym c) e)

pub load_item : (r : RawEvent) (core : ℕ) → r.kind ≡ 4 → core_of r.core ≡ Some core → item_of r ≡ Some (To.Call core (Asks.Load r.at))
load_item r core k c = item_of_code r 4 core _ k c refl

pub fetch_item : (r : RawEvent) (core : ℕ) → r.kind ≡ 6 → core_of r.core ≡ Some core → item_of r ≡ Some (To.Call core (Asks.Fetch r.at))
fetch_item r core k c = item_of_code r 6 core _ k c refl

pub store_item : (r : RawEvent) (core : ℕ) (request : Request) → r.kind ≡ 5 → core_of r.core ≡ Some core → request_at Is.Store r ≡ Some request
    → item_of r ≡ Some (To.Call core request)
store_item r core request k c s =
    item_of_code r 5 core _ k c (subst (λ (q : Option Request). item_from (call_of core q) ≡ Some (To.Call core request)) (sym s) refl)
