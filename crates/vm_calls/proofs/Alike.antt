-- A decision looks at the pages of its footprint alone
use Rattle.slot_lock.proofs.Words.{ℕ, Bool, is_some, Option, sym, ◌∙◌, ap, PageRange, PageInfo, Prot, is_recorded, File, PageEntry, is_mapped}
use Rattle.slot_lock.proofs.Words.{HasPage, is_absent}
use Rattle.slot_lock.proofs.Words.{is_read_only}
use Rattle.slot_lock.specs.declared.plan.Change.{Change}
use Rattle.slot_lock.specs.declared.plan.Change.TheVariants.{Put, Clear, Protect}
use Rattle.slot_lock.specs.declared.plan.Place.{Place}
use Rattle.slot_lock.specs.declared.plan.Target.{Target}
use Rattle.slot_lock.specs.declared.plan.Target.TheVariants.{Hint, Run, Window}
use Rattle.slot_lock.specs.declared.plan.Goal.{Goal}
use Rattle.slot_lock.specs.declared.plan.Goal.TheVariants as To
use Rattle.slot_lock.specs.Plan.{range_of, target_range, goal_range}
use Rattle.slot_lock.specs.Slots.{Slots, IsUser}
use Rattle.vm_calls.specs.declared.decision.Decision.{Decision}
use Rattle.vm_calls.specs.declared.decision.Decision.TheVariants.{Refuse, Act, Again}
use Rattle.vm_calls.specs.Decisions.{Decides, DecidesChange, DecidesProtect, DecidesRun, DecidesPlace, AreAlike, entries, entry_of}
use Rattle.vm_calls.specs.Decisions.{ActsOn}
use Rattle.vm_calls.specs.Decisions.DecidesProtect.{no_page, no_write, acts}
use Rattle.vm_calls.specs.Decisions.DecidesRun.{free, taken}
use Rattle.vm_calls.proofs.Places.{Alike, free-alike, least-alike}

other-way : (r : PageRange) (s t : Slots) → AreAlike r s t → AreAlike r t s
other-way r s t same p h = sym (same p h)

page-alike : (test : Option PageEntry → Bool) (r : PageRange) (s t : Slots) → AreAlike r s t → HasPage test (entries s) r → HasPage test (entries t) r
page-alike test r s t same x = (x.0, x.1, ap (λ (o : Option PageInfo). test (entry_of o)) (sym (same x.0 x.1)) ∙ x.2)

user-alike : (r : PageRange) (s t : Slots) (core : ℕ) → AreAlike r s t → IsUser s r core → IsUser t r core
user-alike r s t core same x = (x.0, x.1, ap (λ (o : Option PageInfo). is_recorded o core) (sym (same x.0 x.1)) ∙ x.2)

acts-alike : (r : PageRange) (s t : Slots) (d : Decision) → AreAlike r s t → ActsOn s r d → ActsOn t r d
acts-alike r s t (Refuse e) same a = a
acts-alike r s t Again same a = a
acts-alike r s t (Act changes shoot) same a =
    (a.0, λ core. ((λ h. user-alike r s t core same ((a.1 core).0 h)), (λ u. (a.1 core).1 (user-alike r t s core (other-way r s t same) u))))

protect-alike : (files : ℕ → Option File) (r : PageRange) (prot : Prot) (s t : Slots) (d : Decision) → AreAlike r s t
    → DecidesProtect files s r prot d → DecidesProtect files t r prot d
protect-alike files r prot s t d same (no_page a e) = no_page (page-alike is_absent r s t same a) e
protect-alike files r prot s t d same (no_write na w ro e) =
    no_write (λ x. na (page-alike is_absent r t s (other-way r s t same) x)) w (page-alike (is_read_only files) r s t same ro) e
protect-alike files r prot s t d same (acts na nr a) =
    acts (λ x. na (page-alike is_absent r t s (other-way r s t same) x))
    (λ w x. nr w (page-alike (is_read_only files) r t s (other-way r s t same) x)) (acts-alike r s t d same a)

-- of a change, in the words of its range
pub change_alike : (files : ℕ → Option File) (s t : Slots) (change : Change) (d : Decision) → AreAlike (range_of change) s t
    → DecidesChange files s change d → DecidesChange files t change d
change_alike files s t (Put range meta) d same a = acts-alike range s t d same a
change_alike files s t (Clear range) d same a = acts-alike range s t d same a
change_alike files s t (Protect range prot) d same a = protect-alike files range prot s t d same a

mapped-alike : (r : PageRange) (s t : Slots) → AreAlike r s t → Alike (is_mapped (entries s)) (is_mapped (entries t)) r
mapped-alike r s t same p h = ap (λ (o : Option PageInfo). is_some (entry_of o)) (same p h)

run-alike : (s t : Slots) (range : PageRange) (d : Decision) → AreAlike range s t → DecidesRun s range d → DecidesRun t range d
run-alike s t range d same (free f e) = free (free-alike (is_mapped (entries s)) (is_mapped (entries t)) range (mapped-alike range s t same) f) e
run-alike s t range d same (taken h e) = taken (page-alike is_some range s t same h) e

place-alike : (s t : Slots) (place : Place) (target : Target) (d : Decision) → AreAlike (target_range place target) s t
    → DecidesPlace s place target d → DecidesPlace t place target d
place-alike s t place (Hint range) d same dec = run-alike s t range d same dec
place-alike s t place (Run range) d same dec = run-alike s t range d same dec
place-alike s t place Window d same dec = (
  dec.0,
  least-alike (is_mapped (entries s)) (is_mapped (entries t)) place.window place.count dec.0 (mapped-alike place.window s t same) dec.1,
  dec.2,
)

pub decision_alike : (files : ℕ → Option File) (s t : Slots) (goal : Goal) (d : Decision) → AreAlike (goal_range goal) s t
    → Decides files s goal d → Decides files t goal d
decision_alike files s t (To.Place place target) d same dec = place-alike s t place target d same dec
decision_alike files s t (To.Change change) d same dec = change_alike files s t change d same dec
decision_alike files s t (To.Access touch) d same dec = dec
