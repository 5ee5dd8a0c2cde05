-- There is one room, one frame, one set of cores and one decision
use Rattle.std.proofs.Common.{◌≡◌, ℕ, zero, suc, ◌+◌, ◌/◌, ◌%◌, ◌<◌, ◌≤◌, ◌==◌, Bool, true, false, refl, sym, ap, ◌∙◌, arith, Option, Some, None}
use Rattle.std.specs.Prelude.{is_some}
use Rattle.std.specs.Int.{bit_at}
use Rattle.std.proofs.lemmas.Nat.Bits.{bit_at-lt, bit_at-suc, bit_at_lowest}
use Rattle.vm_base.specs.declared.page.PageRange.{PageRange}
use Rattle.vm_base.specs.declared.rights.Prot.{Prot}
use Rattle.vm_base.specs.Apply.{HasPage}
use Rattle.vm_base.specs.Cores.{members}
use Rattle.vm_base.specs.Places.{IsFree, IsLeastRoom}
use Rattle.vm_base.specs.Plain.{File, is_mapped}
use Rattle.slot_lock.proofs.Facts.{two}
use Rattle.slot_lock.specs.declared.plan.Change.{Change}
use Rattle.slot_lock.specs.declared.plan.Change.TheVariants.{Put, Clear, Protect}
use Rattle.slot_lock.specs.declared.plan.Goal.TheVariants as To
use Rattle.slot_lock.specs.declared.plan.Place.{Place}
use Rattle.slot_lock.specs.declared.plan.Target.{Target}
use Rattle.slot_lock.specs.declared.plan.Target.TheVariants.{Hint, Run, Window}
use Rattle.slot_lock.specs.Slots.{Slots}
use Rattle.vm_calls.specs.declared.decision.Decision.{Decision}
use Rattle.vm_calls.specs.declared.decision.Decision.TheVariants.{Refuse, Act, Again}
use Rattle.vm_calls.specs.Decisions.{ActsOn, Decides, DecidesPlace, DecidesProtect, DecidesRun, act_at, entries}
use Rattle.vm_calls.specs.Decisions.DecidesProtect.{acts, no_page, no_write}
use Rattle.vm_calls.specs.Decisions.DecidesRun.{free, taken}

-- ---- rooms

pub one_room : (mapped : ℕ → Bool) (window : PageRange) (n : ℕ) (a b : Option ℕ) → IsLeastRoom mapped window n a → IsLeastRoom mapped window n b → a ≡ b
one_room mapped window n None None h k = refl
one_room mapped window n None (Some s) h k = absurd (h s k.0)
one_room mapped window n (Some s) None h k = absurd (k s h.0)
one_room mapped window n (Some s) (Some t) h k =
    let not_below : ¬ t < s = λ l. h.1 t l k.0 in
    let not_above : ¬ s < t = λ l. k.1 s l h.0 in
    let same : s ≡ t = omega (arith, not_below, not_above) in
    ap Some same

-- ---- sets of cores

one_bit : (a b : ℕ) → a < 2 → b < 2 → (a == 1) ≡ (b == 1) → a ≡ b
one_bit zero zero l m e = refl
one_bit (suc zero) (suc zero) l m e = refl
one_bit zero (suc zero) l m e = let clash : false ≡ true = e in absurd (cc)
one_bit (suc zero) zero l m e = let clash : true ≡ false = e in absurd (cc)
one_bit (suc (suc a)) b l m e = absurd (omega (arith, l))
one_bit a (suc (suc b)) l m e = absurd (omega (arith, m))

below_set : (n a b : ℕ) → a ≤ n → b ≤ n → ((c : ℕ) → members a c ≡ members b c) → a ≡ b
below_set zero a b l m same = omega (arith, l, m)
below_set (suc n) a b l m same =
    let bit = one_bit (bit_at a 0) (bit_at b 0) (bit_at-lt a 0) (bit_at-lt b 0) (same 0) in
    let lowest : a % 2 ≡ b % 2 = sym (bit_at_lowest a) ∙ bit ∙ bit_at_lowest b in
    let above : a / 2 ≡ b / 2 = below_set n (a / 2) (b / 2) (omega (arith, l)) (omega (arith, m))
    (λ c. ap (λ x. x == 1) (sym (bit_at-suc a c)) ∙ same (suc c) ∙ ap (λ x. x == 1) (bit_at-suc b c)) in
    omega (arith, lowest, above)

-- a set has its members, and is given by them
pub one_set : (a b : ℕ) → ((c : ℕ) → members a c ≡ members b c) → a ≡ b
one_set a b same = below_set (a + b) a b (omega arith) (omega arith) same

one_test : (a b : Bool) → (a ≡ true → b ≡ true) → (b ≡ true → a ≡ true) → a ≡ b
one_test true b to from = sym (to refl)
one_test false true to from = from refl
one_test false false to from = refl

-- ---- decisions

-- a range without a page like that has none
pub free_not_mapped : (s : Slots) (range : PageRange) → IsFree (is_mapped (entries s)) range → HasPage is_some (entries s) range → ⊥
free_not_mapped s range none some = two _ (none some.0 some.1) some.2

one_run : (s : Slots) (range : PageRange) (d e : Decision) → DecidesRun s range d → DecidesRun s range e → d ≡ e
one_run s range d e (free f x) (free g y) = x ∙ sym y
one_run s range d e (taken f x) (taken g y) = x ∙ sym y
one_run s range d e (free f x) (taken g y) = absurd (free_not_mapped s range f g)
one_run s range d e (taken f x) (free g y) = absurd (free_not_mapped s range g f)

pub one_place : (s : Slots) (place : Place) (target : Target) (d e : Decision) → DecidesPlace s place target d → DecidesPlace s place target e → d ≡ e
one_place s place (Hint range) d e h k = one_run s range d e h k
one_place s place (Run range) d e h k = one_run s range d e h k
one_place s place Window d e h k =
    let same = one_room (is_mapped (entries s)) place.window place.count h.0 k.0 h.1 k.1 in
    h.2 ∙ ap (λ o. act_at o place.count) same ∙ sym k.2

one_act : (s : Slots) (range : PageRange) (d e : Decision) → ActsOn s range d → ActsOn s range e → d ≡ e
one_act s range (Act a x) (Act b y) h k =
    let set : x ≡ y = one_set x y (λ c. one_test _ _ (λ t. (k.1 c).1 ((h.1 c).0 t)) (λ t. (h.1 c).1 ((k.1 c).0 t))) in
    ap (λ r. Act r x) (h.0 ∙ sym k.0) ∙ ap (Act b) set
one_act s range (Refuse x) e h k = absurd h
one_act s range Again e h k = absurd h
one_act s range d (Refuse x) h k = absurd k
one_act s range d Again h k = absurd k

one_protect : (files : ℕ → Option File) (s : Slots) (range : PageRange) (prot : Prot) (d e : Decision) → DecidesProtect files s range prot d
    → DecidesProtect files s range prot e → d ≡ e
one_protect files s range prot d e (no_page f x) (no_page g y) = x ∙ sym y
one_protect files s range prot d e (no_page f x) (no_write g w r y) = absurd (g f)
one_protect files s range prot d e (no_page f x) (acts g w y) = absurd (g f)
one_protect files s range prot d e (no_write f v q x) (no_page g y) = absurd (f g)
one_protect files s range prot d e (no_write f v q x) (no_write g w r y) = x ∙ sym y
one_protect files s range prot d e (no_write f v q x) (acts g w y) = absurd (w v q)
one_protect files s range prot d e (acts f v x) (no_page g y) = absurd (f g)
one_protect files s range prot d e (acts f v x) (no_write g w r y) = absurd (v w r)
one_protect files s range prot d e (acts f v x) (acts g w y) = one_act s range d e x y

pub one_decision : (files : ℕ → Option File) (s : Slots) (change : Change) (d e : Decision) → Decides files s (To.Change change) d
    → Decides files s (To.Change change) e → d ≡ e
one_decision files s (Put range meta) d e h k = one_act s range d e h k
one_decision files s (Clear range) d e h k = one_act s range d e h k
one_decision files s (Protect range prot) d e h k = one_protect files s range prot d e h k
