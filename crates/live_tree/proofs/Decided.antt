-- What is decided of a change whose pages are held
use Rattle.std.proofs.Common.{◌≡◌, ℕ, ◌+◌, ◌<◌, ◌≤◌, List, [], ◌∷◌, Option, Some, None, arith, refl, ap, ◌∙◌, subst}
use Rattle.std.specs.Prelude.{option_to_list}
use Rattle.vm_base.specs.declared.info.PageInfo.{PageInfo}
use Rattle.vm_base.specs.declared.info.Meta.{Meta}
use Rattle.vm_base.specs.declared.page.PageRange.{PageRange}
use Rattle.vm_base.specs.declared.rights.Prot.{Prot}
use Rattle.vm_base.specs.Info.{frame_of}
use Rattle.vm_base.specs.Plain.{File}
use Rattle.vm_base.proofs.Functions.{has_in}
use Rattle.slot_lock.specs.declared.plan.Change.{Change}
use Rattle.slot_lock.specs.declared.plan.Change.TheVariants.{Put, Clear, Protect}
use Rattle.slot_lock.specs.declared.framed.Framed.{Framed}
use Rattle.slot_lock.specs.Framed.{ListsFrames, frames_in}
use Rattle.slot_lock.specs.Plan.{range_of}
use Rattle.slot_lock.specs.Slots.{Slots}
use Rattle.machine_model.specs.Counting.{frame_lost}
use Rattle.vm_calls.specs.declared.decision.Decision.{Decision}
use Rattle.vm_calls.specs.declared.decision.Decision.TheVariants.{Act}
use Rattle.vm_calls.specs.Decisions.{AreAlike, DecidesChange}
use Rattle.vm_calls.specs.Decisions.DecidesProtect.{acts, no_page, no_write}
use Rattle.vm_calls.proofs.Alike.{change_alike}
use Rattle.live_tree.specs.Held.{Covers, HeldView}
use Rattle.live_tree.specs.Deciding.{Loses}
use Rattle.live_tree.specs.Losing.{AreFrames, AreLost, AreUsers}
use Rattle.live_tree.specs.Shown.{Lends, shown}

-- a page with its frame
abbrev listed : ℕ → ℕ → Framed
listed page frame = record { page = page; frame = frame }

-- one page has at most one
pub of_one : (frame : ℕ → Option ℕ) (first end : ℕ) (o : Option ℕ) (frames : List ℕ) → end ≡ first + 1 → frame first ≡ o
    → frames ≡ option_to_list o → AreFrames frame first end frames
of_one frame first end None frames e is are = (
  [],
  (λ p low high. let same : p ≡ first = omega (arith, e, low, high) in ap frame same ∙ is),
  are,
)
of_one frame first end (Some f) frames e is are = (
  listed first f ∷ [],
  (omega arith, omega (arith, e), (λ p low high. absurd (omega (arith, low, high))), is, (λ p low high. absurd (omega (arith, e, low, high)))),
  are,
)

lists_alike : (f g : ℕ → Option ℕ) (first end : ℕ) (xs : List Framed) → ((p : ℕ) → first ≤ p → p < end → g p ≡ f p) → ListsFrames f first end xs
    → ListsFrames g first end xs
lists_alike f g first end [] same l = λ p low high. same p low high ∙ l p low high
lists_alike f g first end (x ∷ xs) same l =
    let low = l.0 in
    let high = l.1 in (
      l.0,
      l.1,
      (λ p a b. same p a (omega (arith, b, high)) ∙ l.2 p a b),
      same x.page l.0 l.1 ∙ l.3,
      lists_alike f g (x.page + 1) end xs (λ p a b. same p (omega (arith, a, low)) b) l.4,
    )

-- frames by what is the same at each page of the range
pub frames_alike : (f g : ℕ → Option ℕ) (first end : ℕ) (frames : List ℕ) → ((p : ℕ) → first ≤ p → p < end → g p ≡ f p) → AreFrames f first end frames
    → AreFrames g first end frames
frames_alike f g first end frames same are = (are.0, lists_alike f g first end are.0 same are.1, are.2)

-- none is lost where no page loses one
pub lost_none : (frame : ℕ → Option ℕ) (first end : ℕ) (frames : List ℕ) → ((p : ℕ) → frame p ≡ None) → frames ≡ [] → AreFrames frame first end frames
lost_none frame first end frames none_ e = ([], (λ p low high. none_ p), e)

-- a page loses by what it has
pub lost_at : (change : Change) (f : ℕ → Option PageInfo) (p : ℕ) (g : ℕ → Option PageInfo) (q : ℕ) → f p ≡ g q → frame_lost change f p ≡ frame_lost change g q
lost_at (Put range meta) f p g q e = ap (λ (o : Option PageInfo). frame_of o) e
lost_at (Clear range) f p g q e = ap (λ (o : Option PageInfo). frame_of o) e
lost_at (Protect range prot) f p g q e = refl

-- what a change of one page loses
pub loses_one : (s : Slots) (change : Change) (info : Option PageInfo) (frames : List ℕ) → (range_of change).end ≡ (range_of change).first + 1
    → info ≡ s.info (range_of change).first → frames ≡ option_to_list (frame_lost change (λ q. info) 0) → Loses s change frames
loses_one s change info frames one is are = of_one (frame_lost change s.info) (range_of change).first (range_of change).end
    (frame_lost change s.info (range_of change).first) frames one refl
    (are ∙ ap option_to_list (lost_at change (λ q. info) 0 s.info (range_of change).first is))

-- lent slots are as the held ones in a range that is held
pub lent_alike : (core : ℕ) (h : HeldView) (s : Slots) (r : PageRange) → Lends core h s → Covers h r → AreAlike r s (shown h.slots)
lent_alike core h s r lends covers p inside =
    let within = has_in r p inside in
    let low = covers.0 in
    let high = covers.1 in
    let from = within.0 in
    let upto = within.1 in
    lends.info p (omega (arith, low, from)) (omega (arith, high, upto))

pub decides_shown : (files : ℕ → Option File) (core : ℕ) (h : HeldView) (s : Slots) (change : Change) (d : Decision) → Lends core h s
    → Covers h (range_of change) → DecidesChange files s change d → DecidesChange files (shown h.slots) change d
decides_shown files core h s change d lends covers decides =
    change_alike files s (shown h.slots) change d (lent_alike core h s (range_of change) lends covers) decides

-- the range that is changed is the change's own
pub acts_shown : (files : ℕ → Option File) (core : ℕ) (h : HeldView) (s : Slots) (change : Change) (range : PageRange) (shoot : ℕ) → Lends core h s
    → Covers h (range_of change) → DecidesChange files s change (Act range shoot) → range ≡ range_of change
    → DecidesChange files (shown h.slots) change (Act (range_of change) shoot)
acts_shown files core h s change range shoot lends covers decides is =
    decides_shown files core h s change (Act (range_of change) shoot) lends covers
    (subst (λ (r : PageRange). DecidesChange files s change (Act r shoot)) is decides)

-- what is read of the held slots is what a mapping or an unmapping of their pages decides
pub put_lost : (files : ℕ → Option File) (s : Slots) (range : PageRange) (meta : Meta) (cores : ℕ) (frames : List ℕ) → AreLost s range cores frames
    → DecidesChange files s (Put range meta) (Act range cores) × Loses s (Put range meta) frames
put_lost files s range meta cores frames h =
    ((refl, h.cores), frames_alike (frames_in s) (frame_lost (Put range meta) s.info) range.first range.end frames (λ p low high. refl) h.frames)

pub clear_lost : (files : ℕ → Option File) (s : Slots) (range : PageRange) (cores : ℕ) (frames : List ℕ) → AreLost s range cores frames
    → DecidesChange files s (Clear range) (Act range cores) × Loses s (Clear range) frames
clear_lost files s range cores frames h =
    ((refl, h.cores), frames_alike (frames_in s) (frame_lost (Clear range) s.info) range.first range.end frames (λ p low high. refl) h.frames)

-- another protection takes no frame
pub keeps_frames : (s : Slots) (range : PageRange) (prot : Prot) (frames : List ℕ) → frames ≡ [] → Loses s (Protect range prot) frames
keeps_frames s range prot frames e = lost_none (frame_lost (Protect range prot) s.info) range.first range.end frames (λ p. refl) e

-- the cores that a change tells are those that are recorded on its pages
pub decided_users : (files : ℕ → Option File) (s : Slots) (change : Change) (cores : ℕ) → DecidesChange files s change (Act (range_of change) cores)
    → AreUsers s (range_of change) cores
decided_users files s (Put range meta) cores d = d.1
decided_users files s (Clear range) cores d = d.1
decided_users files s (Protect range prot) cores (no_page a e) = absurd cc
decided_users files s (Protect range prot) cores (no_write a w r e) = absurd cc
decided_users files s (Protect range prot) cores (acts a w on) = on.1
