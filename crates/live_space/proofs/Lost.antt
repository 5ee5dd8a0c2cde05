-- The frames that pages lose by a change, where slots are the same but for room
use Rattle.std.proofs.Common.{◌≡◌, ℕ, ◌+◌, Bool, true, false, List, [], ◌∷◌, map, Option, refl, sym, ap, subst, ◌∙◌}
use Rattle.std.specs.Prelude.{nat_lt, if◌then◌else◌}
use Rattle.vm_base.specs.declared.info.PageInfo.{PageInfo}
use Rattle.vm_base.specs.declared.page.PageRange.{PageRange}
use Rattle.vm_base.specs.Cores.{members}
use Rattle.vm_base.specs.Functions.{put}
use Rattle.vm_base.specs.Info.{is_recorded}
use Rattle.slot_lock.specs.Slots.{IsUser}
use Rattle.slot_lock.specs.declared.plan.Change.{Change}
use Rattle.slot_lock.specs.Plan.{range_of}
use Rattle.machine_model.specs.Counting.{frame_lost}
use Rattle.live_levels.specs.Slots.{SlotView, content_at}
use Rattle.live_tree.specs.Deciding.{Loses}
use Rattle.live_tree.specs.Held.{AreAlike, HeldView, without_room}
use Rattle.live_tree.specs.Losing.{AreUsers}
use Rattle.live_tree.specs.Shown.{shown, slot_at}
use Rattle.live_tree.proofs.Decided.{frames_alike, lost_at}
use Rattle.live_space.specs.Changing.{AreOthers}

bare_content : (ss : List SlotView) (p : ℕ) → content_at (slot_at (map without_room ss) p) p ≡ content_at (slot_at ss p) p
bare_content [] p = refl
bare_content (s ∷ ss) p = go (nat_lt p (s.first + s.count)) (bare_content ss p)
  where
    go : (b : Bool) → content_at (slot_at (map without_room ss) p) p ≡ content_at (slot_at ss p) p
        → content_at (if b then without_room s else slot_at (map without_room ss) p) p ≡ content_at (if b then s else slot_at ss p) p
    go true e = refl
    go false e = e

-- they show the same
shown_alike : (ss ts : List SlotView) → AreAlike ss ts → (p : ℕ) → (shown ss).info p ≡ (shown ts).info p
shown_alike ss ts same p = sym (bare_content ss p) ∙ (ap (λ (vs : List SlotView). content_at (slot_at vs p) p) same ∙ bare_content ts p)

-- they lose the same frames
pub loses_alike : (ss ts : List SlotView) (change : Change) (frames : List ℕ) → AreAlike ss ts → Loses (shown ts) change frames → Loses (shown ss) change frames
loses_alike ss ts change frames same are = frames_alike (frame_lost change (shown ts).info) (frame_lost change (shown ss).info) (range_of change).first
    (range_of change).end frames (λ p low high. lost_at change (shown ss).info p (shown ts).info p (shown_alike ss ts same p)) are

user_alike : (ss ts : List SlotView) (range : PageRange) (d : ℕ) → AreAlike ss ts → IsUser (shown ts) range d → IsUser (shown ss) range d
user_alike ss ts range d same u = (u.0, u.1, ap (λ (o : Option PageInfo). is_recorded o d) (shown_alike ss ts same u.0) ∙ u.2)

-- the same cores are recorded on their pages
pub users_alike : (ss ts : List SlotView) (range : PageRange) (cores : ℕ) → AreAlike ss ts → AreUsers (shown ts) range cores → AreUsers (shown ss) range cores
users_alike ss ts range cores same are d = ((λ m. user_alike ss ts range d same ((are d).0 m)), (λ u. (are d).1 (user_alike ts ss range d (sym same) u)))

-- these are the others of them
pub others_of : (h k : HeldView) (range : PageRange) (core cores others : ℕ) → AreAlike k.slots h.slots → AreUsers (shown h.slots) range cores
    → members others ≡ put (members cores) core false → AreOthers (shown k.slots) range core others
others_of h k range core cores others same are e = (cores, users_alike k.slots h.slots range cores same are, e)

pub none_of : (h k : HeldView) (range : PageRange) (core cores others : ℕ) → AreAlike k.slots h.slots → AreUsers (shown h.slots) range cores
    → members others ≡ put (members cores) core false → others ≡ 0 → AreOthers (shown k.slots) range core 0
none_of h k range core cores others same are e none =
    subst (λ n. AreOthers (shown k.slots) range core n) none (others_of h k range core cores others same are e)

-- while the same is held in the same seat
pub others_kept : (h k : HeldView) (range : PageRange) (c d others : ℕ) → k ≡ h → d ≡ c → AreOthers (shown h.slots) range c others
    → AreOthers (shown k.slots) range d others
others_kept h k range c d others same core are =
    subst (λ (v : HeldView). AreOthers (shown v.slots) range d others) (sym same) (subst (λ n. AreOthers (shown h.slots) range n others) (sym core) are)
