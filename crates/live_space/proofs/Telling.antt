-- The cores that are told, and those that acknowledge
use Rattle.std.proofs.Common.{◌≡◌, ℕ, Option, false, ap, subst, sym, ◌∙◌}
use Rattle.vm_base.specs.Cores.{members, with_member}
use Rattle.vm_base.specs.Functions.{put}
use Rattle.vm_base.specs.Info.{is_recorded}
use Rattle.vm_base.specs.Pages.{pages_from}
use Rattle.vm_base.specs.declared.info.PageInfo.{PageInfo}
use Rattle.vm_base.specs.declared.page.PageRange.{PageRange}
use Rattle.vm_base.proofs.Functions.{put_other}
use Rattle.live_pages.specs.Acking.{HasOthers, HaveAcked, OthersHaveAcked}
use Rattle.live_pages.specs.declared.telling.Acked.{Acked}
use Rattle.live_pages.specs.declared.telling.Posted.{Posted}

-- the recorded cores but for this one are the others
pub recorded_others : (info : Option PageInfo) (core c cores others : ℕ) → c ≡ core → ((d : ℕ) → members cores d ≡ is_recorded info d)
    → members others ≡ put (members cores) c false → HasOthers core info others
recorded_others info core c cores others same recorded are d lt other m =
    ap (λ (f : ℕ → _). f d) are ∙ (put_other (members cores) c false d (λ e. other (e ∙ same)) ∙ (recorded d ∙ m))

-- what was posted, by the same core and of the same range
pub posted_as : (p : Posted) (c d set : ℕ) (r s : PageRange) → d ≡ c → s ≡ r → p ≡ record { core = c; set = with_member set c; range = r }
    → p ≡ record { core = d; set = with_member set d; range = s }
posted_as p c d set r s same range is =
    subst (λ (n : ℕ). p ≡ record { core = n; set = with_member set n; range = s }) (sym same)
    (subst (λ (v : PageRange). p ≡ record { core = c; set = with_member set c; range = v }) (sym range) is)

-- all others have acknowledged
pub all_acked : (core c page : ℕ) (info : Option PageInfo) (others : ℕ) (range : PageRange) (a : Acked) → c ≡ core → HasOthers core info others
    → range ≡ pages_from page 1 → HaveAcked others range a → OthersHaveAcked c page info a
all_acked core c page info others range a same has is h = record {
  others = λ d lt other m. h.each d lt (has d lt (λ e. other (e ∙ sym same)) m);
  range = h.range ∙ is;
}
