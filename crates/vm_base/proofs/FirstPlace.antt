-- A first place is a place, and so a first answer is an answer
use Rattle.std.proofs.Common.{ℕ, Bool, true, false, Option, Some, None, refl}
use Rattle.vm_base.specs.declared.page.PageRange.{PageRange}
use Rattle.vm_base.specs.declared.replies.Reply.{Reply}
use Rattle.vm_base.specs.declared.requests.Request.{Request}
use Rattle.vm_base.specs.declared.requests.Request.TheVariants.{Mmap, Munmap, Mprotect, Load as LoadOf, Store as StoreOf, Fetch as FetchOf}
use Rattle.vm_base.specs.Pages.{page_count, page_of, window_of}
use Rattle.vm_base.specs.Places.{IsPlace, IsFirstPlace, IsLeastRoom}
use Rattle.vm_base.specs.Places.IsPlace.{at_hint, in_window, nowhere}
use Rattle.vm_base.specs.Places.IsFirstPlace.{at_hint as first_at_hint, in_window as first_in_window}
use Rattle.vm_base.specs.Plain.{Plain, mode_of, is_mapped}
use Rattle.vm_base.specs.Refusals.{refusal}
use Rattle.vm_base.specs.Apply.{AppliesAfter, NewMapping, MapsAt, Performs, meta_of, Applies}

least_room_is_place : (m : ℕ → Bool) (w : PageRange) (h n : ℕ) (place : Option ℕ) → IsLeastRoom m w n place → IsPlace m w h n place
least_room_is_place m w h n None none = nowhere none refl
least_room_is_place m w h n (Some s) least = in_window s least.0 refl

pub first_place_is_place : (m : ℕ → Bool) (w : PageRange) (h n : ℕ) (place : Option ℕ) → IsFirstPlace m w h n place → IsPlace m w h n place
first_place_is_place m w h n place (first_at_hint hint e) = at_hint hint e
first_place_is_place m w h n place (first_in_window none least) = least_room_is_place m w h n place least

first_maps : (fixed : Bool) (t u : Plain) (m : NewMapping) (y : Reply) → MapsAt IsFirstPlace fixed t m y u → MapsAt IsPlace fixed t m y u
first_maps true t u m y maps = maps
first_maps false t u m y maps =
    (maps.0, first_place_is_place (is_mapped t.entry) (window_of m.core) (page_of m.addr) (page_count m.len) maps.0 maps.1, maps.2)

first_performs : (t u : Plain) (core : ℕ) (request : Request) (y : Reply) → Performs IsFirstPlace t core request y u
    → Performs IsPlace t core request y u
first_performs t u core (Mmap addr len prot flags file off) y performs =
    first_maps flags.fixed t u (record { core = core; addr = addr; len = len; meta = meta_of prot flags file off }) y performs
first_performs t u core (Munmap addr len) y performs = performs
first_performs t u core (Mprotect addr len prot) y performs = performs
first_performs t u core (LoadOf addr) y performs = performs
first_performs t u core (StoreOf addr byte) y performs = performs
first_performs t u core (FetchOf addr) y performs = performs

first_applies : (o : Option Reply) (t u : Plain) (core : ℕ) (request : Request) (y : Reply) → AppliesAfter IsFirstPlace o t core request y u
    → AppliesAfter IsPlace o t core request y u
first_applies None t u core request y applies = first_performs t u core request y applies
first_applies (Some refused) t u core request y applies = applies

pub first_answer : (t u : Plain) (core : ℕ) (request : Request) (y : Reply) → Applies IsFirstPlace t core request y u → Applies IsPlace t core request y u
first_answer t u core request y applies = first_applies (refusal (λ k. mode_of (t.file k)) request) t u core request y applies
