-- File pages: what backs a page, and the file's own bytes
use Rattle.std.proofs.Common.{◌≡◌, ℕ, Bool, true, false, Option, None, Some, is_some, if◌then◌else◌, sym, ap, ◌∙◌, subst}
use Rattle.std.specs.Prelude.{IfSome, nat_lt}
use Rattle.vm_base.specs.declared.info.Back.{Back}
use Rattle.vm_base.specs.declared.info.Back.TheVariants.{Shared}
use Rattle.vm_base.specs.Plain.{Bytes, File, bytes_in, file_bytes}
use Rattle.machine_model.specs.Files.{page_now}
use Rattle.machine_model.specs.World.{Memory}
use Rattle.live_pages.specs.declared.pieces.FilePage.{FilePage}
use Rattle.live_pages.specs.declared.pieces.FrameState.{FrameState}
use Rattle.live_pages.specs.Cached.{IsPageOf}
use Rattle.live_pages.specs.Frames.{IsFilePage}
use Rattle.live_pages.specs.Counts.{Begins, BeginsFrom}

own_now : (m : Memory) (file : Option File) (n k : ℕ) (b : Bytes) → m.cached n k ≡ None → is_some (file_bytes file k) ≡ true
    → IfSome (file_bytes file k) (λ own. b ≡ own) → b ≡ page_now m file n k
own_now m None n k b none there own = absurd (let both : false ≡ true = there in cc)
own_now m (Some f) n k b none there own = go (nat_lt k f.count) there own
  where
    go : (t : Bool) → is_some (if t then Some (f.bytes k) else None) ≡ true → IfSome (if t then Some (f.bytes k) else None) (λ own. b ≡ own)
        → b ≡ page_now m (Some f) n k
    go true there own = own ∙ sym (ap (bytes_in m.bytes (f.bytes k)) none)
    go false there own = absurd (let both : false ≡ true = there in cc)

-- they are what the machine has where no frame caches the page
pub begins_from : {A : Type 0} (files : ℕ → Option File) (n k times : ℕ) (b : Bytes) (old new : FrameState A) → is_some (file_bytes (files n) k) ≡ true
    → IfSome (file_bytes (files n) k) (λ own. b ≡ own) → Begins b times old new → BeginsFrom files n k times old new
begins_from files n k times b old new there own begins m none = record {
  bytes = begins.bytes ∙ own_now m (files n) n k b none there own;
  count = begins.count;
  free = begins.free;
}

-- what backs a page is this page of this file, and so it is the file page that says so of itself
pub backs_as : (back : Back) (file page : ℕ) (at : FilePage) → IsFilePage back file page → IsPageOf (Shared file page) at → IsPageOf back at
backs_as back file page at is same = subst (λ n. IsFilePage back n at.page) same.0 (subst (λ n. IsFilePage back file n) same.1 is)
