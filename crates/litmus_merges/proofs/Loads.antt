-- Loads change nothing, so what they are answered is what the map shows
use Rattle.std.proofs.Common.{◌≡◌, ℕ, zero, suc, ◌∷◌, [], Bool, true, false, cond, length, map, replicate, set, slice_get, List, Option, Some, None}
use Rattle.std.proofs.Common.{refl, sym, ◌∙◌, ap, subst}
use Rattle.vm_base.specs.declared.rights.Access.TheVariants.{Load}
use Rattle.vm_base.specs.declared.replies.Reply.{Reply}
use Rattle.vm_base.specs.declared.replies.Reply.TheVariants.{Mapped, Done, Byte, Refused, Segv, Bus, NoFrame, NoMemory}
use Rattle.vm_base.specs.declared.replies.SegvCode.TheVariants.{AccErr, MapErr}
use Rattle.vm_base.specs.declared.requests.Request.{Request}
use Rattle.vm_base.specs.declared.requests.Request.TheVariants.{Load as LoadOf}
use Rattle.vm_base.specs.Apply.{access_reply, accessed, bytes_reply, entry_reply, needs_copy}
use Rattle.vm_base.specs.Pages.{is_page, offset_of, page_of}
use Rattle.vm_base.specs.Plain.{Bytes, PageEntry, Plain, bytes_of}
use Rattle.vm_base.specs.Rights.{is_allowed}
use Rattle.litmus_merges.specs.declared.asked.Asked.{Asked}
use Rattle.litmus_merges.specs.Finals.{LoadsShow, loaded, loads_by}
use Rattle.litmus_merges.specs.Merging.{IsEnd, Merges, Point, TurnAt, start}
use Rattle.litmus_merges.specs.OneTurn.{TurnsTo}

-- ---- one load

-- a load isn't answered as a store that is done
not_done : (t : Plain) (addr : ℕ) → access_reply t addr Load ≡ Some Done → ⊥
not_done t addr = go (is_page (page_of addr)) (t.entry (page_of addr))
  where
    bytes : (o : Option Bytes) → bytes_reply false o Load (offset_of addr) ≡ Some Done → ⊥
    bytes None e = absurd cc
    bytes (Some b) e = absurd cc

    allowed : (v : Bool) (x : PageEntry) → cond v (bytes_reply (needs_copy Load x.back x.own) (bytes_of t.file x.back x.own) Load (offset_of addr)) (Some (Segv AccErr)) ≡ Some Done → ⊥
    allowed false x e = absurd cc
    allowed true x e = bytes (bytes_of t.file x.back x.own) e

    go : (v : Bool) (o : Option PageEntry) → cond v (entry_reply t.file o Load (offset_of addr)) (Some (Segv MapErr)) ≡ Some Done → ⊥
    go false o e = absurd cc
    go true None e = absurd cc
    go true (Some x) e = allowed (is_allowed x.prot Load) x e

unchanged : (t : Plain) (addr : ℕ) (y : Reply) → access_reply t addr Load ≡ Some y → accessed t addr 0 y ≡ t
unchanged t addr (Mapped a) e = refl
unchanged t addr Done e = absurd (not_done t addr e)
unchanged t addr (Byte b) e = refl
unchanged t addr (Refused x) e = refl
unchanged t addr (Segv c) e = refl
unchanged t addr Bus e = refl
unchanged t addr NoFrame e = refl
unchanged t addr NoMemory e = refl

-- its turn comes to a reply, which is what the map shows, and leaves the map
pub load_turn : (t u : Plain) (core addr : ℕ) (reply : Option Reply) → TurnsTo t core (LoadOf addr) reply u
    → (y : Reply) × (reply ≡ Some y) × (access_reply t addr Load ≡ Some y) × (u ≡ t)
load_turn t u core addr None h = let wrong : true ≡ false = h.0 in absurd cc
load_turn t u core addr (Some y) h = (y, refl, h.0, h.1 ∙ unchanged t addr y h.0)

-- ---- loads of a list of addresses

-- the replies so far are those that the map shows
abbrev Under : Plain → List ℕ → List (Option Reply) → Type 0
Under u [] [] = Unit {0}
Under u [] (o ∷ told) = ⊥
Under u (a ∷ addrs) [] = ⊥
Under u (a ∷ addrs) (None ∷ told) = Under u addrs told
Under u (a ∷ addrs) (Some y ∷ told) = (access_reply u a Load ≡ Some y) × Under u addrs told

under_none : (u : Plain) (core : ℕ) (addrs : List ℕ) → Under u addrs (replicate (length (loads_by core addrs)) None)
under_none u core [] = tt
under_none u core (a ∷ addrs) = under_none u core addrs

under_set : (u : Plain) (core : ℕ) (addrs : List ℕ) (told : List (Option Reply)) (at : ℕ) (call : Asked) (y : Reply)
    → slice_get (loads_by core addrs) at ≡ Some call → Under u addrs told
    → ((a : ℕ) → call.request ≡ LoadOf a → access_reply u a Load ≡ Some y) → Under u addrs (set told at (Some y))
under_set u core [] told at call y is h f = absurd cc
under_set u core (a ∷ addrs) [] at call y is h f = absurd h
under_set u core (a ∷ addrs) (None ∷ told) zero call y is h f =
    let same : record { core = core; request = LoadOf a } ≡ call = cc in
    (f a (sym (ap (λ (x : Asked). x.request) same)), h)
under_set u core (a ∷ addrs) (Some z ∷ told) zero call y is h f =
    let same : record { core = core; request = LoadOf a } ≡ call = cc in
    (f a (sym (ap (λ (x : Asked). x.request) same)), h.1)
under_set u core (a ∷ addrs) (None ∷ told) (suc at) call y is h f = under_set u core addrs told at call y is h f
under_set u core (a ∷ addrs) (Some z ∷ told) (suc at) call y is h f = (h.0, under_set u core addrs told at call y is h.1 f)

load_at : (core : ℕ) (addrs : List ℕ) (at : ℕ) (call : Asked) → slice_get (loads_by core addrs) at ≡ Some call → (a : ℕ) × (call.request ≡ LoadOf a)
load_at core [] at call is = absurd cc
load_at core (a ∷ addrs) zero call is =
    let same : record { core = core; request = LoadOf a } ≡ call = cc in (a, sym (ap (λ (x : Asked). x.request) same))
load_at core (a ∷ addrs) (suc at) call is = load_at core addrs at call is

all_under : (u : Plain) (addrs : List ℕ) (replies : List Reply) → Under u addrs (map Some replies) → loaded u addrs ≡ map Some replies
all_under u [] [] h = refl
all_under u [] (y ∷ replies) h = absurd h
all_under u (a ∷ addrs) [] h = absurd h
all_under u (a ∷ addrs) (y ∷ replies) h =
    ap (λ (o : Option Reply). o ∷ loaded u addrs) h.0 ∙ ap (λ (l : List (Option Reply)). Some y ∷ l) (all_under u addrs replies h.1)

-- a point at which the map is still this one
abbrev IsStill : Plain → List ℕ → Point → Type 0
IsStill u addrs p = (p.map ≡ u) × Under u addrs p.told

one_load : (u : Plain) (core : ℕ) (addrs : List ℕ) (p q : Point) (at : ℕ) → IsStill u addrs p → TurnAt (loads_by core addrs) p at q → IsStill u addrs q
one_load u core addrs p q at h turn = subst (IsStill u addrs) (sym turn.is) (
  z.3 ∙ h.0,
  subst (λ (o : Option Reply). Under u addrs (set p.told at o)) (sym z.1) (under_set u core addrs p.told at turn.call z.0 turn.next.is_call h.1 shows),
)
  where
    load : (a : ℕ) × (turn.call.request ≡ LoadOf a)
    load = load_at core addrs at turn.call turn.next.is_call

    z : (y : Reply) × (turn.reply ≡ Some y) × (access_reply p.map load.0 Load ≡ Some y) × (turn.map ≡ p.map)
    z = load_turn p.map turn.map turn.call.core load.0 turn.reply
        (subst (λ (r : Request). TurnsTo p.map turn.call.core r turn.reply turn.map) load.1 turn.turns)

    shows : (a : ℕ) → turn.call.request ≡ LoadOf a → access_reply u a Load ≡ Some z.0
    shows a e =
        let loads : LoadOf a ≡ LoadOf load.0 = sym e ∙ load.1 in
        let same : load.0 ≡ a = cc in
        subst (λ (n : ℕ). access_reply u n Load ≡ Some z.0) same (subst (λ (t : Plain). access_reply t load.0 Load ≡ Some z.0) h.0 z.2)

all_loads : (u : Plain) (core : ℕ) (addrs : List ℕ) (n : ℕ) (q : Point) → Merges (loads_by core addrs) (start (loads_by core addrs) u) n q → IsStill u addrs q
all_loads u core addrs zero q h = subst (IsStill u addrs) (sym h) (refl, under_none u core addrs)
all_loads u core addrs (suc n) q h = one_load u core addrs h.0 q h.2.0 (all_loads u core addrs n h.0 h.1) h.2.1

pub loads_are_shown : LoadsShow
loads_are_shown u core addrs replies comb = all_under u addrs replies
    (all_loads u core addrs comb.1.0 (record { told = map Some replies; map = comb.0 }) comb.1.1).1

-- and they leave the map as it is
pub loads_stay : (u v : Plain) (core : ℕ) (addrs : List ℕ) (replies : List Reply) → IsEnd (loads_by core addrs) u replies v → v ≡ u
loads_stay u v core addrs replies end = (all_loads u core addrs end.0 (record { told = map Some replies; map = v }) end.1).0
