-- A turn of a call that leaves no place open leads to one point
use Rattle.std.proofs.Common.{◌≡◌, ℕ, Bool, true, false, is_some, not, set, slice_get, List, Option, Some, None, refl, sym, ◌∙◌, ap, subst}
use Rattle.vm_base.specs.declared.rights.Access.TheVariants as By
use Rattle.vm_base.specs.declared.replies.Reply.{Reply}
use Rattle.vm_base.specs.declared.requests.Request.{Request}
use Rattle.vm_base.specs.declared.requests.Request.TheVariants.{Mmap, Munmap, Mprotect, Load, Store, Fetch}
use Rattle.vm_base.specs.Answers.{is_ready}
use Rattle.vm_base.specs.Apply.{Applies, AppliesAfter, MapsAt, NewMapping, access_reply, meta_of}
use Rattle.vm_base.specs.Copies.{page_due, with_copy}
use Rattle.vm_base.specs.Places.{IsFirstPlace, IsPlace}
use Rattle.vm_base.specs.Plain.{Plain, mode_of}
use Rattle.vm_base.specs.Refusals.{refusal}
use Rattle.vm_base.specs.Requests.{is_placed}
use Rattle.vm_base.proofs.OneAnswer.{one_answer}
use Rattle.litmus_merges.specs.declared.asked.Asked.{Asked}
use Rattle.litmus_merges.specs.Merging.{IsNext, Point, TurnAt}
use Rattle.litmus_merges.specs.OneTurn.{TurnsTo}
use Rattle.litmus_merges.specs.Laws.{AreNamed}

-- any place is the first place, where none is open
first_place : (t : Plain) (c : ℕ) (request : Request) (y : Reply) (u : Plain) → is_placed request ≡ false
    → Applies IsPlace t c request y u → Applies IsFirstPlace t c request y u
first_place t c request y u named = go (refusal (λ n. mode_of (t.file n)) request) request named
  where
    maps : (b : Bool) (asked : NewMapping) → not b ≡ false → MapsAt IsPlace b t asked y u → MapsAt IsFirstPlace b t asked y u
    maps true asked e m = m
    maps false asked e m = absurd cc

    go : (o : Option Reply) (x : Request) → is_placed x ≡ false → AppliesAfter IsPlace o t c x y u → AppliesAfter IsFirstPlace o t c x y u
    go (Some z) x e h = h
    go None (Mmap addr len prot flags file off) e h =
        maps flags.fixed (record { core = c; addr = addr; len = len; meta = meta_of prot flags file off }) e h
    go None (Munmap addr len) e h = h
    go None (Mprotect addr len prot) e h = h
    go None (Load addr) e h = h
    go None (Store addr byte) e h = h
    go None (Fetch addr) e h = h

-- a request that has an answer is ready
answered_ready : (t : Plain) (c : ℕ) (request : Request) (y : Reply) (u : Plain) → Applies IsPlace t c request y u → is_ready t request ≡ true
answered_ready t c (Store addr byte) y u h = ap is_some h.0
answered_ready t c (Mmap addr len prot flags file off) y u h = refl
answered_ready t c (Munmap addr len) y u h = refl
answered_ready t c (Mprotect addr len prot) y u h = refl
answered_ready t c (Load addr) y u h = refl
answered_ready t c (Fetch addr) y u h = refl

pub one_end : (t : Plain) (c : ℕ) (request : Request) (y z : Option Reply) (u v : Plain) → is_placed request ≡ false
    → TurnsTo t c request y u → TurnsTo t c request z v → (y ≡ z) × (u ≡ v)
one_end t c request None None u v named h k = (refl, h.1 ∙ sym k.1)
one_end t c request None (Some z) u v named h k =
    let wrong : false ≡ true = sym h.0 ∙ answered_ready t c request z v k in absurd cc
one_end t c request (Some y) None u v named h k =
    let wrong : false ≡ true = sym k.0 ∙ answered_ready t c request y u h in absurd cc
one_end t c request (Some y) (Some z) u v named h k =
    let both = one_answer t u v c request y z (first_place t c request y u named h) (first_place t c request z v named k) in
    (ap Some both.0, both.1)

-- the call at a place is one
one_call : (calls : List Asked) (at : ℕ) (a b : Asked) → slice_get calls at ≡ Some a → slice_get calls at ≡ Some b → a ≡ b
one_call calls at a b h k = let same : Some a ≡ Some b = sym h ∙ k in cc

to_point : (told : List (Option Reply)) (at : ℕ) (y z : Option Reply) (u v : Plain) → y ≡ z → u ≡ v
    → ◌≡◌ {A = Point} (record { told = set told at y; map = u }) (record { told = set told at z; map = v })
to_point told at y z u v e f = subst (λ w. ◌≡◌ {A = Point} (record { told = set told at y; map = u }) (record { told = set told at z; map = w })) f
    (ap (λ (x : Option Reply). record { told = set told at x; map = u }) e)

pub one_turn : (calls : List Asked) (p q r : Point) (at : ℕ) → AreNamed calls → TurnAt calls p at q → TurnAt calls p at r → q ≡ r
one_turn calls p q r at named h k =
    let same : k.call ≡ h.call = one_call calls at k.call h.call k.next.is_call h.next.is_call in
    let other = subst (λ (c : Asked). TurnsTo p.map c.core c.request k.reply k.map) same k.turns in
    let both = one_end p.map h.call.core h.call.request h.reply k.reply h.map k.map (named at h.call h.next.is_call) h.turns other in
    h.is ∙ (to_point p.told at h.reply k.reply h.map k.map both.0 both.1 ∙ sym k.is)
