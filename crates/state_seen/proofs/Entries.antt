-- What the tables of a core have of a page, by what can be read
use Rattle.machine_model.proofs.Words.{◌≡◌, ℕ, subst, ◌+◌, ◌*◌, ◌/◌, ◌%◌, ◌^◌, ◌<◌, ◌≤◌, ◌==◌, Bool, true, false, refl, sym, ap, ◌∙◌, arith}
use Rattle.machine_model.proofs.Words.{Some, None, Option, nat_lt, nat_tests}
use Rattle.machine_model.proofs.Words.{if◌then◌else◌, is_page, IsPage, is_some, PageInfo, Translation, World, ∥∥₁_elim, props, Touch}
use Rattle.machine_model.proofs.Words.{page_of_touch}
use Rattle.machine_model.specs.declared.phase.Phase.TheVariants.{CopyPost}
use Rattle.machine_model.specs.Orderly.{IsReady, IsUsable}
use Rattle.vm_base.specs.Info.{recorded_cores}
use Rattle.mmu.specs.Entry.{entry_word}
use Rattle.mmu.specs.Tables.{word_of}
use Rattle.machine_model.specs.Invariant.{IsWellFormed}
use Rattle.machine_model.proofs.SoundKept.{reached_fine}
use Rattle.machine_model.proofs.Reaching.{HasPage, backs}
use Rattle.machine_model.specs.Sound.{IsReached}

-- a number that is no page's
invalid : (p : ℕ) → IsPage p → is_page p ≡ false → ⊥
invalid p h e = let low = h.0 in let high = h.1 in let other : is_page p ≡ true = grind (arith, nat_tests) in cc

-- a page of which tables have an entry is mapped, and has its frame
backed : (w : World) → IsWellFormed w → (c p : ℕ) (t : Translation) → w.hardware.table c p ≡ Some t → HasPage w.memory.cached (w.slots.info p) t
backed w f c p t e = backs w.memory.cached (w.slots.info p) c t (f.coherent.tables c p t e)

no_entry : (w : World) → IsWellFormed w → (c p : ℕ) → ((t : Translation) → HasPage w.memory.cached (w.slots.info p) t → ⊥)
    → w.hardware.table c p ≡ None
no_entry w f c p none = go (w.hardware.table c p) refl
  where
    go : (o : Option Translation) → w.hardware.table c p ≡ o → w.hardware.table c p ≡ None
    go None e = e
    go (Some t) e = absurd (none t (backed w f c p t e))

off_page : (w : World) → IsWellFormed w → (p : ℕ) → is_page p ≡ false → w.slots.info p ≡ None
off_page w f p out = go (w.slots.info p) refl
  where
    go : (o : Option PageInfo) → w.slots.info p ≡ o → w.slots.info p ≡ None
    go None e = e
    go (Some info) e = absurd (invalid p ((f.order.pages p).valid (ap is_some e)) out)

unmapped : (w : World) → IsWellFormed w → (c p : ℕ) → w.slots.info p ≡ None → w.hardware.table c p ≡ None
unmapped w f c p e = no_entry w f c p (λ t k. let is = sym e ∙ k.mapped in cc)

-- ---- by a reached state

pub none_off_page : (w : World) → ∥ IsReached w ∥₁ → (c p : ℕ) → is_page p ≡ false → w.hardware.table c p ≡ None
none_off_page w l c p out = ∥∥₁_elim l (hlevel props) (λ r. let f = reached_fine w r in unmapped w f c p (off_page w f p out))

pub unrecorded_off_page : (w : World) → ∥ IsReached w ∥₁ → (p : ℕ) → is_page p ≡ false → recorded_cores (w.slots.info p) ≡ 0
unrecorded_off_page w l p out = ∥∥₁_elim l (hlevel props) (λ r. ap recorded_cores (off_page w (reached_fine w r) p out))

pub none_unmapped : (w : World) → ∥ IsReached w ∥₁ → (c p : ℕ) → w.slots.info p ≡ None → w.hardware.table c p ≡ None
none_unmapped w l c p e = ∥∥₁_elim l (hlevel props) (λ r. unmapped w (reached_fine w r) c p e)

pub none_frameless : (w : World) → ∥ IsReached w ∥₁ → (c p : ℕ) (info : PageInfo) → w.slots.info p ≡ Some info → info.frame ≡ None
    → w.hardware.table c p ≡ None
none_frameless w l c p info e none = ∥∥₁_elim l (hlevel props) (λ r. no_entry w (reached_fine w r) c p (λ t k.
    let at = k.mapped in
    let same : info ≡ k.info = cc in
    let is = sym none ∙ ap (λ (i : PageInfo). i.frame) same ∙ k.frame in cc))

pub none_wordless : (o : Option Translation) → word_of o ≡ None → o ≡ None
none_wordless None e = refl
none_wordless (Some t) e = absurd cc

-- ---- the bits of an entry

write_of : (f : ℕ) (w x : Bool) (word : ℕ) → word ≡ f * 4096 + 1 + (if w then 2 else 0) + 4 + (if x then 0 else 2 ^ 63) → (word / 2 % 2 == 1) ≡ w
write_of f true true word e = let is : word / 2 % 2 ≡ 1 = omega (arith, e) in ap (λ n. n == 1) is
write_of f true false word e = let is : word / 2 % 2 ≡ 1 = omega (arith, e) in ap (λ n. n == 1) is
write_of f false true word e = let is : word / 2 % 2 ≡ 0 = omega (arith, e) in ap (λ n. n == 1) is
write_of f false false word e = let is : word / 2 % 2 ≡ 0 = omega (arith, e) in ap (λ n. n == 1) is

exec_of : (f : ℕ) (w x : Bool) (word : ℕ) → f < 2 ^ 32 → word ≡ f * 4096 + 1 + (if w then 2 else 0) + 4 + (if x then 0 else 2 ^ 63)
    → nat_lt word (2 ^ 63) ≡ x
exec_of f true true word lt e = let is : word < 2 ^ 63 = omega (arith, e) in grind (arith, nat_tests, is)
exec_of f true false word lt e = let is : 2 ^ 63 ≤ word = omega (arith, e) in grind (arith, nat_tests, is)
exec_of f false true word lt e = let is : word < 2 ^ 63 = omega (arith, e) in grind (arith, nat_tests, is)
exec_of f false false word lt e = let is : 2 ^ 63 ≤ word = omega (arith, e) in grind (arith, nat_tests, is)

-- what these bits and this frame say
abbrev pub said : ℕ → ℕ → Translation
said word f = record { frame = f; write = word / 2 % 2 == 1; exec = nat_lt word (2 ^ 63) }

same_entry : (t : Translation) (f word : ℕ) → f < 2 ^ 32 → t.frame ≡ f → entry_word t ≡ word → said word f ≡ t
same_entry t f word lt e h =
    let bits : word ≡ f * 4096 + 1 + (if t.write then 2 else 0) + 4 + (if t.exec then 0 else 2 ^ 63)
    = sym h ∙ ap (λ n. n * 4096 + 1 + (if t.write then 2 else 0) + 4 + (if t.exec then 0 else 2 ^ 63)) e in
    ap (λ n. record { frame = n; write = word / 2 % 2 == 1; exec = nat_lt word (2 ^ 63) }) (sym e)
    ∙ ap (λ b. record { frame = t.frame; write = b; exec = nat_lt word (2 ^ 63) }) (write_of f t.write t.exec word bits)
    ∙ ap (λ b. record { frame = t.frame; write = t.write; exec = b }) (exec_of f t.write t.exec word lt bits)

pub entry_said : (w : World) → ∥ IsReached w ∥₁ → (c p : ℕ) (word f : ℕ) (info : PageInfo) → word_of (w.hardware.table c p) ≡ Some word
    → w.slots.info p ≡ Some info → info.frame ≡ Some f → f < 2 ^ 32 → Some (said word f) ≡ w.hardware.table c p
entry_said w l c p word f info h e g lt = ∥∥₁_elim l (hlevel props) (λ r. go (reached_fine w r) (w.hardware.table c p) refl)
  where
    go : IsWellFormed w → (o : Option Translation) → w.hardware.table c p ≡ o → Some (said word f) ≡ w.hardware.table c p
    go fine None i = absurd (let none : word_of (w.hardware.table c p) ≡ None = ap word_of i in cc)
    go fine (Some t) i =
        let k = backed w fine c p t i in
        let at = k.mapped in
        let same : info ≡ k.info = cc in
        let frame : t.frame ≡ f = (let is : Some f ≡ Some t.frame = sym g ∙ ap (λ (x : PageInfo). x.frame) same ∙ k.frame in cc) in
        let bits : entry_word t ≡ word = (let is : Some (entry_word t) ≡ Some word = ap word_of (sym i) ∙ h in cc) in
        ap Some (same_entry t f word lt frame bits) ∙ sym i

-- ---- the page of a copy

pub copy_page : (w : World) → ∥ IsReached w ∥₁ → (c : ℕ) (touch : Touch) (frame : ℕ) → w.calls.phase c ≡ CopyPost touch frame → touch.page < 2 ^ 35
copy_page w l c touch frame e = ∥∥₁_elim l (hlevel props) (λ r. go (reached_fine w r) (w.slots.info touch.page) refl)
  where
    go : IsWellFormed w → (o : Option PageInfo) → w.slots.info touch.page ≡ o → touch.page < 2 ^ 35
    go fine None i = absurd (subst (λ o. IsUsable w.made.file o touch.access (Some ready.0)) i ready.1)
      where
        ready : IsReady w.made w.slots w.memory.cached (CopyPost touch frame)
        ready = subst (IsReady w.made w.slots w.memory.cached) e (fine.order.ready c)
    go fine (Some info) i = ((fine.order.pages touch.page).valid (ap is_some i)).1

pub next_page : (w : World) → ∥ IsReached w ∥₁ → (c : ℕ) (touch : Touch) (frame : ℕ) → w.calls.phase c ≡ CopyPost touch frame
    → touch.page + 1 < 2 ^ 64
next_page w l c touch frame e = let low = copy_page w l c touch frame e in omega (arith, low)

-- ---- what is read

pub read_off : (w : World) → ∥ IsReached w ∥₁ → (c p : ℕ) → is_page p ≡ false → None ≡ w.hardware.table c p
read_off w l c p out = sym (none_off_page w l c p out)

pub read_unrecorded : (w : World) → ∥ IsReached w ∥₁ → (p : ℕ) → is_page p ≡ false → 0 ≡ recorded_cores (w.slots.info p)
read_unrecorded w l p out = sym (unrecorded_off_page w l p out)

pub read_wordless : (w : World) (c p : ℕ) → None ≡ word_of (w.hardware.table c p) → None ≡ w.hardware.table c p
read_wordless w c p e = sym (none_wordless (w.hardware.table c p) (sym e))

pub read_unmapped : (w : World) → ∥ IsReached w ∥₁ → (c p : ℕ) → None ≡ w.slots.info p → None ≡ w.hardware.table c p
read_unmapped w l c p e = sym (none_unmapped w l c p (sym e))

pub read_frameless : (w : World) → ∥ IsReached w ∥₁ → (c p : ℕ) (info : PageInfo) → Some info ≡ w.slots.info p → None ≡ info.frame
    → None ≡ w.hardware.table c p
read_frameless w l c p info e none = sym (none_frameless w l c p info (sym e) (sym none))

pub read_entry : (w : World) → ∥ IsReached w ∥₁ → (c p word f : ℕ) (info : PageInfo) → Some word ≡ word_of (w.hardware.table c p)
    → Some info ≡ w.slots.info p → Some f ≡ info.frame → f < 2 ^ 32 → Some (said word f) ≡ w.hardware.table c p
read_entry w l c p word f info h e g lt = entry_said w l c p word f info (sym h) (sym e) (sym g) lt
