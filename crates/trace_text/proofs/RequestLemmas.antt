-- Requests and their grammar.
use Rattle.std.proofs.Common.{◌≡◌, inl, inr, ℕ, List, [], ◌∷◌, Some, None, codes, refl, sym, ap, ◌∙◌, subst}
use Rattle.vm_base.specs.declared.rights.Prot.{Prot}
use Rattle.vm_base.specs.declared.requests.Flags.{Flags}
use Rattle.trace_text.specs.Words.{Word, front_word}
use Rattle.trace_text.specs.Request.{◌>>=◌, ended, front_byte, front_number, request_of, load_of, store_of, fetch_of, mmap_of, munmap_of}
use Rattle.trace_text.specs.Request.{mprotect_of, protected_of, prot_of, flags_of, backed_of}
use Rattle.trace_text.specs.Spelling.{SpellsNumber}
use Rattle.trace_text.specs.Grammar.{Asks, Backs}
use Rattle.trace_text.proofs.Choices.{bind_some, by_word, ended_some, front_some, chosen}
use Rattle.trace_text.proofs.SpellingLemmas.{byte_all, byte_only, front_all, front_only}
use Rattle.trace_text.proofs.FlagLemmas.{rights_all, rights_only, flags_all, flags_only}
use Rattle.vm_base.specs.declared.requests.Request.{Request}
use Rattle.vm_base.specs.declared.requests.Request.TheVariants.{Mmap, Munmap, Mprotect, Load, Store, Fetch}

backs_all : (addr len : ℕ) (prot : Prot) (flags : Flags) (file off : ℕ) (more : List Word) → Backs flags file off more
    → backed_of addr len prot flags more ≡ Some (Mmap addr len prot flags file off)
unfolding backed_of
backs_all addr len prot flags file off more (inl (e, anon, f, o)) = rw (e, anon, f, o) refl
backs_all addr len prot flags file off more (inr (v, w, e, n, m)) =
    let f : front_number (v ∷ w ∷ []) ≡ Some (file, w ∷ []) = front_all v (w ∷ []) file n in
    let o : front_number (w ∷ []) ≡ Some (off, []) = front_all w [] off m in
    rw (e, f, o) refl

pub asked_is_read : (r : Request) (words : List Word) → Asks r words → request_of words ≡ Some r
unfolding request_of load_of store_of fetch_of mmap_of munmap_of mprotect_of protected_of
asked_is_read (Load a) words (w, e, n) = let k : front_number (w ∷ []) ≡ Some (a, []) = front_all w [] a n in rw (e, k) refl
asked_is_read (Fetch a) words (w, e, n) = let k : front_number (w ∷ []) ≡ Some (a, []) = front_all w [] a n in rw (e, k) refl
asked_is_read (Store a b) words (w, v, e, n, m, h) =
    let k : front_number (w ∷ v ∷ []) ≡ Some (a, v ∷ []) = front_all w (v ∷ []) a n in
    let byte : front_byte (v ∷ []) ≡ Some (b, []) = byte_all v [] b m h in
    rw (e, k, byte) refl
asked_is_read (Munmap addr len) words (a, l, e, n, m) =
    let k : front_number (a ∷ l ∷ []) ≡ Some (addr, l ∷ []) = front_all a (l ∷ []) addr n in
    let i : front_number (l ∷ []) ≡ Some (len, []) = front_all l [] len m in
    rw (e, k, i) refl
asked_is_read (Mprotect addr len prot) words (a, l, p, e, n, m, pe) =
    let k : front_number (a ∷ l ∷ p ∷ []) ≡ Some (addr, l ∷ p ∷ []) = front_all a (l ∷ p ∷ []) addr n in
    let i : front_number (l ∷ p ∷ []) ≡ Some (len, p ∷ []) = front_all l (p ∷ []) len m in
    let r : prot_of p ≡ Some prot = rights_all p prot pe in
    rw (e, k, i, r) refl
asked_is_read (Mmap addr len prot flags file off) words (a, l, p, f, more, e, n, m, pe, fe, be) =
    let k : front_number (a ∷ l ∷ p ∷ f ∷ more) ≡ Some (addr, l ∷ p ∷ f ∷ more) = front_all a (l ∷ p ∷ f ∷ more) addr n in
    let i : front_number (l ∷ p ∷ f ∷ more) ≡ Some (len, p ∷ f ∷ more) = front_all l (p ∷ f ∷ more) len m in
    let r : prot_of p ≡ Some prot = rights_all p prot pe in
    let t : flags_of f ≡ Some flags = flags_all f flags fe in
    rw (e, k, i, r, t) (backs_all addr len prot flags file off more be)

-- what has one address
only_address : (make : ℕ → Request) (name : Word) → ((addr : ℕ) (w : Word) → SpellsNumber w addr → Asks (make addr) (name ∷ w ∷ []))
    → (args : List Word) (r : Request) → (front_number args >>= λ addr. ended addr.1 (make addr.0)) ≡ Some r → Asks r (name ∷ args)
only_address make name asks args r e =
    let (addr, ea, e1) = bind_some (front_number args) (λ addr. ended addr.1 (make addr.0)) r e in
    let (a, is, n) = front_only args addr ea in
    let (none, same) = ended_some addr.1 (make addr.0) r e1 in
    subst (λ q. Asks q (name ∷ args)) same (subst (λ ws. Asks (make addr.0) (name ∷ ws)) (sym (is ∙ ap (λ ws. a ∷ ws) none)) (asks addr.0 a n))

only_store : (args : List Word) (r : Request) → store_of args ≡ Some r → Asks r (codes "store" ∷ args)
unfolding store_of
only_store args r e =
    let (addr, ea, e1) = bind_some (front_number args) _ r e in
    let (value, ev, e2) = bind_some (front_byte addr.1) (λ value. ended value.1 (Store addr.0 value.0)) r e1 in
    let (a, is, n) = front_only args addr ea in
    let (b, next, m, small) = byte_only addr.1 value ev in
    let (none, same) = ended_some value.1 (Store addr.0 value.0) r e2 in
    subst (λ q. Asks q (codes "store" ∷ args)) same
    (a, b, ap (λ ws. codes "store" ∷ ws) (is ∙ ap (λ ws. a ∷ ws) (next ∙ ap (λ ws. b ∷ ws) none)), n, m, small)

-- whatever backs it, it is a request to map with these arguments
backed_only : (addr len : ℕ) (prot : Prot) (flags : Flags) (more : List Word) (r : Request) → backed_of addr len prot flags more ≡ Some r
    → (file : ℕ) × (off : ℕ) × (Mmap addr len prot flags file off ≡ r) × Backs flags file off more
unfolding backed_of
backed_only addr len prot flags [] r e =
    elim (chosen flags.anon (Some (Mmap addr len prot flags 0 0)) None (Some r) e) [
      | inl h ↦ let g = h.1 in (0, 0, cc, inl (refl, h.0, refl, refl))
      | inr h ↦ let g = h.1 in absurd (cc)
    ]
backed_only addr len prot flags (w ∷ ws) r e =
    let (file, ef, e1) = bind_some (front_number (w ∷ ws)) _ r e in
    let (off, eo, e2) = bind_some (front_number file.1) (λ off. ended off.1 (Mmap addr len prot flags file.0 off.0)) r e1 in
    let (f, is, n) = front_only (w ∷ ws) file ef in
    let (o, next, m) = front_only file.1 off eo in
    let (none, same) = ended_some off.1 (Mmap addr len prot flags file.0 off.0) r e2 in
    (file.0, off.0, same, inr (f, o, is ∙ ap (λ l. f ∷ l) (next ∙ ap (λ l. o ∷ l) none), n, m))

only_munmap : (args : List Word) (r : Request) → munmap_of args ≡ Some r → Asks r (codes "munmap" ∷ args)
unfolding munmap_of
only_munmap args r e =
    let (addr, ea, e1) = bind_some (front_number args) _ r e in
    let (len, el, e2) = bind_some (front_number addr.1) (λ len. ended len.1 (Munmap addr.0 len.0)) r e1 in
    let (a, is, n) = front_only args addr ea in
    let (l, next, m) = front_only addr.1 len el in
    let (none, same) = ended_some len.1 (Munmap addr.0 len.0) r e2 in
    subst (λ q. Asks q (codes "munmap" ∷ args)) same
    (a, l, ap (λ ws. codes "munmap" ∷ ws) (is ∙ ap (λ ws. a ∷ ws) (next ∙ ap (λ ws. l ∷ ws) none)), n, m)

only_mprotect : (args : List Word) (r : Request) → mprotect_of args ≡ Some r → Asks r (codes "mprotect" ∷ args)
unfolding mprotect_of protected_of
only_mprotect args r e =
    let (addr, ea, e1) = bind_some (front_number args) _ r e in
    let (len, el, e2) = bind_some (front_number addr.1) _ r e1 in
    let (third, e3, f3) = bind_some (front_word len.1) _ r e2 in
    let (prot, n3, g3) = bind_some (prot_of third.0) (λ prot. ended third.1 (Mprotect addr.0 len.0 prot)) r f3 in
    let (a, is, n) = front_only args addr ea in
    let (l, next, m) = front_only addr.1 len el in
    let (none, same) = ended_some third.1 (Mprotect addr.0 len.0 prot) r g3 in
    let words = is ∙ ap (λ ws. a ∷ ws) (next ∙ ap (λ ws. l ∷ ws) (front_some len.1 third e3 ∙ ap (λ ws. third.0 ∷ ws) none)) in
    subst (λ q. Asks q (codes "mprotect" ∷ args)) same
    (a, l, third.0, ap (λ ws. codes "mprotect" ∷ ws) words, n, m, rights_only third.0 prot n3)

only_mmap : (args : List Word) (r : Request) → mmap_of args ≡ Some r → Asks r (codes "mmap" ∷ args)
unfolding mmap_of
only_mmap args r e =
    let (addr, ea, e1) = bind_some (front_number args) _ r e in
    let (len, el, e2) = bind_some (front_number addr.1) _ r e1 in
    let (third, e3, f3) = bind_some (front_word len.1) _ r e2 in
    let (prot, n3, g3) = bind_some (prot_of third.0) _ r f3 in
    let (fourth, e4, f4) = bind_some (front_word third.1) _ r g3 in
    let (flags, n4, g4) = bind_some (flags_of fourth.0) (λ flags. backed_of addr.0 len.0 prot flags fourth.1) r f4 in
    let (a, is, n) = front_only args addr ea in
    let (l, next, m) = front_only addr.1 len el in
    let (file, off, same, backs) = backed_only addr.0 len.0 prot flags fourth.1 r g4 in
    let others = front_some len.1 third e3 ∙ ap (λ ws. third.0 ∷ ws) (front_some third.1 fourth e4) in
    let words = is ∙ ap (λ ws. a ∷ ws) (next ∙ ap (λ ws. l ∷ ws) others) in
    subst (λ q. Asks q (codes "mmap" ∷ args)) same (
      a,
      l,
      third.0,
      fourth.0,
      fourth.1,
      ap (λ ws. codes "mmap" ∷ ws) words,
      n,
      m,
      rights_only third.0 prot n3,
      flags_only fourth.0 flags n4,
      backs,
    )

pub read_is_asked : (r : Request) (words : List Word) → request_of words ≡ Some r → Asks r words
unfolding request_of load_of fetch_of
read_is_asked r words e =
    let (name, en, e1) = bind_some (front_word words) _ r e in
    let asks : Word → Type 0 = (λ w. Asks r (w ∷ name.1)) in
    subst (Asks r) (sym (front_some words name en))
    (by_word asks name.0 (codes "mmap") _ _ r e1 (only_mmap name.1 r) (λ e.
    by_word asks name.0 (codes "munmap") _ _ r e (only_munmap name.1 r) (λ e.
    by_word asks name.0 (codes "mprotect") _ _ r e (only_mprotect name.1 r) (λ e.
    by_word asks name.0 (codes "load") _ _ r e (only_address Load (codes "load") (λ addr w s. (w, refl, s)) name.1 r) (λ e.
    by_word asks name.0 (codes "store") _ _ r e (only_store name.1 r) (λ e.
    by_word asks name.0 (codes "fetch") _ _ r e (only_address Fetch (codes "fetch") (λ addr w s. (w, refl, s)) name.1 r) (λ e. absurd (cc))))))))
