-- What is read has no bytes but printable ones.
use Rattle.std.proofs.Common.{◌≡◌, inl, inr, ℕ, Bool, true, false, cond, List, [], ◌∷◌, ◌++◌}
use Rattle.std.proofs.Common.{Option, Some, None, is_some, codes, arith, refl, ap, ◌∙◌, sym}
use Rattle.std.specs.Prelude.{nat_le, ◌&&◌}
use Rattle.std.specs.List.{list_all}
use Rattle.vm_base.specs.declared.rights.Mode.TheVariants.{R, W, RW}
use Rattle.vm_base.specs.declared.rights.Mode.{Mode}
use Rattle.vm_base.specs.declared.rights.Prot.{Prot}
use Rattle.vm_base.specs.declared.requests.Flags.{Flags}
use Rattle.vm_base.specs.declared.requests.Request.{Request}
use Rattle.vm_base.specs.declared.requests.Request.TheVariants.{Mmap, Munmap, Mprotect, Load, Store, Fetch}
use Rattle.trace_text.specs.Words.{Word, words_of}
use Rattle.trace_text.specs.Line.{are_printable, is_comment, line_of, line_of_words}
use Rattle.trace_text.specs.Spelling.{SpellsNumber, SpellsPage, SpellsCore, rights_text, mode_text}
use Rattle.trace_text.specs.Grammar.{Backs, Asks, Does, Limits, Says, ReadsPrintable}
use Rattle.trace_text.proofs.BytesLemmas.{append_has, decimal_has, number_has, words_have}
use Rattle.trace_text.proofs.Choices.{of_three}
use Rattle.trace_text.proofs.FlagLemmas.{flags_have}
use Rattle.trace_text.proofs.LineLemmas.{read_is_said}
use Rattle.trace_text.specs.declared.action.Action.{Action}
use Rattle.trace_text.specs.declared.action.Action.TheVariants.{Call, Frame, Guess, Walk, Evict}
use Rattle.trace_text.specs.declared.line.Line.{Line}
use Rattle.trace_text.specs.declared.line.Line.TheVariants.{Blank, Space, File, Act, Fold, Finish, Now}

-- one byte, and all of several words
abbrev printable : ℕ → Bool
printable c = nat_le 32 c && nat_le c 126

abbrev printable_words : List Word → Bool
printable_words words = list_all are_printable words

-- ---- numbers

number_printable : (w : Word) (n : ℕ) → SpellsNumber w n → are_printable w ≡ true
number_printable w n s = number_has printable (refl, refl, refl) w n s

page_printable : (w : Word) (page : ℕ) → SpellsPage w page → are_printable w ≡ true
page_printable w page (addr, s, p) = number_printable w addr s

-- ---- rights, flags, modes and cores

rights_printable : (prot : Prot) → are_printable (rights_text prot) ≡ true
rights_printable prot = of_three (λ r w x. are_printable (rights_text (record { read = r; write = w; exec = x })) ≡ true)
    (refl, refl, refl, refl, refl, refl, refl, refl) prot.read prot.write prot.exec

mode_printable : (mode : Mode) → are_printable (mode_text mode) ≡ true
mode_printable R = refl
mode_printable W = refl
mode_printable RW = refl

core_printable : (w : Word) (core : ℕ) → SpellsCore w core → are_printable w ≡ true
core_printable w core (h, e) = ap are_printable e ∙ decimal_has printable (refl, refl, refl) core (omega (arith, h))

-- ---- what is said

backs_printable : (flags : Flags) (file off : ℕ) (words : List Word) → Backs flags file off words → printable_words words ≡ true
backs_printable flags file off words (inl (e, anon, f, o)) = rw e refl
backs_printable flags file off words (inr (f, o, e, n, m)) =
    let file_is : are_printable f ≡ true = number_printable f file n in
    let off_is : are_printable o ≡ true = number_printable o off m in
    rw (e, file_is, off_is) refl

asked_printable : (r : Request) (words : List Word) → Asks r words → printable_words words ≡ true
asked_printable (Load addr) words (a, e, n) = let p : are_printable a ≡ true = number_printable a addr n in rw (e, p) refl
asked_printable (Fetch addr) words (a, e, n) = let p : are_printable a ≡ true = number_printable a addr n in rw (e, p) refl
asked_printable (Store addr byte) words (a, b, e, n, m, h) =
    let p : are_printable a ≡ true = number_printable a addr n in
    let q : are_printable b ≡ true = number_printable b byte m in
    rw (e, p, q) refl
asked_printable (Munmap addr len) words (a, l, e, n, m) =
    let p : are_printable a ≡ true = number_printable a addr n in
    let q : are_printable l ≡ true = number_printable l len m in
    rw (e, p, q) refl
asked_printable (Mprotect addr len prot) words (a, l, r, e, n, m, is) =
    let p : are_printable a ≡ true = number_printable a addr n in
    let q : are_printable l ≡ true = number_printable l len m in
    let s : are_printable r ≡ true = ap are_printable is ∙ rights_printable prot in
    rw (e, p, q, s) refl
asked_printable (Mmap addr len prot flags file off) words (a, l, r, f, more, e, n, m, is, given, backs) =
    let p : are_printable a ≡ true = number_printable a addr n in
    let q : are_printable l ≡ true = number_printable l len m in
    let s : are_printable r ≡ true = ap are_printable is ∙ rights_printable prot in
    let t : are_printable f ≡ true = flags_have printable (refl, refl, refl, refl, refl) f flags given in
    let u : printable_words more ≡ true = backs_printable flags file off more backs in
    rw (e, p, q, s, t, u) refl

done_printable : (a : Action) (words : List Word) → Does a words → printable_words words ≡ true
done_printable (Call request) words (args, e, k) = let p : printable_words args ≡ true = asked_printable request args k in rw (e, p) refl
done_printable (Frame frame) words (w, e, s) = let p : are_printable w ≡ true = number_printable w frame s in rw (e, p) refl
done_printable (Guess page) words (w, e, s) = let p : are_printable w ≡ true = page_printable w page s in rw (e, p) refl
done_printable (Walk page) words (w, e, s) = let p : are_printable w ≡ true = page_printable w page s in rw (e, p) refl
done_printable (Evict page) words (w, e, s) = let p : are_printable w ≡ true = page_printable w page s in rw (e, p) refl
done_printable a words e = rw e refl

limits_printable : (calls : ℕ) (words : List Word) → Limits calls words → printable_words words ≡ true
limits_printable calls words (inl (e, n)) = rw e refl
limits_printable calls words (inr (w, e, s)) = let p : are_printable w ≡ true = number_printable w calls s in rw (e, p) refl

said_printable : (line : Line) (words : List Word) → Says line words → printable_words words ≡ true
said_printable Blank words e = rw e refl
said_printable (Space cores frames calls) words (c, f, more, e, n, m, l) =
    let p : are_printable c ≡ true = number_printable c cores n in
    let q : are_printable f ≡ true = number_printable f frames m in
    let s : printable_words more ≡ true = limits_printable calls more l in
    rw (e, p, q, s) refl
said_printable (File number mode len seed) words (n, l, s, e, spelled, length, byte, small) =
    let p : are_printable n ≡ true = number_printable n number spelled in
    let q : are_printable l ≡ true = number_printable l len length in
    let r : are_printable s ≡ true = number_printable s seed byte in
    let t : are_printable (mode_text mode) ≡ true = mode_printable mode in
    rw (e, p, t, q, r) refl
said_printable (Act core action) words (c, args, e, k, d) =
    let p : are_printable c ≡ true = core_printable c core k in
    let q : printable_words args ≡ true = done_printable action args d in
    rw (e, p, q) refl
said_printable (Fold page) words (a, e, s) = let p : are_printable a ≡ true = page_printable a page s in rw (e, p) refl
said_printable (Finish core) words (c, e, k) = let p : are_printable c ≡ true = core_printable c core k in rw (e, p) refl
said_printable (Now core request) words (c, args, e, k, a) =
    let p : are_printable (c ++ codes "!") ≡ true = append_has printable c (codes "!") (core_printable c core k) refl in
    let q : printable_words args ≡ true = asked_printable request args a in
    rw (e, p, q) refl

pub read_is_printable : ReadsPrintable
read_is_printable line bytes e = words_have printable refl bytes (said_printable line (words_of bytes) (read_is_said line (words_of bytes) e))

-- a line that is read and isn't a comment
pub line_printable : (bytes : List ℕ) (said : Option Line) → is_comment bytes ≡ false → is_some said ≡ true → said ≡ line_of bytes
    → are_printable bytes ≡ true
line_printable bytes None other some e = absurd (cc)
line_printable [] (Some line) other some e = refl
line_printable (b ∷ bs) (Some line) other some e =
    read_is_printable line (b ∷ bs) (sym (e ∙ ap (λ t. cond t (Some Blank) (line_of_words (words_of (b ∷ bs)))) other))
