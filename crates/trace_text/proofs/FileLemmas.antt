-- The line of a file and its grammar.
use Rattle.std.proofs.Common.{◌≡◌, ℕ, ◌+◌, ◌%◌, List, [], ◌∷◌, ◌++◌, Some, codes, map, arith, refl, sym, ap, ◌∙◌, subst}
use Rattle.std.specs.List.{range_with_len}
use Rattle.std.proofs.lemmas.List.FromFn.{map-range_with_len_more}
use Rattle.vm_base.specs.declared.rights.Mode.{Mode}
use Rattle.vm_base.specs.declared.rights.Mode.TheVariants.{R, W, RW}
use Rattle.trace_text.proofs.Choices.{bind_some, by_name, ended_some, front_some}
use Rattle.trace_text.proofs.SpellingLemmas.{byte_all, byte_only, front_all, front_only}
use Rattle.trace_text.specs.Words.{Word, front_word}
use Rattle.trace_text.specs.Request.{ended, front_byte, front_number}
use Rattle.trace_text.specs.Spelling.{mode_text}
use Rattle.trace_text.specs.Line.{contents_of, file_line_of, mode_named}
use Rattle.trace_text.specs.Grammar.{Says}
use Rattle.trace_text.specs.declared.line.Line.{Line}
use Rattle.trace_text.specs.declared.line.Line.TheVariants.{File}

mode_all : (mode : Mode) → mode_named (mode_text mode) ≡ Some mode
mode_all R = refl
mode_all W = refl
mode_all RW = refl

pub said_file : (number : ℕ) (mode : Mode) (len seed : ℕ) (args : List Word) → Says (File number mode len seed) (codes "file" ∷ args)
    → file_line_of args ≡ Some (File number mode len seed)
unfolding file_line_of contents_of
said_file number mode len seed args (n, l, s, e, spelled, length, byte, small) =
    let same : args ≡ n ∷ mode_text mode ∷ l ∷ s ∷ [] = cc in
    let more : List Word = mode_text mode ∷ l ∷ s ∷ [] in
    let k : front_number (n ∷ mode_text mode ∷ l ∷ s ∷ []) ≡ Some (number, mode_text mode ∷ l ∷ s ∷ []) = front_all n more number spelled in
    let m : mode_named (mode_text mode) ≡ Some mode = mode_all mode in
    let i : front_number (l ∷ s ∷ []) ≡ Some (len, s ∷ []) = front_all l (s ∷ []) len length in
    let b : front_byte (s ∷ []) ≡ Some (seed, []) = byte_all s [] seed byte small in
    rw (same, k, m, i, b) refl

abbrev Names : Word → Mode → Type 0
Names word mode = word ≡ mode_text mode

mode_only : (word : Word) (mode : Mode) → mode_named word ≡ Some mode → Names word mode
mode_only word mode e =
    by_name Names word (codes "r") R _ mode e refl (λ e. by_name Names word (codes "w") W _ mode e refl (λ e.
    by_name Names word (codes "rw") RW _ mode e refl (λ e. absurd (cc))))

pub only_file : (args : List Word) (line : Line) → file_line_of args ≡ Some line → Says line (codes "file" ∷ args)
unfolding file_line_of contents_of
only_file args line e =
    let (number, en, f1) = bind_some (front_number args) _ line e in
    let (second, e2, f2) = bind_some (front_word number.1) _ line f1 in
    let (mode, n2, g2) = bind_some (mode_named second.0) (λ mode. contents_of number.0 mode second.1) line f2 in
    let (len, el, f3) = bind_some (front_number second.1) _ line g2 in
    let (seed, es, f4) = bind_some (front_byte len.1) (λ seed. ended seed.1 (File number.0 mode len.0 seed.0)) line f3 in
    let (none, same) = ended_some seed.1 (File number.0 mode len.0 seed.0) line f4 in
    let (n, is, spelled) = front_only args number en in
    let (l, third, length) = front_only second.1 len el in
    let (s, fourth, byte, small) = byte_only len.1 seed es in
    let last = third ∙ ap (λ ws. l ∷ ws) (fourth ∙ ap (λ ws. s ∷ ws) none) in
    let others = front_some number.1 second e2 ∙ ap (λ w. w ∷ second.1) (mode_only second.0 mode n2) ∙ ap (λ ws. mode_text mode ∷ ws) last in
    let words = is ∙ ap (λ ws. n ∷ ws) others in
    subst (λ l. Says l (codes "file" ∷ args)) same (n, l, s, ap (λ ws. codes "file" ∷ ws) words, spelled, length, byte, small)

-- ---- the bytes of a file, made one after another

pub bytes_more : (seed n next : ℕ) (old new : List ℕ) (byte : ℕ) → next ≡ n + 1 → byte ≡ (seed + n) % 256 → new ≡ old ++ byte ∷ []
    → old ≡ map (λ i. (seed + i) % 256) (range_with_len 0 n) → new ≡ map (λ i. (seed + i) % 256) (range_with_len 0 next)
bytes_more seed n next old new byte e b h was =
    h ∙ ap (λ l. l ++ byte ∷ []) was ∙ ap (λ x. map (λ i. (seed + i) % 256) (range_with_len 0 n) ++ x ∷ []) b
    ∙ sym (map-range_with_len_more (λ i. (seed + i) % 256) 0 n n (omega arith))
    ∙ ap (λ m. map (λ i. (seed + i) % 256) (range_with_len 0 m)) (sym e)

pub byte_more : (seed n next byte after : ℕ) → next ≡ n + 1 → byte ≡ (seed + n) % 256 → after ≡ (byte + 1) % 256 → after ≡ (seed + next) % 256
byte_more seed n next byte after e b h = omega (arith, e, b, h)
