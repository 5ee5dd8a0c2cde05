-- Outcomes and their grammar.
use Rattle.machine_model.proofs.Words.{◌≡◌, ◌⊎◌, inl, inr, ℕ, suc, ◌<◌, ◌≤◌, ◌^◌, true, false, cond, List, [], ◌∷◌, ◌++◌, Option, Some, None, length, codes}
use Rattle.machine_model.proofs.Words.{decimal, map, arith, refl, sym, ap, ◌∙◌, subst, nat_tests, nat_lt, with_member, EINVAL, ENOMEM, EACCES, EBADF}
use Rattle.machine_model.proofs.Words.{EOVERFLOW, MapErr, Reply, Mapped, Done, Byte, Refused, Segv, Bus, NoFrame, NoMemory}
use Rattle.machine_model.specs.declared.event.Blocker.TheVariants.{Slot}
use Rattle.machine_model.specs.declared.event.Outcome.{Outcome}
use Rattle.machine_model.specs.declared.event.Outcome.TheVariants.{Stepped, Wait, Idle, Answered, Full}
use Rattle.std.proofs.Common.{is_some}
use Rattle.std.specs.Prelude.{option_map}
use Rattle.vm_base.specs.declared.replies.SegvCode.TheVariants.{AccErr}
use Rattle.machine_model.specs.declared.event.Blocker.TheVariants.{Acks}
use Rattle.trace_text.specs.Words.{Word, front_word}
use Rattle.trace_text.specs.Number.{number_of}
use Rattle.trace_text.specs.Request.{◌>>=◌, ended}
use Rattle.trace_text.specs.Line.{core_number}
use Rattle.trace_text.specs.Spelling.{SpellsIn}
use Rattle.trace_text.proofs.Choices.{bind_some, by_name, by_word, ended_some, front_some, chosen}
use Rattle.trace_text.proofs.CoreLemmas.{names_core, core_only}
use Rattle.trace_text.specs.Values.{is_hexadecimal, value_of}
use Rattle.trace_text.proofs.SpellingLemmas.{number_only}
use Rattle.trace_text.proofs.ValueLemmas.{decimal_value, hexadecimal_value, not_hexadecimal}
use Rattle.notes_text.specs.Outcomes.{single_of, alone, cores_from, acks_of, slot_of, wait_of, segv_of, valued, outcome_of}
use Rattle.notes_text.specs.Grammar.{NamesReply, NamesOutcome, NamesAcks, Ascend, with_cores}

-- ---- what is named is read

cores_all : (least set : ℕ) (cores : List ℕ) → Ascend least cores → cores_from least set (map decimal cores) ≡ Some (with_cores set cores)
cores_all least set [] a = refl
cores_all least set (c ∷ cs) (low, small, more) =
    let k : core_number (decimal c) ≡ Some c = names_core c small in
    let test : nat_lt c least ≡ false = grind (arith, nat_tests) in
    rw (k, test) (cores_all (suc c) (with_member set c) cs more)

-- a word that is a value
value_all : (w : Word) (reply : Reply) → value_of w ≡ Some reply → outcome_of (w ∷ []) ≡ Some (Answered reply)
unfolding outcome_of
value_all w reply k = ap (λ v. valued v w []) k

reply_all : (r : Reply) (words : List Word) → NamesReply r words → outcome_of words ≡ Some (Answered r)
unfolding outcome_of segv_of value_of
reply_all (Mapped a) words (digits, e, s, h) = ap outcome_of e ∙ value_all (codes "0x" ++ digits) (Mapped a) (hexadecimal_value digits a s h)
reply_all (Byte b) words (w, e, s, h) = ap outcome_of e ∙ value_all w (Byte b) (decimal_value w b s h)
reply_all (Refused EINVAL) words e = rw e refl
reply_all (Segv MapErr) words e = rw e refl
reply_all r words e = rw e refl

pub outcome_all : (o : Outcome) (words : List Word) → NamesOutcome o words → outcome_of words ≡ Some o
unfolding outcome_of wait_of slot_of value_of
outcome_all Stepped words e = rw e refl
outcome_all (Wait (Slot core)) words (h, e) = let k : core_number (decimal core) ≡ Some core = names_core core h in rw (e, k) refl
outcome_all (Wait (Acks set)) words (first, others, e, a, s) =
    let all : cores_from 0 0 (map decimal (first ∷ others)) ≡ Some (with_cores 0 (first ∷ others)) = cores_all 0 0 (first ∷ others) a in
    ap outcome_of e ∙ ap (λ o. o >>= λ set. Some (Wait (Acks set))) (all ∙ ap (λ n. Some n) (sym s))
outcome_all Idle words e = rw e refl
outcome_all (Answered r) words e = reply_all r words e
outcome_all Full words e = rw e refl

-- ---- what is read is named

core_named : (w : Word) (core : ℕ) → core_number w ≡ Some core → (core < 64) × (w ≡ decimal core)
core_named w core k =
    let (h, e) = core_only (99 ∷ w) core k in
    (h, cc)

cores_only : (least set : ℕ) (words : List Word) (all : ℕ) → cores_from least set words ≡ Some all
    → (cores : List ℕ) × (words ≡ map decimal cores) × Ascend least cores × (all ≡ with_cores set cores)
cores_only least set [] all e = ([], refl, tt, cc)
cores_only least set (w ∷ ws) all e =
    let (core, k, e1) = bind_some (core_number w) (λ core. cond (nat_lt core least) None (cores_from (suc core) (with_member set core) ws)) all e in
    let (small, is) = core_named w core k in
    elim (chosen (nat_lt core least) None (cores_from (suc core) (with_member set core) ws) (Some all) e1) [
      | inl h ↦ let bad = h.1 in absurd (cc)
      | inr h ↦
          let (cores, same, a, s) = cores_only (suc core) (with_member set core) ws all h.1 in
          let low : least ≤ core = grind (arith, nat_tests, h.0) in
          (core ∷ cores, ap (λ v. v ∷ ws) is ∙ ap (λ vs. decimal core ∷ vs) same, (low, small, a), s)
    ]

acks_only : (words : List Word) (o : Outcome) → acks_of words ≡ Some o → NamesOutcome o (codes "wait" ∷ codes "acks" ∷ words)
acks_only [] o e = absurd (cc)
acks_only (w ∷ ws) o e =
    let (set, k, e1) = bind_some (cores_from 0 0 (w ∷ ws)) (λ set. Some (Wait (Acks set))) o e in
    let same : Wait (Acks set) ≡ o = cc in
    subst (λ p. NamesOutcome p (codes "wait" ∷ codes "acks" ∷ w ∷ ws)) same (go set (cores_only 0 0 (w ∷ ws) set k))
  where
    go : (set : ℕ) → (cores : List ℕ) × (w ∷ ws ≡ map decimal cores) × Ascend 0 cores × (set ≡ with_cores 0 cores)
        → NamesAcks set (codes "wait" ∷ codes "acks" ∷ w ∷ ws)
    go set ([], same, a, s) = absurd (cc)
    go set (core ∷ cores, same, a, s) = (core, cores, ap (λ l. codes "wait" ∷ codes "acks" ∷ l) same, a, s)

slot_only : (words : List Word) (o : Outcome) → slot_of words ≡ Some o → NamesOutcome o (codes "wait" ∷ codes "slot" ∷ words)
unfolding slot_of
slot_only words o e =
    let (first, ef, e1) = bind_some (front_word words) _ o e in
    let (core, k, e2) = bind_some (core_number first.0) (λ core. ended first.1 (Wait (Slot core))) o e1 in
    let (none, same) = ended_some first.1 (Wait (Slot core)) o e2 in
    let (small, is) = core_named first.0 core k in
    subst (λ p. NamesOutcome p (codes "wait" ∷ codes "slot" ∷ words)) same
    (small, ap (λ l. codes "wait" ∷ codes "slot" ∷ l) (front_some words first ef ∙ ap (λ w. w ∷ first.1) is ∙ ap (λ l. decimal core ∷ l) none))

wait_only : (words : List Word) (o : Outcome) → wait_of words ≡ Some o → NamesOutcome o (codes "wait" ∷ words)
unfolding wait_of
wait_only words o e =
    let (kind, ek, e1) = bind_some (front_word words) _ o e in
    let names : Word → Type 0 = (λ w. NamesOutcome o (codes "wait" ∷ w ∷ kind.1)) in
    subst (λ l. NamesOutcome o (codes "wait" ∷ l)) (sym (front_some words kind ek))
    (by_word names kind.0 (codes "slot") _ _ o e1 (slot_only kind.1 o) (λ e.
    by_word names kind.0 (codes "acks") _ _ o e (acks_only kind.1 o) (λ e. absurd (cc))))

-- behind whose code no word is left
segv_ended : (code : Word) (rest : List Word) (p o : Outcome) → NamesOutcome p (codes "segv" ∷ code ∷ []) → ended rest p ≡ Some o
    → NamesOutcome o (codes "segv" ∷ code ∷ rest)
segv_ended code rest p o names e =
    let (none, same) = ended_some rest p o e in
    subst (λ q. NamesOutcome q (codes "segv" ∷ code ∷ rest)) same (subst (λ l. NamesOutcome p (codes "segv" ∷ code ∷ l)) (sym none) names)

segv_only : (words : List Word) (o : Outcome) → segv_of words ≡ Some o → NamesOutcome o (codes "segv" ∷ words)
unfolding segv_of
segv_only words o e =
    let (code, ek, e1) = bind_some (front_word words) _ o e in
    let names : Word → Type 0 = (λ w. NamesOutcome o (codes "segv" ∷ w ∷ code.1)) in
    subst (λ l. NamesOutcome o (codes "segv" ∷ l)) (sym (front_some words code ek))
    (by_word names code.0 (codes "maperr") _ _ o e1 (segv_ended (codes "maperr") code.1 (Answered (Segv MapErr)) o refl) (λ e.
    by_word names code.0 (codes "accerr") _ _ o e (segv_ended (codes "accerr") code.1 (Answered (Segv AccErr)) o refl) (λ e. absurd (cc))))

-- an outcome of one word, by its name
abbrev Named : Word → Outcome → Type 0
Named w o = NamesOutcome o (w ∷ [])

single_only : (w : Word) (o : Outcome) → single_of w ≡ Some o → Named w o
single_only w o e =
    by_name Named w (codes "step") Stepped _ o e refl (λ e. by_name Named w (codes "idle") Idle _ o e refl (λ e.
    by_name Named w (codes "full") Full _ o e refl (λ e. by_name Named w (codes "done") (Answered Done) _ o e refl (λ e.
    by_name Named w (codes "einval") (Answered (Refused EINVAL)) _ o e refl (λ e.
    by_name Named w (codes "enomem") (Answered (Refused ENOMEM)) _ o e refl (λ e.
    by_name Named w (codes "eacces") (Answered (Refused EACCES)) _ o e refl (λ e.
    by_name Named w (codes "ebadf") (Answered (Refused EBADF)) _ o e refl (λ e.
    by_name Named w (codes "eoverflow") (Answered (Refused EOVERFLOW)) _ o e refl (λ e.
    by_name Named w (codes "bus") (Answered Bus) _ o e refl (λ e. by_name Named w (codes "noframe") (Answered NoFrame) _ o e refl (λ e.
    by_name Named w (codes "nomemory") (Answered NoMemory) _ o e refl (λ e. absurd (cc)))))))))))))

value_only : (w : Word) (r : Reply) → value_of w ≡ Some r → NamesReply r (w ∷ [])
unfolding value_of
value_only w r e =
    let (n, k, e1) = bind_some (number_of w) (λ n. cond (is_hexadecimal w) (Some (Mapped n)) (cond (nat_lt 255 n) None (Some (Byte n)))) r e in
    let (h, spelled) = number_only w n k in
    elim (chosen (is_hexadecimal w) (Some (Mapped n)) (cond (nat_lt 255 n) None (Some (Byte n))) (Some r) e1) [
      | inl x ↦
          let same : Mapped n ≡ r = (let g = x.1 in cc) in
          subst (λ q. NamesReply q (w ∷ [])) same (address n h x.0 spelled)
      | inr x ↦ elim (chosen (nat_lt 255 n) None (Some (Byte n)) (Some r) x.1) [
        | inl y ↦ let bad = y.1 in absurd (cc)
        | inr y ↦
            let same : Byte n ≡ r = (let g = y.1 in cc) in
            let small : n ≤ 255 = grind (arith, nat_tests, y.0) in
            subst (λ q. NamesReply q (w ∷ [])) same (byte n small x.0 spelled)
      ]
    ]
  where
    address : (n : ℕ) → n < 2 ^ 64 → is_hexadecimal w ≡ true → SpellsIn 10 w n ⊎ ((digits : Word) × (w ≡ codes "0x" ++ digits) × SpellsIn 16 digits n)
        → NamesReply (Mapped n) (w ∷ [])
    address n h x (inl s) = let no : is_hexadecimal w ≡ false = not_hexadecimal w n s in absurd (cc)
    address n h x (inr (digits, e, s)) = (digits, ap (λ v. v ∷ []) e, s, h)

    byte : (n : ℕ) → n ≤ 255 → is_hexadecimal w ≡ false → SpellsIn 10 w n ⊎ ((digits : Word) × (w ≡ codes "0x" ++ digits) × SpellsIn 16 digits n)
        → NamesReply (Byte n) (w ∷ [])
    byte n h x (inl s) = (w, refl, s, h)
    byte n h x (inr (digits, e, s)) = let yes : is_hexadecimal w ≡ true = ap is_hexadecimal e in absurd (cc)

alone_some : (rest : List Word) (said : Option Outcome) (o : Outcome) → alone rest said ≡ Some o → (rest ≡ []) × (said ≡ Some o)
alone_some [] said o e = (refl, e)
alone_some (w ∷ ws) said o e = absurd (cc)

pub outcome_only : (words : List Word) (o : Outcome) → outcome_of words ≡ Some o → NamesOutcome o words
unfolding outcome_of
outcome_only words o e =
    let (name, en, e1) = bind_some (front_word words) _ o e in
    subst (NamesOutcome o) (sym (front_some words name en)) (go name.0 name.1 (value_of name.0) refl e1)
  where
    go : (w : Word) (rest : List Word) (v : Option Reply) → value_of w ≡ v → valued v w rest ≡ Some o → NamesOutcome o (w ∷ rest)
    go w rest (Some r) k e =
        let (none, same) = ended_some rest (Answered r) o e in
        subst (λ p. NamesOutcome p (w ∷ rest)) same (subst (λ l. NamesOutcome (Answered r) (w ∷ l)) (sym none) (value_only w r k))
    go w rest None k e =
        by_word (λ v. NamesOutcome o (v ∷ rest)) w (codes "wait") _ _ o e (wait_only rest o) (λ e.
        by_word (λ v. NamesOutcome o (v ∷ rest)) w (codes "segv") _ _ o e (segv_only rest o) (λ e.
        let (none, is) = alone_some rest (single_of w) o e in
        subst (λ l. NamesOutcome o (w ∷ l)) (sym none) (single_only w o is)))

-- where there is a word
pub acks_begun : (words : List Word) → is_some (front_word words) ≡ true → acks_of words ≡ (cores_from 0 0 words >>= λ set. Some (Wait (Acks set)))
acks_begun [] e = absurd (cc)
acks_begun (w ∷ ws) e = refl

pub begun_words : {X : Type 0} (f : X → Word × List Word) (o : Option X) (words : List Word) → is_some o ≡ true → option_map f o ≡ front_word words
    → is_some (front_word words) ≡ true
begun_words f None words e k = absurd (cc)
begun_words f (Some x) words e k = ap is_some (sym k)

-- a word that isn't a core's number
pub acks_stuck : (words rest : List Word) (least set : ℕ) (w : Word) (ws : List Word) → is_some (front_word words) ≡ true
    → cores_from 0 0 words ≡ cores_from least set rest → Some (w, ws) ≡ front_word rest → core_number w ≡ None → acks_of words ≡ None
acks_stuck words rest least set w ws b same is none =
    let all : cores_from 0 0 words ≡ None = same ∙ ap (cores_from least set) (front_some rest (w, ws) (sym is))
    ∙ ap (λ o. o >>= λ core. cond (nat_lt core least) None (cores_from (suc core) (with_member set core) ws)) none in
    acks_begun words b ∙ ap (λ o. o >>= λ set. Some (Wait (Acks set))) all

-- a core that isn't above those before it
pub acks_low : (words rest : List Word) (least set : ℕ) (w : Word) (ws : List Word) (core : ℕ) → is_some (front_word words) ≡ true
    → cores_from 0 0 words ≡ cores_from least set rest → Some (w, ws) ≡ front_word rest → core_number w ≡ Some core → core < least
    → acks_of words ≡ None
acks_low words rest least set w ws core b same is some low =
    let test : nat_lt core least ≡ true = grind (arith, nat_tests) in
    let all : cores_from 0 0 words ≡ None = same ∙ ap (cores_from least set) (front_some rest (w, ws) (sym is))
    ∙ ap (λ o. o >>= λ core. cond (nat_lt core least) None (cores_from (suc core) (with_member set core) ws)) some
    ∙ ap (λ b. cond b None (cores_from (suc core) (with_member set core) ws)) test in
    acks_begun words b ∙ ap (λ o. o >>= λ set. Some (Wait (Acks set))) all

-- no word more
pub acks_done : (words rest : List Word) (least set : ℕ) → is_some (front_word words) ≡ true
    → cores_from 0 0 words ≡ cores_from least set rest → None ≡ front_word rest → acks_of words ≡ Some (Wait (Acks set))
acks_done words rest least set b same is =
    let none : rest ≡ [] = nothing_left rest is in
    acks_begun words b ∙ ap (λ o. o >>= λ set. Some (Wait (Acks set))) (same ∙ ap (cores_from least set) none)
  where
    nothing_left : (ws : List Word) → None ≡ front_word ws → ws ≡ []
    nothing_left [] e = refl
    nothing_left (w ∷ ws) e = absurd (cc)

pub no_words : (rest : List Word) → None ≡ front_word rest → length rest ≡ 0
no_words [] e = refl
no_words (w ∷ ws) e = absurd (cc)
