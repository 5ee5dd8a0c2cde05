-- Replies and their texts.
use Rattle.std.proofs.Common.{◌≡◌, ◌⊎◌, inl, inr, ℕ, ◌<◌, ◌≤◌, ◌^◌, Bool, true, false, cond, eqb, List, [], ◌∷◌, Option, Some, None}
use Rattle.std.proofs.Common.{codes, decimal, arith, refl, sym, ap, ◌∙◌, subst}
use Rattle.std.proofs.lemmas.Bool.Decides.{nat_tests}
use Rattle.std.proofs.lemmas.Slice.Eq.{bytes_eq-Decides}
use Rattle.std.specs.Prelude.{nat_lt, ◌||◌, IfSome}
use Rattle.std.specs.Str.{bytes_eq}
use Rattle.vm_base.specs.declared.replies.Errno.TheVariants.{EINVAL, ENOMEM, EACCES, EBADF, EOVERFLOW}
use Rattle.vm_base.specs.declared.replies.SegvCode.TheVariants.{MapErr, AccErr}
use Rattle.vm_base.specs.declared.replies.Reply.{Reply}
use Rattle.vm_base.specs.declared.replies.Reply.TheVariants.{Mapped, Done, Byte, Refused, Segv, Bus, NoFrame, NoMemory}
use Rattle.trace_text.specs.Number.{number_of}
use Rattle.trace_text.specs.Printing.{address_of, hexadecimal, text_of}
use Rattle.trace_text.specs.Request.{◌>>=◌}
use Rattle.trace_text.proofs.Choices.{bind_some, chosen}
use Rattle.trace_text.specs.Values.{is_hexadecimal, value_of}
use Rattle.trace_text.proofs.SpellingLemmas.{decimal_is, hexadecimal_is, number_only}
use Rattle.trace_text.proofs.ValueLemmas.{decimal_value, hexadecimal_value}
use Rattle.audit_text.specs.Replies.{IsReply, NamesReply, is_nothing, is_step, is_unanswered, is_wait, named_of, or_word, reply_of, word_reply}

-- ---- what is written is read

value_byte : (b : ℕ) → b ≤ 255 → value_of (decimal b) ≡ Some (Byte b)
value_byte b h = decimal_value (decimal b) b (decimal_is b (omega (arith, h))) h

value_address : (a : ℕ) → a < 2 ^ 64 → value_of (address_of a) ≡ Some (Mapped a)
value_address a h = hexadecimal_value (hexadecimal a) a (hexadecimal_is a) h

named : (r : Reply) → IsReply r → named_of (text_of r) ≡ Some r
unfolding value_of
named (Mapped a) h = ap (λ o. or_word o (address_of a)) (value_address a h)
named (Byte b) h = ap (λ o. or_word o (decimal b)) (value_byte b h)
named (Refused EINVAL) h = refl
named (Segv MapErr) h = refl
named r h = refl

pub reply_read : (r : Reply) (text : List ℕ) → NamesReply r text → reply_of text ≡ Some r
unfolding reply_of
reply_read r text (is, h) =
    ap reply_of is ∙ ap (λ o. o >>= λ q. cond (bytes_eq (text_of q) (text_of r)) (Some q) None) (named r h)
    ∙ ap (λ b. cond b (Some r) None) ((bytes_eq-Decides (text_of r) (text_of r)).1 refl)

-- ---- what is read is written so

if_cond : {A : Type 0} (P : A → Type 0) (b : Bool) (o p : Option A) → IfSome o P → IfSome p P → IfSome (cond b o p) P
if_cond P true o p h k = h
if_cond P false o p h k = k

word_fits : (text : List ℕ) → IfSome (word_reply text) IsReply
word_fits text =
    if_cond IsReply (bytes_eq text (codes "done")) (Some Done) _ tt (if_cond IsReply (bytes_eq text (codes "segv maperr")) (Some (Segv MapErr)) _ tt
    (if_cond IsReply (bytes_eq text (codes "segv accerr")) (Some (Segv AccErr)) _ tt
    (if_cond IsReply (bytes_eq text (codes "einval")) (Some (Refused EINVAL)) _ tt
    (if_cond IsReply (bytes_eq text (codes "enomem")) (Some (Refused ENOMEM)) _ tt
    (if_cond IsReply (bytes_eq text (codes "eacces")) (Some (Refused EACCES)) _ tt
    (if_cond IsReply (bytes_eq text (codes "ebadf")) (Some (Refused EBADF)) _ tt
    (if_cond IsReply (bytes_eq text (codes "eoverflow")) (Some (Refused EOVERFLOW)) _ tt
    (if_cond IsReply (bytes_eq text (codes "bus")) (Some Bus) _ tt (if_cond IsReply (bytes_eq text (codes "noframe")) (Some NoFrame) _ tt
    (if_cond IsReply (bytes_eq text (codes "nomemory")) (Some NoMemory) None tt tt))))))))))

value_fits : (text : List ℕ) → IfSome (value_of text) IsReply
unfolding value_of
value_fits text = go (number_of text) refl
  where
    small : (n : ℕ) (b : Bool) → nat_lt 255 n ≡ b → IfSome (cond b None (Some (Byte n))) IsReply
    small n true e = tt
    small n false e = let low : n ≤ 255 = grind (arith, nat_tests) in low

    go : (o : Option ℕ) → number_of text ≡ o
        → IfSome (o >>= λ n. cond (is_hexadecimal text) (Some (Mapped n)) (cond (nat_lt 255 n) None (Some (Byte n)))) IsReply
    go None e = tt
    go (Some n) e = if_cond IsReply (is_hexadecimal text) (Some (Mapped n)) _ (number_only text n e).0 (small n (nat_lt 255 n) refl)

named_fits : (text : List ℕ) → IfSome (named_of text) IsReply
named_fits text = go (value_of text) (value_fits text)
  where
    go : (o : Option Reply) → IfSome o IsReply → IfSome (or_word o text) IsReply
    go None h = word_fits text
    go (Some r) h = h

pub reply_only : (text : List ℕ) (r : Reply) → reply_of text ≡ Some r → NamesReply r text
unfolding reply_of
reply_only text r e =
    let (q, named, e1) = bind_some (named_of text) (λ q. cond (bytes_eq (text_of q) text) (Some q) None) r e in
    elim (chosen (bytes_eq (text_of q) text) (Some q) None (Some r) e1) [
      | inl h ↦
          let same : q ≡ r = (let g = h.1 in cc) in
          let fits : IsReply q = subst (λ o. IfSome o IsReply) named (named_fits text) in
          subst (λ x. NamesReply x text) same (sym ((bytes_eq-Decides (text_of q) text).0 h.0), fits)
      | inr h ↦ let bad = h.1 in absurd (cc)
    ]

-- ---- a word is written so

abbrev if_written : List ℕ → Reply → Option Reply
if_written text r = cond (bytes_eq (text_of r) text) (Some r) None

word_kept : (text w : List ℕ) (r : Reply) (rest : Option Reply) → text_of r ≡ w → rest ≡ (rest >>= if_written text)
    → cond (bytes_eq text w) (Some r) rest ≡ (cond (bytes_eq text w) (Some r) rest >>= if_written text)
word_kept text w r rest is more = go (bytes_eq text w) refl
  where
    go : (b : Bool) → bytes_eq text w ≡ b → cond b (Some r) rest ≡ (cond b (Some r) rest >>= if_written text)
    go true e =
        let same : bytes_eq (text_of r) text ≡ true = (bytes_eq-Decides (text_of r) text).1 (is ∙ sym ((bytes_eq-Decides text w).0 e)) in
        sym (ap (λ b. cond b (Some r) None) same)
    go false e = more

word_written : (text : List ℕ) → word_reply text ≡ (word_reply text >>= if_written text)
word_written text =
    word_kept text (codes "done") Done _ refl (word_kept text (codes "segv maperr") (Segv MapErr) _ refl
    (word_kept text (codes "segv accerr") (Segv AccErr) _ refl (word_kept text (codes "einval") (Refused EINVAL) _ refl
    (word_kept text (codes "enomem") (Refused ENOMEM) _ refl (word_kept text (codes "eacces") (Refused EACCES) _ refl
    (word_kept text (codes "ebadf") (Refused EBADF) _ refl (word_kept text (codes "eoverflow") (Refused EOVERFLOW) _ refl
    (word_kept text (codes "bus") Bus _ refl (word_kept text (codes "noframe") NoFrame _ refl
    (word_kept text (codes "nomemory") NoMemory None refl refl))))))))))

pub reply_word : (text : List ℕ) (r : Option Reply) → value_of text ≡ None → r ≡ word_reply text → r ≡ reply_of text
unfolding reply_of
reply_word text r none is = is ∙ (word_written text ∙ ap (λ o. or_word o text >>= if_written text) (sym none))

pub reply_value : (text : List ℕ) (r : Reply) (b : Bool) → value_of text ≡ Some r → b ≡ bytes_eq (text_of r) text
    → cond b (Some r) None ≡ reply_of text
unfolding reply_of
reply_value text r b some is = ap (λ b. cond b (Some r) None) is ∙ ap (λ o. or_word o text >>= if_written text) (sym some)

-- ---- a wait is no reply

no_w : (c : ℕ) (cs : List ℕ) → eqb c 119 ≡ true → number_of (c ∷ cs) ≡ None
no_w c [] e = let is : c ≡ 119 = grind (arith, nat_tests, e) in ap (λ x. number_of (x ∷ [])) is
no_w c (d ∷ ds) e = let is : c ≡ 119 = grind (arith, nat_tests, e) in ap (λ x. number_of (x ∷ d ∷ ds)) is

begins_so : (text : List ℕ) → is_wait text ≡ true → value_of text ≡ None
unfolding value_of
begins_so [] e = absurd (cc)
begins_so (a ∷ []) e = absurd (cc)
begins_so (a ∷ (b ∷ [])) e = absurd (cc)
begins_so (a ∷ (b ∷ (c ∷ []))) e = absurd (cc)
begins_so (a ∷ (b ∷ (c ∷ (d ∷ [])))) e = absurd (cc)
begins_so (a ∷ (b ∷ (c ∷ (d ∷ (x ∷ rest))))) e =
    let text = a ∷ b ∷ c ∷ d ∷ x ∷ rest in
    let all : a ∷ b ∷ c ∷ d ∷ x ∷ [] ≡ codes "wait " = (bytes_eq-Decides (a ∷ b ∷ c ∷ d ∷ x ∷ []) (codes "wait ")).0 e in
    let first : a ≡ 119 = cc in
    let yes : eqb a 119 ≡ true = grind (arith, nat_tests) in
    ap (λ o. o >>= λ m. cond (is_hexadecimal text) (Some (Mapped m)) (cond (nat_lt 255 m) None (Some (Byte m)))) (no_w a (b ∷ c ∷ d ∷ x ∷ rest) yes)

not_valued : (text : List ℕ) (r : Reply) → value_of text ≡ Some r → is_wait text ≡ false
not_valued text r e = go (is_wait text) refl
  where
    go : (b : Bool) → is_wait text ≡ b → b ≡ false
    go false h = refl
    go true h = let none = begins_so text h in absurd (cc)

waits_not : (r : Reply) → IsReply r → is_wait (text_of r) ≡ false
waits_not (Mapped a) h = not_valued (address_of a) (Mapped a) (value_address a h)
waits_not (Byte b) h = not_valued (decimal b) (Byte b) (value_byte b h)
waits_not (Refused EINVAL) h = refl
waits_not (Segv MapErr) h = refl
waits_not r h = refl

pub reply_waits_not : (r : Reply) (text : List ℕ) → NamesReply r text → is_wait text ≡ false
reply_waits_not r text (is, h) = ap is_wait is ∙ waits_not r h

-- ---- what is no reply

pub or_split : (x y : Bool) → (x || y) ≡ true → (x ≡ true) ⊎ (y ≡ true)
or_split true y e = inl refl
or_split false y e = inr e

wait_none : (text : List ℕ) → is_wait text ≡ true → reply_of text ≡ None
wait_none text e = go (reply_of text) refl
  where
    go : (o : Option Reply) → reply_of text ≡ o → reply_of text ≡ None
    go None h = h
    go (Some r) h = let waits_no = reply_waits_not r text (reply_only text r h) in absurd (cc)

stuck_none : reply_of (codes "stuck") ≡ None
unfolding reply_of value_of
stuck_none = refl

pub unanswered_none : (text : List ℕ) → is_unanswered text ≡ true → reply_of text ≡ None
unanswered_none text e = elim (or_split (is_wait text) (bytes_eq text (codes "stuck")) e) [
  | inl h ↦ wait_none text h
  | inr h ↦ ap reply_of ((bytes_eq-Decides text (codes "stuck")).0 h) ∙ stuck_none
]

step_none : reply_of (codes "step") ≡ None
unfolding reply_of value_of
step_none = refl

pub still_none : (text : List ℕ) → (is_unanswered text || is_step text) ≡ true → reply_of text ≡ None
still_none text e = elim (or_split (is_unanswered text) (is_step text) e) [
  | inl h ↦ unanswered_none text h
  | inr h ↦ ap reply_of ((bytes_eq-Decides text (codes "step")).0 h) ∙ step_none
]

-- a text that says that nothing was done says nothing else
abbrev pub SaysNothingElse : List ℕ → Type 0
SaysNothingElse text = (reply_of text ≡ None) × (is_unanswered text ≡ false) × (is_step text ≡ false)

idle_alone : SaysNothingElse (codes "idle")
unfolding reply_of value_of
idle_alone = (refl, refl, refl)

full_alone : SaysNothingElse (codes "full")
unfolding reply_of value_of
full_alone = (refl, refl, refl)

pub nothing_alone : (text : List ℕ) → is_nothing text ≡ true → SaysNothingElse text
nothing_alone text e = elim (or_split (bytes_eq text (codes "idle")) (bytes_eq text (codes "full")) e) [
  | inl h ↦ subst SaysNothingElse (sym ((bytes_eq-Decides text (codes "idle")).0 h)) idle_alone
  | inr h ↦ subst SaysNothingElse (sym ((bytes_eq-Decides text (codes "full")).0 h)) full_alone
]
