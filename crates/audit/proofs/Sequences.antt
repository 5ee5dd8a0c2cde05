-- Calls one after another
use Rattle.slot_lock.proofs.Words.{◌≡◌, ℕ, zero, suc, ◌+◌, ◌<◌, Bool, List, [], ◌∷◌, ◌++◌, Some, length, take, refl, sym, ◌∙◌, ap, subst, arith}
use Rattle.slot_lock.proofs.Words.{take_more, Plain}
use Rattle.slot_lock.proofs.Words.{Answers}
use Rattle.std.proofs.Common.{slice_get}
use Rattle.std.specs.Prelude.{get_or}
use Rattle.vm_base.specs.declared.replies.Reply.{Reply}
use Rattle.vm_base.specs.Places.{PlaceRule}
use Rattle.audit.specs.declared.auditor.Call.{Call}
use Rattle.audit.specs.declared.auditor.Wrong.{Wrong}
use Rattle.audit.specs.declared.judging.ReplyVerdict.TheVariants.{Illegal}
use Rattle.audit.specs.Judging.{AreReplies, IsFirstWrong, IsGiven, IsWanting, Judges}
use Rattle.audit.specs.Placing.{rule_of}
use Rattle.audit.proofs.Judged.{one_left}

-- one more call
pub replies_push : (rule : PlaceRule) (t m u : Plain) (cs : List Call) (c : Call) → AreReplies rule t cs m → Answers rule m c.core c.request c.reply u
    → AreReplies rule t (cs ++ c ∷ []) u
replies_push rule t m u [] c h a = (u, subst (λ x. Answers rule x c.core c.request c.reply u) h a, refl)
replies_push rule t m u (d ∷ cs) c h a = (h.0, h.1, replies_push rule h.0 m u cs c h.2 a)

pub replies_more : (rule : PlaceRule) (t m u : Plain) (cs : List Call) (at : ℕ) (c : Call) → at < length cs → c ≡ get_or cs at c
    → AreReplies rule t (take at cs) m → Answers rule m c.core c.request c.reply u → AreReplies rule t (take (at + 1) cs) u
replies_more rule t m u cs at c l is h a =
    subst (λ xs. AreReplies rule t xs u) (sym (take_more cs at c l ∙ ap (λ x. take at cs ++ x ∷ []) (sym is))) (replies_push rule t m u (take at cs) c h a)

-- the call at a place
call_at : (cs : List Call) (at : ℕ) (c : Call) → at < length cs → c ≡ get_or cs at c → slice_get cs at ≡ Some c
call_at [] at c l is = absurd (omega (arith, l))
call_at (d ∷ cs) zero c l is = ap Some (sym is)
call_at (d ∷ cs) (suc at) c l is = call_at cs at c (omega (arith, l)) is

-- memory is wanted for the next call
pub wants_next : (rule : PlaceRule) (t m u : Plain) (cs : List Call) (at : ℕ) (c : Call) → at < length cs → c ≡ get_or cs at c → u ≡ m
    → AreReplies rule t (take at cs) m → IsGiven rule m c.core c.request c.reply → IsWanting rule t cs u
wants_next rule t m u cs at c l is stays h given = record {
  at = at;
  call = c;
  is_call = call_at cs at c l is;
  before = subst (AreReplies rule t (take at cs)) (sym stays) h;
  given = subst (λ x. IsGiven rule x c.core c.request c.reply) (sym stays) given;
}

-- the next call's reply is wrong
pub wrong_next : (rule : PlaceRule) (t m u : Plain) (cs : List Call) (at : ℕ) (c : Call) (due : Reply) → at < length cs → c ≡ get_or cs at c
    → AreReplies rule t (take at cs) m → Judges rule m c.core c.request c.reply (Illegal due) u → IsFirstWrong rule t cs (record { at = at; due = due }) u
wrong_next rule t m u cs at c due l is h judged = record {
  call = c;
  is_call = call_at cs at c l is;
  before = subst (AreReplies rule t (take at cs)) (sym judged.2) h;
  none = subst (λ x. (v : Plain) → ¬ Answers rule x c.core c.request c.reply v) (sym judged.2) judged.0;
  due = subst (λ x. IsGiven rule x c.core c.request due) (sym judged.2) judged.1;
}

-- the calls lead to one map
pub one_map : (any : Bool) (t u v : Plain) (cs : List Call) → AreReplies (rule_of any) t cs u → AreReplies (rule_of any) t cs v → u ≡ v
one_map any t u v [] h k = h ∙ sym k
one_map any t u v (c ∷ cs) h k =
    let same : h.0 ≡ k.0 = one_left any t c.core c.request c.reply h.0 k.0 h.1 k.1 in
    one_map any k.0 u v cs (subst (λ m. AreReplies (rule_of any) m cs u) same h.2) k.2

-- a front of them, and the next
front : (rule : PlaceRule) (t v : Plain) (cs : List Call) (at : ℕ) (c : Call) → slice_get cs at ≡ Some c → AreReplies rule t cs v
    → (m : Plain) × AreReplies rule t (take at cs) m × ((n : Plain) × Answers rule m c.core c.request c.reply n)
front rule t v [] at c e h = absurd cc
front rule t v (d ∷ cs) zero c e h =
    let same : d ≡ c = cc in
    (t, refl, (h.0, subst (λ x. Answers rule t x.core x.request x.reply h.0) same h.1))
front rule t v (d ∷ cs) (suc at) c e h =
    let f = front rule h.0 v cs at c e h.2 in (f.0, (h.0, h.1, f.1), f.2)

pub wrong_none : (any : Bool) (t u v : Plain) (cs : List Call) (wrong : Wrong) → IsFirstWrong (rule_of any) t cs wrong u
    → ¬ AreReplies (rule_of any) t cs v
wrong_none any t u v cs wrong w h =
    let f = front (rule_of any) t v cs wrong.at w.call w.is_call h in
    let same : f.0 ≡ u = one_map any t f.0 u (take wrong.at cs) f.1 w.before in
    w.none f.2.0 (subst (λ m. Answers (rule_of any) m w.call.core w.call.request w.call.reply f.2.0) same f.2.1)
