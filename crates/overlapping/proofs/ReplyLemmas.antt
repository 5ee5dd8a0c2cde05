-- What another order says of replies
use Rattle.std.proofs.Common.{◌≡◌, ◌∙◌, ℕ, ◌+◌, ◌<◌, Bool, true, false, List, [], length, drop, get_or, ap, refl, subst, sym}
use Rattle.std.proofs.lemmas.List.{drop_more}
use Rattle.slot_lock.specs.declared.map_list.MapLine.{MapLine}
use Rattle.vm_base.specs.declared.replies.Reply.{Reply}
use Rattle.audit.specs.Placing.{rule_of}
use Rattle.audit_text.specs.Allowed.{is_lacking}
use Rattle.audit_text.specs.Ends.{IsVerdict}
use Rattle.audit_text.specs.Legal.{first_map}
use Rattle.audit_text.specs.declared.allowing.Terms.{Terms}
use Rattle.audit_text.specs.declared.judging.Verdict.{Verdict}
use Rattle.audit_text.specs.declared.judging.Verdict.TheVariants.{Legal, Illegal, Undecided}
use Rattle.orders.specs.declared.history.Timed.{Timed}
use Rattle.orders.specs.Orders.{HasOrder}
use Rattle.orders_text.specs.History.{IsHistory, Read, completed}
use Rattle.overlapping.specs.Replies.{HasAnother, HasOther, IsJudgement, IsUndecided, is_undecided, lacking_among}
use Rattle.overlapping.specs.declared.replies.Counts.{Counts}
use Rattle.overlapping.specs.declared.replies.Judgement.{Judgement}
use Rattle.overlapping.specs.declared.replies.Judgement.TheVariants.{InOrder, Reordered}

-- ---- counting

pub lacking_here : (calls : List Timed) (n : ℕ) (d : Timed) → n < length calls → is_lacking (get_or calls n d).call.reply ≡ true
    → lacking_among (drop n calls) ≡ lacking_among (drop (n + 1) calls) + 1
lacking_here calls n d p e = ap (λ l. lacking_among l) (drop_more calls n d p) ∙ rw e refl

pub lacking_other : (calls : List Timed) (n : ℕ) (d : Timed) → n < length calls → is_lacking (get_or calls n d).call.reply ≡ false
    → lacking_among (drop n calls) ≡ lacking_among (drop (n + 1) calls)
lacking_other calls n d p e = ap (λ l. lacking_among l) (drop_more calls n d p) ∙ rw e refl

-- ---- another order

pub other_there : (terms : Terms) (r : Read) (replies : ℕ → Reply) (calls lacking : ℕ) → calls ≡ length r.calls → lacking ≡ lacking_among r.calls
    → (terms.is_strict ≡ true → lacking ≡ 0) → HasOrder (rule_of terms.any_place) (first_map r.declared) (completed replies r)
    → HasOther terms r (record { calls = calls; lacking = lacking })
other_there terms r replies calls lacking n l s o = record { calls = n; lacking = l; strict = s; replies = replies; order = o }

pub another_there : (terms : Terms) (lines : List (List ℕ)) (r : Read) (counts : Counts) → IsHistory lines r → HasOther terms r counts
    → HasAnother terms lines counts
another_there terms lines r counts h o = record { read = r; history = h; other = o }

undecided_there : (terms : Terms) (lines : List (List ℕ)) (verdict : Verdict) (around : List MapLine) → is_undecided verdict ≡ true
    → IsVerdict terms lines verdict around → IsUndecided terms lines
undecided_there terms lines (Undecided line item due) around e v = record { line = line; item = item; due = due; around = around; is = v }
undecided_there terms lines (Legal calls lacking passed) around e v = absurd cc
undecided_there terms lines (Illegal line item due) around e v = absurd cc

-- ---- the judgement

pub told_in_order : (terms : Terms) (lines : List (List ℕ)) (verdict : Verdict) (around shown : List MapLine) (judgement : Judgement)
    → judgement ≡ InOrder verdict → shown ≡ around → IsVerdict terms lines verdict around → IsJudgement terms lines judgement shown
told_in_order terms lines verdict around shown judgement e f v =
    subst (λ (j : Judgement). IsJudgement terms lines j shown) (sym e) (subst (λ (s : List MapLine). IsVerdict terms lines verdict s) (sym f) v)

pub told_reordered : (terms : Terms) (lines : List (List ℕ)) (verdict : Verdict) (around shown : List MapLine) (judgement : Judgement) (counts : Counts)
    → judgement ≡ Reordered counts → shown ≡ [] → is_undecided verdict ≡ true → IsVerdict terms lines verdict around
    → HasAnother terms lines counts → IsJudgement terms lines judgement shown
told_reordered terms lines verdict around shown judgement counts e f u v a =
    subst (λ (j : Judgement). IsJudgement terms lines j shown) (sym e) (undecided_there terms lines verdict around u v, a, f)
