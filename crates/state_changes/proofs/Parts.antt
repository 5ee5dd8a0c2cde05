-- One part more, applied or found
use Rattle.std.proofs.Common.{◌≡◌, ℕ, zero, suc, ◌+◌, ◌<◌, ◌≤◌, List, [], ◌∷◌, ◌++◌, length, take, drop, get_or, refl, sym, ap, subst, ◌∙◌, arith}
use Rattle.std.proofs.Common.{append_assoc, append-nil}
use Rattle.std.proofs.lemmas.List.{drop_more, take-append-drop}
use Rattle.state_changes.specs.declared.part.DiffOp.{DiffOp}
use Rattle.state_changes.specs.declared.part.DiffOp.TheVariants.{Keep, Skip, Add}
use Rattle.state_changes.specs.Applied.{IsNext, applied, fresh, given, kept, taken}

-- what the first part leaves to the others
pub one_applied : (p : DiffOp) (ps : List DiffOp) (added text : List ℕ)
    → applied (p ∷ ps) added text ≡ (take (kept p) text ++ take (fresh p) added) ++ applied ps (drop (fresh p) added) (drop (taken p) text)
one_applied (Keep n) ps added text = ap (λ l. l ++ applied ps added (drop n text)) (sym (append-nil (take n text)))
one_applied (Skip n) ps added text = refl
one_applied (Add n) ps added text = refl

-- the front of what was just cut off
drop_cut : (n : ℕ) (xs ys : List ℕ) → n ≤ length xs → drop n (take n xs ++ ys) ≡ ys
drop_cut zero xs ys lt = refl
drop_cut (suc n) [] ys lt = absurd (omega (arith, lt))
drop_cut (suc n) (x ∷ xs) ys lt = drop_cut n xs ys (omega (arith, lt))

take_cut : (n : ℕ) (xs ys : List ℕ) → n ≤ length xs → take n (take n xs ++ ys) ≡ take n xs
take_cut zero xs ys lt = refl
take_cut (suc n) [] ys lt = absurd (omega (arith, lt))
take_cut (suc n) (x ∷ xs) ys lt = ap (λ l. x ∷ l) (take_cut n xs ys (omega (arith, lt)))

next_applied : (p : DiffOp) (more : List DiffOp) (others old new : List ℕ) → IsNext p old new
    → applied (p ∷ more) (take (fresh p) new ++ others) old ≡ take (given p) new ++ applied more others (drop (taken p) old)
next_applied (Keep n) more others old new is = ap (λ l. l ++ applied more others (drop n old)) is.3
next_applied (Skip n) more others old new is = refl
next_applied (Add n) more others old new is =
    ap (λ l. l ++ applied more (drop n (take n new ++ others)) old) (take_cut n new others is.1)
    ∙ ap (λ l. take n new ++ applied more l old) (drop_cut n new others is.1)

-- the parts so far make what comes before the rest of the new text, and leave the rest of the old one
pub record IsPartWay (parts : List DiffOp) (added before old after new : List ℕ) : Type 0 where
  pub done : List ℕ
  pub rest : after ≡ done ++ new
  pub leads : (more : List DiffOp) (others : List ℕ) → applied (parts ++ more) (added ++ others) before ≡ done ++ applied more others old

pub way_begins : (before after : List ℕ) → IsPartWay [] [] before before after after
way_begins before after = record { done = []; rest = refl; leads = λ more others. refl }

pub way_goes : (p : DiffOp) (parts : List DiffOp) (added before old after new : List ℕ) → IsNext p old new → IsPartWay parts added before old after new
    → IsPartWay (parts ++ p ∷ []) (added ++ take (fresh p) new) before (drop (taken p) old) after (drop (given p) new)
way_goes p parts added before old after new is w = record {
  done = w.done ++ take (given p) new;
  rest = w.rest ∙ ap (λ l. w.done ++ l) (sym (take-append-drop (given p) new)) ∙ sym (append_assoc w.done (take (given p) new) (drop (given p) new));
  leads = λ more others.
      ap (λ l. applied l ((added ++ take (fresh p) new) ++ others) before) (append_assoc parts (p ∷ []) more)
      ∙ ap (λ l. applied (parts ++ p ∷ more) l before) (append_assoc added (take (fresh p) new) others)
      ∙ w.leads (p ∷ more) (take (fresh p) new ++ others)
      ∙ ap (λ l. w.done ++ l) (next_applied p more others old new is)
      ∙ sym (append_assoc w.done (take (given p) new) (applied more others (drop (taken p) old)));
}

pub way_ends : (parts : List DiffOp) (added before old after new : List ℕ) → length old ≡ 0 → length new ≡ 0 → IsPartWay parts added before old after new
    → applied parts added before ≡ after
way_ends parts added before [] after [] o n w =
    ap (λ l. applied l added before) (sym (append-nil parts)) ∙ ap (λ l. applied (parts ++ []) l before) (sym (append-nil added))
    ∙ w.leads [] [] ∙ sym w.rest
way_ends parts added before (x ∷ old) after new o n w = absurd (omega (arith, o))
way_ends parts added before [] after (x ∷ new) o n w = absurd (omega (arith, n))

-- how many bytes it passes is within the texts
pub next_fits : (p : DiffOp) (old new : List ℕ) → IsNext p old new → (fresh p ≤ length new) × (taken p ≤ length old) × (given p ≤ length new) ×
    (0 < taken p + given p)
next_fits (Keep n) old new is = (omega arith, is.1, is.2, omega (arith, is.0))
next_fits (Skip n) old new is = (omega arith, is.1, omega arith, omega (arith, is.0))
next_fits (Add n) old new is = (is.1, omega arith, is.1, omega (arith, is.0))

-- one part more is applied
pub part_applied : (parts : List DiffOp) (at : ℕ) (d p : DiffOp) (out fresh_now rest stays line others more mid new all : List ℕ) → at < length parts
    → get_or parts at d ≡ p → stays ≡ take (kept p) rest → line ≡ take (fresh p) fresh_now → others ≡ drop (fresh p) fresh_now
    → more ≡ drop (taken p) rest → mid ≡ out ++ stays → new ≡ mid ++ line → out ++ applied (drop at parts) fresh_now rest ≡ all
    → new ++ applied (drop (at + 1) parts) others more ≡ all
part_applied parts at d p out fresh_now rest stays line others more mid new all lt is s l o m e f same =
    let left = drop (at + 1) parts in
    let behind = applied left others more in
    ap (λ x. x ++ behind) (f ∙ ap (λ x. x ++ line) e) ∙ append_assoc (out ++ stays) line behind ∙ append_assoc out stays (line ++ behind)
    ∙ ap (λ x. out ++ x) (sym (append_assoc stays line behind)
    ∙ ap (λ x. (x ++ line) ++ behind) s
    ∙ ap (λ x. (take (kept p) rest ++ x) ++ behind) l
    ∙ ap (λ x. (take (kept p) rest ++ take (fresh p) fresh_now) ++ applied left x more) o
    ∙ ap (λ x. (take (kept p) rest ++ take (fresh p) fresh_now) ++ applied left (drop (fresh p) fresh_now) x) m
    ∙ sym (one_applied p left fresh_now rest)
    ∙ ap (λ x. applied (x ∷ left) fresh_now rest) (sym is)
    ∙ ap (λ x. applied x fresh_now rest) (sym (drop_more parts at d lt)))
    ∙ same

-- the same, of what came of it
pub way_on : (p : DiffOp) (parts parts_now : List DiffOp) (added added_now line before old old_now after new new_now : List ℕ) (n m k : ℕ) → IsNext p old new
    → IsPartWay parts added before old after new → parts_now ≡ parts ++ p ∷ [] → added_now ≡ added ++ line → n ≡ fresh p → line ≡ take n new
    → m ≡ taken p → old_now ≡ drop m old → k ≡ given p → new_now ≡ drop k new → IsPartWay parts_now added_now before old_now after new_now
way_on p parts parts_now added added_now line before old old_now after new new_now n m k is w ps a f l t o g e =
    subst (λ x. IsPartWay x added_now before old_now after new_now) (sym ps)
    (subst (λ x. IsPartWay (parts ++ p ∷ []) x before old_now after new_now) (sym (a ∙ ap (λ x. added ++ x) (l ∙ ap (λ x. take x new) f)))
    (subst (λ x. IsPartWay (parts ++ p ∷ []) (added ++ take (fresh p) new) before x after new_now) (sym (o ∙ ap (λ x. drop x old) t))
    (subst (λ x. IsPartWay (parts ++ p ∷ []) (added ++ take (fresh p) new) before (drop (taken p) old) after x) (sym (e ∙ ap (λ x. drop x new) g))
    (way_goes p parts added before old after new is w))))

-- ---- lines that are the same

none_taken : (n : ℕ) (xs : List ℕ) → xs ≡ [] → take n xs ≡ []
none_taken zero xs e = refl
none_taken (suc n) [] e = refl
none_taken (suc n) (x ∷ xs) e = absurd (cc)

take_sum : (m n : ℕ) (xs : List ℕ) → take (m + n) xs ≡ take m xs ++ take n (drop m xs)
take_sum zero n xs = let same : zero + n ≡ n = omega arith in ap (λ k. take k xs) same
take_sum (suc m) n [] = none_taken (suc m + n) [] refl ∙ sym (none_taken n [] refl)
take_sum (suc m) n (x ∷ xs) = let same : suc m + n ≡ suc (m + n) = omega arith in ap (λ k. take k (x ∷ xs)) same ∙ ap (λ l. x ∷ l) (take_sum m n xs)

-- some more, of what is left of both
pub same_more : (at count next : ℕ) (old new left right : List ℕ) → left ≡ drop at old → right ≡ drop at new → next ≡ at + count
    → take count left ≡ take count right → take at old ≡ take at new → take next old ≡ take next new
same_more at count next old new left right l r is more front =
    ap (λ k. take k old) is ∙ take_sum at count old ∙ ap (λ f. f ++ take count (drop at old)) front
    ∙ ap (λ f. take at new ++ f) (ap (take count) (sym l) ∙ more ∙ ap (take count) r)
    ∙ sym (take_sum at count new) ∙ ap (λ k. take k new) (sym is)
