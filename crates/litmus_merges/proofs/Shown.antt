-- What loads show
use Rattle.std.proofs.Common.{◌≡◌, ℕ, ◌+◌, ◌<◌, ◌≤◌, List, [], ◌∷◌, ◌++◌, Option, Some, None, ap, get_or, length, map, refl, subst, sym, take, ◌∙◌}
use Rattle.std.proofs.lemmas.List.{take_all, take_more}
use Rattle.vm_base.specs.declared.rights.Access.TheVariants.{Load}
use Rattle.vm_base.specs.declared.replies.Reply.{Reply}
use Rattle.vm_base.specs.declared.requests.Request.TheVariants.{Load as LoadOf}
use Rattle.vm_base.specs.Apply.{access_reply}
use Rattle.vm_base.specs.Plain.{Plain}
use Rattle.litmus_merges.specs.Finals.{AreShown, loaded}
use Rattle.litmus_merges.specs.OneTurn.{TurnsTo}
use Rattle.litmus_merges.proofs.Loads.{load_turn}

pub load_is : (t u : Plain) (core addr : ℕ) (reply : Option Reply) (y : Reply) → TurnsTo t core (LoadOf addr) reply u → reply ≡ Some y
    → access_reply t addr Load ≡ Some y
load_is t u core addr reply y h e = let z = load_turn t u core addr reply h in z.2 ∙ (sym z.1 ∙ e)

pub load_told : (t u : Plain) (core addr : ℕ) (reply : Option Reply) → TurnsTo t core (LoadOf addr) reply u → reply ≡ None → ⊥
load_told t u core addr reply h e =
    let z = load_turn t u core addr reply h in
    let wrong : Some z.0 ≡ None = sym z.1 ∙ e in absurd cc

push : (t : Plain) (xs : List ℕ) (a : ℕ) (ys : List Reply) (y : Reply) → AreShown t xs ys → access_reply t a Load ≡ Some y
    → AreShown t (xs ++ a ∷ []) (ys ++ y ∷ [])
push t [] a [] y h e = ap (λ (o : Option Reply). o ∷ []) e
push t [] a (z ∷ ys) y h e = absurd cc
push t (x ∷ xs) a [] y h e = absurd cc
push t (x ∷ xs) a (z ∷ ys) y h e =
    let head : access_reply t x Load ≡ Some z = cc in
    let tail : loaded t xs ≡ map Some ys = cc in
    ap (λ (o : Option Reply). o ∷ loaded t (xs ++ a ∷ [])) head
    ∙ ap (λ (l : List (Option Reply)). Some z ∷ l) (push t xs a ys y tail e)

pub shown_more : (t : Plain) (addrs : List ℕ) (k d : ℕ) (ys : List Reply) (y : Reply) → k < length addrs → AreShown t (take k addrs) ys
    → access_reply t (get_or addrs k d) Load ≡ Some y → AreShown t (take (k + 1) addrs) (ys ++ y ∷ [])
shown_more t addrs k d ys y l h e = subst (λ (xs : List ℕ). AreShown t xs (ys ++ y ∷ [])) (sym (take_more addrs k d l)) (push t (take k addrs) (get_or addrs k d) ys y h e)

pub shown_all : (t : Plain) (addrs : List ℕ) (k : ℕ) (ys : List Reply) → length addrs ≤ k → AreShown t (take k addrs) ys → AreShown t addrs ys
shown_all t addrs k ys l h = subst (λ (xs : List ℕ). AreShown t xs ys) (take_all k addrs l) h
