use Rattle.std.proofs.Common.{◌≡◌, ◌<◌, None, Some, true, false, arith, rules, sym, ap, ◌∙◌}
use Rattle.import_forms.specs.Tokens.{front_token}
use Rattle.word_import.specs.Times.{goes_before, moment_named, moment_within}
use Rattle.word_import.proofs.TimeLemmas.{moment_here, moment_later, moment_none, moments_end}
use Rattle.word_import.proofs.times.moment_of.Goals as goal

pub returns-in_err-token : goal.returns-in_err-token
returns-in_err-token c =
    let none : front_token c.tokens.rest.now ≡ None = search rules in
    let result : c.from_residual.result ≡ None = search rules in
    result ∙ (sym (moments_end c.tokens.more c.tokens.rest.now none) ∙ c.tokens.invariant)

pub returns-in-Some : goal.returns-in-Some
returns-in-Some c =
    let here : front_token c.tokens.rest.now ≡ Some (c.in_ok-token.token.now, c.in_ok-token.behind.now) = search rules in
    let some : moment_named c.in_ok-token.token.now ≡ Some c.in-Some.moment = search rules in
    let more : 0 < c.tokens.more = omega (arith, c.tokens-test.true) in
    sym (moment_here c.tokens.more c.tokens.rest.now (c.in_ok-token.token.now, c.in_ok-token.behind.now) c.in-Some.moment more here some) ∙ c.tokens.invariant

pub returns-then-not-goes_before : goal.returns-then-not-goes_before
returns-then-not-goes_before c =
    let here : front_token c.tokens.rest.now ≡ Some (c.in_ok-token.token.now, c.in_ok-token.behind.now) = search rules in
    let none : moment_named c.in_ok-token.token.now ≡ None = search rules in
    let not : goes_before c.in_ok-token.token.now ≡ false = search rules in
    let more : 0 < c.tokens.more = omega (arith, c.tokens-test.true) in
    sym (moment_none c.tokens.more c.tokens.rest.now (c.in_ok-token.token.now, c.in_ok-token.behind.now) more here none not) ∙ c.tokens.invariant

pub tokens-preserved : goal.tokens-preserved
tokens-preserved c =
    let here : front_token c.tokens.rest.now ≡ Some (c.in_ok-token.token.now, c.in_ok-token.behind.now) = search rules in
    let none : moment_named c.in_ok-token.token.now ≡ None = search rules in
    let goes : goes_before c.in_ok-token.token.now ≡ true = search rules in
    let more : 0 < c.tokens.more = omega (arith, c.tokens-test.true) in
    moment_later c.tokens.more c.tokens.rest.now (c.in_ok-token.token.now, c.in_ok-token.behind.now) more here none goes ∙ c.tokens.invariant

pub returns : goal.returns
returns c =
    let zero : c.tokens.more ≡ 0 = omega (arith, c.tokens-test.false) in
    ap (λ n. moment_within n c.tokens.rest.now) (sym zero) ∙ c.tokens.invariant
