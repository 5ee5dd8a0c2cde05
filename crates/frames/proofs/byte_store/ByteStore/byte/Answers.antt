use Rattle.std.proofs.Common.{sym, ◌∙◌, ap, rules}
use Rattle.frames.proofs.Stored.{stored-held, stored-empty}
use Rattle.frames.proofs.byte_store.ByteStore.byte.Goals as goal

pub byte-requires-clause-page : goal.byte-requires-clause-page
byte-requires-clause-page g c =
    let less = c.self.invariant.below c.args.frame c.in-Some.at (sym c.place_of-place.ensures ∙ c.in-Some.is) in
    search rules

pub returns-in-Some : goal.returns-in-Some
returns-in-Some g c =
    c.byte.ensures
    ∙ ap (λ b. b c.args.offset) (sym (stored-held c.args.frame c.in-Some.at c.self.view_is (sym c.place_of-place.ensures ∙ c.in-Some.is)))

pub returns-in-None : goal.returns-in-None
returns-in-None g c =
    ap (λ b. b c.args.offset) (sym (stored-empty c.args.frame c.self.view_is (sym c.place_of-place.ensures ∙ c.in-None.is)))
