use Rattle.std.proofs.Common.{◌≡◌, sym, subst, ◌∙◌}
use Rattle.std.specs.Prelude.{None, Some}
use Rattle.coded.proofs.Holdings.{is_none_in}
use Rattle.radixvm_c.specs.declared.sharing.Closed.TheVariants as Comes
use Rattle.radixvm_c.specs.Seats.{ClosesChair, core_in, core_on}
use Rattle.radixvm_c.proofs.Refusing.{tells_back}
use Rattle.radixvm_c.proofs.sharing.unshare.Goals as goal

pub returns-in-Back : goal.returns-in-Back
returns-in-Back c =
    let none : c.args.handle.now.value ≡ None = is_none_in _ (sym c.is_open.ensures.value ∙ c.if-is_open.false) in
    let there : c.args.chair.now.value ≡ Some c.get_mut.result.now = sym c.has_seat.ensures.same ∙ c.get_mut.ensures.value in
    let left = core_on c.close_seat.new.chair in
    let closes : ClosesChair (core_on c.get_mut.result.now) (Comes.Back c.in-Back.machine) left =
    subst (λ x. ClosesChair (core_on c.get_mut.result.now) x left) c.in-Back.is c.close_seat.ensures in
    tells_back (core_in c.args.chair.now.value) _ (record { held = c.in-Back.machine }) left _ _ none
    (subst (λ x. ClosesChair (core_in x) (Comes.Back c.in-Back.machine) left) (sym there) closes)
    c.take-vacant.ensures.left c.put.ensures
