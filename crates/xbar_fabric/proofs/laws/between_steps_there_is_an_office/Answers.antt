use Rattle.std.proofs.Common.{ℕ, List, refl, sym, subst, ◌∙◌}
use Rattle.{turns.specs.World.World, xbar_jobs.specs.Office.office, xbar_moves.specs.{Links.{IsClosed, OpensItsOwn}, declared.kinds.Kind.TheVariants.Combined}}
use Rattle.xbar_fabric.proofs.Offices.{is_lawful, length-made, office_of}
use Rattle.xbar_fabric.proofs.laws.between_steps_there_is_an_office.Goals as goal

pub returns-clause-office : goal.returns-clause-office
returns-clause-office c plan count words known kept =
    let w : World (office plan) = record { words = words; actors = kept.actors; order = kept.order } in (
      office_of plan Combined w,
      record { lawful = is_lawful plan Combined w kept.lawful; words_are = refl; count_is = length-made plan Combined kept.actors ∙ kept.all },
    )

pub returns-clause-belongs : goal.returns-clause-belongs
returns-clause-belongs c plan count words e cp laws on closed =
    c.no_link_carries_two_calls.ensures.belongs plan e cp laws on.lawful (subst (λ (l : List ℕ). IsClosed l cp) (sym on.words_are) closed)

pub returns-clause-one_call : goal.returns-clause-one_call
returns-clause-one_call c plan count words e link cp laws on closed at =
    let one = c.no_link_carries_two_calls.ensures.one plan e link cp laws on.lawful (subst (λ (l : List ℕ). IsClosed l cp) (sym on.words_are) closed) at in
    (one.0, λ d is at_link. one.1 d (subst (λ (l : List ℕ). IsClosed l d) (sym on.words_are) is) at_link)

pub returns-clause-release : goal.returns-clause-release
returns-clause-release c plan count words e k number turn a line own other cards laws on at past job reply =
    subst (λ (l : List ℕ). OpensItsOwn plan own other l a.effects) on.words_are
    (c.a_release_opens_its_own_crosspoints.ensures.left plan e k number turn a line own other cards laws on.lawful at past job reply)
