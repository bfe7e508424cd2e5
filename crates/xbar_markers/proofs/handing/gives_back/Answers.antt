use Rattle.std.proofs.Common.{◌≡◌, ◌≢◌, ◌⊎◌, inl, inr, sym, ◌∙◌}
use Rattle.{xbar_moves.specs.declared.event.Given.TheVariants.{Given, Idle, PastTurn}, xbar_markers.proofs.HandedJobs.has_given}
use Rattle.xbar_moves.specs.declared.event.Given as declared
use Rattle.xbar_markers.proofs.handing.gives_back.Goals as goal

-- a desk that is past its turn, or idle, gives nothing back
not_given : (given : declared.Given) → (given ≡ PastTurn) ⊎ (given ≡ Idle) → given ≢ Given
not_given _ (inl past) gives = let no = sym past ∙ gives in cc
not_given _ (inr idle) gives = let no = sym idle ∙ gives in cc

pub returns-in-Given-clause-given : goal.returns-in-Given-clause-given
returns-in-Given-clause-given c = λ _ before number job doing.
    let gave = c.give_back.ensures in
    let back = gave.back c.in-Given.is in
    let gives = sym gave.given ∙ c.in-Given.is in
    has_given number job before c.args.desk.now c.give_back.new.self doing gave.same gives back
    (c.desks_report_their_records.ensures.given_back c.args.desk.now c.give_back.new.self gives back)

pub returns-in-Given-clause-gave : goal.returns-in-Given-clause-gave
returns-in-Given-clause-gave c = λ _. sym c.give_back.ensures.given ∙ c.in-Given.is

pub returns-in-PastTurn-clause-not : goal.returns-in-PastTurn-clause-not
returns-in-PastTurn-clause-not c = λ _ gives. not_given c.give_back.result c.in-PastTurn.is (c.give_back.ensures.given ∙ gives)

pub returns-in-PastTurn-clause-kept : goal.returns-in-PastTurn-clause-kept
returns-in-PastTurn-clause-kept c = λ _. c.give_back.ensures.kept (not_given c.give_back.result c.in-PastTurn.is)
