-- what a releasing marker has left is the end of the opening of the paths that its reply names
use Rattle.std.proofs.Common.{◌≡◌, ℕ, List, sym, ◌∙◌, ap, subst, Option, Some}
use Rattle.{turns.specs.Script.run, xbar_equip.specs.{Len.Line, declared.path.Path.Path}, xbar_plan.specs.{Tables.{Tables, member_place}, Lawful.IsLawful}}
use Rattle.xbar_office.specs.{Legal.IsJob, declared.{job.Job.{Job, TheVariants.Release}, reply.{Card.Card, End.TheVariants.{NoCall, Released}, Reply.Reply}}}
use Rattle.xbar_jobs.specs.{Attempt.Attempt, Closing.{effects as effects_of, leave_effects, leave_of, refused, released}, Jobs.script, Releasing.release_steps}
use Rattle.xbar_jobs.{specs.declared.decision.Decision.Decision, proofs.ReleaseDecides.{ComesTo, HasNone, LetsGo, release_comes, released_effects}}
use Rattle.xbar_moves.{specs.{Exchange.Exchange, Links.OpensItsOwn}, proofs.TurnedJobs.{Decided, before}}

module _ (plan : Tables) (laws : IsLawful plan) (e : Exchange) (k : ℕ) (a : Attempt) (did : Decided plan e k a)
    (line : Line) (does : a.job ≡ Release line) (own : Path) (other : Option Path) (cards : List Card)
    (replied : a.reply ≡ Some (record { end = Released own other; cards = cards })) where
  abbrev decision : Decision
  decision = run did.words (script plan a.job)

  script_is : decision ≡ run did.words (release_steps plan line)
  unfolding script
  script_is = ap (λ (job : Job). run did.words (script plan job)) does

  -- the reply names what the decision does
  end_is : (seen : Decision) → decision ≡ seen → Released own other ≡ seen.reply.end
  end_is seen is =
      let both : Some (record { end = Released own other; cards = cards }) ≡ Some decision.reply = sym replied ∙ did.reply in
      let one : record { end = Released own other; cards = cards } ≡ decision.reply = cc in
      ap (λ (r : Reply). r.end) one ∙ ap (λ (d : Decision). d.reply.end) is

  by_decision : ComesTo plan (before plan e did.place) line decision → OpensItsOwn plan own other e.words a.effects
  by_decision (HasNone none is) = let end : Released own other ≡ NoCall = end_is (refused NoCall) is in absurd cc
  by_decision (LetsGo leave path is comes) =
      let end : Released own other ≡ Released leave.own leave.other = end_is (released leave) comes in
      let own_is : leave.own ≡ own = cc in
      let other_is : leave.other ≡ other = cc in
      let leave_same : leave ≡ leave_of leave.own leave.other is.found =
      λ i. record { group = is.group i; index = is.index i; own = leave.own; other = leave.other } in
      let named : leave_of leave.own leave.other is.found ≡ leave_of own other is.found = λ i. leave_of (own_is i) (other_is i) is.found in
      record {
        found = is.found;
        here = sym (ap (λ (p : Path). member_place plan p.place) own_is) ∙ is.here;
        made = did.made;
        left =
            ap leave_effects (sym named) ∙ ap leave_effects (sym leave_same) ∙ sym (released_effects leave) ∙ ap (λ (d : Decision). effects_of d) (sym comes)
            ∙ did.effects;
        due = did.due;
      }

  -- a release opens its own crosspoints
  pub opens_own : OpensItsOwn plan own other e.words a.effects
  opens_own =
      by_decision (subst (ComesTo plan (before plan e did.place) line) (sym script_is)
      (release_comes plan did.words (before plan e did.place) laws did.shows line (subst IsJob does did.job)))
