use Rattle.std.proofs.Common.{◌≡◌, sym, ◌∙◌, subst, inl, inr, false, refl}
use Rattle.{xbar_moves.specs.Exchange.is_idle, xbar_fabric.specs.Views.DeskView}
use Rattle.xbar_markers.{specs.{Handing.{IsAtHand, IsLeft, IsTakenOver}, declared.handing.Handed.TheVariants.Finished}, proofs.HandedJobs.taken_over}
use Rattle.xbar_markers.proofs.handing.go_on.Goals.{in-GiveBack+else-gives_back, in_default-then}
use Rattle.xbar_markers.proofs.handing.go_on.Goals as goal

pub returns-in-Some : goal.returns-in-Some
returns-in-Some g c = λ before number stop job hand.
    inl (record {
      r = c.in-Some.record;
      handed_is = refl;
      ended = subst (IsAtHand before number job stop c.args.desk) c.in-Some.is hand;
    })

pub returns-then-gives_back : goal.returns-then-gives_back
returns-then-gives_back g c = λ before number stop job hand.
    let left = subst (IsAtHand before number job stop c.args.desk) c.in_default.is hand in
    let gave = c.gives_back.ensures in
    inr (c.args.desk, left, (c.in-GiveBack.is, gave.gave c.if-gives_back.true, gave.given c.if-gives_back.true before number job left.doing))

pub bring_to_end-record-requires-clause-busy : goal.bring_to_end-record-requires-clause-busy
bring_to_end-record-requires-clause-busy g c =
    let busy = c.requires.busy c.in_default.is in
    elim c.match-then.branch [
      | in-GiveBack+else-gives_back w ↦ subst (λ (d : DeskView). is_idle d.work ≡ false)
          (sym (w.desk-is ∙ w.gives_back.ensures.kept w.if-gives_back.false)) busy
      | in_default-then w ↦ subst (λ (d : DeskView). is_idle d.work ≡ false) (sym w.desk-is) busy
    ]

pub returns : goal.returns
returns g c = λ before number stop job hand.
    let left : IsLeft before number job stop c.args.desk = subst (IsAtHand before number job stop c.args.desk) c.in_default.is hand in
    let ended = c.bring_to_end-record.ensures in
    let after = c.bring_to_end-record.new.desk in
    let r = c.bring_to_end-record.result in
    let over : IsTakenOver before number job c.args.then c.args.desk c.bring_to_end-record.new.desk (Finished c.bring_to_end-record.result) =
    elim c.match-then.branch [
      | in-GiveBack+else-gives_back w ↦
          let same = w.desk-is ∙ w.gives_back.ensures.kept w.if-gives_back.false in
          taken_over before number job c.args.then c.args.desk c.match-then.desk after r same (λ _. w.gives_back.ensures.not w.if-gives_back.false) left.doing
          ended.done ended.made
      | in_default-then w ↦ taken_over before number job c.args.then c.args.desk c.match-then.desk after r w.desk-is
          (λ gives. absurd (w.in_default-then.not-GiveBack gives)) left.doing ended.done ended.made
    ] in
    inr (c.args.desk, left, over)
