use Rattle.std.proofs.Common.{ap, ◌∙◌}
use Rattle.attempts.{specs.Validity.attempt_of, proofs.{Walking.known_counted, Onward.{stands_back, stands_counted}, Applied.counted_so}}
use Rattle.attempts.proofs.starting.restart.Goals as goal

pub count_beginning-requires : goal.count_beginning-requires
count_beginning-requires g c = search

pub returns-clause-restarts : goal.returns-clause-restarts
returns-clause-restarts g c =
    λ setting. ap (attempt_of g.S.Scripts.reply_of g.S.Scripts.effects_of) c.count_beginning.ensures ∙ c.restart_uncounted.ensures.restarts setting

pub returns-clause-count : goal.returns-clause-count
returns-clause-count g c =
    counted_so c.restart_uncounted.new.attempt c.count_beginning.new.self c.args.attempt.now.count (λ n. n) c.count_beginning.ensures
    c.restart_uncounted.ensures.count

pub returns-clause-point : goal.returns-clause-point
returns-clause-point g c =
    λ setting known. known_counted g.S.Scripts.reply_of g.S.Scripts.effects_of (g.S.Scripts.ResumePointIsValid setting) c.restart_uncounted.new.attempt _ _
    c.count_beginning.ensures (c.restart_uncounted.ensures.point setting known)

pub returns-clause-valid : goal.returns-clause-valid
returns-clause-valid g c =
    λ setting right valid. stands_counted g.S.Lock.PartialEq.eq g.S.Scripts.reply_of g.S.Scripts.effects_of (g.S.Scripts.system setting)
    (g.S.Scripts.ResumePointIsValid setting) _ _ right c.restart_uncounted.new.attempt _ _
    (stands_back g.S.Lock.PartialEq.eq g.S.Scripts.reply_of g.S.Scripts.effects_of (g.S.Scripts.system setting) (g.S.Scripts.ResumePointIsValid setting) _ _
    right c.args.attempt.now c.restart_uncounted.new.attempt valid (c.restart_uncounted.ensures.restarts setting)
    (c.restart_uncounted.ensures.point setting valid.point)) c.count_beginning.ensures

pub restart_uncounted-requires : goal.restart_uncounted-requires
restart_uncounted-requires g c = search
