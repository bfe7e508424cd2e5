use Rattle.std.specs.Prelude.{ℕ, List, [], length, slice_get}
use Rattle.std.specs.Option.{option_map_or}
use Rattle.xbar_equip.specs.First.{next_below}
use Rattle.xbar_plan.specs.Tables.{Tables}
use Rattle.xbar_plan.specs.declared.group.Member.{Member}
use Rattle.xbar_office.specs.Trial.{end_of}
use Rattle.xbar_office.specs.TwoTrials.{cards_of, first_decides, second_decides}
use Rattle.xbar_office.specs.declared.reply.Card.{Card}
use Rattle.xbar_office.specs.declared.trial.TrialEnd.{TrialEnd}
use Rattle.xbar_office.specs.declared.trial.TrialEnd.TheVariants.{Chosen, Faulty, NoChannel}
use Rattle.xbar_office.specs.declared.trial.Trials.{Trials}
use Rattle.turns.specs.Script.{Ends, ◌>>=◌}
use Rattle.xbar_jobs.specs.Script.{Script}
use Rattle.xbar_jobs.specs.Sides.{Sides, join, reach, test_sides}
use Rattle.xbar_jobs.specs.Trunks.{Trunks, is_bit_clear}
use Rattle.xbar_jobs.specs.declared.party.CallParties.{CallParties}
use Rattle.xbar_jobs.specs.declared.trunks.Trunk.{Trunk}

-- how a trial on a member ends, by the words of its trunk switches and of the parties' line
-- junctor switches
abbrev pub trial_end : Tables → Sides → ℕ → Trunk → TrialEnd
trial_end plan sides start trunk = end_of plan (join sides start trunk)

-- the second trial reaches its member, starts at channel 5, and decides; the line junctor switches
-- are not tested again
unfoldable pub second_trial_steps : Tables → Sides → List Card → ℕ → Member → Script Trials
second_trial_steps plan sides cards index member = do
  trunk ← reach member
  Ends (second_decides cards index (trial_end plan sides 5 trunk))

-- the second trial on the member of this index
unfoldable pub second_trial_at : Tables → Sides → Trunks → List Card → ℕ → Script Trials
second_trial_at plan sides trunks cards index =
    option_map_or (second_trial_steps plan sides cards index) (slice_get trunks.members index)
    (Ends (second_decides cards index NoChannel))

-- the next idle member after this one, by the group's word, or this one again if none follows
abbrev pub next_clear : Trunks → ℕ → ℕ
next_clear trunks index = next_below (is_bit_clear trunks.word) (length trunks.members) index

-- after the first trial: if it failed, a second one is made on the line junctor switches that the
-- first one has read
unfoldable pub after_first_trial : Tables → Sides → Trunks → ℕ → TrialEnd → Script Trials
after_first_trial plan sides trunks first (Chosen call) =
    Ends (first_decides first (Chosen call) first NoChannel)
after_first_trial plan sides trunks first (Faulty link) =
    second_trial_at plan sides trunks (cards_of 1 (Faulty link)) (next_clear trunks first)
after_first_trial plan sides trunks first NoChannel =
    second_trial_at plan sides trunks [] (next_clear trunks first)

-- the first trial reaches its member, tests the line junctor switches of the parties' frames, and
-- starts at channel 0
unfoldable pub first_trial_steps : Tables → CallParties → Trunks → ℕ → Member → Script Trials
first_trial_steps plan parties trunks first member = do
  trunk ← reach member
  sides ← test_sides parties
  after_first_trial plan sides trunks first (trial_end plan sides 0 trunk)

-- up to two trials on a group's members: on this one, which is idle, and on the next idle one
unfoldable pub two_trials_steps : Tables → CallParties → Trunks → ℕ → Script Trials
two_trials_steps plan parties trunks first =
    option_map_or (first_trial_steps plan parties trunks first) (slice_get trunks.members first)
    (Ends (second_decides [] first NoChannel))
