use Rattle.std.specs.Prelude.{ℕ, Some, None, List, [], ◌∷◌, ◌++◌, slice_get}
use Rattle.std.specs.Option.{option_map_or}
use Rattle.xbar_equip.specs.declared.path.Path.{Path}
use Rattle.xbar_plan.specs.Tables.{Tables}
use Rattle.xbar_plan.specs.declared.group.Member.{Member}
use Rattle.xbar_office.specs.Members.{next_idle}
use Rattle.xbar_office.specs.Trial.{trial}
use Rattle.xbar_office.specs.declared.reply.Card.{Card}
use Rattle.xbar_office.specs.declared.trial.Parties.{Parties}
use Rattle.xbar_office.specs.declared.trial.TrialEnd.{TrialEnd}
use Rattle.xbar_office.specs.declared.trial.TrialEnd.TheVariants.{Chosen, Faulty, NoChannel}
use Rattle.xbar_office.specs.declared.trial.Trials.{Trials}

-- the card of a trial, if it was faulty
abbrev pub cards_of : ℕ → TrialEnd → List Card
cards_of number (Chosen call) = []
cards_of number (Faulty link) = record { trial = number; link = link } ∷ []
cards_of number NoChannel = []

-- the outcome if the first trial failed with these cards: the second decides, and its card is
-- added
abbrev pub second_decides : List Card → ℕ → TrialEnd → Trials
second_decides cards index (Chosen call) =
    record { choice = Some (record { trial = 2; index = index; paths = call }); cards = cards }
second_decides cards index (Faulty link) =
    record { choice = None; cards = cards ++ cards_of 2 (Faulty link) }
second_decides cards index NoChannel = record { choice = None; cards = cards }

-- the outcome of two trials: the first decides if it succeeds, else the second does
abbrev pub first_decides : ℕ → TrialEnd → ℕ → TrialEnd → Trials
first_decides index (Chosen call) next end =
    record { choice = Some (record { trial = 1; index = index; paths = call }); cards = [] }
first_decides index (Faulty link) next end = second_decides (cards_of 1 (Faulty link)) next end
first_decides index NoChannel next end = second_decides [] next end

-- a trial on the member at this index
abbrev pub trial_at : Tables → List Path → ℕ → Parties → List Member → ℕ → TrialEnd
trial_at plan paths start parties members index =
    option_map_or (trial plan paths start parties) (slice_get members index) NoChannel

-- two trials: on a member with start 0, and on the next idle one with start 5
abbrev pub two_trials : Tables → List Path → Parties → List Member → ℕ → Trials
two_trials plan paths parties members first =
    first_decides first (trial_at plan paths 0 parties members first) next
    (trial_at plan paths 5 parties members next) where
      next : ℕ
      next = next_idle paths members first
