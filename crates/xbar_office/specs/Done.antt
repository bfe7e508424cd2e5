use Rattle.std.specs.Prelude.{Option, Some, None, List, option_map}
use Rattle.xbar_equip.specs.Paths.{with_path}
use Rattle.xbar_equip.specs.declared.path.Path.{Path}
use Rattle.xbar_office.specs.Chosen.{with_chosen}
use Rattle.xbar_office.specs.Replies.{plain_reply, trials_reply}
use Rattle.xbar_office.specs.declared.aim.Aim.{Aim}
use Rattle.xbar_office.specs.declared.reply.End.{End}
use Rattle.xbar_office.specs.declared.reply.Reply.{Reply}
use Rattle.xbar_office.specs.declared.trial.CallPaths.{CallPaths}
use Rattle.xbar_office.specs.declared.trial.Choice.{Choice}
use Rattle.xbar_office.specs.declared.trial.Trials.{Trials}

-- the outcome of a job: the set of paths after it, and its reply
pub record Done : Type 0 where
  pub paths : List Path
  pub reply : Reply

-- a job that makes no trial leaves the set as it is
abbrev pub refused : List Path → End → Done
refused paths end = record { paths = paths; reply = plain_reply end }

-- the set with the paths of a call added
abbrev pub with_call_paths : List Path → CallPaths → List Path
with_call_paths paths call = with_chosen (with_path paths call.calling) call.called

-- the set with the paths of a call added, if there is one
abbrev pub with_added : List Path → Option CallPaths → List Path
with_added paths None = paths
with_added paths (Some call) = with_call_paths paths call

-- the paths that trials chose, if any
abbrev pub chosen_paths : Option Choice → Option CallPaths
chosen_paths choice = option_map (λ c. c.paths) choice

-- a job that makes trials adds to the set what they chose
abbrev pub tried : Aim → List Path → Trials → Done
tried aim paths trials = record {
  paths = with_added paths (chosen_paths trials.choice);
  reply = trials_reply aim trials;
}
