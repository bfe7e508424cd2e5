use Rattle.std.specs.Prelude.{Option, Some, None, List, [], ◌∷◌}
use Rattle.xbar_office.specs.declared.aim.Aim.{Aim}
use Rattle.xbar_office.specs.declared.aim.Aim.TheVariants as aim
use Rattle.xbar_office.specs.declared.reply.Card.{Card}
use Rattle.xbar_office.specs.declared.reply.End.{End}
use Rattle.xbar_office.specs.declared.reply.End.TheVariants.{DialTone, Connected, NoPath, Trouble}
use Rattle.xbar_office.specs.declared.reply.Reply.{Reply}
use Rattle.xbar_office.specs.declared.trial.Choice.{Choice}
use Rattle.xbar_office.specs.declared.trial.Trials.{Trials}

-- a reply without cards
abbrev pub plain_reply : End → Reply
plain_reply end = record { end = end; cards = [] }

-- the end if a trial chose paths
abbrev pub success_end : Aim → Choice → End
success_end aim.DialTone choice = DialTone choice.paths.calling choice.trial
success_end aim.Connected choice = Connected choice.paths.calling choice.paths.called choice.trial

-- the end if both trials failed: trouble if one of them gave a card
abbrev pub failed_end : List Card → End
failed_end [] = NoPath
failed_end (card ∷ cards) = Trouble

-- the end, from the outcome of the trials
abbrev pub trials_end : Aim → Option Choice → List Card → End
trials_end aim None cards = failed_end cards
trials_end aim (Some choice) cards = success_end aim choice

-- the reply to a job that made trials
abbrev pub trials_reply : Aim → Trials → Reply
trials_reply aim trials =
    record { end = trials_end aim trials.choice trials.cards; cards = trials.cards }
