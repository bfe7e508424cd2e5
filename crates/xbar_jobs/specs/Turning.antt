use Rattle.std.specs.Prelude.{◌≡◌, ℕ, ◌<◌, Some, List, length}
use Rattle.turns.specs.Seen.{AreReadFrom}
use Rattle.turns.specs.System.{AreDue, AreUnder, perform_all}
use Rattle.xbar_equip.specs.Conn.{IsConn}
use Rattle.xbar_equip.specs.Word.{word_count}
use Rattle.xbar_equip.specs.declared.path.Path.{Path}
use Rattle.xbar_plan.specs.Tables.{Tables}
use Rattle.xbar_office.specs.Whole.{whole}
use Rattle.turns.specs.declared.act.Act.TheVariants as act_is
use Rattle.xbar_jobs.specs.Attempt.{Act, Attempt}
use Rattle.xbar_jobs.specs.Keeping.{IsEffect}
use Rattle.xbar_jobs.specs.Office.{ShowsOffice, office}
use Rattle.xbar_jobs.specs.declared.program.Step.{Step}
use Rattle.xbar_jobs.specs.declared.program.Step.TheVariants.{Request, Seize, Withdraw, Test, Turn, Close, Open, Free, Finished}

-- on words that show these paths, the attempt does what the one-marker office does: its reply is
-- that office's, and the effects that it has left lead to words that show that office's paths;
-- each is due when it is made, on a word under a connector that is held
pub record DoesAsWhole (plan : Tables) (words : List ℕ) (paths : List Path) (a : Attempt)
    : Type 0 where
  pub reply : a.reply ≡ Some (whole plan paths a.job).reply
  pub shows : ShowsOffice plan (perform_all (office plan) words a.effects)
      (whole plan paths a.job).paths
  pub due : AreDue (office plan) words a.effects
  pub under : AreUnder (office plan) a.held a.effects

-- on any words that show a set of paths and agree with its readings, the attempt does what the
-- one-marker office does
abbrev pub DoesAsOffice : Tables → Attempt → Type 0
DoesAsOffice plan a =
    (words : List ℕ) (paths : List Path) → length words ≡ word_count → ShowsOffice plan words paths
    → AreReadFrom words a.readings → DoesAsWhole plan words paths a

-- a step's connector or word is one of the office's
abbrev pub IsStep : Step → Type 0
IsStep (Request conn) = IsConn conn
IsStep (Seize conn expected) = IsConn conn
IsStep (Withdraw conn) = IsConn conn
IsStep (Test word) = word < word_count
IsStep Turn = Unit {0}
IsStep (Close word bits) = word < word_count
IsStep (Open word mask) = word < word_count
IsStep (Free conn) = IsConn conn
IsStep Finished = Unit {0}

-- an act's connector, word or effect is one of the office's
abbrev pub IsAct : Act → Type 0
IsAct act_is.Finished = Unit {0}
IsAct (act_is.Request conn) = IsConn conn
IsAct (act_is.Seize conn expected) = IsConn conn
IsAct (act_is.Withdraw conn) = IsConn conn
IsAct (act_is.Free conn) = IsConn conn
IsAct (act_is.Test word) = word < word_count
IsAct act_is.Turn = Unit {0}
IsAct (act_is.Make effect) = IsEffect effect
