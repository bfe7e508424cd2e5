use Rattle.std.specs.Prelude.{◌≡◌, ℕ, ◌<◌, not, Bool, false, Some, List, [], replicate, if◌then◌else◌}
use Rattle.std.specs.Int.{bit_at}
use Rattle.std.specs.Option.{option_map_or}
use Rattle.xbar_equip.specs.Conn.{IsConn, conn_eq}
use Rattle.xbar_equip.specs.Word.{Word, IsWord, ConnWord, GroupWord, TurnWord, word_count, word_number, protector}
use Rattle.xbar_equip.specs.declared.conn.Conn.{Conn}
use Rattle.xbar_equip.specs.declared.path.Path.{Path}
use Rattle.xbar_plan.specs.Tables.{Tables, member_at}
use Rattle.xbar_match.specs.Shows.{ShowsPaths}
use Rattle.xbar_match.specs.Switches.{word_of}
use Rattle.xbar_office.specs.LawfulSet.{IsLawfulSet}
use Rattle.xbar_office.specs.Legal.{IsJob}
use Rattle.xbar_office.specs.Members.{is_member_idle}
use Rattle.xbar_office.specs.Whole.{whole}
use Rattle.xbar_office.specs.declared.job.Job.{Job}
use Rattle.xbar_office.specs.declared.reply.Reply.{Reply}
use Rattle.turns.specs.Sharings.{preferring}
use Rattle.turns.specs.System.{System, SystemOver, system_of}
use Rattle.turns.specs.declared.clock.Clock.TheVariants.{Counted}
use Rattle.xbar_jobs.specs.Closing.{IsDue, effects as effects_of, effect_word, operation_of}
use Rattle.xbar_jobs.specs.Jobs.{first_conn, script}
use Rattle.xbar_jobs.specs.declared.decision.Decision.{Decision}
use Rattle.xbar_jobs.specs.declared.effect.Effect.{Effect}

-- whether a group has a member of this number that is not idle
abbrev pub is_busy_at : Tables → List Path → ℕ → ℕ → Bool
is_busy_at plan paths number index =
    option_map_or (λ member. not (is_member_idle paths member)) (member_at plan number index) false

-- a group's word has a bit set for each member that is not idle, and no other bit
abbrev pub GroupShows : Tables → List Path → ℕ → ℕ → Type 0
GroupShows plan paths number word =
    (index : ℕ) → bit_at word index ≡ (if is_busy_at plan paths number index then 1 else 0)

-- the 416 protected words show a lawful set of paths: the switches its crosspoints, the
-- groups' words its busy members
pub record ShowsOffice (plan : Tables) (words : List ℕ) (paths : List Path) : Type 0 where
  pub lawful : IsLawfulSet plan paths
  pub switches : ShowsPaths words paths
  pub groups : (number : ℕ) → number < 16
      → GroupShows plan paths number (word_of words (GroupWord number))

-- the connector protects the word of this number
pub record Protects (conn : Conn) (number : ℕ) : Type 0 where
  pub word : Word
  pub there : IsWord word
  pub named : word_number word ≡ number
  pub protects : protector word ≡ Some conn

-- the office under a plan: its jobs whole and step by step, and its words
abbrev pub office_over : Tables → SystemOver Conn Job Reply Effect
office_over plan = record {
  IsJob = IsJob;
  State = List Path;
  whole = λ paths job. record {
    state = (whole plan paths job).paths;
    reply = (whole plan paths job).reply;
  };
  opening = [];
  initial = replicate word_count 0;
  IsLock = IsConn;
  same = conn_eq;
  Decision = Decision;
  first = first_conn;
  script = script plan;
  reply_of = λ decision. decision.reply;
  effects_of = effects_of;
  effect_word = effect_word;
  operation_of = operation_of;
  Due = IsDue;
  size = word_count;
  Protects = Protects;
  lock_word = λ conn. word_number (ConnWord conn);
  sharing = preferring;
  turn_word = word_number TurnWord;
  clock = Counted;
  Shows = ShowsOffice plan;
}

-- the office under a plan, as a system of jobs over shared words
abbrev pub office : Tables → System
office plan = system_of (office_over plan)
