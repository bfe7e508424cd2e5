use Rattle.std.specs.Prelude.{◌≡◌, ℕ, suc, ◌<◌, ◌⊎◌, Option, Some, List, [], ◌∷◌, ◌++◌, slice_get, take}
use Rattle.turns.specs.Among.{IsIn}
use Rattle.turns.specs.System.{AreDue}
use Rattle.turns.specs.declared.phase.Phase.TheVariants.{Operates}
use Rattle.xbar_equip.specs.Crosspoint.{crosspoint_at, crosspoints}
use Rattle.xbar_equip.specs.Link.{Link}
use Rattle.xbar_equip.specs.Path.{IsPath, line_link, junctor, trunk_link}
use Rattle.xbar_equip.specs.Word.{LineSwitch, LineJunctor, TrunkJunctor, TrunkSwitch}
use Rattle.xbar_equip.specs.declared.crosspoint.Crosspoint.{Crosspoint}
use Rattle.xbar_equip.specs.declared.path.Path.{Path}
use Rattle.xbar_match.specs.Switches.{held_at}
use Rattle.xbar_plan.specs.Tables.{Tables, member_place}
use Rattle.xbar_plan.specs.declared.group.MemberPlace.{MemberPlace}
use Rattle.xbar_office.specs.Legal.{after}
use Rattle.xbar_office.specs.declared.reply.Record.{Record}
use Rattle.xbar_jobs.specs.Attempt.{Attempt}
use Rattle.xbar_jobs.specs.Closing.{leave_effects, leave_of}
use Rattle.xbar_jobs.specs.Office.{office}
use Rattle.xbar_jobs.specs.declared.effect.Effect.{Effect}
use Rattle.xbar_jobs.specs.declared.effect.Effect.TheVariants.{Open}
use Rattle.xbar_moves.specs.Exchange.{Exchange}
use Rattle.xbar_moves.specs.Holding.{IsAt}

-- a crosspoint with a link that it joins
pub record Joint : Type 0 where
  pub crosspoint : Crosspoint
  pub link : Link

-- what the four crosspoints of a path join: the line to the line link, that to the junctor, that
-- to the trunk link, and that to the place
abbrev pub joints : Path → List Joint
joints path =
    let line = crosspoint_at
    (LineSwitch path.line.frame path.line.switch) path.channel path.line.x in
    let line_side = crosspoint_at
    (LineJunctor path.line.frame path.channel) path.place.frame path.line.switch in
    let trunk_side = crosspoint_at
    (TrunkJunctor path.place.frame path.channel) path.line.frame path.place.switch in
    let place = crosspoint_at
    (TrunkSwitch path.place.frame path.place.switch) path.channel path.place.appearance in
    record { crosspoint = line; link = line_link path } ∷
    record { crosspoint = line_side; link = line_link path } ∷
    record { crosspoint = line_side; link = junctor path } ∷
    record { crosspoint = trunk_side; link = junctor path } ∷
    record { crosspoint = trunk_side; link = trunk_link path } ∷
    record { crosspoint = place; link = trunk_link path } ∷ []

-- a crosspoint is at a link: it joins the link in some path
pub record IsAtLink (link : Link) (c : Crosspoint) : Type 0 where
  pub path : Path
  pub range : IsPath path
  pub joins : IsIn (record { crosspoint = c; link = link }) (joints path)

-- a crosspoint is closed: its field, one of a switch's ten, isn't 0
pub record IsClosed (words : List ℕ) (c : Crosspoint) : Type 0 where
  pub word : c.word < 400
  pub field : c.field < 10
  pub closed : 0 < c.value
  pub held : held_at words c.word c.field ≡ c.value

-- marker k is past its turn; the record at this index is its job's, with its turn, marker, number,
-- job and reply
pub record IsPastTurn (e : Exchange) (k place : ℕ) (a : Attempt) : Type 0 where
  pub number : ℕ
  pub at : IsAt e k number a
  pub turn : ℕ
  pub past : a.phase ≡ Operates turn
  pub recorded : Record
  pub at_place : slice_get e.records place ≡ Some recorded
  pub turn_is : recorded.turn ≡ turn
  pub marker : recorded.marker ≡ k
  pub number_is : recorded.job_no ≡ number
  pub job : recorded.job ≡ a.job
  pub reply : a.reply ≡ Some recorded.reply

-- a marker past its turn takes a path out, which was in the set before its record and is not after
-- it, and still has this crosspoint of the path to open
pub record HasToOpen (plan : Tables) (e : Exchange) (path : Path) (c : Crosspoint) : Type 0 where
  pub k : ℕ
  pub place : ℕ
  pub attempt : Attempt
  pub past : IsPastTurn e k place attempt
  pub before : IsIn path (after plan (take place e.records))
  pub gone : ¬ IsIn path (after plan (take (suc place) e.records))
  pub left : IsIn (Open c) attempt.effects

-- a crosspoint belongs to a path that has it: one of the set after all records, or one that is
-- taken out and has yet to be opened there
pub record BelongsTo (plan : Tables) (e : Exchange) (path : Path) (c : Crosspoint) : Type 0 where
  pub has : IsIn c (crosspoints path)
  pub why : IsIn path (after plan e.records) ⊎ HasToOpen plan e path c

-- the effects that a marker past its turn has left are the last ones of a release of these paths,
-- which opens them crosspoint by crosspoint and then clears the member's bit; each crosspoint is
-- closed, and the bit set, until its effect is made
pub record OpensItsOwn (plan : Tables) (own : Path) (other : Option Path)
    (words : List ℕ) (effects : List Effect) : Type 0 where
  pub found : MemberPlace
  pub here : member_place plan own.place ≡ Some found
  pub made : List Effect
  pub left : leave_effects (leave_of own other found) ≡ made ++ effects
  pub due : AreDue (office plan) words effects
