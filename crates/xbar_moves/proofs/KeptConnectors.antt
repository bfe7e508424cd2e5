-- an attempt keeps what it holds until it frees it
use Rattle.std.proofs.Common.{◌≢◌, List, [], ◌∷◌, ◌++◌, inl, inr, sym, ap, subst}
use Rattle.turns.specs.{Among.IsIn, Attempt.{act, act_in, change, changed, closing_act, free_act, giving_back, operated, rest_of, walks_on}}
use Rattle.turns.specs.declared.{act.Act.TheVariants.Free, answer.Answer.{Answer, TheVariants.{Asked, Seized, Held, Preferred, Again, Value, Turn, Done}}}
use Rattle.turns.specs.declared.phase.Phase.TheVariants.{Requests, Seizes, Tests, Turns, Withdraws, GivesBack, Operates}
use Rattle.{turns.proofs.{Lists.in_front, Sound.{freed_held, walks_held}}, xbar_equip.specs.declared.conn.Conn.Conn, xbar_plan.specs.Tables.Tables}
use Rattle.xbar_jobs.specs.{Attempt.{Attempt, Phase}, Office.office, declared.effect.Effect.Effect}

-- but for the one that it frees it keeps all
kept_freed : (conn : Conn) (held : List Conn) → IsIn conn held → free_act {Effect = Effect} held ≢ Free conn → IsIn conn (rest_of held)
kept_freed conn [] within other = absurd within
kept_freed conn (first ∷ held) (inl same) other = absurd (other (ap Free (sym same)))
kept_freed conn (first ∷ held) (inr later) other = later

kept_operated : (a : Attempt) (conn : Conn) (effects : List Effect) → IsIn conn a.held → closing_act effects a.held ≢ Free conn
    → IsIn conn (operated a effects).held
kept_operated a conn [] within other = kept_freed conn a.held within other
kept_operated a conn (effect ∷ effects) within other = within

module _ (plan : Tables) where
  kept_back : (a : Attempt) (conn : Conn) (held : List Conn) → IsIn conn held → IsIn conn (giving_back (office plan) a held).held
  kept_back a conn held within = subst (IsIn conn) (sym (freed_held (office plan) a held)) within

  kept_on : (a : Attempt) (conn : Conn) → IsIn conn a.held → IsIn conn (walks_on (office plan) a).held
  kept_on a conn within = subst (IsIn conn) (sym (walks_held (office plan) a)) within

  -- whatever the answer and the phase
  kept_in : (a : Attempt) (phase : Phase) (answer : Answer) (conn : Conn) → IsIn conn a.held → act_in phase a ≢ Free conn
      → IsIn conn (changed (office plan) a phase answer).held
  kept_in a (Requests asked) (Asked word) conn within other = within
  kept_in a (Requests asked) Seized conn within other =
      kept_on (record a { held = a.held ++ asked ∷ [] }) conn (in_front conn a.held (asked ∷ []) within)
  kept_in a (Requests asked) (Held holder) conn within other = within
  kept_in a (Requests asked) (Preferred marker) conn within other = within
  kept_in a (Seizes asked expected) Seized conn within other =
      kept_on (record a { held = a.held ++ asked ∷ [] }) conn (in_front conn a.held (asked ∷ []) within)
  kept_in a (Seizes asked expected) (Held holder) conn within other = within
  kept_in a (Seizes asked expected) (Preferred marker) conn within other = within
  kept_in a (Seizes asked expected) (Again word) conn within other = within
  kept_in a (Tests word) (Value value) conn within other =
      kept_on (record a { readings = a.readings ++ record { word = word; value = value } ∷ [] }) conn within
  kept_in a Turns (Turn number) conn within other = within
  kept_in a (Withdraws asked) Done conn within other = kept_back a conn a.held within
  kept_in a GivesBack Done conn within other = kept_back a conn (rest_of a.held) (kept_freed conn a.held within other)
  kept_in a (Operates turn) Done conn within other = kept_operated a conn a.effects within other
  kept_in a _ _ conn within other = within

  -- an attempt keeps a connector by any step that doesn't free it
  pub keeps_held : (a : Attempt) (answer : Answer) (conn : Conn) → IsIn conn a.held → act a ≢ Free conn → IsIn conn (change (office plan) a answer).held
  keeps_held a answer conn within other = kept_in a a.phase answer conn within other
