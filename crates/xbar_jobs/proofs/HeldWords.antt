-- what the connectors that are held protect, and what stays held while a script is gone through
use Rattle.std.proofs.Common.{ℕ, ◌<◌, List, [], ◌∷◌, ◌++◌, refl}
use Rattle.turns.specs.{Among.IsIn, Script.{Ends, TestThen, SeizeThen, ◌>>=◌}, System.{IsUnder, KeepsTo}}
use Rattle.turns.proofs.{Keeping.{AreAmong, keeps_bind, keeps_map}, Lists.in_front}
use Rattle.xbar_equip.specs.{Word.{word_number, LineSwitch, LineJunctor, TrunkSwitch, TrunkJunctor, GroupWord}, declared.conn.Conn.Conn}
use Rattle.{xbar_equip.specs.declared.conn.Conn.TheVariants.{Llf, Tlf, Group}, xbar_plan.specs.Tables.Tables, xbar_jobs.specs.{Office.office, Script.Script}}

-- what is held stays held when one connector more is
pub one_more : (held : List Conn) (conn : Conn) → AreAmong held (held ++ conn ∷ [])
one_more held conn = λ own within. in_front own held (conn ∷ []) within

module _ (plan : Tables) where
  -- a frame's connector protects its switches and its junctor switches
  pub line_switch_under : (held : List Conn) (frame switch : ℕ) → IsIn (Llf frame) held → frame < 10 → switch < 10
      → IsUnder (office plan) held (word_number (LineSwitch frame switch))
  line_switch_under held frame switch own a b =
      record { lock = Llf frame; protects = record { word = LineSwitch frame switch; there = (a, b); named = refl; protects = refl }; held = own }

  pub line_junctor_under : (held : List Conn) (frame channel : ℕ) → IsIn (Llf frame) held → frame < 10 → channel < 10
      → IsUnder (office plan) held (word_number (LineJunctor frame channel))
  line_junctor_under held frame channel own a b =
      record { lock = Llf frame; protects = record { word = LineJunctor frame channel; there = (a, b); named = refl; protects = refl }; held = own }

  pub trunk_switch_under : (held : List Conn) (frame switch : ℕ) → IsIn (Tlf frame) held → frame < 10 → switch < 10
      → IsUnder (office plan) held (word_number (TrunkSwitch frame switch))
  trunk_switch_under held frame switch own a b =
      record { lock = Tlf frame; protects = record { word = TrunkSwitch frame switch; there = (a, b); named = refl; protects = refl }; held = own }

  pub trunk_junctor_under : (held : List Conn) (frame channel : ℕ) → IsIn (Tlf frame) held → frame < 10 → channel < 10
      → IsUnder (office plan) held (word_number (TrunkJunctor frame channel))
  trunk_junctor_under held frame channel own a b =
      record { lock = Tlf frame; protects = record { word = TrunkJunctor frame channel; there = (a, b); named = refl; protects = refl }; held = own }

  -- a group's connector protects its word
  pub group_under : (held : List Conn) (group : ℕ) → IsIn (Group group) held → group < 16 → IsUnder (office plan) held (word_number (GroupWord group))
  group_under held group own a =
      record { lock = Group group; protects = record { word = GroupWord group; there = a; named = refl; protects = refl }; held = own }

  -- what was held is still held when a script ends
  pub stays_held : {A : Type 0} (Fits : List Conn → A → Type 0) (own held : List Conn) (script : Script A) → AreAmong own held
      → KeepsTo (office plan) Fits held script → KeepsTo (office plan) (λ conns found. AreAmong own conns × Fits conns found) held script
  unfolding KeepsTo
  stays_held Fits own held (Ends found) among keeps = (among, keeps)
  stays_held Fits own held (TestThen word script) among keeps = (keeps.0, λ value fits. stays_held Fits own held (script value) among (keeps.1 value fits))
  stays_held Fits own held (SeizeThen conn script) among keeps =
      (keeps.0, stays_held Fits own (held ++ conn ∷ []) script (λ c within. one_more held conn c (among c within)) keeps.1)

  -- a script and then another, which goes on with what the first one found, and with what was held before it
  pub keeps_then : {A B : Type 0} (Fits : List Conn → A → Type 0) (FitsNext : List Conn → B → Type 0) (held : List Conn) (script : Script A)
      (next : A → Script B) → KeepsTo (office plan) Fits held script
      → ((conns : List Conn) (found : A) → AreAmong held conns → Fits conns found → KeepsTo (office plan) FitsNext conns (next found))
      → KeepsTo (office plan) FitsNext held (script >>= next)
  keeps_then Fits FitsNext held script next keeps follows =
      keeps_bind (office plan) FitsNext held script next
      (keeps_map (office plan) (λ conns found. AreAmong held conns × Fits conns found) (λ conns found. KeepsTo (office plan) FitsNext conns (next found)) held
      script (λ conns found fits. follows conns found fits.0 fits.1) (stays_held Fits held held script (λ conn within. within) keeps))
