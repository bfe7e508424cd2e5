-- what a release has fixed at its turn is the opening of its paths, and each step past it makes the first effect that is left
use Rattle.std.proofs.Common.{◌≡◌, ℕ, ◌<◌, false, List, [], ◌∷◌, length, slice_index, slice_set, sym, ◌∙◌, ap, subst, Option, Some}
use Rattle.turns.specs.{Among.IsIn, Attempt.{HasDecided, IsValidIn, act, act_in, change, changed, closing_act, effects_left_in, operated, read_in}}
use Rattle.turns.specs.{declared.{act.Act.TheVariants.Make, answer.Answer.TheVariants.Done, phase.Phase.TheVariants.{Turns, Operates}}, Law.IsSound}
use Rattle.turns.specs.{Runs.is_finished, Seen.AreReadFrom, System.perform_all, World.{Does, becomes, value_after as worlds_made, place}}
use Rattle.{turns.proofs.{Completed.{completed_index, completed_length, only_one}, Effects.others_spare}, xbar_equip.specs.{Len.Line, declared.path.Path.Path}}
use Rattle.{xbar_plan.specs.{Tables.Tables, Lawful.IsLawful}, xbar_office.specs.{Legal.{IsJob, after}, declared.{job.Job.TheVariants.Release, reply.Card.Card}}}
use Rattle.{xbar_office.specs.declared.reply.End.TheVariants.Released, xbar_jobs.specs.{Attempt.{Act, Attempt, Phase}, Office.office, Opening.ReleasesJust}}
use Rattle.xbar_jobs.{specs.declared.effect.Effect.Effect, proofs.{OfficeSystem.office_is, ReleasedWords.a_release_opens_just_its_call}}
use Rattle.xbar_moves.specs.{AtWork.answer_to_step, Exchange.{Exchange, IsLawfulExchange, world}, Holding.{IsAt, completed}, Moves.{after_answer, after_step}}
use Rattle.xbar_moves.proofs.{Actors.actor_at, Records.completed_shows, StepCases.{gone_on, step_made}, Worlds.{answer_is, words_are}}
use Rattle.turns.specs.Attempt as generic

module _ (plan : Tables) (laws : IsLawful plan) (e : Exchange) (lawful : IsLawfulExchange plan e) (k number : ℕ) (a : Attempt) (at : IsAt e k number a)
    (turns : a.phase ≡ Turns) where
  sound : IsSound (office plan) (world plan e) k number a
  sound = lawful.sound k number a (actor_at e k number a at)

  -- just before its turn a marker has decided
  decided : HasDecided (office plan) a
  decided = subst (IsValidIn (office plan) a) turns sound.valid

  -- as many words are completed as there are
  completed_size : length (completed plan e) ≡ 453
  completed_size = completed_length (office plan) (world plan e).actors 0 e.words ∙ lawful.size

  -- a word under what it holds is left to it, so what it has read is what the completed words have
  completed_read : AreReadFrom (completed plan e) a.readings
  completed_read r within =
      let system = office_is plan laws in
      let w = world plan e in
      let there = actor_at e k number a at in
      let counts : IsIn r (read_in a.phase a.readings) = subst (λ (phase : Phase). IsIn r (read_in phase a.readings)) (sym turns) within in
      let read = sound.read r counts in
      let below = subst (λ (size : ℕ). r.word < size) (sym lawful.size) (system.words.word_there r.word read.under.lock read.under.protects) in
      let nothing : worlds_made (office plan) (effects_left_in a.phase a.effects) r.word (slice_index e.words r.word) ≡ slice_index e.words r.word =
      ap (λ (phase : Phase). worlds_made (office plan) (effects_left_in phase a.effects) r.word (slice_index e.words r.word)) turns in
      completed_index (office plan) w r.word below
      ∙ only_one (office plan) w.actors k r.word (slice_index e.words r.word) (Does number a) there
      (others_spare (office plan) system w lawful k number a there r.word read.under)
      ∙ nothing ∙ read.value

  -- so what a release has fixed at its turn is what opens its paths on the completed words
  pub fixed_at_turn : (line : Line) (own : Path) (other : Option Path) (cards : List Card) → a.job ≡ Release line
      → a.reply ≡ Some (record { end = Released own other; cards = cards }) → ReleasesJust plan own other (completed plan e) a.effects
  fixed_at_turn line own other cards does replied =
      a_release_opens_just_its_call plan a line own other (completed plan e) (after plan e.records) laws (subst IsJob does sound.job) does decided
      cards replied completed_size (completed_shows plan e lawful) completed_read

module _ (plan : Tables) (e : Exchange) (k number turn : ℕ) (a : Attempt) (effect : Effect) (effects : List Effect) (at : IsAt e k number a)
    (past : a.phase ≡ Operates turn) (left : a.effects ≡ effect ∷ effects) where
  -- past its turn the next step makes the first effect that is left
  makes_first : act a ≡ Make effect
  makes_first = ap (λ (phase : Phase). act_in phase a) past ∙ ap (λ (some : List Effect). closing_act some a.held) left

  goes_on : is_finished (act a) ≡ false
  goes_on = ap (λ (next : Act). is_finished next) makes_first

  is_stepped : after_step plan k e ≡ after_answer plan k at.marker number a (answer_to_step k e.words a) e
  is_stepped = step_made plan e k number a at goes_on

  -- on its word, and on no other
  words_made : (after_step plan k e).words ≡ perform_all (office plan) e.words (effect ∷ [])
  unfolding perform_all
  words_made =
      ap (λ (x : Exchange). x.words) is_stepped
      ∙ words_are plan k e.words a
      ∙ ap (λ (next : Act). slice_set e.words (place (office plan) next) (becomes (office plan) k next (slice_index e.words (place (office plan) next))))
      makes_first

  -- and then the others are left
  told_done : answer_to_step k e.words a ≡ Done
  told_done =
      answer_is plan k e.words a ∙ ap (λ (next : Act). generic.answer_to (office plan) k next (slice_index e.words (place (office plan) next))) makes_first

  others_left : change (office plan) a (answer_to_step k e.words a) ≡ record a { effects = effects }
  others_left =
      ap (change (office plan) a) told_done
      ∙ ap (λ (phase : Phase). changed (office plan) a phase Done) past
      ∙ ap (operated a) left

  goes_to : IsAt (after_step plan k e) k number (record a { effects = effects })
  goes_to =
      subst (λ (b : Attempt). IsAt (after_step plan k e) k number b) others_left
      (gone_on plan e k number a at goes_on)

  pub makes_one : ((after_step plan k e).words ≡ perform_all (office plan) e.words (effect ∷ []))
      × IsAt (after_step plan k e) k number (record a { effects = effects })
  makes_one = (words_made, goes_to)
