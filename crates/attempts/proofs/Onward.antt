-- with what was seized or read there is room, and the resume point is valid
use Rattle.std.proofs.Common.{◌≡◌, ℕ, ◌<◌, ◌^◌, Bool, true, List, [], ◌∷◌, ◌++◌, length, refl, sym, subst, Option, None, Some, Err, IfSome}
use Rattle.turns.specs.{Attempt.{IsValidIn, asked_in, change, restarted}, Script.{value_read, walk}, Seen.Seen, System.System, declared.answer.Answer.Answer}
use Rattle.turns.specs.declared.{phase.Phase.{Phase, TheVariants.{Requests, Seizes, Tests}}, reading.Reading.Reading, wanted.Wanted.TheVariants.Test}
use Rattle.turns.proofs.{Room.{held_before, read_before}, Words.read_more}
use Rattle.attempts.specs.{Points.Extends, Validity.{AreScripts, AttemptView, CanWalk, IsValidInBounds, ResumePointIsValidIn, IsValid, attempt_of, begun_at}}
use Rattle.attempts.specs.{SystemWith.{SystemWith, system_with}, Applied.MayRead}
use Rattle.attempts.proofs.{ReadOnce.wants_unread, Places.{FitsValue, fits_request, fits_seize, fits_test, place_begin, place_change, place_restarted}}

module _ {Lock Job Reply Effect Decision ResumePoint : Type 0} (same : Lock → Lock → Bool) (reply_of : Decision → Reply) (effects_of : Decision → List Effect)
    (S : SystemWith Lock Job Reply Effect Decision) (ResumePointIsValid : Job → ResumePoint → Seen Lock → Type 0) (R H : ℕ)
    (are : AreScripts same reply_of effects_of S ResumePointIsValid R H) where
  abbrev O : System
  O = system_with same reply_of effects_of S

  abbrev Doing : Type 0
  Doing = AttemptView Lock Job Decision ResumePoint

  abbrev StandsHere : Doing → Type 0
  StandsHere p = IsValid same reply_of effects_of S ResumePointIsValid R H p

  abbrev PointHere : Doing → Type 0
  PointHere p = ResumePointIsValidIn ResumePointIsValid (attempt_of reply_of effects_of p) p.point p.phase

  itself : (lock : Lock) → same lock lock ≡ true
  itself lock = (are.is_system.same lock lock).1 refl

  pub room_to_acquire : (p : Doing) (asked : Option Lock) → asked ≡ asked_in p.phase → StandsHere p → IfSome asked (λ (lock : Lock). length p.held < H)
  room_to_acquire p None asks valid = tt
  room_to_acquire p (Some lock) asks valid = at p.phase refl asks where
    at : (phase : Phase Lock ℕ) → p.phase ≡ phase → Some lock ≡ asked_in phase → length p.held < H
    at (Requests own) is e = fits_request O are.is_system R H are.asks (attempt_of reply_of effects_of p) own is valid.place
    at (Seizes own expected) is e = fits_seize O are.is_system R H are.asks (attempt_of reply_of effects_of p) own expected is valid.place
    at phase is e = absurd cc

  pub room_to_test : (p : Doing) (word : ℕ) → StandsHere p → p.phase ≡ Tests word → length p.readings < R
  room_to_test p word valid e = fits_test O are.is_system R H are.asks (attempt_of reply_of effects_of p) word e valid.place

  -- its walk needs the word that it tests, which was not read
  pub wants_to_test : (p : Doing) (word : ℕ) → StandsHere p → p.phase ≡ Tests word
      → walk same (record { held = p.held; readings = p.readings }) (S.script p.job) ≡ Err (Test word)
  wants_to_test p word valid e = subst (λ (phase : Phase Lock ℕ). IsValidIn O (attempt_of reply_of effects_of p) phase) e valid.place.comes

  pub unread_to_test : (p : Doing) (word : ℕ) → StandsHere p → p.phase ≡ Tests word → value_read p.readings word ≡ None
  unread_to_test p word valid e = wants_unread same (record { held = p.held; readings = p.readings }) word (S.script p.job) (wants_to_test p word valid e)

  -- the resume point is valid with a lock or a word more
  pub walks_acquired : (p : Doing) (asked : Option Lock) → asked ≡ asked_in p.phase → StandsHere p
      → IfSome asked (λ (lock : Lock). CanWalk same reply_of effects_of S ResumePointIsValid (record p { held = p.held ++ lock ∷ [] }))
  walks_acquired p None asks valid = tt
  walks_acquired p (Some lock) asks valid =
      record { job = valid.place.job; read = valid.place.read; valid_point = are.stays_valid p.job p.point _ _ more (before p.phase asks valid.point) } where
        more : Extends same (record { held = p.held; readings = p.readings }) (record { held = p.held ++ lock ∷ []; readings = p.readings })
        more = record { held = λ l h. held_before same itself p.held lock l h; readings = λ word value h. h }

        before : (phase : Phase Lock ℕ) → Some lock ≡ asked_in phase → ResumePointIsValidIn ResumePointIsValid (attempt_of reply_of effects_of p) p.point phase
            → ResumePointIsValid p.job p.point (record { held = p.held; readings = p.readings })
        before (Requests own) e known = known
        before (Seizes own expected) e known = known
        before phase e known = absurd cc

  pub walks_read : (p : Doing) (word value : ℕ) (new : Doing) → value < 2 ^ 64 → StandsHere p → p.phase ≡ Tests word
      → new ≡ record p { readings = p.readings ++ record { word = word; value = value } ∷ [] } → CanWalk same reply_of effects_of S ResumePointIsValid new
  walks_read p word value new below valid e made =
      let before : ResumePointIsValid p.job p.point (record { held = p.held; readings = p.readings }) =
      subst (λ (phase : Phase Lock ℕ). ResumePointIsValidIn ResumePointIsValid (attempt_of reply_of effects_of p) p.point phase) e valid.point in
      let last : Reading ℕ = record { word = word; value = value } in
      let more : Extends same (record { held = p.held; readings = p.readings }) (record { held = p.held; readings = p.readings ++ last ∷ [] }) =
      record { held = λ l h. h; readings = λ w v h. read_before same itself p.readings last w v h } in
      subst (λ (x : Doing). CanWalk same reply_of effects_of S ResumePointIsValid x) (sym made)
      (record { job = valid.place.job; read = read_more p.readings last valid.place.read below; valid_point = are.stays_valid p.job p.point _ _ more before })

  pub may_read : (p : Doing) (word value : ℕ) → value < 2 ^ 64 → StandsHere p → p.phase ≡ Tests word
      → MayRead same reply_of effects_of S ResumePointIsValid R (record { word = word; value = value }) p
  may_read p word value below valid e = record {
    tests = e;
    room = room_to_test p word valid e;
    unread = unread_to_test p word valid e;
    fits = below;
    walk = walks_read p word value (record p { readings = p.readings ++ record { word = word; value = value } ∷ [] }) below valid e refl;
  }

  -- an attempt that has just begun is valid
  pub stands_begun : (job : Job) (first : Lock) (point : ResumePoint) (new : Doing) → S.IsJob job → first ≡ S.first job
      → ((seen : Seen Lock) → ResumePointIsValid job point seen) → new ≡ begun_at job first point → StandsHere new
  stands_begun job first point new right first_is always made =
      subst StandsHere (sym made)
      (subst (λ (lock : Lock). StandsHere (begun_at job lock point)) (sym first_is) (record {
        place = place_begin O are.is_system R H are.asks job right;
        point = always (record { held = []; readings = [] });
      }))

  -- it is valid again, whatever the answer
  pub stands_changed : (p new : Doing) (answer : Answer) → FitsValue answer → StandsHere p
      → attempt_of reply_of effects_of new ≡ change O (attempt_of reply_of effects_of p) answer → PointHere new → StandsHere new
  stands_changed p new answer fits valid e point = record {
    place = subst (IsValidInBounds O R H) (sym e) (place_change O are.is_system R H are.asks (attempt_of reply_of effects_of p) answer fits valid.place);
    point = point;
  }

  pub stands_back : (p new : Doing) → StandsHere p → attempt_of reply_of effects_of new ≡ restarted O (attempt_of reply_of effects_of p) → PointHere new
      → StandsHere new
  stands_back p new valid e point = record {
    place = subst (IsValidInBounds O R H) (sym e) (place_restarted O are.is_system R H are.asks (attempt_of reply_of effects_of p) valid.place);
    point = point;
  }

  -- whatever its count
  pub stands_counted : (p new : Doing) (count : ℕ) → StandsHere p → new ≡ record p { count = count } → StandsHere new
  stands_counted p new count valid made = subst StandsHere (sym made) (record { place = valid.place; point = valid.point })
