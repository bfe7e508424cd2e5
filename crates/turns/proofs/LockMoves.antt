use Rattle.std.proofs.Common.{◌≡◌, ℕ, suc, ◌<◌, List, [], ◌∷◌, ◌++◌, slice_set, sym, refl, ap, inl, inr, ◌∙◌, subst, Option, Some, None}
use mathlib.Core.Option.{some}
use lib.ListN.{get_elem?}
use Rattle.turns.specs.{Among.IsIn, Sharing.{AddsNone, AddsOnly, Clears, KeepsOthers, ShowsRequests}, System.{System, IsSystem}}
use Rattle.turns.specs.{Attempt.{AttemptOf, request_in, walks_on}, World.{World, Does, effects_left_of}}
use Rattle.turns.specs.{Law.{IsHeld, IsRead, IsSound, Lawful, holder_at, word_at}, declared.reading.Reading.Reading}
use Rattle.turns.proofs.{Lists.{in_front, in_more, in_last, distinct_more}, Words.set_below, Sound.{Has, has_sound, sound_along, walks_held, walks_left}}
use Rattle.turns.proofs.{Sound.{walks_request, walks_sound}, Settings.{TellsOthers, TellsOwn, holds_here, holds_on, is_requested_by, renewed}, Quiet.few_actors}
use Rattle.turns.proofs.Locking.{free_apart, holders_stay, lock_quiet, locks, mine_apart, word_else, word_here}

pub none_some : {A : Type 0} (o : Option A) (x : A) → o ≡ None → o ≡ Some x → ⊥
none_some o x empty full = cc

module _ (O : System) where
  open O use {Lock, sharing}

  -- a word in which no request is new except actor k's, or in which that one is gone, has the same
  -- requests of the others as the word before
  pub added_others : (k word value : ℕ) → AddsOnly sharing k word value → (ShowsRequests sharing → KeepsOthers sharing k word value)
      → TellsOthers O k word value
  added_others k word value adds keeps = record {
    made = λ j few apart valid. elim (adds j few valid) [ inl one ↦ absurd (apart one) | inr stood ↦ stood ];
    shown = keeps;
  }

  pub cleared_others : (k word value : ℕ) → Clears sharing k word value → (ShowsRequests sharing → KeepsOthers sharing k word value)
      → TellsOthers O k word value
  cleared_others k word value clears keeps = record { made = λ j few apart valid. (clears j few valid).1; shown = keeps }

  -- an actor whose request is gone from the word requests nothing
  pub cleared_own : (k word value : ℕ) (lock : Lock) (request : Option Lock) → k < sharing.most → Clears sharing k word value → request ≡ None
      → TellsOwn O k lock value request
  cleared_own k word value lock request few clears none = record {
    made = λ valid. absurd ((clears k few valid).0 refl);
    shown = λ shows asks. absurd (none_some request lock none asks);
  }

module _ (O : System) (system : IsSystem O) (w : World O) (law : Lawful O w) (k number : ℕ) (a : AttemptOf O)
    (there : get_elem? w.actors k ≡ some (Does number a)) where
  open O use {Lock, IsLock, lock_word, sharing}

  few : k < sharing.most
  few = few_actors O w law k (Does number a) there

  module _ (c : Lock) (is : IsLock c) (v : ℕ) (new : AttemptOf O) where
    abbrev other : List ℕ
    other = slice_set w.words (lock_word c) v

    abbrev then : World O
    then = renewed O w other w.order k number new

    -- it requests the lock, or withdraws its request: the holder stays
    pub stays : sharing.holder v ≡ holder_at O w.words c → new.held ≡ a.held → effects_left_of O (Does number new) ≡ effects_left_of O (Does number a)
        → (IsSound O then k number a → IsSound O then k number new) → sharing.IsWord v → TellsOwn O k c v (request_in new.phase)
        → TellsOthers O k (word_at O w.words c) v → ((lock : Lock) → request_in a.phase ≡ Some lock → lock ≡ c)
        → ((lock : Lock) → request_in new.phase ≡ Some lock → lock ≡ c) → Lawful O then
    stays same held left sound is_word own others before next = locks O system w law k number a there c is v new (record {
      left = left;
      sound = sound (sound_along O system w then k number a (record {
        this = law.size;
        that = (lock_quiet O system w.words law.size c is v).long ∙ law.size;
        holders = λ lock at within. stay lock at;
        under = λ n u. (lock_quiet O system w.words law.size c is v).under n u.lock u.protects;
        order = λ place r e. e;
      }) (law.sound k number a there));
      is_word = is_word;
      named = λ j e. holds_on O w.actors k number new (Does number a) there j c (carry c) ((law.shared c is).named j (sym same ∙ e));
      spares = λ j i b apart at lock isl within. stay lock isl;
      keeps = λ lock apart within. carry lock within;
      own = own;
      others = others;
      before = before;
      then = next;
    }) where
      stay : (lock : Lock) → IsLock lock → holder_at O other lock ≡ holder_at O w.words lock
      stay = holders_stay O system w.words law.size c is v same

      carry : (lock : Lock) → IsIn lock a.held → IsIn lock new.held
      carry lock within = subst (λ (l : List Lock). IsIn lock l) (sym held) within

    -- it frees the first lock that it holds
    module _ (rest : List Lock) (first : a.held ≡ c ∷ rest) where
      own_lock : IsIn c a.held
      own_lock = subst (λ (l : List Lock). IsIn c l) (sym first) (inl refl)

      pub rest_has : Has O other k a.job rest
      rest_has =
          let h = subst (λ (l : List Lock). Has O w.words k a.job l) first (has_sound O w k number a (law.sound k number a there)) in
          record {
            job = h.job;
            held = λ lock within.
                let x = h.held lock (inr within) in
                record {
                  there = x.there;
                  names =
                      ap sharing.holder (word_else O system w.words law.size c is v lock x.there
                      (λ e. h.distinct.0 (subst (λ (y : Lock). IsIn y rest) e within))) ∙ x.names;
                };
            distinct = h.distinct.1;
          }

      later : (lock : Lock) → ¬ (lock ≡ c) → IsIn lock (c ∷ rest) → IsIn lock rest
      later lock apart (inl one) = absurd (apart one)
      later lock apart (inr more) = more

      pub frees : sharing.IsWord v → sharing.holder v ≡ 0 → AddsNone sharing (word_at O w.words c) v
          → (ShowsRequests sharing → AddsNone sharing v (word_at O w.words c)) → request_in a.phase ≡ None → request_in new.phase ≡ None
          → effects_left_of O (Does number new) ≡ effects_left_of O (Does number a) → new.held ≡ rest → IsSound O then k number new → Lawful O then
      frees is_word free adds stay before next left held sound = locks O system w law k number a there c is v new (record {
        left = left;
        sound = sound;
        is_word = is_word;
        named = λ j e. absurd (let x : 0 ≡ suc j = sym free ∙ e in cc);
        spares =
            λ j i b apart at lock isl within. ap sharing.holder
            (word_else O system w.words law.size c is v lock isl (mine_apart O system w law k number a there c own_lock j i b apart at lock within));
        keeps = λ lock apart within. subst (λ (l : List Lock). IsIn lock l) (sym held) (later lock apart (subst (λ (l : List Lock). IsIn lock l) first within));
        own = record {
          made =
              λ valid. absurd (none_some (request_in a.phase) c before
              (is_requested_by O w.actors k (Does number a) c there (((law.shared c is).requested k few).made (adds k few valid))));
          shown = λ shows asks. absurd (none_some (request_in new.phase) c next asks);
        };
        others = record { made = λ j low apart. adds j low; shown = λ shows j low apart. stay shows j low };
        before = λ lock e. absurd (none_some (request_in a.phase) lock before e);
        then = λ lock e. absurd (none_some (request_in new.phase) lock next e);
      })

  -- it seizes the lock, and goes on
  module _ (c : Lock) (is : IsLock c) (v : ℕ) where
    abbrev seized : List ℕ
    seized = slice_set w.words (lock_word c) v

    abbrev taker : AttemptOf O
    taker = record a { held = a.held ++ c ∷ [] }

    abbrev taken : World O
    taken = renewed O w seized w.order k number (walks_on O taker)

    taker_has : holder_at O w.words c ≡ 0 → sharing.holder v ≡ suc k → Has O seized k a.job (a.held ++ c ∷ [])
    taker_has free named =
        let s = law.sound k number a there in
        record {
          job = s.job;
          held = λ lock within. elim (in_more lock c a.held within) [
            | inl front ↦ let h = s.held lock front in record {
              there = h.there;
              names =
                  ap sharing.holder (word_else O system w.words law.size c is v lock h.there
                  (free_apart O system w law k number a there c free k number a there lock front)) ∙ h.names;
            }
            | inr e ↦ subst (λ (x : Lock). IsHeld O seized k x) (sym e)
                (record { there = is; names = ap sharing.holder (word_here O system w.words law.size c is v) ∙ named })
          ];
          distinct = distinct_more c a.held s.distinct (λ within. free_apart O system w law k number a there c free k number a there c within refl);
        }

    taker_read : ((r : Reading ℕ) → IsIn r a.readings → IsRead O w.words a.held r) → (r : Reading ℕ) → IsIn r a.readings → IsRead O seized (a.held ++ c ∷ []) r
    taker_read read r within =
        let h = read r within in
        record {
          value = (lock_quiet O system w.words law.size c is v).under r.word h.under.lock h.under.protects ∙ h.value;
          under = record { lock = h.under.lock; protects = h.under.protects; held = in_front h.under.lock a.held (c ∷ []) h.under.held };
        }

    taker_holds : (lock : Lock) → IsIn lock (a.held ++ c ∷ []) → IsIn lock (walks_on O taker).held
    taker_holds lock within = subst (λ (l : List Lock). IsIn lock l) (sym (walks_held O taker)) within

    pub takes : holder_at O w.words c ≡ 0 → sharing.IsWord v → sharing.holder v ≡ suc k → Clears sharing k (word_at O w.words c) v
        → (ShowsRequests sharing → KeepsOthers sharing k (word_at O w.words c) v) → ((r : Reading ℕ) → IsIn r a.readings → IsRead O w.words a.held r)
        → effects_left_of O (Does number a) ≡ [] → ((lock : Lock) → request_in a.phase ≡ Some lock → lock ≡ c) → Lawful O taken
    takes free is_word named clears keeps read left before = locks O system w law k number a there c is v (walks_on O taker) (record {
      left = walks_left O taker ∙ sym left;
      sound =
          walks_sound O system taken k number taker (set_below w.words (lock_word c) v law.are_words (system.sharing.word_below v is_word))
          (taker_has free named) (taker_read read);
      is_word = is_word;
      named =
          λ j e. holds_here O w.actors k number (walks_on O taker) (Does number a) there j c (let x : suc k ≡ suc j = sym named ∙ e in cc)
          (taker_holds c (in_last c a.held));
      spares =
          λ j i b apart at lock isl within. ap sharing.holder
          (word_else O system w.words law.size c is v lock isl (free_apart O system w law k number a there c free j i b at lock within));
      keeps = λ lock apart within. taker_holds lock (in_front lock a.held (c ∷ []) within);
      own = cleared_own O k (word_at O w.words c) v c (request_in (walks_on O taker).phase) few clears (walks_request O taker);
      others = cleared_others O k (word_at O w.words c) v clears keeps;
      before = before;
      then = λ lock e. absurd (none_some (request_in (walks_on O taker).phase) lock (walks_request O taker) e);
    })
