-- a load of a lock's own word tells who holds the lock
use Rattle.std.proofs.Common.{◌≡◌, ◌↔◌, ℕ, zero, suc, List, slice_index, set, sym, refl, ap, inl, subst, ◌∙◌, Some}
use Rattle.{atomic_table.{specs.Table.{Allows, Me, keeps}, proofs.Lists.{set_again, set_here}}, turns.specs.{Among.IsIn, Sharing.{actor_of_holder, held_by}}}
use Rattle.turns.{specs.{System.System, World.{World, ActorOf}, Law.{Holds, Lawful, holder_at}}, proofs.Lists.set_idle}
use Rattle.desks.specs.{Desks.IsSeated, Holders.{HasLoaded, WasHeldBy}, Kept.{Fits, IsKept, KnownOf, PartOf}, Parts.seen_in, Rule.RuleOfWords}
use Rattle.desks.proofs.{Lookups.there_below, Moving.length_set}

named_is : (n k : ℕ) → actor_of_holder n ≡ Some k → n ≡ suc k
named_is zero k e = absurd cc
named_is (suc j) k e = cc

module _ (O : System) where
  -- a load changes no word and no view, and keeps the rule
  pub allows_load : (count slots id place : ℕ) (me : Me (Unit {0}) (KnownOf O))
      → Allows (RuleOfWords O count) slots id me place (λ n. n)
      (λ n after. (after.1 ≡ me.1) × HasLoaded O count place me.0 n after.0)
  allows_load count slots id place me s kept homes at range =
      let w : World O = record { words = s.words; actors = kept.actors; order = kept.order } in
      let views = sym (set_again s.views id me.0 at) in
      let rule = subst (λ (l : List (KnownOf O)). IsKept O count s.words l) views kept in
      let loaded : HasLoaded O count place me.0 (slice_index s.words place) me.0 = record {
        world = w;
        lawful = kept.lawful;
        all = kept.all;
        fits = kept.fits id me.0 at;
        found_is = refl;
        after_is = refl;
      } in
      (me.0, keeps, tt, rw (set_idle s.words place) rule, (refl, loaded))

  module _ (count k : ℕ) (me : Me (Unit {0}) (KnownOf O)) (now : ActorOf O) (lock : O.Lock)
      (found : ℕ) (after : KnownOf O) (is : O.IsLock lock) (seated : IsSeated O k me now)
      (loaded : HasLoaded O count (O.lock_word lock) me.0 found after) where
    abbrev part : PartOf O
    part = record { number = k; actor = seated.before; seen = seen_in me.0 }

    fit : Fits O loaded.world part
    fit =
        let view = ap (λ (m : Me (Unit {0}) (KnownOf O)). m.0) seated.me_is in
        loaded.fits part (subst (λ (known : KnownOf O). IsIn part known.parts) (sym view) (inl refl))

    -- the word names exactly who holds the lock
    named : (w : World O) → Lawful O w → found ≡ slice_index w.words (O.lock_word lock) → (j : ℕ)
        → (held_by O.sharing found ≡ Some j) ↔ Holds O w.actors j lock
    named w law same j =
        let holder : O.sharing.holder found ≡ holder_at O w.words lock = ap O.sharing.holder same in (
          λ told. (law.shared lock is).named j (sym holder ∙ named_is (O.sharing.holder found) j told),
          λ holds.
              let own = (law.sound j holds.number holds.attempt holds.does).held lock holds.held in
              ap actor_of_holder (holder ∙ own.names),
        )

    pub was_held : WasHeldBy O count k now (seen_in me.0) lock (held_by O.sharing found)
    was_held =
        let law = seated.follows loaded.world loaded.lawful fit.there in
        let actors = set loaded.world.actors k now in
        record {
          world = record { words = loaded.world.words; actors = actors; order = loaded.world.order };
          lawful = law;
          all = length_set loaded.world.actors k now ∙ loaded.all;
          actor_is = set_here loaded.world.actors k now (there_below loaded.world.actors k seated.before fit.there);
          begins = fit.begins;
          own_is = fit.own_is;
          held = named (record { words = loaded.world.words; actors = actors; order = loaded.world.order }) law loaded.found_is;
        }

    -- the word is one of the sharing's
    pub word_is : O.sharing.IsWord found
    word_is = subst O.sharing.IsWord (sym loaded.found_is) (loaded.lawful.shared lock is).is_word
