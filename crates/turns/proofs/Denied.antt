-- an actor is denied a lock by the judgement of that lock's word
use Rattle.std.proofs.Common.{◌≡◌, ℕ, Bool, true, false, inl, inr, refl, ap, ◌∙◌, subst, ◌==◌, if◌then◌else◌}
use Rattle.{std.{specs.Prelude.⊤, proofs.lemmas.Bool.eqb-false}, turns.specs.{Sharing.with_request, System.System, Attempt.{answer_to, unless_denied}}}
use Rattle.turns.specs.declared.act.Act.{Act, TheVariants.{Finished, Request, Seize, Withdraw, Free as FreeAct, Test, Turn as TurnAct, Make}}
use Rattle.turns.specs.declared.{answer.Answer.{Answer, TheVariants.{Asked, Seized, Held, Preferred, Again, Value, Turn, Done}}, judgement.Judgement.Judgement}
use Rattle.turns.specs.Denied.{IsDeniedBy}
use Rattle.turns.specs.declared.judgement.Judgement.TheVariants as judgement

-- an answer that denies no lock
abbrev GoesOn : Answer → Type 0
GoesOn (Asked word) = ⊤
GoesOn Seized = ⊤
GoesOn (Held holder) = ⊥
GoesOn (Preferred other) = ⊥
GoesOn (Again word) = ⊤
GoesOn (Value value) = ⊤
GoesOn (Turn number) = ⊤
GoesOn Done = ⊤

-- an answer denies a lock, and comes of this judgement alone
record ComesOf (answer : Answer) (judged : Judgement) : Type 0 where
  pub stops : ¬ GoesOn answer
  pub tells : (other : Answer) (j : Judgement) → GoesOn other → unless_denied other j ≡ answer → j ≡ judged

held_comes : (holder : ℕ) → ComesOf (Held holder) (judgement.Held holder)
held_comes holder = record { stops = λ goes. goes; tells = tells } where
  tells : (other : Answer) (j : Judgement) → GoesOn other → unless_denied other j ≡ Held holder
      → j ≡ judgement.Held holder
  tells other judgement.Free goes same = absurd (subst GoesOn same goes)
  tells other (judgement.Held one) goes same =
      let one_holder : one ≡ holder = cc in
      ap judgement.Held one_holder
  tells other (judgement.Preferred actor) goes same = absurd cc

preferred_comes : (other : ℕ) → ComesOf (Preferred other) (judgement.Preferred other)
preferred_comes other = record { stops = λ goes. goes; tells = tells } where
  tells : (answer : Answer) (j : Judgement) → GoesOn answer → unless_denied answer j ≡ Preferred other
      → j ≡ judgement.Preferred other
  tells answer judgement.Free goes same = absurd (subst GoesOn same goes)
  tells answer (judgement.Held holder) goes same = absurd cc
  tells answer (judgement.Preferred one) goes same =
      let one_other : one ≡ other = cc in
      ap judgement.Preferred one_other

module _ (O : System) where
  open O use {Lock, Effect, sharing}

  module _ (k found : ℕ) (answer : Answer) (judged : Judgement) (comes : ComesOf answer judged)
    where
      -- no other answer is this one
      not_so : {A : Type 0} (other : Answer) → GoesOn other → other ≡ answer → A
      not_so other goes same = absurd (comes.stops (subst GoesOn same goes))

      put_off_asking : (asks : Bool)
          → (if asks then unless_denied (Asked (with_request sharing k found))
          (sharing.judged k (with_request sharing k found))
          else unless_denied Seized (sharing.judged k found)) ≡ answer
          → sharing.judged k (if asks then with_request sharing k found else found) ≡ judged
      put_off_asking true same =
          let word = with_request sharing k found in
          comes.tells (Asked word) (sharing.judged k word) tt same
      put_off_asking false same = comes.tells Seized (sharing.judged k found) tt same

      -- a seize that finds another word than expected leaves it
      left_so : (asks : Bool) (taken : ℕ) (b : Bool) → b ≡ false
          → (if asks then (if b then taken else found) else found) ≡ found
      left_so true taken b other = ap (λ (c : Bool). if c then taken else found) other
      left_so false taken b other = refl

      put_off_taking : (lock : Lock) (expected : ℕ) (b : Bool) → (found == expected) ≡ b
          → (if b then Seized else unless_denied (Again found) (sharing.judged k found)) ≡ answer
          → IsDeniedBy O k (Seize lock expected) found judged
      put_off_taking lock expected true at same = not_so Seized tt same
      put_off_taking lock expected false at same = record {
        lock = lock;
        asks = inr (expected, refl, eqb-false found expected at);
        says =
            ap (sharing.judged k) (left_so sharing.asks (sharing.taken k expected) (found == expected) at) ∙
            comes.tells (Again found) (sharing.judged k found) tt same;
      }

      put_off_by : (step : Act Lock Effect) → answer_to O k step found ≡ answer
          → IsDeniedBy O k step found judged
      put_off_by (Request lock) same =
          record { lock = lock; asks = inl refl; says = put_off_asking sharing.asks same }
      put_off_by (Seize lock expected) same =
          put_off_taking lock expected (found == expected) refl same
      put_off_by Finished same = not_so Done tt same
      put_off_by (Withdraw lock) same = not_so Done tt same
      put_off_by (FreeAct lock) same = not_so Done tt same
      put_off_by (Test word) same = not_so (Value found) tt same
      put_off_by TurnAct same = not_so (Turn found) tt same
      put_off_by (Make effect) same = not_so Done tt same

  pub put_off_held : (k found holder : ℕ) (step : Act Lock Effect)
      → answer_to O k step found ≡ Held holder
      → IsDeniedBy O k step found (judgement.Held holder)
  put_off_held k found holder step same =
      put_off_by k found (Held holder) (judgement.Held holder) (held_comes holder) step same

  pub put_off_preferred : (k found other : ℕ) (step : Act Lock Effect)
      → answer_to O k step found ≡ Preferred other
      → IsDeniedBy O k step found (judgement.Preferred other)
  put_off_preferred k found other step same =
      let comes = preferred_comes other in
      put_off_by k found (Preferred other) (judgement.Preferred other) comes step same
