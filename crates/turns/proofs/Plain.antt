-- sharing without requests is a sharing
use Rattle.std.proofs.Common.{◌≡◌, ◌≢◌, ℕ, zero, suc, ◌+◌, ◌<◌, ◌%◌, ◌^◌, Bool, true, false, refl, sym, ap, ◌∙◌, arith, eqb-true, eq-eqb, ◌==◌, None}
use Rattle.std.proofs.Common.{if◌then◌else◌}
use Rattle.turns.specs.{Sharing.{IsSharing, IsTrueOf, with_request}, Sharings.{by_holder, plain}, declared.judgement.Judgement.TheVariants.Free}

judged_true : (k word holder : ℕ) → word % 2 ^ 32 ≡ holder → IsTrueOf plain k word (by_holder holder None)
judged_true k word zero is = is
judged_true k word (suc holder) is = is

-- an actor may seize a lock exactly if its word is 0
free_zero : (holder : ℕ) → by_holder holder None ≡ Free → holder ≡ 0
free_zero zero free = refl
free_zero (suc holder) free = cc

-- a word within the bounds is its own holder
is_holder : (word : ℕ) → word < 2 ^ 32 → word % 2 ^ 32 ≡ word
is_holder word below = omega (arith, below)

seized_at_once : (k word : ℕ) → word < 2 ^ 32 → plain.judged k word ≡ Free → with_request plain k word ≡ plain.taken k word
seized_at_once k word below free = ap (λ (b : Bool). if b then 1 + k else word) (eq-eqb word 0 (sym (is_holder word below) ∙ free_zero (word % 2 ^ 32) free))

left_at_once : (k word : ℕ) → word < 2 ^ 32 → plain.judged k word ≢ Free → with_request plain k word ≡ word
left_at_once k word below denied = at (word == 0) refl where
  at : (b : Bool) → (word == 0) ≡ b → (if b then 1 + k else word) ≡ word
  at true same = absurd (denied (ap (λ (holder : ℕ). by_holder holder None) (is_holder word below ∙ eqb-true word 0 same)))
  at false other = refl

pub plain_is : IsSharing plain
plain_is = record {
  asked_is = λ k word asks below is. absurd cc;
  asked_holder = λ k word asks below is. absurd cc;
  asked_requests = λ k word asks below is j low valid. absurd cc;
  seized_at_once = λ k word once below is free. seized_at_once k word is free;
  left_at_once = λ k word once below is denied. left_at_once k word is denied;
  withdrawn_is = λ k word below is. is;
  withdrawn_holder = λ k word below is. refl;
  withdrawn_requests = λ k word below is j low valid. absurd cc;
  taken_is = λ k word below is free. omega arith;
  taken_holder = λ k word below is free. omega arith;
  taken_requests = λ k word below is free j low valid. absurd cc;
  freed_is = λ word is. omega arith;
  freed_holder = λ word is. refl;
  freed_requests = λ word is j low valid. valid;
  judged_true = λ k word below is. judged_true k word (word % 2 ^ 32) refl;
  alone_free = λ k word below is free alone. ap (λ (holder : ℕ). by_holder holder None) free;
  word_below = λ word is. omega (arith, is);
}
