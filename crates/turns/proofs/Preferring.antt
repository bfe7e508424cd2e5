-- sharing by requests and preference is a sharing, and one that shows requests
use Rattle.std.proofs.Common.{◌+◌, ◌==◌, refl, ap, arith}
use Rattle.turns.specs.{Sharing.{IsSharing, IsUnused, ShowsRequests}, Sharings.preferring}
use Rattle.turns.proofs.LockWords.{asked_holder, without_holder, taken_holder, unheld_holder, asked_requests, without_requests, taken_requests, unheld_requests}
use Rattle.turns.proofs.LockWords.{asked_own, asked_others, without_others, taken_others, unheld_others, asked_is, without_is, taken_is, unheld_is}
use Rattle.{turns.proofs.FirstRequests.{judged_true, alone_free}, std.proofs.lemmas.Nat.Bits.bit_at-zero}

pub preferring_is : IsSharing preferring
preferring_is = record {
  asked_is = λ k word asks few is. asked_is k word few is;
  asked_holder = λ k word asks few is. asked_holder k word;
  asked_requests = λ k word asks few is. asked_requests k word;
  seized_at_once = λ k word once few is free. absurd cc;
  left_at_once = λ k word once few is denied. absurd cc;
  withdrawn_is = λ k word few is. without_is k word few is;
  withdrawn_holder = λ k word few is. without_holder k word few;
  withdrawn_requests = λ k word few is. without_requests k word few;
  taken_is = λ k word few is free. taken_is k word few is free;
  taken_holder = λ k word few is free. taken_holder k word few free;
  taken_requests = λ k word few is free. taken_requests k word few;
  freed_is = λ word is. unheld_is word is;
  freed_holder = λ word is. unheld_holder word;
  freed_requests = λ word is. unheld_requests word;
  judged_true = λ k word few is. judged_true k word;
  alone_free = λ k word few is free alone. alone_free k word few free alone;
  word_below = λ word is. is.below;
}

pub preferring_shows : ShowsRequests preferring
preferring_shows = record {
  asked_own = λ k word few is. asked_own k word;
  asked_others = λ k word few is. asked_others k word;
  withdrawn_others = λ k word few is. without_others k word few;
  taken_others = λ k word few is free. taken_others k word few;
  freed_others = λ word is. unheld_others word;
}

-- a word of 0 is that of a lock that nobody holds or requests
pub zero_unused : IsUnused preferring 0
zero_unused = record {
  is_word = record { holder = omega arith; bits = λ i set. absurd (omega (arith, bit_at-zero i)); below = omega arith };
  free = refl;
  unasked = λ j few. ap (λ n. n == 1) (bit_at-zero (8 + j));
}
