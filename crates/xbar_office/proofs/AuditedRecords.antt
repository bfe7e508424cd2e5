-- records that are checked one by one
use Rattle.std.proofs.Common.{◌≡◌, ℕ, zero, suc, ◌+◌, ◌<◌, List, [], ◌∷◌, ◌++◌, length, take, get_or, refl, sym, ◌∙◌, ap, subst, arith, ◌≢◌, Option, Some, None}
use Rattle.std.proofs.Common.{IsSomeAnd, slice_get, length-take}
use Rattle.{std.proofs.lemmas.{Option.slice_get_read, List.take_more}, xbar_equip.specs.declared.path.Path.Path, xbar_plan.specs.Tables.Tables}
use Rattle.xbar_office.specs.{Audit.{IsFirstWrongReply, IsFaultOf}, Legal.{IsJob, AreJobs, HaveTurns, HaveReplies, IsLegal, jobs_of, after, after_jobs}}
use Rattle.xbar_office.specs.{Whole.whole, declared.{audit_fault.AuditFault.{AuditFault, TheVariants.{Turns, Reply, Memory}}, reply.Record.Record}}
use Rattle.xbar_office.{specs.declared.reply.Reply.{Reply as OneReply}, proofs.LegalRecords.{jobs_last, turns_last, replies_last, after-one_more}}

-- the records before one, and that one
module _ (records : List Record) (n : ℕ) (r : Record) (below : n < length records) (is : r ≡ get_or records n r) where
  pub one_more : take (n + 1) records ≡ take n records ++ r ∷ []
  one_more = take_more records n r below ∙ ap (λ (x : Record). take n records ++ x ∷ []) (sym is)

  pub turns-more : r.turn ≡ n → HaveTurns 0 (take n records) → HaveTurns 0 (take (n + 1) records)
  turns-more turn have =
      subst (λ (rs : List Record). HaveTurns 0 rs) (sym one_more) (turns_last 0 (take n records) r (omega (arith, length-take n records, turn)) have)

  pub jobs-more : IsJob r.job → AreJobs (jobs_of (take n records)) → AreJobs (jobs_of (take (n + 1) records))
  jobs-more is_job are = subst (λ (rs : List Record). AreJobs (jobs_of rs)) (sym one_more) (jobs_last (take n records) r is_job are)

  pub replies-more : (plan : Tables) → r.reply ≡ (whole plan (after plan (take n records)) r.job).reply → HaveReplies plan [] (take n records)
      → HaveReplies plan [] (take (n + 1) records)
  replies-more plan reply have = subst (λ (rs : List Record). HaveReplies plan [] rs) (sym one_more) (replies_last plan [] (take n records) r reply have)

  pub after-more : (plan : Tables) → after plan (take (n + 1) records) ≡ (whole plan (after plan (take n records)) r.job).paths
  after-more plan = ap (after plan) one_more ∙ after-one_more plan (take n records) r

-- if records have their turns, the turn of each is its index
turn_from : (start : ℕ) (records : List Record) (n : ℕ) (r : Record) → HaveTurns start records → slice_get records n ≡ Some r → r.turn ≡ start + n
turn_from start [] n r have here = cc
turn_from start (x ∷ records) zero r have here = let same : x ≡ r = cc in ap (λ (y : Record). y.turn) (sym same) ∙ have.0 ∙ omega arith
turn_from start (x ∷ records) (suc n) r have here = turn_from (start + 1) records n r have.1 here ∙ omega arith

pub turn_at : (records : List Record) (n : ℕ) (r : Record) → HaveTurns 0 records → slice_get records n ≡ Some r → r.turn ≡ n
turn_at records n r have here = turn_from 0 records n r have here ∙ omega arith

-- a record with its turn, but not the reply of the one-marker office, is the first wrong one
pub wrong-reply : (plan : Tables) (records : List Record) (n : ℕ) (r : Record) (reply : OneReply) → n < length records → r ≡ get_or records n r
    → HaveTurns 0 records → HaveReplies plan [] (take n records)
    → reply ≡ (whole plan (after plan (take n records)) r.job).reply → (reply ≡ r.reply → ⊥) → HaveTurns 0 records × IsFirstWrongReply plan records r.turn
wrong-reply plan records n r reply below is turns have right other =
    let here : slice_get records n ≡ Some r = slice_get_read records (length records) n r refl below is in
    let wrong : IsFirstWrongReply plan records n = record {
      before = have;
      here =
          subst (λ (o : Option Record). IsSomeAnd o (λ q. q.reply ≢ (whole plan (after plan (take n records)) q.job).reply)) (sym here)
          (λ same. other (right ∙ sym same));
    } in
    (turns, subst (λ (t : ℕ). IsFirstWrongReply plan records t) (sym (turn_at records n r turns here)) wrong)

-- if records have the replies of the one-marker office, each has that to its job on the set before
-- it
pub replies_at : (plan : Tables) (paths : List Path) (records : List Record) (n : ℕ) (r : Record) → HaveReplies plan paths records
    → slice_get records n ≡ Some r → r.reply ≡ (whole plan (after_jobs plan paths (jobs_of (take n records))) r.job).reply
replies_at plan paths [] n r have here = cc
replies_at plan paths (x ∷ records) zero r have here = let same : x ≡ r = cc in subst (λ (y : Record). y.reply ≡ (whole plan paths y.job).reply) same have.0
replies_at plan paths (x ∷ records) (suc n) r have here = replies_at plan (whole plan paths x.job).paths records n r have.1 here

pub never : (o : Option Record) (P : Record → Type 0) → IsSomeAnd o P → ((r : Record) → o ≡ Some r → P r → ⊥) → ⊥
never None P is not = is
never (Some r) P is not = not r refl is

-- legal records have no fault, except that memory may run out
pub no-fault : (plan : Tables) (records : List Record) (fault : AuditFault) → IsLegal plan records → IsFaultOf plan records fault → fault ≡ Memory
no-fault plan records (Turns place) legal is =
    absurd (never (slice_get records place) (λ r. r.turn ≢ place) is.here (λ r here other. other (turn_at records place r legal.turns here)))
no-fault plan records (Reply turn) legal is =
    absurd (never (slice_get records turn) (λ r. r.reply ≢ (whole plan (after plan (take turn records)) r.job).reply) is.1.here
    (λ r here other. other (replies_at plan [] records turn r legal.replies here)))
no-fault plan records Memory legal is = refl
