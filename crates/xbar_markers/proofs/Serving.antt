-- How a share goes over each step of a worker, and over steps one after another.
use Rattle.std.proofs.Common.{◌≡◌, ℕ, zero, suc, false, true, List, [], ◌∷◌, ◌++◌, All, Option, Some, None, IsSomeAnd, MatchOption, slice_get, slice_set, sym}
use Rattle.std.proofs.Common.{refl, ap, subst}
use Rattle.{std.proofs.lemmas.List.Elements.{All-append, All-weaker}, xbar_office.specs.declared.{job.Job.TheVariants.{Complete, Release}, reply.Record.Record}}
use Rattle.{xbar_fabric.specs.Views.DeskView, xbar_markers.specs.Calls.{Follows, HasDialTone, IsLater, IsRecordOf, IsServed, IsToRelease, is_dial_tone}}
use Rattle.xbar_markers.specs.{Shares.{HasServed, IsBalanced, IsShareOf, Share}, Work.{AreShort, WorkerHasWorked}}
use Rattle.xbar_markers.{specs.declared.call_records.CallRecords.CallRecords, proofs.Works.{set_worked, short_after, short_before}}

-- a call that is served is also served under a stronger condition on turn numbers
pub weaker_served : {short' short : Type 0} {c : CallRecords} → (short' → short)
    → IsServed short c → IsServed short' c
weaker_served {short'} {short} {c} weaker served = record {
  dialled = served.dialled;
  completed = completed_by c.complete served.completed;
  released = released_by c.release served.released;
}
  where
    completed_by : (o : Option Record)
        → MatchOption o (is_dial_tone c.dial.reply.end ≡ false)
        (λ r. (is_dial_tone c.dial.reply.end ≡ true)
        × IsRecordOf c.call 1 (Complete c.call.line c.call.digits) r × IsLater short c.dial r)
        → MatchOption o (is_dial_tone c.dial.reply.end ≡ false)
        (λ r. (is_dial_tone c.dial.reply.end ≡ true)
        × IsRecordOf c.call 1 (Complete c.call.line c.call.digits) r × IsLater short' c.dial r)
    completed_by None it = it
    completed_by (Some r) it = (it.0, it.1, λ short. it.2 (weaker short))

    follows : (r : Record) (o : Option Record) → IsSomeAnd o (Follows short r)
        → IsSomeAnd o (Follows short' r)
    follows r None it = it
    follows r (Some before) it =
        record { marker = it.marker; later = λ short. it.later (weaker short) }

    released_by : (o : Option Record)
        → MatchOption o (¬ IsToRelease c)
        (λ r. IsToRelease c × IsRecordOf c.call 2 (Release c.call.line) r
        × IsSomeAnd c.complete (Follows short r))
        → MatchOption o (¬ IsToRelease c)
        (λ r. IsToRelease c × IsRecordOf c.call 2 (Release c.call.line) r
        × IsSomeAnd c.complete (Follows short' r))
    released_by None it = it
    released_by (Some r) it = (it.0, it.1, follows r c.complete it.2)

pub all_weaker_served : (short' short : Type 0) (calls : List CallRecords) → (short' → short)
    → All (IsServed short) calls → All (IsServed short') calls
all_weaker_served short' short calls weaker served =
    All-weaker (IsServed short) (IsServed short') (λ c. weaker_served weaker) calls served

-- what is new in a share that was served on: the records of its desk, and the calls that have ended
pub has_served : (before after : DeskView) (share share_after : Share) (its : List Record)
    (new : List CallRecords) → WorkerHasWorked before after its
    → ((done : List Record) → IsBalanced done share → IsBalanced (done ++ its) share_after)
    → (All HasDialTone share.kept.items → All HasDialTone share_after.kept.items)
    → share_after.ended.items ≡ share.ended.items ++ new
    → All (IsServed (AreShort (after ∷ []))) new → HasServed before share after share_after
has_served before after share share_after its new worked balance kept ended served befores desks k at it =
    let short = AreShort (slice_set desks k after) in record {
      done = it.done ++ its;
      worked = set_worked befores desks k before after it.done its at it.worked worked;
      balanced = balance it.done it.balanced;
      kept = kept it.kept;
      ended = subst (All (IsServed short)) (sym ended)
          (All-append (IsServed short) share.ended.items new
          (all_weaker_served short (AreShort desks) share.ended.items
          (short_before desks k before after at worked.seen) it.ended)
          (all_weaker_served short (AreShort (after ∷ [])) new
          (short_after desks k before after at) served));
    }

set_same : (desks : List DeskView) (k : ℕ) (d : DeskView) → slice_get desks k ≡ Some d
    → slice_set desks k d ≡ desks
set_same [] k d at = refl
set_same (x ∷ desks) zero d at = let e : d ≡ x = cc in ap (λ (y : DeskView). y ∷ desks) e
set_same (x ∷ desks) (suc k) d at = ap (λ (l : List DeskView). x ∷ l) (set_same desks k d at)

get_set : (desks : List DeskView) (k : ℕ) (d b : DeskView) → slice_get desks k ≡ Some d
    → slice_get (slice_set desks k b) k ≡ Some b
get_set [] k d b at = let e : None ≡ Some d = at in cc
get_set (x ∷ desks) zero d b at = refl
get_set (x ∷ desks) (suc k) d b at = get_set desks k d b at

set_set : (desks : List DeskView) (k : ℕ) (b c : DeskView)
    → slice_set (slice_set desks k b) k c ≡ slice_set desks k c
set_set [] k b c = refl
set_set (x ∷ desks) zero b c = refl
set_set (x ∷ desks) (suc k) b c = ap (λ (l : List DeskView). x ∷ l) (set_set desks k b c)

-- nothing was done
pub served_none : (d : DeskView) (s : Share) → HasServed d s d s
served_none d s befores desks k at it =
    subst (λ (l : List DeskView). IsShareOf befores l s) (sym (set_same desks k d at)) it

-- a desk serves, and serves on
pub served_on : (a b c : DeskView) (s t u : Share) → HasServed a s b t → HasServed b t c u
    → HasServed a s c u
served_on a b c s t u first second befores desks k at it =
    subst (λ (l : List DeskView). IsShareOf befores l u) (set_set desks k b c)
    (second befores (slice_set desks k b) k (get_set desks k a b at) (first befores desks k at it))
