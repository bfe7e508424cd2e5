-- the jobs are a system
use Rattle.std.proofs.Common.{◌≡◌, ℕ, ◌+◌, ◌%◌, ◌^◌, List, [], ◌∷◌, length, slice_index, inl, refl, sym, ◌∙◌, arith, Err}
use Rattle.turns.specs.{Script.{◌>>=◌, AsksAtMost, run, first_wanted}, System.{IsSystem, IsUnder, MayMake, KeepsTo, DecidesAs, DecidesUnder, perform_all}}
use Rattle.turns.{specs.declared.wanted.Wanted.TheVariants.Seize, proofs.{Layouts.{ones_are, words_apart, zeros_open}, OwnSystem.{index_same, makes_more}}}
use Rattle.{turns.proofs.{OwnSystem.{makes_none, same_number, under_its_lock}, Preferring.{preferring_is, zero_unused}}, tickets.specs.System.{Shows, layout}}
use Rattle.tickets.specs.{System.{script, tickets, tickets_jobs, whole}, declared.jobs.{Effect.TheVariants.AddOne, Job.{Job, TheVariants.{Take, Look}}}}

-- change: the lock of a word, and that effects are on words under locks that are held
word_under : IsUnder tickets (0 ∷ []) 0
word_under = under_its_lock tickets (0 ∷ []) 0 0 (refl, omega arith) (inl refl)

may_none : MayMake tickets (0 ∷ []) []
may_none = makes_none tickets (0 ∷ [])

may_add : MayMake tickets (0 ∷ []) (AddOne ∷ [])
may_add = makes_more tickets (0 ∷ []) AddOne [] word_under tt may_none

-- change: a script tests words under locks that it has seized, and ends in such effects
keeps : (job : Job) → KeepsTo tickets (DecidesUnder tickets) [] (script job)
unfolding KeepsTo ◌>>=◌
keeps Take = (omega arith, (word_under, λ value below. may_add))
keeps Look = (omega arith, (word_under, λ value below. may_none))

firsts : (job : Job) → first_wanted (script job) ≡ Err (Seize 0)
unfolding first_wanted ◌>>=◌
firsts Take = refl
firsts Look = refl

-- change: run alone, a job decides as it does when done whole
decides : (job : Job) (words : List ℕ) (taken : ℕ) → length words ≡ 3 → Shows words taken → DecidesAs tickets words (whole taken job) (run words (script job))
unfolding run perform_all ◌>>=◌
decides Take words taken long shows = record {
  reply = shows.next;
  shows = record { next = index_same words 0 ((slice_index words 0 + 1) % 2 ^ 64) (omega arith) ∙ omega (arith, shows.next) };
  due = (tt, tt);
}
decides Look words taken long shows = record { reply = shows.next; shows = shows; due = tt }

-- change: what words show depends on the words under locks alone; the words of 0 show the opening
pub tickets_system : IsSystem tickets
tickets_system = record {
  sharing = preferring_is;
  same = same_number;
  words = words_apart layout tickets_jobs (ones_are 1);
  first = λ job right. firsts job;
  keeps = λ job right. keeps job;
  decides = λ job words taken right long are shows. decides job words taken long shows;
  looks = λ words other taken alike shows. record { next = sym (alike.under 0 0 (refl, omega arith)) ∙ shows.next };
  opens = zeros_open layout tickets_jobs (record { next = refl }) zero_unused;
}

-- change: a job tests at most one word and seizes at most one lock
pub asks : (job : Job) → AsksAtMost 1 1 (script job)
unfolding AsksAtMost ◌>>=◌
asks Take = λ value below. tt
asks Look = λ value below. tt
