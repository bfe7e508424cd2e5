-- the office under a lawful plan is a system of jobs over shared words
use Rattle.std.proofs.Common.{◌≡◌, ℕ, ◌+◌, ◌<◌, ◌≤◌, List, [], length, slice_index, refl, sym, ap, ◌∙◌, subst, arith, Some, Err}
use Rattle.{std.proofs.lemmas.List.{get_or-replicate, length-replicate}, turns.specs.{Script.{◌>>=◌, first_wanted, run}, System.{AreAlike, AreApart}}}
use Rattle.turns.specs.{System.{DecidesUnder, IsInitial, IsSystem, KeepsTo}, declared.wanted.Wanted.TheVariants.Seize, Sharing.IsUnused, Sharings.preferring}
use Rattle.{turns.proofs.{Keeping.keeps_map, Preferring.{preferring_is, zero_unused}, Words.zeros_below}, xbar_equip.specs.Conn.IsConn}
use Rattle.xbar_equip.specs.Word.{Word, IsWord, word_number, protector, LineSwitch, LineJunctor, TrunkSwitch, TrunkJunctor, GroupWord, ConnWord, TurnWord}
use Rattle.xbar_equip.{specs.declared.{conn.Conn.{Conn, TheVariants.{Llf, Tlf, Group}}, path.Path.Path}, proofs.PathTests.conn_eq-exact}
use Rattle.{xbar_equip.proofs.WordNumbers.{conn_range, distinct, distinct_conns, each_named}, xbar_plan.specs.{Tables.Tables, Lawful.IsLawful}}
use Rattle.{xbar_match.specs.Shows.{WordShows, IsClosedIn}, xbar_office.specs.{Legal.IsJob, Whole.whole, declared.job.Job.{Job, TheVariants.{Dial, Complete}}}}
use Rattle.{xbar_office.specs.declared.job.Job.TheVariants.Release, xbar_jobs.specs.{Completing.complete_steps, Jobs.{dial_steps, first_conn, script}}}
use Rattle.xbar_jobs.specs.{Keeping.IsCovered, Office.{GroupShows, Protects, ShowsOffice, office}, Releasing.release_steps, Tracing.approach}
use Rattle.xbar_jobs.proofs.{CompleteDecides.complete_decides, Covered.protected_below, DialDecides.{DecidesOn, dial_takes}, FittingEffects.may_make}
use Rattle.xbar_jobs.proofs.{JobKeeps.script_keeps, ReleaseDecides.release_decides, OpenedWords.shows_opened}

one_protector : (number : ℕ) (a b : Conn) → Protects a number → Protects b number → a ≡ b
one_protector number a b p q =
    let same : p.word ≡ q.word = distinct p.word q.word p.there q.there (p.named ∙ sym q.named) in
    let first = p.protects in
    let second = q.protects in
    let one : protector p.word ≡ protector q.word = ap protector same in
    cc

-- the connector of a word is one of the office's
conn_of : (w : Word) (conn : Conn) → IsWord w → protector w ≡ Some conn → IsConn conn
conn_of (LineSwitch frame switch) conn is e = let same : Llf frame ≡ conn = cc in subst IsConn same is.0
conn_of (LineJunctor frame channel) conn is e = let same : Llf frame ≡ conn = cc in subst IsConn same is.0
conn_of (TrunkSwitch frame switch) conn is e = let same : Tlf frame ≡ conn = cc in subst IsConn same is.0
conn_of (TrunkJunctor frame channel) conn is e = let same : Tlf frame ≡ conn = cc in subst IsConn same is.0
conn_of (GroupWord group) conn is e = let same : Group group ≡ conn = cc in subst IsConn same is
conn_of (ConnWord c) conn is e = absurd cc
conn_of TurnWord conn is e = absurd cc

words_apart : (plan : Tables) → AreApart (office plan)
words_apart plan = record {
  one_lock_word = distinct_conns;
  lock_word_there = λ a is. let range = conn_range a is in omega arith;
  lock_word_bare = λ a conn is p. let range = conn_range a is in let below = protected_below conn (word_number (ConnWord a)) p in omega arith;
  turn_there = omega arith;
  turn_bare = λ conn p. let below = protected_below conn 452 p in omega arith;
  turn_apart = λ a is e. let range = conn_range a is in omega arith;
  word_there = λ number conn p. let below = protected_below conn number p in omega arith;
  lock_there = λ number conn p. conn_of p.word conn p.there p.protects;
  one_protector = one_protector;
}

-- every word below 416 is under a connector
protected_at : (n : ℕ) (w : Word) → IsWord w → word_number w ≡ n → n < 416 → (conn : Conn) × Protects conn n
protected_at n (LineSwitch frame switch) is e below = (Llf frame, record { word = LineSwitch frame switch; there = is; named = e; protects = refl })
protected_at n (LineJunctor frame channel) is e below = (Llf frame, record { word = LineJunctor frame channel; there = is; named = e; protects = refl })
protected_at n (TrunkSwitch frame switch) is e below = (Tlf frame, record { word = TrunkSwitch frame switch; there = is; named = e; protects = refl })
protected_at n (TrunkJunctor frame channel) is e below = (Tlf frame, record { word = TrunkJunctor frame channel; there = is; named = e; protects = refl })
protected_at n (GroupWord group) is e below = (Group group, record { word = GroupWord group; there = is; named = e; protects = refl })
protected_at n (ConnWord c) is e below = absurd (omega (arith, conn_range c is))
protected_at n TurnWord is e below = absurd (omega arith)

pub word_protected : (n : ℕ) → n < 416 → (conn : Conn) × Protects conn n
word_protected n below = let named = each_named n (omega arith) in protected_at n named.word named.is_word named.number below

same_below : (plan : Tables) (words other : List ℕ) → AreAlike (office plan) words other → (n : ℕ) → n < 416 → slice_index words n ≡ slice_index other n
same_below plan words other alike n below =
    let p = word_protected n below in
    alike.under n p.0 p.1

looks : (plan : Tables) (words other : List ℕ) (paths : List Path) → AreAlike (office plan) words other → ShowsOffice plan words paths
    → ShowsOffice plan other paths
looks plan words other paths alike shows = record {
  lawful = shows.lawful;
  switches = record {
    switch =
        λ n below. subst (λ (word : ℕ). WordShows (IsClosedIn paths) n word) (same_below plan words other alike n (omega arith))
        (shows.switches.switch n below);
  };
  groups =
      λ number below. subst (λ (word : ℕ). GroupShows plan paths number word) (same_below plan words other alike (400 + number) (omega arith))
      (shows.groups number below);
}

-- a job's script begins with its first connector
first_seized : (plan : Tables) (job : Job) → first_wanted (script plan job) ≡ Err (Seize (first_conn job))
unfolding script dial_steps complete_steps release_steps approach first_wanted ◌>>=◌
first_seized plan (Dial line) = refl
first_seized plan (Complete line dialled) = refl
first_seized plan (Release line) = refl

-- on words that show a set, a job's script decides as the one-marker office does
pub script_decides : (plan : Tables) (words : List ℕ) (paths : List Path) (job : Job) → IsLawful plan → 453 ≤ length words → ShowsOffice plan words paths
    → IsJob job
    → DecidesOn plan words (run words (script plan job)) (whole plan paths job)
unfolding script
script_decides plan words paths (Dial line) laws size shows in_range = (dial_takes plan words paths laws size shows line in_range).decides
script_decides plan words paths (Complete line dialled) laws size shows in_range = complete_decides plan words paths laws size shows line in_range.0 dialled
script_decides plan words paths (Release line) laws size shows in_range = release_decides plan words paths laws size shows line in_range

-- and it keeps to what it holds
keeps_under : (plan : Tables) (job : Job) → IsLawful plan → IsJob job → KeepsTo (office plan) (DecidesUnder (office plan)) [] (script plan job)
keeps_under plan job laws in_range =
    keeps_map (office plan) (IsCovered plan) (DecidesUnder (office plan)) [] (script plan job) (λ conns decision covered. may_make plan conns decision covered)
    (script_keeps plan job laws in_range)

-- the words that the office opens on are all 0
opens_on : (plan : Tables) → IsInitial (office plan)
opens_on plan = record {
  initial_length = length-replicate {A = ℕ} 453 0;
  are_words = zeros_below 453;
  shows = shows_opened plan;
  unused = λ conn is. let range = conn_range conn is in
      subst (IsUnused preferring) (sym (get_or-replicate 453 (word_number (ConnWord conn)) 0 0 (omega arith))) zero_unused;
  no_turn = get_or-replicate 453 452 0 0 (omega arith);
}

pub office_is : (plan : Tables) → IsLawful plan → IsSystem (office plan)
office_is plan laws = record {
  sharing = preferring_is;
  same = conn_eq-exact;
  words = words_apart plan;
  first = λ job in_range. first_seized plan job;
  keeps = λ job in_range. keeps_under plan job laws in_range;
  decides = λ job words paths in_range size are shows. script_decides plan words paths job laws (omega arith) shows in_range;
  looks = looks plan;
  opens = opens_on plan;
}
