-- walks that make steps of their own, through one script and then another
use Rattle.std.proofs.Common.{◌≡◌, ℕ, List, [], sym, ◌∙◌, ap, subst, Result, Ok, Err}
use Rattle.{turns.specs.Script.◌>>=◌, attempts.{specs.Points.Extends, proofs.WalksOnWords.{live_bind, live_extends, live_known, live_walks, then_on}}}
use Rattle.xbar_equip.{specs.Conn.conn_eq, proofs.PathTests.conn_eq-itself}
use Rattle.xbar_jobs.specs.{Closing.value_after, Script.{WalkOutcome, WalkState, Script, Wanted, conn_word, walk_on_words, walk}, declared.effect.Effect.Effect}

-- the outcome of a walk
abbrev pub comes : {A : Type 0} → Result A Wanted → WalkState → List ℕ → WalkOutcome A
comes found state words = record { found = found; state = state; words = words }

module _ (made : List Effect) where
  -- go on with what was found, from the state in which it was found
  abbrev pub then_live : {A B : Type 0} → WalkOutcome A → (A → WalkState → List ℕ → WalkOutcome B) → WalkOutcome B
  then_live come next = then_on conn_eq conn_word 42 19 (value_after made) come next

  -- by what its result is
  pub came : {A : Type 0} (script : Script A) (state more : WalkState) (words after : List ℕ) (result found : Result A Wanted)
      → comes result more after ≡ walk_on_words made script state words → result ≡ found → walk_on_words made script state words ≡ comes found more after
  came {A} script state more words after result found is was = sym is ∙ ap (λ (r : Result A Wanted). comes r more after) was

  -- the second script follows if the first was gone through
  pub goes_on : {A B : Type 0} (script : Script A) (next : A → Script B) (state more : WalkState) (words after : List ℕ) (found : A)
      → walk_on_words made script state words ≡ comes (Ok found) more after
      → walk_on_words made (script >>= next) state words ≡ walk_on_words made (next found) more after
  goes_on {A} script next state more words after found is =
      live_bind conn_eq conn_word 42 19 (value_after made) script next state words
      ∙ ap (λ (come : WalkOutcome A). then_live come (λ found. walk_on_words made (next found))) is

  -- and the walk stops if it stopped in the first
  pub stops : {A B : Type 0} (script : Script A) (next : A → Script B) (state more : WalkState) (words after : List ℕ) (wanted : Wanted)
      → walk_on_words made script state words ≡ comes (Err wanted) more after → walk_on_words made (script >>= next) state words ≡ comes (Err wanted) more after
  stops {A} script next state more words after wanted is =
      live_bind conn_eq conn_word 42 19 (value_after made) script next state words
      ∙ ap (λ (come : WalkOutcome A). then_live come (λ found. walk_on_words made (next found))) is

-- what was gone through takes no step
pub known : {A : Type 0} (script : Script A) (state : WalkState) (words : List ℕ) (found : A) → walk state.seen script ≡ Ok found
    → walk_on_words [] script state words ≡ comes (Ok found) state words
known script state words found is = live_known conn_eq conn_eq-itself conn_word 42 19 script found state words is

-- what is found now is what a walk finds in all that was read and seized
pub found_now : {A : Type 0} (script : Script A) (state more : WalkState) (words after : List ℕ) (found : Result A Wanted)
    → comes found more after ≡ walk_on_words [] script state words → walk more.seen script ≡ found
found_now {A} script state more words after found is =
    subst (λ (come : WalkOutcome A). walk come.state.seen script ≡ come.found) (sym is) (live_walks conn_eq conn_eq-itself conn_word 42 19 script state words)

-- what was read and seized before still is
pub grown : {A : Type 0} (script : Script A) (state more : WalkState) (words after : List ℕ) (found : Result A Wanted)
    → comes found more after ≡ walk_on_words [] script state words → Extends conn_eq state.seen more.seen
grown {A} script state more words after found is =
    subst (λ (come : WalkOutcome A). Extends conn_eq state.seen come.state.seen) (sym is)
    (live_extends conn_eq conn_eq-itself conn_word 42 19 script state words)
