-- what is seen as effects will leave it
use Rattle.std.proofs.Common.{◌≡◌, ℕ, List, [], sym, ◌∙◌, ap, Result, Ok}
use Rattle.{turns.specs.Script.{Ends, TestThen}, attempts.proofs.WalksOnWords.{live_test_with, then_on}, xbar_equip.specs.Conn.conn_eq}
use Rattle.xbar_jobs.specs.{Closing.value_after, Script.{WalkOutcome, WalkState, Wanted, conn_word, walk_on_words}, declared.effect.Effect.Effect}

-- a word is seen as effects will leave what is read in it
pub value_seen : (made : List Effect) (word : ℕ) (state more : WalkState) (words after : List ℕ) (found : Result ℕ Wanted)
    → record { found = found; state = more; words = after } ≡ walk_on_words [] (TestThen word Ends) state words
    → then_on conn_eq conn_word 42 19 (value_after made) (record { found = found; state = more; words = after })
    (λ value state words. record { found = Ok (value_after made word value); state = state; words = words })
    ≡ walk_on_words made (TestThen word Ends) state words
value_seen made word state more words after found is =
    ap (λ (comes : WalkOutcome ℕ). then_on conn_eq conn_word 42 19 (value_after made) comes
    (λ value state words. record { found = Ok (value_after made word value); state = state; words = words })) is
    ∙ sym (live_test_with conn_eq conn_word 42 19 (value_after made) word state words)
