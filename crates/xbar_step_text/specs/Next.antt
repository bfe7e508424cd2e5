-- Steps that are yet to be made, in words and as JSON objects.
use Rattle.std.specs.Prelude.{ℕ, List, [], ◌∷◌, codes, decimal}
use Rattle.std.specs.List.{concat}
use Rattle.xbar_jobs.specs.OnWords.{step_word}
use Rattle.xbar_jobs.specs.declared.program.Step.{Step}
use Rattle.xbar_jobs.specs.declared.program.Step.TheVariants as step
use Rattle.xbar_step_text.specs.Objects.{act_name, object_of, step_items}
use Rattle.xbar_step_text.specs.Places.{conn_name, place_name, place_of}
use Rattle.xbar_step_text.specs.Words.{cleared_by, close_words, open_words}

-- a step that is yet to be made, in words; `found` is the present value of its word
unfoldable pub next_words : ℕ → Step → List ℕ
next_words found (step.Request conn) = concat (codes "requests " ∷ conn_name conn ∷ [])
next_words found (step.Seize conn expected) = concat (codes "seizes " ∷ conn_name conn ∷ [])
next_words found (step.Withdraw conn) =
    concat (codes "withdraws its request for " ∷ conn_name conn ∷ [])
next_words found (step.Test word) = concat (codes "tests " ∷ place_name (place_of word) ∷ [])
next_words found step.Turn = codes "takes its turn"
next_words found (step.Close word bits) = close_words (place_of word) bits
next_words found (step.Open word mask) = open_words (place_of word) (cleared_by found mask)
next_words found (step.Free conn) = concat (codes "frees " ∷ conn_name conn ∷ [])
next_words found step.Finished = codes "makes no step"

-- the fields that it will close or open
unfoldable pub next_items : ℕ → Step → List ℕ
next_items found (step.Test word) = codes "[]"
next_items found next = step_items found next

-- the same as an object
unfoldable pub next_object : ℕ → Step → List ℕ
next_object found next =
    concat (codes "{\"act\":\"" ∷ act_name next ∷ codes "\",\"object\":" ∷ object_of next
    ∷ codes ",\"word\":" ∷ decimal (step_word next) ∷ codes ",\"items\":" ∷ next_items found next
    ∷ codes ",\"says\":\"" ∷ next_words found next ∷ codes "\"}" ∷ [])
