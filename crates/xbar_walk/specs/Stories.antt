-- What a story describes.
use Rattle.std.specs.Prelude.{◌≡◌, ℕ, List, [], ◌∷◌, ◌++◌, map, string_bytes}
use Rattle.xbar_walk.specs.Items.{Item, Tests, walk_text_of}
use Rattle.xbar_step_text.specs.Lines.{one_more}
use Rattle.xbar_walk.specs.declared.story.Story.{Story}
use Rattle.xbar_walk.specs.declared.detail.Detail.{Detail}

-- a story describes these items, and its last step has this number: whatever items come later, the
-- whole text is what the story has written, then the text of its pending tests and of the later
-- items
pub record IsStory (story : Story) (detail : Detail) (number : ℕ) (items : List Item)
    : Type 0 where
  pub telling_is : story.detail ≡ detail
  pub number_is : story.number ≡ number
  pub text_is : (later : List Item)
      → walk_text_of detail (items ++ later)
      ≡ string_bytes story.text ++ walk_text_of detail (map Tests story.tests.items ++ later)

-- one more item is added to a story: a step, with the next number
abbrev pub AddsStep : (Detail → ℕ → Item) → Story → Story → Type 0
AddsStep item story next =
    (detail : Detail) (number : ℕ) (items : List Item) → IsStory story detail number items
    → IsStory next detail (one_more number) (items ++ item detail (one_more number) ∷ [])
