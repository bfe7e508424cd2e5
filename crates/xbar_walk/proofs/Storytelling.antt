-- what a story describes, item by item
use Rattle.std.proofs.Common.{◌≡◌, ℕ, true, false, List, [], ◌∷◌, ◌++◌, append_assoc, append-nil, sym, subst, ◌∙◌, ap, map, string_bytes}
use Rattle.{std.proofs.lemmas.List.map-append, xbar_walk.specs.Items.{Item, Says, Tests, after_object, before_object, walk_text_of}}
use Rattle.xbar_walk.specs.{Rows.{are_joined, shares_line, tests_text}, Observers.Adds, Stories.IsStory, declared.{story.Story.Story, detail.Detail.Detail}}
use Rattle.xbar_walk.{specs.declared.rows.Tested.Tested, proofs.{Joining.{joined_text, leads_by_items, said_between, text_cut}, StepItems.framed}}

-- a new story has no items
pub begins : (story : Story) (detail : Detail) → story.detail ≡ detail → story.number ≡ 0 → string_bytes story.text ≡ [] → story.tests.items ≡ []
    → IsStory story detail 0 []
begins story detail same number text tests = record {
  telling_is = same;
  number_is = number;
  text_is = λ later. sym (
      ap (λ (t : List ℕ). t ++ walk_text_of detail (map Tests story.tests.items ++ later)) text
      ∙ ap (λ (kept : List Tested). walk_text_of detail (map Tests kept ++ later)) tests
      );
}

-- what is added may be told in another way, if it is the same in the story's detail
pub same_added : (story next : Story) (item other : Detail → Item) → item story.detail ≡ other story.detail → Adds IsStory item story next
    → Adds IsStory other story next
same_added story next item other is adds detail number items was =
    subst (λ (added : Item). IsStory next detail number (items ++ added ∷ [])) (ap item (sym was.telling_is) ∙ is ∙ ap other was.telling_is)
    (adds detail number items was)

module _ (story next : Story) (same : next.detail ≡ story.detail) where
  -- a test that shares the line of the pending tests
  pub test_kept : (tested : Tested) → next.number ≡ story.number → string_bytes next.text ≡ string_bytes story.text
      → next.tests.items ≡ story.tests.items ++ tested ∷ []
      → Adds IsStory (λ detail. Tests tested) story next
  test_kept tested number text tests detail count items was = record {
    telling_is = same ∙ was.telling_is;
    number_is = number ∙ was.number_is;
    text_is = λ later.
        ap (walk_text_of detail) (append_assoc items (Tests tested ∷ []) later)
        ∙ was.text_is (Tests tested ∷ later)
        ∙ ap (λ (all : List Item). string_bytes story.text ++ walk_text_of detail all)
        (sym (append_assoc (map Tests story.tests.items) (Tests tested ∷ []) later))
        ∙ ap (λ (all : List Item). string_bytes story.text ++ walk_text_of detail (all ++ later)) (sym (map-append Tests story.tests.items (tested ∷ [])))
        ∙ ap (λ (kept : List Tested). string_bytes story.text ++ walk_text_of detail (map Tests kept ++ later)) (sym tests)
        ∙ ap (λ (t : List ℕ). t ++ walk_text_of detail (map Tests next.tests.items ++ later)) (sym text);
  }

  -- a test that doesn't: the tests before it are written
  pub test_begins : (tested : Tested) → are_joined story.detail story.tests.items ≡ true → shares_line story.detail story.tests.items tested ≡ false
      → next.number ≡ story.number → string_bytes next.text ≡ string_bytes story.text ++ tests_text story.tests.items → next.tests.items ≡ tested ∷ []
      → Adds IsStory (λ detail. Tests tested) story next
  test_begins tested joined parted number text tests detail count items was =
      let kept = map Tests story.tests.items in
      let whole : walk_text_of detail kept ≡ tests_text story.tests.items =
      ap (λ (t : Detail). walk_text_of t kept) (sym was.telling_is) ∙ joined_text story.detail story.tests.items joined in
      record {
        telling_is = same ∙ was.telling_is;
        number_is = number ∙ was.number_is;
        text_is = λ later.
            ap (walk_text_of detail) (append_assoc items (Tests tested ∷ []) later)
            ∙ was.text_is (Tests tested ∷ later)
            ∙ ap (λ (t : List ℕ). string_bytes story.text ++ t)
            (text_cut detail kept (Tests tested) later (leads_by_items detail story.tests.items tested
            ∙ ap (λ (t : Detail). shares_line t story.tests.items tested) (sym was.telling_is) ∙ parted)
            ∙ ap (λ (t : List ℕ). t ++ walk_text_of detail (Tests tested ∷ later)) whole)
            ∙ sym (append_assoc (string_bytes story.text) (tests_text story.tests.items) (walk_text_of detail (Tests tested ∷ later)))
            ∙ ap (λ (t : List ℕ). t ++ walk_text_of detail (Tests tested ∷ later)) (sym text)
            ∙ ap (λ (these : List Tested). string_bytes next.text ++ walk_text_of detail (map Tests these ++ later)) (sym tests);
      }

  -- other lines: the tests before them are written
  pub lines_added : (lines : List ℕ) → are_joined story.detail story.tests.items ≡ true
      → next.number ≡ story.number → string_bytes next.text ≡ (string_bytes story.text ++ tests_text story.tests.items) ++ lines → next.tests.items ≡ []
      → Adds IsStory (λ detail. Says lines) story next
  lines_added lines joined number text tests detail count items was =
      let kept = map Tests story.tests.items in
      let whole : walk_text_of detail kept ≡ tests_text story.tests.items =
      ap (λ (t : Detail). walk_text_of t kept) (sym was.telling_is) ∙ joined_text story.detail story.tests.items joined in
      record {
        telling_is = same ∙ was.telling_is;
        number_is = number ∙ was.number_is;
        text_is = λ later.
            ap (walk_text_of detail) (append_assoc items (Says lines ∷ []) later)
            ∙ was.text_is (Says lines ∷ later)
            ∙ ap (λ (t : List ℕ). string_bytes story.text ++ t)
            (said_between detail kept lines later ∙ ap (λ (t : List ℕ). t ++ (lines ++ walk_text_of detail later)) whole)
            ∙ sym (append_assoc (string_bytes story.text) (tests_text story.tests.items) (lines ++ walk_text_of detail later))
            ∙ sym (append_assoc (string_bytes story.text ++ tests_text story.tests.items) lines (walk_text_of detail later))
            ∙ ap (λ (t : List ℕ). t ++ walk_text_of detail later) (sym text)
            ∙ ap (λ (these : List Tested). string_bytes next.text ++ walk_text_of detail (map Tests these ++ later)) (sym tests);
      }

  pub item_added : (lines : List ℕ) (item : Detail → Item) → Says lines ≡ item story.detail → are_joined story.detail story.tests.items ≡ true
      → next.number ≡ story.number → string_bytes next.text ≡ (string_bytes story.text ++ tests_text story.tests.items) ++ lines → next.tests.items ≡ []
      → Adds IsStory item story next
  item_added lines item is joined number text tests = same_added story next (λ detail. Says lines) item is (lines_added lines joined number text tests)

  -- so too an object, with what is written around it
  pub object_added : (object t before after : List ℕ) (item : Detail → Item) → Says (framed story.detail object) ≡ item story.detail
      → are_joined story.detail story.tests.items ≡ true
      → t ≡ string_bytes story.text ++ tests_text story.tests.items → before ≡ before_object story.detail → after ≡ after_object story.detail
      → next.number ≡ story.number → string_bytes next.text ≡ t ++ (before ++ (object ++ after)) → next.tests.items ≡ [] → Adds IsStory item story next
  object_added object t before after item is joined texts opens closes number text tests =
      item_added (framed story.detail object) item is joined number
      (text
      ∙ ap (λ (added : List ℕ). added ++ (before ++ (object ++ after))) texts
      ∙ ap (λ (b : List ℕ). (string_bytes story.text ++ tests_text story.tests.items) ++ (b ++ (object ++ after))) opens
      ∙ ap (λ (a : List ℕ). (string_bytes story.text ++ tests_text story.tests.items) ++ (before_object story.detail ++ (object ++ a))) closes)
      tests

-- the text of it all
pub ends : (story : Story) (text : List ℕ) → are_joined story.detail story.tests.items ≡ true → text ≡ string_bytes story.text ++ tests_text story.tests.items
    → (detail : Detail) (number : ℕ) (items : List Item) → IsStory story detail number items → text ≡ walk_text_of detail items
ends story text joined is detail number items was =
    is
    ∙ ap (λ (t : List ℕ). string_bytes story.text ++ t)
    (sym (joined_text story.detail story.tests.items joined) ∙ ap (λ (t : Detail). walk_text_of t (map Tests story.tests.items)) was.telling_is)
    ∙ ap (λ (all : List Item). string_bytes story.text ++ walk_text_of detail all) (sym (append-nil (map Tests story.tests.items)))
    ∙ sym (was.text_is [])
    ∙ ap (walk_text_of detail) (append-nil items)
