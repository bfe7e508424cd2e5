-- the events of rows are a list of objects, each after a comma
use Rattle.std.proofs.Common.{◌≡◌, ◌≢◌, drop, ℕ, List, [], ◌∷◌, ◌++◌, inl, inr, refl, sym, ◌∙◌, ap, subst, flat_map, replicate}
use Rattle.{std.proofs.lemmas.Grind.flat_map-append, xbar_plan.specs.Tables.Tables, xbar_moves.specs.Exchange.{Exchange, OfPlan}}
use Rattle.{xbar_traffic.specs.declared.row.Row.Row, xbar_walk.specs.{Items.{Item, assignment_item, item_lines, step_item, walk_text_of}, Observers.ChangesAs}}
use Rattle.xbar_walk.specs.{Runs.{Made, made_by, made_items}, Stories.IsStory, Walks.Walk, declared.detail.Detail.{Detail, TheVariants.JsonList}}
use Rattle.xbar_walk.{specs.declared.story.Story.Story, proofs.{Joining.each_alone, TellingRuns.{run_detail, run_items, steps_are_run}}}
use Rattle.crossbar5.specs.{Look.BeginsWithComma, Walk.{begun_at, walk_after_row, walk_after_rows}}
use Rattle.xbar_traffic.specs.declared.row.Row.TheVariants as row

made_begin : (number : ℕ) (made : List Made) → BeginsWithComma (flat_map item_lines (made_items JsonList number made))
unfolding made_items step_item item_lines
made_begin number [] = inl refl
made_begin number (made ∷ later) = inr (_, refl)

-- the items of a walk are such objects
record IsList (w : Walk) : Type 0 where
  detail : w.detail ≡ JsonList
  begins : BeginsWithComma (flat_map item_lines w.items)

either_begins : (one other : List ℕ) → BeginsWithComma one → BeginsWithComma other → BeginsWithComma (one ++ other)
either_begins one other (inl none) begins = subst (λ (lines : List ℕ). BeginsWithComma (lines ++ other)) (sym none) begins
either_begins one other (inr (rest, is)) begins = inr (rest ++ other, ap (λ (lines : List ℕ). lines ++ other) is)

both_begin : (items more : List Item) → BeginsWithComma (flat_map item_lines items) → BeginsWithComma (flat_map item_lines more)
    → BeginsWithComma (flat_map item_lines (items ++ more))
both_begin items more one other =
    subst BeginsWithComma (sym (flat_map-append item_lines items more)) (either_begins (flat_map item_lines items) (flat_map item_lines more) one other)

row_list : (row : Row) (w : Walk) → IsList w → IsList (walk_after_row row w)
unfolding walk_after_row assignment_item item_lines
row_list (row.Assign marker job_no job) w list = record {
  detail = list.detail;
  begins =
      both_begin w.items (assignment_item w.detail marker job_no job ∷ []) list.begins
      (subst (λ (d : Detail). BeginsWithComma (flat_map item_lines (assignment_item d marker job_no job ∷ []))) (sym list.detail) (inr (_, refl)));
}
row_list (row.Steps marker count) w list =
    let ks = replicate count marker in
    let made = made_by w.office.plan ks w.office.exchange in
    record {
      detail = ap (λ (x : Walk). x.detail) (steps_are_run marker count w) ∙ run_detail ks w ∙ list.detail;
      begins =
          subst (λ (items : List Item). BeginsWithComma (flat_map item_lines items))
          (sym (ap (λ (x : Walk). x.items) (steps_are_run marker count w) ∙ run_items ks w))
          (both_begin w.items (made_items w.detail w.number made) list.begins
          (subst (λ (d : Detail). BeginsWithComma (flat_map item_lines (made_items d w.number made))) (sym list.detail) (made_begin w.number made)));
    }
row_list (row.Call call_no line dialled release) w list = list

rows_list : (rows : List Row) (w : Walk) → IsList w → IsList (walk_after_rows rows w)
unfolding walk_after_rows
rows_list [] w list = list
rows_list (row ∷ rows) w list = rows_list rows (walk_after_row row w) (row_list row w list)

module _ (plan : Tables) (e : Exchange) (rows : List Row) where
  abbrev told : Walk
  told = walk_after_rows rows (begun_at JsonList plan e)

  list : IsList told
  list = rows_list rows (begun_at JsonList plan e) (record { detail = refl; begins = inl refl })

  pub events_begin : BeginsWithComma (walk_text_of JsonList told.items)
  events_begin = subst BeginsWithComma (sym (each_alone JsonList told.items refl)) list.begins

  -- they are the text of a story that began in this office
  pub events_text : (office : OfPlan) (story later : Story) (text : List ℕ) → IsStory story JsonList 0 []
      → ChangesAs IsStory (walk_after_rows rows) (record { plan = plan; exchange = e }) story office later
      → ((detail : Detail) (number : ℕ) (items : List Item) → IsStory later detail number items → text ≡ walk_text_of detail items)
      → text ≡ walk_text_of JsonList told.items
  events_text office story later text begun changes ends =
      let agrees = changes (begun_at JsonList plan e) (record { office_is = refl; described = begun }) in
      ends told.detail told.number told.items agrees.described ∙ ap (λ (detail : Detail). walk_text_of detail told.items) list.detail

-- a list that doesn't begin with a comma is empty
pub no_comma : (list : List ℕ) → BeginsWithComma list → ((rest : List ℕ) → list ≢ 44 ∷ rest) → list ≡ drop 1 list
no_comma _ (inl none) other = none ∙ sym (ap (drop 1) none)
no_comma _ (inr (rest, begins)) other = absurd (other rest begins)
