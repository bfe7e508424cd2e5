-- the steps of many markers are described one by one
use Rattle.std.proofs.Common.{◌≡◌, ℕ, zero, suc, Bool, true, false, List, [], ◌∷◌, ◌++◌, append_assoc, append-nil, refl, sym, ◌∙◌, ap, codes, flat_map}
use Rattle.std.proofs.Common.{if◌then◌else◌, map, replicate}
use Rattle.{std.proofs.lemmas.Grind.flat_map-append, xbar_plan.specs.Tables.Tables, xbar_moves.specs.{Exchange.{Exchange, OfPlan}, Moves.after_step}}
use Rattle.{xbar_moves.specs.Runs.{Steps, run_from}, xbar_walk.specs.{Items.{item_lines, step_item, walk_text_of}, Rows.is_short}}
use Rattle.xbar_walk.specs.Runs.{Made, last_number, made_by, made_items, made_lines, made_objects, walk_of_run}
use Rattle.xbar_walk.specs.{Walks.{Walk, added_by, walk_of_step, is_idle_in, observation_of, walk_of_steps}, declared.detail.Detail.Detail}
use Rattle.xbar_walk.{specs.declared.detail.Detail.TheVariants.{Each, JsonLines}, proofs.{Joining.each_alone, TestItems.step_item_lines}}
use Rattle.{xbar_walk.proofs.ToldSteps.{idle_tells_none, made_is_told, told_office}, xbar_step_text.specs.{Lines.{one_more, step_lines}, Objects.step_object}}

pub run_office : (ks : List ℕ) (w : Walk) → (walk_of_run ks w).office ≡ record w.office { exchange = run_from w.office.plan w.office.exchange (map Steps ks) }
unfolding walk_of_run
run_office [] w = refl
run_office (k ∷ ks) w =
    run_office ks (walk_of_step k w)
    ∙ ap (λ (o : OfPlan). record o { exchange = run_from o.plan o.exchange (map Steps ks) }) (told_office k w)

-- one step more
module _ (k : ℕ) (ks : List ℕ) (w : Walk) where
  abbrev later : List Made
  later = made_by w.office.plan ks (after_step w.office.plan k w.office.exchange)

  abbrev made : Made
  made = record { marker = k; observed = observation_of w.office.plan k w.office.exchange; records = added_by w.office.plan k w.office.exchange }

  abbrev all : Bool → List Made
  all idle = (if idle then [] else (made ∷ [])) ++ later

  next_later : made_by (walk_of_step k w).office.plan ks (walk_of_step k w).office.exchange ≡ later
  next_later = ap (λ (o : OfPlan). made_by o.plan ks o.exchange) (told_office k w)

  next_items : (idle : Bool) → is_idle_in w.office.exchange k ≡ idle
      → (walk_of_step k w).items ++ made_items (walk_of_step k w).detail (walk_of_step k w).number later ≡ w.items ++ made_items w.detail w.number (all idle)
  unfolding made_items
  next_items true is = ap (λ (x : Walk). x.items ++ made_items x.detail x.number later) (idle_tells_none k w is)
  next_items false is =
      ap (λ (x : Walk). x.items ++ made_items x.detail x.number later) (made_is_told k w is)
      ∙ append_assoc w.items (step_item w.detail (one_more w.number) k made.observed made.records ∷ []) (made_items w.detail (one_more w.number) later)

  next_number : (idle : Bool) → is_idle_in w.office.exchange k ≡ idle → last_number (walk_of_step k w).number later ≡ last_number w.number (all idle)
  unfolding last_number
  next_number true is = ap (λ (x : Walk). last_number x.number later) (idle_tells_none k w is)
  next_number false is = ap (λ (x : Walk). last_number x.number later) (made_is_told k w is)

pub run_items : (ks : List ℕ) (w : Walk) → (walk_of_run ks w).items ≡ w.items ++ made_items w.detail w.number (made_by w.office.plan ks w.office.exchange)
unfolding walk_of_run made_by made_items
run_items [] w = sym (append-nil w.items)
run_items (k ∷ ks) w =
    run_items ks (walk_of_step k w)
    ∙ ap (λ (these : List Made). (walk_of_step k w).items ++ made_items (walk_of_step k w).detail (walk_of_step k w).number these) (next_later k ks w)
    ∙ next_items k ks w (is_idle_in w.office.exchange k) refl

pub run_number : (ks : List ℕ) (w : Walk) → (walk_of_run ks w).number ≡ last_number w.number (made_by w.office.plan ks w.office.exchange)
unfolding walk_of_run made_by last_number
run_number [] w = refl
run_number (k ∷ ks) w =
    run_number ks (walk_of_step k w)
    ∙ ap (last_number (walk_of_step k w).number) (next_later k ks w)
    ∙ next_number k ks w (is_idle_in w.office.exchange k) refl

pub steps_are_run : (k count : ℕ) (w : Walk) → walk_of_steps k count w ≡ walk_of_run (replicate count k) w
unfolding walk_of_run walk_of_steps
steps_are_run k zero w = refl
steps_are_run k (suc count) w = steps_are_run k count (walk_of_step k w)

pub run_detail : (ks : List ℕ) (w : Walk) → (walk_of_run ks w).detail ≡ w.detail
unfolding walk_of_run
run_detail [] w = refl
run_detail (k ∷ ks) w = run_detail ks (walk_of_step k w) ∙ by (is_idle_in w.office.exchange k) refl where
  by : (idle : Bool) → is_idle_in w.office.exchange k ≡ idle → (walk_of_step k w).detail ≡ w.detail
  by true is = ap (λ (x : Walk). x.detail) (idle_tells_none k w is)
  by false is = ap (λ (x : Walk). x.detail) (made_is_told k w is)

-- if each item has its own lines, a test is described like any other step
one_text : (plan : Tables) (k : ℕ) (e : Exchange) (number : ℕ) (idle : Bool) (rest : List Made)
    → ((n : ℕ) → flat_map item_lines (made_items Each n rest) ≡ made_lines n rest)
    → flat_map item_lines (made_items Each number ((if idle then [] else
    (record { marker = k; observed = observation_of plan k e; records = added_by plan k e } ∷ [])) ++ rest))
    ≡ made_lines number ((if idle then [] else (record { marker = k; observed = observation_of plan k e; records = added_by plan k e } ∷ [])) ++ rest)
unfolding made_items made_lines
one_text plan k e number true rest later = later number
one_text plan k e number false rest later =
    ap (λ (lines : List ℕ). lines ++ flat_map item_lines (made_items Each (one_more number) rest)) (step_item_lines plan k e (one_more number))
    ∙ ap (λ (lines : List ℕ). step_lines (one_more number) k (observation_of plan k e) (added_by plan k e) ++ lines) (later (one_more number))

made_text : (plan : Tables) (ks : List ℕ) (e : Exchange) (number : ℕ)
    → flat_map item_lines (made_items Each number (made_by plan ks e)) ≡ made_lines number (made_by plan ks e)
unfolding made_by made_items made_lines
made_text plan [] e number = refl
made_text plan (k ∷ ks) e number =
    one_text plan k e number (is_idle_in e k) (made_by plan ks (after_step plan k e)) (λ n. made_text plan ks (after_step plan k e) n)

-- an object is described by its line
made_json : (made : List Made) (number : ℕ) → flat_map item_lines (made_items JsonLines number made) ≡ made_objects number made
unfolding made_items made_objects step_item item_lines
made_json [] number = refl
made_json (made ∷ later) number =
    ap (λ (text : List ℕ). (step_object (one_more number) made.marker made.observed made.records ++ codes "\n") ++ text) (made_json later (one_more number))

-- the text of a run, item by item
text_by_items : (detail : Detail) → is_short detail ≡ false → (ks : List ℕ) (w : Walk) → w.detail ≡ detail → walk_text_of detail (walk_of_run ks w).items
    ≡ walk_text_of detail w.items ++ flat_map item_lines (made_items detail w.number (made_by w.office.plan ks w.office.exchange))
text_by_items detail long ks w is =
    let made = made_by w.office.plan ks w.office.exchange in
    each_alone detail (walk_of_run ks w).items long
    ∙ ap (flat_map item_lines) (run_items ks w)
    ∙ flat_map-append item_lines w.items (made_items w.detail w.number made)
    ∙ ap (λ (lines : List ℕ). lines ++ flat_map item_lines (made_items w.detail w.number made)) (sym (each_alone detail w.items long))
    ∙ ap (λ (d : Detail). walk_text_of detail w.items ++ flat_map item_lines (made_items d w.number made)) is

pub run_text : (ks : List ℕ) (w : Walk) → w.detail ≡ Each
    → walk_text_of Each (walk_of_run ks w).items ≡ walk_text_of Each w.items ++ made_lines w.number (made_by w.office.plan ks w.office.exchange)
run_text ks w is =
    text_by_items Each refl ks w is
    ∙ ap (λ (lines : List ℕ). walk_text_of Each w.items ++ lines) (made_text w.office.plan ks w.office.exchange w.number)

pub run_json : (ks : List ℕ) (w : Walk) → w.detail ≡ JsonLines
    → walk_text_of JsonLines (walk_of_run ks w).items ≡ walk_text_of JsonLines w.items ++ made_objects w.number (made_by w.office.plan ks w.office.exchange)
run_json ks w is =
    text_by_items JsonLines refl ks w is
    ∙ ap (λ (text : List ℕ). walk_text_of JsonLines w.items ++ text) (made_json (made_by w.office.plan ks w.office.exchange) w.number)
