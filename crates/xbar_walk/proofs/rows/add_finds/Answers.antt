use Rattle.std.proofs.Common.{◌≡◌, [], ◌∷◌, ◌++◌, Bool, List, get_or, take, sym, ap, subst, ◌∙◌, ◌||◌, string_bytes, take_all}
use Rattle.{std.proofs.lemmas.List.take_more, xbar_walk.{specs.{Rows.row_found, declared.rows.Tested.Tested}, proofs.Finding.{AreFound, none_found}}}
use Rattle.{xbar_walk.proofs.Finding.{nothing_found, one_found, some_found}, xbar_step_text.specs.declared.place.Place.TheVariants.LineSwitch}
use Rattle.xbar_walk.proofs.rows.add_finds.Goals.{then-any, else-any}
use Rattle.xbar_walk.proofs.rows.add_finds.Goals as goal

pub loop-tested-init : goal.loop-tested-init
loop-tested-init c = none_found (string_bytes c.args.text.now)

pub loop-tested-preserved : goal.loop-tested-preserved
loop-tested-preserved c =
    let either : c.if-any.any ≡ (c.loop-tested.any || c.in_ok-some.some) = elim c.if-any.branch [
      | then-any w ↦ w.any-is ∙ w.if-any.true ∙ sym (ap (λ (b : Bool). b || c.in_ok-some.some) w.if-any.true)
      | else-any w ↦ w.any-is ∙ sym (ap (λ (b : Bool). b || c.in_ok-some.some) w.if-any.false)
    ] in
    let none : Tested = record { number = 0; marker = 0; place = LineSwitch 0 0; word = 0 } in
    let index = c.loop-tested.tested-index in
    subst (λ (tests : List Tested). AreFound tests (string_bytes c.args.text.now) (string_bytes c.add_items.new.text) c.if-any.any)
    (sym (take_more c.args.tests.now index none c.loop-tested-test.true))
    (subst (λ (any : Bool). AreFound (take index c.args.tests.now ++ get_or c.args.tests.now index none ∷ []) (string_bytes c.args.text.now)
    (string_bytes c.add_items.new.text) any) (sym either)
    (one_found (take index c.args.tests.now) (get_or c.args.tests.now index none) _ _ _ c.loop-tested.invariant _ _ _ c.in_ok-some.ensures.any
    c.lead-head.ensures c.in_ok-some.ensures.text))

pub returns-then-any-2 : goal.returns-then-any-2
returns-then-any-2 c =
    some_found _ _ _ _ c.loop-tested.invariant c.if-any-2.true
    ∙ ap (λ (tests : List Tested). string_bytes c.args.text.now ++ row_found tests)
    (take_all c.loop-tested.tested-index c.args.tests.now c.loop-tested-test.false)

pub returns : goal.returns
returns c =
    nothing_found _ _ _ _ c.loop-tested.invariant _ c.if-any-2.false c.in_ok-push_str.ensures.bytes
    ∙ ap (λ (tests : List Tested). string_bytes c.args.text.now ++ row_found tests)
    (take_all c.loop-tested.tested-index c.args.tests.now c.loop-tested-test.false)
