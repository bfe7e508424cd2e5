use Rattle.std.proofs.Common.{rules, ◌≡◌, true, map, inr, refl, sym, ◌∙◌, ap, is_none}
use Rattle.{std.specs.List.list_all, xbar_equip.specs.Ten.is_trunk_place, xbar_plan.specs.{Lawful.{all_places, are_places_distinct}, Numbered.place_number}}
use Rattle.xbar_plan.proofs.Numbered.{numbers-distinct}
use Rattle.xbar_plan.proofs.lawful.places.check_places.Goals as goal

pub returns-in-Some : goal.returns-in-Some
returns-in-Some c =
    let all : list_all is_trunk_place (all_places c.args.tables.now.groups.now) ≡ true = search rules in
    let same = numbers-distinct (all_places c.args.tables.now.groups.now) all in
    let numbers : c.deref-3.result.now ≡ map place_number (all_places c.args.tables.now.groups.now) = search rules in
    let found : is_none c.in_ok-repeat.field-0 ≡ are_places_distinct c.args.tables.now.groups.now = rw (same, ← numbers) c.in_ok-repeat.ensures.distinct in
    (tt, inr (sym found ∙ ap is_none c.in-Some.is, refl))

pub returns : goal.returns
returns c =
    let all : list_all is_trunk_place (all_places c.args.tables.now.groups.now) ≡ true = search rules in
    let same = numbers-distinct (all_places c.args.tables.now.groups.now) all in
    let numbers : c.deref-3.result.now ≡ map place_number (all_places c.args.tables.now.groups.now) = search rules in
    let found : is_none c.in_ok-repeat.field-0 ≡ are_places_distinct c.args.tables.now.groups.now = rw (same, ← numbers) c.in_ok-repeat.ensures.distinct in
    sym found ∙ ap is_none c.in-None.is
