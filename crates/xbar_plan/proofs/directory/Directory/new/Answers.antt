use Rattle.std.proofs.Common.{rules, ◌≡◌, length, map, ◌∙◌, ap, arith}
use Rattle.{std.proofs.lemmas.List.length-map, xbar_plan.specs.{Tables.{Station, Route}, TableSlices.tables_of}}
use Rattle.xbar_plan.proofs.{LawfulPlans.{group_count-range, member_count-range}, LawfulDirectories.{few-stations, few-routes, first-items}}
use Rattle.xbar_plan.proofs.directory.Directory.new.Goals as goal

pub first_places-requires : goal.first_places-requires
first_places-requires c =
    let numbers : c.deref.result.now ≡ map (λ (s : Station). s.number) c.args.tables.now.stations.now = search rules in
    let size : length c.deref.result.now ≡ length c.args.tables.now.stations.now =
    ap length numbers ∙ length-map c.args.tables.now.stations.now (λ (s : Station). s.number) in
    let few = few-stations (tables_of c.args.tables.now) c.requires in
    omega (arith, size, few)

pub first_places-requires-2 : goal.first_places-requires-2
first_places-requires-2 c =
    let codes : c.deref-2.result.now ≡ map (λ (r : Route). r.code) c.args.tables.now.routes.now = search rules in
    let size : length c.deref-2.result.now ≡ length c.args.tables.now.routes.now =
    ap length codes ∙ length-map c.args.tables.now.routes.now (λ (r : Route). r.code) in
    let few = few-routes (tables_of c.args.tables.now) c.requires in
    omega (arith, size, few)

pub placed_members-requires-clause-few : goal.placed_members-requires-clause-few
placed_members-requires-clause-few c =
    (group_count-range (tables_of c.args.tables.now) c.requires).1

pub placed_members-requires-clause-members : goal.placed_members-requires-clause-members
placed_members-requires-clause-members c = λ number group here.
    (member_count-range (tables_of c.args.tables.now) c.requires number group here).1

pub returns : goal.returns
returns c =
    let numbers : c.deref.result.now ≡ map (λ (s : Station). s.number) c.args.tables.now.stations.now = search rules in
    let codes : c.deref-2.result.now ≡ map (λ (r : Route). r.code) c.args.tables.now.routes.now = search rules in
    record {
      stations =
          first-items (λ (s : Station). s.number) c.args.tables.now.stations.now c.deref.result.now 10000 c.in_ok-stations.stations.items numbers
          c.in_ok-stations.ensures.size c.in_ok-stations.ensures.first;
      routes =
          first-items (λ (r : Route). r.code) c.args.tables.now.routes.now c.deref-2.result.now 1000 c.in_ok-routes.routes.items codes
          c.in_ok-routes.ensures.size c.in_ok-routes.ensures.first;
      members = c.in_ok-members.ensures;
      faults = c.in_ok-faults.ensures;
    }
