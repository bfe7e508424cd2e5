use Rattle.std.proofs.Common.{rules, ◌≡◌, ◌<◌, true, false, length, get_or, sym, ◌∙◌, ap, arith, None, is_some}
use Rattle.{std.proofs.lemmas.List.get_or_read, xbar_plan.{specs.Numbered.place_number, proofs.PlacedMembers.{put-free, put-taken}}}
use Rattle.xbar_plan.proofs.directory.members.with_place.Goals as goal

pub returns-then-is_some : goal.returns-then-is_some
returns-then-is_some c =
    let number : c.from-number.result ≡ place_number c.args.place = search rules in
    let range = c.place_number.ensures.range in
    let size = c.requires in
    let fits : c.from-number.result < length c.args.members.items = omega (arith, number, range, size) in
    let read = get_or_read c.args.members.items c.from-number.result c.index.result.now fits c.index.ensures None in
    let some : is_some c.index.result.now ≡ true = search rules in
    let taken : is_some (get_or c.args.members.items c.from-number.result None) ≡ true = ap is_some (sym read) ∙ some in
    put-taken c.args.members.items c.args.place c.args.found c.requires (rw number at taken)

pub returns : goal.returns
returns c =
    let number : c.from-number.result ≡ place_number c.args.place = search rules in
    let range = c.place_number.ensures.range in
    let size = c.requires in
    let fits : c.from-number.result < length c.args.members.items = omega (arith, number, range, size) in
    let read = get_or_read c.args.members.items c.from-number.result c.index.result.now fits c.index.ensures None in
    let none : is_some c.index.result.now ≡ false = search rules in
    let free : is_some (get_or c.args.members.items c.from-number.result None) ≡ false = ap is_some (sym read) ∙ none in
    rw number (put-free c.args.members.items c.args.place c.args.found c.requires c.place_number.ensures.place (rw number at free))
