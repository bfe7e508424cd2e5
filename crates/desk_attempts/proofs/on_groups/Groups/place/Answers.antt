use Rattle.std.proofs.Common.{ℕ, ◌≤◌, ◌<◌, ◌-◌, ◌^◌, ◌/◌, ◌%◌, arith, subst, mod-lt}
use Rattle.{std.proofs.lemmas.Nat.mul-le, desk_attempts.specs.GroupPlaces.group_below}
use Rattle.desk_attempts.proofs.on_groups.Groups.place.Goals as goal

pub overflow_mul-result : goal.overflow_mul-result
overflow_mul-result c =
    let group = group_below c.args.self c.args.word (subst (λ (n : ℕ). c.args.word < n) c.words-words.ensures c.if-word-words.true) in
    let few : c.args.word / c.args.self.each ≤ 2 ^ 32 - 1 = omega (arith, group.0, c.ranges) in
    let fits = mul-le (c.args.word / c.args.self.each) c.stride.result (2 ^ 32 - 1) (2 ^ 32) few c.stride.ensures.far in
    omega (arith, fits)

pub overflow_add-result : goal.overflow_add-result
overflow_add-result c =
    let group = group_below c.args.self c.args.word (subst (λ (n : ℕ). c.args.word < n) c.words-words.ensures c.if-word-words.true) in
    let few : c.args.word / c.args.self.each ≤ 2 ^ 32 - 1 = omega (arith, group.0, c.ranges) in
    let fits = mul-le (c.args.word / c.args.self.each) c.stride.result (2 ^ 32 - 1) (2 ^ 32) few c.stride.ensures.far in
    let far : c.args.word % c.args.self.each < c.args.self.each = mod-lt c.args.word group.1 in
    omega (arith, fits, far, c.well_formed)
