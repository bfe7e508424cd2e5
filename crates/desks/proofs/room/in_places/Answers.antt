use Rattle.std.proofs.Common.{◌≡◌, ◌+◌, ℕ, slice_index, ap, ◌∙◌, subst, arith}
use Rattle.{turns.specs.Places.words_in, desks.proofs.Placing.from_same}
use Rattle.desks.proofs.room.in_places.Goals as goal

pub returns-clause-words : goal.returns-clause-words
returns-clause-words g c =
    let P = g.F.Jobs.places c.args.setting.now in
    let words = c.args.words.now in
    let table = c.loop-word.table.items in
    subst (λ (size : ℕ). words_in P size table ≡ words) c.requires.words
    (from_same P 0 words table (λ n below. let same : 0 + n ≡ n = omega arith in
    ap (λ (w : ℕ). slice_index table (P.place w)) same ∙ c.loop-word.invariant.placed n (omega (arith, below, c.loop-word-test.false))))
