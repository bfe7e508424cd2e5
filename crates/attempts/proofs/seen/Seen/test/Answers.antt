use Rattle.std.proofs.Common.{ℕ, ap, sym, ◌∙◌}
use Rattle.attempts.{specs.WalkOnWords.read_at_once, proofs.SeenSteps.{tests_none, tests_now, tests_read}}
use Rattle.attempts.proofs.seen.Seen.test.Goals as goal

pub returns-in-Some : goal.returns-in-Some
returns-in-Some g c =
    λ word_of. tests_read g.L.PartialEq.eq g.row.READINGS g.row.HELD word_of (λ word value. value) _ c.args.self.now c.self.view_is c.args.words.now c.args.word
    c.in-Some.value (sym c.value_of.ensures ∙ c.in-Some.is)

pub returns-in-Some-read_now : goal.returns-in-Some-read_now
returns-in-Some-read_now g c =
    λ word_of. tests_now g.L.PartialEq.eq g.row.READINGS g.row.HELD word_of (λ word value. value) _ c.args.self.now c.self.view_is c.args.words.now c.args.word
    c.in-Some-read_now.value _ c.push.ensures (sym c.value_of.ensures ∙ c.in_default.is)
    (ap (λ (room : ℕ). read_at_once c.self.inside.cursor.left room c.args.words.now c.args.word) (sym c.room.ensures) ∙ sym c.read_now.ensures.read
    ∙ c.in-Some-read_now.is)

pub returns-in-None : goal.returns-in-None
returns-in-None g c =
    λ word_of. tests_none g.L.PartialEq.eq g.row.READINGS g.row.HELD word_of (λ word value. value) _ c.args.self.now c.self.view_is c.args.words.now c.args.word
    (sym c.value_of.ensures ∙ c.in_default.is) (ap (λ (room : ℕ). read_at_once c.self.inside.cursor.left room c.args.words.now c.args.word) (sym c.room.ensures)
    ∙ sym c.read_now.ensures.read ∙ c.in-None.is)

pub overflow_sub-self : goal.overflow_sub-self
overflow_sub-self g c = c.in-Some-read_now.ensures.steps
