use Rattle.std.proofs.Common.{◌≡◌, ◌-◌, ℕ, List, length, arith, ap, sym, ◌∙◌, slice_get}
use Rattle.{std.proofs.lemmas.Option.slice_get_within, turns.specs.Script.is_held, attempts.specs.WalkOnWords.may_seize}
use Rattle.attempts.proofs.SeenSteps.{seizes_held, seizes_none, seizes_now}
use Rattle.attempts.proofs.seen.Seen.seize.Goals as goal

pub returns-then-is_held : goal.returns-then-is_held
returns-then-is_held g c =
    λ word_of change own. seizes_held g.L.PartialEq.eq g.row.READINGS g.row.HELD word_of change _ c.args.self.now c.self.view_is c.args.words.now c.args.lock
    c.args.lock_word own (ap (λ (held : List _). is_held g.L.PartialEq.eq held c.args.lock) (sym c.as_slice.ensures.value) ∙ sym c.is_held.ensures
    ∙ c.if-is_held.true)

pub returns-then-may_seize : goal.returns-then-may_seize
returns-then-may_seize g c = λ word_of change own.
    let room : c.remaining_capacity-room.result ≡ g.row.HELD - length c.self.inside.held.items = omega (arith, c.remaining_capacity-room.ensures) in
    let at_once =
    ap (λ (n : ℕ). may_seize c.self.inside.cursor.left n (slice_get c.args.words.now c.args.lock_word)) (sym room)
    ∙ ap (may_seize c.self.inside.cursor.left c.remaining_capacity-room.result) (sym c.value_at.ensures) ∙ sym c.may_seize.ensures.may ∙ c.if-may_seize.true in
    seizes_now g.L.PartialEq.eq g.row.READINGS g.row.HELD word_of change _ c.args.self.now c.self.view_is c.args.words.now c.args.lock c.args.lock_word own _
    c.push.ensures.items (ap (λ (held : List _). is_held g.L.PartialEq.eq held c.args.lock) (sym c.as_slice.ensures.value) ∙ sym c.is_held.ensures
    ∙ c.if-is_held.false) at_once

pub returns : goal.returns
returns g c = λ word_of change own.
    let room : c.remaining_capacity-room.result ≡ g.row.HELD - length c.self.inside.held.items = omega (arith, c.remaining_capacity-room.ensures) in
    let at_once =
    ap (λ (n : ℕ). may_seize c.self.inside.cursor.left n (slice_get c.args.words.now c.args.lock_word)) (sym room)
    ∙ ap (may_seize c.self.inside.cursor.left c.remaining_capacity-room.result) (sym c.value_at.ensures) ∙ sym c.may_seize.ensures.may ∙ c.if-may_seize.false in
    seizes_none g.L.PartialEq.eq g.row.READINGS g.row.HELD word_of change _ c.args.self.now c.self.view_is c.args.words.now c.args.lock c.args.lock_word own
    (ap (λ (held : List _). is_held g.L.PartialEq.eq held c.args.lock) (sym c.as_slice.ensures.value) ∙ sym c.is_held.ensures ∙ c.if-is_held.false) at_once

pub bounds-words-lock_word : goal.bounds-words-lock_word
bounds-words-lock_word g c = slice_get_within c.args.words.now c.args.lock_word 0 (sym c.value_at.ensures ∙ c.may_seize.ensures.word c.if-may_seize.true)

pub overflow_sub-self : goal.overflow_sub-self
overflow_sub-self g c = c.may_seize.ensures.steps c.if-may_seize.true
