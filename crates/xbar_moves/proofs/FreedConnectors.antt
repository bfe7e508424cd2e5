-- a connector is freed in giving back, or past the turn once all effects are made, and no protected word is changed by it
use Rattle.std.proofs.Common.{◌≡◌, ℕ, ◌<◌, ◌⊎◌, List, [], ◌∷◌, slice_index, inl, inr, refl, ◌∙◌, ap, arith}
use Rattle.turns.specs.{Attempt.{act, act_in, closing_act}, declared.act.Act.TheVariants.Free}
use Rattle.turns.specs.{declared.phase.Phase.TheVariants.{Requests, Seizes, Tests, Turns, Withdraws, GivesBack, Operates}, Runs.is_finished, World.place}
use Rattle.{turns.proofs.Lists.index_other, xbar_equip.specs.declared.conn.Conn.Conn, xbar_plan.specs.Tables.Tables}
use Rattle.xbar_jobs.specs.{Attempt.{Act, Attempt, Phase}, Office.office, declared.effect.Effect.Effect}
use Rattle.xbar_moves.{specs.{Exchange.Exchange, Holding.IsAt, Moves.after_step}, proofs.{GivenBack.conn_behind, StepCases.step_made, Worlds.words_are}}

-- past the turn nothing is freed while an effect is left
none_made : (effects : List Effect) (held : List Conn) (conn : Conn) → closing_act effects held ≡ Free conn → effects ≡ []
none_made [] held conn frees = refl
none_made (effect ∷ effects) held conn frees = absurd cc

abbrev FreesIn : Attempt → Phase → Type 0
FreesIn a phase = (phase ≡ GivesBack) ⊎ ((turn : ℕ) × (phase ≡ Operates turn) × (a.effects ≡ []))

frees_in : (a : Attempt) (phase : Phase) (conn : Conn) → act_in phase a ≡ Free conn → FreesIn a phase
frees_in a (Requests asked) conn frees = absurd cc
frees_in a (Seizes asked expected) conn frees = absurd cc
frees_in a (Tests word) conn frees = absurd cc
frees_in a Turns conn frees = absurd cc
frees_in a (Withdraws asked) conn frees = absurd cc
frees_in a GivesBack conn frees = inl refl
frees_in a (Operates turn) conn frees = inr (turn, refl, none_made a.effects a.held conn frees)

pub frees_when : (a : Attempt) (conn : Conn) → act a ≡ Free conn → (a.phase ≡ GivesBack) ⊎ ((turn : ℕ) × (a.phase ≡ Operates turn) × (a.effects ≡ []))
frees_when a conn frees = frees_in a a.phase conn frees

-- the word that is changed is the connector's own
pub free_spares : (plan : Tables) (e : Exchange) (k number n : ℕ) (a : Attempt) (conn : Conn) → IsAt e k number a → act a ≡ Free conn → n < 416
    → slice_index (after_step plan k e).words n ≡ slice_index e.words n
free_spares plan e k number n a conn at frees below =
    let own = ap (λ (next : Act). place (office plan) next) frees in
    let behind = conn_behind plan conn in
    ap (λ (x : Exchange). slice_index x.words n) (step_made plan e k number a at (ap (λ (next : Act). is_finished next) frees))
    ∙ ap (λ (words : List ℕ). slice_index words n) (words_are plan k e.words a)
    ∙ index_other e.words _ n _ (λ same. omega (arith, same, own, behind, below))
