use Rattle.std.proofs.Common.{◌≡◌, ℕ, ◌+◌, ◌*◌, ◌≤◌, ◌<◌, Some, None, sym, subst, arith}
use Rattle.slots.{specs.{System.free_in, declared.bank.TheConstants.BANK_SIZE}, proofs.SlotBits.{zero_free, zero_none}}
use Rattle.slots.proofs.bank.lowest_free.Goals as goal

pub returns-then-taken-lt-BANK_SIZE-clause-free : goal.returns-then-taken-lt-BANK_SIZE-clause-free
returns-then-taken-lt-BANK_SIZE-clause-free c =
    subst (λ (taken : ℕ). taken < BANK_SIZE → Some (BANK_SIZE * c.args.bank + taken) ≡ free_in c.args.bank c.args.word) (sym c.trailing_ones-taken.ensures)
    (λ few. sym (zero_free c.args.bank c.args.word c.requires few)) (omega (arith, c.if-taken-lt-BANK_SIZE.true))

pub returns-else-taken-lt-BANK_SIZE-clause-free : goal.returns-else-taken-lt-BANK_SIZE-clause-free
returns-else-taken-lt-BANK_SIZE-clause-free c =
    subst (λ (taken : ℕ). BANK_SIZE ≤ taken → None ≡ free_in c.args.bank c.args.word) (sym c.trailing_ones-taken.ensures)
    (λ all. sym (zero_none c.args.bank c.args.word c.requires all)) (omega (arith, c.if-taken-lt-BANK_SIZE.false))
