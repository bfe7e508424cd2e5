-- Faults and their kinds.
use Rattle.std.proofs.Common.{◌≡◌, ◌∙◌, Bool, true, false, true≢false, ap, refl, sym, subst, inl, inr, [], ◌∷◌, Result, Ok, Err, IsErrAnd, MatchResult}
use Rattle.clap.specs.{Kinds.or_else, Words.{HasKind, Kinds, kind_of}, declared.error.{Error.Error, kind.ErrorKind.{ErrorKind, TheVariants.OutOfMemory}}}
use Rattle.crossbar5_command.specs.{Fault.{IsFaultAmong, fault_for, fault_of_kind}, declared.command_fault.CommandFault.CommandFault}
use Rattle.crossbar5_command.specs.declared.command_fault.CommandFault.TheVariants.{Memory, Refused}

-- if clap runs out of memory, the fault is `Memory`
pub fault_for-memory : (error : Error) → kind_of error ≡ OutOfMemory → fault_for error ≡ Memory
fault_for-memory error is = ap (λ kind. fault_of_kind kind error) is

abbrev is_memory : ErrorKind → Bool
is_memory OutOfMemory = true
is_memory _ = false

by_kind : (kinds : Kinds) (error : Error) (kind : ErrorKind) → kind_of error ≡ kind → HasKind kinds error
    → IsFaultAmong kinds (fault_of_kind kind error)
by_kind kinds error OutOfMemory is has = tt
by_kind kinds error _ is (inl memory) = absurd (true≢false (sym (ap is_memory memory) ∙ ap is_memory is))
by_kind kinds error _ is (inr among) = (λ memory. true≢false (sym (ap is_memory memory) ∙ ap is_memory is), among)

-- the fault for an error among some kinds is among them
pub fault_for-among : (kinds : Kinds) (error : Error) → HasKind kinds error → IsFaultAmong kinds (fault_for error)
fault_for-among kinds error has = by_kind kinds error (kind_of error) (λ i. kind_of error) has

-- a fault of no kind is that memory ran out
pub among_none : (fault : CommandFault) → IsFaultAmong [] fault → fault ≡ Memory
among_none Memory is = refl
among_none (Refused error) is = absurd is.1

-- a kind of the first list is among those of both, one or else the other
pub has_first : (a b : Kinds) (error : Error) → HasKind a error → HasKind (or_else a b) error
has_first [] b error (inl memory) = inl memory
has_first [] b error (inr among) = absurd among
has_first (kind ∷ kinds) b error has = has

-- where memory ran out, the fault is of any kinds
pub of_any_kind : {T : Type 0} (r : Result T CommandFault) (kinds : Kinds) → MatchResult r (λ _. ⊥) (λ fault. fault ≡ Memory)
    → IsErrAnd r (IsFaultAmong kinds)
of_any_kind (Ok x) kinds is = absurd is
of_any_kind (Err fault) kinds is = subst (IsFaultAmong kinds) (sym is) tt

-- a call that passed an error up gave the fault for it
pub told : {T : Type 0} (r : Result T CommandFault) (fault : CommandFault) (P : T → Type 0) (Q : CommandFault → Type 0)
    → IsErrAnd r (λ e. e ≡ fault) → Q fault → MatchResult r P Q
told (Ok x) fault P Q is q = absurd is
told (Err e) fault P Q is q = subst Q (sym is) q
