-- Whether a job ended with dial tone.
use Rattle.std.proofs.Common.{◌≡◌, ℕ, false, refl}
use Rattle.{xbar_equip.specs.declared.path.Path.Path, xbar_office.specs.declared.reply.End.{End, TheVariants.{CalledBusy, Connected, DialTone, LineBusy}}}
use Rattle.xbar_office.specs.declared.reply.End.TheVariants.{NoCall, NoPath, NoRegister, RegistersBusy, Released, Trouble, TrunksBusy, VacantCode, VacantNumber}
use Rattle.xbar_markers.specs.Calls.{is_dial_tone}

pub not_tone : (end : End) → ((path : Path) (trial : ℕ) → end ≡ DialTone path trial → ⊥)
    → is_dial_tone end ≡ false
not_tone (DialTone path trial) not = absurd (not path trial refl)
not_tone (Connected calling called trial) not = refl
not_tone (Released own other) not = refl
not_tone CalledBusy not = refl
not_tone LineBusy not = refl
not_tone RegistersBusy not = refl
not_tone TrunksBusy not = refl
not_tone NoPath not = refl
not_tone Trouble not = refl
not_tone VacantCode not = refl
not_tone VacantNumber not = refl
not_tone NoRegister not = refl
not_tone NoCall not = refl
