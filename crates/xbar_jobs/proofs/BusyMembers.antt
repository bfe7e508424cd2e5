-- which members of the groups are busy once a job has taken one of them
use Rattle.std.proofs.Common.{◌≡◌, ℕ, Bool, true, false, List, [], ◌∷◌, inl, inr, refl, ◌∙◌, ap, Option, Some, None, ◌&&◌, not}
use Rattle.{std.specs.{Option.option_map_or, List.list_all}, xbar_equip.specs.{Among.IsIn, Ten.TrunkPlace, Paths.{has_place, is_idle}, declared.path.Path.Path}}
use Rattle.xbar_plan.specs.{Group.places, Tables.{Tables, member_at}, Lawful.IsLawful, declared.group.Member.Member}
use Rattle.xbar_office.specs.{Done.with_call_paths, Members.is_member_idle, declared.trial.CallPaths.CallPaths}
use Rattle.{xbar_office.proofs.TakenMembers.{CanTake, own-take, others-take}, xbar_jobs.specs.Office.is_busy_at}

-- places that are as idle in one set as in another are all idle in both or in neither
pub as_idle : (paths more : List Path) (own : List TrunkPlace)
    → ((place : TrunkPlace) → IsIn place own → is_idle (has_place place) more ≡ is_idle (has_place place) paths)
    → list_all (λ place. is_idle (has_place place) more) own ≡ list_all (λ place. is_idle (has_place place) paths) own
as_idle paths more [] same = refl
as_idle paths more (p ∷ own) same =
    ap (λ b. b && list_all (λ place. is_idle (has_place place) more) own) (same p (inl refl))
    ∙ ap (λ b. is_idle (has_place p) paths && b) (as_idle paths more own (λ place within. same place (inr within)))

-- whether a member that was found is busy
abbrev pub busy_of : List Path → Option Member → Bool
busy_of paths found = option_map_or (λ member. not (is_member_idle paths member)) found false

module _ (plan : Tables) (paths : List Path) (group index : ℕ) (call : CallPaths) (can : CanTake plan paths group index call) where
  -- a member that can be taken is not busy
  pub idle_before : is_busy_at plan paths group index ≡ false
  idle_before = ap (busy_of paths) can.listed ∙ ap not can.idle

  -- once it is taken it is busy
  pub busy_after : is_busy_at plan (with_call_paths paths call) group index ≡ true
  busy_after =
      let first : is_idle (has_place can.member.first) (with_call_paths paths call) ≡ false =
      own-take plan paths group index call can can.member.first (inl refl) in
      ap (busy_of (with_call_paths paths call)) can.listed ∙ ap not (at (is_idle (has_place can.member.first) (with_call_paths paths call)) first _) where
        at : (b : Bool) → b ≡ false → (rest : Bool) → (b && rest) ≡ false
        at false e rest = refl
        at true e rest = cc

  -- and every other member is as busy as before
  pub others_after : IsLawful plan → (number at : ℕ) → (number ≡ group → at ≡ index → ⊥)
      → is_busy_at plan (with_call_paths paths call) number at ≡ is_busy_at plan paths number at
  others_after laws number at other = by (member_at plan number at) refl where
    by : (found : Option Member) → member_at plan number at ≡ found → busy_of (with_call_paths paths call) found ≡ busy_of paths found
    by None listed = refl
    by (Some member) listed =
        ap not (as_idle paths (with_call_paths paths call) (places member) (others-take plan paths group index call can laws number at member listed other))
