-- words that are all 0 show the empty set of paths
use Rattle.std.proofs.Common.{◌≡◌, ℕ, ◌+◌, Bool, true, false, List, [], ◌∷◌, replicate, inl, refl, sym, ◌∙◌, ap, subst, arith, Option, Some, None, not}
use Rattle.std.proofs.Common.{if◌then◌else◌}
use Rattle.std.{specs.{Option.option_map_or, List.list_all, Int.bit_at}, proofs.lemmas.{List.get_or-replicate, Nat.Bits.bit_at-zero}}
use Rattle.{xbar_equip.specs.{Ten.TrunkPlace, Paths.{has_place, is_idle}}, xbar_plan.specs.{Group.places, Tables.{Tables, member_at}}}
use Rattle.{xbar_plan.specs.declared.group.Member.Member, xbar_switch.specs.Field.{field_of, above_fields}, xbar_match.specs.Shows.{IsClosedIn, WordShows}}
use Rattle.{xbar_office.{specs.Members.is_member_idle, proofs.LawfulJobs.lawful-empty}, xbar_jobs.specs.Office.ShowsOffice}

-- in a word that is 0 all fields are open
open_word : (n : ℕ) → WordShows (IsClosedIn []) n 0
unfolding field_of above_fields
open_word n = record {
  closed = λ c closed here. absurd closed.1;
  others = λ v below. inl (omega arith);
  above = omega arith;
}

all_idle : (own : List TrunkPlace) → list_all (λ place. is_idle (has_place place) []) own ≡ true
all_idle [] = refl
all_idle (place ∷ own) = all_idle own

-- with no paths no member is busy
none_busy : (found : Option Member) → option_map_or (λ member. not (is_member_idle [] member)) found false ≡ false
none_busy None = refl
none_busy (Some member) = ap not (all_idle (places member))

-- words that are all 0 show no paths
pub shows_opened : (plan : Tables) → ShowsOffice plan (replicate 453 0) []
shows_opened plan = record {
  lawful = lawful-empty plan;
  switches =
      record { switch = λ n below. subst (λ (word : ℕ). WordShows (IsClosedIn []) n word) (sym (get_or-replicate 453 n 0 0 (omega arith))) (open_word n) };
  groups =
      λ number below index. ap (λ (word : ℕ). bit_at word index) (get_or-replicate 453 (400 + number) 0 0 (omega arith)) ∙ bit_at-zero index
      ∙ ap (λ (b : Bool). if b then 1 else 0) (sym (none_busy (member_at plan number index)));
}
