-- parties whose words are those of their line switches, also once effects are made
use Rattle.std.proofs.Common.{◌≡◌, ℕ, ◌<◌, List, [], ◌∷◌, ◌++◌, inl, inr, refl, sym, ◌∙◌, ap, subst, length, arith, Some, option_map}
use Rattle.turns.{specs.{Among.IsIn, System.perform_all}, proofs.Completed.perform_index}
use Rattle.{xbar_equip.specs.{Len.{Line, IsLine}, Path.IsPath, Word.{word_number, LineSwitch}, declared.path.Path.Path}, xbar_match.specs.Switches.word_of}
use Rattle.xbar_match.proofs.PathEffects.{crosspoint_line, crosspoint_line_junctor, crosspoint_trunk_junctor, crosspoint_trunk}
use Rattle.{xbar_office.specs.declared.trial.Parties.Parties, xbar_plan.specs.Tables.Tables}
use Rattle.xbar_jobs.specs.{Closing.{effect_word, value_after, path_closes, path_opens}, Office.office, Sides.party_after, declared.effect.Effect.Effect}
use Rattle.xbar_jobs.specs.declared.{effect.Effect.TheVariants.ClearBit, party.{CallParties.CallParties, Party.Party}}

-- a party of a line that there is, with its word among these
pub record TestedOn (words : List ℕ) (party : Party) : Type 0 where
  pub line : IsLine party.line
  pub word : party.word ≡ word_of words (LineSwitch party.line.frame party.line.switch)

-- the party of a line, with its word among these
abbrev pub party_of : List ℕ → Line → Party
party_of words line = record { line = line; word = word_of words (LineSwitch line.frame line.switch) }

-- it is so tested
pub party_of-tested : (words : List ℕ) (line : Line) → IsLine line → TestedOn words (party_of words line)
party_of-tested words line in_range = record { line = in_range; word = refl }

-- both parties to a call are of lines that there are, or the calling one alone is, with their words among these
pub record AreTestedOn (words : List ℕ) (parties : CallParties) : Type 0 where
  pub calling : TestedOn words parties.calling
  pub called : (party : Party) → parties.called ≡ Some party → TestedOn words party

-- the lines of the parties
abbrev pub lines_of_parties : CallParties → Parties
lines_of_parties parties = record { calling = parties.calling.line; called = option_map (λ party. party.line) parties.called }

-- a path's crosspoints are closed in the 400 switches
pub closes_below : (path : Path) → IsPath path → (effect : Effect) → IsIn effect (path_closes path) → effect_word effect < 400
closes_below path range effect (inl e) = subst (λ (one : Effect). effect_word one < 400) (sym e) (crosspoint_line path range).word
closes_below path range effect (inr (inl e)) = subst (λ (one : Effect). effect_word one < 400) (sym e) (crosspoint_line_junctor path range).word
closes_below path range effect (inr (inr (inl e))) = subst (λ (one : Effect). effect_word one < 400) (sym e) (crosspoint_trunk_junctor path range).word
closes_below path range effect (inr (inr (inr (inl e)))) = subst (λ (one : Effect). effect_word one < 400) (sym e) (crosspoint_trunk path range).word
closes_below path range effect (inr (inr (inr (inr none)))) = absurd none

-- and opened in them; a member's bit is cleared in the words of the sixteen groups
pub opens_below : (path : Path) → IsPath path → (group index : ℕ) → group < 16 → (effect : Effect) → IsIn effect (path_opens path ++ ClearBit group index ∷ [])
    → effect_word effect < 416
opens_below path range group index few effect (inl e) =
    subst (λ (one : Effect). effect_word one < 416) (sym e) (omega (arith, (crosspoint_line path range).word))
opens_below path range group index few effect (inr (inl e)) =
    subst (λ (one : Effect). effect_word one < 416) (sym e) (omega (arith, (crosspoint_line_junctor path range).word))
opens_below path range group index few effect (inr (inr (inl e))) =
    subst (λ (one : Effect). effect_word one < 416) (sym e) (omega (arith, (crosspoint_trunk_junctor path range).word))
opens_below path range group index few effect (inr (inr (inr (inl e)))) =
    subst (λ (one : Effect). effect_word one < 416) (sym e) (omega (arith, (crosspoint_trunk path range).word))
opens_below path range group index few effect (inr (inr (inr (inr (inl e))))) = subst (λ (one : Effect). effect_word one < 416) (sym e) (omega (arith, few))
opens_below path range group index few effect (inr (inr (inr (inr (inr none))))) = absurd none

-- a party's word as effects will leave it is the one that is found after them
pub party_after-tested : (plan : Tables) (words : List ℕ) (effects : List Effect)
    → ((effect : Effect) → IsIn effect effects → effect_word effect < length words) → (party : Party) → TestedOn words party
    → TestedOn (perform_all (office plan) words effects) (party_after effects party)
party_after-tested plan words effects below party tested = record {
  line = tested.line;
  word =
      let number = word_number (LineSwitch party.line.frame party.line.switch) in
      ap (value_after effects number) tested.word ∙ sym (perform_index (office plan) words effects number below);
}
