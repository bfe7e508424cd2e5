use Rattle.xbar_step_text.proofs.WordPlaces.{group_told, line_junctor_told, line_switch_told, trunk_junctor_told, trunk_switch_told}
use Rattle.xbar_step_text.proofs.laws.words_have_their_places.Goals as goal

pub returns : goal.returns
returns c = record {
  line_switch = line_switch_told;
  line_junctor = line_junctor_told;
  trunk_switch = trunk_switch_told;
  trunk_junctor = trunk_junctor_told;
  group = group_told;
}
