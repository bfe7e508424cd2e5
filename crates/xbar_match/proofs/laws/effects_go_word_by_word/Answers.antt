use Rattle.xbar_match.proofs.OneWord.{close_path-word, open_path-word}
use Rattle.xbar_match.proofs.laws.effects_go_word_by_word.Goals as goal

pub returns-clause-closing : goal.returns-clause-closing
returns-clause-closing c = close_path-word

pub returns-clause-opening : goal.returns-clause-opening
returns-clause-opening c = open_path-word
