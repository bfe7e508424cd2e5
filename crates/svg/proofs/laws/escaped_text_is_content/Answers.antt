use Rattle.svg.proofs.Parts.{escaped_content}
use Rattle.svg.proofs.laws.escaped_text_is_content.Goals as goal

pub returns : goal.returns
returns c = escaped_content
