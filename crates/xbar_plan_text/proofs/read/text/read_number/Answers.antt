use Rattle.std.proofs.Common.{◌∙◌}
use Rattle.xbar_plan_text.proofs.WhoseText.{numbers, parser_reads}
use Rattle.xbar_plan_text.proofs.read.text.read_number.Goals as goal

pub returns : goal.returns
returns c = c.ok.ensures.value ∙ parser_reads numbers c.args.text.now c.parse.result c.parse.ensures.reads c.parse.ensures.only
