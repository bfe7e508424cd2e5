use Rattle.std.proofs.Common.{◌∙◌, ap}
use Rattle.{toml.specs.View.members_view, xbar_plan_text.proofs.WrittenText.put_before}
use Rattle.xbar_plan_text.proofs.write.put_first.Goals as goal

pub returns : goal.returns
returns c =
    ap members_view c.in_ok-insert.ensures.entries
    ∙ put_before c.args.document.now.entries c.in_ok-key.key c.args.key.now c.args.value c.in_ok-key.ensures.ok c.requires
