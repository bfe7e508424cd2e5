use Rattle.std.proofs.Common.{◌∷◌, ◌++◌, [], List, sym, ap, ◌∙◌}
use Rattle.xbar_walk.{specs.declared.rows.Tested.Tested, proofs.{Joining.kept_joined, Storytelling.test_begins}}
use Rattle.xbar_walk.proofs.story.Story.add_test.Goals as goal

pub invariant_of-self : goal.invariant_of-self
invariant_of-self c = record {
  joined =
      kept_joined c.args.self.now.detail c.args.self.now.tests.items c.push.new.self.items c.args.tested _ c.args.self.now.joined
      (sym c.if-shares_pending_line.ensures) c.push.ensures.items;
}

pub returns : goal.returns
returns c =
    let ended = c.in_ok-end_tests.ensures in
    test_begins c.args.self.now _ ended.detail c.args.tested c.args.self.now.joined (sym c.if-shares_pending_line.ensures) ended.number ended.observed
    (c.in_ok-push-2.ensures.items ∙ ap (λ (tests : List Tested). tests ++ c.args.tested ∷ []) ended.none)
