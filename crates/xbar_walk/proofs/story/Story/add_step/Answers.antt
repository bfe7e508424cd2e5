use Rattle.std.proofs.Common.{◌∷◌, ◌++◌, [], ℕ, refl, ap, subst}
use Rattle.{xbar_walk.specs.{Items.step_item, Stories.IsStory}, xbar_step_text.specs.Lines.one_more}
use Rattle.xbar_walk.proofs.story.Story.add_step.Goals as goal

pub returns : goal.returns
returns c detail number items was =
    subst (λ (n : ℕ). IsStory c.add_item.new.self detail n (items ++ step_item detail n c.args.marker c.args.observed.now c.args.records.now ∷ []))
    (ap one_more was.number_is)
    (c.in_ok-add_item.ensures detail (one_more c.args.self.now.number) items (record { telling_is = was.telling_is; number_is = refl; text_is = was.text_is }))
