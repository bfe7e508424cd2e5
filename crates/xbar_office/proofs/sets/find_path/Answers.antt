use Rattle.std.proofs.Common.{◌≡◌, ℕ, true, arith, sym, ◌∙◌, ap, subst, Some, option_map}
use Rattle.{xbar_equip.specs.{Path.path_by, Paths.{has_idle_links, channel_in_turn}}, xbar_office.specs.Chosen.with_chosen}
use Rattle.xbar_office.proofs.ChannelTest.{channel_test-found, channel_test-none}
use Rattle.xbar_office.proofs.sets.find_path.Goals as goal

pub returns-then-has_idle_links : goal.returns-then-has_idle_links
returns-then-has_idle_links c =
    let paths = with_chosen c.args.paths.now c.args.chosen.now in
    let here : c.new.result ≡ channel_in_turn c.args.start c.loop-turn.turn = c.new.ensures in
    let idle : has_idle_links paths (path_by c.args.line c.args.place (channel_in_turn c.args.start c.loop-turn.turn)) ≡ true =
    subst (λ (n : ℕ). has_idle_links paths (path_by c.args.line c.args.place n) ≡ true) here (sym c.if-has_idle_links.ensures) in
    ap (λ (n : ℕ). Some (path_by c.args.line c.args.place n)) here
    ∙ sym (ap (option_map (path_by c.args.line c.args.place))
    (channel_test-found paths c.args.line c.args.place c.args.start c.loop-turn.turn (omega arith) idle c.loop-turn.invariant))

pub returns : goal.returns
returns c =
    let paths = with_chosen c.args.paths.now c.args.chosen.now in
    sym (ap (option_map (path_by c.args.line c.args.place))
    (channel_test-none paths c.args.line c.args.place c.args.start (λ j below. c.loop-turn.invariant j (omega arith))))
