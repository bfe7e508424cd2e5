-- what a job adds to a set: the paths that its end names
use Rattle.std.proofs.Common.{◌≡◌, ◌≢◌, ℕ, ◌+◌, false, List, [], ◌∷◌, length, inl, refl, sym, ◌∙◌, ap, subst, arith, Option, Some, None, is_some, true≢false}
use Rattle.xbar_equip.{specs.{Ten.TrunkPlace, Paths.{has_line, with_path}, declared.path.Path.Path}, proofs.{PathSets.in-with, PathTests.line_eq-exact}}
use Rattle.{xbar_plan.specs.{Tables.{Tables, member_at}, Lawful.IsLawful, declared.group.Member.Member}, xbar_office.specs.Done.{Done, refused, tried}}
use Rattle.xbar_office.specs.{Done.{with_added, chosen_paths}, LawfulSet.IsLawfulSet, Replies.trials_end, AddedPaths.{added_by, added_count}}
use Rattle.xbar_office.specs.declared.{reply.{Card.Card, End.End, Reply.Reply}, trial.{CallPaths.CallPaths, Choice.Choice, Trials.Trials}}
use Rattle.xbar_office.proofs.{AddedPaths.not_of_set, GoodTrials.GoodChoice, TakenMembers.CalledCanStand, TriedJobs.{lawful-tried, length-tried}}
use Rattle.xbar_office.specs.declared.aim.Aim.TheVariants as aim

-- the two paths of a call are of different lines
abbrev pub AreOfTwoLines : Option CallPaths → Type 0
AreOfTwoLines None = Unit {0}
AreOfTwoLines (Some call) = (called : Path) → call.called ≡ Some called → called.line ≢ call.calling.line

-- a job that only adds paths: it adds those of its end, which make the set longer, and keeps a
-- lawful set lawful
pub record AddsPaths (plan : Tables) (paths : List Path) (done : Done) : Type 0 where
  pub added : done.paths ≡ with_added paths (added_by done.reply.end)
  pub size : length done.paths ≡ length paths + added_count (added_by done.reply.end)
  pub lawful : IsLawfulSet plan paths → IsLawfulSet plan done.paths
  pub apart : AreOfTwoLines (added_by done.reply.end)

-- so the reply determines what was added
pub adds-by_reply : (plan : Tables) (paths : List Path) (done : Done) → AddsPaths plan paths done → (reply : Reply) (adds : Option CallPaths)
    → reply ≡ done.reply → adds ≡ added_by reply.end
    → (with_added paths adds ≡ done.paths) × (length done.paths ≡ length paths + added_count adds)
adds-by_reply plan paths done is reply adds same added =
    let e : adds ≡ added_by done.reply.end = added ∙ ap (λ (r : Reply). added_by r.end) same in
    (ap (with_added paths) e ∙ sym is.added, is.size ∙ ap (λ (a : Option CallPaths). length paths + added_count a) (sym e))

-- an end that names no path adds nothing
pub refused-adds : (plan : Tables) (paths : List Path) (end : End) → added_by end ≡ None → AddsPaths plan paths (refused paths end)
refused-adds plan paths end e =
    let none : added_count (added_by end) ≡ 0 = ap added_count e in
    record {
      added = ap (with_added paths) (sym e);
      size = omega (arith, none);
      lawful = λ lawful. lawful;
      apart = subst (λ (a : Option CallPaths). AreOfTwoLines a) (sym e) tt;
    }

connected_end : (choice : Option Choice) (cards : List Card) → added_by (trials_end aim.Connected choice cards) ≡ chosen_paths choice
connected_end None [] = refl
connected_end None (card ∷ cards) = refl
connected_end (Some choice) cards = refl

-- only the calling path was chosen
abbrev AreAlone : Option Choice → Type 0
AreAlone None = Unit {0}
AreAlone (Some choice) = choice.paths.called ≡ None

dial_tone_end : (choice : Option Choice) (cards : List Card) → AreAlone choice → added_by (trials_end aim.DialTone choice cards) ≡ chosen_paths choice
dial_tone_end None [] are = refl
dial_tone_end None (card ∷ cards) are = refl
dial_tone_end (Some choice) cards are = ap (λ (called : Option Path). Some (record { calling = choice.paths.calling; called = called })) (sym are)

no_called : (plan : Tables) (paths : List Path) (second : Option TrunkPlace) (called : Option Path) → is_some second ≡ false
    → CalledCanStand plan paths second called → called ≡ None
no_called plan paths None None single can = refl
no_called plan paths None (Some called) single can = absurd can
no_called plan paths (Some second) called single can = absurd (true≢false single)

alone_choice : (plan : Tables) (paths : List Path) (group : ℕ)
    → ((i : ℕ) (member : Member) → member_at plan group i ≡ Some member → is_some member.second ≡ false) → (choice : Option Choice)
    → GoodChoice plan paths group choice → AreAlone choice
alone_choice plan paths group single None good = tt
alone_choice plan paths group single (Some choice) good =
    no_called plan (with_path paths choice.paths.calling) good.member.second choice.paths.called (single choice.index good.member good.listed) good.called

called_line_apart : (plan : Tables) (paths : List Path) (second : Option TrunkPlace) (calling : Path) (o : Option Path)
    → CalledCanStand plan (with_path paths calling) second o → (called : Path) → o ≡ Some called → called.line ≢ calling.line
called_line_apart plan paths None calling None can called is same = cc
called_line_apart plan paths None calling (Some other) can called is same = absurd can
called_line_apart plan paths (Some second) calling None can called is same = absurd can
called_line_apart plan paths (Some second) calling (Some other) can called is same =
    let one : other ≡ called = cc in
    let lines : calling.line ≡ other.line = sym same ∙ ap (λ (p : Path). p.line) (sym one) in
    not_of_set (has_line other.line) (with_path paths calling) calling can.1.line ((line_eq-exact calling.line other.line).1 lines)
    (in-with paths calling calling (inl refl))

two_lines : (plan : Tables) (paths : List Path) (group : ℕ) (choice : Option Choice) → GoodChoice plan paths group choice → AreOfTwoLines (chosen_paths choice)
two_lines plan paths group None good = tt
two_lines plan paths group (Some choice) good = called_line_apart plan paths good.member.second choice.paths.calling choice.paths.called good.called

module _ (plan : Tables) (paths : List Path) (group : ℕ) (trials : Trials) (laws : IsLawful plan) (good : GoodChoice plan paths group trials.choice) where
  -- a call adds what its trials chose
  pub connected-adds : AddsPaths plan paths (tried aim.Connected paths trials)
  connected-adds = record {
    added = ap (with_added paths) (sym (connected_end trials.choice trials.cards));
    size =
        length-tried plan paths group trials.choice good
        ∙ ap (λ (a : Option CallPaths). length paths + added_count a) (sym (connected_end trials.choice trials.cards));
    lawful = lawful-tried plan paths group trials.choice good laws;
    apart = subst (λ (a : Option CallPaths). AreOfTwoLines a) (sym (connected_end trials.choice trials.cards)) (two_lines plan paths group trials.choice good);
  }

  -- and so does a dial tone job, on a group of members with one place
  pub dial_tone-adds : ((i : ℕ) (member : Member) → member_at plan group i ≡ Some member → is_some member.second ≡ false)
      → AddsPaths plan paths (tried aim.DialTone paths trials)
  dial_tone-adds single =
      let same = dial_tone_end trials.choice trials.cards (alone_choice plan paths group single trials.choice good) in
      record {
        added = ap (with_added paths) (sym same);
        size = length-tried plan paths group trials.choice good ∙ ap (λ (a : Option CallPaths). length paths + added_count a) (sym same);
        lawful = lawful-tried plan paths group trials.choice good laws;
        apart = subst (λ (a : Option CallPaths). AreOfTwoLines a) (sym same) (two_lines plan paths group trials.choice good);
      }
