-- what a decision opens: the crosspoints of paths that its job takes out, before it does anything else
use Rattle.std.proofs.Common.{◌≡◌, ◌⊎◌, List, [], ◌∷◌, ◌++◌, map, inl, inr, refl, sym, ◌∙◌, ap, subst, append_assoc, Option, Some, None}
use Rattle.{std.specs.Option.option_map_or, turns.{specs.Among.IsIn, proofs.Lists.{in_back, in_either, in_front}}, xbar_equip.specs.Crosspoint.crosspoints}
use Rattle.{xbar_equip.specs.declared.{crosspoint.Crosspoint.Crosspoint, path.Path.Path}, xbar_plan.specs.Tables.Tables, xbar_office.specs.declared.job.Job.Job}
use Rattle.xbar_jobs.specs.Closing.{called_closes, effects as effects_of, leave_effects, other_opens, path_closes, path_opens, take_effects}
use Rattle.xbar_jobs.specs.{Opening.call_crosspoints, declared.{decision.{Decision.Decision, Leave.Leave, Take.Take}, effect.Effect.Effect}}
use Rattle.xbar_jobs.{specs.declared.effect.Effect.TheVariants.{Close, Open, SetBit, ClearBit}, proofs.CallCrosspoints.{call_opens, of_call}}
use Rattle.xbar_moves.proofs.{Among.among_equip, LetGo.{AreGone, IsGone, LetsGo, Nothing, Paths}}

-- a crosspoint among those that effects open is one of these
pub in_opens : (c : Crosspoint) (cs : List Crosspoint) → IsIn (Open c) (map Open cs) → IsIn c cs
in_opens c [] within = within
in_opens c (d ∷ cs) (inl same) = inl cc
in_opens c (d ∷ cs) (inr later) = inr (in_opens c cs later)

pub opens_in : (c : Crosspoint) (cs : List Crosspoint) → IsIn c cs → IsIn (Open c) (map Open cs)
opens_in c [] within = within
opens_in c (d ∷ cs) (inl same) = inl (ap Open same)
opens_in c (d ∷ cs) (inr later) = inr (opens_in c cs later)

-- effects that open nothing
abbrev OpenNothing : List Effect → Type 0
OpenNothing effects = (c : Crosspoint) → IsIn (Open c) effects → ⊥

closes_open : (cs : List Crosspoint) → OpenNothing (map Close cs)
closes_open [] c within = within
closes_open (d ∷ cs) c (inl same) = cc
closes_open (d ∷ cs) c (inr later) = closes_open cs c later

called_open : (called : Option Path) → OpenNothing (called_closes called)
called_open None c within = within
called_open (Some path) c within = closes_open (crosspoints path) c within

-- what takes a member opens nothing
take_opens : (take : Take) → OpenNothing (take_effects take)
take_opens take c within = elim (in_either (Open c) (path_closes take.paths.calling) _ within) [
  | inl calling ↦ closes_open (crosspoints take.paths.calling) c calling
  | inr more ↦ elim (in_either (Open c) (called_closes take.paths.called) (SetBit take.group take.index ∷ []) more) [
    | inl called ↦ called_open take.paths.called c called
    | inr (inl same) ↦ absurd cc
    | inr (inr none) ↦ none
  ]
]

taken_opens : (taken : Option Take) → OpenNothing (option_map_or take_effects taken [])
taken_opens None c within = within
taken_opens (Some take) c within = take_opens take c within

-- effects that open crosspoints, and then open nothing
record OpensFirst (effects : List Effect) (cs : List Crosspoint) : Type 0 where
  pub more : List Effect
  pub are : effects ≡ map Open cs ++ more
  pub none : OpenNothing more

-- what lets a call go opens its crosspoints first
leave_opens : (leave : Leave) (taken : Option Take)
    → OpensFirst (leave_effects leave ++ option_map_or take_effects taken []) (call_crosspoints leave.own leave.other)
leave_opens leave taken = record {
  more = ClearBit leave.group leave.index ∷ option_map_or take_effects taken [];
  are =
      append_assoc (path_opens leave.own ++ other_opens leave.other) (ClearBit leave.group leave.index ∷ []) (option_map_or take_effects taken [])
      ∙ ap (λ (opens : List Effect). opens ++ ClearBit leave.group leave.index ∷ option_map_or take_effects taken []) (call_opens leave.own leave.other);
  none = λ c within. elim within [ inl same ↦ absurd cc | inr later ↦ taken_opens taken c later ];
}

-- effects that all open crosspoints
pub record AreOpens (effects : List Effect) : Type 0 where
  pub cs : List Crosspoint
  pub are : effects ≡ map Open cs

-- as long as an opening is left, only openings were made
opens_made : (cs : List Crosspoint) (more made left : List Effect) (c : Crosspoint) → map Open cs ++ more ≡ made ++ left → OpenNothing more → IsIn (Open c) left
    → AreOpens made
opens_made cs more [] left c same none within = record { cs = []; are = refl }
opens_made [] more (effect ∷ made) left c same none within = absurd (none c (subst (IsIn (Open c)) (sym same) (in_back (Open c) (effect ∷ made) left within)))
opens_made (d ∷ cs) more (effect ∷ made) left c same none within =
    let first : Open d ≡ effect = cc in
    let later : map Open cs ++ more ≡ made ++ left = cc in
    let opens = opens_made cs more made left c later none within in
    record { cs = d ∷ opens.cs; are = λ i. sym first i ∷ opens.are i }

-- a crosspoint that is opened is of a path that the job takes out, all of whose crosspoints are opened
pub record IsOpened (plan : Tables) (paths : List Path) (job : Job) (decision : Decision) (c : Crosspoint) : Type 0 where
  pub path : Path
  pub has : IsIn c (crosspoints path)
  pub goes : IsGone plan paths job path
  pub all : (d : Crosspoint) → IsIn d (crosspoints path) → IsIn (Open d) (effects_of decision)

-- a path of a call has its crosspoints among the call's
of_path : (own : Path) (other : Option Path) (path : Path) → (path ≡ own) ⊎ (other ≡ Some path) → (d : Crosspoint) → IsIn d (crosspoints path)
    → IsIn d (call_crosspoints own other)
of_path own other path (inl same) d within = in_front d (crosspoints own) _ (subst (λ (p : Path). IsIn d (crosspoints p)) same within)
of_path own None path (inr same) d within = absurd cc
of_path own (Some beside) path (inr same) d within = let is : path ≡ beside = cc in
    in_back d (crosspoints own) (crosspoints beside) (subst (λ (p : Path). IsIn d (crosspoints p)) is within)

module _ (plan : Tables) (paths : List Path) (job : Job) (decision : Decision) where
  nothing_let_go : decision.leave ≡ None → OpenNothing (effects_of decision)
  nothing_let_go none c within =
      taken_opens decision.take c (subst (IsIn (Open c))
      (ap (λ (leave : Option Leave). option_map_or leave_effects leave [] ++ option_map_or take_effects decision.take []) none) within)

  first_opened : (leave : Leave) → decision.leave ≡ Some leave → OpensFirst (effects_of decision) (call_crosspoints leave.own leave.other)
  first_opened leave is =
      subst (λ (all : List Effect). OpensFirst all (call_crosspoints leave.own leave.other))
      (ap (λ (own : Option Leave). option_map_or leave_effects own [] ++ option_map_or take_effects decision.take []) (sym is))
      (leave_opens leave decision.take)

  path_gone : (leave : Leave) → AreGone plan paths job leave → (path : Path) → (path ≡ leave.own) ⊎ (leave.other ≡ Some path) → IsGone plan paths job path
  path_gone leave gone path (inl same) = subst (IsGone plan paths job) (sym same) gone.own
  path_gone leave gone path (inr goes) = gone.other path goes

  -- what a decision opens is of the paths that it lets go
  pub opened_by : LetsGo plan paths job decision → (c : Crosspoint) → IsIn (Open c) (effects_of decision) → IsOpened plan paths job decision c
  opened_by (Nothing none) c within = absurd (nothing_let_go none c within)
  opened_by (Paths leave is gone) c within =
      let first = first_opened leave is in
      let cs = call_crosspoints leave.own leave.other in
      elim (in_either (Open c) (map Open cs) first.more (subst (IsIn (Open c)) first.are within)) [
        | inl there ↦
            let call = of_call leave.own leave.other c (among_equip c cs (in_opens c cs there)) in
            record {
              path = call.path;
              has = call.there;
              goes = path_gone leave gone call.path call.goes;
              all =
                  λ d own. subst (IsIn (Open d)) (sym first.are) (in_front (Open d) (map Open cs) first.more
                  (opens_in d cs (of_path leave.own leave.other call.path call.goes d own)));
            }
        | inr later ↦ absurd (first.none c later)
      ]

  -- as long as some of it is left, only openings were made
  pub opens_so_far : LetsGo plan paths job decision → (made left : List Effect) → effects_of decision ≡ made ++ left → (c : Crosspoint) → IsIn (Open c) left
      → AreOpens made
  opens_so_far (Nothing none) made left are c within = absurd (nothing_let_go none c (subst (IsIn (Open c)) (sym are) (in_back (Open c) made left within)))
  opens_so_far (Paths leave is gone) made left are c within =
      let first = first_opened leave is in
      opens_made (call_crosspoints leave.own leave.other) first.more made left c (sym first.are ∙ are) first.none within
