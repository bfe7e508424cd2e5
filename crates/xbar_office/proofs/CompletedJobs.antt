-- a completing job of a line that has a register
use Rattle.std.proofs.Common.{◌≡◌, ℕ, ◌+◌, true, List, length, refl, sym, ◌∙◌, ap, subst, Option, Some, None}
use Rattle.xbar_equip.specs.{Among.IsIn, Dialled.code_of, Len.{Line, IsLine}, Paths.{has_line, is_idle, with_path, without_path}, declared.path.Path.Path}
use Rattle.xbar_plan.specs.{Tables.{Tables, route_of}, Lawful.IsLawful}
use Rattle.xbar_office.specs.{Complete.{call, complete, complete_from}, Done.{Done, with_added}, LawfulSet.IsLawfulSet, AddedPaths.{added_by, added_count}}
use Rattle.xbar_office.{specs.{Standing.register_path, declared.{reply.Reply.Reply, trial.CallPaths.CallPaths}}, proofs.AddedByEnd.{AddsPaths, adds-by_reply}}
use Rattle.xbar_office.proofs.{CallJobs.call-adds, RegisterPaths.{IsRegisterPath, register_path-is, ends_at_register-is, lawful-without_register, line-without}}
use Rattle.xbar_office.proofs.RemovedPaths.{with-without, length-without}

module _ (plan : Tables) (paths : List Path) (line : Line) (dialled : ℕ) (own : Path) (laws : IsLawful plan) (lawful : IsLawfulSet plan paths)
    (in_range : IsLine line) (register : register_path plan paths line ≡ Some own) where
  is : IsRegisterPath plan paths line own
  is = register_path-is plan paths line own register

  -- the set without the register's path
  abbrev rest : List Path
  rest = without_path paths own

  pub rest_lawful : IsLawfulSet plan (without_path paths own)
  rest_lawful = lawful-without_register plan paths own laws (ends_at_register-is plan own is.ends) lawful

  pub line_idle : is_idle (has_line line) (without_path paths own) ≡ true
  line_idle = subst (λ (l : Line). is_idle (has_line l) (without_path paths own) ≡ true) is.line_is (line-without plan paths own lawful is.within)

  -- on that set the call only adds paths
  pub adds : AddsPaths plan rest (call plan rest line dialled (route_of plan (code_of dialled)))
  adds = call-adds plan rest line laws in_range line_idle dialled

  pub complete-is_call : complete plan paths line dialled ≡ call plan (without_path paths own) line dialled (route_of plan (code_of dialled))
  complete-is_call = ap (λ (o : Option Path). complete_from plan paths line dialled o) register

  pub lawful-call : IsLawfulSet plan (call plan (without_path paths own) line dialled (route_of plan (code_of dialled))).paths
  lawful-call = adds.lawful rest_lawful

-- a completing job up to its call: the path of the line's register is removed, and the reply is
-- that of the call on the set that is left
pub record IsCalling (plan : Tables) (paths : List Path) (line : Line) (dialled : ℕ) (own : Path) (left : List Path) (told : Reply) : Type 0 where
  pub laws : IsLawful plan
  pub lawful : IsLawfulSet plan paths
  pub in_range : IsLine line
  pub register : register_path plan paths line ≡ Some own
  pub rest : left ≡ without_path paths own
  pub reply : told ≡ (call plan (without_path paths own) line dialled (route_of plan (code_of dialled))).reply

-- `seen` and `left` are the set as it was read before the path was removed and after
pub calling : {plan : Tables} {paths seen taken left : List Path} {line : Line} {dialled : ℕ} {found : Option Path} {own : Path} {told : Reply} → IsLawful plan
    → IsLawfulSet plan paths → IsLine line → seen ≡ paths → found ≡ register_path plan seen line → found ≡ Some own → taken ≡ without_path paths own
    → left ≡ taken → told ≡ (call plan left line dialled (route_of plan (code_of dialled))).reply → IsCalling plan paths line dialled own left told
calling {plan} {paths} {seen} {taken} {left} {line} {dialled} laws lawful in_range read finds is takes reads_again tells =
    let rest : left ≡ without_path paths _ = reads_again ∙ takes in
    record {
      laws = laws;
      lawful = lawful;
      in_range = in_range;
      register = ap (λ (p : List Path). register_path plan p line) (sym read) ∙ sym finds ∙ is;
      rest = rest;
      reply = tells ∙ ap (λ (p : List Path). (call plan p line dialled (route_of plan (code_of dialled))).reply) rest;
    }

module _ {plan : Tables} {paths left : List Path} {line : Line} {dialled : ℕ} {own : Path} {told : Reply}
    (is : IsCalling plan paths line dialled own left told) where
  within : IsIn own paths
  within = (register_path-is plan paths line own is.register).within

  pub length-left : length paths ≡ length left + 1
  length-left = length-without paths own is.lawful.orderly.set within ∙ ap (λ (p : List Path). length p + 1) (sym is.rest)

  pub put_back : with_path (without_path paths own) own ≡ paths
  put_back = with-without paths own is.lawful.orderly.set within

  -- the reply determines what is added to the set that is left
  pub adds-by_told : (added : Option CallPaths) → added ≡ added_by told.end
      → (with_added left added ≡ (complete plan paths line dialled).paths) × (length (complete plan paths line dialled).paths ≡ length left + added_count added)
  adds-by_told added is_added =
      let called = call plan (without_path paths own) line dialled (route_of plan (code_of dialled)) in
      let whole : complete plan paths line dialled ≡ called = complete-is_call plan paths line dialled own is.laws is.lawful is.in_range is.register in
      let by =
      adds-by_reply plan (without_path paths own) called (adds plan paths line dialled own is.laws is.lawful is.in_range is.register) told added is.reply
      is_added in (
        ap (λ (p : List Path). with_added p added) is.rest ∙ by.0 ∙ ap (λ (d : Done). d.paths) (sym whole),
        ap (λ (d : Done). length d.paths) whole ∙ by.1 ∙ ap (λ (p : List Path). length p + added_count added) (sym is.rest),
      )

-- a completing job leaves a lawful set
pub lawful-complete : (plan : Tables) (paths : List Path) (line : Line) (dialled : ℕ) → IsLawful plan → IsLawfulSet plan paths → IsLine line
    → IsLawfulSet plan (complete plan paths line dialled).paths
lawful-complete plan paths line dialled laws lawful in_range = of (register_path plan paths line) refl where
  of : (found : Option Path) → register_path plan paths line ≡ found → IsLawfulSet plan (complete_from plan paths line dialled found).paths
  of None e = lawful
  of (Some own) e = lawful-call plan paths line dialled own laws lawful in_range e
