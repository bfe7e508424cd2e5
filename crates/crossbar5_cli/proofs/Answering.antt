-- What the engine answers, as the program reports it.
use Rattle.std.proofs.Common.{◌≡◌, ◌≢◌, ℕ, Bool, Bor, List, Option, None, Some, Result, Ok, Err, IfErr, IfOk, IfSome, IsTrue, OnOk, false, inl, inr, option_map}
use Rattle.std.proofs.Common.{refl, subst, sym}
use Rattle.{std.specs.{Io.KnownBytes.Keeps, IoError.error_kind, declared.io.Error.Error}, xbar_moves.specs.declared.kinds.Kind.Kind}
use Rattle.crossbar5.specs.{Faults.ComesFirst, declared.{engine_fault.EngineFault.{EngineFault, TheVariants.{Device, Long, Memory}}, written.Written.Written}}
use Rattle.crossbar5.specs.{PlanRefusal.{IsRefusedPlan, PlanRead}, Tasks.IsDone}
use Rattle.crossbar5_cli.specs.declared.{work.{Response.Response, CheckedWork.{CheckedWork, TheVariants.{Live, Task}}}, ended.Ending.Ending}
use Rattle.crossbar5_cli.specs.{declared.{ended.Ending.TheVariants.Failed, sentence.Sentence.Sentence}, Asks.MayEndAsked, CheckedWork.RefusesMarkers}
use Rattle.crossbar5_cli.specs.{Causes.opening_fault, Endings.ending_of_run, Named.{Files, IsFileFault, IsPlanFault, IsPlanNamed, files_of, name_in}}
use Rattle.crossbar5_cli.specs.{Sentences.{FileName, reasons_of_run, sentence_on_plan_file, sentence_on_run, text_of}, Printed.{IsPut, IsStderrText}}
use Rattle.crossbar5_cli.specs.{Program.{DoesAsk, Errors}, Runs.{IsEndAsAsked, IsEndOf, Streams}, Work.{IsAnswer, IsDiagnosticOf, IsWorkDone}}
use Rattle.{crossbar5_task.specs.declared.task.Task.{Task as EngineTask}, xbar_plan_text.specs.Document.plan_of, crossbar5_live.specs.Live.IsLive}
use Rattle.{crossbar5_command.specs.declared.command_line.Ask.Ask, xbar_markers.specs.declared.call_markers.CallMarkers.CallMarkers}

-- what is done of work of this kind is done
module _ (work : CheckedWork) (plan : PlanRead) (unread : Option (List ℕ)) (run : Result Written EngineFault) where
  pub task_done : (task : EngineTask) (kinds : List Kind) → work ≡ Task task kinds
      → IfOk run (λ written. (input : List ℕ) × IfSome unread (λ all. input ≡ all)
      × IsDone task kinds plan input written.text.items written.status)
      → IfOk run (λ written. (input : List ℕ) × IfSome unread (λ all. input ≡ all)
      × IsWorkDone work plan input written.text.items written.status)
  task_done task kinds is h =
      subst (λ (w : CheckedWork). IfOk run (λ written. (input : List ℕ) × IfSome unread (λ all. input ≡ all)
      × IsWorkDone w plan input written.text.items written.status)) (sym is) h

  pub calls_done : (markers : CallMarkers) → work ≡ Live markers
      → IfOk run (λ written. (input : List ℕ) × IfSome unread (λ all. input ≡ all)
      × IsLive plan markers.dialling markers.completing input written.text.items written.status)
      → IfOk run (λ written. (input : List ℕ) × IfSome unread (λ all. input ≡ all)
      × IsWorkDone work plan input written.text.items written.status)
  calls_done markers is h =
      subst (λ (w : CheckedWork). IfOk run (λ written. (input : List ℕ) × IfSome unread (λ all. input ≡ all)
      × IsWorkDone w plan input written.text.items written.status)) (sym is) h

-- a run ends as the engine answered
module _ (work : CheckedWork) (file : FileName) (files : Files) (streams : Streams) (reasons : Option (List ℕ)) (sentence : Option Sentence) where
  pub run_end : (run : Result Response EngineFault) (ending : Ending) (plan : PlanRead)
      → IsPlanNamed files (name_in file) plan
      → IfOk run (λ answer. IsAnswer work plan streams.unread streams.before streams.after answer.status answer.reasons.items)
      → IfOk run (λ answer. IsDiagnosticOf work streams.before streams.after answer.status answer.reasons.items answer.diagnostic)
      → IfErr run (λ fault. ComesFirst fault → Keeps streams.before streams.after)
      → (IsRefusedPlan plan → streams.IsUntouched)
      → OnOk run (¬ IsRefusedPlan plan → streams.IsReadToEnd)
      → (run ≡ Err Device → streams.HasFailure)
      → (run ≡ Err Long → streams.HasTooManyReads)
      → ending ≡ ending_of_run run
      → reasons ≡ reasons_of_run run → sentence ≡ sentence_on_run run file streams.failures
      → IsEndOf work file files streams (record { ending = ending; reasons = reasons; sentence = sentence })
  run_end (Ok answer) ending plan named a s k u e d l is r se =
      subst (λ (x : Ending). IsEndOf work file files streams (record { ending = x; reasons = reasons; sentence = sentence })) (sym is)
      (record {
        plan = plan;
        named = named;
        lines = answer.reasons.items;
        answer = a;
        unread = u;
        read = e;
        reasons_are = r;
        diagnostic = answer.diagnostic;
        diagnostic_is = s;
        sentence_is = se;
      })
  run_end (Err Memory) ending plan named a s k u e d l is r se =
      subst (λ (x : Ending). IsEndOf work file files streams (record { ending = x; reasons = reasons; sentence = sentence })) (sym is)
      (record { reasons_are = r; why = inl (record { cause = tt; unwritten = k; sentence_is = se }) })
  run_end (Err Device) ending plan named a s k u e d l is r se =
      subst (λ (x : Ending). IsEndOf work file files streams (record { ending = x; reasons = reasons; sentence = sentence })) (sym is)
      (record { reasons_are = r; why = inl (record { cause = d refl; unwritten = k; sentence_is = se }) })
  run_end (Err Long) ending plan named a s k u e d l is r se =
      subst (λ (x : Ending). IsEndOf work file files streams (record { ending = x; reasons = reasons; sentence = sentence })) (sym is)
      (record { reasons_are = r; why = inl (record { cause = l refl; unwritten = k; sentence_is = se }) })

  -- the plan's file was to blame, or memory ran out for the plan
  pub plan_end : (ending : Ending) (fault : EngineFault) (reason : Option Error)
      → IsPlanFault files (name_in file) fault → streams.IsUntouched → streams.IsUnwritten
      → ending ≡ Failed fault → reasons ≡ None → sentence ≡ sentence_on_plan_file fault file reason
      → IsEndOf work file files streams (record { ending = ending; reasons = reasons; sentence = sentence })
  plan_end ending fault reason f u w is r se =
      subst (λ (x : Ending). IsEndOf work file files streams (record { ending = x; reasons = reasons; sentence = sentence })) (sym is)
      (record { reasons_are = r; why = inr (record { cause = f; unread = u; unwritten = w; reason = reason; sentence_is = se }) })

-- if a run ended like this, the program did what is asked for
pub done_ask : (ask : Ask) (files : Files) (streams : Streams) (errors : Errors) (ending ended : Ending) (is_printed : Bool)
    (reasons : Option (List ℕ)) (sentence : Option Sentence)
    → ending ≡ ended
    → IsEndAsAsked ask files streams (record { ending = ended; reasons = reasons; sentence = sentence })
    → MayEndAsked ask.work ended
    → (ended ≢ Failed Device → streams.HasNoFailure)
    → (RefusesMarkers ask.work → streams.IsUntouched)
    → (IsTrue is_printed → IsPut (IsStderrText ended reasons (option_map text_of sentence)) errors.before errors.after)
    → (is_printed ≡ false → sentence ≡ None → errors.HasFailure)
    → DoesAsk ask files streams errors ending is_printed
done_ask ask files streams errors ending ended is_printed reasons sentence e ends may none unread printed unprinted =
    subst (λ (x : Ending). DoesAsk ask files streams errors x is_printed) (sym e)
    (record {
      reasons = reasons;
      sentence = sentence;
      ends = ends;
      may = may;
      no_failure = none;
      unread = unread;
      printed = printed;
      unprinted = unprinted;
    })

-- what a file gave that may be opened like this is what its name gives
module _ {File Text : Type 0} (items : Text → List ℕ) (Opens : List ℕ → Result File Error → Type 0) (remaining : File → Option (List ℕ)) (failures : File → ℕ)
    (reads : File → Option ℕ) (name : List ℕ) where
  pub named_text : (opened : Result File Error) (result : Result Text EngineFault) → Opens name opened
      → IfOk opened (λ file. IfOk result (λ text. IfSome (remaining file) (λ all. items text ≡ all)))
      → IfErr opened (λ error. result ≡ Err (opening_fault (error_kind error)))
      → IfOk result (λ text. files_of Opens remaining failures reads name (Ok (items text)))
  named_text (Ok file) (Ok text) opens all refused = (file, opens, all)
  named_text (Err error) (Ok text) opens all refused = cc
  named_text opened (Err fault) opens all refused = tt

  pub named_fault : (opened : Result File Error) (result : Result Text EngineFault) → Opens name opened
      → IfErr opened (λ error. result ≡ Err (opening_fault (error_kind error)))
      → IfOk opened (λ file. IfErr result (IsFileFault failures reads file))
      → IfErr result (λ fault. files_of Opens remaining failures reads name (Err fault))
  named_fault (Ok file) (Err fault) opens refused failed = inr (file, opens, failed)
  named_fault (Err error) (Err fault) opens refused failed = inl (error, opens, cc)
  named_fault opened (Ok text) opens refused failed = tt

-- the same by the name of the plan's file
module _ {File Text : Type 0} (items : Text → List ℕ) (Opens : List ℕ → Result File Error → Type 0) (remaining : File → Option (List ℕ)) (failures : File → ℕ)
    (reads : File → Option ℕ) (file : FileName) (name : Bor (List ℕ)) (is : file ≡ Some name) where
  pub text_in : (opened : Result File Error) (result : Result Text EngineFault) → Opens name.now opened
      → IfOk opened (λ file. IfOk result (λ text. IfSome (remaining file) (λ all. items text ≡ all)))
      → IfErr opened (λ error. result ≡ Err (opening_fault (error_kind error)))
      → IfOk result (λ text. IsPlanNamed (files_of Opens remaining failures reads) (name_in file) (plan_of (items text)))
  text_in opened result opens all refused =
      subst (λ (f : FileName). IfOk result (λ text. IsPlanNamed (files_of Opens remaining failures reads) (name_in f) (plan_of (items text)))) (sym is)
      (with_plan result (named_text items Opens remaining failures reads name.now opened result opens all refused))
    where
      with_plan : (result : Result Text EngineFault) → IfOk result (λ text. files_of Opens remaining failures reads name.now (Ok (items text)))
          → IfOk result (λ text. (given : List ℕ) × files_of Opens remaining failures reads name.now (Ok given) × (plan_of (items text) ≡ plan_of given))
      with_plan (Ok text) given = (items text, given, refl)
      with_plan (Err fault) given = tt

  pub fault_in : (opened : Result File Error) (result : Result Text EngineFault) → Opens name.now opened
      → IfErr opened (λ error. result ≡ Err (opening_fault (error_kind error)))
      → IfOk opened (λ file. IfErr result (IsFileFault failures reads file))
      → IfErr result (IsPlanFault (files_of Opens remaining failures reads) (name_in file))
  fault_in opened result opens refused failed =
      subst (λ (f : FileName). IfErr result (IsPlanFault (files_of Opens remaining failures reads) (name_in f))) (sym is)
      (named_fault items Opens remaining failures reads name.now opened result opens refused failed)
