-- what a thread did, whatever its loaders are
use Rattle.std.proofs.Common.{◌⊎◌, ℕ, zero, suc, ◌*◌, Bool, true, false, List, Result, IfOk, Ok, Err, inl, inr, ap}
use Rattle.sf_history.specs.declared.event.Event.{Event}
use Rattle.sf_group_rows.specs.Tokens.{GroupValue}
use Rattle.sf_fill_keys.specs.Spaces.{SpaceId}
use Rattle.sf_fill.specs.Fresh.{ForgetsOnce, IsAnswered, IsUnanswered}
use Rattle.sf_fill_values.specs.FillValue.{Filled}
use Rattle.sf_fill_values.specs.Answers.{GetAnswer}
use Rattle.sf_fill.specs.GetterValue.{GetterValue}
use Rattle.sf_fill_values.specs.declared.fault.LoadFault.{LoadFault}
use Rattle.sf_fill_store.specs.declared.forget.Forgot.{Forgot}
use Rattle.sf_fill_open.specs.Opened.{IsNewGetter, IsOfThreads, without_loaders}
use Rattle.sf_cli_drive.specs.declared.found.Found.{Found}
use Rattle.sf_cli_drive.specs.declared.jobs.ThreadEnd.{ThreadEnd}
use Rattle.sf_cli_drive.specs.declared.line.DriveLine.{DriveLine}
use Rattle.sf_cli_drive.specs.Found.{IsFound, IsFoundBy}
use Rattle.sf_cli_drive.specs.Jobs.{HasReloadedWhere, HasSettled, HasTakenTurns, IsGetOf, IsJob, IsJobOf, IsTurn, turn_key, reloads_at}

module _ {L : Type 0} where
  abbrev erased : GetterValue L → GetterValue (Unit {0})
  erased x = without_loaders x

  module _ (space : SpaceId) where
    answered : (key : List ℕ) (a b : GetterValue L) (added : List (Event ℕ Filled)) (answer : GetAnswer) → IsUnanswered added answer ⊎ IsAnswered space key a b added answer
        → IsUnanswered added answer ⊎ IsAnswered space key (erased a) (erased b) added answer
    answered key a b added answer (inl none) = inl none
    answered key a b added answer (inr was) = inr (record {
      spot = was.spot;
      resolved = was.resolved;
      missed = was.missed;
      others = was.others;
      asking = was.asking;
      parts = was.parts;
      call = was.call;
      asked = was.asked;
      answered = was.answered;
    })

    got : (key : List ℕ) (a b : GetterValue L) (right : Bool) → IsGetOf space key a b right → IsGetOf space key (erased a) (erased b) right
    got key a b right was = record {
      answer = was.answer;
      fresh = record {
        delivered = was.fresh.delivered;
        added = was.fresh.added;
        adds = was.fresh.adds;
        logged = was.fresh.logged;
        outcome = answered key a b was.fresh.added was.answer was.fresh.outcome;
        undelivered = was.fresh.undelivered;
      };
      counted = record { added = was.counted.added; made = was.counted.made; gets = was.counted.gets; loads = was.counted.loads; hits = was.counted.hits };
      value = was.value;
      is_right = was.is_right;
    }

    forgot : (key : List ℕ) (a b : GetterValue L) (delivered : Bool) (answer : Result Forgot LoadFault) → ForgetsOnce space key a b delivered answer → ForgetsOnce space key (erased a) (erased b) delivered answer
    forgot key a b delivered (Ok came_to) was = (was.0, record { spot = was.1.spot; resolved = was.1.resolved; adds = was.1.adds; logged = was.1.logged; outdated = was.1.outdated })
    forgot key a b delivered (Err refused) was = was

    reloaded : (key : List ℕ) (reloads : Bool) (a b : GetterValue L) → HasReloadedWhere space reloads key a b → HasReloadedWhere space reloads key (erased a) (erased b)
    reloaded key false a b is = ap erased is
    reloaded key true a b (answer, was, again) = (
      answer,
      record {
        middle = erased was.middle;
        settled = record { delivered = was.settled.delivered; rest = ap erased was.settled.rest };
        reloaded = was.reloaded;
        rest = ap erased was.rest;
      },
      (again.0, forgot key a b again.0 answer again.1),
    )

    turned : (key : List ℕ) (reloads : Bool) (a b : GetterValue L) (right : Bool) → IsTurn space key reloads a b right → IsTurn space key reloads (erased a) (erased b) right
    turned key reloads a b right was =
        record { middle = erased was.middle; got = got key a was.middle right was.got; reloaded = reloaded key reloads was.middle b was.reloaded }

    turns : (keys thread turn : ℕ) (a b : GetterValue L) (answers : ℕ) → HasTakenTurns space keys thread turn a b answers → HasTakenTurns space keys thread turn (erased a) (erased b) answers
    turns keys thread zero a b answers (is, none) = (ap erased is, none)
    turns keys thread (suc turn) a b answers (middle, before, right, was, last, count) =
        (erased middle, before, right, turns keys thread turn a middle before was, turned (turn_key keys thread turn) (reloads_at turn) middle b right last, count)

    settled : (a b : GetterValue L) (done : Bool) → HasSettled a b done → HasSettled (erased a) (erased b) done
    settled a b done was = record { logs = record { added = was.logs.added; adds = was.logs.adds; logged = was.logs.logged }; rest = ap erased was.rest; done = was.done }

    -- what came of a thread's job
    pub job_of : (group : GroupValue) (keys gets thread : ℕ) (a b : GetterValue L) (part : ThreadEnd) → IsNewGetter group (8 * gets) a → IsJob space keys gets thread a b part
        → IsJobOf space group keys gets thread (erased b) part
    job_of group keys gets thread a b part is_new job = record {
      old = erased a;
      is_new = record { caller = is_new.caller; fresh = is_new.fresh; free = is_new.free; counted = is_new.counted; unlogged = is_new.unlogged };
      job = record {
        turned = erased job.turned;
        turns = turns keys thread gets a job.turned part.answers job.turns;
        done = erased job.done;
        settled = settled job.turned job.done part.settled job.settled;
        log = job.log;
        emptied = ap erased job.emptied;
      };
    }

-- what a drive found by the parts of its threads
pub found_by : {E : Type 0} (line : DriveLine) (threads : ℕ) (r : Result Found E)
    → IsOfThreads (λ space group. IsJobOf space group line.keys line.gets) (λ parts answer. IfOk answer (λ found. IsFoundBy line.threads line.gets parts found.report found.history)) threads r
    → IfOk r (λ found. IsFound line found.report found.history)
found_by line threads (Ok found) (space, group, parts, many, worked, by) = (space, group, parts, worked, by)
found_by line threads (Err refused) (space, group, parts, many, worked, by) = by
