-- names of subcommands
use Rattle.std.proofs.Common.{◌≢◌, ℕ, List, [], Option, Some, None, IfNone, All, map, sym, arith}
use Rattle.std.proofs.lemmas.List.Elements.{All-map}
use Rattle.sf_cli.specs.declared.table.Row.{Row}
use Rattle.sf_cli_engines.specs.declared.engine.Engine.TheVariants.{Run, Steps, Check, CheckLogs, Merge}
use Rattle.sf_cli.specs.declared.table.Work.{Work}
use Rattle.sf_cli.specs.declared.table.Work.TheVariants.{Engine, Drive, Bench}
use Rattle.sf_cli.specs.Work.{work_name_of, works}

-- what no row has is no subcommand's name
pub unlike : (name : List ℕ) → All (λ n. n ≢ name) (map work_name_of works) → (work : Work) → name ≢ work_name_of work
unlike name others (Engine (Run history)) = λ is. others 0 [] (omega arith) (sym is)
unlike name others (Engine (Steps shown)) = λ is. others 1 [] (omega arith) (sym is)
unlike name others (Engine (Check judged)) = λ is. others 2 [] (omega arith) (sym is)
unlike name others (Engine (CheckLogs judged)) = λ is. others 2 [] (omega arith) (sym is)
unlike name others (Engine Merge) = λ is. others 3 [] (omega arith) (sym is)
unlike name others Drive = λ is. others 4 [] (omega arith) (sym is)
unlike name others Bench = λ is. others 5 [] (omega arith) (sym is)

-- where no row has the name, it is none of their names
pub no_name : {A : Type 0} (found : Option A) (rows : List Row) (name : List ℕ) → IfNone found (All (λ (row : Row). row.name.now ≢ name) rows)
    → IfNone found (All (λ (text : List ℕ). text ≢ name) (map (λ (row : Row). row.name.now) rows))
no_name None rows name others = All-map (λ (text : List ℕ). text ≢ name) (λ (row : Row). row.name.now) rows others
no_name (Some a) rows name others = tt
