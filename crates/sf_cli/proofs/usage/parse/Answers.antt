-- a name that no subcommand has is no engine's, and no drive's
use Rattle.std.proofs.Common.{rules, arith, ◌≡◌, ◌∙◌, ℕ, List, Some, Result, Err, codes, drop, map, slice_get, slice_index, slice_range, take_all, length, string_bytes, subst, sym, [], ◌∷◌, ◌-◌, ◌<◌, ap, refl}
use Rattle.clap.specs.Words.{fault_of}
use Rattle.sf_cli_drive.specs.Words.{IsAskedLine, drive_app}
use Rattle.sf_cli_engines.specs.Engines.{name_of, shown_by}
use Rattle.sf_cli_engines.specs.declared.engine.Engine as engines
use Rattle.sf_cli_engines.specs.declared.engine.Engine.TheVariants.{Run, Steps, Check, CheckLogs, Merge}
use Rattle.sf_cli.specs.declared.table.Work.TheVariants.{Engine, Drive}
use Rattle.sf_cli.specs.declared.usage.Subcommand.{Subcommand}
use Rattle.sf_cli.specs.declared.usage.Usage.{Usage}
use Rattle.sf_cli.specs.Usage.{IsAskedBy, IsRefusedBy}
use Rattle.sf_cli.specs.Work.{options_of}
use Rattle.sf_cli.proofs.usage.parse.Goals as goal

pub returns-in-None : goal.returns-in-None
returns-in-None c = (
  λ e asks. c.in-None.ensures.unknown (Engine e) (search (rules, asks)),
  λ names. absurd (c.in-None.ensures.unknown Drive (search (rules, names))),
)

after_first : {X Y : Type 0} (f : X → Y) (xs : List X) → map f (slice_range xs 1 (length xs)) ≡ drop 1 (map f xs)
after_first f [] = refl
after_first f (x ∷ xs) = ap (map f) (take_all (length (x ∷ xs) - 1) xs (omega arith))

pub returns-in_ok-line-in-Some-Drive : goal.returns-in_ok-line-in-Some-Drive
returns-in_ok-line-in-Some-Drive c =
    let name : slice_get (map string_bytes c.args.words.now) 1 ≡ Some (codes "drive") = search rules in
    let own : map string_bytes (slice_range c.args.words.now 1 (length c.args.words.now)) ≡ drop 1 (map string_bytes c.args.words.now) = after_first string_bytes c.args.words.now in (
      name,
      subst (λ (w : List (List ℕ)). IsAskedLine w c.in_ok-line-in-Some-Drive.line) own c.in_ok-line-in-Some-Drive.ensures.asked,
      subst (λ (w : List (List ℕ)). fault_of drive_app w ≡ []) own c.in_ok-line-in-Some-Drive.ensures.faultless,
    )

-- no engine's name begins as that of a drive
no_drive : (e : engines.Engine) → name_of e ≡ codes "drive" → ⊥
no_drive (Run history) is = let heads : 114 ≡ 100 = ap (λ name. slice_index name 0) is in omega (arith, heads)
no_drive (Steps shown) is = let heads : 115 ≡ 100 = ap (λ name. slice_index name 0) is in omega (arith, heads)
no_drive (Check judged) is = let heads : 99 ≡ 100 = ap (λ name. slice_index name 0) is in omega (arith, heads)
no_drive (CheckLogs judged) is = let heads : 99 ≡ 100 = ap (λ name. slice_index name 0) is in omega (arith, heads)
no_drive Merge is = let heads : 109 ≡ 100 = ap (λ name. slice_index name 0) is in omega (arith, heads)

-- the second word, as it is asked for and as it was found
second_word : (words : List (List ℕ)) (found name : List ℕ) (options : List (List ℕ)) → slice_get words 1 ≡ Some found → drop 1 words ≡ name ∷ options → name ≡ found
second_word [] found name options is asks = cc
second_word (first ∷ []) found name options is asks = cc
second_word (first ∷ second ∷ more) found name options is asks = cc

-- the words after it
later_words : (words : List (List ℕ)) (name : List ℕ) (options : List (List ℕ)) → drop 1 words ≡ name ∷ options → drop 2 words ≡ options
later_words [] name options asks = cc
later_words (first ∷ []) name options asks = cc
later_words (first ∷ second ∷ more) name options asks = cc

after_second : {X Y : Type 0} (f : X → Y) (xs : List X) → map f (slice_range xs 2 (length xs)) ≡ drop 2 (map f xs)
after_second f [] = refl
after_second f (x ∷ []) = refl
after_second f (x ∷ y ∷ xs) = ap (map f) (take_all (length (x ∷ y ∷ xs) - 2) xs (omega arith))

pub returns-in_err-line-in-Some-Drive : goal.returns-in_err-line-in-Some-Drive
returns-in_err-line-in-Some-Drive c =
    let words = map string_bytes c.args.words.now in
    let name : slice_get words 1 ≡ Some (codes "drive") = search rules in
    let own : map string_bytes (slice_range c.args.words.now 1 (length c.args.words.now)) ≡ drop 1 words = after_first string_bytes c.args.words.now in
    let refused = c.in_err-line-in-Some-Drive.ensures.refused in
    let asked : IsAskedBy words (Err c.in_err-line-in-Some-Drive.field-0.0) = (
      λ e asks. no_drive e (second_word words (codes "drive") (name_of e) (options_of (shown_by e)) name asks),
      λ names. subst (λ (w : List (List ℕ)). IsRefusedBy (fault_of drive_app w) c.in_err-line-in-Some-Drive.field-0.0) own refused,
    ) in
    let is : c.from_residual.result ≡ Err c.in_err-line-in-Some-Drive.field-0.0 = search rules in
    subst (λ (asking : Result Subcommand Usage). IsAskedBy words asking) (sym is) asked

pub returns-in-None-showing : goal.returns-in-None-showing
returns-in-None-showing c =
    let words = map string_bytes c.args.words.now in
    let name : slice_get words 1 ≡ Some (name_of c.in-Some-Engine.engine) = search rules in
    let own : map string_bytes (slice_range c.args.words.now 2 (length c.args.words.now)) ≡ drop 2 words = after_second string_bytes c.args.words.now in (
      λ e asks. c.in-None-showing.ensures.unknown e (second_word words (name_of c.in-Some-Engine.engine) (name_of e) (options_of (shown_by e)) name asks)
          (own ∙ later_words words (name_of e) (options_of (shown_by e)) asks),
      λ names. absurd (no_drive c.in-Some-Engine.engine (search (rules, names, name))),
    )

-- words that ask for an engine have a second one
second_of : (words : List (List ℕ)) (name : List ℕ) (options : List (List ℕ)) → drop 1 words ≡ name ∷ options → slice_get words 1 ≡ Some name
second_of [] name options asks = cc
second_of (first ∷ []) name options asks = cc
second_of (first ∷ second ∷ more) name options asks = cc

-- fewer words have none
no_second : {X Y : Type 0} (f : X → Y) (xs : List X) (y : Y) → length xs < 2 → slice_get (map f xs) 1 ≡ Some y → ⊥
no_second f [] y few is = cc
no_second f (x ∷ []) y few is = cc
no_second f (x ∷ z ∷ xs) y few is = omega (arith, few)

pub returns-in_default : goal.returns-in_default
returns-in_default c =
    let words = map string_bytes c.args.words.now in
    let few : length c.args.words.now < 2 = search (rules, arith) in (
      λ e asks. no_second string_bytes c.args.words.now (name_of e) few (second_of words (name_of e) (options_of (shown_by e)) asks),
      λ names. absurd (no_second string_bytes c.args.words.now (codes "drive") few names),
    )
