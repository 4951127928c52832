-- what a parse read of the options of a drive
use Rattle.std.proofs.Common.{◌≡◌, ◌⊎◌, ◌∙◌, ◌<◌, ◌≤◌, ◌||◌, ◌^◌, ℕ, zero, suc, Bool, true, false, List, [], ◌∷◌, length, map, All, Option, Some, None, Result, Ok, slice_get, slice_index_or, option_map, unwrap_or, position, pos, codes, Bor, inl, inr, refl, sym, ap, subst, arith, bytes_eq}
use Rattle.std.specs.Str.Parse.{ParsesUnsigned}
use Rattle.std.proofs.lemmas.List.{length-map}
use Rattle.std.proofs.lemmas.List.Elements.{All-get_or}
use Rattle.std.proofs.lemmas.Slice.Eq.{bytes_eq-Decides}
use Rattle.clap.specs.Facts.{Entry, EntryPasses, HasReading, PassesArg, ValuesPass, parser_of, parser_of_value}
use Rattle.clap.specs.Built.{IsAuto}
use Rattle.std.specs.List.{list_all}
use Rattle.clap.specs.Words.{Accepts, App, HasMatchesOf, IsParsedFrom, NamesNoGroup, ReadsOne, Rule, SameRules, Text, app_of, args_of, found_of, groups_of, is_simple, matched_of, matches_of, one_of, one_text, read_as, reading_of, rule_of, without_minus}
use Rattle.clap.specs.declared.builder.arg.Arg.{Arg}
use Rattle.clap.specs.declared.builder.command.Command.{Command}
use Rattle.clap.specs.declared.builder.command.Command.TheViews.{out-Command}
use Rattle.clap.specs.declared.builder.value_parser.Reading.{Reading}
use Rattle.clap.specs.declared.builder.value_parser.ValueParser.{ValueParser}
use Rattle.clap.specs.declared.builder.value_parser.ValueParser.TheVariants.{Bool as a_bool, Signed}
use Rattle.clap.specs.declared.parser.matches.ArgMatches.{ArgMatches}
use Rattle.clap.specs.declared.parser.matches.Found.{Found}
use Rattle.clap.specs.declared.parser.matches.MatchedArg.{MatchedArg}
use Rattle.clap.proofs.CallerLemmas.{entry_by_id, same_rules_by_id}
use Rattle.clap.proofs.CallerReads.{signed_reads}
use Rattle.clap.proofs.SimpleLemmas.{HasPlainFields, plain_fields, simple_groups}
use Rattle.clap.proofs.WalkLemmas.{one_text-rows}
use Rattle.sf_cli_drive.specs.Words.{drive_app, is_in, number_in}
use Rattle.sf_cli_drive.specs.declared.line.TheConstants.{MOST_THREADS, MOST_KEYS, MOST_GETS}

-- ---- the options themselves

abbrev options : List Rule
options = drive_app.top.rules

abbrev pub option_at : ℕ → Rule → Rule
option_at k r = slice_index_or options k r

rule_at : (xs : List Arg) (k : ℕ) (d : Arg) → rule_of (slice_index_or xs k d) ≡ slice_index_or (map rule_of xs) k (rule_of d)
rule_at [] k d = refl
rule_at (x ∷ xs) zero d = refl
rule_at (x ∷ xs) (suc k) d = rule_at xs k d

-- where the option of an id stands
place : Text → ℕ
place id = unwrap_or (position (λ r. bytes_eq r.id id) options) 5

placed : (k : ℕ) (r : Rule) → k < 5 → place (option_at k r).id ≡ k
unfolding place
placed zero r lt = refl
placed (suc zero) r lt = refl
placed (suc (suc zero)) r lt = refl
placed (suc (suc (suc zero))) r lt = refl
placed (suc (suc (suc (suc zero)))) r lt = refl
placed (suc (suc (suc (suc (suc k))))) r lt = absurd (omega arith)

-- ---- one entry

-- what is read of an option, if anything: a text that passed its parser
abbrev Reads : Found → Text → Bool → ValueParser → Type 0
Reads f id ignores q = (one_text f id ≡ None) ⊎ ((t : Text) × (one_text f id ≡ Some (read_as (reading_of q) t)) × Accepts ignores q t)

abbrev ReadsAt : Found → Text → Reading → (Text → Type 0) → Type 0
ReadsAt f id how P = (one_text f id ≡ None) ⊎ ((t : Text) × (one_text f id ≡ Some (read_as how t)) × P t)

first_passes : (P : Bor Text → Type 0) (how : Reading) (vs : List (Bor Text)) → All P vs
    → (option_map (λ s. read_as how s.now) (slice_get vs 0) ≡ None)
    ⊎ ((v : Bor Text) × (option_map (λ s. read_as how s.now) (slice_get vs 0) ≡ Some (read_as how v.now)) × P v)
first_passes P how [] h = inl refl
first_passes P how (v ∷ vs) h = inr (v, refl, All-get_or P (v ∷ vs) 0 v (omega arith) h)

text_at : (f : Found) (id : Text) (x : MatchedArg) (how : Reading) (o : Option Text) → matched_of f id ≡ Some x → x.reading ≡ how
    → option_map (λ s. read_as how s.now) (slice_get x.vals.items 0) ≡ o → one_text f id ≡ o
text_at f id x how o found is v = rw (found, is) v

entry_reads : (c : Command) (f : Found) (id : Text) (P : Text → Type 0) (how : Reading) (x : MatchedArg) (e : Entry)
    → groups_of c ≡ [] → (id ≡ [] → ⊥) → ((r : Reading) → HasReading c id r → r ≡ how)
    → ((v : Bor Text) → PassesArg c id v.now → P v.now)
    → matched_of f id ≡ Some x → e.1 ≡ x → e.0.now ≡ id → EntryPasses c e → ReadsAt f id how P
entry_reads c f id P how x e no_groups named reads passes found same_x key_id pass =
    let no_group : e.1.is_group ≡ true → ⊥ = λ g. elim (pass.3 g) [
      | inl empty ↦ named (sym key_id ∙ empty)
      | inr lots ↦
          let bad : 0 < 0 = rw no_groups at lots in
          absurd (omega arith)
    ] in
    let all : All (λ v. PassesArg c id v.now) x.vals.items = elim pass.0 [
      | inl g ↦ absurd (no_group g)
      | inr vals ↦ subst (λ (w : Text). All (λ v. PassesArg c w v.now) x.vals.items) key_id (rw same_x at vals)
    ] in
    let own : e.1.reading ≡ how = elim pass.4 [
      | inl g ↦ absurd (no_group g)
      | inr h ↦ reads e.1.reading (subst (λ (w : Text). HasReading c w e.1.reading) key_id h)
    ] in
    let is : x.reading ≡ how = ap (λ (y : MatchedArg). y.reading) (sym same_x) ∙ own in
    elim (first_passes (λ v. PassesArg c id v.now) how x.vals.items all) [
      | inl none ↦ inl (text_at f id x how None found is none)
      | inr some ↦ inr (some.0.now, text_at f id x how (Some (read_as how some.0.now)) found is some.1, passes some.0 some.2)
    ]

found_reads : (c : Command) (f : Found) (id : Text) (P : Text → Type 0) (how : Reading) → ValuesPass c f → groups_of c ≡ [] → (id ≡ [] → ⊥)
    → ((r : Reading) → HasReading c id r → r ≡ how) → ((v : Bor Text) → PassesArg c id v.now → P v.now) → ReadsAt f id how P
found_reads c f id P how values no_groups named reads passes = go (matched_of f id) refl
  where
    step : (x : MatchedArg) → matched_of f id ≡ Some x → ((e : Entry) × (e.1 ≡ x) × (bytes_eq e.0.now id ≡ true) × EntryPasses c e) → ReadsAt f id how P
    step x found got = entry_reads c f id P how x got.0 no_groups named reads passes found got.1 ((bytes_eq-Decides got.0.0.now id).0 got.2) got.3

    go : (o : Option MatchedArg) → matched_of f id ≡ o → ReadsAt f id how P
    go None e = inl (rw e refl)
    go (Some x) e = step x e (entry_by_id (EntryPasses c) f.entries.items id x values e)

-- ---- the command of a drive

cased_option : (k : ℕ) (r : Rule) → k < 5 → (option_at k r).ignore_case ≡ false
cased_option zero r lt = refl
cased_option (suc zero) r lt = refl
cased_option (suc (suc zero)) r lt = refl
cased_option (suc (suc (suc zero))) r lt = refl
cased_option (suc (suc (suc (suc zero)))) r lt = refl
cased_option (suc (suc (suc (suc (suc k))))) r lt = absurd (omega arith)

-- what the command of a drive is, as its rules say
record Drives (old : Command) : Type 0 where
  arg : Arg
  count : length (args_of old) ≡ 5
  at : (k : ℕ) (d : Arg) → rule_of (slice_index_or (args_of old) k d) ≡ option_at k (rule_of d)
  groups : groups_of old ≡ []
  globals : (out-Command old).has_globals ≡ false
  no_groups : NamesNoGroup old

first_arg : (xs : List Arg) → length xs ≡ 5 → Arg
first_arg [] h = absurd (omega (h, arith))
first_arg (x ∷ xs) h = x

drives : (old : Command) → app_of old ≡ drive_app → Drives old
drives old is =
    let rules : map rule_of (args_of old) ≡ options = ap (λ (a : App). a.top.rules) is in
    let plain : HasPlainFields old = plain_fields old (ap (λ (a : App). a.top.is_plain) is) in
    let count : length (args_of old) ≡ 5 = sym (length-map (args_of old) rule_of) ∙ ap length rules in
    let at : (k : ℕ) (d : Arg) → rule_of (slice_index_or (args_of old) k d) ≡ option_at k (rule_of d) =
    λ k d. rule_at (args_of old) k d ∙ ap (λ (l : List Rule). slice_index_or l k (rule_of d)) rules in
    record {
      arg = first_arg (args_of old) count;
      count = count;
      at = at;
      groups = plain.groups;
      globals = plain.globals;
      no_groups = simple_groups old (ap (λ (a : App). list_all (λ (r : Rule). r.is_simple) a.top.rules) is);
    }

-- ---- an option of a drive

option_reads : (old : Command) (m : ArgMatches) → IsParsedFrom old m → app_of old ≡ drive_app → (k : ℕ) (id : Text) (q : ValueParser) → k < 5
    → ((r : Rule) → (option_at k r).id ≡ id) → ((r : Rule) → (option_at k r).parser ≡ Some q) → Reads (found_of m) id false q
unfolding place
option_reads old m p is k id q few named_so parsed_so =
    let has = drives old is in
    let d = has.arg in
    let a = slice_index_or (args_of old) k d in
    let lt : k < length (args_of old) = omega (few, has.count, arith) in
    let same_id : a.id.now ≡ id = ap (λ (r : Rule). r.id) (has.at k d) ∙ named_so (rule_of d) in
    let here : place a.id.now ≡ k = ap (λ (r : Rule). place r.id) (has.at k d) ∙ placed k (rule_of d) few in
    let parser : a.value_parser ≡ Some q = ap (λ (r : Rule). r.parser) (has.at k d) ∙ parsed_so (rule_of d) in
    let cased : a.ignore_case ≡ false = ap (λ (r : Rule). r.ignore_case) (has.at k d) ∙ cased_option k (rule_of d) few in
    let elsewhere : (t : Text) → place t ≡ 5 → a.id.now ≡ t → ⊥ = λ t five e.
    let bad : k ≡ 5 = sym here ∙ ap place e ∙ five in absurd (omega (bad, few, arith)) in
    let named : a.id.now ≡ [] → ⊥ = elsewhere [] refl in
    let own : IsAuto a → ⊥ = λ auto. elim auto [
      | inl h ↦ elsewhere (codes "help") refl h
      | inr h ↦ elsewhere (codes "version") refl h
    ] in
    let unique : (j : ℕ) (e : Arg) → j < length (args_of old) → bytes_eq (slice_index_or (args_of old) j e).id.now a.id.now ≡ true → j ≡ k =
    λ j e low same.
    let there : place (slice_index_or (args_of old) j e).id.now ≡ j =
    ap (λ (r : Rule). place r.id) (has.at j e) ∙ placed j (rule_of e) (omega (low, has.count, arith)) in
    sym there ∙ ap place ((bytes_eq-Decides _ a.id.now).0 same) ∙ here in
    let rules : (j : ℕ) (x : Arg) → j < length (args_of p.built) → slice_index_or (args_of p.built) j x ≡ x → bytes_eq x.id.now a.id.now ≡ true → SameRules a x =
    same_rules_by_id old m p k d lt unique own in
    let read : (r : Reading) → HasReading p.built a.id.now r → r ≡ reading_of q = λ r any.
    sym any.4.1 ∙ ap (λ (v : Option ValueParser). reading_of (parser_of_value v)) ((rules any.0 any.1 any.2 any.3 any.4.0).parser q parser) in
    let passes : (v : Bor Text) → PassesArg p.built a.id.now v.now → Accepts false q v.now = λ v any.
    let s = rules any.0 any.1 any.2 any.3 any.4.0 in
    let is_q : parser_of any.1 ≡ q = ap parser_of_value (s.parser q parser) in
    subst (λ (b : Bool). Accepts b q v.now) (s.ignore_case ∙ cased) (subst (λ (w : ValueParser). Accepts any.1.ignore_case w v.now) is_q any.4.1) in
    subst (λ (t : Text). Reads (found_of m) t false q) same_id
    (found_reads p.built (found_of m) a.id.now (Accepts false q) (reading_of q) (p.parsed (p.from.globals ∙ has.globals)).values
    ((p.from.same_groups has.no_groups).1 ∙ has.groups) named read passes)

-- an option of a drive whose value is a number: where it stands, and what stands for it where it is absent
pub record Counts (id : Text) (high absent : ℕ) : Type 0 where
  pub at : ℕ
  pub few : at < 5
  pub named : (r : Rule) → (option_at at r).id ≡ id
  pub parsed : (r : Rule) → (option_at at r).parser ≡ Some (Signed (pos 1) (pos high))
  pub fits : high < 2 ^ 32
  pub low_absent : 1 ≤ absent
  pub high_absent : absent ≤ high

pub threads_option : Counts (codes "threads") MOST_THREADS 4
threads_option = record { at = 0; few = omega arith; named = λ r. refl; parsed = λ r. refl; fits = omega arith; low_absent = omega arith; high_absent = omega arith }

pub keys_option : Counts (codes "keys") MOST_KEYS 8
keys_option = record { at = 1; few = omega arith; named = λ r. refl; parsed = λ r. refl; fits = omega arith; low_absent = omega arith; high_absent = omega arith }

pub gets_option : Counts (codes "gets") MOST_GETS 100
gets_option = record { at = 2; few = omega arith; named = λ r. refl; parsed = λ r. refl; fits = omega arith; low_absent = omega arith; high_absent = omega arith }

-- what a parse that gave m has
pub record Parses (words : List Text) (m : ArgMatches) : Type 0 where
  pub old : Command
  pub is : app_of old ≡ drive_app
  pub parsed : IsParsedFrom old m
  pub matches : HasMatchesOf (app_of old) words m

-- the texts that are read, by the matches of clap's rules
text_read : (words : List Text) (m : ArgMatches) → Parses words m → (id : Text) → one_text (found_of m) id ≡ one_of id (matches_of drive_app words)
text_read words m p id =
    one_text-rows (found_of m) id ∙ ap (one_of id) ((p.matches (ap is_simple p.is)).0 ∙ ap (λ (a : App). matches_of a words) p.is)

-- the number that is read of an option, or what stands for it, is the one that the words say, and in its range
pub number_read : (E : Type 0) (G : Text → Result ℕ E → Type 0) → ((u : Text) (x : Result ℕ E) → G u x → ParsesUnsigned 32 10 u x)
    → (words : List Text) (m : ArgMatches) → Parses words m → (id : Text) (high absent : ℕ) → Counts id high absent → (n : Option ℕ)
    → (one_text (found_of m) id ≡ None → n ≡ None) → ((t : Text) → one_text (found_of m) id ≡ Some t → ReadsOne G t n)
    → (unwrap_or n absent ≡ number_in (matches_of drive_app words) id absent) × (1 ≤ unwrap_or n absent) × (unwrap_or n absent ≤ high)
number_read E G only words m p id high absent of n none value =
    let one = text_read words m p id in
    elim (option_reads p.old m p.parsed p.is of.at id (Signed (pos 1) (pos high)) of.few of.named of.parsed) [
      | inl absent_is ↦
          let by_words : one_of id (matches_of drive_app words) ≡ None = sym one ∙ absent_is in
          let no_number : n ≡ None = none absent_is in
          (rw (no_number, by_words) refl, rw no_number of.low_absent, rw no_number of.high_absent)
      | inr some ↦
          let by_words : one_of id (matches_of drive_app words) ≡ Some (without_minus some.0) = sym one ∙ some.1 in
          let reads = value (without_minus some.0) some.1 in
          let got = signed_reads E G 32 1 high some.0 n reads only of.fits some.2 in
          let parsed = only (without_minus some.0) (Ok got.0) (subst (ReadsOne G (without_minus some.0)) got.1 reads) in
          let is_n : n ≡ Some got.0 = got.1 in
          (rw (is_n, by_words) parsed.1, rw is_n got.2, rw is_n got.3)
    ]

-- an option of a drive that takes no value
pub record Switches (id : Text) : Type 0 where
  pub at : ℕ
  pub few : at < 5
  pub named : (r : Rule) → (option_at at r).id ≡ id
  pub parsed : (r : Rule) → (option_at at r).parser ≡ Some a_bool

pub open_option : Switches (codes "open")
open_option = record { at = 3; few = omega arith; named = λ r. refl; parsed = λ r. refl }

pub history_option : Switches (codes "history")
history_option = record { at = 4; few = omega arith; named = λ r. refl; parsed = λ r. refl }

-- the flag that is read of such an option is the one that the words say
pub flag_read : (words : List Text) (m : ArgMatches) → Parses words m → (id : Text) → Switches id → (b : Bool)
    → (one_text (found_of m) id ≡ None → b ≡ false) → (one_text (found_of m) id ≡ Some (codes "true") → b ≡ true)
    → (one_text (found_of m) id ≡ Some (codes "false") → b ≡ false) → b ≡ is_in (matches_of drive_app words) id
flag_read words m p id of b none if_true if_false =
    elim (option_reads p.old m p.parsed p.is of.at id a_bool of.few of.named of.parsed) [
      | inl absent ↦ rw (sym one ∙ absent) (none absent)
      | inr some ↦ go some.0 (bytes_eq some.0 (codes "true")) refl some.1 some.2
    ]
  where
    one : one_text (found_of m) id ≡ one_of id (matches_of drive_app words)
    one = text_read words m p id

    go : (t : Text) (y : Bool) → bytes_eq t (codes "true") ≡ y → one_text (found_of m) id ≡ Some t
        → (bytes_eq t (codes "true") || bytes_eq t (codes "false")) ≡ true → b ≡ is_in (matches_of drive_app words) id
    go t true y text _ =
        let is_t : t ≡ codes "true" = (bytes_eq-Decides t (codes "true")).0 y in
        rw (sym one ∙ text, y) (if_true (text ∙ ap Some is_t))
    go t false y text either =
        let is_t : t ≡ codes "false" = (bytes_eq-Decides t (codes "false")).0 (rw y at either) in
        rw (sym one ∙ text, y) (if_false (text ∙ ap Some is_t))
