-- what turns count and log
use Rattle.std.proofs.Common.{◌≡◌, ◌≢◌, ℕ, zero, suc, ◌+◌, ◌%◌, ◌==◌, ◌≤◌, Result, IfOk, Bool, true, false, cond, List, [], ◌++◌, inl, inr, ◌⊎◌, Ok, Err, refl, sym, ap, ◌∙◌, subst, arith}
use Rattle.std.proofs.lemmas.List.{append-nil}
use Rattle.std.proofs.lemmas.Bool.{ne_eqb}
use Rattle.std.proofs.lemmas.List.Sums.{sum_by-append}
use Rattle.sf_history.specs.declared.call.CallId.{CallId}
use Rattle.sf_loaders.specs.declared.faults.LocalFault.{LocalFault}
use Rattle.sf_fill_values.specs.declared.fault.LoadFault.{LoadFault}
use Rattle.sf_fill_store.specs.declared.forget.Forgot.{Forgot}
use Rattle.sf_fill_values.specs.Answers.{GetAnswer, IsLoadedFor}
use Rattle.sf_cli_drive.specs.Values.{StatesValues, value_of}
use mir.Val.{bool_byte}
use Rattle.sf_history.specs.declared.event.Event.{Event}
use Rattle.sf_group_rows.specs.Tokens.{GroupValue}
use Rattle.sf_group_rows.specs.Seen.{Grows, IsLawful}
use Rattle.sf_group_rows.proofs.AddsAgain.{grows_again}
use Rattle.sf_fill_keys.specs.Spaces.{SpaceId}
use Rattle.sf_fill_store.specs.declared.standing.Standing.{Standing}
use Rattle.sf_fill.specs.Counted.{askings_in, is_asking}
use Rattle.sf_fill_values.specs.FillValue.{Filled}
use Rattle.sf_fill.specs.Fresh.{HasAdded, IsReloading}
use Rattle.sf_fill.specs.GetterValue.{GetterValue}
use Rattle.sf_fill_store.specs.Standings.{number_of, seen_of, group_of}
use Rattle.sf_fill_store.specs.Logs.{LogValue, logged_by}
use Rattle.sf_fill.specs.Owing.{HasSettledUp}
use Rattle.sf_fill.specs.Reloads.{HasReloaded}
use Rattle.sf_fill_store.proofs.Logging.{logged_append}
use Rattle.sf_cli_drive.specs.declared.jobs.ThreadEnd.{ThreadEnd}
use Rattle.sf_cli_drive.specs.Jobs.{IsJob, IsLogOf, HasLoggedAll, HasReloadedWhere, IsGetOf, IsTurn, HasTakenTurns, key_name, turn_key, reloads_at}

abbrev Seen : Type 0
Seen = List (Event ℕ Filled)

-- what was seen is lawful, or what it was, after two steps
lawful_again : (g h : GroupValue) (p q r : Seen) → h ≡ g → (q ≡ p) ⊎ IsLawful g.sizes q → (r ≡ q) ⊎ IsLawful h.sizes r → (r ≡ p) ⊎ IsLawful g.sizes r
lawful_again g h p q r same (inl was) (inl is) = inl (is ∙ was)
lawful_again g h p q r same (inr was) (inl is) = inr (subst (λ (l : Seen). IsLawful g.sizes l) (sym is) was)
lawful_again g h p q r same was (inr is) = inr (subst (λ (i : GroupValue). IsLawful i.sizes r) same is)

added_again : (a b c : Standing Filled) (x y : Seen) → HasAdded a b x → HasAdded b c y → HasAdded a c (x ++ y)
added_again a b c x y first second =
    let grows : Grows (group_of a) (number_of a) (seen_of b) (seen_of c) y (askings_in y) =
    subst (λ (i : ℕ). Grows (group_of a) i (seen_of b) (seen_of c) y (askings_in y)) first.number
    (subst (λ (i : GroupValue). Grows i (number_of b) (seen_of b) (seen_of c) y (askings_in y)) first.group second.grows) in
    record {
      group = second.group ∙ first.group;
      number = second.number ∙ first.number;
      grows = subst (λ (n : ℕ). Grows (group_of a) (number_of a) (seen_of a) (seen_of c) (x ++ y) n) (sym (sum_by-append (λ (e : Event ℕ Filled). cond (is_asking e) 1 0) x y))
          (grows_again (group_of a) (number_of a) (seen_of a) (seen_of b) (seen_of c) x y (askings_in x) (askings_in y) first.grows grows);
      lawful = lawful_again (group_of a) (group_of b) (seen_of a) (seen_of b) (seen_of c) first.group first.lawful second.lawful;
    }

added_nothing : (a : Standing Filled) → HasAdded a a []
added_nothing a = record {
  group = refl;
  number = refl;
  grows = record { begins = ([], sym (append-nil (seen_of a))); own = sym (append-nil _); next = omega arith };
  lawful = inl refl;
}

-- what an origin states that states nothing but the keys' values
pub stated : (loaded : List ℕ → CallId → List ℕ → Type 0) (key name value : List ℕ) (answer : GetAnswer) → StatesValues loaded → IfOk answer (IsLoadedFor loaded key) → key ≡ name → value ≡ value_of name
    → IfOk answer (λ letter. IfOk letter.value.result (λ bytes. bytes ≡ value))
stated loaded key name value (Err fault) states h same is = h
stated loaded key name value (Ok letter) states h same is = within letter.value.result h
  where
    within : (r : Result (List ℕ) LocalFault) → IfOk r (λ bytes. loaded key letter.value.root bytes) → IfOk r (λ bytes. bytes ≡ value)
    within (Err fault) h = h
    within (Ok bytes) h = states key letter.value.root bytes h ∙ (ap value_of same ∙ sym is)

module _ {L : Type 0} where
  pub logs_nothing : (a : GetterValue L) → HasLoggedAll a a
  logs_nothing a = record { added = []; adds = added_nothing a.standing; logged = refl }

  pub logs_again : (a b c : GetterValue L) → HasLoggedAll a b → HasLoggedAll b c → HasLoggedAll a c
  logs_again a b c first second = record {
    added = first.added ++ second.added;
    adds = added_again a.standing b.standing c.standing first.added second.added first.adds second.adds;
    logged = second.logged ∙ (ap (λ (log : LogValue). logged_by log second.added) first.logged ∙ logged_append a.log first.added second.added);
  }

  -- one try more to settle up
  pub settled_on : (a b c : GetterValue L) (x : Seen) → HasLoggedAll a b → b ≡ record a { standing = b.standing; log = b.log } → HasSettledUp b c → HasAdded b.standing c.standing x
      → c.log ≡ logged_by b.log x → HasLoggedAll a c × (c ≡ record a { standing = c.standing; log = c.log })
  settled_on a b c x logs rest settled adds logged = (
    logs_again a b c logs (record { added = x; adds = adds; logged = logged }),
    settled.rest ∙ ap (λ (y : GetterValue L). record y { standing = c.standing; log = c.log }) rest,
  )

  module _ (space : SpaceId) where
    reload_logs : (key : List ℕ) (a b : GetterValue L) (reloads : Bool) → HasReloadedWhere space reloads key a b → HasLoggedAll a b
    reload_logs key a b false is = subst (λ (c : GetterValue L). HasLoggedAll a c) (sym is) (logs_nothing a)
    reload_logs key a b true (Ok came_to, done, again) = record { added = _; adds = again.1.1.adds; logged = again.1.1.logged }
    reload_logs key a b true (Err fault, done, again) = record { added = _; adds = again.1.0; logged = again.1.1 }

    reload_counts : (key : List ℕ) (a b : GetterValue L) (reloads : Bool) → HasReloadedWhere space reloads key a b → b.counted ≡ a.counted
    reload_counts key a b false is = ap (λ (c : GetterValue L). c.counted) is
    reload_counts key a b true (answer, done, again) = ap (λ (c : GetterValue L). c.counted) done.rest ∙ ap (λ (c : GetterValue L). c.counted) done.settled.rest

    pub turn_alone : (key : List ℕ) (n m turn : ℕ) (a b : GetterValue L) (right : Bool) → key ≡ key_name n → n ≡ m → IsGetOf space key a b right → turn % 10 ≢ 9
        → IsTurn space (key_name m) (reloads_at turn) a b right
    turn_alone key n m turn a b right is same got other = record {
      middle = b;
      got = subst (λ (k : List ℕ). IsGetOf space k a b right) (is ∙ ap key_name same) got;
      reloaded = subst (λ (r : Bool). HasReloadedWhere space r (key_name m) b b) (sym (ne_eqb (turn % 10) 9 other)) refl;
    }

    pub turn_again : (key again : List ℕ) (n m turn : ℕ) (a b c : GetterValue L) (right : Bool) (answer : Result Forgot LoadFault) → key ≡ key_name n → n ≡ m → again ≡ key
        → IsGetOf space key a b right → turn % 10 ≡ 9 → HasReloaded space again b c answer → IsReloading space again b c answer → IsTurn space (key_name m) (reloads_at turn) a c right
    turn_again key again n m turn a b c right answer is same key_is got tenth reloaded adds = record {
      middle = b;
      got = subst (λ (k : List ℕ). IsGetOf space k a b right) (is ∙ ap key_name same) got;
      reloaded = subst (λ (r : Bool). HasReloadedWhere space r (key_name m) b c) (sym (ap (λ (i : ℕ). i == 9) tenth))
          (subst (λ (k : List ℕ). HasReloadedWhere space true k b c) (key_is ∙ (is ∙ ap key_name same)) (answer, reloaded, adds));
    }

    pub turn_logs : (key : List ℕ) (reloads : Bool) (a b : GetterValue L) (right : Bool) → IsTurn space key reloads a b right → HasLoggedAll a b
    turn_logs key reloads a b right turn =
        logs_again a turn.middle b (record { added = _; adds = turn.got.fresh.adds; logged = turn.got.fresh.logged }) (reload_logs key turn.middle b reloads turn.reloaded)

    pub turn_counts : (key : List ℕ) (reloads : Bool) (a b : GetterValue L) (right : Bool) → IsTurn space key reloads a b right → b.counted.gets ≡ a.counted.gets + 1
    turn_counts key reloads a b right turn = ap (λ c. c.gets) (reload_counts key turn.middle b reloads turn.reloaded) ∙ turn.got.counted.gets

    pub turns_log : (keys thread turns : ℕ) (a b : GetterValue L) (answers : ℕ) → HasTakenTurns space keys thread turns a b answers → HasLoggedAll a b
    turns_log keys thread zero a b answers (is, none) = subst (λ (c : GetterValue L). HasLoggedAll a c) (sym is) (logs_nothing a)
    turns_log keys thread (suc turn) a b answers (middle, before, right, was, last, count) =
        logs_again a middle b (turns_log keys thread turn a middle before was) (turn_logs (turn_key keys thread turn) (reloads_at turn) middle b right last)

    pub turns_count : (keys thread turns : ℕ) (a b : GetterValue L) (answers : ℕ) → HasTakenTurns space keys thread turns a b answers → b.counted.gets ≡ a.counted.gets + turns
    turns_count keys thread zero a b answers (is, none) = ap (λ (c : GetterValue L). c.counted.gets) is ∙ omega arith
    turns_count keys thread (suc turn) a b answers (middle, before, right, was, last, count) =
        turn_counts (turn_key keys thread turn) (reloads_at turn) middle b right last ∙ (ap (λ n. n + 1) (turns_count keys thread turn a middle before was) ∙ omega arith)

    pub turns_on : (keys thread turn next : ℕ) (a b c : GetterValue L) (before now : ℕ) (right : Bool) → next ≡ suc turn → HasTakenTurns space keys thread turn a b before
        → IsTurn space (turn_key keys thread turn) (reloads_at turn) b c right → now ≡ before + cond right 1 0 → HasTakenTurns space keys thread next a c now
    turns_on keys thread turn next a b c before now right is was last count =
        subst (λ (n : ℕ). HasTakenTurns space keys thread n a c now) (sym is) (b, before, right, was, last, count)

    pub job_counts : (keys gets thread : ℕ) (a b : GetterValue L) (part : ThreadEnd) → IsJob space keys gets thread a b part → b.counted.gets ≡ a.counted.gets + gets
    job_counts keys gets thread a b part job =
        ap (λ (x : GetterValue L). x.counted.gets) job.emptied ∙ (ap (λ (x : GetterValue L). x.counted.gets) job.settled.rest ∙ turns_count keys thread gets a job.turned part.answers job.turns)

    pub job_logs : (keys gets thread : ℕ) (a b : GetterValue L) (part : ThreadEnd) → IsJob space keys gets thread a b part → IsLogOf a b part.log.items
    job_logs keys gets thread a b part job =
        let all = logs_again a job.turned job.done (turns_log keys thread gets a job.turned part.answers job.turns) job.settled.logs in
        record {
          added = all.added;
          adds = subst (λ (s : Standing Filled). HasAdded a.standing s all.added) (sym (ap (λ (x : GetterValue L). x.standing) job.emptied)) all.adds;
          logged = job.log ∙ ap (λ (log : LogValue). log.events) all.logged;
        }

-- a right answer counts one
pub right_counts : (n : ℕ) (right : Bool) → n + bool_byte right ≡ n + cond right 1 0
right_counts n true = refl
right_counts n false = refl

pub right_is_one : (right : Bool) → bool_byte right ≤ 1
right_is_one true = omega arith
right_is_one false = omega arith
