-- steps one after another, and tries one after another
use Rattle.std.proofs.Common.{◌≡◌, ◌≢◌, ℕ, ◌+◌, ◌≤◌, ◌==◌, eq-eqb, ne_eqb, Bool, List, [], ◌∷◌, ◌++◌, inl, inr, None, refl, sym, ◌∙◌, ap, subst, append_assoc, arith}
use Rattle.std.proofs.lemmas.List.{append-nil}
use Rattle.sf_history.specs.declared.event.Event.{Event}
use Rattle.sf_steps_laws.specs.declared.operation.Stage.{Stage}
use Rattle.sf_steps_laws.specs.declared.turn.Turn.{Turn}
use Rattle.sf_steps_laws.specs.World.{World, first_world}
use Rattle.sf_steps_laws.specs.Turns.{run}
use Rattle.sf_steps_laws.proofs.RightAnswers.{run_append, schedules_are_legal}
use Rattle.sf_group_rows.specs.declared.sizes.Sizes.{Sizes}
use Rattle.sf_group_steps.specs.declared.view.View.{View}
use Rattle.sf_group_steps.specs.Words.{Word, key, call, next, HasWord, IsOthers, code_at}
use Rattle.sf_group_steps.specs.View.{setting_of, world_of, history_of}
use Rattle.sf_group_rows.specs.Tokens.{GroupValue}
use Rattle.sf_group_rows.specs.Seen.{StartsWith, Adds}
use Rattle.sf_history.specs.History.{own_events}
use Rattle.sf_history.specs.declared.call.CallId.{CallId}
use Rattle.sf_history.specs.declared.event.Event.TheVariants as event
use Rattle.sf_words.specs.declared.key_word.KeyState.{KeyState}
use Rattle.sf_words.specs.KeyWord.{key_code}
use Rattle.sf_words.specs.declared.call_word.CallState.{CallState}
use Rattle.sf_words.specs.CallWord.{call_code}
use Rattle.sf_steps_laws.specs.declared.operation.Stage.TheVariants as stage
use Rattle.sf_group_steps.specs.declared.asking.AskAttempt.{AskAttempt}
use Rattle.sf_group_steps.specs.declared.asking.AskAttempt.TheVariants.{Led, Joined, Lost}
use Rattle.sf_group_steps.specs.Stands.{Sits, next_in, Goes}
use Rattle.sf_group_steps.specs.Changes.{changes, tried, IsKeyOrTried, Stays, Loses, Tries, HasChanged}
use Rattle.sf_group_steps.specs.Attempts.{lost_stage, HasAttempted, HasLed, HasJoined, Trying, HasTried}
use Rattle.sf_steps_laws.proofs.Named.{makers_are_callers}
use Rattle.sf_group_steps.proofs.Changing.{changes_append, tried_left, tried_right}
use Rattle.sf_words.specs.declared.limits.TheConstants.{LARGEST_GENERATION}

pub key_apart : (k j : ℕ) → key k ≡ key j → j ≡ k
key_apart k j e = cc

pub call_apart : (b k j : ℕ) → call b ≡ key j → j ≡ k
call_apart b k j e = cc

module _ {V : Type 0} where
  starts_again : (p q r : List (Event ℕ V)) → StartsWith q p → StartsWith r q → StartsWith r p
  starts_again p q r one two = (one.0 ++ two.0, two.1 ∙ (ap (λ l. l ++ two.0) one.1 ∙ append_assoc p (one.0) (two.0)))

  pub adds_again : (g : GroupValue) (a : ℕ) (p q r x y : List (Event ℕ V)) (m n : ℕ) → Adds g a p q x m → Adds g a q r y n → Adds g a p r (x ++ y) (m + n)
  adds_again g a p q r x y m n one two = record {
    grows = record {
      begins = starts_again p q r one.grows.begins two.grows.begins;
      own = two.grows.own ∙ (ap (λ l. l ++ y) one.grows.own ∙ append_assoc (own_events a p) x y);
      next = let first = one.grows.next in let second = two.grows.next in omega (arith, first, second);
    };
    lawful = two.lawful;
  }

  -- who makes no step adds nothing
  abbrev pub goes_none : (z : Sizes) (a : ℕ) (v : View V) (p : Stage V) → Sits z a v p → Goes z a v v p [] 0
  goes_none z a v p sits = record {
    sits = sits;
    turns = [];
    knows = sym (append-nil v.known.turns);
    used = omega arith;
    adds = λ t. record {
      grows = record { begins = ([], sym (append-nil (history_of z v.known.turns))); own = sym (append-nil (own_events a (history_of z v.known.turns))); next = omega arith };
      lawful = record { legal = schedules_are_legal (setting_of z) v.known.turns sits.schedule; made = makers_are_callers (setting_of z) v.known.turns sits.schedule };
    };
  }

  abbrev pub goes_after : (z : Sizes) (a : ℕ) (v w x : View V) (p q : Stage V) (es : List (Event ℕ V)) (n : ℕ) → Goes z a v w p [] 0 → Goes z a w x q es n → Goes z a v x q es n
  goes_after z a v w x p q es n one two = record {
    sits = two.sits;
    turns = one.turns ++ two.turns;
    knows = two.knows ∙ (ap (λ ts. ts ++ two.turns) one.knows ∙ append_assoc v.known.turns one.turns two.turns);
    used = let first = one.used in let second = two.used in omega (arith, first, second);
    adds = λ t. let none : 0 + n ≡ n = omega arith in subst (λ m. Adds (record { table = t; sizes = z }) a (history_of z v.known.turns) (history_of z x.known.turns) es m) none
        (adds_again (record { table = t; sizes = z }) a (history_of z v.known.turns) (history_of z w.known.turns) (history_of z x.known.turns) [] es 0 n (one.adds t) (two.adds t));
  }

  world_after_goes : (z : Sizes) (a : ℕ) (v w : View V) (p : Stage V) (es : List (Event ℕ V)) (n : ℕ) → (g : Goes z a v w p es n) → world_of z w.known.turns ≡ run (world_of z v.known.turns) g.turns
  world_after_goes z a v w p es n g = ap (world_of z) g.knows ∙ run_append (first_world z.callers z.first) v.known.turns g.turns

  pub stays_again : (z : Sizes) (a : ℕ) (v w x : View V) (p q : Stage V) → Stays z a v w p → Stays z a w x q → Stays z a v x q
  stays_again z a v w x p q one two =
      let there = world_after_goes z a v w p [] 0 one.goes in
      record {
        goes = goes_after z a v w x p q [] 0 one.goes two.goes;
        word = λ xs y has others.
            let whole = changes_append a xs (world_of z v.known.turns) one.goes.turns two.goes.turns in
            let later : changes a xs (world_of z w.known.turns) two.goes.turns ≡ changes a xs (run (world_of z v.known.turns) one.goes.turns) two.goes.turns = ap (λ (u : World V). changes a xs u two.goes.turns) there in
            elim (one.word xs y has others) [
              | inl same ↦ elim (two.word xs y has others) [
                | inl again ↦ inl (again ∙ same)
                | inr some ↦ inr (omega (arith, whole, later, some))
              ]
              | inr some ↦ inr (omega (arith, whole, some))
            ];
      }

  later_tried : (a : ℕ) (y : Word) (w : World V) (ts us : List (Turn V)) → IsKeyOrTried a y (run w ts) us → IsKeyOrTried a y w (ts ++ us)
  later_tried a (key k) w ts us is = tt
  later_tried a (call b) w ts us is = tried_right a w ts us (call b) is
  later_tried a (next b) w ts us is = absurd is

  pub loses_after : (z : Sizes) (a n : ℕ) (y : Word) (v w x : View V) (p q : Stage V) → IsOthers a y → Stays z a v w p → Loses z a y n w x q → Loses z a y n v x q
  loses_after z a n y v w x p q others one two =
      let there = world_after_goes z a v w p [] 0 one.goes in
      record {
        goes = goes_after z a v w x p q [] 0 one.goes two.goes;
        changed = λ xs has was.
            let whole = changes_append a xs (world_of z v.known.turns) one.goes.turns two.goes.turns in
            let later : changes a xs (world_of z w.known.turns) two.goes.turns ≡ changes a xs (run (world_of z v.known.turns) one.goes.turns) two.goes.turns = ap (λ (u : World V). changes a xs u two.goes.turns) there in
            elim (one.word xs y has others) [
              | inl same ↦ let some = two.changed xs has (same ∙ was) in omega (arith, whole, later, some)
              | inr some ↦ omega (arith, whole, some)
            ];
        tries = later_tried a y (world_of z v.known.turns) one.goes.turns two.goes.turns (subst (λ (u : World V). IsKeyOrTried a y u two.goes.turns) there two.tries);
      }

  -- one failed exchange, of the place's key word or of a call word
  pub tries_once : (z : Sizes) (a k n : ℕ) (y : Word) (v w : View V) (q : Stage V) → ((j : ℕ) → y ≡ key j → j ≡ k) → Loses z a y n v w q → code_at (world_of z v.known.turns) y ≡ n → Tries z a k 1 v w q
  tries_once z a k n y v w q mine l was = record { goes = l.goes; count = λ xs sub. l.changed xs (sub y (in_all y mine l.tries)) was }
    where
      in_all : (y : Word) → ((j : ℕ) → y ≡ key j → j ≡ k) → IsKeyOrTried a y (world_of z v.known.turns) l.goes.turns → HasWord (key k ∷ tried a (world_of z v.known.turns) l.goes.turns) y
      in_all (key j) is t = inl (ap key (sym (is j refl)))
      in_all (call b) is t = inr t
      in_all (next b) is t = absurd t

  -- a step before
  pub tries_none : (z : Sizes) (a k : ℕ) (v : View V) (p : Stage V) → Sits z a v p → Tries z a k 0 v v p
  tries_none z a k v p sits = record { goes = goes_none z a v p sits; count = λ xs sub. omega arith }

  pub tries_again : (z : Sizes) (a k m n : ℕ) (v w x : View V) (p q : Stage V) → Tries z a k m v w p → Tries z a k n w x q → Tries z a k (m + n) v x q
  tries_again z a k m n v w x p q one two =
      let there = world_after_goes z a v w p [] 0 one.goes in
      record {
        goes = goes_after z a v w x p q [] 0 one.goes two.goes;
        count = λ xs sub.
            let whole = changes_append a xs (world_of z v.known.turns) one.goes.turns two.goes.turns in
            let later : changes a xs (world_of z w.known.turns) two.goes.turns ≡ changes a xs (run (world_of z v.known.turns) one.goes.turns) two.goes.turns = ap (λ (u : World V). changes a xs u two.goes.turns) there in
            let first = one.count xs (λ y has. sub y (left y has)) in
            let second = two.count xs (λ y has. sub y (right y (subst (λ (u : World V). HasWord (key k ∷ tried a u two.goes.turns) y) there has))) in
            omega (arith, whole, later, first, second);
      }
    where
      left : (y : Word) → HasWord (key k ∷ tried a (world_of z v.known.turns) one.goes.turns) y → HasWord (key k ∷ tried a (world_of z v.known.turns) (one.goes.turns ++ two.goes.turns)) y
      left y (inl e) = inl e
      left y (inr h) = inr (tried_left a (world_of z v.known.turns) one.goes.turns two.goes.turns y h)

      right : (y : Word) → HasWord (key k ∷ tried a (run (world_of z v.known.turns) one.goes.turns) two.goes.turns) y → HasWord (key k ∷ tried a (world_of z v.known.turns) (one.goes.turns ++ two.goes.turns)) y
      right y (inl e) = inl e
      right y (inr h) = inr (tried_right a (world_of z v.known.turns) one.goes.turns two.goes.turns y h)

  pub busy_after : (z : Sizes) (a k n : ℕ) (v w : View V) (p : Stage V) → Tries z a k n v w p → HasChanged z a k n v.known.turns w.known.turns
  busy_after z a k n v w p t = (t.goes.turns, t.goes.knows, t.count (key k ∷ tried a (world_of z v.known.turns) t.goes.turns) (λ y has. has))

  -- what a step before adds to an attempt
  pub attempted_after : (z : Sizes) (a g k : ℕ) (last : Bool) (v w x : View V) (p : Stage V) (r : AskAttempt) → Goes z a v w p [] 0 → HasAttempted z a g k last w x r → HasAttempted z a g k last v x r
  attempted_after z a g k last v w x p (Led after) one two = (goes_after z a v w x p (stage.Leading k g None) (event.Lead a k (record { caller = a; generation = g }) None ∷ []) 1 one two.0, two.1)
  attempted_after z a g k last v w x p (Joined c) one two = goes_after z a v w x p (stage.Holding k g c) (event.Enter a k c (record { caller = a; generation = g }) ∷ []) 1 one two
  attempted_after z a g k last v w x p Lost one two = tries_again z a k 0 1 v w x p (lost_stage k last) (record { goes = one; count = λ xs sub. omega arith }) two

  pub still_next : (z : Sizes) (a g : ℕ) (v w : View V) (p : Stage V) → next_in z v a ≡ g → Goes z a v w p [] 0 → next_in z w a ≡ g
  still_next z a g v w p is goes = let used = goes.used in omega (arith, used, is)

  -- an attempt to lead, after its look
  pub led_now : (z : Sizes) (a g k : ℕ) (last : Bool) (seen : KeyState) (v w x : View V) (p : Stage V) (r : AskAttempt) → Goes z a v w p [] 0 → (world_of z w.known.turns).keys k ≡ seen → HasLed z a g k last seen w x r → HasAttempted z a g k last v x r
  led_now z a g k last seen v w x p (Led after) one shown two = attempted_after z a g k last v w x p (Led after) one two
  led_now z a g k last seen v w x p (Joined c) one shown two = absurd two
  led_now z a g k last seen v w x p Lost one shown two = attempted_after z a g k last v w x p Lost one (tries_once z a k (key_code seen) (key k) w x (lost_stage k last) (λ j e. key_apart k j e) two (ap key_code shown))

  -- the same, after a peek
  pub led_later : (z : Sizes) (a g k : ℕ) (last : Bool) (seen : KeyState) (w x y : View V) (q : Stage V) (r : AskAttempt) → (world_of z w.known.turns).keys k ≡ seen → Stays z a w x q → HasLed z a g k last seen x y r → HasAttempted z a g k last w y r
  led_later z a g k last seen w x y q (Led after) shown stays two = attempted_after z a g k last w x y q (Led after) stays.goes two
  led_later z a g k last seen w x y q (Joined c) shown stays two = absurd two
  led_later z a g k last seen w x y q Lost shown stays two =
      tries_once z a k (key_code seen) (key k) w y (lost_stage k last) (λ j e. key_apart k j e) (loses_after z a (key_code seen) (key k) w x y q (lost_stage k last) tt stays two) (ap key_code shown)

  -- an attempt to join, after its peek
  pub joined_later : (z : Sizes) (a g k : ℕ) (c : CallId) (last : Bool) (seen : CallState) (w x y : View V) (q : Stage V) (r : AskAttempt) → Goes z a w x q [] 0 → (world_of z x.known.turns).calls c.caller ≡ seen → HasJoined z a g k c last seen x y r → HasAttempted z a g k last w y r
  joined_later z a g k c last seen w x y q (Led after) goes shown two = absurd two
  joined_later z a g k c last seen w x y q (Joined d) goes shown two = goes_after z a w x y q (stage.Holding k g d) (event.Enter a k d (record { caller = a; generation = g }) ∷ []) 1 goes two.1
  joined_later z a g k c last seen w x y q Lost goes shown two = attempted_after z a g k last w x y q Lost goes
      (tries_once z a k (call_code seen) (call c.caller) x y (lost_stage k last) (λ j e. call_apart c.caller k j e) two (ap call_code shown))

  -- the tries begin, and go on
  pub trying_none : (z : Sizes) (a g k tries : ℕ) (v : View V) → Sits z a v stage.Free → next_in z v a ≡ g → g ≤ LARGEST_GENERATION → Trying z a k tries 0 v v
  trying_none z a g k tries v sits is left = record {
    at = stage.Free;
    done = tries_none z a k v stage.Free sits;
    may = λ some. inl (sits, subst (λ n. n ≤ LARGEST_GENERATION) (sym is) left);
    free = λ e. refl;
  }

  pub trying_more : (z : Sizes) (a k tries failed : ℕ) (v w x : View V) → Trying z a k tries failed v w → Tries z a k 1 w x (lost_stage k (failed + 1 == tries)) → Trying z a k tries (failed + 1) v x
  trying_more z a k tries failed v w x t one = record {
    at = lost_stage k (failed + 1 == tries);
    done = tries_again z a k failed 1 v w x t.at (lost_stage k (failed + 1 == tries)) t.done one;
    may = λ some. inr (subst (λ b. Sits z a x (lost_stage k b)) (ne_eqb (failed + 1) tries (λ e. absurd (omega arith))) one.goes.sits);
    free = λ e. ap (lost_stage k) (eq-eqb (failed + 1) tries e);
  }

  -- an attempt that did not fail ends the asking
  pub tried_now : (z : Sizes) (a g k tries failed : ℕ) (v w x : View V) (last : Bool) (r : AskAttempt) → (r ≢ Lost) → Trying z a k tries failed v w → HasAttempted z a g k last w x r → HasTried z a g k tries v x r
  tried_now z a g k tries failed v w x last (Led after) some t one = (goes_after z a v w x t.at (stage.Leading k g None) (event.Lead a k (record { caller = a; generation = g }) None ∷ []) 1 t.done.goes one.0, one.1)
  tried_now z a g k tries failed v w x last (Joined c) some t one = goes_after z a v w x t.at (stage.Holding k g c) (event.Enter a k c (record { caller = a; generation = g }) ∷ []) 1 t.done.goes one
  tried_now z a g k tries failed v w x last Lost some t one = absurd (some refl)

  pub tried_all : (z : Sizes) (a g k tries : ℕ) (v w : View V) → Trying z a k tries tries v w → HasTried z a g k tries v w Lost
  tried_all z a g k tries v w t = subst (λ p. Tries z a k tries v w p) (t.free refl) t.done
