-- attempts of a forget, one after another
use Rattle.std.proofs.Common.{◌≡◌, ◌≢◌, ℕ, ◌+◌, ◌==◌, eq-eqb, ne_eqb, Bool, true, false, List, [], ◌∷◌, ◌++◌, inl, inr, Option, Some, None, refl, sym, ◌∙◌, ap, subst, append_assoc, arith}
use Rattle.std.specs.Prelude.{if◌then◌else◌}
use Rattle.std.proofs.lemmas.List.{append-nil}
use Rattle.sf_group_steps.specs.View.{history_of}
use Rattle.sf_group_rows.specs.Seen.{Adds}
use Rattle.sf_history.specs.declared.call.CallId.{CallId}
use Rattle.sf_history.specs.declared.event.Event.{Event}
use Rattle.sf_history.specs.declared.event.Event.TheVariants as event
use Rattle.sf_history.specs.declared.event.Hit.TheVariants as hit
use Rattle.sf_words.specs.declared.call_word.CallState.{CallState}
use Rattle.sf_words.specs.KeyWord.{key_code}
use Rattle.sf_words.specs.CallWord.{call_code}
use Rattle.sf_words.specs.declared.key_word.KeyState.{KeyState}
use Rattle.sf_words.specs.declared.key_word.KeyState.TheVariants.{Never, Names}
use Rattle.sf_steps_laws.specs.Turns.{misses, forget_peeked, call_looked, forget_looked, peek_missed}
use Rattle.sf_steps_laws.specs.Events.{closes, clears, missed_unless, look_events, forget_one}
use Rattle.sf_steps_laws.specs.World.{key_of, same_key, open_in, is_forgot_in}
use Rattle.sf_steps_laws.specs.declared.operation.Stage.{Stage}
use Rattle.sf_steps_laws.specs.declared.operation.Stage.TheVariants as stage
use Rattle.sf_steps_laws.specs.declared.operation.ForgetStep.TheVariants as forget
use Rattle.sf_steps_laws.proofs.Compared.{same_key_is, same_key_self}
use Rattle.sf_group_rows.specs.declared.sizes.Sizes.{Sizes}
use Rattle.sf_group_steps.specs.declared.view.View.{View}
use Rattle.sf_group_steps.specs.declared.forgetting.ForgetAttempt.{ForgetAttempt}
use Rattle.sf_group_steps.specs.declared.forgetting.ForgetAttempt.TheVariants.{Closed, Cleared, Missed, Lost}
use Rattle.sf_group_steps.specs.Words.{key, call}
use Rattle.sf_group_steps.specs.View.{world_of}
use Rattle.sf_group_steps.specs.Stands.{Sits, Goes}
use Rattle.sf_group_steps.specs.Changes.{Stays, Went, Tries}
use Rattle.sf_group_steps.specs.Forgets.{called_by, IsMeant, lost_forget, passes, peek_stage, peek_adds, HasForgot, HasCleared, HasClosed, Forgetting, HasForgottenOften}
use Rattle.sf_group_steps.proofs.ForgetLooks.{stays_went}
use Rattle.sf_group_steps.proofs.Trying.{adds_again, goes_after, loses_after, tries_once, tries_none, tries_again, key_apart, call_apart}

-- a look that found the key word of this call, of which the Forget may be
pub record Finds (target : Option CallId) (seen : KeyState) (c : CallId) : Type 0 where
  pub named : seen ≡ key_of c
  pub meant : IsMeant target c

pub finds : (target : Option CallId) (seen : KeyState) (c : CallId) → called_by target seen ≡ Some c → Finds target seen c
finds None Never c is = absurd (let no : None ≡ Some c = is in cc)
finds None (Names b g true) c is = absurd (let no : None ≡ Some c = is in cc)
finds None (Names b g false) c is =
    let same : ◌≡◌ {A = CallId} (record { caller = b; generation = g }) c = cc in
    record { named = ap key_of same; meant = tt }
finds (Some d) seen c is = at (same_key seen (key_of d)) refl is
  where
    at : (b : Bool) → same_key seen (key_of d) ≡ b → (if b then Some d else None) ≡ Some c → Finds (Some d) seen c
    at true names is =
        let same : d ≡ c = cc in
        record { named = same_key_is seen (key_of d) names ∙ ap key_of same; meant = same }
    at false names is = absurd (let no : None ≡ Some c = is in cc)

module _ {V : Type 0} where
  pub forgot_after : (z : Sizes) (a k : ℕ) (target : Option CallId) (last : Bool) (v w x : View V) (p : Stage V) (r : ForgetAttempt) → Goes z a v w p [] 0 → HasForgot z a k target last w x r → HasForgot z a k target last v x r
  forgot_after z a k target last v w x p (Closed c) one two = (two.0, goes_after z a v w x p stage.Free (closes a k target c ∷ []) 0 one two.1)
  forgot_after z a k target last v w x p (Cleared c) one two = (two.0, goes_after z a v w x p stage.Free (clears a k target c ∷ []) 0 one two.1)
  forgot_after z a k target last v w x p Missed one two = goes_after z a v w x p stage.Free (passes a k target ∷ []) 0 one two
  forgot_after z a k target last v w x p Lost one two = tries_again z a k 0 1 v w x p (lost_forget k target last) (record { goes = one; count = λ xs sub. omega arith }) two

  pub cleared_later : (z : Sizes) (a k : ℕ) (target : Option CallId) (c : CallId) (last : Bool) (w x y : View V) (q : Stage V) (r : ForgetAttempt) → IsMeant target c → (world_of z w.known.turns).keys k ≡ key_of c → Stays z a w x q → HasCleared z a k target c last x y r
      → HasForgot z a k target last w y r
  cleared_later z a k target c last w x y q (Closed d) meant shown stays two = absurd two
  cleared_later z a k target c last w x y q (Cleared d) meant shown stays two = (subst (IsMeant target) (sym two.0) meant, goes_after z a w x y q stage.Free (clears a k target d ∷ []) 0 stays.goes two.1)
  cleared_later z a k target c last w x y q Missed meant shown stays two = absurd two
  cleared_later z a k target c last w x y q Lost meant shown stays two =
      tries_once z a k (key_code (key_of c)) (key k) w y (lost_forget k target last) (λ j e. key_apart k j e) (loses_after z a (key_code (key_of c)) (key k) w x y q (lost_forget k target last) tt stays two) (ap key_code shown)

  pub closed_later : (z : Sizes) (a k : ℕ) (target : Option CallId) (c : CallId) (last : Bool) (seen : CallState) (w x y : View V) (q : Stage V) (r : ForgetAttempt) → IsMeant target c → Goes z a w x q [] 0 → (world_of z x.known.turns).calls c.caller ≡ seen
      → HasClosed z a k target c last seen x y r → HasForgot z a k target last w y r
  closed_later z a k target c last seen w x y q (Closed d) meant goes shown two = (subst (IsMeant target) (sym two.0) meant, goes_after z a w x y q stage.Free (closes a k target d ∷ []) 0 goes two.1)
  closed_later z a k target c last seen w x y q (Cleared d) meant goes shown two = absurd two
  closed_later z a k target c last seen w x y q Missed meant goes shown two = absurd two
  closed_later z a k target c last seen w x y q Lost meant goes shown two = forgot_after z a k target last w x y q Lost goes
      (tries_once z a k (call_code seen) (call c.caller) x y (lost_forget k target last) (λ j e. call_apart c.caller k j e) two (ap call_code shown))

  pub forgetting_none : (z : Sizes) (a k : ℕ) (target : Option CallId) (tries : ℕ) (v : View V) → Sits z a v stage.Free → Forgetting z a k target tries 0 v v
  forgetting_none z a k target tries v sits = record { at = stage.Free; done = tries_none z a k v stage.Free sits; may = λ some. inl sits; free = λ e. refl }

  pub forgetting_more : (z : Sizes) (a k : ℕ) (target : Option CallId) (tries failed : ℕ) (v w x : View V) → Forgetting z a k target tries failed v w → Tries z a k 1 w x (lost_forget k target (failed + 1 == tries)) → Forgetting z a k target tries (failed + 1) v x
  forgetting_more z a k target tries failed v w x t one = record {
    at = lost_forget k target (failed + 1 == tries);
    done = tries_again z a k failed 1 v w x t.at (lost_forget k target (failed + 1 == tries)) t.done one;
    may = λ some. inr (subst (λ b. Sits z a x (lost_forget k target b)) (ne_eqb (failed + 1) tries (λ e. absurd (omega arith))) one.goes.sits);
    free = λ e. ap (lost_forget k target) (eq-eqb (failed + 1) tries e);
  }

  pub forgotten_now : (z : Sizes) (a k : ℕ) (target : Option CallId) (tries failed : ℕ) (v w x : View V) (last : Bool) (r : ForgetAttempt) → (r ≢ Lost) → Forgetting z a k target tries failed v w → HasForgot z a k target last w x r → HasForgottenOften z a k target tries v x r
  forgotten_now z a k target tries failed v w x last (Closed c) some t one = (one.0, goes_after z a v w x t.at stage.Free (closes a k target c ∷ []) 0 t.done.goes one.1)
  forgotten_now z a k target tries failed v w x last (Cleared c) some t one = (one.0, goes_after z a v w x t.at stage.Free (clears a k target c ∷ []) 0 t.done.goes one.1)
  forgotten_now z a k target tries failed v w x last Missed some t one = goes_after z a v w x t.at stage.Free (passes a k target ∷ []) 0 t.done.goes one
  forgotten_now z a k target tries failed v w x last Lost some t one = absurd (some refl)

  pub forgotten_all : (z : Sizes) (a k : ℕ) (target : Option CallId) (tries : ℕ) (v w : View V) → Forgetting z a k target tries tries v w → HasForgottenOften z a k target tries v w Lost
  forgotten_all z a k target tries v w t = subst (λ p. Tries z a k tries v w p) (t.free refl) t.done

  -- a step that adds nothing comes after one that adds something
  pub goes_still : (z : Sizes) (a n : ℕ) (v w x : View V) (p q : Stage V) (es : List (Event ℕ V)) → Goes z a v w p es n → Goes z a w x q [] 0 → Goes z a v x q es n
  goes_still z a n v w x p q es one two = record {
    sits = two.sits;
    turns = one.turns ++ two.turns;
    knows = two.knows ∙ (ap (λ ts. ts ++ two.turns) one.knows ∙ append_assoc v.known.turns one.turns two.turns);
    used = let first = one.used in let second = two.used in omega (arith, first, second);
    adds = λ t. let none : n + 0 ≡ n = omega arith in
        subst (λ m. Adds (record { table = t; sizes = z }) a (history_of z v.known.turns) (history_of z x.known.turns) es m) none
        (subst (λ y. Adds (record { table = t; sizes = z }) a (history_of z v.known.turns) (history_of z x.known.turns) y (n + 0)) (append-nil es)
        (adds_again (record { table = t; sizes = z }) a (history_of z v.known.turns) (history_of z w.known.turns) (history_of z x.known.turns) es [] n 0 (one.adds t) (two.adds t)));
  }

  -- a look that found one goes on to it
  pub looked_on : (z : Sizes) (a k : ℕ) (target : Option CallId) (seen : KeyState) (c : CallId) (v w : View V) → called_by target seen ≡ Some c → Went z a v w (forget_looked k target seen) (look_events a k target seen) → Goes z a v w (stage.Forgetting k target (forget.Peek c)) [] 0
  looked_on z a k None seen c v w is went = (subst (λ (y : KeyState). Went z a v w (forget_looked k None y) (look_events a k None y)) (finds None seen c is).named went).goes
  looked_on z a k (Some d) seen c v w is went =
      let found = finds (Some d) seen c is in
      let same : same_key seen (key_of d) ≡ true = ap (λ (y : KeyState). same_key y (key_of d)) found.named ∙ (ap (λ (y : CallId). same_key (key_of c) (key_of y)) found.meant ∙ same_key_self (key_of c)) in
      subst (λ (y : CallId). Goes z a v w (stage.Forgetting k (Some d) (forget.Peek y)) [] 0) found.meant (subst (λ b. Goes z a v w (call_looked k d b) (missed_unless a k d b) 0) same went.goes)

  -- one that found none is the end of the Forget
  pub looked_none : (z : Sizes) (a k : ℕ) (target : Option CallId) (seen : KeyState) (v w : View V) → called_by target seen ≡ None → Went z a v w (forget_looked k target seen) (look_events a k target seen) → Goes z a v w stage.Free (passes a k target ∷ []) 0
  looked_none z a k None Never v w is went = went.goes
  looked_none z a k None (Names b g true) v w is went = went.goes
  looked_none z a k None (Names b g false) v w is went = absurd (let no : Some (record { caller = b; generation = g }) ≡ None = is in cc)
  looked_none z a k (Some d) seen v w is went = at (same_key seen (key_of d)) is went.goes
    where
      at : (b : Bool) → (if b then Some d else None) ≡ None → Goes z a v w (call_looked k d b) (missed_unless a k d b) 0 → Goes z a v w stage.Free (event.ForgetCall a k d hit.Missed ∷ []) 0
      at true is goes = absurd (let no : Some d ≡ None = is in cc)
      at false is goes = goes

  -- a peek that misses is the end of the Forget, and one that does not goes on
  pub peeked_missed : (z : Sizes) (a k : ℕ) (target : Option CallId) (c : CallId) (x : CallState) (v w : View V) → IsMeant target c → misses target (is_forgot_in c.generation x) ≡ true → Went z a v w (peek_stage k target c x) (peek_adds a k target c x)
      → Goes z a v w stage.Free (passes a k target ∷ []) 0
  peeked_missed z a k None c x v w meant is went = absurd (let no : false ≡ true = is in cc)
  peeked_missed z a k (Some d) c x v w meant is went =
      subst (λ (y : CallId). Goes z a v w stage.Free (event.ForgetCall a k y hit.Missed ∷ []) 0) (sym meant)
      (subst (λ b. Goes z a v w (peek_missed k (Some d) c (open_in c.generation x) b) (forget_one (event.ForgetCall a k c hit.Missed) b) 0) is went.goes)

  pub peeked_on : (z : Sizes) (a k : ℕ) (target : Option CallId) (c : CallId) (x : CallState) (v w : View V) → misses target (is_forgot_in c.generation x) ≡ false → Went z a v w (peek_stage k target c x) (peek_adds a k target c x)
      → Stays z a v w (stage.Forgetting k target (forget_peeked c (open_in c.generation x)))
  peeked_on z a k target c x v w is went = stays_went z a v w (stage.Forgetting k target (forget_peeked c (open_in c.generation x)))
      (subst (λ b. Went z a v w (peek_missed k target c (open_in c.generation x) b) (forget_one (event.ForgetCall a k c hit.Missed) b)) is went)
