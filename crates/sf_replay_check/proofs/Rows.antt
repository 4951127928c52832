-- what an index keeps of a legal history is what the history says
use Rattle.std.proofs.Common.{◌≡◌, ℕ, ◌+◌, Bool, true, false, ◌||◌, cond, List, [], ◌∷◌, ◌++◌, Option, Some, None, refl, sym, ◌∙◌, ap, subst, is_some, option_map, arith}
use Rattle.std.proofs.Math.Bool.{or-false, or-true}
use Rattle.std.proofs.lemmas.List.Sums.{sum_by_push}
use Rattle.sf_history.specs.declared.call.CallId.{CallId}
use Rattle.sf_history.specs.declared.event.Event.{Event}
use Rattle.sf_history.specs.declared.event.Event.TheVariants.{Lead, Enter, Forget, ForgetCall, Settle, Handed}
use Rattle.sf_history.specs.Calls.{same_call}
use Rattle.sf_history.specs.History.{holds_call, IsNew, names, enters, joined, settles, is_settled, hands, is_handed}
use Rattle.sf_history.specs.Legal.{MayFollow, IsLegal}
use Rattle.std.specs.Prelude.{IfSome, ◌≢◌}
use Rattle.sf_history.proofs.LegalHistories.{same_call_is, legal_front, legal_last, fold_push, led_named, open_named}
use Rattle.sf_lists.proofs.Lists.{by_push, list_any_push}
use Rattle.sf_replay_check.specs.declared.row.Row.{Row}
use Rattle.sf_replay_check.specs.declared.row.Mark.TheVariants.{Joined, Settled, Handing}
use Rattle.sf_replay_check.specs.Checker.{is_named, begins, has_begun}
use Rattle.sf_replay_check.specs.Index.{new_row, marked, row_after, row_of, was_begun, joiners_in, was_settled, was_handed}

-- what a row says
pub record Says (row : Option Row) (named begun : Bool) (count : ℕ) (settled handed : Bool) : Type 0 where
  pub names : is_some row ≡ named
  pub begins : was_begun row ≡ begun
  pub joins : joiners_in row ≡ count
  pub settles : was_settled row ≡ settled
  pub hands : was_handed row ≡ handed

-- what a row says after an event, from what it said before
carried : (old new : Option Row) (n b : Bool) (j : ℕ) (s d p q : Bool) (r : ℕ) (t u : Bool) → Says old n b j s d
    → Says new (is_some old || p) (was_begun old || q) (joiners_in old + r) (was_settled old || t) (was_handed old || u)
    → Says new (n || p) (b || q) (j + r) (s || t) (d || u)
carried old new n b j s d p q r t u before after =
    record {
      names = after.names ∙ ap (λ z. z || p) before.names;
      begins = after.begins ∙ ap (λ z. z || q) before.begins;
      joins = after.joins ∙ ap (λ z. z + r) before.joins;
      settles = after.settles ∙ ap (λ z. z || t) before.settles;
      hands = after.hands ∙ ap (λ z. z || u) before.hands;
    }

nothing : (row : Option Row) → Says row (is_some row || false) (was_begun row || false) (joiners_in row + 0) (was_settled row || false) (was_handed row || false)
nothing row =
    record { names = sym (or-false (is_some row)); begins = sym (or-false (was_begun row)); joins = omega arith; settles = sym (or-false (was_settled row)); hands = sym (or-false (was_handed row)) }

at_lead : (x y : Bool) (row : Option Row) → (x ≡ true → is_some row ≡ false) → (y ≡ true → is_some row ≡ false)
    → Says (cond x (Some (new_row true)) (cond y (Some (new_row false)) row)) (is_some row || (x || y)) (was_begun row || x) (joiners_in row + 0) (was_settled row || false) (was_handed row || false)
at_lead true y None called own = record { names = refl; begins = refl; joins = refl; settles = refl; hands = refl }
at_lead true y (Some r) called own = let new = called refl in cc
at_lead false true None called own = record { names = refl; begins = refl; joins = refl; settles = refl; hands = refl }
at_lead false true (Some r) called own = let new = own refl in cc
at_lead false false row called own = nothing row

at_enter : (x y : Bool) (row : Option Row) → (x ≡ true → is_some row ≡ false) → (y ≡ true → is_some row ≡ true)
    → Says (cond x (Some (new_row false)) (cond y (option_map (marked Joined) row) row)) (is_some row || (y || x)) (was_begun row || false) (joiners_in row + cond y 1 0) (was_settled row || false) (was_handed row || false)
at_enter true true None member call = let named = call refl in cc
at_enter true false None member call = record { names = refl; begins = refl; joins = refl; settles = refl; hands = refl }
at_enter true y (Some r) member call = let new = member refl in cc
at_enter false true None member call = let named = call refl in cc
at_enter false true (Some r) member call =
    record { names = refl; begins = sym (or-false r.led); joins = refl; settles = sym (or-false r.settled); hands = sym (or-false r.handed) }
at_enter false false row member call = nothing row

at_settle : (x : Bool) (row : Option Row) → (x ≡ true → is_some row ≡ true)
    → Says (cond x (option_map (marked Settled) row) row) (is_some row || false) (was_begun row || false) (joiners_in row + 0) (was_settled row || x) (was_handed row || false)
at_settle true None call = let named = call refl in cc
at_settle true (Some r) call =
    record { names = refl; begins = sym (or-false r.led); joins = omega arith; settles = sym (or-true r.settled); hands = sym (or-false r.handed) }
at_settle false row call = nothing row

at_handed : (x : Bool) (row : Option Row) → (x ≡ true → is_some row ≡ true)
    → Says (cond x (option_map (marked Handing) row) row) (is_some row || false) (was_begun row || false) (joiners_in row + 0) (was_settled row || false) (was_handed row || x)
at_handed true None call = let named = call refl in cc
at_handed true (Some r) call =
    record { names = refl; begins = sym (or-false r.led); joins = omega arith; settles = sym (or-false r.settled); hands = sym (or-true r.handed) }
at_handed false row call = nothing row

module _ {K V : Type 0} (eq : K → K → Bool) where
  abbrev pub Tells : CallId → List (Event K V) → Option Row → Type 0
  Tells c h row = Says row (is_named h c) (has_begun h c) (joined h c) (is_settled h c) (is_handed h c)

  after : (c : CallId) (h : List (Event K V)) (e : Event K V) → MayFollow eq h e → (row : Option Row) → Tells c h row
      → Says (row_after c row e) (is_named h c || names c e) (has_begun h c || begins c e) (joined h c + cond (enters c e) 1 0) (is_settled h c || settles c e) (is_handed h c || hands c e)
  after c h (Lead by key call own) follows row tells =
      let called : same_call call c ≡ true → is_some row ≡ false = λ is. tells.names ∙ subst (λ (z : CallId). is_named h z ≡ false) (same_call_is call c is) follows.1 in
      carried _ _ _ _ _ _ _ _ _ _ _ _ tells (at_lead (same_call call c) (holds_call own c) row called (owned own follows.2))
    where
      owned : (own : Option CallId) → IfSome own (λ m. IsNew h m × (m ≢ call)) → holds_call own c ≡ true → is_some row ≡ false
      owned None new is = cc
      owned (Some m) new is = tells.names ∙ subst (λ (z : CallId). is_named h z ≡ false) (same_call_is m c is) new.0
  after c h (Enter by key call member) follows row tells =
      carried _ _ _ _ _ _ _ _ _ _ _ _ tells
      (at_enter (same_call member c) (same_call call c) row
      (λ is. tells.names ∙ subst (λ (z : CallId). is_named h z ≡ false) (same_call_is member c is) follows.1)
      (λ is. tells.names ∙ subst (λ (z : CallId). is_named h z ≡ true) (same_call_is call c is) (open_named eq h key call follows.2)))
  after c h (Forget by key closed) follows row tells = carried _ _ _ _ _ _ _ _ _ _ _ _ tells (nothing row)
  after c h (ForgetCall by key call hit) follows row tells = carried _ _ _ _ _ _ _ _ _ _ _ _ tells (nothing row)
  after c h (Settle by call result joiners) follows row tells =
      carried _ _ _ _ _ _ _ _ _ _ _ _ tells
      (at_settle (same_call call c) row (λ is. tells.names ∙ subst (λ (z : CallId). is_named h z ≡ true) (same_call_is call c is) (led_named h by call follows.0)))
  after c h (Handed by call) follows row tells =
      carried _ _ _ _ _ _ _ _ _ _ _ _ tells
      (at_handed (same_call call c) row (λ is. tells.names ∙ subst (λ (z : CallId). is_named h z ≡ true) (same_call_is call c is) (led_named h by call follows.0)))

  -- the row of a name says what a legal history says of it
  pub tells : (c : CallId) (h : List (Event K V)) → IsLegal eq h → Tells c h (row_of h c)
  tells c = by_push (λ (h : List (Event K V)). IsLegal eq h → Tells c h (row_of h c)) (λ legal. record { names = refl; begins = refl; joins = refl; settles = refl; hands = refl }) step
    where
      step : (h : List (Event K V)) (e : Event K V) → (IsLegal eq h → Tells c h (row_of h c)) → IsLegal eq (h ++ e ∷ []) → Tells c (h ++ e ∷ []) (row_of (h ++ e ∷ []) c)
      step h e before legal =
          let now = after c h e (legal_last eq h e legal) (row_of h c) (before (legal_front eq h e legal)) in
          let row = fold_push (row_after c) None h e in
          record {
            names = ap is_some row ∙ now.names ∙ sym (list_any_push (names c) h e);
            begins = ap was_begun row ∙ now.begins ∙ sym (list_any_push (begins c) h e);
            joins = ap joiners_in row ∙ now.joins ∙ sym (sum_by_push (λ x. cond (enters c x) 1 0) h e);
            settles = ap was_settled row ∙ now.settles ∙ sym (list_any_push (settles c) h e);
            hands = ap was_handed row ∙ now.hands ∙ sym (list_any_push (hands c) h e);
          }
