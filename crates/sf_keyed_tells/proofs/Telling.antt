-- Each step adds its event to a legal history.
use Rattle.std.proofs.Common.{◌≡◌, ◌≢◌, ℕ, ◌≤◌, ◌/◌, ◌%◌, Bool, true, false, cond, ◌&&◌, ◌||◌, eqb, eq-eqb, ne_eqb, List, [], ◌∷◌, ◌++◌, Option, Some, None, refl, sym, ◌∙◌, ap, subst, arith}
use Rattle.std.proofs.lemmas.Bool.{true≢false}
use Rattle.std.specs.Prelude.{nat_eq}
use Rattle.std.specs.List.{list_any}
use mathlib.Core.Logic.{dite}
use native.Mathlib.Decide.{ℕ_discrete}
use Rattle.sf_lists.specs.Functions.{put}
use Rattle.sf_lists.proofs.Functions.{put_here, put_else}
use Rattle.sf_lists.proofs.Lists.{list_any_push, list_any_push_none, list_any_push_kept}
use Rattle.sf_history.specs.declared.call.CallId.{CallId}
use Rattle.sf_keyed_tells.specs.Tells.{KeyedEvent}
use Rattle.sf_history.specs.declared.event.Event.TheVariants.{Lead, Enter, Forget, Settle}
use Rattle.sf_history.specs.Calls.{same_call}
use Rattle.sf_history.specs.History.{names, IsNew, opens, open_call, leads, was_led, joined, holds_call}
use Rattle.sf_history.proofs.LegalHistories.{same_call_is, same_call_self, legal_push, fold_push}
use Rattle.sf_keyed_laws.specs.Words.{Words}
use Rattle.sf_keyed_laws.specs.Steps.{HasNoOpen, closed_one}
use Rattle.sf_keyed_tells.specs.Tells.{call_of, LeadTells, EnterTells, ForgetTells, IdleTells, SettleTells}
use Rattle.sf_keyed_laws.proofs.Walking.{still_open}

-- a call's number is its cell and generation
pub call_number : (e f : ℕ) → call_of e ≡ call_of f → e ≡ f
call_number e f same =
    let cell : e % 1048576 ≡ f % 1048576 = ap (λ (c : CallId). c.caller) same in
    let generation : e / 1048576 ≡ f / 1048576 = ap (λ (c : CallId). c.generation) same in
    omega arith

pub by_bool : (b : Bool) → (b ≡ true → ⊥) → b ≡ false
by_bool true never = absurd (never refl)
by_bool false never = refl

pub apart_calls : (e f : ℕ) → e ≢ f → same_call (call_of e) (call_of f) ≡ false
apart_calls e f apart = by_bool (same_call (call_of e) (call_of f)) (λ is. apart (call_number e f (same_call_is (call_of e) (call_of f) is)))

pub apart_member : (m : CallId) (f : ℕ) → 1048576 ≤ m.caller → same_call m (call_of f) ≡ false
apart_member m f large = by_bool (same_call m (call_of f)) (λ is.
    let cell : m.caller ≡ f % 1048576 = ap (λ (c : CallId). c.caller) (same_call_is m (call_of f) is) in
    absurd (omega arith))

-- the open call of a key after one more event
pushed : (h : List KeyedEvent) (x : KeyedEvent) (k : ℕ) → open_call nat_eq (h ++ x ∷ []) k ≡ opens nat_eq k (open_call nat_eq h k) x
pushed h x k = fold_push (opens nat_eq k) None h x

pub new_more : (h : List KeyedEvent) (x : KeyedEvent) (e : ℕ) → IsNew h (call_of e) → names (call_of e) x ≡ false → IsNew (h ++ x ∷ []) (call_of e)
new_more h x e before last = list_any_push_none (names (call_of e)) h x before last

led_longer : (h : List KeyedEvent) (x : KeyedEvent) (e : ℕ) → was_led h (e % 1048576) (call_of e) ≡ true → was_led (h ++ x ∷ []) (e % 1048576) (call_of e) ≡ true
led_longer h x e before = list_any_push_kept (leads (e % 1048576) (call_of e)) h x before

or_last : (b c : Bool) → c ≡ true → (b || c) ≡ true
or_last true c is = refl
or_last false c is = is

and_both : (a b : Bool) → a ≡ true → b ≡ true → (a && b) ≡ true
and_both true b x is = is
and_both false b x is = x

or_none : (a b : Bool) → a ≡ false → b ≡ false → (a || b) ≡ false
or_none true b x is = x
or_none false b x is = is

pub lead_tells : LeadTells
lead_tells y s n k c b h lead fresh tells =
    let x : KeyedEvent = Lead (n % 1048576) k (call_of n) None in
    record {
      legal = legal_push nat_eq h x tells.legal (refl, tells.news n lead.new, tt, tells.shuts k lead.none);
      opens = λ e led live. dite (ℕ_discrete e n)
          (λ is.
          let key : put s.key_of n k e ≡ k = ap (put s.key_of n k) is ∙ put_here s.key_of n k in
          pushed h x (put s.key_of n k e) ∙ (ap (λ t. cond t (Some (call_of n)) (open_call nat_eq h (put s.key_of n k e))) (eq-eqb k (put s.key_of n k e) (sym key)) ∙ ap (λ j. Some (call_of j)) (sym is)))
          (λ isnt.
          let key : put s.key_of n k e ≡ s.key_of e = put_else s.key_of n k e isnt in
          let was_led : s.led e ≡ true = sym (put_else s.led n true e isnt) ∙ led in
          ap (open_call nat_eq (h ++ x ∷ [])) key ∙ (pushed h x (s.key_of e) ∙ (ap (λ t. cond t (Some (call_of n)) (open_call nat_eq h (s.key_of e))) (ne_eqb k (s.key_of e) (λ same. lead.none e was_led live (sym same))) ∙ tells.opens e was_led live)));
      shuts = λ j none. dite (ℕ_discrete k j)
          (λ is. absurd (none n (put_here s.led n true) fresh (put_here s.key_of n k ∙ is)))
          (λ isnt. pushed h x j ∙ (ap (λ t. cond t (Some (call_of n)) (open_call nat_eq h j)) (ne_eqb k j isnt) ∙ tells.shuts j (λ e led live key.
          dite (ℕ_discrete e n)
          (λ same. true≢false (sym led ∙ (ap s.led same ∙ lead.new)))
          (λ differ. none e (put_else s.led n true e differ ∙ led) live (put_else s.key_of n k e differ ∙ key)))));
      news = λ e unled. dite (ℕ_discrete e n)
          (λ is. absurd (true≢false (sym (ap (put s.led n true) is ∙ put_here s.led n true) ∙ unled)))
          (λ isnt. new_more h x e (tells.news e (sym (put_else s.led n true e isnt) ∙ unled)) (or_none (same_call (call_of n) (call_of e)) false (apart_calls n e (λ same. isnt (sym same))) refl));
      leads = λ e led. dite (ℕ_discrete e n)
          (λ is. list_any_push (leads (e % 1048576) (call_of e)) h x ∙ or_last (list_any (leads (e % 1048576) (call_of e)) h) (leads (e % 1048576) (call_of e) x)
          (and_both (eqb (n % 1048576) (e % 1048576)) (same_call (call_of n) (call_of e)) (eq-eqb (n % 1048576) (e % 1048576) (ap (λ j. j % 1048576) (sym is))) (subst (λ j. same_call (call_of n) (call_of j) ≡ true) (sym is) (same_call_self (call_of n)))))
          (λ isnt. led_longer h x e (tells.leads e (sym (put_else s.led n true e isnt) ∙ led)));
    }

pub enter_tells : EnterTells
enter_tells s e m h led live large new tells =
    let x : KeyedEvent = Enter m.caller (s.key_of e) (call_of e) m in
    record {
      legal = legal_push nat_eq h x tells.legal (refl, new, tells.opens e led live);
      opens = λ f f_led f_live. pushed h x (s.key_of f) ∙ tells.opens f f_led f_live;
      shuts = λ j none. pushed h x j ∙ tells.shuts j none;
      news = λ f unled. new_more h x f (tells.news f unled)
          (or_none (same_call (call_of e) (call_of f)) (same_call m (call_of f)) (apart_calls e f (λ same. true≢false (sym led ∙ (ap s.led same ∙ unled)))) (apart_member m f large));
      leads = λ f f_led. led_longer h x f (tells.leads f f_led);
    }

-- after a call is closed, the others of its words are what they were
open_after : (s : Words) (e k : ℕ) → HasNoOpen (closed_one s e) k → s.key_of e ≢ k → HasNoOpen s k
open_after s e k none apart f led live key = dite (ℕ_discrete f e)
    (λ is. apart (ap s.key_of (sym is) ∙ key))
    (λ isnt. none f led (put_else s.closed e true f isnt ∙ live) key)

-- one that is open still is another
other_one : (s : Words) (e f : ℕ) → put s.closed e true f ≡ false → f ≢ e
other_one s e f live is = true≢false (sym (ap (put s.closed e true) is ∙ put_here s.closed e true) ∙ live)

pub forget_tells : ForgetTells
forget_tells y s by e h keeps led live tells =
    let k : ℕ = s.key_of e in
    let x : KeyedEvent = Forget by k (Some (call_of e)) in
    record {
      legal = legal_push nat_eq h x tells.legal (sym (tells.opens e led live));
      opens = λ f f_led f_live.
          let was : s.closed f ≡ false = still_open s e f f_live in
          pushed h x (s.key_of f) ∙ (ap (λ t. cond {A = Option CallId} t None (open_call nat_eq h (s.key_of f))) (ne_eqb k (s.key_of f) (λ same. other_one s e f f_live (keeps.one f e f_led was led live (sym same)))) ∙ tells.opens f f_led was);
      shuts = λ j none. dite (ℕ_discrete k j)
          (λ is. pushed h x j ∙ ap (λ t. cond {A = Option CallId} t None (open_call nat_eq h j)) (eq-eqb k j is))
          (λ isnt. pushed h x j ∙ (ap (λ t. cond {A = Option CallId} t None (open_call nat_eq h j)) (ne_eqb k j isnt) ∙ tells.shuts j (open_after s e j none isnt)));
      news = λ f unled. new_more h x f (tells.news f unled) refl;
      leads = λ f f_led. led_longer h x f (tells.leads f f_led);
    }

pub idle_tells : IdleTells
idle_tells s by k h none tells =
    let x : KeyedEvent = Forget by k None in
    record {
      legal = legal_push nat_eq h x tells.legal (sym (tells.shuts k none));
      opens = λ f led live. pushed h x (s.key_of f) ∙ (ap (λ t. cond {A = Option CallId} t None (open_call nat_eq h (s.key_of f))) (ne_eqb k (s.key_of f) (λ same. none f led live (sym same))) ∙ tells.opens f led live);
      shuts = λ j nothing. dite (ℕ_discrete k j)
          (λ is. pushed h x j ∙ ap (λ t. cond {A = Option CallId} t None (open_call nat_eq h j)) (eq-eqb k j is))
          (λ isnt. pushed h x j ∙ (ap (λ t. cond {A = Option CallId} t None (open_call nat_eq h j)) (ne_eqb k j isnt) ∙ tells.shuts j nothing));
      news = λ f unled. new_more h x f (tells.news f unled) refl;
      leads = λ f led. led_longer h x f (tells.leads f led);
    }

-- what a Settle of a call leaves of a key's open call
left_some : (found : Option CallId) (c d : CallId) → found ≡ Some d → same_call d c ≡ false → cond {A = Option CallId} (holds_call found c) None found ≡ Some d
left_some found c d is apart = subst (λ o. cond {A = Option CallId} (holds_call o c) None o ≡ Some d) (sym is) (ap (λ t. cond {A = Option CallId} t None (Some d)) apart)

left_none : (found : Option CallId) (c : CallId) → found ≡ None → cond {A = Option CallId} (holds_call found c) None found ≡ None
left_none found c is = subst (λ o. cond {A = Option CallId} (holds_call o c) None o ≡ None) (sym is) refl

left_same : (found : Option CallId) (c : CallId) → found ≡ Some c → cond {A = Option CallId} (holds_call found c) None found ≡ None
left_same found c is = subst (λ o. cond {A = Option CallId} (holds_call o c) None o ≡ None) (sym is) (ap (λ t. cond {A = Option CallId} t None (Some c)) (same_call_self c))

either_bool : (b : Bool) {P : Type 0} → (b ≡ true → P) → (b ≡ false → P) → P
either_bool true t f = t refl
either_bool false t f = f refl

pub settle_tells : SettleTells
settle_tells y s e v h keeps led unsettled tells =
    let c : CallId = call_of e in
    let x : KeyedEvent = Settle (e % 1048576) c v (joined h c) in
    record {
      legal = legal_push nat_eq h x tells.legal (tells.leads e led, unsettled, refl);
      opens = λ f f_led f_live.
          let was : s.closed f ≡ false = still_open s e f f_live in
          pushed h x (s.key_of f) ∙ left_some (open_call nat_eq h (s.key_of f)) c (call_of f) (tells.opens f f_led was) (apart_calls f e (other_one s e f f_live));
      shuts = λ j none. pushed h x j ∙ either_bool (s.closed e)
          (λ shut. left_none (open_call nat_eq h j) c (tells.shuts j (λ f f_led f_live key. none f f_led (put_else s.closed e true f (λ is. true≢false (sym shut ∙ (ap s.closed (sym is) ∙ f_live))) ∙ f_live) key)))
          (λ live. dite (ℕ_discrete (s.key_of e) j)
          (λ is. left_same (open_call nat_eq h j) c (ap (open_call nat_eq h) (sym is) ∙ tells.opens e led live))
          (λ isnt. left_none (open_call nat_eq h j) c (tells.shuts j (open_after s e j none isnt))));
      news = λ f unled. new_more h x f (tells.news f unled) refl;
      leads = λ f f_led. led_longer h x f (tells.leads f f_led);
    }
