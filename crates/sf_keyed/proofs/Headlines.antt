-- The headline follows from the legality of what the calls leave.
use Rattle.std.proofs.Common.{◌≡◌, ◌≢◌, ℕ, Bool, true, false, cond, ◌||◌, eq-eqb, List, [], ◌∷◌, ◌++◌, Option, Some, None, refl, sym, ◌∙◌, ap, subst, append_assoc}
use Rattle.std.proofs.lemmas.Bool.{true≢false}
use Rattle.std.proofs.lemmas.List.Folds.{list_any-append}
use Rattle.std.specs.Cmp.{nat_eq_equiv}
use Rattle.std.specs.Prelude.{nat_eq}
use Rattle.std.specs.List.{list_any}
use Rattle.sf_history.specs.declared.call.CallId.{CallId}
use Rattle.sf_history.specs.declared.event.Event.TheVariants.{Lead, Enter, Forget, Settle}
use Rattle.sf_history.specs.History.{names, opens, open_call, keeps_current, current_call, result_of}
use Rattle.sf_history.specs.Legal.{MayFollow, IsLegal}
use Rattle.sf_history.proofs.Currents.{past_calls_stay_past, open_call_is_current}
use Rattle.sf_history.proofs.LegalHistories.{legal_front, legal_last, fold_push, open_named}
use Rattle.sf_keyed_tells.specs.Tells.{KeyedEvent, call_of}
use Rattle.sf_keyed_words.proofs.Results.{result_settled}
use Rattle.sf_keyed_walks.proofs.Origins.{result_longer}
use Rattle.sf_keyed.specs.Known.{FrontState}
use Rattle.sf_keyed.specs.Calls.{AddsTo}
use Rattle.sf_keyed.specs.Headline.{AnswersTheOneRun, EntersTheOpenCall, LeadsTheNewCall, NeverAForgottenCall, SettlesOnce, SharesWhatWasJoined, WasClosed}

-- what the event that was added may follow
follows : (before after : FrontState) (x : KeyedEvent) (a : AddsTo before after x) → MayFollow nat_eq (before.seen ++ a.others) x
follows before after x a = legal_last nat_eq (before.seen ++ a.others) x (subst (IsLegal nat_eq) a.seen a.legal)

past_legal : (before after : FrontState) (x : KeyedEvent) (a : AddsTo before after x) → IsLegal nat_eq (before.seen ++ a.others)
past_legal before after x a = legal_front nat_eq (before.seen ++ a.others) x (subst (IsLegal nat_eq) a.seen a.legal)

pub leads_the_new_call : LeadsTheNewCall
leads_the_new_call before after name call led =
    let past : List KeyedEvent = before.seen ++ led.others in
    let x : KeyedEvent = Lead (call_of call).caller name (call_of call) None in
    let m = follows before after x led in
    let opened : open_call nat_eq after.seen name ≡ Some (call_of call) = ap (λ h. open_call nat_eq h name) led.seen ∙ (fold_push (opens nat_eq name) None past x ∙ ap (λ b. cond b (Some (call_of call)) (open_call nat_eq past name)) (eq-eqb name name refl)) in
    (m.3, m.1, opened)

pub enters_the_open_call : EntersTheOpenCall
enters_the_open_call before after name call j = (follows before after (Enter j.member.caller name (call_of call) j.member) j.adds).2

-- a call that is open is named, and goes on to be
named_longer : (h more : List KeyedEvent) (c : CallId) → list_any (names c) h ≡ true → list_any (names c) (h ++ more) ≡ true
named_longer h more c is = list_any-append (names c) h more ∙ ap (λ b. b || list_any (names c) more) is

-- a legal list's beginning is legal
legal_begins : (h more : List KeyedEvent) → IsLegal nat_eq (h ++ more) → IsLegal nat_eq h
legal_begins h more legal p q e is = legal p (q ++ more) e (ap (λ l. l ++ more) is ∙ append_assoc p (e ∷ q) more)

abbrev call_in : Option CallId → CallId
call_in (Some c) = c
call_in None = record { caller = 0; generation = 0 }

abbrev is_there : Option CallId → Bool
is_there (Some c) = true
is_there None = false

-- what a Forget that was seen had closed was named before, and is not current after it
ended : (h : List KeyedEvent) (name : ℕ) (c : CallId) (w : WasClosed h name c) → (more : List KeyedEvent) → IsLegal nat_eq (h ++ more) → (list_any (names c) (h ++ more) ≡ true) × (open_call nat_eq (h ++ more) name ≢ Some c)
ended h name c w more legal =
    let x : KeyedEvent = Forget w.by name (Some c) in
    let start : List KeyedEvent = w.first ++ x ∷ [] in
    let rest : List KeyedEvent = w.later ++ more in
    let whole : h ++ more ≡ start ++ rest = ap (λ l. l ++ more) w.stands ∙ (append_assoc w.first (x ∷ w.later) more ∙ sym (append_assoc w.first (x ∷ []) rest)) in
    let all : IsLegal nat_eq (start ++ rest) = subst (IsLegal nat_eq) whole legal in
    let opened : Some c ≡ open_call nat_eq w.first name = legal_last nat_eq w.first x (legal_begins start rest all) in
    let named : list_any (names c) start ≡ true = named_longer w.first (x ∷ []) c (open_named nat_eq w.first name c (sym opened)) in
    let none : current_call nat_eq start name ≡ None = fold_push (keeps_current nat_eq name) None w.first x ∙ ap (λ b. cond b None (current_call nat_eq w.first name)) (eq-eqb name name refl) in
    let isnt : current_call nat_eq start name ≢ Some c = λ is. true≢false (ap is_there (sym is ∙ none)) in
    let never : current_call nat_eq (start ++ rest) name ≢ Some c = past_calls_stay_past ℕ (Option ℕ) nat_eq start rest name c all named isnt in (
      subst (λ l. list_any (names c) l ≡ true) (sym whole) (named_longer start rest c named),
      λ is. never (subst (λ l. current_call nat_eq l name ≡ Some c) whole (open_call_is_current ℕ (Option ℕ) nat_eq nat_eq_equiv (h ++ more) name c legal is)),
    )

pub never_a_forgotten_call : NeverAForgottenCall
never_a_forgotten_call before after name call c w = (
  λ led same.
      let x : KeyedEvent = Lead (call_of call).caller name (call_of call) None in
      let e = ended before.seen name c w led.others (past_legal before after x led) in
      true≢false (sym e.0 ∙ subst (λ k. list_any (names k) (before.seen ++ led.others) ≡ false) same (follows before after x led).1),
  λ j same.
      let x : KeyedEvent = Enter j.member.caller name (call_of call) j.member in
      let e = ended before.seen name c w j.adds.others (past_legal before after x j.adds) in
      e.1 ((follows before after x j.adds).2 ∙ ap Some same),
)

pub settles_once : SettlesOnce
settles_once before after call told shared ended s =
    let m = follows before after (Settle (call_of call).caller (call_of call) told s.joiners) s.adds in (m.1, m.2)

pub shares_what_was_joined : SharesWhatWasJoined
shares_what_was_joined before after call told shared ended s =
    let count = (settles_once before after call told shared ended s).1 in (
      λ yes none. s.some yes (count ∙ none),
      λ any. is_shared shared (λ isnt. any (sym count ∙ s.none isnt)),
    )
  where
    is_shared : (b : Bool) → (b ≡ false → ⊥) → b ≡ true
    is_shared true never = refl
    is_shared false never = absurd (never refl)

abbrev value_in : Option (Option ℕ) → ℕ
value_in (Some (Some n)) = n
value_in (Some None) = 0
value_in None = 0

pub answers_the_one_run : AnswersTheOneRun
answers_the_one_run before after asked told ticket value answer shared ended h s taken settled seen =
    let c = call_of ticket.call in
    let past : List KeyedEvent = before.seen ++ s.adds.others in
    let once = settles_once before after ticket.call (Some value) shared ended s in
    let first : result_of after.seen c ≡ Some (Some value) = ap (λ l. result_of l c) s.adds.seen ∙ result_settled past c.caller c (Some value) s.joiners once.0 in
    let theirs : result_of h c ≡ Some (Some value) = ap (λ l. result_of l c) settled.1 ∙ result_longer after.seen settled.0 c (Some value) first in
    let mine : result_of h c ≡ Some (Some answer) = ap (λ l. result_of l c) seen.1 ∙ result_longer told.seen seen.0 c (Some answer) taken.result in
    ap value_in (sym mine ∙ theirs)
