-- a call's answer is that of its one Settle
use Rattle.std.proofs.Common.{◌≡◌, ℕ, inl, inr, ◌⊎◌, Bool, true, false, cond, ◌||◌, ◌&&◌, ◌==◌, List, [], ◌∷◌, ◌++◌, refl, sym, ap, ◌∙◌, subst, Option, Some, None}
use Rattle.std.specs.Prelude.{nat_eq, find, option_and_then, option_map}
use Rattle.std.specs.Option.{option_or}
use Rattle.std.specs.List.{list_any}
use Rattle.std.proofs.lemmas.Bool.{cases_Bool, and_parts, eqb-true, cond-true, cond-false, false_from_ne_true}
use Rattle.sf_history.specs.declared.call.CallId.{CallId}
use Rattle.sf_history.specs.declared.event.Event.{Event}
use Rattle.sf_history.specs.declared.event.Event.TheVariants.{Lead, Enter, Forget, ForgetCall, Settle, Handed}
use Rattle.sf_history.specs.Calls.{same_call}
use Rattle.sf_history.specs.History.{holds_call, has_closed, names, opens, open_call, enters, joined, leads, was_led, settles, is_settled, result_in, result_of, answer_of}
use Rattle.sf_history.specs.Legal.{IsLegal, MayFollow}
use Rattle.sf_lists.proofs.Lists.{by_push, list_any_push_cases, list_any_push_none}
use Rattle.sf_history.proofs.LegalHistories.{same_call_is, other_call, legal_front, legal_last, fold_push, settled_named}
use Rattle.sf_history.proofs.Members.{joined_kept}
use Rattle.sf_group_rows.specs.Seen.{Stands}
use Rattle.std.proofs.lemmas.List.Folds.{find-append}

found_longer : {X : Type 0} (p : X → Bool) (xs ys : List X) (x : X) → find p xs ≡ Some x → find p (xs ++ ys) ≡ Some x
found_longer p xs ys x is = find-append p xs ys ∙ ap (λ o. option_or o (find p ys)) is

not_found : {X : Type 0} (p : X → Bool) (xs ys : List X) → find p xs ≡ None → find p (xs ++ ys) ≡ find p ys
not_found p xs ys is = find-append p xs ys ∙ ap (λ o. option_or o (find p ys)) is

found_or_not : {X : Type 0} (o : Option X) → (o ≡ None) ⊎ ((x : X) × (o ≡ Some x))
found_or_not None = inl refl
found_or_not (Some x) = inr (x, refl)

found_any : {X : Type 0} (p : X → Bool) (h : List X) (x : X) → find p h ≡ Some x → list_any p h ≡ true
found_any p [] x is = absurd (let no : None ≡ Some x = is in cc)
found_any p (y ∷ ys) x is = elim (cases_Bool (p y)) [
  | inl here ↦ ap (λ b. b || list_any p ys) here
  | inr not_here ↦ ap (λ b. b || list_any p ys) not_here ∙ found_any p ys x (sym (cond-false _ _ _ not_here) ∙ is)
]

module _ {V : Type 0} where
  found_stands : (p : Event ℕ V → Bool) (h : List (Event ℕ V)) (e : Event ℕ V) → find p h ≡ Some e → Stands e h
  found_stands p [] e is = absurd (let no : None ≡ Some e = is in cc)
  found_stands p (y ∷ ys) e is = elim (cases_Bool (p y)) [
    | inl here ↦ let first : Some y ≡ Some e = sym (cond-true _ _ _ here) ∙ is in let same : y ≡ e = cc in ([], ys, ap (λ z. z ∷ ys) same)
    | inr not_here ↦ let rest = found_stands p ys e (sym (cond-false _ _ _ not_here) ∙ is) in (y ∷ rest.0, rest.1, ap (λ q. y ∷ q) rest.2)
  ]

  -- a call was led by its own caller
  led_by : (h : List (Event ℕ V)) (a : ℕ) (c : CallId) → IsLegal nat_eq h → was_led h a c ≡ true → a ≡ c.caller
  led_by h a c = by_push (λ (h : List (Event ℕ V)). IsLegal nat_eq h → was_led h a c ≡ true → a ≡ c.caller) (λ legal is. absurd (let no : false ≡ true = is in cc)) step h
    where
      last : (h : List (Event ℕ V)) (e : Event ℕ V) → MayFollow nat_eq h e → leads a c e ≡ true → a ≡ c.caller
      last h (Lead by key call own) follows is =
          let parts = and_parts (by == a) (same_call call c) is in
          sym (eqb-true by a parts.0) ∙ (follows.0 ∙ ap (λ (x : CallId). x.caller) (same_call_is call c parts.1))
      last h (Enter by key call member) follows is = absurd (let no : false ≡ true = is in cc)
      last h (Forget by key closed) follows is = absurd (let no : false ≡ true = is in cc)
      last h (ForgetCall by key call hit) follows is = absurd (let no : false ≡ true = is in cc)
      last h (Settle by call result joiners) follows is = absurd (let no : false ≡ true = is in cc)
      last h (Handed by call) follows is = absurd (let no : false ≡ true = is in cc)

      step : (h : List (Event ℕ V)) (e : Event ℕ V) → (IsLegal nat_eq h → was_led h a c ≡ true → a ≡ c.caller) → IsLegal nat_eq (h ++ e ∷ []) → was_led (h ++ e ∷ []) a c ≡ true → a ≡ c.caller
      step h e before legal is = elim (list_any_push_cases (leads a c) h e is) [
        | inl was ↦ before (legal_front nat_eq h e legal) was
        | inr now ↦ last h e (legal_last nat_eq h e legal) now
      ]

  -- an open call is not settled
  open_unsettled : (h : List (Event ℕ V)) (k : ℕ) (c : CallId) → IsLegal nat_eq h → open_call nat_eq h k ≡ Some c → is_settled h c ≡ false
  open_unsettled h k c = by_push (λ (h : List (Event ℕ V)). IsLegal nat_eq h → open_call nat_eq h k ≡ Some c → is_settled h c ≡ false) (λ legal is. refl) step h
    where
      at_lead : (h : List (Event ℕ V)) (call : CallId) → IsLegal nat_eq h → list_any (names call) h ≡ false → (open_call nat_eq h k ≡ Some c → is_settled h c ≡ false) → (b : Bool) → cond b (Some call) (open_call nat_eq h k) ≡ Some c → is_settled h c ≡ false
      at_lead h call legal new before true found =
          let calls : call ≡ c = cc in
          let fresh : list_any (names c) h ≡ false = subst (λ (z : CallId). list_any (names z) h ≡ false) calls new in
          false_from_ne_true (is_settled h c) (λ settled. let named = settled_named nat_eq h c legal settled in cc)
      at_lead h call legal new before false found = before found

      at_forget : (h : List (Event ℕ V)) → (open_call nat_eq h k ≡ Some c → is_settled h c ≡ false) → (b : Bool) → cond b None (open_call nat_eq h k) ≡ Some c → is_settled h c ≡ false
      at_forget h before true found = absurd (let no : None ≡ Some c = found in cc)
      at_forget h before false found = before found

      at_settle : (h : List (Event ℕ V)) (call : CallId) → (open_call nat_eq h k ≡ Some c → is_settled h c ≡ false) → (b : Bool) → holds_call (open_call nat_eq h k) call ≡ b → cond b None (open_call nat_eq h k) ≡ Some c → (is_settled h c ≡ false) × (same_call call c ≡ false)
      at_settle h call before true is found = absurd (let no : None ≡ Some c = found in cc)
      at_settle h call before false is found =
          let held : holds_call (Some c) call ≡ false = subst (λ (o : Option CallId). holds_call o call ≡ false) found is in
          (before found, other_call c call held)

      step : (h : List (Event ℕ V)) (e : Event ℕ V) → (IsLegal nat_eq h → open_call nat_eq h k ≡ Some c → is_settled h c ≡ false) → IsLegal nat_eq (h ++ e ∷ []) → open_call nat_eq (h ++ e ∷ []) k ≡ Some c → is_settled (h ++ e ∷ []) c ≡ false
      step h (Lead by key call own) before legal is =
          let front = legal_front nat_eq h (Lead by key call own) legal in
          let follows = legal_last nat_eq h (Lead by key call own) legal in
          list_any_push_none (settles c) h (Lead by key call own) (at_lead h call front follows.1 (before front) (nat_eq key k) (sym (fold_push (opens nat_eq k) None h (Lead by key call own)) ∙ is)) refl
      step h (Enter by key call member) before legal is = list_any_push_none (settles c) h (Enter by key call member) (before (legal_front nat_eq h (Enter by key call member) legal) (sym (fold_push (opens nat_eq k) None h (Enter by key call member)) ∙ is)) refl
      step h (Forget by key closed) before legal is = list_any_push_none (settles c) h (Forget by key closed) (at_forget h (before (legal_front nat_eq h (Forget by key closed) legal)) (nat_eq key k) (sym (fold_push (opens nat_eq k) None h (Forget by key closed)) ∙ is)) refl
      step h (ForgetCall by key call hit) before legal is =
          let front = legal_front nat_eq h (ForgetCall by key call hit) legal in
          let found = sym (fold_push (opens nat_eq k) None h (ForgetCall by key call hit)) ∙ is in
          list_any_push_none (settles c) h (ForgetCall by key call hit) (at_forget h (before front) (nat_eq key k && has_closed hit) found) refl
      step h (Settle by call result joiners) before legal is =
          let parts = at_settle h call (before (legal_front nat_eq h (Settle by call result joiners) legal)) (holds_call (open_call nat_eq h k) call) refl (sym (fold_push (opens nat_eq k) None h (Settle by call result joiners)) ∙ is) in
          list_any_push_none (settles c) h (Settle by call result joiners) parts.0 parts.1
      step h (Handed by call) before legal is = list_any_push_none (settles c) h (Handed by call) (before (legal_front nat_eq h (Handed by call) legal) (sym (fold_push (opens nat_eq k) None h (Handed by call)) ∙ is)) refl

  -- nobody enters a settled call
  not_entered : (h : List (Event ℕ V)) (c : CallId) (e : Event ℕ V) → IsLegal nat_eq h → MayFollow nat_eq h e → is_settled h c ≡ true → enters c e ≡ true → ⊥
  not_entered h c (Lead by key call own) legal follows settled is = let no : false ≡ true = is in cc
  not_entered h c (Enter by key call member) legal follows settled is =
      let same : call ≡ c = same_call_is call c is in
      let opened : open_call nat_eq h key ≡ Some c = follows.2 ∙ ap (λ x. Some x) same in
      let un = open_unsettled h key c legal opened in
      cc
  not_entered h c (Forget by key closed) legal follows settled is = let no : false ≡ true = is in cc
  not_entered h c (ForgetCall by key call hit) legal follows settled is = let no : false ≡ true = is in cc
  not_entered h c (Settle by call result joiners) legal follows settled is = let no : false ≡ true = is in cc
  not_entered h c (Handed by call) legal follows settled is = let no : false ≡ true = is in cc

  -- the Settle of a call is by its caller, with the number of those who joined
  abbrev pub IsOneSettle : List (Event ℕ V) → CallId → Event ℕ V → Type 0
  IsOneSettle h c e = (x : V) × (e ≡ Settle c.caller c x (joined h c))

  one_settle : (h : List (Event ℕ V)) (c : CallId) → IsLegal nat_eq h → (e : Event ℕ V) → find (settles c) h ≡ Some e → IsOneSettle h c e
  one_settle h c = by_push (λ (h : List (Event ℕ V)). IsLegal nat_eq h → (e : Event ℕ V) → find (settles c) h ≡ Some e → IsOneSettle h c e) (λ legal e is. absurd (let no : None ≡ Some e = is in cc)) step h
    where
      newly : (h : List (Event ℕ V)) (last : Event ℕ V) → IsLegal nat_eq h → MayFollow nat_eq h last → settles c last ≡ true → IsOneSettle (h ++ last ∷ []) c last
      newly h (Lead by key call own) legal follows is = absurd (let no : false ≡ true = is in cc)
      newly h (Enter by key call member) legal follows is = absurd (let no : false ≡ true = is in cc)
      newly h (Forget by key closed) legal follows is = absurd (let no : false ≡ true = is in cc)
      newly h (ForgetCall by key call hit) legal follows is = absurd (let no : false ≡ true = is in cc)
      newly h (Settle by call result joiners) legal follows is =
          let same : call ≡ c = same_call_is call c is in
          let maker_is : by ≡ c.caller = led_by h by call legal follows.0 ∙ ap (λ (x : CallId). x.caller) same in
          let mark : joiners ≡ joined (h ++ Settle by call result joiners ∷ []) c = follows.2 ∙ (ap (joined h) same ∙ sym (joined_kept h (Settle by call result joiners) c refl)) in
          (result, ap (λ a. Settle a call result joiners) maker_is ∙ (ap (λ d. Settle c.caller d result joiners) same ∙ ap (Settle c.caller c result) mark))
      newly h (Handed by call) legal follows is = absurd (let no : false ≡ true = is in cc)

      step : (h : List (Event ℕ V)) (last : Event ℕ V) → (IsLegal nat_eq h → (e : Event ℕ V) → find (settles c) h ≡ Some e → IsOneSettle h c e) → IsLegal nat_eq (h ++ last ∷ []) → (e : Event ℕ V) → find (settles c) (h ++ last ∷ []) ≡ Some e → IsOneSettle (h ++ last ∷ []) c e
      step h last before legal e is =
          let front = legal_front nat_eq h last legal in
          let follows = legal_last nat_eq h last legal in
          elim (found_or_not (find (settles c) h)) [
            | inl none ↦
                let here : cond (settles c last) (Some last) None ≡ Some e = sym (not_found (settles c) h (last ∷ []) none) ∙ is in
                elim (cases_Bool (settles c last)) [
                  | inl yes_it ↦ let first : Some last ≡ Some e = sym (cond-true _ _ _ yes_it) ∙ here in let same : last ≡ e = cc in subst (IsOneSettle (h ++ last ∷ []) c) same (newly h last front follows yes_it)
                  | inr not_it ↦ absurd (let no : None ≡ Some e = sym (cond-false _ _ _ not_it) ∙ here in cc)
                ]
            | inr some_it ↦
                let first : Some (some_it.0) ≡ Some e = sym (found_longer (settles c) h (last ∷ []) (some_it.0) some_it.1) ∙ is in
                let same : some_it.0 ≡ e = cc in
                let was = before front (some_it.0) some_it.1 in
                let settled = found_any (settles c) h (some_it.0) some_it.1 in
                let unjoined : enters c last ≡ false = false_from_ne_true (enters c last) (not_entered h c last front follows settled) in
                let mark : joined h c ≡ joined (h ++ last ∷ []) c = sym (joined_kept h last c unjoined) in
                (was.0, sym same ∙ (was.1 ∙ ap (Settle c.caller c (was.0)) mark))
          ]

  -- what an answer is made of
  answer_parts : (h : List (Event ℕ V)) (c : CallId) (o : Option V) (x : V) (joiners : ℕ) → option_map {U = V × ℕ} (λ v. (v, joined h c)) o ≡ Some (x, joiners) → (o ≡ Some x) × (joined h c ≡ joiners)
  answer_parts h c None x joiners is = absurd (let no : None ≡ Some (x, joiners) = is in cc)
  answer_parts h c (Some v) x joiners is = let same : ◌≡◌ {A = V × ℕ} (v, joined h c) (x, joiners) = cc in (ap (λ (p : V × ℕ). Some p.0) same, ap (λ (p : V × ℕ). p.1) same)

  result_found : (o : Option (Event ℕ V)) (x : V) → option_and_then result_in o ≡ Some x → (e : Event ℕ V) × (o ≡ Some e) × (result_in e ≡ Some x)
  result_found None x is = absurd (let no : None ≡ Some x = is in cc)
  result_found (Some e) x is = (e, refl, is)

  -- the Settle that a call's answer says stands in the history
  pub answer_stands : (h : List (Event ℕ V)) (c : CallId) (x : V) (joiners : ℕ) → IsLegal nat_eq h → answer_of h c ≡ Some (x, joiners) → Stands (Settle c.caller c x joiners) h
  answer_stands h c x joiners legal is =
      let parts = answer_parts h c (result_of h c) x joiners is in
      let found = result_found (find (settles c) h) x parts.0 in
      let one = one_settle h c legal (found.0) found.1 in
      let value : Some (one.0) ≡ Some x = sym (ap result_in one.1) ∙ found.2 in
      let same : one.0 ≡ x = cc in
      found_stands (settles c) h (Settle c.caller c x joiners) (found.1 ∙ ap (λ e. Some e) (one.1 ∙ (ap (λ v. Settle c.caller c v (joined h c)) same ∙ ap (Settle c.caller c x) parts.1)))
