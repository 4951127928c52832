-- each call of the sequential group keeps the group's promises
use Rattle.std.proofs.Common.{◌≡◌, ◌≢◌, ℕ, ◌+◌, ◌^◌, ◌<◌, ◌≤◌, Bool, true, false, ◌==◌, ◌&&◌, List, [], ◌∷◌, ◌++◌, ◌↔◌, ◌⊎◌, Option, Some, None, is_none, inl, inr, refl, sym, ◌∙◌, ap, subst, arith, eq-eqb, append_assoc, All, IfSome}
use Rattle.std.proofs.lemmas.Bool.{and_parts, or_cases, or_left, or_right, eqb-true, ltb-false, cond-true, cond-false, cases_Bool, ne_eqb, false_from_ne_true, true≢false}
use Rattle.std.proofs.lemmas.List.Elements.{All-head, All-tail}
use Rattle.std.specs.List.{list_any}
use Rattle.std.specs.Prelude.{cond, option_and_then}
use Rattle.sf_history.specs.declared.call.CallId.{CallId}
use Rattle.sf_sequential.specs.declared.ticket.Ticket.{Ticket}
use Rattle.sf_history.specs.declared.event.Event.{Event}
use Rattle.sf_history.specs.declared.event.Event.TheVariants.{Lead, Enter, Forget, ForgetCall, Settle, Handed}
use Rattle.sf_history.specs.Calls.{same_call}
use Rattle.sf_history.specs.History.{has_ended, keeps_current, holds_call, names, leads, was_led, joined, settles, is_settled, hands, is_handed, open_call, current_call, next_generation}
use Rattle.sf_history.specs.declared.event.Hit.{Hit}
use Rattle.sf_history.specs.declared.event.Hit.TheVariants.{Missed}
use Rattle.sf_history.specs.Legal.{MayFollow, IsHit}
use Rattle.sf_history.specs.Limits.{IsCallerNumber, IsCallWithin}
use Rattle.sf_sequential.specs.State.{GroupState, IsBounded, IsKept, IsCaller, Leads, Holds, led_call, gives, last_ticket, held_ticket, untaken, has_taken, is_free, is_spent, next_id, with_events, with_taken}
use Rattle.sf_sequential.specs.Sequential.{found_as, hit_of}
use Rattle.sf_lists.proofs.Lists.{by_push, list_any_push_kept, list_any_push_none, list_any_push_last, list_any_push_parts, list_any_push_cases}
use Rattle.sf_history.proofs.LegalHistories.{same_call_is, same_call_self, fold_push, open_named, led_named, handed_settled, open_unsettled}
use Rattle.sf_sequential.proofs.Standing.{led_was_led, led_unsettled, last_given}
use Rattle.sf_sequential.proofs.Joiners.{room_for_joiner}
use Rattle.sf_sequential.proofs.Kept.{NamesInOrder, kept_event, held_from_last}
use Rattle.sf_words.specs.declared.limits.TheConstants.{LARGEST_CALLER, LARGEST_GENERATION}

-- an option that is none
none_is : {X : Type 0} (o : Option X) → is_none o ≡ true → o ≡ None
none_is None is = refl
none_is (Some x) is = cc

-- how many generations one more member uses
at_most_one : (b : Bool) → cond {A = ℕ} b 1 0 ≤ 1
at_most_one true = omega arith
at_most_one false = omega arith

same_ticket : (t u : Ticket) → Some t ≡ Some u → t ≡ u
same_ticket t u is = cc

-- a number of 32 bits, or the one after them, fits 64
pub below_two_64 : (n : ℕ) → n ≤ 2 ^ 32 → n < 2 ^ 64
below_two_64 n small = omega arith

-- an option that holds a call, or does not
held_is : (o : Option CallId) (c : CallId) → holds_call o c ≡ true → o ≡ Some c
held_is None c is = cc
held_is (Some d) c is = ap Some (same_call_is d c is)

not_held : (o : Option CallId) (c : CallId) → holds_call o c ≡ false → o ≢ Some c
not_held o c isnt is = true≢false (sym (ap (λ (x : Option CallId). holds_call x c) is ∙ same_call_self c) ∙ isnt)

-- what a Forget of one call is found to find
hit_is : (opened current : Option CallId) (c : CallId) → IsHit opened current c (hit_of opened current c)
hit_is opened current c = at (holds_call opened c) (holds_call current c) refl refl
  where
    at : (x y : Bool) → holds_call opened c ≡ x → holds_call current c ≡ y → IsHit opened current c (found_as x y)
    at true y open_is current_is = held_is opened c open_is
    at false true open_is current_is = (held_is current c current_is, not_held opened c open_is)
    at false false open_is current_is = not_held current c current_is

-- a call that is found is within the limits, where the open call and the current one are
hit_within : (opened current : Option CallId) (c : CallId) → (opened ≡ Some c → IsCallWithin c) → (current ≡ Some c → IsCallWithin c) → IsCallWithin c ⊎ (hit_of opened current c ≡ Missed)
hit_within opened current c open_is current_is = at (holds_call opened c) (holds_call current c) refl refl
  where
    at : (x y : Bool) → holds_call opened c ≡ x → holds_call current c ≡ y → IsCallWithin c ⊎ (found_as x y ≡ Missed)
    at true y is _ = inl (open_is (held_is opened c is))
    at false true _ is = inl (current_is (held_is current c is))
    at false false _ _ = inr refl

module _ {K V : Type 0} where
  -- a current call was named
  current_named : (eq : K → K → Bool) (h : List (Event K V)) (k : K) (c : CallId) → current_call eq h k ≡ Some c → list_any (names c) h ≡ true
  current_named eq h k c = by_push (λ (h : List (Event K V)). current_call eq h k ≡ Some c → list_any (names c) h ≡ true) (λ is. cc) step h
    where
      at_lead : (h : List (Event K V)) (by : ℕ) (key : K) (call : CallId) (own : Option CallId) → (current_call eq h k ≡ Some c → list_any (names c) h ≡ true) → (b : Bool)
          → cond b (Some call) (current_call eq h k) ≡ Some c → list_any (names c) (h ++ Lead by key call own ∷ []) ≡ true
      at_lead h by key call own before true found =
          let calls : call ≡ c = cc in
          list_any_push_last (names c) h _ (or_left _ _ (subst (λ (z : CallId). same_call z c ≡ true) (sym calls) (same_call_self c)))
      at_lead h by key call own before false found = list_any_push_kept (names c) h _ (before found)

      at_end : (h : List (Event K V)) (e : Event K V) → (current_call eq h k ≡ Some c → list_any (names c) h ≡ true) → (b : Bool)
          → cond b None (current_call eq h k) ≡ Some c → list_any (names c) (h ++ e ∷ []) ≡ true
      at_end h e before true found = cc
      at_end h e before false found = list_any_push_kept (names c) h e (before found)

      step : (h : List (Event K V)) (e : Event K V) → (current_call eq h k ≡ Some c → list_any (names c) h ≡ true) → current_call eq (h ++ e ∷ []) k ≡ Some c → list_any (names c) (h ++ e ∷ []) ≡ true
      step h (Lead by key call own) before is = at_lead h by key call own before (eq key k) (sym (fold_push (keeps_current eq k) None h _) ∙ is)
      step h (Enter by key call member) before is = list_any_push_kept (names c) h _ (before (sym (fold_push (keeps_current eq k) None h _) ∙ is))
      step h (Forget by key closed) before is = at_end h _ before (eq key k) (sym (fold_push (keeps_current eq k) None h _) ∙ is)
      step h (ForgetCall by key call hit) before is = at_end h _ before (eq key k && has_ended hit) (sym (fold_push (keeps_current eq k) None h _) ∙ is)
      step h (Settle by call result joiners) before is = list_any_push_kept (names c) h _ (before (sym (fold_push (keeps_current eq k) None h _) ∙ is))
      step h (Handed by call) before is = list_any_push_kept (names c) h _ (before (sym (fold_push (keeps_current eq k) None h _) ∙ is))

  -- a free caller neither leads nor holds
  pub free_parts : (g : GroupState K V) (a : ℕ) → is_free g a ≡ true → (led_call g.history a ≡ None) × (held_ticket g a ≡ None)
  free_parts g a free = let parts = and_parts _ _ free in (none_is _ parts.0, none_is _ parts.1)

  -- a caller that is not spent has a generation left
  unspent : (g : GroupState K V) (a : ℕ) → is_spent g a ≡ false → next_generation g.first g.history a ≤ LARGEST_GENERATION
  unspent g a left = ltb-false LARGEST_GENERATION (next_generation g.first g.history a) left

  -- a caller's next call or member is new
  pub next_is_new : (eq : K → K → Bool) (g : GroupState K V) (a : ℕ) → IsKept eq g → list_any (names (next_id g a)) g.history ≡ false
  next_is_new eq g a kept = false_from_ne_true _ (λ named. let below = kept.numbered (next_id g a) named in absurd (omega arith))

  -- there is room for one more generation of a caller that is not spent
  one_more : (eq : K → K → Bool) (g : GroupState K V) (a : ℕ) → IsKept eq g → is_spent g a ≡ false → (b : ℕ) → next_generation g.first g.history b + cond {A = ℕ} (a == b) 1 0 ≤ 2 ^ 32
  one_more eq g a kept left b =
      elim (cases_Bool (a == b)) [
        | inl is ↦
            let same : a ≡ b = eqb-true _ _ is in
            let below = subst (λ (n : ℕ). next_generation g.first g.history n ≤ LARGEST_GENERATION) same (unspent g a left) in
            let one = at_most_one (a == b) in
            omega arith
        | inr isnt ↦
            let none : cond {A = ℕ} (a == b) 1 0 ≡ 0 = cond-false _ _ _ isnt in
            let below = kept.within b in
            omega arith
      ]

  -- a caller's next call or member is below its generations after it
  is_next : (g : GroupState K V) (a : ℕ) (c : CallId) → same_call (next_id g a) c ≡ true → c.generation < next_generation g.first g.history c.caller + cond {A = ℕ} (a == c.caller) 1 0
  is_next g a c is =
      let below : CallId → Type 0 = λ z. z.generation < next_generation g.first g.history z.caller + cond {A = ℕ} (a == z.caller) 1 0 in
      let one : cond {A = ℕ} (a == a) 1 0 ≡ 1 = cond-true _ _ _ (eq-eqb a a refl) in
      let first : below (next_id g a) = omega arith in
      subst below (same_call_is (next_id g a) c is) first

  -- a caller of the group has a number within the limits
  made_within : (eq : K → K → Bool) (g : GroupState K V) (a : ℕ) → IsKept eq g → IsCaller g a → IsCallerNumber a
  made_within eq g a kept caller = let few = kept.few in (caller.0, omega (arith, caller.1))

  -- so has the next call or member of one that is not spent
  next_within : (eq : K → K → Bool) (g : GroupState K V) (a : ℕ) → IsKept eq g → IsCaller g a → is_spent g a ≡ false → IsCallWithin (next_id g a)
  next_within eq g a kept caller left =
      let first = kept.first in
      (made_within eq g a kept caller, omega arith, unspent g a left)

  -- a call that is named is within the limits
  named_within : (h : List (Event K V)) (c : CallId) → All IsBounded h → list_any (names c) h ≡ true → IsCallWithin c
  named_within [] c limited named = cc
  named_within (e ∷ h) c limited named =
      elim (or_cases _ _ named) [
        | inl here ↦ by_event e (All-head (λ (x : Event K V). IsBounded x) e h limited) here
        | inr later ↦ named_within h c (All-tail (λ (x : Event K V). IsBounded x) e h limited) later
      ]
    where
      one : (d : CallId) → IsCallWithin d → same_call d c ≡ true → IsCallWithin c
      one d within is = subst IsCallWithin (same_call_is d c is) within

      own_one : (own : Option CallId) → IfSome own IsCallWithin → holds_call own c ≡ true → IsCallWithin c
      own_one None within is = cc
      own_one (Some d) within is = one d within is

      by_event : (e : Event K V) → IsBounded e → names c e ≡ true → IsCallWithin c
      by_event (Lead by key call own) within is = elim (or_cases _ _ is) [ inl call_is ↦ one call within.1 call_is | inr own_is ↦ own_one own within.2 own_is ]
      by_event (Enter by key call member) within is = elim (or_cases _ _ is) [ inl call_is ↦ one call within.1 call_is | inr member_is ↦ one member within.2 member_is ]
      by_event (Forget by key closed) within is = cc
      by_event (ForgetCall by key call hit) within is = cc
      by_event (Settle by call result joiners) within is = cc
      by_event (Handed by call) within is = cc

  -- so is the key's open call
  open_within : (eq : K → K → Bool) (g : GroupState K V) (k : K) (c : CallId) → IsKept eq g → open_call eq g.history k ≡ Some c → IsCallWithin c
  open_within eq g k c kept opened = named_within g.history c kept.limited (open_named eq g.history k c opened)

  closed_within : (eq : K → K → Bool) (g : GroupState K V) (k : K) (closed : Option CallId) → IsKept eq g → closed ≡ open_call eq g.history k → IfSome closed IsCallWithin
  closed_within eq g k None kept is = tt
  closed_within eq g k (Some c) kept is = open_within eq g k c kept (sym is)

  -- a ticket that is found to be held is the caller's last one, and not taken
  pub held_parts : (g : GroupState K V) (t : Ticket) (found : Option Ticket) → option_and_then (untaken g.taken) found ≡ Some t → (found ≡ Some t) × (has_taken g.taken t.member ≡ false)
  held_parts g t None is = cc
  held_parts g t (Some u) is = at (has_taken g.taken u.member) refl is
    where
      at : (b : Bool) → has_taken g.taken u.member ≡ b → cond b None (Some u) ≡ Some t → (Some u ≡ Some t) × (has_taken g.taken t.member ≡ false)
      at true was found = cc
      at false was found = let same : u ≡ t = cc in (found, subst (λ (z : Ticket). has_taken g.taken z.member ≡ false) same was)

  -- who was given a ticket is named
  given_named : (h : List (Event K V)) (t : Ticket) → list_any (gives t) h ≡ true → list_any (names t.member) h ≡ true
  given_named [] t is = cc
  given_named (e ∷ h) t is = elim (or_cases _ _ is) [
    | inl here ↦ or_left (names t.member e) (list_any (names t.member) h) (by_event e here)
    | inr later ↦ or_right (names t.member e) (list_any (names t.member) h) (given_named h t later)
  ]
    where
      by_event : (e : Event K V) → gives t e ≡ true → names t.member e ≡ true
      by_event (Lead by key call own) is = or_right (same_call call t.member) (holds_call own t.member) (and_parts _ _ is).1
      by_event (Enter by key call member) is = or_right (same_call call t.member) (same_call member t.member) (and_parts _ _ is).1
      by_event (Forget by key closed) is = cc
      by_event (ForgetCall by key call hit) is = cc
      by_event (Settle by call result joiners) is = cc
      by_event (Handed by call) is = cc

  -- an event that is no Enter takes no joiner's place
  no_joiner : (eq : K → K → Bool) (g : GroupState K V) → IsKept eq g → (c : CallId) → joined g.history c + 0 ≤ LARGEST_CALLER
  no_joiner eq g kept c = let most = kept.few_joined c in omega arith

  -- a free caller with a generation left leads a new call
  pub kept_lead : (eq : K → K → Bool) (g : GroupState K V) (a : ℕ) (k : K) (id : CallId) → IsKept eq g → IsCaller g a → is_free g a ≡ true → is_spent g a ≡ false → id ≡ next_id g a
      → open_call eq g.history k ≡ None → IsKept eq (with_events g (Lead a k id None ∷ []))
  kept_lead eq g a k id kept caller free left is none =
      let ordered : NamesInOrder g (Lead a k (next_id g a) None) =
      λ c named. elim (or_cases _ _ named) [
        | inl call ↦ let below = is_next g a c call in inr (omega arith)
        | inr own ↦ cc
      ] in
      let room : (b : ℕ) → next_generation g.first g.history b + (cond {A = ℕ} (a == b) 1 0 + 0) ≤ 2 ^ 32 = λ b. let most = one_more eq g a kept left b in omega arith in
      subst (λ (c : CallId). IsKept eq (with_events g (Lead a k c None ∷ []))) (sym is)
      (kept_event eq g (Lead a k (next_id g a) None) kept (refl, next_is_new eq g a kept, tt, none) (made_within eq g a kept caller, next_within eq g a kept caller left, tt) caller ((free_parts g a free).0, tt) ordered room (no_joiner eq g kept))

  -- the same with an own channel, whose caller is another one that is free and has a generation left
  pub kept_lead_own : (eq : K → K → Bool) (g : GroupState K V) (a b : ℕ) (k : K) (id own : CallId) → IsKept eq g → IsCaller g a → IsCaller g b → is_free g a ≡ true → is_spent g a ≡ false → id ≡ next_id g a
      → b ≢ a → is_free g b ≡ true → is_spent g b ≡ false → own ≡ next_id g b → open_call eq g.history k ≡ None → IsKept eq (with_events g (Lead a k id (Some own) ∷ []))
  kept_lead_own eq g a b k id own kept caller second free left is other free_own left_own is_own none =
      let ordered : NamesInOrder g (Lead a k (next_id g a) (Some (next_id g b))) =
      λ c named. elim (or_cases _ _ named) [
        | inl call ↦ let below = is_next g a c call in inr (omega arith)
        | inr member ↦ let below = is_next g b c member in inr (omega arith)
      ] in
      let room : (n : ℕ) → next_generation g.first g.history n + (cond {A = ℕ} (a == n) 1 0 + cond {A = ℕ} (b == n) 1 0) ≤ 2 ^ 32 = λ n.
      let most = one_more eq g a kept left n in
      let most_own = one_more eq g b kept left_own n in
      elim (cases_Bool (a == n)) [
        | inl same ↦
            let others : (b == n) ≡ false = ne_eqb b n (λ e. other (e ∙ sym (eqb-true a n same))) in
            let zero : cond {A = ℕ} (b == n) 1 0 ≡ 0 = cond-false _ _ _ others in
            omega arith
        | inr isnt ↦ let zero : cond {A = ℕ} (a == n) 1 0 ≡ 0 = cond-false _ _ _ isnt in omega arith
      ] in
      let apart : next_id g b ≢ next_id g a = λ e. other (ap (λ (c : CallId). c.caller) e) in
      let new_call : CallId → CallId → Type 0 = λ c m. IsKept eq (with_events g (Lead a k c (Some m) ∷ [])) in
      subst (λ (m : CallId). new_call id m) (sym is_own)
      (subst (λ (c : CallId). new_call c (next_id g b)) (sym is)
      (kept_event eq g (Lead a k (next_id g a) (Some (next_id g b))) kept (refl, next_is_new eq g a kept, (next_is_new eq g b kept, apart), none)
      (made_within eq g a kept caller, next_within eq g a kept caller left, next_within eq g b kept second left_own) caller
      ((free_parts g a free).0, (free_parts g b free_own).1) ordered room (no_joiner eq g kept)))

  -- a free caller with a generation left enters the open call
  pub kept_enter : (eq : K → K → Bool) (g : GroupState K V) (a : ℕ) (k : K) (c id : CallId) → IsKept eq g → IsCaller g a → is_free g a ≡ true → is_spent g a ≡ false → id ≡ next_id g a
      → open_call eq g.history k ≡ Some c → IsKept eq (with_events g (Enter a k c id ∷ []))
  kept_enter eq g a k c id kept caller free left is opened =
      let ordered : NamesInOrder g (Enter a k c (next_id g a)) =
      λ d named. elim (or_cases _ _ named) [
        | inl call ↦ inl (subst (λ (z : CallId). list_any (names z) g.history ≡ true) (same_call_is c d call) (open_named eq g.history k c opened))
        | inr member ↦ let below = is_next g a d member in inr (omega arith)
      ] in
      let number = made_within eq g a kept caller in
      let unhanded : is_handed g.history c ≡ false = false_from_ne_true _ (λ handed. true≢false (sym (handed_settled eq g.history c kept.legal handed) ∙ open_unsettled eq g.history k c kept.legal opened)) in
      let places : (d : CallId) → joined g.history d + cond {A = ℕ} (same_call c d) 1 0 ≤ LARGEST_CALLER = λ d. elim (cases_Bool (same_call c d)) [
        | inl same ↦
            let one : cond {A = ℕ} (same_call c d) 1 0 ≡ 1 = cond-true _ _ _ same in
            let most = room_for_joiner eq g a c kept number.0 number.1 unhanded (free_parts g a free).1 (λ m named. named_within g.history m kept.limited named) in
            let calls : joined g.history c ≡ joined g.history d = ap (λ (z : CallId). joined g.history z) (same_call_is c d same) in
            omega arith
        | inr other ↦
            let none : cond {A = ℕ} (same_call c d) 1 0 ≡ 0 = cond-false _ _ _ other in
            let most = kept.few_joined d in
            omega arith
      ] in
      subst (λ (m : CallId). IsKept eq (with_events g (Enter a k c m ∷ []))) (sym is)
      (kept_event eq g (Enter a k c (next_id g a)) kept (refl, next_is_new eq g a kept, opened)
      (made_within eq g a kept caller, open_within eq g k c kept opened, next_within eq g a kept caller left) caller (free_parts g a free).1 ordered (one_more eq g a kept left) places)

  -- a caller of the group forgets a key
  pub kept_forget : (eq : K → K → Bool) (g : GroupState K V) (a : ℕ) (k : K) (closed : Option CallId) → IsKept eq g → IsCaller g a → closed ≡ open_call eq g.history k
      → IsKept eq (with_events g (Forget a k closed ∷ []))
  kept_forget eq g a k closed kept caller is =
      let room : (b : ℕ) → next_generation g.first g.history b + 0 ≤ 2 ^ 32 = λ b. let most = kept.within b in omega arith in
      kept_event eq g (Forget a k closed) kept is (made_within eq g a kept caller, closed_within eq g k closed kept is) caller tt (λ c named. cc) room (no_joiner eq g kept)

  -- a caller of the group forgets one call of a key
  pub kept_forget_call : (eq : K → K → Bool) (g : GroupState K V) (a : ℕ) (k : K) (c : CallId) (hit : Hit) → IsKept eq g → IsCaller g a → hit ≡ hit_of (open_call eq g.history k) (current_call eq g.history k) c
      → IsKept eq (with_events g (ForgetCall a k c hit ∷ []))
  kept_forget_call eq g a k c hit kept caller is =
      let room : (b : ℕ) → next_generation g.first g.history b + 0 ≤ 2 ^ 32 = λ b. let most = kept.within b in omega arith in
      let found : IsHit (open_call eq g.history k) (current_call eq g.history k) c hit = subst (IsHit (open_call eq g.history k) (current_call eq g.history k) c) (sym is) (hit_is (open_call eq g.history k) (current_call eq g.history k) c) in
      let named : current_call eq g.history k ≡ Some c → IsCallWithin c = λ current. named_within g.history c kept.limited (current_named eq g.history k c current) in
      let within : IsCallWithin c ⊎ (hit ≡ Missed) = subst (λ (h : Hit). IsCallWithin c ⊎ (h ≡ Missed)) (sym is) (hit_within (open_call eq g.history k) (current_call eq g.history k) c (open_within eq g k c kept) named) in
      kept_event eq g (ForgetCall a k c hit) kept found (made_within eq g a kept caller, within) caller tt (λ d named. cc) room (no_joiner eq g kept)

  -- a leader settles its call, and its letters are handed out
  pub kept_settle : (eq : K → K → Bool) (g : GroupState K V) (a : ℕ) (c : CallId) (v : V) (joiners : ℕ) → IsKept eq g → IsCaller g a → led_call g.history a ≡ Some c → joiners ≡ joined g.history c
      → IsKept eq (with_events g (Settle a c v joiners ∷ Handed a c ∷ []))
  kept_settle eq g a c v joiners kept caller led is =
      let was : was_led g.history a c ≡ true = led_was_led g.history a c led in
      let unsettled : is_settled g.history c ≡ false = led_unsettled eq g.history a c kept.legal led in
      let settled : Event K V = Settle a c v joiners in
      let within : IsCallerNumber a × IsCallWithin c = (made_within eq g a kept caller, named_within g.history c kept.limited (led_named g.history a c was)) in
      let room : (b : ℕ) → next_generation g.first g.history b + 0 ≤ 2 ^ 32 = λ b. let most = kept.within b in omega arith in
      let once : IsKept eq (with_events g (settled ∷ [])) = kept_event eq g settled kept (was, unsettled, is) within caller tt (λ d named. cc) room (no_joiner eq g kept) in
      let unhanded : is_handed g.history c ≡ false = false_from_ne_true _ (λ handed. let late = handed_settled eq g.history c kept.legal handed in cc) in
      let follows : MayFollow eq (g.history ++ settled ∷ []) (Handed a c) =
      (list_any_push_kept (leads a c) g.history settled was, list_any_push_last (settles c) g.history settled (same_call_self c), list_any_push_none (hands c) g.history settled unhanded refl) in
      let room_again : (b : ℕ) → next_generation g.first (g.history ++ settled ∷ []) b + 0 ≤ 2 ^ 32 = λ b. let most = once.within b in omega arith in
      let twice : IsKept eq (with_events (with_events g (settled ∷ [])) (Handed a c ∷ [])) = kept_event eq (with_events g (settled ∷ [])) (Handed a c) once follows within caller tt (λ d named. cc) room_again (no_joiner eq (with_events g (settled ∷ [])) once) in
      subst (λ (h : List (Event K V)). IsKept eq (record { callers = g.callers; first = g.first; history = h; taken = g.taken })) (append_assoc g.history (settled ∷ []) (Handed a c ∷ [])) twice

  -- a member takes its letter, of a call whose letters are handed out
  pub kept_take : (eq : K → K → Bool) (g : GroupState K V) (a : ℕ) (u : Ticket) → IsKept eq g → held_ticket g a ≡ Some u → is_handed g.history u.call ≡ true → IsKept eq (with_taken g u.member)
  kept_take eq g a u kept held handed =
      let parts = held_parts g u (last_ticket g.history a) held in
      let gave = last_given g.history a u parts.0 in
      record {
        few = kept.few;
        first = kept.first;
        legal = kept.legal;
        limited = kept.limited;
        made = kept.made;
        numbered = kept.numbered;
        within = kept.within;
        leads_one = kept.leads_one;
        holds_one = λ b t holds. kept.holds_one b t (holds.0, holds.1, (list_any_push_parts (λ taken. same_call taken t.member) g.taken u.member holds.2).0);
        taken_named = λ m took. elim (list_any_push_cases (λ taken. same_call taken m) g.taken u.member took) [
          | inl before ↦ kept.taken_named m before
          | inr last ↦ subst (λ (z : CallId). list_any (names z) g.history ≡ true) (same_call_is u.member m last) (given_named g.history u gave.1)
        ];
        taken_handed = λ t given took. elim (cases_Bool (has_taken g.taken t.member)) [
          | inl before ↦ kept.taken_handed t given before
          | inr left ↦ elim (list_any_push_cases (λ taken. same_call taken t.member) g.taken u.member took) [
            | inl before ↦ absurd (true≢false (sym before ∙ left))
            | inr last ↦
                let same : u.member ≡ t.member = same_call_is u.member t.member last in
                let by : t.member.caller ≡ a = ap (λ (z : CallId). z.caller) (sym same) ∙ gave.0 in
                let both : Some u ≡ Some t = sym parts.0 ∙ kept.holds_one a t (by, given, left) in
                subst (λ (z : Ticket). is_handed g.history z.call ≡ true) (same_ticket u t both) handed
          ]
        ];
        few_joined = kept.few_joined;
      }

  -- the call that a caller is found to lead is the one that it leads
  pub led_call_leads : (eq : K → K → Bool) (g : GroupState K V) → IsKept eq g → (a : ℕ) (c : CallId) → (led_call g.history a ≡ Some c) ↔ Leads g a c
  led_call_leads eq g kept a c = (λ led. (led_was_led g.history a c led, led_unsettled eq g.history a c kept.legal led), kept.leads_one a c)

  -- the ticket that a caller is found to hold is the one that it holds
  pub held_ticket_holds : (eq : K → K → Bool) (g : GroupState K V) → IsKept eq g → (a : ℕ) (t : Ticket) → (held_ticket g a ≡ Some t) ↔ Holds g a t
  held_ticket_holds eq g kept a t = (
    λ held.
        let parts = held_parts g t (last_ticket g.history a) held in
        let given = last_given g.history a t parts.0 in
        (given.0, given.1, parts.1),
    λ holds. held_from_last g.taken _ t (kept.holds_one a t holds) holds.2,
  )
