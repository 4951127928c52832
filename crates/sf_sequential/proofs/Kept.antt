-- the sequential group keeps its promises at each event
use Rattle.std.proofs.Common.{◌≡◌, ◌≢◌, ℕ, ◌+◌, ◌^◌, ◌<◌, ◌≤◌, Bool, true, false, ◌==◌, List, [], ◌∷◌, ◌⊎◌, Option, Some, None, inl, inr, refl, sym, ◌∙◌, ap, subst, arith, eq-eqb, IfSome}
use Rattle.std.proofs.lemmas.Bool.{and_parts, eqb-true, cond-true, cond-false, cases_Bool, ne_eqb, true≢false}
use Rattle.std.proofs.lemmas.List.Elements.{All-push}
use Rattle.std.specs.List.{list_any}
use Rattle.std.specs.Prelude.{cond, option_and_then}
use Rattle.sf_history.specs.declared.call.CallId.{CallId}
use Rattle.sf_sequential.specs.declared.ticket.Ticket.{Ticket}
use Rattle.sf_history.specs.declared.event.Event.{Event}
use Rattle.sf_history.specs.declared.event.Event.TheVariants.{Lead, Enter, Forget, ForgetCall, Settle, Handed}
use Rattle.sf_history.specs.Calls.{same_call}
use Rattle.sf_history.specs.History.{IsNew, holds_call, names, enters, joined, uses, leads, settles, is_settled, hands, next_generation, maker}
use Rattle.sf_history.specs.Legal.{MayFollow}
use Rattle.sf_sequential.specs.State.{GroupState, IsBounded, IsKept, IsCaller, Leads, Holds, gives, led_call, last_ticket, held_ticket, own_ticket, untaken, leaves_led, leaves_ticket, has_taken, with_events}
use Rattle.sf_lists.proofs.Lists.{list_any_push_cases, list_any_push_kept, list_any_push_parts}
use Rattle.sf_history.proofs.LegalHistories.{same_call_is, other_call, legal_push, fold_push, next_push}
use Rattle.sf_history.proofs.Members.{joined_push}
use Rattle.sf_words.specs.declared.limits.TheConstants.{LARGEST_CALLER}

-- the Settle of another call leaves the call that is led
settle_leaves : (found : Option CallId) (call c : CallId) → found ≡ Some c → same_call call c ≡ false → cond (holds_call found call) None found ≡ Some c
settle_leaves None call c is other = cc
settle_leaves (Some d) call c is other =
    let same : d ≡ c = cc in
    cond-false _ _ _ (subst (λ (z : CallId). same_call z call ≡ false) (sym same) (other_call call c other)) ∙ is

-- a caller's last ticket is its own channel's, where there is one
own_given : (own : Option CallId) (a : ℕ) (c : CallId) (t : Ticket) (found : Option Ticket) → t.member.caller ≡ a → same_call c t.call ≡ true → holds_call own t.member ≡ true → own_ticket a c own found ≡ Some t
own_given None a c t found by is has = cc
own_given (Some m) a c t found by is has =
    let members : m ≡ t.member = same_call_is m t.member has in
    let calls : c ≡ t.call = same_call_is c t.call is in
    let callers : m.caller ≡ a = ap (λ (z : CallId). z.caller) members ∙ by in
    let first : CallId → Ticket = λ z. record { call = z; member = m } in
    let second : CallId → Ticket = λ z. record { call = t.call; member = z } in
    cond-true _ _ _ (eq-eqb m.caller a callers) ∙ ap Some (ap first calls ∙ ap second members)

-- an own channel leaves the ticket of a caller that holds one, since its second holds none
own_leaves : (own : Option CallId) (a : ℕ) (c : CallId) (found : Option Ticket) → ((m : CallId) → own ≡ Some m → m.caller ≡ a → ⊥) → own_ticket a c own found ≡ found
own_leaves None a c found other = refl
own_leaves (Some m) a c found other = cond-false _ _ _ (ne_eqb m.caller a (other m refl))

-- a caller holds its last ticket until it is taken
pub held_from_last : (taken : List CallId) (found : Option Ticket) (t : Ticket) → found ≡ Some t → has_taken taken t.member ≡ false → option_and_then (untaken taken) found ≡ Some t
held_from_last taken None t is left = cc
held_from_last taken (Some u) t is left =
    let same : u ≡ t = cc in
    cond-false _ _ _ (subst (λ (z : Ticket). has_taken taken z.member ≡ false) (sym same) left) ∙ is

module _ {K V : Type 0} where
  -- the callers whose state an event changes have nothing left to do: who leads a new call leads no other, and who gets a ticket holds none
  abbrev pub IsReady : GroupState K V → Event K V → Type 0
  IsReady g (Lead by key call own) = (led_call g.history by ≡ None) × IfSome own (λ m. held_ticket g m.caller ≡ None)
  IsReady g (Enter by key call member) = held_ticket g member.caller ≡ None
  IsReady g (Forget by key closed) = Unit {0}
  IsReady g (ForgetCall by key call hit) = Unit {0}
  IsReady g (Settle by call result joiners) = Unit {0}
  IsReady g (Handed by call) = Unit {0}

  -- a call that the caller leads after an event, and what its last led call is then
  leads_after : (g : GroupState K V) (e : Event K V) → ((a : ℕ) (c : CallId) → Leads g a c → led_call g.history a ≡ Some c) → IsReady g e
      → (a : ℕ) (c : CallId) → (list_any (leads a c) g.history ≡ true) ⊎ (leads a c e ≡ true) → is_settled g.history c ≡ false → settles c e ≡ false
      → leaves_led a (led_call g.history a) e ≡ Some c
  leads_after g (Lead by key call own) one ready a c (inl led) unsettled other =
      elim (cases_Bool (by == a)) [
        | inl is ↦
            let same : by ≡ a = eqb-true _ _ is in
            let found : led_call g.history a ≡ Some c = one a c (led, unsettled) in
            let none : led_call g.history a ≡ None = subst (λ (n : ℕ). led_call g.history n ≡ None) same ready.0 in
            cc
        | inr isnt ↦ cond-false _ _ _ isnt ∙ one a c (led, unsettled)
      ]
  leads_after g (Lead by key call own) one ready a c (inr now) unsettled other =
      let parts = and_parts _ _ now in cond-true _ _ _ parts.0 ∙ ap Some (same_call_is call c parts.1)
  leads_after g (Enter by key call member) one ready a c (inl led) unsettled other = one a c (led, unsettled)
  leads_after g (Enter by key call member) one ready a c (inr now) unsettled other = cc
  leads_after g (Forget by key closed) one ready a c (inl led) unsettled other = one a c (led, unsettled)
  leads_after g (ForgetCall by key call hit) one ready a c (inl led) unsettled other = one a c (led, unsettled)
  leads_after g (Forget by key closed) one ready a c (inr now) unsettled other = cc
  leads_after g (ForgetCall by key call hit) one ready a c (inr now) unsettled other = cc
  leads_after g (Settle by call result joiners) one ready a c (inl led) unsettled other =
      settle_leaves _ call c (one a c (led, unsettled)) other
  leads_after g (Settle by call result joiners) one ready a c (inr now) unsettled other = cc
  leads_after g (Handed by call) one ready a c (inl led) unsettled other = one a c (led, unsettled)
  leads_after g (Handed by call) one ready a c (inr now) unsettled other = cc

  -- a caller that holds a ticket is not one of those that hold none
  not_ready : (g : GroupState K V) (a b : ℕ) (t : Ticket) → last_ticket g.history a ≡ Some t → has_taken g.taken t.member ≡ false → held_ticket g b ≡ None → b ≡ a → ⊥
  not_ready g a b t last left none same =
      let held : held_ticket g a ≡ Some t = held_from_last g.taken _ t last left in
      let empty : held_ticket g a ≡ None = subst (λ (n : ℕ). held_ticket g n ≡ None) same none in
      cc

  -- no own channel is of a caller that holds a ticket
  own_not_ready : (g : GroupState K V) (own : Option CallId) (a : ℕ) (t : Ticket) → last_ticket g.history a ≡ Some t → has_taken g.taken t.member ≡ false
      → IfSome own (λ m. held_ticket g m.caller ≡ None) → (m : CallId) → own ≡ Some m → m.caller ≡ a → ⊥
  own_not_ready g None a t last left ready m is same = cc
  own_not_ready g (Some n) a t last left ready m is same =
      let members : n ≡ m = cc in
      not_ready g a n.caller t last left ready (ap (λ (z : CallId). z.caller) members ∙ same)

  -- a ticket that the caller holds after an event, and what its last ticket is then
  holds_after : (g : GroupState K V) (e : Event K V) → ((a : ℕ) (t : Ticket) → Holds g a t → last_ticket g.history a ≡ Some t) → IsReady g e
      → (a : ℕ) (t : Ticket) → t.member.caller ≡ a → (list_any (gives t) g.history ≡ true) ⊎ (gives t e ≡ true) → has_taken g.taken t.member ≡ false
      → leaves_ticket a (last_ticket g.history a) e ≡ Some t
  holds_after g (Lead by key call own) one ready a t is (inl given) left =
      let last : last_ticket g.history a ≡ Some t = one a t (is, given, left) in
      own_leaves own a call _ (own_not_ready g own a t last left ready.1) ∙ last
  holds_after g (Lead by key call own) one ready a t is (inr now) left =
      let parts = and_parts _ _ now in own_given own a call t _ is parts.0 parts.1
  holds_after g (Enter by key call member) one ready a t is (inl given) left =
      let last : last_ticket g.history a ≡ Some t = one a t (is, given, left) in
      own_leaves (Some member) a call _ (own_not_ready g (Some member) a t last left ready) ∙ last
  holds_after g (Enter by key call member) one ready a t is (inr now) left =
      let parts = and_parts _ _ now in own_given (Some member) a call t _ is parts.0 parts.1
  holds_after g (Forget by key closed) one ready a t is (inl given) left = one a t (is, given, left)
  holds_after g (ForgetCall by key call hit) one ready a t is (inl given) left = one a t (is, given, left)
  holds_after g (Forget by key closed) one ready a t is (inr now) left = cc
  holds_after g (ForgetCall by key call hit) one ready a t is (inr now) left = cc
  holds_after g (Settle by call result joiners) one ready a t is (inl given) left = one a t (is, given, left)
  holds_after g (Settle by call result joiners) one ready a t is (inr now) left = cc
  holds_after g (Handed by call) one ready a t is (inl given) left = one a t (is, given, left)
  holds_after g (Handed by call) one ready a t is (inr now) left = cc

  -- what an event names is named already, or is the next of its caller
  abbrev pub NamesInOrder : GroupState K V → Event K V → Type 0
  NamesInOrder g e = (c : CallId) → names c e ≡ true → (list_any (names c) g.history ≡ true) ⊎ (c.generation < next_generation g.first g.history c.caller + uses c.caller e)

  -- a ticket that an event gives is of a new member
  given_new : (eq : K → K → Bool) (h : List (Event K V)) (e : Event K V) (t : Ticket) → MayFollow eq h e → gives t e ≡ true → list_any (names t.member) h ≡ false
  given_new eq h (Lead by key call own) t follows is = at own follows.2 (and_parts _ _ is).1
    where
      at : (own : Option CallId) → IfSome own (λ m. IsNew h m × (m ≢ call)) → holds_call own t.member ≡ true → list_any (names t.member) h ≡ false
      at None new is = cc
      at (Some m) new is = subst (λ (z : CallId). list_any (names z) h ≡ false) (same_call_is m t.member is) new.0
  given_new eq h (Enter by key call member) t follows is = subst (λ (z : CallId). list_any (names z) h ≡ false) (same_call_is member t.member (and_parts _ _ is).1) follows.1
  given_new eq h (Forget by key closed) t follows is = cc
  given_new eq h (ForgetCall by key call hit) t follows is = cc
  given_new eq h (Settle by call result joiners) t follows is = cc
  given_new eq h (Handed by call) t follows is = cc

  -- an event that may follow, of a caller of the group that is ready for it, keeps the group's promises
  pub kept_event : (eq : K → K → Bool) (g : GroupState K V) (e : Event K V) → IsKept eq g → MayFollow eq g.history e → IsBounded e → IsCaller g (maker e) → IsReady g e → NamesInOrder g e
      → ((a : ℕ) → next_generation g.first g.history a + uses a e ≤ 2 ^ 32) → ((c : CallId) → joined g.history c + cond {A = ℕ} (enters c e) 1 0 ≤ LARGEST_CALLER) → IsKept eq (with_events g (e ∷ []))
  kept_event eq g e kept follows limited made ready ordered room places = record {
    few = kept.few;
    first = kept.first;
    legal = legal_push eq g.history e kept.legal follows;
    limited = All-push (λ (x : Event K V). IsBounded x) g.history e kept.limited limited;
    made = All-push (λ (x : Event K V). IsCaller g (maker x)) g.history e kept.made made;
    numbered = λ c named. elim (list_any_push_cases (names c) g.history e named) [
      | inl before ↦ let was = kept.numbered c before in let now = next_push g.first g.history e c.caller in omega arith
      | inr last ↦ elim (ordered c last) [
        | inl before ↦ let was = kept.numbered c before in let now = next_push g.first g.history e c.caller in omega arith
        | inr below ↦ let now = next_push g.first g.history e c.caller in omega arith
      ]
    ];
    within = λ a. let now = next_push g.first g.history e a in let below = room a in omega arith;
    leads_one = λ a c led.
        let open_parts = list_any_push_parts (settles c) g.history e led.1 in
        fold_push (leaves_led a) None g.history e ∙ leads_after g e kept.leads_one ready a c (list_any_push_cases (leads a c) g.history e led.0) open_parts.0 open_parts.1;
    holds_one = λ a t held.
        fold_push (leaves_ticket a) None g.history e ∙ holds_after g e kept.holds_one ready a t held.0 (list_any_push_cases (gives t) g.history e held.1) held.2;
    taken_named = λ m took. list_any_push_kept (names m) g.history e (kept.taken_named m took);
    taken_handed = λ t gave took. list_any_push_kept (hands t.call) g.history e (elim (list_any_push_cases (gives t) g.history e gave) [
      | inl before ↦ kept.taken_handed t before took
      | inr last ↦ absurd (true≢false (sym (kept.taken_named t.member took) ∙ given_new eq g.history e t follows last))
    ]);
    few_joined = λ c. let push = joined_push g.history e c in let below = places c in omega arith;
  }
