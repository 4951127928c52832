-- what an index notes of an event of a sequential group is what the group's history says then
use Rattle.std.proofs.Common.{◌≡◌, ℕ, ◌+◌, ◌<◌, ◌≤◌, ◌^◌, ◌==◌, ◌||◌, ◌&&◌, ◌⊎◌, Bool, true, false, cond, List, [], ◌∷◌, ◌++◌, length, get_or, Option, Some, None, is_some, inl, inr, refl, sym, ◌∙◌, ap, subst, arith, eq-eqb, IfSome, option_and_then}
use Rattle.std.proofs.Math.Bool.{or-false}
use Rattle.std.proofs.lemmas.Bool.{and_parts, or_parts, cases_Bool, cond-true, cond-false, eqb-true, false_from_ne_true, true≢false}
use Rattle.std.proofs.lemmas.List.{length-append, get_or_append_left}
use Rattle.std.proofs.lemmas.List.Folds.{list_any-append}
use Rattle.std.proofs.lemmas.List.Sums.{fold-append, sum_by-append}
use Rattle.std.proofs.Math.Seq.{get_or-append_seam}
use Rattle.std.specs.List.{list_any, find, sum_by}
use Rattle.sf_history.specs.declared.call.CallId.{CallId}
use Rattle.sf_history.specs.declared.event.Event.{Event}
use Rattle.sf_history.specs.declared.event.Event.TheVariants.{Lead, Enter, Forget, ForgetCall, Settle, Handed}
use Rattle.sf_history.specs.declared.event.Hit.{Hit}
use Rattle.sf_history.specs.Calls.{same_call}
use Rattle.sf_history.specs.History.{IsNew, holds_call, has_ended, leads, was_led, enters, joined, settles, is_settled, hands, is_handed, result_in, result_of, uses, uses_member, keeps_current, current_call}
use Rattle.sf_history.specs.Legal.{MayFollow, IsLegal}
use Rattle.sf_history.proofs.LegalHistories.{same_call_is, same_call_self, legal_front, legal_last}
use Rattle.sf_lists.proofs.Lists.{by_push, list_any_push_cases}
use Rattle.sf_history.proofs.Members.{joined_push, joined_kept}
use Rattle.sf_sequential.specs.declared.rows.CallerRow.{CallerRow}
use Rattle.sf_sequential.specs.declared.rows.CallRow.{CallRow}
use Rattle.sf_sequential.specs.declared.ticket.Ticket.{Ticket}
use Rattle.sf_sequential.specs.State.{GroupState, IsKept, own_ticket, untaken, has_taken, next_id, leaves_led, led_call, leaves_ticket, last_ticket, held_ticket, with_events, with_taken}
use Rattle.sf_sequential.specs.Noted.{Noted, Tells, caller_row, call_row, IsKeySet, IsLeadNoted, IsEnterNoted, IsSettleNoted, IsTakeNoted}
use Rattle.sf_sequential.proofs.KeptByCalls.{next_is_new, held_parts}
use Rattle.sf_words.specs.declared.limits.TheConstants.{LARGEST_CALLER}
use Rattle.sf_sequential.proofs.Standing.{led_was_led, led_unsettled, last_given}

-- ---- the first element that passes

first_of : {X : Type 0} (x : X) (b : Bool) (l m : Option X) → (b ≡ false → l ≡ m) → cond b (Some x) l ≡ cond b (Some x) m
first_of x true l m same = refl
first_of x false l m same = same refl

found_kept : {X : Type 0} (p : X → Bool) (xs ys : List X) → list_any p xs ≡ true → find p (xs ++ ys) ≡ find p xs
found_kept p [] ys is = cc
found_kept p (x ∷ xs) ys is = first_of x (p x) (find p (xs ++ ys)) (find p xs) (λ fails. found_kept p xs ys (sym (ap (λ b. b || list_any p xs) fails) ∙ is))

found_new : {X : Type 0} (p : X → Bool) (xs : List X) (y : X) (ys : List X) → list_any p xs ≡ false → p y ≡ true → find p (xs ++ y ∷ ys) ≡ Some y
found_new p [] y ys none passes = cond-true _ _ _ passes
found_new p (x ∷ xs) y ys none passes =
    let parts = or_parts (p x) (list_any p xs) none in
    cond-false _ _ _ parts.0 ∙ found_new p xs y ys parts.1 passes

some_is : {X : Type 0} (o : Option X) (x : X) (b : Bool) → o ≡ Some x → is_some o ≡ b → b ≡ true
some_is o x b is same = sym same ∙ ap is_some is

-- a part of the row of a call that nothing was noted of
is_some_cond : {X : Type 0} (b : Bool) (x : X) (o : Option X) → is_some (cond b (Some x) o) ≡ (is_some o || b)
is_some_cond true x None = refl
is_some_cond true x (Some y) = refl
is_some_cond false x o = sym (or-false (is_some o))

-- the place of a call's settle, or another's
place_cases : (b : Bool) (place i : ℕ) (o : Option ℕ) → cond b (Some place) o ≡ Some i → ((b ≡ true) × (place ≡ i)) ⊎ ((b ≡ false) × (o ≡ Some i))
place_cases true place i o is = inl (refl, cc)
place_cases false place i o is = inr (refl, is)

module _ {K V : Type 0} (eq : K → K → Bool) where
  -- ---- calls of which an event settles none and hands out none

  record CallsTold (h : List (Event K V)) (n : Noted K) : Type 0 where
    settles : (c : CallId) → is_some (n.call c).settled ≡ is_settled h c
    hands : (c : CallId) → is_some (n.call c).settled ≡ is_handed h c
    places : (c : CallId) (i : ℕ) → (n.call c).settled ≡ Some i → (i < length h) × ((e : Event K V) → result_in (get_or h i e) ≡ result_of h c)

  unsettled_more : (h : List (Event K V)) (e : Event K V) (c : CallId) → settles c e ≡ false → is_settled (h ++ e ∷ []) c ≡ is_settled h c
  unsettled_more h e c none = list_any-append (settles c) h (e ∷ []) ∙ ap (λ b. is_settled h c || (b || false)) none ∙ or-false (is_settled h c)

  unhanded_more : (h : List (Event K V)) (e : Event K V) (c : CallId) → hands c e ≡ false → is_handed (h ++ e ∷ []) c ≡ is_handed h c
  unhanded_more h e c none = list_any-append (hands c) h (e ∷ []) ∙ ap (λ b. is_handed h c || (b || false)) none ∙ or-false (is_handed h c)

  -- a place stays, whatever comes after
  place_kept : (h es : List (Event K V)) (c : CallId) (i : ℕ) → is_settled h c ≡ true → (i < length h) × ((e : Event K V) → result_in (get_or h i e) ≡ result_of h c)
      → (i < length (h ++ es)) × ((e : Event K V) → result_in (get_or (h ++ es) i e) ≡ result_of (h ++ es) c)
  place_kept h es c i settled at =
      (omega (arith, at.0, length-append h es), λ e. ap result_in (get_or_append_left h es e i at.0) ∙ at.1 e ∙ sym (ap (option_and_then result_in) (found_kept (settles c) h es settled)))

  calls_kept : (g : GroupState K V) (n m : Noted K) (e : Event K V) → Tells eq g n → ((c : CallId) → settles c e ≡ false) → ((c : CallId) → hands c e ≡ false) → ((c : CallId) → (m.call c).settled ≡ (n.call c).settled)
      → CallsTold (g.history ++ e ∷ []) m
  calls_kept g n m e told unsettles unhands same =
      record {
        settles = λ c. ap is_some (same c) ∙ told.settles c ∙ sym (unsettled_more g.history e c (unsettles c));
        hands = λ c. ap is_some (same c) ∙ told.hands c ∙ sym (unhanded_more g.history e c (unhands c));
        places = λ c i is.
            let was = sym (same c) ∙ is in
            place_kept g.history (e ∷ []) c i (some_is (n.call c).settled i (is_settled g.history c) was (told.settles c)) (told.places c i was);
      }

  used_more : (g : GroupState K V) (e : Event K V) (b : ℕ) → sum_by (uses b) (g.history ++ e ∷ []) ≡ sum_by (uses b) g.history + uses b e
  used_more g e b = sum_by-append (uses b) g.history (e ∷ []) ∙ omega arith

  -- ---- tickets

  -- a new member has not taken its letter
  new_untaken : (g : GroupState K V) (m : CallId) → IsKept eq g → IsNew g.history m → has_taken g.taken m ≡ false
  new_untaken g m kept new = false_from_ne_true _ (λ took. true≢false (sym (kept.taken_named m took) ∙ new))

  -- the caller's next member is a new one
  pub next_untaken : (g : GroupState K V) (a : ℕ) (m : CallId) → IsKept eq g → m ≡ next_id g a → has_taken g.taken m ≡ false
  next_untaken g a m kept is = new_untaken g m kept (subst (λ (z : CallId). IsNew g.history z) (sym is) (next_is_new eq g a kept))

  pub own_untaken : (g : GroupState K V) (own : Option CallId) → IsKept eq g → IfSome own (λ m. m ≡ next_id g m.caller) → IfSome own (λ m. has_taken g.taken m ≡ false)
  own_untaken g None kept is = tt
  own_untaken g (Some m) kept is = next_untaken g m.caller m kept is

  -- few generations are used, and few joined
  pub room_of : (g : GroupState K V) (n : Noted K) → IsKept eq g → Tells eq g n → (a : ℕ) → (n.caller a).used ≤ 2 ^ 32
  room_of g n kept told a = omega (arith, kept.within a, told.useds a)

  pub few_of : (g : GroupState K V) (n : Noted K) → IsKept eq g → Tells eq g n → (c : CallId) → (n.call c).joiners ≤ LARGEST_CALLER
  few_of g n kept told c = omega (arith, kept.few_joined c, told.joins c)

  -- a ticket of a new member is held
  given_held : (g : GroupState K V) (t : Ticket) (b : Bool) (found : Option Ticket) → has_taken g.taken t.member ≡ false
      → option_and_then (untaken g.taken) (cond b (Some t) found) ≡ cond b (Some t) (option_and_then (untaken g.taken) found)
  given_held g t true found left = cond-false _ _ _ left
  given_held g t false found left = refl

  own_held : (g : GroupState K V) (b : ℕ) (id : CallId) (own : Option CallId) (found : Option Ticket) → IfSome own (λ m. has_taken g.taken m ≡ false)
      → option_and_then (untaken g.taken) (own_ticket b id own found) ≡ own_ticket b id own (option_and_then (untaken g.taken) found)
  own_held g b id None found left = refl
  own_held g b id (Some m) found left = given_held g (record { call = id; member = m }) (m.caller == b) found left

  -- ---- the events

  pub told_lead : (g : GroupState K V) (n m : Noted K) (a : ℕ) (key : K) (id : CallId) (own : Option CallId) → Tells eq g n → id.caller ≡ a → IfSome own (λ m. has_taken g.taken m ≡ false)
      → IsLeadNoted eq n m key id own → Tells eq (with_events g (Lead a key id own ∷ [])) m
  told_lead g n m a key id own told by left noted =
      let e : Event K V = Lead a key id own in
      let calls = calls_kept g n m e told (λ c. refl) (λ c. refl) (λ c. ap (λ (r : CallRow). r.settled) (noted.call c)) in
      record {
        currents = λ k. noted.current k ∙ ap (λ z. cond (eq key k) (Some id) z) (told.currents k) ∙ sym (fold-append (keeps_current eq k) None g.history (e ∷ []));
        leds = λ b. noted.led b ∙ ap (λ x. cond (x == b) (Some id) (n.caller b).led) by ∙ ap (λ z. cond (a == b) (Some id) z) (told.leds b) ∙ sym (fold-append (leaves_led b) None g.history (e ∷ []));
        helds = λ b. noted.held b ∙ ap (own_ticket b id own) (told.helds b) ∙ sym (own_held g b id own (last_ticket g.history b) left)
            ∙ sym (ap (option_and_then (untaken g.taken)) (fold-append (leaves_ticket b) None g.history (e ∷ [])));
        useds = λ b. noted.used b ∙ ap (λ z. z + (cond {A = ℕ} (id.caller == b) 1 0 + uses_member b own)) (told.useds b) ∙ sym (used_more g e b);
        joins = λ c. ap (λ (r : CallRow). r.joiners) (noted.call c) ∙ told.joins c ∙ sym (joined_kept g.history e c refl);
        settles = calls.settles;
        hands = calls.hands;
        places = calls.places;
      }

  pub told_enter : (g : GroupState K V) (n m : Noted K) (by : ℕ) (key : K) (id member : CallId) → Tells eq g n → has_taken g.taken member ≡ false
      → IsEnterNoted n m id member → Tells eq (with_events g (Enter by key id member ∷ [])) m
  told_enter g n m by key id member told left noted =
      let e : Event K V = Enter by key id member in
      let calls = calls_kept g n m e told (λ c. refl) (λ c. refl) noted.settled in
      record {
        currents = λ k. noted.current k ∙ told.currents k ∙ sym (fold-append (keeps_current eq k) None g.history (e ∷ []));
        leds = λ b. noted.led b ∙ told.leds b ∙ sym (fold-append (leaves_led b) None g.history (e ∷ []));
        helds = λ b. noted.held b ∙ ap (own_ticket b id (Some member)) (told.helds b) ∙ sym (own_held g b id (Some member) (last_ticket g.history b) left)
            ∙ sym (ap (option_and_then (untaken g.taken)) (fold-append (leaves_ticket b) None g.history (e ∷ [])));
        useds = λ b. noted.used b ∙ ap (λ z. z + cond {A = ℕ} (member.caller == b) 1 0) (told.useds b) ∙ sym (used_more g e b);
        joins = λ c. noted.joiners c ∙ ap (λ z. z + cond {A = ℕ} (same_call id c) 1 0) (told.joins c) ∙ sym (joined_push g.history e c);
        settles = calls.settles;
        hands = calls.hands;
        places = calls.places;
      }

  -- an event that ends a key's current call, or none, and says nothing of callers and calls
  told_end : (g : GroupState K V) (n m : Noted K) (e : Event K V) → Tells eq g n → ((c : CallId) → settles c e ≡ false) → ((c : CallId) → hands c e ≡ false) → ((c : CallId) → enters c e ≡ false)
      → ((b : ℕ) (found : Option CallId) → leaves_led b found e ≡ found) → ((b : ℕ) (found : Option Ticket) → leaves_ticket b found e ≡ found) → ((b : ℕ) → uses b e ≡ 0)
      → ((k : K) → m.current k ≡ keeps_current eq k (n.current k) e) → ((b : ℕ) → m.caller b ≡ n.caller b) → ((c : CallId) → m.call c ≡ n.call c) → Tells eq (with_events g (e ∷ [])) m
  told_end g n m e told unsettles unhands unenters leds helds useds current caller call =
      let calls = calls_kept g n m e told unsettles unhands (λ c. ap (λ (r : CallRow). r.settled) (call c)) in
      record {
        currents = λ k. current k ∙ ap (λ z. keeps_current eq k z e) (told.currents k) ∙ sym (fold-append (keeps_current eq k) None g.history (e ∷ []));
        leds = λ b. ap (λ (r : CallerRow). r.led) (caller b) ∙ told.leds b ∙ sym (leds b (led_call g.history b)) ∙ sym (fold-append (leaves_led b) None g.history (e ∷ []));
        helds = λ b. ap (λ (r : CallerRow). r.held) (caller b) ∙ told.helds b
            ∙ sym (ap (option_and_then (untaken g.taken)) (fold-append (leaves_ticket b) None g.history (e ∷ []) ∙ helds b (last_ticket g.history b)));
        useds = λ b. ap (λ (r : CallerRow). r.used) (caller b) ∙ told.useds b ∙ omega (arith, used_more g e b, useds b);
        joins = λ c. ap (λ (r : CallRow). r.joiners) (call c) ∙ told.joins c ∙ sym (joined_kept g.history e c (unenters c));
        settles = calls.settles;
        hands = calls.hands;
        places = calls.places;
      }

  pub told_forget : (g : GroupState K V) (n m : Noted K) (a : ℕ) (key : K) (closed : Option CallId) → Tells eq g n → IsKeySet eq n m key None → Tells eq (with_events g (Forget a key closed ∷ [])) m
  told_forget g n m a key closed told noted =
      told_end g n m (Forget a key closed) told (λ c. refl) (λ c. refl) (λ c. refl) (λ b found. refl) (λ b found. refl) (λ b. refl) noted.current noted.caller noted.call

  pub told_forget_ended : (g : GroupState K V) (n m : Noted K) (a : ℕ) (key : K) (id : CallId) (hit : Hit) → Tells eq g n → has_ended hit ≡ true → IsKeySet eq n m key None
      → Tells eq (with_events g (ForgetCall a key id hit ∷ [])) m
  told_forget_ended g n m a key id hit told ended noted =
      told_end g n m (ForgetCall a key id hit) told (λ c. refl) (λ c. refl) (λ c. refl) (λ b found. refl) (λ b found. refl) (λ b. refl)
      (λ k. noted.current k ∙ sym (ap (λ z. cond (eq key k && z) None (n.current k)) ended ∙ by (eq key k) (n.current k))) noted.caller noted.call
    where
      by : (b : Bool) (found : Option CallId) → cond (b && true) None found ≡ cond b None found
      by true found = refl
      by false found = refl

  pub told_forget_missed : (g : GroupState K V) (n : Noted K) (a : ℕ) (key : K) (id : CallId) (hit : Hit) → Tells eq g n → has_ended hit ≡ false → Tells eq (with_events g (ForgetCall a key id hit ∷ [])) n
  told_forget_missed g n a key id hit told ended =
      told_end g n n (ForgetCall a key id hit) told (λ c. refl) (λ c. refl) (λ c. refl) (λ b found. refl) (λ b found. refl) (λ b. refl)
      (λ k. sym (ap (λ z. cond (eq key k && z) None (n.current k)) ended ∙ by (eq key k) (n.current k))) (λ b. refl) (λ c. refl)
    where
      by : (b : Bool) (found : Option CallId) → cond (b && false) None found ≡ found
      by true found = refl
      by false found = refl

  -- only a call's own caller led it
  led_by_own : (a : ℕ) (c : CallId) (h : List (Event K V)) → IsLegal eq h → was_led h a c ≡ true → c.caller ≡ a
  led_by_own a c = by_push (λ (h : List (Event K V)). IsLegal eq h → was_led h a c ≡ true → c.caller ≡ a) (λ legal is. cc) step
    where
      last : (h : List (Event K V)) (e : Event K V) → MayFollow eq h e → leads a c e ≡ true → c.caller ≡ a
      last h (Lead by key call own) follows is =
          let parts = and_parts _ _ is in
          sym (ap (λ (z : CallId). z.caller) (same_call_is call c parts.1)) ∙ sym follows.0 ∙ eqb-true by a parts.0
      last h (Enter by key call member) follows is = cc
      last h (Forget by key closed) follows is = cc
      last h (ForgetCall by key call hit) follows is = cc
      last h (Settle by call result joiners) follows is = cc
      last h (Handed by call) follows is = cc

      step : (h : List (Event K V)) (e : Event K V) → (IsLegal eq h → was_led h a c ≡ true → c.caller ≡ a) → IsLegal eq (h ++ e ∷ []) → was_led (h ++ e ∷ []) a c ≡ true → c.caller ≡ a
      step h e before legal is =
          elim (list_any_push_cases (leads a c) h e is) [
            | inl was ↦ before (legal_front eq h e legal) was
            | inr now ↦ last h e (legal_last eq h e legal) now
          ]

  -- a Settle ends what its caller leads, and what no other caller leads
  led_after : (g : GroupState K V) (a b : ℕ) (id : CallId) → IsKept eq g → led_call g.history a ≡ Some id → cond (holds_call (led_call g.history b) id) None (led_call g.history b) ≡ cond (a == b) None (led_call g.history b)
  led_after g a b id kept led =
      elim (cases_Bool (a == b)) [
        | inl is ↦
            let found : led_call g.history b ≡ Some id = subst (λ x. led_call g.history x ≡ Some id) (eqb-true a b is) led in
            cond-true _ _ _ (ap (λ o. holds_call o id) found ∙ same_call_self id) ∙ sym (cond-true _ _ _ is)
        | inr isnt ↦ cond-false _ _ _ (other (led_call g.history b) refl isnt) ∙ sym (cond-false _ _ _ isnt)
      ]
    where
      other : (found : Option CallId) → led_call g.history b ≡ found → (a == b) ≡ false → holds_call (led_call g.history b) id ≡ false
      other None is isnt = ap (λ o. holds_call o id) is
      other (Some d) is isnt =
          ap (λ o. holds_call o id) is
          ∙ false_from_ne_true _ (λ same.
          let first = led_by_own a id g.history kept.legal (led_was_led g.history a id led) in
          let second = led_by_own b d g.history kept.legal (led_was_led g.history b d is) in
          true≢false (sym (eq-eqb a b (sym first ∙ sym (ap (λ (z : CallId). z.caller) (same_call_is d id same)) ∙ second)) ∙ isnt))

  pub told_settle : (g : GroupState K V) (n m : Noted K) (a : ℕ) (id : CallId) (v : V) (joiners place : ℕ) → IsKept eq g → Tells eq g n → led_call g.history a ≡ Some id → place ≡ length g.history
      → IsSettleNoted n m a id place → Tells eq (with_events g (Settle a id v joiners ∷ Handed a id ∷ [])) m
  told_settle g n m a id v joiners place kept told led here noted =
      let es : List (Event K V) = Settle a id v joiners ∷ Handed a id ∷ [] in
      let unsettled : is_settled g.history id ≡ false = led_unsettled eq g.history a id kept.legal led in
      record {
        currents = λ k. noted.current k ∙ told.currents k ∙ sym (fold-append (keeps_current eq k) None g.history es);
        leds = λ b. noted.led b ∙ ap (λ z. cond (a == b) None z) (told.leds b) ∙ sym (led_after g a b id kept led) ∙ sym (fold-append (leaves_led b) None g.history es);
        helds = λ b. noted.held b ∙ told.helds b ∙ sym (ap (option_and_then (untaken g.taken)) (fold-append (leaves_ticket b) None g.history es));
        useds = λ b. noted.used b ∙ told.useds b ∙ omega (arith, sum_by-append (uses b) g.history es);
        joins = λ c. noted.joiners c ∙ told.joins c ∙ joins c;
        settles = λ c. ap is_some (noted.settled c) ∙ is_some_cond (same_call id c) place (n.call c).settled ∙ ap (λ z. z || same_call id c) (told.settles c)
            ∙ sym (list_any-append (settles c) g.history es ∙ ap (λ z. is_settled g.history c || z) (or-false (same_call id c)));
        hands = λ c. ap is_some (noted.settled c) ∙ is_some_cond (same_call id c) place (n.call c).settled ∙ ap (λ z. z || same_call id c) (told.hands c)
            ∙ sym (list_any-append (hands c) g.history es ∙ ap (λ z. is_handed g.history c || z) (or-false (same_call id c)));
        places = λ c i is. elim (place_cases (same_call id c) place i (n.call c).settled (sym (noted.settled c) ∙ is)) [
          | inl new ↦
              let same : id ≡ c = same_call_is id c new.0 in
              let at : i ≡ length g.history = sym new.1 ∙ here in
              subst (λ (z : CallId). (i < length (g.history ++ es)) × ((e : Event K V) → result_in (get_or (g.history ++ es) i e) ≡ result_of (g.history ++ es) z)) same (
                omega (arith, length-append g.history es, at),
                λ e. ap (λ j. result_in (get_or (g.history ++ es) j e)) at ∙ ap result_in (get_or-append_seam g.history (Settle a id v joiners) (Handed a id ∷ []) e)
                    ∙ sym (ap (option_and_then result_in) (found_new (settles id) g.history (Settle a id v joiners) (Handed a id ∷ []) unsettled (same_call_self id))),
              )
          | inr old ↦
              place_kept g.history es c i (some_is (n.call c).settled i (is_settled g.history c) old.1 (told.settles c)) (told.places c i old.1)
        ];
      }
    where
      joins : (c : CallId) → joined g.history c ≡ joined (g.history ++ Settle a id v joiners ∷ Handed a id ∷ []) c
      joins c = sym (fold-append (λ (k : ℕ) (x : Event K V). k + cond {A = ℕ} (enters c x) 1 0) 0 g.history (Settle a id v joiners ∷ Handed a id ∷ []) ∙ omega arith)

  pub told_take : (g : GroupState K V) (n m : Noted K) (a : ℕ) (t : Ticket) → Tells eq g n → held_ticket g a ≡ Some t → IsTakeNoted n m a → Tells eq (with_taken g t.member) m
  told_take g n m a t told ticket noted =
      record {
        currents = λ k. noted.current k ∙ told.currents k;
        leds = λ b. noted.led b ∙ told.leds b;
        helds = λ b. noted.held b ∙ ap (λ z. cond (a == b) None z) (told.helds b) ∙ held b;
        useds = λ b. noted.used b ∙ told.useds b;
        joins = λ c. ap (λ (r : CallRow). r.joiners) (noted.call c) ∙ told.joins c;
        settles = λ c. ap (λ (r : CallRow). is_some r.settled) (noted.call c) ∙ told.settles c;
        hands = λ c. ap (λ (r : CallRow). is_some r.settled) (noted.call c) ∙ told.hands c;
        places = λ c i is. told.places c i (sym (ap (λ (r : CallRow). r.settled) (noted.call c)) ∙ is);
      }
    where
      last : last_ticket g.history a ≡ Some t
      last = (held_parts g t (last_ticket g.history a) ticket).0

      taken_more : (u : CallId) → has_taken (g.taken ++ t.member ∷ []) u ≡ (has_taken g.taken u || same_call t.member u)
      taken_more u = list_any-append (λ taken. same_call taken u) g.taken (t.member ∷ []) ∙ ap (λ z. has_taken g.taken u || z) (or-false (same_call t.member u))

      or_true : (b : Bool) → (b || true) ≡ true
      or_true true = refl
      or_true false = refl

      by_last : (b : ℕ) (found : Option Ticket) → last_ticket g.history b ≡ found → (x : Bool) → (a == b) ≡ x
          → cond x None (option_and_then (untaken g.taken) found) ≡ option_and_then (untaken (g.taken ++ t.member ∷ [])) found
      by_last b None is true same = refl
      by_last b None is false same = refl
      by_last b (Some u) is true same =
          let both : Some t ≡ Some u = sym last ∙ ap (last_ticket g.history) (eqb-true a b same) ∙ is in
          let members : t.member ≡ u.member = cc in
          sym (cond-true _ _ _ (taken_more u.member ∙ ap (λ z. has_taken g.taken u.member || z) (subst (λ (z : CallId). same_call t.member z ≡ true) members (same_call_self t.member)) ∙ or_true (has_taken g.taken u.member)))
      by_last b (Some u) is false same =
          let apart : same_call t.member u.member ≡ false = false_from_ne_true _ (λ one.
          let first = (last_given g.history a t last).0 in
          let second = (last_given g.history b u is).0 in
          true≢false (sym (eq-eqb a b (sym first ∙ ap (λ (z : CallId). z.caller) (same_call_is t.member u.member one) ∙ second)) ∙ same)) in
          sym (ap (λ z. cond z None (Some u)) (taken_more u.member ∙ ap (λ z. has_taken g.taken u.member || z) apart ∙ or-false (has_taken g.taken u.member)))

      held : (b : ℕ) → cond (a == b) None (held_ticket g b) ≡ held_ticket (with_taken g t.member) b
      held b = by_last b (last_ticket g.history b) refl (a == b) refl

  pub told_nothing : (g : GroupState K V) (n : Noted K) → g.history ≡ [] → ((k : K) → n.current k ≡ None) → ((b : ℕ) → n.caller b ≡ caller_row None) → ((c : CallId) → n.call c ≡ call_row None) → Tells eq g n
  told_nothing g n none current caller call =
      record {
        currents = λ k. current k ∙ sym (ap (λ h. current_call eq h k) none);
        leds = λ b. ap (λ (r : CallerRow). r.led) (caller b) ∙ sym (ap (λ (h : List (Event K V)). led_call h b) none);
        helds = λ b. ap (λ (r : CallerRow). r.held) (caller b) ∙ sym (ap (λ (h : List (Event K V)). option_and_then (untaken g.taken) (last_ticket h b)) none);
        useds = λ b. ap (λ (r : CallerRow). r.used) (caller b) ∙ sym (ap (sum_by (uses b)) none);
        joins = λ c. ap (λ (r : CallRow). r.joiners) (call c) ∙ sym (ap (λ (h : List (Event K V)). joined h c) none);
        settles = λ c. ap (λ (r : CallRow). is_some r.settled) (call c) ∙ sym (ap (λ (h : List (Event K V)). is_settled h c) none);
        hands = λ c. ap (λ (r : CallRow). is_some r.settled) (call c) ∙ sym (ap (λ (h : List (Event K V)). is_handed h c) none);
        places = λ c i is. let nowhere = sym (ap (λ (r : CallRow). r.settled) (call c)) ∙ is in cc;
      }
