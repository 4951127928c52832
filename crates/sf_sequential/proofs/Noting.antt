-- what an index notes, from the rows that it writes
use Rattle.std.proofs.Common.{◌≡◌, ℕ, ◌+◌, ◌==◌, Bool, true, false, cond, Option, Some, None, inl, inr, refl, sym, ◌∙◌, ap, arith}
use Rattle.std.proofs.lemmas.Bool.{cases_Bool, cond-true, cond-false, eqb-true}
use Rattle.sf_history.specs.declared.call.CallId.{CallId}
use Rattle.sf_history.specs.Calls.{same_call}
use Rattle.sf_history.proofs.LegalHistories.{same_call_is}
use Rattle.sf_sequential.specs.declared.rows.CallerRow.{CallerRow}
use Rattle.sf_sequential.specs.declared.rows.CallRow.{CallRow}
use Rattle.sf_sequential.specs.State.{own_ticket}
use Rattle.sf_sequential.specs.Noted.{Noted, holding, IsCallerSet, IsCallSet, IsKeySet, IsOwnNoted, IsLeadNoted, IsEnterNoted, IsSettleNoted}

-- a part of a row that is written
part : {R X : Type 0} (f : R → X) (t : Bool) (row old : R) → f (cond t row old) ≡ cond t (f row) (f old)
part f true row old = refl
part f false row old = refl

-- a row that keeps a part at a caller keeps it at each
same_at : {X : Type 0} (f : ℕ → X) (x b : ℕ) → cond (x == b) (f x) (f b) ≡ f b
same_at f x b =
    elim (cases_Bool (x == b)) [
      | inl is ↦ cond-true _ _ _ is ∙ ap f (eqb-true x b is)
      | inr isnt ↦ cond-false _ _ _ isnt
    ]

-- and one that has one more there has one more
more_at : (f : ℕ → ℕ) (x b : ℕ) → cond (x == b) (f x + 1) (f b) ≡ f b + cond {A = ℕ} (x == b) 1 0
more_at f x b =
    elim (cases_Bool (x == b)) [
      | inl is ↦ cond-true _ _ _ is ∙ ap (λ n. f n + 1) (eqb-true x b is) ∙ sym (ap (λ n. f b + n) (cond-true _ _ _ is))
      | inr isnt ↦
          let none : cond {A = ℕ} (x == b) 1 0 ≡ 0 = cond-false _ _ _ isnt in
          cond-false _ _ _ isnt ∙ omega arith
    ]

-- the same at calls
call_same : {X : Type 0} (f : CallId → X) (x c : CallId) → cond (same_call x c) (f x) (f c) ≡ f c
call_same f x c =
    elim (cases_Bool (same_call x c)) [
      | inl is ↦ cond-true _ _ _ is ∙ ap f (same_call_is x c is)
      | inr isnt ↦ cond-false _ _ _ isnt
    ]

call_more : (f : CallId → ℕ) (x c : CallId) → cond (same_call x c) (f x + 1) (f c) ≡ f c + cond {A = ℕ} (same_call x c) 1 0
call_more f x c =
    elim (cases_Bool (same_call x c)) [
      | inl is ↦ cond-true _ _ _ is ∙ ap (λ n. f n + 1) (same_call_is x c is) ∙ sym (ap (λ n. f c + n) (cond-true _ _ _ is))
      | inr isnt ↦
          let none : cond {A = ℕ} (same_call x c) 1 0 ≡ 0 = cond-false _ _ _ isnt in
          cond-false _ _ _ isnt ∙ omega arith
    ]

module _ {K : Type 0} where
  caller_part : {X : Type 0} (f : CallerRow → X) (n m : Noted K) (x : ℕ) (row : CallerRow) → IsCallerSet n m x row → (b : ℕ) → f (m.caller b) ≡ cond (x == b) (f row) (f (n.caller b))
  caller_part f n m x row is b = ap f (is.caller b) ∙ part f (x == b) row (n.caller b)

  call_part : {X : Type 0} (f : CallRow → X) (n m : Noted K) (x : CallId) (row : CallRow) → IsCallSet n m x row → (c : CallId) → f (m.call c) ≡ cond (same_call x c) (f row) (f (n.call c))
  call_part f n m x row is c = ap f (is.call c) ∙ part f (same_call x c) row (n.call c)

  -- a ticket that is held is an own channel's
  pub held_noted : (n m : Noted K) (id member : CallId) → IsCallerSet n m member.caller (holding (record { call = id; member = member }) (n.caller member.caller)) → IsOwnNoted n m id (Some member)
  held_noted n m id member is =
      let row = holding (record { call = id; member = member }) (n.caller member.caller) in
      record {
        current = is.current;
        led = λ b. caller_part (λ (r : CallerRow). r.led) n m member.caller row is b ∙ same_at (λ x. (n.caller x).led) member.caller b;
        held = λ b. caller_part (λ (r : CallerRow). r.held) n m member.caller row is b;
        used = λ b. caller_part (λ (r : CallerRow). r.used) n m member.caller row is b ∙ more_at (λ x. (n.caller x).used) member.caller b;
        call = is.call;
      }

  pub none_noted : (n : Noted K) (id : CallId) → IsOwnNoted n n id None
  none_noted n id = record { current = λ k. refl; led = λ b. refl; held = λ b. refl; used = λ b. omega arith; call = λ c. refl }

  -- a lead is noted by its caller's row, its own channel's, and the key's current call
  pub lead_noted : (eq : K → K → Bool) (n m p q : Noted K) (key : K) (id : CallId) (own : Option CallId)
      → IsCallerSet n m id.caller (record { led = Some id; held = (n.caller id.caller).held; used = (n.caller id.caller).used + 1 }) → IsOwnNoted m p id own → IsKeySet eq p q key (Some id)
      → IsLeadNoted eq n q key id own
  lead_noted eq n m p q key id own first second third =
      let row : CallerRow = record { led = Some id; held = (n.caller id.caller).held; used = (n.caller id.caller).used + 1 } in
      let held : (b : ℕ) → (m.caller b).held ≡ (n.caller b).held = λ b. caller_part (λ (r : CallerRow). r.held) n m id.caller row first b ∙ same_at (λ x. (n.caller x).held) id.caller b in
      let used : (b : ℕ) → (m.caller b).used ≡ (n.caller b).used + cond {A = ℕ} (id.caller == b) 1 0 = λ b. caller_part (λ (r : CallerRow). r.used) n m id.caller row first b ∙ more_at (λ x. (n.caller x).used) id.caller b in
      record {
        current = λ k. third.current k ∙ ap (λ z. cond (eq key k) (Some id) z) (second.current k ∙ first.current k);
        led = λ b. ap (λ (r : CallerRow). r.led) (third.caller b) ∙ second.led b ∙ caller_part (λ (r : CallerRow). r.led) n m id.caller row first b;
        held = λ b. ap (λ (r : CallerRow). r.held) (third.caller b) ∙ second.held b ∙ ap (own_ticket b id own) (held b);
        used = λ b. ap (λ (r : CallerRow). r.used) (third.caller b) ∙ second.used b ∙ omega (arith, used b);
        call = λ c. third.call c ∙ second.call c ∙ first.call c;
      }

  -- an enter is noted by its member's row and its call's
  pub enter_noted : (n m p : Noted K) (id member : CallId) → IsOwnNoted n m id (Some member) → IsCallSet m p id (record { joiners = (m.call id).joiners + 1; settled = (m.call id).settled })
      → IsEnterNoted n p id member
  enter_noted n m p id member first second =
      let row : CallRow = record { joiners = (m.call id).joiners + 1; settled = (m.call id).settled } in
      record {
        current = λ k. second.current k ∙ first.current k;
        led = λ b. ap (λ (r : CallerRow). r.led) (second.caller b) ∙ first.led b;
        held = λ b. ap (λ (r : CallerRow). r.held) (second.caller b) ∙ first.held b;
        used = λ b. ap (λ (r : CallerRow). r.used) (second.caller b) ∙ first.used b;
        joiners = λ c. call_part (λ (r : CallRow). r.joiners) m p id row second c ∙ call_more (λ x. (m.call x).joiners) id c ∙ ap (λ (r : CallRow). r.joiners + cond {A = ℕ} (same_call id c) 1 0) (first.call c);
        settled = λ c. call_part (λ (r : CallRow). r.settled) m p id row second c ∙ call_same (λ x. (m.call x).settled) id c ∙ ap (λ (r : CallRow). r.settled) (first.call c);
      }

  -- a settle is noted by its leader's row and its call's
  pub settle_noted : (n m p : Noted K) (a : ℕ) (id : CallId) (place : ℕ) → IsCallerSet n m a (record { led = None; held = (n.caller a).held; used = (n.caller a).used })
      → IsCallSet m p id (record { joiners = (m.call id).joiners; settled = Some place }) → IsSettleNoted n p a id place
  settle_noted n m p a id place first second =
      let row : CallerRow = record { led = None; held = (n.caller a).held; used = (n.caller a).used } in
      let call : CallRow = record { joiners = (m.call id).joiners; settled = Some place } in
      record {
        current = λ k. second.current k ∙ first.current k;
        led = λ b. ap (λ (r : CallerRow). r.led) (second.caller b) ∙ caller_part (λ (r : CallerRow). r.led) n m a row first b;
        held = λ b. ap (λ (r : CallerRow). r.held) (second.caller b) ∙ caller_part (λ (r : CallerRow). r.held) n m a row first b ∙ same_at (λ x. (n.caller x).held) a b;
        used = λ b. ap (λ (r : CallerRow). r.used) (second.caller b) ∙ caller_part (λ (r : CallerRow). r.used) n m a row first b ∙ same_at (λ x. (n.caller x).used) a b;
        joiners = λ c. call_part (λ (r : CallRow). r.joiners) m p id call second c ∙ call_same (λ x. (m.call x).joiners) id c ∙ ap (λ (r : CallRow). r.joiners) (first.call c);
        settled = λ c. call_part (λ (r : CallRow). r.settled) m p id call second c ∙ ap (λ (r : CallRow). cond (same_call id c) (Some place) r.settled) (first.call c);
      }
