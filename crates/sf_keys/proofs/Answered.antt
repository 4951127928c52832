-- how a do by key ends, from how its askings did
use Rattle.std.proofs.Common.{◌≡◌, ◌≢◌, ℕ, zero, suc, ◌+◌, List, [], ◌∷◌, ◌++◌, Option, Some, None, inl, inr, refl, sym, ap, ◌∙◌, subst, append_assoc, add-one}
use Rattle.std.proofs.lemmas.List.{append-nil}
use Rattle.sf_history.specs.declared.call.CallId.{CallId}
use Rattle.sf_history.specs.declared.event.Event.{Event}
use Rattle.sf_history.specs.declared.event.Event.TheVariants.{Lead, Enter, Settle}
use Rattle.sf_group_rows.specs.Tokens.{GroupValue, CallerValue, FlightValue, LetterValue, SettledValue}
use Rattle.sf_group_rows.specs.Seen.{StartsWith, Stands}
use Rattle.sf_group_rows.specs.Fitting.{FitOf}
use Rattle.sf_group_rows.specs.Same.{call_of}
use Rattle.sf_group_rows.specs.Begins.{HasLed, IsRefusedSpent}
use Rattle.sf_group_rows.specs.Finishes.{IsDone, IsLetter}
use Rattle.sf_group_rows.proofs.AddsAgain.{starts_again}
use Rattle.sf_wait.specs.Doing.{HasLoaded, HasWaited, HasDoneWith, OwesLoaded}
use Rattle.sf_wait.specs.Doing as doing
use Rattle.sf_wait.specs.declared.doing.DoFault.{DoFault}
use Rattle.sf_wait.specs.declared.doing.DoFault.TheVariants as fault
use Rattle.sf_keys.specs.Answers.{IsFresh, HasMissed, HasLetter, HasFailed, IsAlone, IsSpentAsking, OwesLetters}
use Rattle.sf_group_rows.proofs.Moments.{first_added, led_current, entered_current, stands_more}
use Rattle.sf_keys.proofs.Newer.{newer}

module _ {V : Type 0} where
  -- a letter's own Settle
  settled_so : (g : GroupValue) (k : ℕ) (c : CallId) (v : V) (l : LetterValue V) → IsLetter g k c v l.joiners l → Stands (Settle l.call.caller l.call l.value l.joiners) l.seen
  settled_so g k c v l is = subst (λ (i : CallId). Stands (Settle i.caller i l.value l.joiners) l.seen) (sym is.call)
      (subst (λ (x : V). Stands (Settle c.caller c x l.joiners) l.seen) (sym is.value) is.settled)

  seen_begins : (p q h : List (Event ℕ V)) (e : Event ℕ V) → StartsWith q p → StartsWith ((q ++ h) ++ e ∷ []) p
  seen_begins p q h e w = starts_again p q ((q ++ h) ++ e ∷ []) w (h ++ e ∷ [], append_assoc q h (e ∷ []))

module _ {V : Type 0} (fits : FitOf V) (key_of : V → List ℕ) (k : ℕ) (key : List ℕ) where
  -- after askings that missed the caller is the same one, and has seen more
  pub record Missed (c d : CallerValue V) : Type 0 where
    pub group : d.group ≡ c.group
    pub number : d.number ≡ c.number
    pub begins : StartsWith d.seen c.seen

  same : (c d : CallerValue V) → d ≡ c → Missed c d
  same c d is = subst (λ (x : CallerValue V). Missed c x) (sym is) (record { group = refl; number = refl; begins = ([], sym (append-nil c.seen)) })

  waited : (u d : CallerValue V) (l : LetterValue V) → HasWaited fits u k d l → Missed u d
  waited u d l w = record {
    group = w.waited.group ∙ w.begun.group;
    number = w.waited.number ∙ w.begun.number;
    begins = starts_again u.seen w.ticket.seen d.seen w.begun.adds.grows.begins w.waited.adds.grows.begins;
  }

  pub missed_caller : (n : ℕ) (c d : CallerValue V) → HasMissed fits key_of k key n c d → Missed c d
  missed_caller zero c d is = same c d is
  missed_caller (suc n) c d (u, l, before, w, other) =
      let first = missed_caller n c u before in
      let then = waited u d l w in
      record { group = then.group ∙ first.group; number = then.number ∙ first.number; begins = starts_again c.seen u.seen d.seen first.begins then.begins }

  -- one more asking that missed
  pub missed_again : (n : ℕ) (c u d : CallerValue V) (l : LetterValue V) → HasMissed fits key_of k key n c u → HasWaited fits u k d l → key_of l.value ≢ key → HasMissed fits key_of k key (n + 1) c d
  missed_again n c u d l before w other = subst (λ m. HasMissed fits key_of k key m c d) (sym (add-one n)) (u, l, before, w, other)

  -- the letter of a call that the caller led
  fresh_led : (c u d : CallerValue V) (f : FlightValue V) (v : V) (l : LetterValue V) → StartsWith u.seen c.seen → HasLed u k f → IsDone fits f v d l → IsFresh k c.seen d.seen l
  fresh_led c u d f v l begins led done =
      let lead : Event ℕ V = Lead u.number k (call_of u) None in
      let at = first_added u.number u.seen f.seen lead [] led.adds.grows.begins led.adds.grows.own in
      let moment : List (Event ℕ V) = (u.seen ++ at.0) ++ lead ∷ [] in
      let start = seen_begins c.seen u.seen at.0 lead begins in
      let within = starts_again moment f.seen d.seen at.1 done.adds.grows.begins in
      let current = led_current (u.seen ++ at.0) u.number k (call_of u) None ∙ ap Some (sym (done.letter.call ∙ led.call)) in
      record {
        place = done.letter.place ∙ led.place;
        settled = stands_more _ l.seen d.seen done.shows (settled_so f.group f.place f.call v l done.letter);
        moment = moment;
        begins = start;
        within = within;
        current = current;
        newer = newer c.seen moment d.seen k l.call done.adds.lawful.legal within start current;
      }

  -- the letter of a call that the caller joined
  fresh_waited : (c u d : CallerValue V) (l : LetterValue V) → StartsWith u.seen c.seen → HasWaited fits u k d l → IsFresh k c.seen d.seen l
  fresh_waited c u d l begins w =
      let t = w.ticket in
      let enter : Event ℕ V = Enter u.number k t.call (call_of u) in
      let at = first_added u.number u.seen t.seen enter [] w.begun.adds.grows.begins w.begun.adds.grows.own in
      let moment : List (Event ℕ V) = (u.seen ++ at.0) ++ enter ∷ [] in
      let start = seen_begins c.seen u.seen at.0 enter begins in
      let within = starts_again moment t.seen d.seen at.1 w.waited.adds.grows.begins in
      let current = entered_current t.seen (u.seen ++ at.0) u.number k t.call (call_of u) w.begun.adds.lawful.legal at.1 ∙ ap Some (sym w.waited.letter.call) in
      record {
        place = w.waited.letter.place ∙ w.begun.place;
        settled = stands_more _ l.seen d.seen w.waited.shows (settled_so t.group t.place t.call l.value l w.waited.letter);
        moment = moment;
        begins = start;
        within = within;
        current = current;
        newer = newer c.seen moment d.seen k l.call w.waited.adds.lawful.legal within start current;
      }

  -- the caller led, with a value that the load answered
  pub letter_led : {F : Type 0} (answers : V → Type 0) (load : F) → ((v : V) → answers v → key_of v ≡ key) → (n : ℕ) (c u d : CallerValue V) (l : LetterValue V)
      → HasMissed fits key_of k key n c u → HasLoaded fits answers u k d l → HasLetter fits key_of k key answers load c d l None
  letter_led answers load keyed n c u d l before loaded = let same = missed_caller n c u before in record {
    group = loaded.finished.group ∙ (loaded.begun.group ∙ same.group);
    number = loaded.finished.number ∙ (loaded.begun.number ∙ same.number);
    missed = n;
    asking = u;
    before = before;
    done = inl (loaded, refl);
    key_is = ap key_of loaded.finished.letter.value ∙ keyed loaded.value loaded.answered;
    fresh = fresh_led c u d loaded.flight loaded.value l same.begins loaded.begun loaded.finished;
  }

  -- the caller joined the call of its own key
  pub letter_waited : {F : Type 0} (answers : V → Type 0) (load back : F) → back ≡ load → (n : ℕ) (c u d : CallerValue V) (l : LetterValue V) → HasMissed fits key_of k key n c u
      → HasWaited fits u k d l → key_of l.value ≡ key → HasLetter fits key_of k key answers load c d l (Some back)
  letter_waited answers load back back_is n c u d l before w is = let same = missed_caller n c u before in record {
    group = w.waited.group ∙ (w.begun.group ∙ same.group);
    number = w.waited.number ∙ (w.begun.number ∙ same.number);
    missed = n;
    asking = u;
    before = before;
    done = inr (w, ap Some back_is);
    key_is = is;
    fresh = fresh_waited c u d l same.begins w;
  }

  -- the same of an asking with what is left of the load, at the key's place
  pub led_by : {F : Type 0} (post : F → V → Type 0) (load kept : F) (p : ℕ) → kept ≡ load → p ≡ k → ((v : V) → post load v → key_of v ≡ key) → (n : ℕ) (c u d : CallerValue V) (l : LetterValue V)
      → HasMissed fits key_of k key n c u → HasLoaded fits (post kept) u p d l → HasLetter fits key_of k key (post load) load c d l None
  led_by {F = F} post load kept p kept_is p_is keyed n c u d l before loaded =
      letter_led (post load) load keyed n c u d l before
      (subst (λ (f : F). HasLoaded fits (post f) u k d l) kept_is (subst (λ (j : ℕ). HasLoaded fits (post kept) u j d l) p_is loaded))

  pub waited_at : (u d : CallerValue V) (l : LetterValue V) (p : ℕ) → p ≡ k → HasWaited fits u p d l → HasWaited fits u k d l
  waited_at u d l p p_is w = subst (λ (j : ℕ). HasWaited fits u j d l) p_is w

  -- the caller led, and letters are owed still
  pub owes_by : {F : Type 0} (post : F → V → Type 0) (load kept : F) (p : ℕ) → kept ≡ load → p ≡ k → (n : ℕ) (c u : CallerValue V) (s : SettledValue V)
      → HasMissed fits key_of k key n c u → OwesLoaded (post kept) u p s → OwesLetters fits key_of k key (post load) c s
  owes_by {F = F} post load kept p kept_is p_is n c u s before owes =
      let same = missed_caller n c u before in
      record {
        group = owes.finished.group ∙ (owes.begun.group ∙ same.group);
        number = owes.finished.number ∙ (owes.begun.number ∙ same.number);
        missed = n;
        asking = u;
        before = before;
        owes = subst (λ (f : F). OwesLoaded (post f) u k s) kept_is (subst (λ (j : ℕ). OwesLoaded (post kept) u j s) p_is owes);
      }

  -- no generation is left
  pub spent_by : {F : Type 0} (load kept back : F) → kept ≡ load → (n : ℕ) (c u d : CallerValue V) → HasMissed fits key_of k key n c u → IsRefusedSpent u d → back ≡ kept → IsSpentAsking fits key_of k key c d load back
  spent_by load kept back kept_is n c u d before spent back_is =
      let same = missed_caller n c u before in
      record {
        group = spent.nothing.group ∙ same.group;
        number = spent.nothing.number ∙ same.number;
        missed = n;
        asking = u;
        before = before;
        spent = spent;
        load_is = back_is ∙ kept_is;
      }

  -- after as many rounds as there are, the load answers alone
  pub alone_by : {F : Type 0} (post : F → V → Type 0) (load kept : F) (n rounds : ℕ) → kept ≡ load → n ≡ rounds → ((v : V) → post load v → key_of v ≡ key) → (c d : CallerValue V) (v : V)
      → HasMissed fits key_of k key n c d → post kept v → IsAlone fits key_of k key (post load) c rounds d v
  alone_by {F = F} post load kept n rounds kept_is n_is keyed c d v before answered =
      let same = missed_caller n c d before in
      let given = subst (λ (f : F). post f v) kept_is answered in
      record {
        group = same.group;
        number = same.number;
        before = subst (λ (m : ℕ). HasMissed fits key_of k key m c d) n_is before;
        answered = given;
        key_is = keyed v given;
      }

module _ {V F : Type 0} (fits : FitOf V) (answers : V → Type 0) (c : CallerValue V) (k : ℕ) (load : F) (d : CallerValue V) (l : LetterValue V) where
  -- a do that does not have its load back led, and one that has it waited
  pub led_without : (back : Option F) → back ≡ None → HasDoneWith fits answers c k load d l back → HasLoaded fits answers c k d l
  led_without back none (inl led) = led.0
  led_without back none (inr waited) = let clash : None ≡ Some load = sym none ∙ waited.1 in cc

  pub waited_with : (back : Option F) (left : F) → back ≡ Some left → HasDoneWith fits answers c k load d l back → HasWaited fits c k d l × (left ≡ load)
  waited_with back left some (inl led) = let clash : Some left ≡ None = sym some ∙ led.1 in cc
  waited_with back left some (inr waited) = (waited.0, let is : Some left ≡ Some load = sym some ∙ waited.1 in cc)

module _ {V F : Type 0} (fits : FitOf V) (key_of : V → List ℕ) (k : ℕ) (key : List ℕ) where
  -- a do that failed, with what is left of the load, at the key's place
  pub failed_by : (post : F → V → Type 0) (load kept : F) (p : ℕ) → kept ≡ load → p ≡ k → (n : ℕ) (c u : CallerValue V) → HasMissed fits key_of k key n c u → (why : DoFault V F)
      → doing.HasFailed (post kept) u p kept why → HasFailed fits key_of k key (post load) c load why
  failed_by post load kept p kept_is p_is n c u before (fault.Spent d f) spent = spent_by fits key_of k key load kept f kept_is n c u d before spent.0 spent.1
  failed_by post load kept p kept_is p_is n c u before (fault.Held s) owes = owes_by fits key_of k key post load kept p kept_is p_is n c u s before owes
