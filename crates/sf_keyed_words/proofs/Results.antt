-- What one more event leaves of results and of new members.
use Rattle.std.proofs.Common.{◌≡◌, ◌≢◌, ℕ, ◌+◌, ◌≤◌, ◌%◌, Bool, true, false, ◌||◌, List, [], ◌∷◌, ◌++◌, Option, Some, None, length, refl, sym, ◌∙◌, ap, arith}
use Rattle.std.proofs.lemmas.Bool.{true≢false, or_from, or_parts}
use Rattle.std.proofs.lemmas.List.Sums.{sum_by-cons}
use Rattle.sf_keyed_words.specs.Rule.{SaysJoined}
use Rattle.std.proofs.lemmas.List.Folds.{find-append}
use Rattle.std.proofs.lemmas.List.{length-append}
use Rattle.std.specs.Prelude.{cond, find, option_and_then, nat_eq}
use Rattle.std.specs.Option.{option_or}
use Rattle.std.specs.List.{list_any}
use Rattle.sf_lists.proofs.Lists.{list_any_push_none}
use Rattle.sf_history.specs.declared.call.CallId.{CallId}
use Rattle.sf_keyed_tells.specs.Tells.{KeyedEvent}
use Rattle.sf_history.specs.declared.event.Event.TheVariants.{Lead, Enter, Forget, ForgetCall, Settle, Handed}
use Rattle.sf_history.specs.Calls.{same_call}
use Rattle.sf_history.specs.History.{names, IsNew, open_call, enters, joined, settles, is_settled, result_in, result_of}
use Rattle.sf_history.proofs.Members.{joined_kept, joined_push}
use Rattle.sf_history.specs.Legal.{IsLegal}
use Rattle.sf_history.proofs.LegalHistories.{same_call_is, same_call_self, settled_named}
use Rattle.sf_keyed_laws.specs.Words.{Words}
use Rattle.sf_keyed_tells.specs.Tells.{call_of, Tells}
use Rattle.sf_keyed_tells.proofs.Telling.{by_bool, apart_calls, call_number}

pub result_kept : (h : List KeyedEvent) (e : KeyedEvent) (c : CallId) (v : Option ℕ) → result_of h c ≡ Some v → result_of (h ++ e ∷ []) c ≡ Some v
result_kept h e c v is = ap (option_and_then result_in) (find-append (settles c) h (e ∷ [])) ∙ at (find (settles c) h) (find (settles c) (e ∷ [])) is
  where
    at : (o p : Option KeyedEvent) → option_and_then result_in o ≡ Some v → option_and_then result_in (option_or o p) ≡ Some v
    at None p is = cc
    at (Some x) p is = is

find_step : (test some : Bool) (e : KeyedEvent) (found : Option KeyedEvent) → (some ≡ false → found ≡ None) → (test || some) ≡ false → cond test (Some e) found ≡ None
find_step true some e found rest is = absurd (true≢false is)
find_step false some e found rest is = rest is

-- no event settles the call
find_none : (h : List KeyedEvent) (c : CallId) → is_settled h c ≡ false → find (settles c) h ≡ None
find_none [] c is = refl
find_none (e ∷ h) c is = find_step (settles c e) (list_any (settles c) h) e (find (settles c) h) (find_none h c) is

-- the Settle of a call gives its result
pub result_settled : (h : List KeyedEvent) (a : ℕ) (c : CallId) (v : Option ℕ) (joiners : ℕ) → is_settled h c ≡ false → result_of (h ++ Settle a c v joiners ∷ []) c ≡ Some v
result_settled h a c v joiners isnt =
    ap (option_and_then result_in) (find-append (settles c) h (Settle a c v joiners ∷ []) ∙ (ap (λ (o : Option KeyedEvent). option_or o (find (settles c) (Settle a c v joiners ∷ []))) (find_none h c isnt)
    ∙ ap (λ (t : Bool). cond t (Some (Settle a c v joiners)) None) (same_call_self c)))

pub either_closed : (b : Bool) → (b ≡ false → ⊥) → b ≡ true
either_closed true never = refl
either_closed false never = absurd (never refl)

-- a closed call is no key's open call
abbrev call_in : Option CallId → CallId
call_in (Some c) = c
call_in None = record { caller = 0; generation = 0 }

abbrev is_some_call : Option CallId → Bool
is_some_call (Some c) = true
is_some_call None = false

pub shut_call : (s : Words) (h : List KeyedEvent) (e k : ℕ) → Tells s h → s.closed e ≡ true → open_call nat_eq h k ≡ Some (call_of e) → ⊥
shut_call s h e k tells shut is =
    let none : open_call nat_eq h k ≡ None = tells.shuts k (λ d led live key.
    let same : Some (call_of d) ≡ Some (call_of e) = sym (tells.opens d led live) ∙ (ap (open_call nat_eq h) key ∙ is) in
    true≢false (sym shut ∙ (ap s.closed (sym (call_number d e (ap call_in same))) ∙ live))) in
    true≢false (ap is_some_call (sym is ∙ none))

-- a call that is new is not settled
pub new_unsettled : (h : List KeyedEvent) (c : CallId) → IsLegal nat_eq h → IsNew h c → is_settled h c ≡ false
new_unsettled h c legal new = by_bool (is_settled h c) (λ is. true≢false (sym (settled_named nat_eq h c legal is) ∙ new))

-- one call's Settle is no other's
pub other_settled : (h : List KeyedEvent) (e f : ℕ) (v : Option ℕ) (j : ℕ) → e ≢ f → is_settled h (call_of f) ≡ false → is_settled (h ++ Settle (e % 1048576) (call_of e) v j ∷ []) (call_of f) ≡ false
other_settled h e f v j apart before = list_any_push_none (settles (call_of f)) h (Settle (e % 1048576) (call_of e) v j) before (apart_calls e f apart)

-- another event settles nothing
pub plain_settled : (h : List KeyedEvent) (x : KeyedEvent) (c : CallId) → settles c x ≡ false → is_settled h c ≡ false → is_settled (h ++ x ∷ []) c ≡ false
plain_settled h x c none before = list_any_push_none (settles c) h x before none

-- an event that does not name a call is no Enter on it
enters_named : (c : CallId) (e : KeyedEvent) → names c e ≡ false → enters c e ≡ false
enters_named c (Lead by k d own) none = refl
enters_named c (Enter by k d m) none = by_bool (same_call d c) (λ is. true≢false (sym (ap (λ (b : Bool). b || same_call m c) is) ∙ none))
enters_named c (Forget by k closed) none = refl
enters_named c (ForgetCall by k d hit) none = refl
enters_named c (Settle by d result joiners) none = refl
enters_named c (Handed by d) none = refl

-- nobody has joined a call that is new
pub new_unjoined : (h : List KeyedEvent) (c : CallId) → IsNew h c → joined h c ≡ 0
new_unjoined [] c new = refl
new_unjoined (e ∷ h) c new =
    let none = enters_named c e (or_parts (names c e) (list_any (names c) h) new).0 in
    let rest = new_unjoined h c (or_parts (names c e) (list_any (names c) h) new).1 in
    let sum : joined (e ∷ h) c ≡ cond {A = ℕ} (enters c e) 1 0 + joined h c = sum_by-cons (λ (x : KeyedEvent). cond {A = ℕ} (enters c x) 1 0) e h in
    let here : cond {A = ℕ} (enters c e) 1 0 ≡ 0 = ap (λ (b : Bool). cond {A = ℕ} b 1 0) none in
    omega (arith, sum, here, rest)

-- an Enter on one call is none on another
pub other_joined : (h : List KeyedEvent) (e f k : ℕ) (m : CallId) → e ≢ f → joined (h ++ Enter m.caller k (call_of e) m ∷ []) (call_of f) ≡ joined h (call_of f)
other_joined h e f k m apart = joined_kept h (Enter m.caller k (call_of e) m) (call_of f) (apart_calls e f apart)

-- and its own call is joined
pub now_joined : (h : List KeyedEvent) (e k : ℕ) (m : CallId) → joined (h ++ Enter m.caller k (call_of e) m ∷ []) (call_of e) ≢ 0
now_joined h e k m none =
    let push = joined_push h (Enter m.caller k (call_of e) m) (call_of e) in
    let one : cond {A = ℕ} (same_call (call_of e) (call_of e)) 1 0 ≡ 1 = ap (λ (b : Bool). cond {A = ℕ} b 1 0) (same_call_self (call_of e)) in
    omega (arith, push, one, none)

-- the bit goes on to say so
pub says_on : (h h2 : List KeyedEvent) (e a b : ℕ) → b ≡ a → joined h2 (call_of e) ≡ joined h (call_of e) → SaysJoined h e a → SaysJoined h2 e b
says_on h h2 e a b same kept says = (λ none. kept ∙ says.0 (sym same ∙ none), λ one none. says.1 (sym same ∙ one) (sym kept ∙ none))

abbrev pub Members : List KeyedEvent → Type 0
Members h = (c g : ℕ) → 1048576 ≤ c → length h ≤ g → IsNew h (record { caller = c; generation = g })

pub members_push : (h : List KeyedEvent) (x : KeyedEvent) → Members h → ((c g : ℕ) → 1048576 ≤ c → length h + 1 ≤ g → names (record { caller = c; generation = g }) x ≡ false) → Members (h ++ x ∷ [])
members_push h x before none c g large le =
    let n = length-append h (x ∷ []) in
    let more : length h + 1 ≤ g = omega (arith, n, le) in
    list_any_push_none (names (record { caller = c; generation = g })) h x (before c g large (omega (arith, more))) (none c g large more)

-- a cell's call is no member's
pub cell_no_member : (e c g : ℕ) → 1048576 ≤ c → same_call (call_of e) (record { caller = c; generation = g }) ≡ false
cell_no_member e c g large = by_bool (same_call (call_of e) (record { caller = c; generation = g })) (λ is.
    let m : CallId = record { caller = c; generation = g } in
    let cell : e % 1048576 ≡ c = ap (λ (k : CallId). k.caller) (same_call_is (call_of e) m is) in
    absurd (omega arith))

pub lead_members : (h : List KeyedEvent) (e k : ℕ) → Members h → Members (h ++ Lead (e % 1048576) k (call_of e) None ∷ [])
lead_members h e k before = members_push h (Lead (e % 1048576) k (call_of e) None) before (λ c g large le. or_from _ _ (cell_no_member e c g large) refl)

pub enter_members : (h : List KeyedEvent) (e k a : ℕ) → Members h → Members (h ++ Enter a k (call_of e) (record { caller = a; generation = length h }) ∷ [])
enter_members h e k a before = members_push h (Enter a k (call_of e) (record { caller = a; generation = length h })) before (λ c g large le. or_from _ _ (cell_no_member e c g large)
    (by_bool _ (λ is.
    let mine : CallId = record { caller = a; generation = length h } in
    let m : CallId = record { caller = c; generation = g } in
    let same : length h ≡ g = ap (λ (k : CallId). k.generation) (same_call_is mine m is) in
    absurd (omega (arith, same, le)))))

pub settle_members : (h : List KeyedEvent) (a : ℕ) (c : CallId) (v : Option ℕ) (j : ℕ) → Members h → Members (h ++ Settle a c v j ∷ [])
settle_members h a c v j before = members_push h (Settle a c v j) before (λ c g large le. refl)

pub forget_members : (h : List KeyedEvent) (a k : ℕ) (closed : Option CallId) → Members h → Members (h ++ Forget a k closed ∷ [])
forget_members h a k closed before = members_push h (Forget a k closed) before (λ c g large le. refl)
