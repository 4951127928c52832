-- who joined an open call holds a ticket, so no more callers did than there are
use Rattle.std.proofs.Common.{◌≡◌, ◌≢◌, ℕ, ◌+◌, ◌≤◌, Bool, true, false, List, [], ◌∷◌, ◌++◌, length, Some, None, refl, sym, ◌∙◌, ap, subst, arith}
use Rattle.std.proofs.lemmas.Bool.{or_right, and_from, true≢false, false_from_ne_true}
use Rattle.std.specs.Prelude.{cond}
use Rattle.std.specs.List.{list_any}
use Rattle.sf_history.specs.declared.call.CallId.{CallId}
use Rattle.sf_sequential.specs.declared.ticket.Ticket.{Ticket}
use Rattle.sf_history.specs.declared.event.Event.{Event}
use Rattle.sf_history.specs.declared.event.Event.TheVariants.{Lead, Enter, Forget, ForgetCall, Settle, Handed}
use Rattle.sf_history.specs.Calls.{same_call}
use Rattle.sf_history.specs.History.{names, joined, is_handed}
use Rattle.sf_history.specs.Legal.{MayFollow, IsLegal}
use Rattle.sf_history.specs.Limits.{IsCallWithin}
use Rattle.sf_sequential.specs.State.{GroupState, IsKept, gives, last_ticket, held_ticket, has_taken}
use Rattle.sf_lists.proofs.Lists.{by_push, list_any_push_kept, list_any_push_last}
use Rattle.sf_history.proofs.LegalHistories.{same_call_self, legal_front, legal_last}
use Rattle.sf_sequential.proofs.Kept.{held_from_last}
use Rattle.sf_history.proofs.Members.{Each, each_map, IsApart, Apart, members, joins, members_push, joined_members, IsOther, few}
use Rattle.sf_words.specs.declared.limits.TheConstants.{LARGEST_CALLER}

-- no call stands twice
abbrev Once : List CallId → Type 0
Once [] = Unit {0}
Once (m ∷ l) = Each (λ n. n ≢ m) l × Once l

same_ticket : (t u : Ticket) → Some t ≡ Some u → t ≡ u
same_ticket t u is = cc

-- the ticket of a member
abbrev ticket_of : CallId → CallId → Ticket
ticket_of c m = record { call = c; member = m }

-- what holds of each call of a list, and of one more
abbrev joins_if : CallId → List CallId → Bool → List CallId
joins_if m l b = cond b (m ∷ l) l

each_more : (P : CallId → Type 0) (m : CallId) (l : List CallId) (b : Bool) → (b ≡ true → P m) → Each P l → Each P (joins_if m l b)
each_more P m l true new is = (new refl, is)
each_more P m l false new is = is

once_more : (m : CallId) (l : List CallId) (b : Bool) → Each (λ n. n ≢ m) l → Once l → Once (joins_if m l b)
once_more m l true new is = (new, is)
once_more m l false new is = is

module _ {K V : Type 0} where
  -- each member was given its ticket, and is named
  given : (h : List (Event K V)) (c : CallId) → Each (λ m. list_any (gives (ticket_of c m)) h ≡ true) (members h c)
  given h c = by_push (λ (h : List (Event K V)). Each (λ m. list_any (gives (ticket_of c m)) h ≡ true) (members h c)) tt step h
    where
      step : (h : List (Event K V)) (e : Event K V) → Each (λ m. list_any (gives (ticket_of c m)) h ≡ true) (members h c) → Each (λ m. list_any (gives (ticket_of c m)) (h ++ e ∷ []) ≡ true) (members (h ++ e ∷ []) c)
      step h e is = subst (Each (λ m. list_any (gives (ticket_of c m)) (h ++ e ∷ []) ≡ true)) (sym (members_push h e c)) (at e (each_map _ _ (λ m was. list_any_push_kept (gives (ticket_of c m)) h e was) (members h c) is))
        where
          at : (e : Event K V) → Each (λ m. list_any (gives (ticket_of c m)) (h ++ e ∷ []) ≡ true) (members h c) → Each (λ m. list_any (gives (ticket_of c m)) (h ++ e ∷ []) ≡ true) (joins c (members h c) e)
          at (Lead by key call own) was = was
          at (Enter by key call member) was =
              each_more _ member (members h c) (same_call call c) (λ same. list_any_push_last (gives (ticket_of c member)) h (Enter by key call member) (and_from _ _ same (same_call_self member))) was
          at (Forget by key closed) was = was
          at (ForgetCall by key call hit) was = was
          at (Settle by call result joiners) was = was
          at (Handed by call) was = was

  named : (h : List (Event K V)) (c : CallId) → Each (λ m. list_any (names m) h ≡ true) (members h c)
  named h c = by_push (λ (h : List (Event K V)). Each (λ m. list_any (names m) h ≡ true) (members h c)) tt step h
    where
      step : (h : List (Event K V)) (e : Event K V) → Each (λ m. list_any (names m) h ≡ true) (members h c) → Each (λ m. list_any (names m) (h ++ e ∷ []) ≡ true) (members (h ++ e ∷ []) c)
      step h e is = subst (Each (λ m. list_any (names m) (h ++ e ∷ []) ≡ true)) (sym (members_push h e c)) (at e (each_map _ _ (λ m was. list_any_push_kept (names m) h e was) (members h c) is))
        where
          at : (e : Event K V) → Each (λ m. list_any (names m) (h ++ e ∷ []) ≡ true) (members h c) → Each (λ m. list_any (names m) (h ++ e ∷ []) ≡ true) (joins c (members h c) e)
          at (Lead by key call own) was = was
          at (Enter by key call member) was =
              each_more _ member (members h c) (same_call call c) (λ same. list_any_push_last (names member) h (Enter by key call member) (or_right (same_call call member) (same_call member member) (same_call_self member))) was
          at (Forget by key closed) was = was
          at (ForgetCall by key call hit) was = was
          at (Settle by call result joiners) was = was
          at (Handed by call) was = was

  -- no member stands twice
  once : (eq : K → K → Bool) (h : List (Event K V)) (c : CallId) → IsLegal eq h → Once (members h c)
  once eq h c = by_push (λ (h : List (Event K V)). IsLegal eq h → Once (members h c)) (λ legal. tt) step h
    where
      step : (h : List (Event K V)) (e : Event K V) → (IsLegal eq h → Once (members h c)) → IsLegal eq (h ++ e ∷ []) → Once (members (h ++ e ∷ []) c)
      step h e before legal = subst Once (sym (members_push h e c)) (at e (legal_last eq h e legal) (before (legal_front eq h e legal)))
        where
          at : (e : Event K V) → MayFollow eq h e → Once (members h c) → Once (joins c (members h c) e)
          at (Lead by key call own) follows was = was
          at (Enter by key call member) follows was =
              once_more member (members h c) (same_call call c) (each_map _ _ (λ m is same. true≢false (sym is ∙ subst (λ (z : CallId). list_any (names z) h ≡ false) (sym same) follows.1)) (members h c) (named h c)) was
          at (Forget by key closed) follows was = was
          at (ForgetCall by key call hit) follows was = was
          at (Settle by call result joiners) follows was = was
          at (Handed by call) follows was = was

  -- a member of a call that is not handed out holds its ticket
  holds : (eq : K → K → Bool) (g : GroupState K V) (c m : CallId) → IsKept eq g → is_handed g.history c ≡ false → list_any (gives (ticket_of c m)) g.history ≡ true
      → (last_ticket g.history m.caller ≡ Some (ticket_of c m)) × (held_ticket g m.caller ≡ Some (ticket_of c m))
  holds eq g c m kept unhanded gave =
      let left : has_taken g.taken m ≡ false = false_from_ne_true _ (λ took. true≢false (sym (kept.taken_handed (ticket_of c m) gave took) ∙ unhanded)) in
      let last = kept.holds_one m.caller (ticket_of c m) (refl, gave, left) in
      (last, held_from_last g.taken (last_ticket g.history m.caller) (ticket_of c m) last left)

  -- so the members of such a call are of different callers
  apart : (eq : K → K → Bool) (g : GroupState K V) (c : CallId) (l : List CallId) → IsKept eq g → is_handed g.history c ≡ false → Each (λ m. list_any (gives (ticket_of c m)) g.history ≡ true) l → Once l → Apart l
  apart eq g c [] kept unhanded gave one = tt
  apart eq g c (m ∷ l) kept unhanded gave one = (others (holds eq g c m kept unhanded gave.0).0 l gave.1 one.0, apart eq g c l kept unhanded gave.1 one.1)
    where
      others : last_ticket g.history m.caller ≡ Some (ticket_of c m) → (l : List CallId) → Each (λ n. list_any (gives (ticket_of c n)) g.history ≡ true) l → Each (λ n. n ≢ m) l → Each (IsApart m) l
      others first [] gave one = tt
      others first (n ∷ l) gave one = (
        λ (same : n.caller ≡ m.caller).
            let second = (holds eq g c n kept unhanded gave.0).0 in
            let both : Some (ticket_of c n) ≡ Some (ticket_of c m) = sym second ∙ (ap (λ (x : ℕ). last_ticket g.history x) same ∙ first) in
            one.0 (ap (λ (t : Ticket). t.member) (same_ticket (ticket_of c n) (ticket_of c m) both)),
        others first l gave.1 one.1,
      )

  -- one who holds no ticket is no member of such a call
  unlisted : (eq : K → K → Bool) (g : GroupState K V) (a : ℕ) (c : CallId) (l : List CallId) → IsKept eq g → is_handed g.history c ≡ false → held_ticket g a ≡ None → Each (λ m. list_any (gives (ticket_of c m)) g.history ≡ true) l → Each IsCallWithin l
      → Each (IsOther a LARGEST_CALLER) l
  unlisted eq g a c [] kept unhanded none gave within = tt
  unlisted eq g a c (m ∷ l) kept unhanded none gave within = (
    (
      λ (same : m.caller ≡ a).
          let has = (holds eq g c m kept unhanded gave.0).1 in
          let hasnt : held_ticket g m.caller ≡ None = subst (λ (x : ℕ). held_ticket g x ≡ None) (sym same) none in
          cc,
      within.0.0.0,
      within.0.0.1,
    ),
    unlisted eq g a c l kept unhanded none gave.1 within.1,
  )

  -- so there is room for one more joiner
  pub room_for_joiner : (eq : K → K → Bool) (g : GroupState K V) (a : ℕ) (c : CallId) → IsKept eq g → 1 ≤ a → a ≤ LARGEST_CALLER → is_handed g.history c ≡ false → held_ticket g a ≡ None → ((m : CallId) → list_any (names m) g.history ≡ true → IsCallWithin m)
      → joined g.history c + 1 ≤ LARGEST_CALLER
  room_for_joiner eq g a c kept low high unhanded none within =
      let l : List CallId = members g.history c in
      let gave = given g.history c in
      let most : length l + 1 ≤ LARGEST_CALLER = few a LARGEST_CALLER l low high (unlisted eq g a c l kept unhanded none gave (each_map _ _ (λ m is. within m is) l (named g.history c))) (apart eq g c l kept unhanded gave (once eq g.history c kept.legal)) in
      let same : joined g.history c ≡ length l = joined_members g.history c in
      omega arith
