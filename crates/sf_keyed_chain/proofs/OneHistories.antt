-- A name's history over the tables of a chain, one behind the other, is legal.
use Rattle.std.proofs.Common.{◌≡◌, ◌≢◌, ℕ, zero, suc, ◌+◌, ◌*◌, ◌<◌, ◌≤◌, Bool, true, false, cond, eqb, eq-eqb, ◌&&◌, ◌||◌, List, [], ◌∷◌, ◌++◌, map, length, Option, Some, None, inl, inr, refl, sym, ◌∙◌, ap, subst, append_assoc, append-nil, arith}
use Rattle.std.proofs.lemmas.Bool.{cases_Bool, eqb-true, ne_eqb, true≢false}
use Rattle.std.proofs.lemmas.List.{map-append}
use Rattle.std.proofs.lemmas.List.Folds.{list_any-append}
use Rattle.std.proofs.lemmas.List.Sums.{fold-append, sum_by-append}
use Rattle.std.proofs.lemmas.Option.{slice_get_within}
use Rattle.std.specs.List.{list_any, slice_get}
use Rattle.std.specs.Prelude.{fold, count_by, nat_eq, IfSome}
use Rattle.sf_history.specs.declared.call.CallId.{CallId}
use Rattle.sf_history.specs.declared.event.Event.TheVariants.{Lead, Enter, Forget, ForgetCall, Settle, Handed}
use Rattle.sf_history.specs.Calls.{same_call}
use Rattle.sf_history.specs.History.{IsNew, enters, hands, has_closed, holds_call, leads, names, open_call, opens, settles}
use Rattle.sf_history.specs.Legal.{MayFollow, IsLegal}
use Rattle.sf_history.proofs.LegalHistories.{fold_push, legal_front, legal_last}
use Rattle.sf_lists.proofs.Lists.{by_push, push_split}
use Rattle.sf_keyed_tells.specs.Tells.{KeyedEvent, call_of}
use Rattle.sf_keyed_chain.specs.Chains.{Sight, IsGoneBefore}
use Rattle.sf_keyed_chain.specs.Headline.{CallsStandInOneHistory}
use Rattle.sf_keyed_chain.specs.OneHistory.{IsLegalOf, IsOf, IsOneHistory, call_at, event_at, history_to, own_at, seen_in}
use Rattle.sf_keyed_chain.proofs.Headlines.{enters_the_open_call, leads_the_new_call}

-- in one table the same calls are the same, and in two tables none are
same_number : (at a b : ℕ) → eqb (a * 24 + at) (b * 24 + at) ≡ eqb a b
same_number at a b =
    elim (cases_Bool (eqb a b)) [
      | inl is ↦ eq-eqb (a * 24 + at) (b * 24 + at) (ap (λ n. n * 24 + at) (eqb-true a b is)) ∙ sym is
      | inr isnt ↦ ne_eqb (a * 24 + at) (b * 24 + at) (λ same. true≢false (sym (eq-eqb a b (omega (arith, same))) ∙ isnt)) ∙ sym isnt
    ]

same_calls : (at : ℕ) (c d : CallId) → same_call (call_at at c) (call_at at d) ≡ same_call c d
same_calls at c d = ap (λ b. b && eqb c.generation d.generation) (same_number at c.caller d.caller)

other_calls : (i at : ℕ) (c d : CallId) → i < at → at < 24 → same_call (call_at i c) (call_at at d) ≡ false
other_calls i at c d below few = ap (λ b. b && eqb c.generation d.generation) (ne_eqb (c.caller * 24 + i) (d.caller * 24 + at) (λ same. omega (arith, same, below, few)))

holds_at : (at : ℕ) (o : Option CallId) (c : CallId) → holds_call (own_at at o) (call_at at c) ≡ holds_call o c
holds_at at None c = refl
holds_at at (Some d) c = same_calls at d c

holds_else : (i at : ℕ) (o : Option CallId) (c : CallId) → i < at → at < 24 → holds_call (own_at i o) (call_at at c) ≡ false
holds_else i at None c below few = refl
holds_else i at (Some d) c below few = other_calls i at d c below few

and_false : (b : Bool) → (b && false) ≡ false
and_false true = refl
and_false false = refl

-- what an event of a table says of a call of that table, it said before
names_at : (at : ℕ) (c : CallId) (e : KeyedEvent) → names (call_at at c) (event_at at e) ≡ names c e
names_at at c (Lead by key call own) = ap (λ b. b || holds_call (own_at at own) (call_at at c)) (same_calls at call c) ∙ ap (λ b. same_call call c || b) (holds_at at own c)
names_at at c (Enter by key call member) = ap (λ b. b || same_call (call_at at member) (call_at at c)) (same_calls at call c) ∙ ap (λ b. same_call call c || b) (same_calls at member c)
names_at at c (Forget by key closed) = refl
names_at at c (ForgetCall by key call hit) = refl
names_at at c (Settle by call result joiners) = refl
names_at at c (Handed by call) = refl

enters_at : (at : ℕ) (c : CallId) (e : KeyedEvent) → enters (call_at at c) (event_at at e) ≡ enters c e
enters_at at c (Lead by key call own) = refl
enters_at at c (Enter by key call member) = same_calls at call c
enters_at at c (Forget by key closed) = refl
enters_at at c (ForgetCall by key call hit) = refl
enters_at at c (Settle by call result joiners) = refl
enters_at at c (Handed by call) = refl

leads_at : (at a : ℕ) (c : CallId) (e : KeyedEvent) → leads (a * 24 + at) (call_at at c) (event_at at e) ≡ leads a c e
leads_at at a c (Lead by key call own) = ap (λ b. b && same_call (call_at at call) (call_at at c)) (same_number at by a) ∙ ap (λ b. eqb by a && b) (same_calls at call c)
leads_at at a c (Enter by key call member) = refl
leads_at at a c (Forget by key closed) = refl
leads_at at a c (ForgetCall by key call hit) = refl
leads_at at a c (Settle by call result joiners) = refl
leads_at at a c (Handed by call) = refl

settles_at : (at : ℕ) (c : CallId) (e : KeyedEvent) → settles (call_at at c) (event_at at e) ≡ settles c e
settles_at at c (Lead by key call own) = refl
settles_at at c (Enter by key call member) = refl
settles_at at c (Forget by key closed) = refl
settles_at at c (ForgetCall by key call hit) = refl
settles_at at c (Settle by call result joiners) = same_calls at call c
settles_at at c (Handed by call) = refl

hands_at : (at : ℕ) (c : CallId) (e : KeyedEvent) → hands (call_at at c) (event_at at e) ≡ hands c e
hands_at at c (Lead by key call own) = refl
hands_at at c (Enter by key call member) = refl
hands_at at c (Forget by key closed) = refl
hands_at at c (ForgetCall by key call hit) = refl
hands_at at c (Settle by call result joiners) = refl
hands_at at c (Handed by call) = same_calls at call c

-- of a call of a later table it says nothing
names_else : (i at : ℕ) (c : CallId) → i < at → at < 24 → (e : KeyedEvent) → names (call_at at c) (event_at i e) ≡ false
names_else i at c below few (Lead by key call own) = ap (λ b. b || holds_call (own_at i own) (call_at at c)) (other_calls i at call c below few) ∙ holds_else i at own c below few
names_else i at c below few (Enter by key call member) = ap (λ b. b || same_call (call_at i member) (call_at at c)) (other_calls i at call c below few) ∙ other_calls i at member c below few
names_else i at c below few (Forget by key closed) = refl
names_else i at c below few (ForgetCall by key call hit) = refl
names_else i at c below few (Settle by call result joiners) = refl
names_else i at c below few (Handed by call) = refl

enters_else : (i at : ℕ) (c : CallId) → i < at → at < 24 → (e : KeyedEvent) → enters (call_at at c) (event_at i e) ≡ false
enters_else i at c below few (Lead by key call own) = refl
enters_else i at c below few (Enter by key call member) = other_calls i at call c below few
enters_else i at c below few (Forget by key closed) = refl
enters_else i at c below few (ForgetCall by key call hit) = refl
enters_else i at c below few (Settle by call result joiners) = refl
enters_else i at c below few (Handed by call) = refl

leads_else : (i at a : ℕ) (c : CallId) → i < at → at < 24 → (e : KeyedEvent) → leads a (call_at at c) (event_at i e) ≡ false
leads_else i at a c below few (Lead by key call own) = ap (λ b. eqb (by * 24 + i) a && b) (other_calls i at call c below few) ∙ and_false (eqb (by * 24 + i) a)
leads_else i at a c below few (Enter by key call member) = refl
leads_else i at a c below few (Forget by key closed) = refl
leads_else i at a c below few (ForgetCall by key call hit) = refl
leads_else i at a c below few (Settle by call result joiners) = refl
leads_else i at a c below few (Handed by call) = refl

settles_else : (i at : ℕ) (c : CallId) → i < at → at < 24 → (e : KeyedEvent) → settles (call_at at c) (event_at i e) ≡ false
settles_else i at c below few (Lead by key call own) = refl
settles_else i at c below few (Enter by key call member) = refl
settles_else i at c below few (Forget by key closed) = refl
settles_else i at c below few (ForgetCall by key call hit) = refl
settles_else i at c below few (Settle by call result joiners) = other_calls i at call c below few
settles_else i at c below few (Handed by call) = refl

hands_else : (i at : ℕ) (c : CallId) → i < at → at < 24 → (e : KeyedEvent) → hands (call_at at c) (event_at i e) ≡ false
hands_else i at c below few (Lead by key call own) = refl
hands_else i at c below few (Enter by key call member) = refl
hands_else i at c below few (Forget by key closed) = refl
hands_else i at c below few (ForgetCall by key call hit) = refl
hands_else i at c below few (Settle by call result joiners) = refl
hands_else i at c below few (Handed by call) = other_calls i at call c below few

-- the same of lists of events
any_map : {X Y : Type 0} (f : X → Y) (p : Y → Bool) (q : X → Bool) → ((x : X) → p (f x) ≡ q x) → (l : List X) → list_any p (map f l) ≡ list_any q l
any_map f p q same [] = refl
any_map f p q same (x ∷ l) = ap (λ b. b || list_any p (map f l)) (same x) ∙ ap (λ b. q x || b) (any_map f p q same l)

any_none : {X Y : Type 0} (f : X → Y) (p : Y → Bool) → ((x : X) → p (f x) ≡ false) → (l : List X) → list_any p (map f l) ≡ false
any_none f p none [] = refl
any_none f p none (x ∷ l) = ap (λ b. b || list_any p (map f l)) (none x) ∙ any_none f p none l

counts_map : {X Y : Type 0} (f : X → Y) (p : Y → Bool) (q : X → Bool) → ((x : X) → p (f x) ≡ q x) → (n : ℕ) (l : List X) → fold (λ a y. a + cond {A = ℕ} (p y) 1 0) n (map f l) ≡ fold (λ a y. a + cond {A = ℕ} (q y) 1 0) n l
counts_map f p q same n [] = refl
counts_map f p q same n (x ∷ l) = ap (λ b. fold (λ a y. a + cond {A = ℕ} (p y) 1 0) (n + cond {A = ℕ} b 1 0) (map f l)) (same x) ∙ counts_map f p q same (n + cond {A = ℕ} (q x) 1 0) l

count_map : {X Y : Type 0} (f : X → Y) (p : Y → Bool) (q : X → Bool) → ((x : X) → p (f x) ≡ q x) → (l : List X) → count_by p (map f l) ≡ count_by q l
count_map f p q same l = counts_map f p q same 0 l

counts_false : {X : Type 0} (n : ℕ) (l : List X) → fold (λ a y. a + cond {A = ℕ} false 1 0) n l ≡ n
counts_false n [] = refl
counts_false n (x ∷ l) = counts_false (n + 0) l ∙ omega arith

count_none : {X Y : Type 0} (f : X → Y) (p : Y → Bool) → ((x : X) → p (f x) ≡ false) → (l : List X) → count_by p (map f l) ≡ 0
count_none f p none l = counts_map f p (λ x. false) none 0 l ∙ counts_false 0 l

count_append : {X : Type 0} (p : X → Bool) (xs ys : List X) → count_by p (xs ++ ys) ≡ count_by p xs + count_by p ys
count_append p xs ys = sum_by-append (λ x. cond {A = ℕ} (p x) 1 0) xs ys

behind_none : (a b n : ℕ) → a ≡ 0 → b ≡ n → a + b ≡ n
behind_none a b n none same = omega (arith, none, same)

none_before : (at : ℕ) (p : KeyedEvent → Bool) (sights : List Sight) → ((i : ℕ) → i < at → (e : KeyedEvent) → p (event_at i e) ≡ false) → list_any p (history_to at sights) ≡ false
none_before zero p sights none = refl
none_before (suc at) p sights none =
    let more : List KeyedEvent = map (event_at at) (seen_in (slice_get sights at)) in
    list_any-append p (history_to at sights) more ∙ (ap (λ b. b || list_any p more) (none_before at p sights (λ i below. none i (omega (arith, below)))) ∙ any_none (event_at at) p (none at (omega arith)) (seen_in (slice_get sights at)))

count_before : (at : ℕ) (p : KeyedEvent → Bool) (sights : List Sight) → ((i : ℕ) → i < at → (e : KeyedEvent) → p (event_at i e) ≡ false) → count_by p (history_to at sights) ≡ 0
count_before zero p sights none = refl
count_before (suc at) p sights none =
    let more : List KeyedEvent = map (event_at at) (seen_in (slice_get sights at)) in
    count_append p (history_to at sights) more ∙ behind_none _ _ 0 (count_before at p sights (λ i below. none i (omega (arith, below)))) (count_none (event_at at) p (none at (omega arith)) (seen_in (slice_get sights at)))

-- a name's open call behind a history at whose end it has none
cond_at : (at : ℕ) (b : Bool) (p o : Option CallId) → cond b (own_at at p) (own_at at o) ≡ own_at at (cond b p o)
cond_at at true p o = refl
cond_at at false p o = refl

opens_at : (at k : ℕ) (o : Option CallId) (e : KeyedEvent) → opens nat_eq k (own_at at o) (event_at at e) ≡ own_at at (opens nat_eq k o e)
opens_at at k o (Lead by key call own) = cond_at at (nat_eq key k) (Some call) o
opens_at at k o (Enter by key call member) = refl
opens_at at k o (Forget by key closed) = cond_at at (nat_eq key k) None o
opens_at at k o (ForgetCall by key call hit) = cond_at at (nat_eq key k && has_closed hit) None o
opens_at at k o (Settle by call result joiners) = ap (λ b. cond b None (own_at at o)) (holds_at at o call) ∙ cond_at at (holds_call o call) None o
opens_at at k o (Handed by call) = refl

folds_at : (at k : ℕ) (l : List KeyedEvent) (o : Option CallId) → fold (opens nat_eq k) (own_at at o) (map (event_at at) l) ≡ own_at at (fold (opens nat_eq k) o l)
folds_at at k [] o = refl
folds_at at k (e ∷ l) o = ap (λ x. fold (opens nat_eq k) x (map (event_at at) l)) (opens_at at k o e) ∙ folds_at at k l (opens nat_eq k o e)

open_behind : (at k : ℕ) (h l : List KeyedEvent) → open_call nat_eq h k ≡ None → open_call nat_eq (h ++ map (event_at at) l) k ≡ own_at at (open_call nat_eq l k)
open_behind at k h l none = fold-append (opens nat_eq k) None h (map (event_at at) l) ∙ (ap (λ o. fold (opens nat_eq k) o (map (event_at at) l)) none ∙ folds_at at k l None)

-- a history behind which one of this table may stand: it names no call of that table, and the name has no open call at its end
record MayStand (k at : ℕ) (h : List KeyedEvent) : Type 0 where
  legal : IsLegalOf k h
  idle : open_call nat_eq h k ≡ None
  unnamed : (c : CallId) → list_any (names (call_at at c)) h ≡ false
  unled : (a : ℕ) (c : CallId) → list_any (leads a (call_at at c)) h ≡ false
  unsettled : (c : CallId) → list_any (settles (call_at at c)) h ≡ false
  unhanded : (c : CallId) → list_any (hands (call_at at c)) h ≡ false
  unjoined : (c : CallId) → count_by (enters (call_at at c)) h ≡ 0

behind : (at : ℕ) (h l : List KeyedEvent) (p q : KeyedEvent → Bool) → list_any p h ≡ false → ((e : KeyedEvent) → p (event_at at e) ≡ q e) → list_any p (h ++ map (event_at at) l) ≡ list_any q l
behind at h l p q none same = list_any-append p h (map (event_at at) l) ∙ (ap (λ b. b || list_any p (map (event_at at) l)) none ∙ any_map (event_at at) p q same l)

counts_behind : (at : ℕ) (h l : List KeyedEvent) (p q : KeyedEvent → Bool) → count_by p h ≡ 0 → ((e : KeyedEvent) → p (event_at at e) ≡ q e) → count_by p (h ++ map (event_at at) l) ≡ count_by q l
counts_behind at h l p q none same = count_append p h (map (event_at at) l) ∙ behind_none _ _ _ none (count_map (event_at at) p q same l)

opened_behind : (k at : ℕ) (h l : List KeyedEvent) (m : MayStand k at h) (key : ℕ) (o : Option CallId) → key ≡ k → open_call nat_eq l key ≡ o → open_call nat_eq (h ++ map (event_at at) l) key ≡ own_at at o
opened_behind k at h l m key o is was =
    ap (open_call nat_eq (h ++ map (event_at at) l)) is ∙ (open_behind at k h l m.idle ∙ ap (own_at at) (ap (open_call nat_eq l) (sym is) ∙ was))

new_behind : (k at : ℕ) (h l : List KeyedEvent) (m : MayStand k at h) (c : CallId) → IsNew l c → IsNew (h ++ map (event_at at) l) (call_at at c)
new_behind k at h l m c new = behind at h l (names (call_at at c)) (names c) (m.unnamed c) (names_at at c) ∙ new

apart_at : (at : ℕ) (c d : CallId) → c ≢ d → call_at at c ≢ call_at at d
apart_at at c d apart same =
    let callers : c.caller * 24 + at ≡ d.caller * 24 + at = ap (λ (e : CallId). e.caller) same in
    let caller : c.caller ≡ d.caller = omega (arith, callers) in
    let generation : c.generation ≡ d.generation = ap (λ (e : CallId). e.generation) same in
    apart (λ i. record { caller = caller i; generation = generation i })

own_behind : (k at : ℕ) (h l : List KeyedEvent) (m : MayStand k at h) (call : CallId) (own : Option CallId) → IfSome own (λ c. IsNew l c × (c ≢ call)) → IfSome (own_at at own) (λ c. IsNew (h ++ map (event_at at) l) c × (c ≢ call_at at call))
own_behind k at h l m call None is = is
own_behind k at h l m call (Some c) is = (new_behind k at h l m c is.0, apart_at at c call is.1)

-- what followed in its table may follow behind the tables before
follows_behind : (k at : ℕ) (h l : List KeyedEvent) (m : MayStand k at h) (e : KeyedEvent) → MayFollow nat_eq l e → IsOf k (event_at at e) → MayFollow nat_eq (h ++ map (event_at at) l) (event_at at e)
follows_behind k at h l m (Lead by key call own) f is = (ap (λ n. n * 24 + at) f.0, new_behind k at h l m call f.1, own_behind k at h l m call own f.2, opened_behind k at h l m key None is f.3)
follows_behind k at h l m (Enter by key call member) f is = (ap (λ n. n * 24 + at) f.0, new_behind k at h l m member f.1, opened_behind k at h l m key (Some call) is f.2)
follows_behind k at h l m (Forget by key closed) f is = sym (opened_behind k at h l m key closed is (sym f))
follows_behind k at h l m (ForgetCall by key call hit) f is = absurd is
follows_behind k at h l m (Settle by call result joiners) f is = (
  behind at h l (leads (by * 24 + at) (call_at at call)) (leads by call) (m.unled (by * 24 + at) call) (leads_at at by call) ∙ f.0,
  behind at h l (settles (call_at at call)) (settles call) (m.unsettled call) (settles_at at call) ∙ f.1,
  f.2 ∙ sym (counts_behind at h l (enters (call_at at call)) (enters call) (m.unjoined call) (enters_at at call)),
)
follows_behind k at h l m (Handed by call) f is = (
  behind at h l (leads (by * 24 + at) (call_at at call)) (leads by call) (m.unled (by * 24 + at) call) (leads_at at by call) ∙ f.0,
  behind at h l (settles (call_at at call)) (settles call) (m.unsettled call) (settles_at at call) ∙ f.1,
  behind at h l (hands (call_at at call)) (hands call) (m.unhanded call) (hands_at at call) ∙ f.2,
)

legal_of_push : (k : ℕ) (h : List KeyedEvent) (e : KeyedEvent) → IsLegalOf k h → (IsOf k e → MayFollow nat_eq h e) → IsLegalOf k (h ++ e ∷ [])
legal_of_push k h e legal follows p q x stands is =
    elim (push_split h p q e x stands) [
      | inl w ↦ subst (λ (z : KeyedEvent). MayFollow nat_eq p z) (sym w.1) (subst (λ (z : List KeyedEvent). MayFollow nat_eq z e) (sym w.0) (follows (subst (IsOf k) w.1 is)))
      | inr w ↦ legal p w.0 x w.1 is
    ]

legal_of_nil : (k : ℕ) → IsLegalOf k []
legal_of_nil k [] q x stands is = cc
legal_of_nil k (a ∷ p) q x stands is = cc

legal_behind : (k at : ℕ) (h : List KeyedEvent) → MayStand k at h → (l : List KeyedEvent) → IsLegal nat_eq l → IsLegalOf k (h ++ map (event_at at) l)
legal_behind k at h m = by_push (λ (l : List KeyedEvent). IsLegal nat_eq l → IsLegalOf k (h ++ map (event_at at) l)) (λ legal. subst (IsLegalOf k) (sym (append-nil h)) m.legal) step
  where
    step : (l : List KeyedEvent) (e : KeyedEvent) → (IsLegal nat_eq l → IsLegalOf k (h ++ map (event_at at) l)) → IsLegal nat_eq (l ++ e ∷ []) → IsLegalOf k (h ++ map (event_at at) (l ++ e ∷ []))
    step l e before legal =
        let whole : h ++ map (event_at at) (l ++ e ∷ []) ≡ (h ++ map (event_at at) l) ++ event_at at e ∷ [] = ap (λ x. h ++ x) (map-append (event_at at) l (e ∷ [])) ∙ sym (append_assoc h (map (event_at at) l) (event_at at e ∷ [])) in
        subst (IsLegalOf k) (sym whole) (legal_of_push k (h ++ map (event_at at) l) (event_at at e) (before (legal_front nat_eq l e legal)) (follows_behind k at h l m e (legal_last nat_eq l e legal)))

may_stand : (k at : ℕ) (sights : List Sight) → at < 24 → IsLegalOf k (history_to at sights) × (open_call nat_eq (history_to at sights) k ≡ None) → MayStand k at (history_to at sights)
may_stand k at sights few before = record {
  legal = before.0;
  idle = before.1;
  unnamed = λ c. none_before at (names (call_at at c)) sights (λ i below. names_else i at c below few);
  unled = λ a c. none_before at (leads a (call_at at c)) sights (λ i below. leads_else i at a c below few);
  unsettled = λ c. none_before at (settles (call_at at c)) sights (λ i below. settles_else i at c below few);
  unhanded = λ c. none_before at (hands (call_at at c)) sights (λ i below. hands_else i at c below few);
  unjoined = λ c. count_before at (enters (call_at at c)) sights (λ i below. enters_else i at c below few);
}

-- over tables in which the name is gone its history is legal, and has no open call at its end
gone_history : (k at : ℕ) (sights : List Sight) → at ≤ 24 → IsGoneBefore k at sights → IsLegalOf k (history_to at sights) × (open_call nat_eq (history_to at sights) k ≡ None)
gone_history k zero sights few gone = (legal_of_nil k, refl)
gone_history k (suc at) sights few gone =
    let before = gone_history k at sights (omega (arith, few)) (λ i below. gone i (omega (arith, below))) in
    let m = may_stand k at sights (omega (arith, few)) before in
    let g = gone at (omega arith) in
    let seen : seen_in (slice_get sights at) ≡ g.sight.front.seen = ap seen_in g.here in (
      legal_behind k at (history_to at sights) m (seen_in (slice_get sights at)) (subst (IsLegal nat_eq) (sym seen) g.gone.legal),
      open_behind at k (history_to at sights) (seen_in (slice_get sights at)) before.1 ∙ ap (own_at at) (ap (λ h. open_call nat_eq h k) seen ∙ g.gone.none),
    )

-- and so it goes on in the table behind them
one_history : (k at : ℕ) (sights : List Sight) (s : Sight) (o : Option CallId) → length sights ≤ 24 → slice_get sights at ≡ Some s → IsGoneBefore k at sights → IsLegal nat_eq s.front.seen → open_call nat_eq s.front.seen k ≡ o → IsOneHistory k at (own_at at o) sights
one_history k at sights s o few here gone legal opened =
    let within = slice_get_within sights at s here in
    let before = gone_history k at sights (omega (arith, few, within)) gone in
    let m = may_stand k at sights (omega (arith, few, within)) before in
    let seen : seen_in (slice_get sights at) ≡ s.front.seen = ap seen_in here in
    record {
      legal = legal_behind k at (history_to at sights) m (seen_in (slice_get sights at)) (subst (IsLegal nat_eq) (sym seen) legal);
      opened_is = open_behind at k (history_to at sights) (seen_in (slice_get sights at)) before.1 ∙ ap (own_at at) (ap (λ h. open_call nat_eq h k) seen ∙ opened);
    }

pub calls_stand_in_one_history : CallsStandInOneHistory
calls_stand_in_one_history cells k old new few = (
  λ f p l. one_history k f.table new l.led.after (Some (call_of f.call.call)) few l.led.at_after l.gone l.led.is.0.legal (leads_the_new_call cells k f p old new l).2,
  λ t j.
      let adds = j.joined.is.0.adds in
      let past : List KeyedEvent = j.joined.before.front.seen ++ adds.others in
      let x : KeyedEvent = Enter j.joined.is.0.member.caller k (call_of t.call.call) j.joined.is.0.member in
      one_history k t.table new j.joined.after (Some (call_of t.call.call)) few j.joined.at_after j.gone adds.legal
      (ap (λ h. open_call nat_eq h k) adds.seen ∙ (fold_push (opens nat_eq k) None past x ∙ enters_the_open_call cells k t old new j)),
  λ at call c.
      let adds = c.closed.is.0 in
      let past : List KeyedEvent = c.closed.before.front.seen ++ adds.others in
      let x : KeyedEvent = Forget c.closed.before.front.number k (Some (call_of call)) in
      one_history k at new c.closed.after None few c.closed.at_after c.gone adds.legal
      (ap (λ h. open_call nat_eq h k) adds.seen ∙ (fold_push (opens nat_eq k) None past x ∙ ap (λ b. cond b None (open_call nat_eq past k)) (eq-eqb k k refl))),
  λ at i. one_history k at new i.idle.after None few i.idle.at_after i.gone i.idle.is.0.legal i.idle.is.1,
)
