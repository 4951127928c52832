-- What was added after something was heard, and what is open.
use Rattle.std.proofs.Common.{◌≡◌, ℕ, ◌++◌, Bool, true, false, List, Option, Some, None, sym, ◌∙◌, ap, append_assoc}
use Rattle.std.proofs.lemmas.Bool.{true≢false}
use Rattle.std.specs.Prelude.{nat_eq}
use Rattle.sf_history.specs.declared.call.CallId.{CallId}
use Rattle.sf_history.specs.History.{open_call}
use Rattle.sf_history.specs.Legal.{IsLegal}
use Rattle.sf_keyed_words.specs.declared.rule.Gone.{Gone}
use Rattle.sf_keyed_words.specs.declared.rule.KeyedSizes.{KeyedSizes}
use Rattle.sf_keyed_words.specs.Rule.{is_gone}
use Rattle.sf_keyed_tells.proofs.Telling.{call_number}
use Rattle.sf_keyed.specs.Known.{FrontState, IsGone}
use Rattle.sf_keyed_tells.specs.Tells.{KeyedEvent, call_of}

pub joint : (a more b x w1 w2 : List KeyedEvent) → w1 ≡ a ++ more → w2 ≡ (w1 ++ b) ++ x → w2 ≡ (a ++ (more ++ b)) ++ x
joint a more b x w1 w2 p q = q ∙ ap (λ l. l ++ x) (ap (λ l. l ++ b) p ∙ append_assoc a more b)

-- what is gone in a list is so still
pub gone_on : (z y : KeyedSizes) (l m : List Gone) → y ≡ z → m ≡ l → (k : ℕ) → is_gone z l k ≡ true → is_gone y m k ≡ true
gone_on z y l m sizes same k is = ap (λ x. is_gone x m k) sizes ∙ (ap (λ x. is_gone z x k) same ∙ is)

-- and what is gone for a caller, where it is so in the list, and has no open call in what was seen
pub still_gone : (b a : FrontState) → ((k : ℕ) → is_gone b.group.sizes b.gone k ≡ true → is_gone a.group.sizes a.gone k ≡ true) → ((k : ℕ) → is_gone a.group.sizes a.gone k ≡ true → open_call nat_eq a.seen k ≡ None) → IsLegal nat_eq a.seen
    → (k : ℕ) → IsGone b k → IsGone a k
still_gone b a on none legal k is = let known = on k is.known in record { known = known; none = none k known; legal = legal }

pub two_parts : (a more b w1 w2 : List KeyedEvent) → w1 ≡ a ++ more → w2 ≡ w1 ++ b → w2 ≡ a ++ (more ++ b)
two_parts a more b w1 w2 p q = q ∙ (ap (λ l. l ++ b) p ∙ append_assoc a more b)

abbrev call_in : Option CallId → CallId
call_in (Some c) = c
call_in None = record { caller = 0; generation = 0 }

abbrev is_there : Option CallId → Bool
is_there (Some c) = true
is_there None = false

-- what is open is not this call
pub not_open : (o : Option CallId) (e : ℕ) → o ≡ None → o ≡ Some (call_of e) → ⊥
not_open o e none is = true≢false (ap is_there (sym is ∙ none))

pub other_open : (o : Option CallId) (d e : ℕ) → o ≡ Some (call_of d) → (d ≡ e → ⊥) → o ≡ Some (call_of e) → ⊥
other_open o d e there apart is = apart (call_number d e (ap call_in (sym there ∙ is)))
