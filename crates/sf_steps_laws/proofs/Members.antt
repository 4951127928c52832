-- the list of a call's members that its words and next words hold
use Rattle.std.proofs.Common.{◌≡◌, ℕ, zero, suc, ◌≤◌, List, [], ◌∷◌, ◌++◌, length, Option, Some, None, refl, sym, ap, subst, arith}
use Rattle.sf_history.specs.declared.call.CallId.{CallId}
use Rattle.sf_history.proofs.Members.{Each, IsApart, Apart}
use Rattle.sf_steps_laws.specs.World.{count}

pub each_both : (P Q R : CallId → Type 0) → ((m : CallId) → P m → Q m → R m) → (l : List CallId) → Each P l → Each Q l → Each R l
each_both P Q R f [] p q = tt
each_both P Q R f (m ∷ l) p q = (f m p.0 q.0, each_both P Q R f l p.1 q.1)

pub each_after : (P : CallId → Type 0) (p q : List CallId) → Each P (p ++ q) → Each P q
each_after P [] q is = is
each_after P (m ∷ p) q is = each_after P p q is.1

-- who waits for a call: its own channel, and these members
abbrev pub line : Option CallId → List CallId → List CallId
line None l = l
line (Some o) l = o ∷ l

pub line_members : (P : CallId → Type 0) (own : Option CallId) (l : List CallId) → Each P (line own l) → Each P l
line_members P None l is = is
line_members P (Some o) l is = is.1

pub line_head : (P : CallId → Type 0) (own : Option CallId) (m : CallId) (l : List CallId) → Each P (line own (m ∷ l)) → P m
line_head P None m l is = is.0
line_head P (Some o) m l is = is.1.0

pub line_tail : (P : CallId → Type 0) (own : Option CallId) (m : CallId) (l : List CallId) → Each P (line own (m ∷ l)) → Each P (line own l)
line_tail P None m l is = is.1
line_tail P (Some o) m l is = (is.0, is.1.1)

pub line_push : (P : CallId → Type 0) (own : Option CallId) (m : CallId) (l : List CallId) → P m → Each P (line own l) → Each P (line own (m ∷ l))
line_push P None m l new is = (new, is)
line_push P (Some o) m l new is = (is.0, (new, is.1))

-- those who come after some of the members
pub line_after : (P : CallId → Type 0) (own : Option CallId) (p q : List CallId) → Each P (line own (p ++ q)) → Each P (line own q)
line_after P None p q is = each_after P p q is
line_after P (Some o) p q is = (is.0, each_after P p q is.1)

pub line_apart : (own : Option CallId) (l : List CallId) → Apart (line own l) → Apart l
line_apart None l is = is
line_apart (Some o) l is = is.1

pub apart_tail : (own : Option CallId) (m : CallId) (l : List CallId) → Apart (line own (m ∷ l)) → Apart (line own l)
apart_tail None m l is = is.1
apart_tail (Some o) m l is = (is.0.1, is.1.1)

pub apart_head : (own : Option CallId) (m : CallId) (l : List CallId) → Apart (line own (m ∷ l)) → Each (IsApart m) (line own l)
apart_head None m l is = is.0
apart_head (Some o) m l is = (λ (e : o.caller ≡ m.caller). is.0.0 (sym e), is.1.0)

pub apart_push : (own : Option CallId) (m : CallId) (l : List CallId) → Each (IsApart m) (line own l) → Apart (line own l) → Apart (line own (m ∷ l))
apart_push None m l others is = (others, is)
apart_push (Some o) m l others is = ((λ (e : m.caller ≡ o.caller). others.0 (sym e), is.0), (others.1, is.1))

-- the words hold the list: the first word names its first caller, and each caller's next word names the next one
abbrev pub Chain : (ℕ → Option ℕ) → Option ℕ → List CallId → Type 0
Chain nexts None [] = Unit {0}
Chain nexts None (m ∷ l) = ⊥
Chain nexts (Some x) [] = ⊥
Chain nexts (Some x) (m ∷ l) = (x ≡ m.caller) × Chain nexts (nexts m.caller) l

pub chain_kept : (f g : ℕ → Option ℕ) (l : List CallId) (top : Option ℕ) → Each (λ m. g m.caller ≡ f m.caller) l → Chain f top l → Chain g top l
chain_kept f g [] None same chain = tt
chain_kept f g [] (Some x) same chain = absurd chain
chain_kept f g (m ∷ l) None same chain = absurd chain
chain_kept f g (m ∷ l) (Some x) same chain = (chain.0, subst (λ (t : Option ℕ). Chain g t l) (sym same.0) (chain_kept f g l (f m.caller) same.1 chain.1))

-- a walk over next words counts the list that they hold, if it may go so far
pub chain_count : (f : ℕ → Option ℕ) (l : List CallId) (top : Option ℕ) (most : ℕ) → Chain f top l → length l ≤ most → count top most f ≡ length l
chain_count f [] None most chain few = refl
chain_count f [] (Some x) most chain few = absurd chain
chain_count f (m ∷ l) None most chain few = absurd chain
chain_count f (m ∷ l) (Some x) zero chain few = absurd (omega (arith, few))
chain_count f (m ∷ l) (Some x) (suc most) chain few =
    let rest : count (f m.caller) most f ≡ length l = chain_count f l (f m.caller) most chain.1 (omega (arith, few)) in
    let same : count (f x) most f ≡ count (f m.caller) most f = ap (λ (y : ℕ). count (f y) most f) chain.0 in
    omega (arith, rest, same)
